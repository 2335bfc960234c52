-- Conversions without a cast (C11 6.5.16.1, 6.3.2.3), and casts (6.5.4).
use Rattle.std.specs.Prelude.{Bool, true, false, ◌||◌, nat_eq, if◌then◌else◌}
use Rattle.cbase.specs.declared.ctype.CType.{CType}
use Rattle.typing.specs.declared.ctypes.found.Broken.TheVariants.{Construct, Rule}
use Rattle.typing.specs.ctypes.Broken.{Judgement, Typed, Breaks}
use Rattle.typing.specs.ctypes.Kinds.{Kind, Integer, Pointer, Struct, Void}

-- whether a value converts without a cast: an integer to an integer, an object pointer to an object pointer, an integer constant
-- expression 0 to a pointer, a pointer to `_Bool`, a struct to the same struct
abbrev pub converts : Kind → Kind → Bool → Bool
converts (Integer to) (Integer from) null = true
converts (Integer to) (Pointer item target) null = to.truth
converts (Pointer item target) (Pointer other other_target) null = true
converts (Pointer item target) (Integer from) null = null
converts (Struct to) (Struct from) null = nat_eq to from
converts to from null = false

-- what a cast asks: no struct and no array is cast to, and no struct is cast; a `void` expression only to `void`. Of casts
-- between pointers and integers there are those of an integer constant expression 0, to `_Bool`, and the one of the offsetof
-- idiom; others are given up
abbrev pub cast : Kind → CType → Kind → Bool → Bool → Judgement
cast Void t (Struct from) null idiom = Breaks (Rule 4)
cast Void t from null idiom = Typed t
cast (Integer to) t (Integer from) null idiom = Typed t
cast (Integer to) t (Pointer item target) null idiom = if to.truth || idiom then Typed t else Breaks (Construct 15)
cast (Pointer item target) t (Pointer other other_target) null idiom = Typed t
cast (Pointer item target) t (Integer from) null idiom = if null then Typed t else Breaks (Construct 15)
cast to t from null idiom = Breaks (Rule 4)
