-- What a cast asks of the kind of its type (C11 6.3.2.3).
use Rattle.std.specs.Prelude.{Bool, true, false}
use Rattle.typing.specs.declared.ctypes.kind.Target.TheVariants.{Void as VoidTarget}
use Rattle.typing.specs.ctypes.Kinds.{Kind, Pointer}

abbrev pub is_pointer : Kind → Bool
is_pointer (Pointer item target) = true
is_pointer kind = false

-- a pointer to `void`
abbrev pub is_void_pointer : Kind → Bool
is_void_pointer (Pointer item VoidTarget) = true
is_void_pointer kind = false
