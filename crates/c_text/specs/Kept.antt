-- Types whose sizes are kept: none of more than 65,536 bytes, and integers that the data layouts have. Objects and stores of such types.
use Rattle.std.specs.Prelude.{◌≡◌, ℕ, Bool, List, [], ◌∷◌, ◌++◌, Option, None, Some, option_map, nat_le, if◌then◌else◌}
use Rattle.std.specs.List.{list_all}
use Rattle.cbase.specs.declared.measure.Extent.{Extent}
use Rattle.cbase.specs.declared.measure.Extent.TheVariants.{Bytes, Incomplete, TooLarge}
use Rattle.typing.specs.Idiom.{at_most}
use Rattle.typing.specs.values.Values.{whole_in}
use Rattle.c_machine.specs.declared.kind.Kind.{Kind}
use Rattle.c_machine.specs.declared.kind.Kind.TheVariants.{Integer, Pointer, Array, Struct, Void}
use Rattle.c_machine.specs.declared.object.Object.{Object}
use Rattle.c_machine.specs.Text.{Store as Stored}
use Rattle.c_text.specs.declared.store.Store.{Store}

abbrev pub kept : Kind → Option Kind
kept (Integer of) = option_map Integer (whole_in (Some of))
kept (Pointer bytes) = option_map Pointer (at_most bytes)
kept (Array bytes) = option_map Array (at_most bytes)
kept (Struct bytes) = option_map Struct (at_most bytes)
kept Void = Some Void

-- a size that is told, as a number of bytes; an incomplete type has none
abbrev pub bytes_told : Extent → Option ℕ
bytes_told (Bytes count) = Some count
bytes_told Incomplete = Some 0
bytes_told TooLarge = None

-- an object whose size is kept
abbrev pub is_sized : Object → Bool
is_sized object = nat_le object.bytes 65536

abbrev pub sized : Object → Option Object
sized object = if is_sized object then Some object else None

-- an object, if there is one, and objects, where each size is kept
abbrev pub kept_object : Option Object → Option (Option Object)
kept_object None = Some None
kept_object (Some object) = option_map Some (sized object)

abbrev pub kept_objects : List Object → Option (List Object)
kept_objects objects = if list_all is_sized objects then Some objects else None

-- the same, told object by object
abbrev pub all_there : List (Option Object) → Option (List Object)
all_there [] = Some []
all_there (None ∷ rest) = None
all_there (Some object ∷ rest) = option_map (λ objects. object ∷ objects) (all_there rest)

-- objects are pushed behind others, where the size of each is kept
abbrev pub IsPushed : List Object → List (Option Object) → Bool → List Object → Type 0
IsPushed before objects whole after = option_map (λ more. before ++ more) (all_there objects) ≡ (if whole then Some after else None)

-- what a value of an initialiser sets, if it sets anything, where its type is kept
abbrev pub kept_store : Option Stored → Option (Option Store)
kept_store None = Some None
kept_store (Some store) = option_map (λ kind. Some (record { offset = store.offset; kind = kind })) (kept store.kind)
