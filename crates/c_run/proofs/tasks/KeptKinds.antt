-- Types that are kept.
use Rattle.std.proofs.Common.{◌≡◌, ℕ, Bool, true, false, Option, None, Some, option_map, refl, if◌then◌else◌}
use Rattle.std.specs.Prelude.{nat_le}
use Rattle.typing.specs.declared.ctypes.kind.IntegerType.{IntegerType}
use Rattle.typing.specs.Idiom.{at_most}
use Rattle.typing.specs.values.Values.{is_whole, whole_in}
use Rattle.c_machine.specs.declared.kind.Kind.{Kind}
use Rattle.c_machine.specs.declared.kind.Kind.TheVariants.{Integer, Pointer, Array, Struct, Void}
use Rattle.c_machine.specs.Words.{decayed}
use Rattle.c_text.specs.Kept.{kept}

-- what is kept of a type is that type
bytes_of : (made : ℕ → Kind) (bytes : ℕ) (fits : Bool) (kind : Kind) → Some kind ≡ option_map made (if fits then Some bytes else None) → made bytes ≡ kind
bytes_of made bytes true kind is = cc
bytes_of made bytes false kind is = absurd cc

integer_of : (of : IntegerType) (fits : Bool) (kind : Kind) → Some kind ≡ option_map Integer (if fits then Some of else None) → Integer of ≡ kind
integer_of of true kind is = cc
integer_of of false kind is = absurd cc

pub is_kept : (own kind : Kind) → Some kind ≡ kept own → own ≡ kind
is_kept (Integer of) kind is = integer_of of (is_whole of) kind is
is_kept (Pointer bytes) kind is = bytes_of Pointer bytes (nat_le bytes 65536) kind is
is_kept (Array bytes) kind is = bytes_of Array bytes (nat_le bytes 65536) kind is
is_kept (Struct bytes) kind is = bytes_of Struct bytes (nat_le bytes 65536) kind is
is_kept Void kind is = cc

-- an array is kept as the pointer that it becomes
integer_decays : (of : IntegerType) (found : Option IntegerType) → option_map decayed (option_map Integer found) ≡ option_map Integer found
integer_decays of None = refl
integer_decays of (Some found) = refl

pointer_decays : (found : Option ℕ) → option_map decayed (option_map Pointer found) ≡ option_map Pointer found
pointer_decays None = refl
pointer_decays (Some found) = refl

array_decays : (found : Option ℕ) → option_map decayed (option_map Array found) ≡ option_map Pointer found
array_decays None = refl
array_decays (Some found) = refl

struct_decays : (found : Option ℕ) → option_map decayed (option_map Struct found) ≡ option_map Struct found
struct_decays None = refl
struct_decays (Some found) = refl

pub kept_decays : (own : Kind) → option_map decayed (kept own) ≡ kept (decayed own)
kept_decays (Integer of) = integer_decays of (whole_in (Some of))
kept_decays (Pointer bytes) = pointer_decays (at_most bytes)
kept_decays (Array bytes) = array_decays (at_most bytes)
kept_decays (Struct bytes) = struct_decays (at_most bytes)
kept_decays Void = refl
