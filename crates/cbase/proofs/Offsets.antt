-- The search for a field, one behind the other.
use Rattle.std.proofs.Common.{◌≡◌, ℕ, ◌+◌, ◌<◌, length, drop, get_or, List, refl}
use Rattle.std.specs.Prelude.{Bool as BoolValue, false}
use Rattle.std.specs.List.{position_from}
use Rattle.cbase.specs.declared.structs.Field.{Field}
use Rattle.cbase.proofs.Fields.{drop-field}

-- a field of another name is not the first of that name
pub position_further : (test : Field → BoolValue) (fields : List Field) (index : ℕ) (field : Field) → index < length fields → field ≡ get_or fields index field
    → test field ≡ false → position_from test index (drop index fields) ≡ position_from test (index + 1) (drop (index + 1) fields)
position_further test fields index field within is other = rw (drop-field fields index field within is, other) refl
