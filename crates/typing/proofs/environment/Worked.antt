-- The rows of the functions that are built in hold: what is found under each name is computed.
use Rattle.std.proofs.Common.{◌≡◌, List, [], ◌∷◌, refl, subst}
use Rattle.std.specs.Prelude.{map}
use Rattle.std.specs.List.{AllByRecursion}
use Rattle.cbase.specs.declared.abi.Abi.TheVariants.{Lp64, Llp64}
use Rattle.typing.specs.environment.Names.{value_in}
use Rattle.typing.specs.environment.BuiltIns.{built_ins}
use Rattle.typing.specs.environment.BuiltInRows.{Row, IsRight, rows, other_rows, AreBuiltIn}

-- a row with what is found
answered : Row → Row
answered row = record { name = row.name; lp64 = value_in row.name (built_ins Lp64); llp64 = value_in row.name (built_ins Llp64) }

right : (table : List Row) → map answered table ≡ table → AllByRecursion IsRight table
unfolding answered
right [] same = tt
right (row ∷ table) same =
    let first : answered row ≡ row = cc same in
    let others : map answered table ≡ table = cc same in
    (subst IsRight first (refl, refl), right table others)

pub built_in_rows : AreBuiltIn
unfolding answered
built_in_rows = record {
  right = right rows refl;
  other = right other_rows refl;
  lp64 = refl;
  llp64 = refl;
}
