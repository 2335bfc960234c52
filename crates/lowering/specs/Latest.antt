-- The scalars that were found, and those that are kept of them.
use Rattle.std.specs.Prelude.{◌≡◌, Bool, ◌&&◌, List, nat_eq, reverse}
use Rattle.std.specs.List.{list_any}
use Rattle.flow.specs.declared.flow_graph.Initial.{Initial}
use Rattle.lowering.specs.declared.latest.ScalarKey.{ScalarKey}
use Rattle.lowering.specs.Initials.{is_same_scalar, latest}

abbrev pub key_of : Initial → ScalarKey
key_of one = record { variable = one.variable; at = one.at; size = one.size }

abbrev pub is_scalar : Initial → ScalarKey → Bool
is_scalar one key = nat_eq one.variable key.variable && (nat_eq one.at key.at && nat_eq one.size key.size)

-- of the scalars behind a place, the last one first
pub record AreLatest (rest : List Initial) (kept : List Initial) (keys : List ScalarKey) : Type 0 where
  pub list : reverse kept ≡ latest rest
  pub found : (one : Initial) → list_any (is_scalar one) keys ≡ list_any (is_same_scalar one) rest
