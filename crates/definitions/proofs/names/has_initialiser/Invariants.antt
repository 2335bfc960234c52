use Rattle.std.proofs.Common.{◌≡◌, ◌≤◌, drop}
use Rattle.definitions.specs.Defined.{has_initialiser}
use Rattle.definitions.proofs.names.has_initialiser.Given as goal

abbrev pub invariant-loop-sign : goal.invariant-loop-sign
invariant-loop-sign l = record {
  few : l.depth ≤ l.sign-index;
  rest : has_initialiser l.depth (drop l.sign-index l.row) ≡ has_initialiser 0 l.row;
}
