use Rattle.std.proofs.Common.{◌≡◌, ◌≤◌, drop}
use Rattle.definitions.specs.Rows.{has_storage}
use Rattle.definitions.proofs.form.has_storage.Given as goal

abbrev pub invariant-loop-sign : goal.invariant-loop-sign
invariant-loop-sign l = record {
  few : l.depth ≤ l.sign-index;
  rest : has_storage l.word l.depth (drop l.sign-index l.row) ≡ has_storage l.word 0 l.row;
}
