use Rattle.std.proofs.Common.{◌≡◌, ◌≤◌, drop}
use Rattle.definitions.specs.Rows.{ends_with_body, has_body}
use Rattle.definitions.proofs.form.ends_with_body.Given as goal

abbrev pub invariant-loop-sign : goal.invariant-loop-sign
invariant-loop-sign l = record {
  few : l.depth ≤ l.sign-index;
  rest : has_body l.depth l.before l.body l.last (drop l.sign-index l.row) ≡ ends_with_body l.row;
}
