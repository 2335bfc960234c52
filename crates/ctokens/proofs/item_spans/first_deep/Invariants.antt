use Rattle.std.proofs.Common.{◌≡◌, ◌≤◌, drop}
use Rattle.ctokens.specs.ItemEnds.{first_deep}
use Rattle.ctokens.proofs.item_spans.first_deep.Given as goal

abbrev pub invariant-loop-at : goal.invariant-loop-at
invariant-loop-at l = record {
  few : l.depth ≤ l.at;
  rest : first_deep l.at l.depth (drop l.at l.symbols) ≡ first_deep 0 0 l.symbols;
}
