use Rattle.std.proofs.Common.{◌≡◌, ◌++◌, drop}
use Rattle.ctokens.specs.ItemEnds.{spans}
use Rattle.ctokens.proofs.item_spans.spans.Given as goal

abbrev pub invariant-loop-end : goal.invariant-loop-end
invariant-loop-end l = record {
  at : l.at ≡ l.end-index;
  rest : l.items.items ++ spans l.first l.at (drop l.end-index l.ends) ≡ spans 0 0 l.ends;
}
