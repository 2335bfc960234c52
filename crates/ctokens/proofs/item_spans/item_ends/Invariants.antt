use Rattle.std.proofs.Common.{◌≡◌, ◌≤◌, ◌++◌, false, drop, length, vec_capacity, vec_len}
use Rattle.ctokens.specs.ItemEnds.{item_ends}
use Rattle.ctokens.specs.declared.symbol.Symbol.TheVariants.{Other}
use Rattle.ctokens.proofs.item_spans.item_ends.Given as goal

abbrev pub invariant-loop-symbol : goal.invariant-loop-symbol
invariant-loop-symbol l = record {
  len : vec_len l.ends ≡ l.symbol-index;
  room : length l.read ≤ vec_capacity l.ends;
  few : l.depth ≤ l.symbol-index;
  rest : l.ends.items ++ item_ends l.depth l.before l.body (drop l.symbol-index l.read) ≡ item_ends 0 Other false l.read;
}
