use Rattle.std.proofs.Common.{◌≡◌, ◌≤◌, ◌++◌, drop, vec_len}
use Rattle.ctokens.specs.Passed.{read_from, read_symbols}
use Rattle.ctokens.proofs.passed.read_attributes.Given as goal

abbrev pub invariant-loop-symbol : goal.invariant-loop-symbol
invariant-loop-symbol l = record {
  len : vec_len l.read ≡ l.symbol-index;
  few : l.unclosed ≤ l.symbol-index;
  rest : l.read.items ++ read_from l.behind l.unclosed (drop l.symbol-index l.symbols) ≡ read_symbols l.symbols;
}
