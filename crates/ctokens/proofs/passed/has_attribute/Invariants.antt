use Rattle.std.proofs.Common.{◌≡◌, drop}
use Rattle.std.specs.List.{list_any}
use Rattle.ctokens.specs.Symbol.{is_attribute}
use Rattle.ctokens.proofs.passed.has_attribute.Given as goal

abbrev pub invariant-loop-symbol : goal.invariant-loop-symbol
invariant-loop-symbol l = list_any is_attribute (drop l.symbol-index l.symbols) ≡ list_any is_attribute l.symbols
