use Rattle.std.proofs.Common.{◌≡◌, map, drop}
use Rattle.cgrammar.specs.Operators.{row_of}
use Rattle.ctokens.specs.SymbolRows.{row_read}
use Rattle.cgrammar.proofs.texts.entry_of.Given as goal

abbrev pub invariant-loop-row : goal.invariant-loop-row
invariant-loop-row g l = row_of l.bytes (map row_read (drop l.row-index l.rows)) ≡ row_of l.bytes (map row_read l.rows)
