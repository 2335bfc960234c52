use Rattle.std.proofs.Common.{◌≡◌, map, drop}
use Rattle.ctokens.specs.SymbolTables.{symbol_in}
use Rattle.ctokens.specs.SymbolRows.{row_read}
use Rattle.ctokens.proofs.symbol_of.symbol_in.Given as goal

abbrev pub invariant-loop-row : goal.invariant-loop-row
invariant-loop-row l = symbol_in (map row_read (drop l.row-index l.rows)) l.otherwise l.bytes ≡ symbol_in (map row_read l.rows) l.otherwise l.bytes
