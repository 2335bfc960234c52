use Rattle.std.proofs.Common.{◌≡◌, map, drop}
use Rattle.ctokens.specs.SymbolRows.{row_read}
use Rattle.definitions.specs.Roles.{role_in}
use Rattle.definitions.proofs.tables.role_in.Given as goal

abbrev pub invariant-loop-row : goal.invariant-loop-row
invariant-loop-row l = role_in (map row_read (drop l.row-index l.rows)) l.bytes ≡ role_in (map row_read l.rows) l.bytes
