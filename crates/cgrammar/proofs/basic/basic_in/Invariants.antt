use Rattle.std.proofs.Common.{◌≡◌, map, drop}
use Rattle.cgrammar.specs.TypeWords.{basic_of}
use Rattle.cgrammar.specs.CodeTables.{text_read, basic_read}
use Rattle.cgrammar.proofs.basic.basic_in.Given as goal

abbrev pub invariant-loop-row : goal.invariant-loop-row
invariant-loop-row l = basic_of (map basic_read (drop l.row-index l.rows)) (map text_read l.words) ≡ basic_of (map basic_read l.rows) (map text_read l.words)
