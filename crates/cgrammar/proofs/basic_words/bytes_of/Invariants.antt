use Rattle.std.proofs.Common.{◌≡◌, map, take}
use Rattle.cgrammar.specs.CodeTables.{text_read}
use Rattle.cgrammar.specs.Terminals.{bytes_of}
use Rattle.cgrammar.proofs.basic_words.bytes_of.Given as goal

abbrev pub invariant-loop-token : goal.invariant-loop-token
invariant-loop-token l = map text_read l.all.items ≡ map bytes_of (take l.token-index l.row)
