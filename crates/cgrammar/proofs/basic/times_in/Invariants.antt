use Rattle.std.proofs.Common.{◌≡◌, ◌+◌, ◌≤◌, map, drop}
use Rattle.cgrammar.specs.TypeWords.{times}
use Rattle.cgrammar.specs.CodeTables.{text_read}
use Rattle.cgrammar.proofs.basic.times_in.Given as goal

abbrev pub invariant-loop-text : goal.invariant-loop-text
invariant-loop-text l = (l.count + times l.word (map text_read (drop l.text-index l.texts)) ≡ times l.word (map text_read l.texts)) × (l.count ≤ l.text-index)
