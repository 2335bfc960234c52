use Rattle.std.proofs.Common.{◌≡◌, ◌+◌, ◌≤◌, map, drop}
use Rattle.cgrammar.specs.TypeWords.{times}
use Rattle.cgrammar.specs.CodeTables.{text_read}
use Rattle.cgrammar.proofs.basic.times_among.Given as goal

abbrev pub invariant-loop-other : goal.invariant-loop-other
invariant-loop-other l = (l.count + times l.word (map text_read (drop l.other-index l.words)) ≡ times l.word (map text_read l.words)) × (l.count ≤ l.other-index)
