use Rattle.std.proofs.Common.{◌≡◌, map, drop, nat_eq}
use Rattle.std.specs.List.{list_all}
use Rattle.cgrammar.specs.TypeWords.{times}
use Rattle.cgrammar.specs.CodeTables.{text_read}
use Rattle.cgrammar.proofs.basic.are_same.Given as goal

abbrev pub invariant-loop-word : goal.invariant-loop-word
invariant-loop-word l = list_all (λ w. nat_eq (times w (map text_read l.words)) (times w (map text_read l.others))) (map text_read (drop l.word-index l.words)) ≡ list_all (λ w. nat_eq (times w (map text_read l.words)) (times w (map text_read l.others))) (map text_read l.words)
