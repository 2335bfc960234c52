use Rattle.std.proofs.Common.{◌∙◌, ap, arith, map, List, ℕ}
use Rattle.cgrammar.specs.CodeTables.{text_read}
use Rattle.cgrammar.specs.TypeWords.{basic_of, basic_rows}
use Rattle.cgrammar.proofs.BasicRows.{basic_exact, basic_covered}
use Rattle.cgrammar.proofs.basic_words.read_basic_words.Goals as goal

pub returns-clause-same : goal.returns-clause-same
returns-clause-same c =
    c.basic_type.ensures ∙ ap (λ (words : List (List ℕ)). basic_of basic_rows words) (ap (map text_read) c.as_slice.ensures.value ∙ c.in_ok-words.ensures)

pub returns-clause-spelled : goal.returns-clause-spelled
returns-clause-spelled c = λ type. basic_exact c.args.row.now c.basic_length-count.result c.basic_type.result type c.basic_length-count.ensures.count
    (c.basic_type.ensures ∙ ap (λ (words : List (List ℕ)). basic_of basic_rows words) (ap (map text_read) c.as_slice.ensures.value ∙ c.in_ok-words.ensures))

pub returns-clause-longest : goal.returns-clause-longest
returns-clause-longest c = λ count type inside basic.
    let covered = basic_covered c.args.row.now count type inside basic in
    omega (arith, covered, c.basic_length-count.ensures.count)
