use Rattle.std.proofs.Common.{subst}
use Rattle.outside.specs.Reading.{Reads}
use Rattle.verdicts.proofs.Exactness.{answered_result}
use Rattle.verdicts.proofs.top.answer_of_file.Goals as goal

-- what is true of the bytes that were read is said of the file
pub returns-in-Whole-clause-judged : goal.returns-in-Whole-clause-judged
returns-in-Whole-clause-judged g c =
    let F = g.F.Files in
    rw (← c.in_ok-name.ensures)
    (answered_result c.args.limits.now _ _ _ _ c.in-Whole.text c.judge.result
    (λ told. subst (λ reading. Reads (F.bytes_of c.args.files.now c.in_ok-name.name) (F.left c.read_file.new.files) reading) c.in-Whole.is (c.in_ok-text.ensures.told told))
    (rw c.in-Whole.is at c.in_ok-text.ensures.within) c.judge.ensures.verdict
    (rw (← c.in_ok-name.ensures) at (rw c.as_slice.ensures at c.judge.ensures.judged)) (rw (← c.in_ok-name.ensures) at (rw c.as_slice.ensures at c.judge.ensures.names)))
