-- FILE is read, is too long, or cannot be read.
use Rattle.std.proofs.Common.{inl, refl, ap, sym, ◌∙◌}
use Rattle.outside.specs.declared.reading.Reading.TheVariants.{Whole}
use Rattle.outside.proofs.Opened.{is_opened}
use Rattle.replay.proofs.Around.{each_answer, each_error, read_bytes}
use Rattle.replay.proofs.Files.{long_taken, rose_later, whole_answered}
use Rattle.replay.proofs.Opened.{whole_all_opened, whole_opened, whole_wanting}
use Rattle.replay.proofs.answering.answer_of_command.Goals as goal

pub returns-in-Whole-clause-about : goal.returns-in-Whole-clause-about
returns-in-Whole-clause-about g c = each_answer c.answer_of_text.result (λ a is. is.about) c.answer_of_text.ensures.0

pub returns-in-Whole-clause-printable : goal.returns-in-Whole-clause-printable
returns-in-Whole-clause-printable g c = each_answer c.answer_of_text.result (λ a is. is.printable) c.answer_of_text.ensures.0

-- FILE was read before CHOICES
pub returns-in-Whole-clause-rose : goal.returns-in-Whole-clause-rose
returns-in-Whole-clause-rose g c =
    let F = g.F.Files in
    each_answer c.answer_of_text.result
    (λ a is. λ fault. rose_later (F.faults c.args.files.now) (F.faults c.read_file.new.files) _ c.read_file.ensures.later (is.rose fault)) c.answer_of_text.ensures.0

pub returns-in-Whole-clause-failed : goal.returns-in-Whole-clause-failed
returns-in-Whole-clause-failed g c = each_answer c.answer_of_text.result (λ a is. is.failed) c.answer_of_text.ensures.0

-- what is true of the bytes that were read is said of the files
pub returns-in-Whole-clause-judged : goal.returns-in-Whole-clause-judged
returns-in-Whole-clause-judged g c =
    let F = g.F.Files in
    let files = c.args.files.now in
    let later = c.read_file.new.files in
    let command = c.args.command.now in
    whole_answered command c.answer_of_text.result (F.tells files) (F.tells later) (F.bytes_of files) c.in_ok-name.name command.file
    (F.bytes_of files command.choices) (F.bytes_of later command.choices) (F.left later) c.as_slice-in-Whole.result.now _
    (c.in_ok-name.ensures ∙ c.as_slice.ensures) (c.in-Whole.is ∙ ap Whole (sym c.as_slice-in-Whole.ensures)) c.in_ok-text.ensures.told
    c.read_file.ensures.tells (c.read_file.ensures.kept command.choices)
    (λ whole are. each_answer c.answer_of_text.result (λ a is. is.judged whole are) c.answer_of_text.ensures.0)

pub returns-in-Whole-clause-begun : goal.returns-in-Whole-clause-begun
returns-in-Whole-clause-begun g c =
    let F = g.F.Files in
    let files = c.args.files.now in
    let later = c.read_file.new.files in
    let command = c.args.command.now in
    whole_opened command c.answer_of_text.result _ (F.tells files) (F.tells later) (F.bytes_of files) c.in_ok-name.name command.file (F.left later)
    c.as_slice-in-Whole.result.now _ (c.in_ok-name.ensures ∙ c.as_slice.ensures) (c.in-Whole.is ∙ ap Whole (sym c.as_slice-in-Whole.ensures))
    c.in_ok-text.ensures.told c.read_file.ensures.tells (λ whole are. each_answer c.answer_of_text.result (λ a is. is.opened whole are) c.answer_of_text.ensures.0)

-- FILE was opened, and then what such an answer asks for
pub returns-in-Whole-clause-opened : goal.returns-in-Whole-clause-opened
returns-in-Whole-clause-opened g c =
    let F = g.F.Files in
    let files = c.args.files.now in
    let command = c.args.command.now in
    let named = c.in_ok-name.ensures ∙ c.as_slice.ensures in
    whole_all_opened command c.answer_of_text.result (F.tells files) (F.tells c.read_file.new.files) (F.bytes_of files command.file) _ _ _
    c.as_slice-in-Whole.result.now c.read_file.ensures.tells
    (is_opened (record { count = F.openings files; last = F.begun files }) _ _ c.read_file.ensures.openings (c.read_file.ensures.begun ∙ named))
    (read_bytes (F.tells files) (F.bytes_of files) c.in_ok-name.name command.file (F.left c.read_file.new.files) c.as_slice-in-Whole.result.now _ named
    (c.in-Whole.is ∙ ap Whole (sym c.as_slice-in-Whole.ensures)) c.in_ok-text.ensures.told)
    (λ start whole one are. each_answer c.answer_of_text.result (λ a is. is.all_opened start whole one are) c.answer_of_text.ensures.0)

pub returns-in-Whole-clause-wanting : goal.returns-in-Whole-clause-wanting
returns-in-Whole-clause-wanting g c =
    let F = g.F.Files in
    let files = c.args.files.now in
    let command = c.args.command.now in
    let named = c.in_ok-name.ensures ∙ c.as_slice.ensures in
    whole_wanting command c.answer_of_text.result (F.tells files) (F.tells c.read_file.new.files) (F.bytes_of files command.file) _ _ _
    c.as_slice-in-Whole.result.now c.read_file.ensures.tells
    (is_opened (record { count = F.openings files; last = F.begun files }) _ _ c.read_file.ensures.openings (c.read_file.ensures.begun ∙ named))
    (read_bytes (F.tells files) (F.bytes_of files) c.in_ok-name.name command.file (F.left c.read_file.new.files) c.as_slice-in-Whole.result.now _ named
    (c.in-Whole.is ∙ ap Whole (sym c.as_slice-in-Whole.ensures)) c.in_ok-text.ensures.told)
    (λ start whole one are. each_error c.answer_of_text.result (λ wanting. wanting start whole one are) c.answer_of_text.ensures.1)

pub returns-in-Long-clause-judged : goal.returns-in-Long-clause-judged
returns-in-Long-clause-judged g c =
    let F = g.F.Files in
    let files = c.args.files.now in
    rw c.too_long.ensures (
      refl,
      long_taken (F.tells files) (F.bytes_of files) c.in_ok-name.name c.args.command.now.file (F.left c.read_file.new.files) _ _
          (c.in_ok-name.ensures ∙ c.as_slice.ensures) c.in-Long.is c.in_ok-text.ensures.within c.in_ok-text.ensures.told,
      refl,
    )

pub returns-in-Long-clause-begun : goal.returns-in-Long-clause-begun
returns-in-Long-clause-begun g c = rw c.too_long.ensures (c.read_file.ensures.begun ∙ (c.in_ok-name.ensures ∙ c.as_slice.ensures))

pub returns-in-Long-clause-opened : goal.returns-in-Long-clause-opened
returns-in-Long-clause-opened g c =
    let F = g.F.Files in
    let files = c.args.files.now in
    rw c.too_long.ensures (is_opened (record { count = F.openings files; last = F.begun files }) _ _ c.read_file.ensures.openings (c.read_file.ensures.begun ∙ (c.in_ok-name.ensures ∙ c.as_slice.ensures)))

pub returns-clause-opened : goal.returns-clause-opened
returns-clause-opened g c =
    let F = g.F.Files in
    let files = c.args.files.now in
    rw c.read_fault.ensures (inl (is_opened (record { count = F.openings files; last = F.begun files }) _ _ c.read_file.ensures.openings (c.read_file.ensures.begun ∙ (c.in_ok-name.ensures ∙ c.as_slice.ensures))))

pub returns-clause-begun : goal.returns-clause-begun
returns-clause-begun g c = rw c.read_fault.ensures (inl (c.read_file.ensures.begun ∙ (c.in_ok-name.ensures ∙ c.as_slice.ensures)))
