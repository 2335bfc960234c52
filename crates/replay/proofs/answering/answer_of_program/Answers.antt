-- CHOICES is read, is too long, or cannot be read.
use Rattle.std.proofs.Common.{ap, rules, sym, ◌∙◌}
use Rattle.outside.specs.declared.reading.Reading.TheVariants.{Whole}
use Rattle.outside.specs.Reading.{is_failed}
use Rattle.outside.proofs.Opened.{is_opened}
use Rattle.replay.proofs.Around.{about_both, choices_fault, choices_long, choices_wanting, or_wanting, read_bytes}
use Rattle.replay.proofs.Files.{long_taken}
use Rattle.replay.proofs.answering.answer_of_program.Goals as goal

-- what is true of the bytes that were read of CHOICES is said of the files
pub returns-in-Whole : goal.returns-in-Whole
returns-in-Whole g c =
    let F = g.F.Files in
    let files = c.args.files.now in
    let named = c.in_ok-name.ensures ∙ c.as_slice.ensures in
    about_both _ c.args.command.now c.args.t c.args.program.now c.args.text.now c.args.strict
    (is_opened (record { count = F.openings files; last = F.begun files }) _ _ c.read_file.ensures.openings (c.read_file.ensures.begun ∙ named)) c.requires.holds c.as_slice-in-Whole.result.now c.answer_of_both.result
    (read_bytes (F.tells files) (F.bytes_of files) c.in_ok-name.name c.args.command.now.choices (F.left c.read_file.new.files) c.as_slice-in-Whole.result.now _ named
    (c.in-Whole.is ∙ ap Whole (sym c.as_slice-in-Whole.ensures)) c.in_ok-second.ensures.told)
    c.answer_of_both.ensures.about c.answer_of_both.ensures.told

pub returns-in-Long : goal.returns-in-Long
returns-in-Long g c =
    let F = g.F.Files in
    let files = c.args.files.now in
    let choices = c.args.command.now.choices in
    let named = c.in_ok-name.ensures ∙ c.as_slice.ensures in
    rw c.with_names.ensures (
      choices_long _ c.args.command.now c.args.t c.args.program.now c.args.text.now c.args.strict
          (is_opened (record { count = F.openings files; last = F.begun files }) _ _ c.read_file.ensures.openings (c.read_file.ensures.begun ∙ named)) c.requires.holds
          (long_taken (F.tells files) (F.bytes_of files) c.in_ok-name.name choices (F.left c.read_file.new.files) _ _ named c.in-Long.is
          c.in_ok-second.ensures.within c.in_ok-second.ensures.told),
      tt,
    )

pub returns-in-Failed : goal.returns-in-Failed
returns-in-Failed g c =
    let F = g.F.Files in
    let files = c.args.files.now in
    rw c.read_fault.ensures (
      choices_fault _ c.args.command.now c.args.t c.args.program.now c.args.text.now c.args.strict
          (is_opened (record { count = F.openings files; last = F.begun files }) _ _ c.read_file.ensures.openings (c.read_file.ensures.begun ∙ (c.in_ok-name.ensures ∙ c.as_slice.ensures))) c.requires.holds
          (c.in_ok-second.ensures.cause c.in-Failed.is) (c.in_ok-second.ensures.failed ∙ ap is_failed c.in-Failed.is),
      tt,
    )

-- there is no memory for the bytes of CHOICES
pub returns-in_err-second : goal.returns-in_err-second
returns-in_err-second g c =
    let F = g.F.Files in
    let files = c.args.files.now in (
      search rules,
      or_wanting c.from_residual-in_err-second.result
          (choices_wanting (F.tells files) _ _ c.args.command.now c.args.t c.args.program.now c.args.text.now c.args.strict
          (is_opened (record { count = F.openings files; last = F.begun files }) _ _ c.read_file.ensures.openings
          (c.read_file.ensures.begun ∙ (c.in_ok-name.ensures ∙ c.as_slice.ensures))) c.requires.holds),
    )
