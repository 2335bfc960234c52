-- Warnings of plain flow graphs are errors.
use Rattle.std.proofs.Common.{◌≡◌, true, sym, ◌∙◌}
use Rattle.std.proofs.lemmas.Option.{none-some}
use Rattle.trail.specs.Trail.{AreTame}
use Rattle.driver.specs.declared.verdict.Warning.{Warning}
use Rattle.driver.specs.Driven.{driven}
use Rattle.driver.specs.Errors.{alike_runs}
use Rattle.driver.specs.Telling.{IsAmong, IsWarning}
use Rattle.driver.specs.Verdicts.{IsWarned}
use Rattle.plain.specs.Chain.{IsTrailPlain}
use Rattle.plain.specs.RealErrors.{AreWarningsErrors}
use Rattle.plain.proofs.RealShown.{driven_plain}

pub warnings_are_errors : AreWarningsErrors
warnings_are_errors flow limits warnings trail complete next valid offsets few plain verdict =
    let is : IsWarned flow limits warnings trail complete next = verdict in
    let kept : IsTrailPlain driven alike_runs flow trail = driven_plain flow limits.int_limit trail valid offsets is.calls few plain is.honest in
    let errors : (warning : Warning) → IsAmong warnings warning → warning.error ≡ true =
    λ warning among. (let one : IsWarning flow trail warning = is.each.each warning among in (is.errors.each warning among).1 (kept.real warning.entry one.entry one.there)) in
    let tame : AreTame driven flow trail = λ at entry number edge post there is_kept stands leaves is_post four. absurd (none-some 4 (sym (kept.loss at number entry edge post there stands leaves is_post) ∙ four)) in
    record {
      errors = errors;
      met = λ warning among. is.met warning among (errors warning among);
      tells = λ all. is.tells all tame;
    }
