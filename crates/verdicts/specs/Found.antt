-- What is answered of what was found of a program.
use Rattle.std.specs.Prelude.{map, Option, None, Some}
use Rattle.ctokens.specs.declared.token.Tokens.{Tokens}
use Rattle.ccheck.specs.Refusals.{place_at}
use Rattle.driver.specs.declared.verdict.Limits.{Limits as AnalysisLimits}
use Rattle.driver.specs.declared.verdict.Verdict.{Verdict}
use Rattle.driver.specs.declared.verdict.Verdict.TheVariants as analysis
use Rattle.driver.specs.declared.verdict.Warning.{Warning as AnalysisWarning}
use Rattle.judgement.specs.declared.judgement.Judgement.{Judgement}
use Rattle.judgement.specs.declared.judgement.Judgement.TheVariants as judgement
use Rattle.report.specs.declared.answer.Answer.{Answer}
use Rattle.report.specs.declared.answer.Answer.TheVariants.{Safe, Warned, Spent, Large, NotYet}
use Rattle.report.specs.declared.limits.Limits.{Limits}
use Rattle.report.specs.declared.warning.Warning.{Warning}

-- the limits of the analysis
abbrev pub within : Limits → AnalysisLimits
within limits = record { budget = limits.budget; int_limit = limits.int_limit }

-- a warning at the place of its token. Trees and graphs keep with each place how many tokens stand before it
abbrev pub warning_at : Tokens → AnalysisWarning → Warning
warning_at t warning = record { place = place_at t warning.place.at; kind = warning.kind; error = warning.error }

abbrev pub answer_of_verdict : Tokens → Verdict → Answer
answer_of_verdict t (analysis.Safe trail) = Safe
answer_of_verdict t (analysis.Warned warnings trail complete next) = Warned (map (warning_at t) warnings) complete
answer_of_verdict t (analysis.Spent trail next) = Spent
answer_of_verdict t (analysis.Large trail entry) = Large
answer_of_verdict t (analysis.NotYet place) = NotYet (place_at t place.at)

-- of a program without a flow graph nothing is answered
abbrev pub answer_of_judgement : Tokens → Judgement → Option Answer
answer_of_judgement t judgement.NoGraph = None
answer_of_judgement t (judgement.Judged flow found) = Some (answer_of_verdict t found)
