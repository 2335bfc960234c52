-- What is answered of what was found of a program: by cases, and that it can be printed.
use Rattle.std.proofs.Common.{◌≡◌, ℕ, Bool, List, map, get_or, Some, refl, subst}
use Rattle.std.specs.List.{All}
use Rattle.std.proofs.lemmas.List.Elements.{All-map}
use Rattle.std.proofs.lemmas.Option.{same_Some, none-some}
use Rattle.cbase.specs.declared.place.Place.{Place}
use Rattle.ctokens.specs.TokenList.{AreTokens, HasNamedFiles}
use Rattle.ctokens.specs.declared.token.Tokens.{Tokens}
use Rattle.ccheck.specs.Refusals.{place_at}
use Rattle.driver.specs.declared.verdict.Verdict.{Verdict}
use Rattle.driver.specs.declared.verdict.Verdict.TheVariants as analysis
use Rattle.driver.specs.declared.verdict.Warning.{Warning as AnalysisWarning}
use Rattle.judgement.specs.declared.judgement.Judgement.{Judgement}
use Rattle.judgement.specs.declared.judgement.Judgement.TheVariants as judgement
use Rattle.report.specs.Report.{HasPrintable, IsPrintable}
use Rattle.report.specs.declared.answer.Answer.{Answer}
use Rattle.report.specs.declared.answer.Answer.TheVariants.{Safe, Warned, Spent, Large, NotYet}
use Rattle.report.specs.declared.limits.Limits.{Limits}
use Rattle.verdicts.specs.Found.{answer_of_judgement, answer_of_verdict, warning_at}
use Rattle.verdicts.specs.Shown.{AreNames}
use Rattle.verdicts.specs.Verdict.{HasVerdict, IsVerdict, Judges}
use Rattle.verdicts.proofs.PlacesNamed.{place_named}

-- what is so of each answer of an analysis is so of that of a verdict
pub by_verdict : (t : Tokens) (P : Answer → Type 0) → ((place : Place) → P (NotYet (place_at t place.at))) → P Safe
    → ((warnings : List AnalysisWarning) (complete : Bool) → P (Warned (map (warning_at t) warnings) complete)) → P Spent → P Large
    → (found : Verdict) → P (answer_of_verdict t found)
by_verdict t P calls safe warned spent large (analysis.Safe trail) = safe
by_verdict t P calls safe warned spent large (analysis.Warned warnings trail complete next) = warned warnings complete
by_verdict t P calls safe warned spent large (analysis.Spent trail next) = spent
by_verdict t P calls safe warned spent large (analysis.Large trail entry) = large
by_verdict t P calls safe warned spent large (analysis.NotYet place) = calls place

-- and of each answer to what was found
pub by_found : (t : Tokens) (P : Answer → Type 0) → ((place : Place) → P (NotYet (place_at t place.at))) → P Safe
    → ((warnings : List AnalysisWarning) (complete : Bool) → P (Warned (map (warning_at t) warnings) complete)) → P Spent → P Large
    → (found : Judgement) (answer : Answer) → answer_of_judgement t found ≡ Some answer → P answer
by_found t P calls safe warned spent large judgement.NoGraph answer is = absurd (none-some answer is)
by_found t P calls safe warned spent large (judgement.Judged flow found) answer is =
    subst P (same_Some (answer_of_verdict t found) answer is) (by_verdict t P calls safe warned spent large found)

pub judges_found : (limits : Limits) (file bytes : List ℕ) (answer : Answer) → HasVerdict limits file bytes answer → Judges limits file bytes answer
judges_found limits file bytes answer has =
    by_found has.t (λ (a : Answer). HasVerdict limits file bytes a → Judges limits file bytes a) (λ place h. h) (λ h. h) (λ warnings complete h. h) (λ h. h) (λ h. h)
    has.judgement answer has.answer_is has

pub names_found : (t : Tokens) (file bytes : List ℕ) (found : Judgement) (answer : Answer) → answer_of_judgement t found ≡ Some answer → AreTokens file bytes t → AreNames file bytes answer t.names
names_found t file bytes found answer is are =
    by_found t (λ (a : Answer). AreNames file bytes a t.names) (λ place. (t, are, refl)) (t, are, refl) (λ warnings complete. (t, are, refl)) (t, are, refl) (t, are, refl) found answer is

pub verdict_found : (t : Tokens) (found : Judgement) (answer : Answer) → answer_of_judgement t found ≡ Some answer → IsVerdict answer
verdict_found t found answer is = by_found t IsVerdict (λ place. tt) tt (λ warnings complete. tt) tt tt found answer is

warnings_printable : (t : Tokens) (warnings : List AnalysisWarning) → HasNamedFiles t → All (IsPrintable t.names) (map (warning_at t) warnings)
warnings_printable t warnings named = λ k d within.
    All-map (IsPrintable t.names) (warning_at t) warnings (λ j e below. record { named = place_named t (get_or warnings j e).place.at named }) k d within

pub printable_found : (t : Tokens) (found : Judgement) (answer : Answer) → HasNamedFiles t → answer_of_judgement t found ≡ Some answer → HasPrintable t.names answer
printable_found t found answer named is =
    by_found t (HasPrintable t.names) (λ place. place_named t place.at named) tt (λ warnings complete. warnings_printable t warnings named) tt tt found answer is
