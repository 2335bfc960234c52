-- Plain flow graphs are answered exactly where all was followed.
use Rattle.std.proofs.Common.{◌≡◌, ℕ, ◌<◌, List, [], ◌∷◌, refl, arith}
use Rattle.std.proofs.lemmas.Bool.{false≢true}
use Rattle.std.proofs.lemmas.Option.{slice_get_within}
use Rattle.cbase.specs.declared.place.Place.{Place}
use Rattle.flow.specs.declared.flow_graph.Flow.{Flow}
use Rattle.flow.specs.Runs.{RunFaults}
use Rattle.driver.specs.declared.verdict.Verdict.TheVariants.{Safe, Warned, Spent, Large, NotYet}
use Rattle.driver.specs.declared.verdict.Warning.{Warning}
use Rattle.driver.specs.Telling.{IsAmong}
use Rattle.driver.specs.Verdicts.{IsSafe, IsWarned}
use Rattle.plain.specs.Answers.{AreAnsweredExactly}
use Rattle.plain.specs.RealErrors.{AreErrorsAlone}
use Rattle.plain.proofs.RealWarnings.{warnings_are_errors}

none_among : (warning : Warning) → IsAmong [] warning → ⊥
none_among warning among = let less : among.number < 0 = slice_get_within [] among.number warning among.there in absurd (omega arith)

-- where some warning stands and each is met, some run faults
some_faults : (flow : Flow) (warnings : List Warning) → (warnings ≡ [] → ⊥) → ((warning : Warning) → IsAmong warnings warning → RunFaults flow warning.kind warning.place) →
    ((kind : ℕ) (place : Place) → RunFaults flow kind place → ⊥) → ⊥
some_faults flow [] some met none = some refl
some_faults flow (first ∷ rest) some met none = none first.kind first.place (met first (record { number = 0; there = refl }))

pub answered_exactly : AreAnsweredExactly
answered_exactly flow limits (Safe trail) valid offsets few plain verdict all =
    let is : IsSafe flow limits trail = verdict in
    record {
      safe = (λ same. is.safe, λ none. refl);
      errors = λ warning among. absurd (none_among warning among);
      met = λ warning among. absurd (none_among warning among);
      tells = λ kind place faults. absurd (is.safe kind place faults);
    }
answered_exactly flow limits (Warned warnings trail complete next) valid offsets few plain verdict all =
    let is : IsWarned flow limits warnings trail complete next = verdict in
    let alone : AreErrorsAlone flow warnings complete = warnings_are_errors flow limits warnings trail complete next valid offsets few plain verdict in
    record {
      safe = (λ same. absurd (false≢true same), λ none. absurd (some_faults flow warnings is.some alone.met none));
      errors = alone.errors;
      met = alone.met;
      tells = alone.tells all;
    }
answered_exactly flow limits (Spent trail next) valid offsets few plain verdict all = absurd (false≢true all)
answered_exactly flow limits (Large trail entry) valid offsets few plain verdict all = absurd (false≢true all)
answered_exactly flow limits (NotYet place) valid offsets few plain verdict all = absurd (false≢true all)
