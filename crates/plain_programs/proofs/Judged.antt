-- What is found of a plain program of few walks is exact.
use Rattle.std.proofs.Common.{◌≡◌, List, [], ◌∷◌, refl}
use Rattle.std.proofs.lemmas.Bool.{false≢true}
use Rattle.c_machine.specs.Program.{Program}
use Rattle.c_machine.specs.Run.{IsSound}
use Rattle.c_machine.specs.Trees.{text_of}
use Rattle.flow.specs.declared.flow_graph.Flow.{Flow}
use Rattle.driver.specs.declared.verdict.Limits.{Limits}
use Rattle.driver.specs.declared.verdict.Verdict.{Verdict}
use Rattle.driver.specs.declared.verdict.Verdict.TheVariants.{Safe, Warned, Spent, Large, NotYet}
use Rattle.driver.specs.declared.verdict.Warning.{Warning}
use Rattle.driver.specs.Telling.{IsAmong}
use Rattle.judgement.specs.Judged.{IsMet, IsJudged}
use Rattle.judgement.proofs.Programs.{has_offsets, faults}
use Rattle.lowering.proofs.Law.{graphs_meet}
use Rattle.plain.specs.Followed.{HasFewWalks, IsAnsweredWholly}
use Rattle.plain.proofs.AnsweredWholly.{answered_wholly}
use Rattle.plain_programs.specs.Programs.{IsPlainProgram, IsExactFor, ArePlainProgramsJudged}

module _ (p : Program) (limits : Limits) (flow : Flow) (plain : IsPlainProgram p flow) (few : HasFewWalks flow limits.budget) where
  wholly : (verdict : Verdict) → IsJudged p limits flow verdict → IsAnsweredWholly flow verdict
  wholly verdict is = answered_wholly flow limits verdict is.valid (has_offsets p flow plain.graph) plain.calls plain.small plain.plain few is.is

  -- where some warning stands and a run meets each, the program is not sound
  not_sound : (warnings : List Warning) → (warnings ≡ [] → ⊥) → ((warning : Warning) → IsAmong warnings warning → IsMet p warning.kind warning.place) → IsSound (text_of p) → ⊥
  not_sound [] some met sound = some refl
  not_sound (first ∷ rest) some met sound = let (choices, leads) = met first (record { number = 0; there = refl }) in sound choices first.kind first.place leads

  by_verdict : (verdict : Verdict) → IsJudged p limits flow verdict → IsAnsweredWholly flow verdict → IsExactFor p verdict
  by_verdict (Safe trail) is whole = is.says
  by_verdict (Warned warnings trail complete next) is whole =
      let met : (warning : Warning) → IsAmong warnings warning → IsMet p warning.kind warning.place =
      λ warning among. faults p flow warning.kind warning.place plain.graph is.valid (whole.exact.met warning among) in
      record {
        whole = whole.whole;
        unsound = not_sound warnings is.is.some met;
        errors = whole.exact.errors;
        met = met;
        tells = λ choices kind place leads.
            let (steps, run) = (graphs_meet p flow plain.graph is.valid choices kind place).0 leads in
            whole.exact.tells kind place (record { choices = choices; steps = steps; faults = run });
      }
  by_verdict (Spent trail next) is whole = false≢true whole.whole
  by_verdict (Large trail entry) is whole = false≢true whole.whole
  by_verdict (NotYet place) is whole = false≢true whole.whole

pub plain_judged : ArePlainProgramsJudged
plain_judged p limits flow verdict plain few is = by_verdict p limits flow plain few verdict is (wholly p limits flow plain few verdict is)
