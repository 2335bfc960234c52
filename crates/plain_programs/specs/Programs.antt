-- Plain programs, and what is found of them.
use Rattle.std.specs.Prelude.{◌≡◌, Bool, true, List, Some}
use Rattle.c_machine.specs.Program.{Program}
use Rattle.c_machine.specs.Run.{IsSound}
use Rattle.c_machine.specs.Trees.{text_of}
use Rattle.flow.specs.declared.flow_graph.Flow.{Flow}
use Rattle.lowering.specs.Lowering.{flow_of}
use Rattle.trail.specs.Seen.{HasNoCalls}
use Rattle.driver.specs.declared.verdict.Limits.{Limits}
use Rattle.driver.specs.declared.verdict.Verdict.{Verdict}
use Rattle.driver.specs.declared.verdict.Verdict.TheVariants.{Safe, Warned, Spent, Large, NotYet}
use Rattle.driver.specs.declared.verdict.Warning.{Warning}
use Rattle.driver.specs.Telling.{IsAmong}
use Rattle.judgement.specs.Judged.{IsMet, DoesTellAll, IsJudged}
use Rattle.plain.specs.Followed.{HasFewWalks}
use Rattle.plain.specs.PlainRuns.{IsPlain}
use Rattle.plain.specs.Sizes.{IsSmall}

-- the program has this flow graph, which is plain and small and has no call
pub record IsPlainProgram (p : Program) (flow : Flow) : Type 0 where
  pub graph : flow_of p ≡ Some flow
  pub calls : HasNoCalls flow
  pub small : IsSmall flow
  pub plain : IsPlain flow

-- all was followed, some run faults, each warning is an error, which a run meets, and each fault of a run has a warning
pub record IsWarnedExactly (p : Program) (warnings : List Warning) (complete : Bool) : Type 0 where
  pub whole : complete ≡ true
  pub unsound : IsSound (text_of p) → ⊥
  pub errors : (warning : Warning) → IsAmong warnings warning → warning.error ≡ true
  pub met : (warning : Warning) → IsAmong warnings warning → IsMet p warning.kind warning.place
  pub tells : DoesTellAll p warnings

-- it is safe and the program is sound, or all was followed and the warnings are the faults of its runs
abbrev pub IsExactFor : Program → Verdict → Type 0
IsExactFor p (Safe trail) = IsSound (text_of p)
IsExactFor p (Warned warnings trail complete next) = IsWarnedExactly p warnings complete
IsExactFor p (Spent trail next) = ⊥
IsExactFor p (Large trail entry) = ⊥
IsExactFor p (NotYet place) = ⊥

-- so it is of what is found of a plain program of few walks
abbrev pub ArePlainProgramsJudged : Type 0
ArePlainProgramsJudged = (p : Program) (limits : Limits) (flow : Flow) (verdict : Verdict) → IsPlainProgram p flow → HasFewWalks flow limits.budget → IsJudged p limits flow verdict → IsExactFor p verdict
