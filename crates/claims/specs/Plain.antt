-- What the answer means where the bytes hold a plain program in whose flow graph few walks lead on.
use Rattle.std.specs.Prelude.{◌≡◌, ℕ, Bool, true, false, List}
use Rattle.std.specs.List.{All}
use Rattle.cbase.specs.declared.abi.Abi.TheVariants.{Lp64}
use Rattle.ctokens.specs.declared.token.Tokens.{Tokens}
use Rattle.c_machine.specs.Program.{Program}
use Rattle.c_machine.specs.Run.{IsSound}
use Rattle.c_machine.specs.Trees.{text_of}
use Rattle.flow.specs.declared.flow_graph.Flow.{Flow}
use Rattle.plain.specs.Followed.{HasFewWalks}
use Rattle.plain_programs.specs.Programs.{IsPlainProgram}
use Rattle.report.specs.declared.answer.Answer.{Answer}
use Rattle.report.specs.declared.answer.Answer.TheVariants.{Safe, Warned, Spent, Large, NotRead, Construct, NotYet, TooLong, Usage, ReadFault, OutOfMemory}
use Rattle.report.specs.declared.limits.Limits.{Limits}
use Rattle.report.specs.declared.warning.Warning.{Warning}
use Rattle.verdicts.specs.Program.{HoldsProgram}
use Rattle.claims.specs.Warned.{AreAllPrinted, IsMetAt}

-- all was followed, some choices lead a run to a fault, each warning is an error that a run meets at its place, and each fault that a run meets is told of
pub record AreItsFaults (t : Tokens) (p : Program) (warnings : List Warning) (complete : Bool) : Type 0 where
  pub whole : complete ≡ true
  pub unsound : IsSound (text_of p) → ⊥
  pub errors : All (λ warning. (warning.error ≡ true) × IsMetAt t p warning.kind warning.place) warnings
  pub printed : AreAllPrinted t p warnings

-- `safe`, and no choices lead a run of the program to a fault; or `warned`, with the faults of its runs and nothing else
abbrev pub IsExactly : Tokens → Program → Answer → Type 0
IsExactly t p Safe = IsSound (text_of p)
IsExactly t p (Warned warnings complete) = AreItsFaults t p warnings complete
IsExactly t p Spent = ⊥
IsExactly t p Large = ⊥
IsExactly t p (NotRead why) = ⊥
IsExactly t p (Construct number place) = ⊥
IsExactly t p (NotYet place) = ⊥
IsExactly t p (TooLong taken) = ⊥
IsExactly t p Usage = ⊥
IsExactly t p ReadFault = ⊥
IsExactly t p OutOfMemory = ⊥

-- so it is of each plain program that the bytes hold, where at most as many walks lead on from main's entry in its flow graph as states may be kept
abbrev pub MeansExactly : Limits → List ℕ → List ℕ → Answer → Type 0
MeansExactly limits file bytes answer = (t : Tokens) (p : Program) (flow : Flow) → HoldsProgram file bytes Lp64 false t p → IsPlainProgram p flow → HasFewWalks flow limits.budget → IsExactly t p answer
