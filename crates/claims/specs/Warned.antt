-- What `warned` means.
use Rattle.std.specs.Prelude.{◌≡◌, ℕ, Bool, true, false, List, Option, Some, map, slice_get}
use Rattle.std.specs.List.{All}
use Rattle.cbase.specs.declared.abi.Abi.TheVariants.{Lp64}
use Rattle.cbase.specs.declared.place.Place.{Place}
use Rattle.choices.specs.declared.choice.Choice.{Choice}
use Rattle.ctokens.specs.declared.token.Tokens.{Tokens}
use Rattle.ccheck.specs.Refusals.{place_at}
use Rattle.c_machine.specs.Program.{Program}
use Rattle.c_machine.specs.Run.{Leads}
use Rattle.c_machine.specs.Trees.{text_of}
use Rattle.flow.specs.declared.flow_graph.Flow.{Flow}
use Rattle.lowering.specs.Lowering.{flow_of}
use Rattle.trail.specs.Trail.{AreHonest, AreTame, IsClosed}
use Rattle.trail.specs.declared.trail.Entry.{Entry}
use Rattle.driver.specs.Driven.{driven, widening}
use Rattle.driver.specs.Verdicts.{IsWarned}
use Rattle.driver.specs.declared.verdict.Warning.{Warning as AnalysisWarning}
use Rattle.report.specs.declared.limits.Limits.{Limits}
use Rattle.report.specs.declared.warning.Warning.{Warning}
use Rattle.verdicts.specs.Found.{warning_at, within}
use Rattle.verdicts.specs.Program.{HoldsProgram}
use Rattle.claims.specs.Analysed.{OnGraph}

-- some choices lead a run of the program to a fault of this kind, at the token that stands at this place
abbrev pub IsMetAt : Tokens → Program → ℕ → Place → Type 0
IsMetAt t p kind place = (choices : List Choice) × (token : Place) × Leads (text_of p) choices kind token × (place ≡ place_at t token.at)

-- the bytes hold a program, and each warning that is an error a run of it meets
abbrev pub MeansWarned : List ℕ → List ℕ → List Warning → Type 0
MeansWarned file bytes warnings =
    (t : Tokens) × (p : Program) × HoldsProgram file bytes Lp64 false t p
    × All (λ warning. warning.error ≡ true → IsMetAt t p warning.kind warning.place) warnings

-- the warnings are those of the analysis, at the places of their tokens: one for each token and kind of fault of a graph that was followed, in their order. All was followed, or
-- the budget was spent before
abbrev pub MeansFound : Limits → List ℕ → List ℕ → List Warning → Bool → Type 0
MeansFound limits file bytes warnings complete =
    OnGraph file bytes (λ t flow. (told : List AnalysisWarning) × (trail : List Entry) × (next : Option Entry) × IsWarned flow (within limits) told trail complete next
    × (warnings ≡ map (warning_at t) told))

-- a warning tells of a fault of this kind, at this place
pub record IsPrinted (warnings : List Warning) (kind : ℕ) (place : Place) : Type 0 where
  pub number : ℕ
  pub warning : Warning
  pub there : slice_get warnings number ≡ Some warning
  pub kind_is : warning.kind ≡ kind
  pub place_is : warning.place ≡ place

-- each fault that a run of the program meets is told of, at the place of its token
abbrev pub AreAllPrinted : Tokens → Program → List Warning → Type 0
AreAllPrinted t p warnings = (choices : List Choice) (kind : ℕ) (token : Place) → Leads (text_of p) choices kind token → IsPrinted warnings kind (place_at t token.at)

-- The bytes hold a program, and a closed trail of its flow graph is such that each fault that a run of the program meets is told of, unless a post of a kept entry names loss 4 beside a kind: that is an
-- access through a word of which nothing is known, behind which nothing is followed
abbrev pub MeansComplete : Limits → List ℕ → List ℕ → List Warning → Type 0
MeansComplete limits file bytes warnings =
    (t : Tokens) × (p : Program) × (flow : Flow) × (trail : List Entry) × HoldsProgram file bytes Lp64 false t p × (flow_of p ≡ Some flow)
    × AreHonest driven (widening limits.int_limit) flow trail × IsClosed driven flow trail × (AreTame driven flow trail → AreAllPrinted t p warnings)
