-- What each answer of the second top call means follows from its clause.
use Rattle.std.proofs.Common.{◌≡◌, refl, ℕ, Bool, IsTrue, Option, List}
use Rattle.cbase.specs.declared.place.Place.{Place}
use Rattle.command_line.specs.declared.replay.ReplayCommand.{ReplayCommand}
use Rattle.ctokens.specs.declared.token.Tokens.{Tokens}
use Rattle.choices.specs.declared.choice.Choice.{Choice}
use Rattle.ccheck.specs.Refusals.{place_at}
use Rattle.c_machine.specs.Program.{Program}
use Rattle.c_machine.specs.State.{Outcome, OutcomeIn, State, StateIn, Went, Waits, Ended, Faulted, Stuck}
use Rattle.c_machine.specs.Trees.{text_of}
use Rattle.report.specs.declared.replay_answer.Replayed.{Replayed}
use Rattle.report.specs.declared.replay_answer.Replayed.TheVariants as replayed
use Rattle.report.specs.declared.replay_answer.ReplayAnswer.TheVariants.{Played, BadChoices}
use Rattle.replay.specs.Answered.{IsAnswered}
use Rattle.replay.specs.Program.{what_of}
use Rattle.claims.specs.OfFile.{OfFile}
use Rattle.claims.specs.Played.{OfBoth, HasRun, MeansFault, MeansEnded, MeansWaits, MeansStillRunning, MeansNoStep}
use Rattle.claims.specs.NoChoices.{MeansNoChoices}

-- which outcome is told by an answer
module _ {E S I : Type 0} (t : Tokens) where
  fault_told : (kind : ℕ) (place : Place) (outcome : Outcome E S I) → what_of t outcome ≡ replayed.Fault kind place
      → (token : Place) × (outcome ≡ Faulted kind token) × (place ≡ place_at t token.at)
  fault_told kind place (Faulted met token) is = (token, cc, cc)
  fault_told kind place (Went state rest) is = absurd cc
  fault_told kind place Waits is = absurd cc
  fault_told kind place Ended is = absurd cc
  fault_told kind place Stuck is = absurd cc

  ended_told : (outcome : Outcome E S I) → what_of t outcome ≡ replayed.Ended → outcome ≡ Ended
  ended_told Ended is = refl
  ended_told (Faulted kind place) is = absurd cc
  ended_told (Went state rest) is = absurd cc
  ended_told Waits is = absurd cc
  ended_told Stuck is = absurd cc

  waits_told : (outcome : Outcome E S I) → what_of t outcome ≡ replayed.Waits → outcome ≡ Waits
  waits_told Waits is = refl
  waits_told (Faulted kind place) is = absurd cc
  waits_told (Went state rest) is = absurd cc
  waits_told Ended is = absurd cc
  waits_told Stuck is = absurd cc

  running_told : (outcome : Outcome E S I) → what_of t outcome ≡ replayed.Running → (state : State E S I) × (rest : List Choice) × (outcome ≡ Went state rest)
  running_told (Went state rest) is = (state, rest, refl)
  running_told (Faulted kind place) is = absurd cc
  running_told Waits is = absurd cc
  running_told Ended is = absurd cc
  running_told Stuck is = absurd cc

  stuck_told : (outcome : Outcome E S I) → what_of t outcome ≡ replayed.Stuck → outcome ≡ Stuck
  stuck_told Stuck is = refl
  stuck_told (Faulted kind place) is = absurd cc
  stuck_told (Went state rest) is = absurd cc
  stuck_told Waits is = absurd cc
  stuck_told Ended is = absurd cc

module _ (tells : Bool) (content other : Option (List ℕ)) (command : ReplayCommand) (names : List (List ℕ)) where
  -- what an answer to a run says of the bytes of both files
  of_run : (what : Replayed) (Comes : Tokens → (p : Program) → OutcomeIn (text_of p) → Type 0)
      → ((t : Tokens) (p : Program) (outcome : OutcomeIn (text_of p)) → what_of t outcome ≡ what → Comes t p outcome)
      → IsAnswered tells content other command names (Played what) → OfBoth tells content other (λ bytes second. HasRun command bytes second Comes)
  of_run what Comes means (bytes, second, whole, spelled, (short, (t, p, choices, holds, spells, is)), named) =
      (bytes, second, whole, spelled, (t, p, choices, holds, spells, means t p _ is))

  pub fault : (kind : ℕ) (place : Place) → IsAnswered tells content other command names (Played (replayed.Fault kind place))
      → OfBoth tells content other (MeansFault command kind place)
  fault kind place = of_run (replayed.Fault kind place) _ (λ t p outcome is. fault_told t kind place outcome is)

  pub ended : IsAnswered tells content other command names (Played replayed.Ended) → OfBoth tells content other (MeansEnded command)
  ended = of_run replayed.Ended _ (λ t p outcome is. ended_told t outcome is)

  pub waits : IsAnswered tells content other command names (Played replayed.Waits) → OfBoth tells content other (MeansWaits command)
  waits = of_run replayed.Waits _ (λ t p outcome is. waits_told t outcome is)

  pub still_running : IsAnswered tells content other command names (Played replayed.Running) → OfBoth tells content other (MeansStillRunning command)
  still_running = of_run replayed.Running _ (λ t p outcome is. running_told t outcome is)

  pub no_step : IsAnswered tells content other command names (Played replayed.Stuck) → OfBoth tells content other (MeansNoStep command)
  no_step = of_run replayed.Stuck _ (λ t p outcome is. stuck_told t outcome is)

  pub no_choices : IsAnswered tells content other command names BadChoices → OfFile tells other MeansNoChoices
  no_choices (bytes, second, whole, spelled, (short, holds, none), named) = (second, spelled, none)
