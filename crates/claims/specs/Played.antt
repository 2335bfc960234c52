-- What it means that a run of a program was made with given choices, and what it came to.
use Rattle.std.specs.Prelude.{◌≡◌, ℕ, Bool, IsTrue, Option, Some, List}
use Rattle.cbase.specs.declared.place.Place.{Place}
use Rattle.choices.specs.declared.choice.Choice.{Choice}
use Rattle.choices.specs.Format.{SpellsChoices}
use Rattle.command_line.specs.declared.replay.ReplayCommand.{ReplayCommand}
use Rattle.ctokens.specs.declared.token.Tokens.{Tokens}
use Rattle.ccheck.specs.Refusals.{place_at}
use Rattle.c_machine.specs.Program.{Program}
use Rattle.c_machine.specs.Run.{run_of}
use Rattle.c_machine.specs.State.{OutcomeIn, StateIn, Went, Waits, Ended, Faulted, Stuck}
use Rattle.c_machine.specs.Trees.{text_of}
use Rattle.replay.specs.Judged.{HoldsProgram}

-- that is so of the bytes of both files, which were read to their ends. Where `tells` says that the content of files is told, they are the contents of the files.
abbrev pub OfBoth : Bool → Option (List ℕ) → Option (List ℕ) → (List ℕ → List ℕ → Type 0) → Type 0
OfBoth tells content other Means =
    (bytes : List ℕ) × (second : List ℕ) × (IsTrue tells → content ≡ Some bytes) × (IsTrue tells → other ≡ Some second) × Means bytes second

-- FILE holds a program, CHOICES spells choices, and what a run of the program with these comes to within the steps of the words is so
abbrev pub HasRun : ReplayCommand → List ℕ → List ℕ → (Tokens → (p : Program) → OutcomeIn (text_of p) → Type 0) → Type 0
HasRun command bytes second Comes =
    (t : Tokens) × (p : Program) × (choices : List Choice) × HoldsProgram command bytes t p × SpellsChoices second choices
    × Comes t p (run_of (text_of p) choices command.steps)

-- a fault: the run meets it, of this kind, at the token that stands at this place
abbrev pub MeansFault : ReplayCommand → ℕ → Place → List ℕ → List ℕ → Type 0
MeansFault command kind place bytes second =
    HasRun command bytes second (λ t p outcome. (token : Place) × (outcome ≡ Faulted kind token) × (place ≡ place_at t token.at))

-- `ended`: the run is over, and met no fault
abbrev pub MeansEnded : ReplayCommand → List ℕ → List ℕ → Type 0
MeansEnded command bytes second = HasRun command bytes second (λ t p outcome. outcome ≡ Ended)

-- `waits`: it asks for a choice, and each of those of CHOICES is taken
abbrev pub MeansWaits : ReplayCommand → List ℕ → List ℕ → Type 0
MeansWaits command bytes second = HasRun command bytes second (λ t p outcome. outcome ≡ Waits)

-- `still running`: it stands in a state behind all the steps of the words
abbrev pub MeansStillRunning : ReplayCommand → List ℕ → List ℕ → Type 0
MeansStillRunning command bytes second =
    HasRun command bytes second (λ t p outcome. (state : StateIn (text_of p)) × (rest : List Choice) × (outcome ≡ Went state rest))

-- `gave up: no step`: it comes where the machine has no step
abbrev pub MeansNoStep : ReplayCommand → List ℕ → List ℕ → Type 0
MeansNoStep command bytes second = HasRun command bytes second (λ t p outcome. outcome ≡ Stuck)
