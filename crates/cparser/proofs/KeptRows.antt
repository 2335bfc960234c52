-- What leaves the row of a state as it is.
use Rattle.std.proofs.Common.{◌≡◌, Bool, true, false, if◌then◌else◌, List, refl}
use Rattle.cgrammar.specs.Terminals.{Terminal}
use Rattle.cparser.specs.State.{State}
use Rattle.cparser.specs.Steps.{Inner}
use Rattle.cparser.specs.declared.wanted.Wanted.{Wanted}

abbrev pub KeepsRow : (State → State) → Type 0
KeepsRow step = (s : State) → (step s).row ≡ s.row

-- the readers of what stands in a tree do
abbrev pub KeepRow : Inner → Type 0
KeepRow inner = (wanted : Wanted) (s : State) → (inner.reads wanted s).row ≡ s.row

-- the row of a state that a test chooses
pub row_if : (test : Bool) (s t : State) → (if test then s else t).row ≡ (if test then s.row else t.row)
row_if true s t = refl
row_if false s t = refl

pub row_either : (test : Bool) (row : List Terminal) → (if test then row else row) ≡ row
row_either true row = refl
row_either false row = refl

pub ruleset chosen_rows = (row_if, row_either)
