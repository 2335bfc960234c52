-- What a reader of what stands in a tree does, of which the readers of the grammar's parts are made.
use denote.Ref.{MutBor}
use Rattle.std.specs.Prelude.{◌≡◌, ℕ, ◌+◌, ◌<◌, ◌^◌, Result, OnOk}
use Rattle.cbase.specs.declared.no_memory.NoMemory.{NoMemory}
use Rattle.cparser.specs.ReadingSteps.{reads}
use Rattle.cparser.specs.State.{State}
use Rattle.cparser.specs.declared.wanted.Wanted.{Wanted}

-- a function that reads trees of at most `depth` levels
pub record Nests (depth : ℕ) (pre : MutBor State → ℕ → Wanted → Type 0)
    (post : MutBor State → ℕ → Wanted → Result (Unit {0}) NoMemory → MutBor State → Type 0) : Type 0 where
  pub bounded : depth + 1 < 2 ^ 32
  pub callable : (old : MutBor State) (wanted : Wanted) → pre old depth wanted
  pub told : (old new : MutBor State) (wanted : Wanted) (r : Result (Unit {0}) NoMemory) → post old depth wanted r new
      → OnOk r (new.now ≡ reads depth wanted old.now)
