-- What comes of what a context answers at an operator, where memory may have been wanting.
use Rattle.std.specs.Prelude.{ℕ, Result, Ok, Err}
use Rattle.cbase.specs.declared.no_memory.NoMemory.{NoMemory}
use Rattle.cbase.specs.declared.place.Place.{Place}
use Rattle.typing.specs.declared.ctypes.found.Broken.{Broken}
use Rattle.typing.specs.declared.ctypes.found.Outcome.{Outcome}
use Rattle.expressions.specs.declared.found.Found.{Found}
use Rattle.expressions.specs.declared.known.Known.{Known}
use Rattle.expressions.specs.Context.{Context}
use Rattle.expressions.specs.Operated.{Finished}

-- nothing is found where memory was wanting
abbrev pub FinishedBy : (Broken → Place) → Known → ℕ → Context → Result Outcome NoMemory → Context → Found Known → Type 0
FinishedBy place rest number old (Ok outcome) new found = Finished place rest number old outcome new found
FinishedBy place rest number old (Err error) new found = ⊥
