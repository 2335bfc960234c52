-- That a file was opened, by the count and the name.
use Rattle.std.proofs.Common.{◌≡◌, ℕ, List, refl}
use Rattle.outside.specs.Faults.{counted}
use Rattle.outside.specs.Opened.{Openings, opened}

-- one opening more was counted, and the last one has this name
pub is_opened : (before after : Openings) (name : List ℕ) → after.count ≡ counted before.count → after.last ≡ name → after ≡ opened before name
is_opened before after name more named = rw (← more) (rw (← named) refl)
