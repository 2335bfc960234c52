-- What is left of a row, and what lies behind its end.
use Rattle.std.specs.Prelude.{◌≡◌, ℕ, ◌+◌, ◌≤◌, ◌<◌, List, [], drop, length}
use Rattle.std.proofs.Common.{arith, length-drop}
use Rattle.std.proofs.lemmas.List.{drop_all}

pub beyond : {A : Type 0} (row : List A) (at : ℕ) → length row ≤ at → drop at row ≡ []
beyond row at behind = drop_all at row behind

-- a number of tokens that are there, behind so many others
pub fits_behind : {A : Type 0} (row : List A) (at count most : ℕ) → count ≤ length (drop at row) → at < most → length row < most → at + count < most
fits_behind row at count most there before inside = omega (arith, length-drop at row)
