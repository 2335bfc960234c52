-- What is gathered, and what is handed on behind it.
use Rattle.std.proofs.Common.{◌≡◌, ℕ, drop}
use Rattle.std.specs.Map.{lookup}
use Rattle.c_text.specs.FirstRows.{or_else, first_in}
use Rattle.c_text.specs.Stores.{is_key, store_here}
use Rattle.c_text.proofs.stores.gather_stores.Given as goal

abbrev pub invariant-loop-row : goal.invariant-loop-row
invariant-loop-row l = (object number : ℕ) →
    or_else (lookup (is_key object number) l.stores.entries) (first_in (store_here object number) (drop l.row-index l.handed))
    ≡ first_in (store_here object number) l.handed
