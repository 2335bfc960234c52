-- What is gathered, and what is handed on behind it.
use Rattle.std.proofs.Common.{◌≡◌, ℕ, nat_eq, drop}
use Rattle.std.specs.Map.{lookup}
use Rattle.c_text.specs.FirstRows.{or_else, first_in}
use Rattle.c_text.specs.Results.{result_here}
use Rattle.c_text.proofs.results.gather_results.Given as goal

abbrev pub invariant-loop-row : goal.invariant-loop-row
invariant-loop-row l = (token : ℕ) →
    or_else (lookup (nat_eq token) l.results.entries) (first_in (result_here token) (drop l.row-index l.handed)) ≡ first_in (result_here token) l.handed
