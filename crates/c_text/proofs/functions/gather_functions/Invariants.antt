-- What is gathered, and what is handed on behind it.
use Rattle.std.proofs.Common.{◌≡◌, ℕ, ◌-◌, drop, length, nat_eq, option_map}
use Rattle.std.specs.Map.{lookup}
use Rattle.c_text.specs.FirstRows.{or_else}
use Rattle.c_text.specs.Functions.{behind_in}
use Rattle.c_text.proofs.functions.gather_functions.Given as goal

abbrev pub invariant-loop-at : goal.invariant-loop-at
invariant-loop-at l = (token : ℕ) →
    or_else (option_map (λ (k : ℕ). drop k l.handed) (lookup (nat_eq token) l.functions.entries)) (behind_in token (drop l.at l.handed)) ≡ behind_in token l.handed

abbrev pub decreases-loop-at : goal.decreases-loop-at
decreases-loop-at l = length l.handed - l.at
