-- What is gathered, and what is handed on behind it.
use Rattle.std.proofs.Common.{◌≡◌, ℕ, nat_eq, drop}
use Rattle.std.specs.Map.{lookup}
use Rattle.c_text.specs.FirstRows.{or_else, first_in}
use Rattle.c_text.specs.Links.{link_here}
use Rattle.c_text.proofs.links.gather_links.Given as goal

abbrev pub invariant-loop-row : goal.invariant-loop-row
invariant-loop-row l = (token : ℕ) →
    or_else (lookup (nat_eq token) l.links.entries) (first_in (link_here token) (drop l.row-index l.handed)) ≡ first_in (link_here token) l.handed
