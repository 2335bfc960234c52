-- Values that stay, however far from 0 they are.
use Rattle.std.specs.Prelude.{ℕ, Bool, ◌||◌, nat_eq}
use Rattle.std.specs.List.{list_any}
use Rattle.graph.specs.declared.parts.Parts.{Parts}
use Rattle.tidying.specs.Held.{is_linked}

-- the value lies beyond an end of a segment, or is a port
abbrev pub is_spared : Parts → ℕ → Bool
is_spared parts key = list_any (λ entry. is_linked key entry.object.shape) parts.objects || list_any (λ port. nat_eq port key) parts.ports
