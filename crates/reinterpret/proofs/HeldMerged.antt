-- What registers hold where one value stands in place of another.
use Rattle.std.proofs.Common.{◌≡◌, ℕ, refl}
use Rattle.std.specs.Prelude.{option_map}
use Rattle.graph.specs.declared.parts.Held.{Held}
use Rattle.graph.specs.declared.parts.Parts.{Parts}
use Rattle.graph.specs.Maps.{held_by}
use Rattle.graph.proofs.Found.{found-changed}
use Rattle.changes.specs.Merging.{merged_key, merged_held, merged}

pub held_merged : (kept gone : ℕ) (parts : Parts) (register : ℕ) → held_by (merged kept gone parts).registers register ≡ option_map (merged_key kept gone) (held_by parts.registers register)
held_merged kept gone parts register =
    found-changed (λ (held : Held). held.register) (λ held. held.value) (λ (held : Held). held.register) (λ held. held.value) (merged_held kept gone) (merged_key kept gone) (λ held. refl) (λ held. refl) parts.registers register
