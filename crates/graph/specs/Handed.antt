-- Words and blocks that are handed on from one graph to another.
use Rattle.std.specs.Prelude.{◌≡◌, ℕ, IsSome}
use Rattle.graph.specs.declared.parts.Parts.{Parts}
use Rattle.graph.specs.Laws.{IsRenaming}
use Rattle.graph.specs.Maps.{object_at, value_at}
use Rattle.graph.specs.Meaning.{Assignment, Meets, maps_of}
use Rattle.graph.specs.Renaming.{renamed}
use Rattle.graph.specs.State.{State}
use Rattle.graph.specs.WellFormed.{IsWellFormed}

-- what is under keys of parts is, in another assignment, under the new keys
pub record AreSentOn (of_objects of_values : ℕ → ℕ) (parts : Parts) (given other : Assignment) : Type 0 where
  pub words : (key : ℕ) → IsSome (value_at parts.values key) → other.word (of_values key) ≡ given.word key
  pub blocks : (key : ℕ) → IsSome (object_at parts.objects key) → other.blocks (of_objects key) ≡ given.blocks key

pub record IsHandedOn (of_objects of_values : ℕ → ℕ) (parts : Parts) (state : State) : Type 0 where
  -- from the old keys to the new ones
  pub onward : (given : Assignment) → Meets (maps_of parts) state given →
      (other : Assignment) × Meets (maps_of (renamed of_objects of_values parts)) state other × AreSentOn of_objects of_values parts given other
  -- and back
  pub backward : (other : Assignment) → Meets (maps_of (renamed of_objects of_values parts)) state other →
      (given : Assignment) × Meets (maps_of parts) state given × AreSentOn of_objects of_values parts given other

abbrev pub RenamingHandsOn : Type 0
RenamingHandsOn = (of_objects of_values : ℕ → ℕ) (parts : Parts) (state : State) → IsRenaming of_objects of_values parts → IsWellFormed parts → IsHandedOn of_objects of_values parts state
