-- Words in which the laws of graphs are stated.
use Rattle.std.specs.Prelude.{◌≡◌, ℕ, Option, IsSome}
use Rattle.graph.specs.declared.parts.Parts.{Parts}
use Rattle.graph.specs.Maps.{object_at, value_at}

-- no two keys at which something stands get one new key
pub record IsOneToOne {Item : Type 0} (rename : ℕ → ℕ) (at : ℕ → Option Item) : Type 0 where
  pub same : (one other : ℕ) → IsSome (at one) → IsSome (at other) → rename one ≡ rename other → one ≡ other

-- objects and values get other keys, one to one
pub record IsRenaming (of_objects of_values : ℕ → ℕ) (parts : Parts) : Type 0 where
  pub objects : IsOneToOne of_objects (object_at parts.objects)
  pub values : IsOneToOne of_values (value_at parts.values)
