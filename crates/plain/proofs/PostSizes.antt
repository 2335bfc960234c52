-- How many objects and pairs the graphs of a post have.
use Rattle.std.proofs.Common.{◌≡◌, ℕ, ◌+◌, ◌≤◌, List, [], ◌∷◌, length, Option, None, Some, arith}
use Rattle.std.proofs.lemmas.List.{length-map}
use Rattle.graph.specs.declared.object.Object.{Object}
use Rattle.graph.specs.declared.parts.Parts.{Parts}
use Rattle.graph.specs.Maps.{object_at}
use Rattle.changes.specs.declared.reach.Reach.{Reach}
use Rattle.changes.specs.declared.reach.Reach.TheVariants as to
use Rattle.changes.specs.Parts.{replaced, with_object}
use Rattle.changes.specs.Posted.{Posted, on_held, on_object, on_reach}

-- so many objects more at most, and one pair
pub record IsWithin (parts : Parts) (made : ℕ) (after : Parts) : Type 0 where
  pub objects : length after.objects ≤ length parts.objects + made
  pub pairs : length after.unequal ≤ length parts.unequal + 1

abbrev pub AreWithin : Parts → ℕ → List Parts → Type 0
AreWithin parts made [] = Unit {0}
AreWithin parts made (first ∷ rest) = IsWithin parts made first × AreWithin parts made rest

pub within_by : (parts : Parts) (made : ℕ) (after : Parts) → length after.objects ≤ length parts.objects + made → length after.unequal ≤ length parts.unequal + 1 → IsWithin parts made after
within_by parts made after objects pairs = record { objects = objects; pairs = pairs }

pub only_within : (parts : Parts) (made : ℕ) (after : Parts) → length after.objects ≤ length parts.objects + made → length after.unequal ≤ length parts.unequal + 1 → AreWithin parts made (after ∷ [])
only_within parts made after objects pairs = (within_by parts made after objects pairs, tt)

-- as many objects, and as many pairs
pub same_within : (parts after : Parts) → length after.objects ≡ length parts.objects → length after.unequal ≡ length parts.unequal → AreWithin parts 0 (after ∷ [])
same_within parts after objects pairs = only_within parts 0 after (omega arith) (omega arith)

pub object_long : (key : ℕ) (object : Object) (parts : Parts) → length (with_object key object parts).objects ≡ length parts.objects
object_long key object parts = length-map parts.objects (replaced key object)

pub held_within : (parts : Parts) (made : ℕ) (found : Option ℕ) (onward : ℕ → Posted) → ((key : ℕ) → AreWithin parts made (onward key).graphs) → AreWithin parts made (on_held found onward).graphs
held_within parts made None onward each = tt
held_within parts made (Some key) onward each = each key

pub object_within : (parts : Parts) (made : ℕ) (found : Option Object) (onward : Object → Posted) → ((object : Object) → AreWithin parts made (onward object).graphs) → AreWithin parts made (on_object found onward).graphs
object_within parts made None onward each = tt
object_within parts made (Some object) onward each = each object

pub reach_within : (parts : Parts) (made : ℕ) (reach : Reach) (onward : ℕ → Object → ℕ → Posted) → ((key : ℕ) (object : Object) (from : ℕ) → AreWithin parts made (onward key object from).graphs) →
    AreWithin parts made (on_reach parts reach onward).graphs
reach_within parts made to.Nothing onward each = tt
reach_within parts made (to.Fault kind) onward each = tt
reach_within parts made (to.Number small) onward each = tt
reach_within parts made (to.Anything live) onward each = tt
reach_within parts made (to.Room key from) onward each = object_within parts made (object_at parts.objects key) (λ object. onward key object from) (λ object. each key object from)
