-- What registers, ports and variables hold, where the first node of a segment is a region.
use Rattle.std.proofs.Common.{◌≡◌, ℕ, Bool, true, false, not, ◌&&◌, List, length, nat_eq, Option, Some, refl, sym, ◌∙◌, ap, subst, eqb-true}
use Rattle.std.specs.Prelude.{IsSome, if◌then◌else◌}
use Rattle.std.specs.Option.{option_map_or}
use Rattle.std.proofs.lemmas.Bool.{false≢true}
use Rattle.bytes_core.specs.declared.word.Word.{Word}
use Rattle.bytes_core.specs.Release.{is_heap}
use Rattle.graph.specs.declared.object.Object.{Object}
use Rattle.graph.specs.declared.value.Target.{Target}
use Rattle.graph.specs.declared.value.Target.TheVariants.{Region, First, Last, Each}
use Rattle.graph.specs.declared.value.Value.{Value}
use Rattle.graph.specs.declared.value.Value.TheVariants.{Const, Number, Any, Address}
use Rattle.graph.specs.declared.parts.Named.{Named}
use Rattle.graph.specs.declared.parts.Parts.{Parts}
use Rattle.graph.specs.Maps.{object_at, value_at, storage_of}
use Rattle.graph.specs.Meaning.{IsRooted}
use Rattle.graph.specs.WellFormed.{is_storage}
use Rattle.graph.specs.Whole.{IsGraph}
use Rattle.graph.proofs.Closed.{closed_of}
use Rattle.graph.proofs.Found.{Holds-some, found-all}
use Rattle.materialise.specs.SplitFirst.{first_target}
use Rattle.materialise.proofs.FirstCase.{IsSplit, object, after, change, there_other, value_was}
use Rattle.materialise.proofs.FirstForm.{is_allocated}

module _ (parts : Parts) (graph : IsGraph parts) (key : ℕ) (split : IsSplit parts key) where
  abbrev become : Value → Value
  become = change parts graph key split

  -- what an address leads to is held where the changed one's is
  pub rooted_same : (roots : List ℕ) (value : Value) (word : Word) → (IsRooted roots (Some value) word → IsRooted roots (Some (become value)) word) × (IsRooted roots (Some (become value)) word → IsRooted roots (Some value) word)
  rooted_same roots (Const number size) word = (λ rooted. rooted, λ rooted. rooted)
  rooted_same roots (Number size) word = (λ rooted. rooted, λ rooted. rooted)
  rooted_same roots Any word = (λ rooted. rooted, λ rooted. rooted)
  rooted_same roots (Address other offset target) word = by_key (nat_eq other key) target
    where
      by_key : (b : Bool) (target : Target) →
          (IsRooted roots (Some (Address other offset target)) word → IsRooted roots (Some (if b then first_target (length parts.objects) key target offset else Address other offset target)) word)
          × (IsRooted roots (Some (if b then first_target (length parts.objects) key target offset else Address other offset target)) word → IsRooted roots (Some (Address other offset target)) word)
      by_key false target = (λ rooted. rooted, λ rooted. rooted)
      by_key true Region = (λ rooted. rooted, λ rooted. rooted)
      by_key true First = (λ rooted. rooted, λ rooted. rooted)
      by_key true Last = (λ rooted. rooted, λ rooted. rooted)
      by_key true Each = (λ rooted. rooted, λ rooted. rooted)

  -- so it is at a value that is there
  pub rooted_there : (roots : List ℕ) (at : ℕ) (word : Word) → IsSome (value_at parts.values at) →
      (IsRooted roots (value_at parts.values at) word → IsRooted roots (value_at (after parts graph key split).values at) word)
      × (IsRooted roots (value_at (after parts graph key split).values at) word → IsRooted roots (value_at parts.values at) word)
  rooted_there roots at word some =
      let held = Holds-some (value_at parts.values at) some in
      let there = value_was parts graph key split at held.item held.is in
      let both = rooted_same roots held.item word in (
        λ rooted. subst (λ (o : Option Value). IsRooted roots o word) (sym there) (both.0 (subst (λ (o : Option Value). IsRooted roots o word) held.is rooted)),
        λ rooted. subst (λ (o : Option Value). IsRooted roots o word) (sym held.is) (both.1 (subst (λ (o : Option Value). IsRooted roots o word) there rooted)),
      )

  -- the storage of a variable is neither the segment nor the region
  pub storage_other : (variable at : ℕ) → storage_of parts.variables variable ≡ Some at → (nat_eq at key ≡ false) × (nat_eq at (length parts.objects) ≡ false)
  storage_other variable at is =
      let there = Holds-some (object_at parts.objects at) ((closed_of parts graph.well_formed).variables variable at is) in
      (by_key (nat_eq at key) refl, there_other parts graph key split at there.item there.is)
    where
      stored : option_map_or is_storage (object_at parts.objects at) false ≡ true
      stored = found-all (λ (named : Named). named.variable) (λ named. named.object) (λ k. option_map_or is_storage (object_at parts.objects k) false) parts.variables variable at graph.well_formed.variables_have_storage is

      by_key : (b : Bool) → nat_eq at key ≡ b → nat_eq at key ≡ false
      by_key false other = other
      by_key true same =
          let here : is_storage (object parts graph key split) ≡ true = sym (ap (λ (o : Option Object). option_map_or is_storage o false) (ap (object_at parts.objects) (eqb-true _ _ same) ∙ split.stands)) ∙ stored in
          absurd (false≢true (sym (by_life split.base.live (is_heap split.base.kind) (is_allocated parts graph key split)) ∙ here))
        where
          by_life : (live heap : Bool) → heap ≡ true → (live && not heap) ≡ false
          by_life false heap is = refl
          by_life true heap is = ap not is
