-- What registers and ports hold, where the last node of a segment is a region.
use Rattle.std.proofs.Common.{ℕ, Bool, true, false, List, length, nat_eq, Option, Some, sym, subst}
use Rattle.std.specs.Prelude.{IsSome, if◌then◌else◌}
use Rattle.bytes_core.specs.declared.word.Word.{Word}
use Rattle.graph.specs.declared.value.Target.{Target}
use Rattle.graph.specs.declared.value.Target.TheVariants.{Region, First, Last, Each}
use Rattle.graph.specs.declared.value.Value.{Value}
use Rattle.graph.specs.declared.value.Value.TheVariants.{Const, Number, Any, Address}
use Rattle.graph.specs.declared.parts.Parts.{Parts}
use Rattle.graph.specs.Maps.{value_at}
use Rattle.graph.specs.Meaning.{IsRooted}
use Rattle.graph.specs.Whole.{IsGraph}
use Rattle.graph.proofs.Found.{Holds-some}
use Rattle.materialise.specs.SplitLast.{last_target}
use Rattle.materialise.proofs.FirstCase.{IsSplit}
use Rattle.materialise.proofs.LastCase.{after, change, value_was}

module _ (parts : Parts) (graph : IsGraph parts) (key : ℕ) (split : IsSplit parts key) where
  abbrev become : Value → Value
  become = change parts graph key split

  -- what an address leads to is held where the changed one's is
  pub rooted_same : (roots : List ℕ) (value : Value) (word : Word) → (IsRooted roots (Some value) word → IsRooted roots (Some (become value)) word) × (IsRooted roots (Some (become value)) word → IsRooted roots (Some value) word)
  rooted_same roots (Const number size) word = (λ rooted. rooted, λ rooted. rooted)
  rooted_same roots (Number size) word = (λ rooted. rooted, λ rooted. rooted)
  rooted_same roots Any word = (λ rooted. rooted, λ rooted. rooted)
  rooted_same roots (Address other offset target) word = by_key (nat_eq other key) target
    where
      by_key : (b : Bool) (target : Target) →
          (IsRooted roots (Some (Address other offset target)) word → IsRooted roots (Some (if b then last_target (length parts.objects) key target offset else Address other offset target)) word)
          × (IsRooted roots (Some (if b then last_target (length parts.objects) key target offset else Address other offset target)) word → IsRooted roots (Some (Address other offset target)) word)
      by_key false target = (λ rooted. rooted, λ rooted. rooted)
      by_key true Region = (λ rooted. rooted, λ rooted. rooted)
      by_key true First = (λ rooted. rooted, λ rooted. rooted)
      by_key true Last = (λ rooted. rooted, λ rooted. rooted)
      by_key true Each = (λ rooted. rooted, λ rooted. rooted)

  -- so it is at a value that is there
  pub rooted_there : (roots : List ℕ) (at : ℕ) (word : Word) → IsSome (value_at parts.values at) →
      (IsRooted roots (value_at parts.values at) word → IsRooted roots (value_at (after parts graph key split).values at) word)
      × (IsRooted roots (value_at (after parts graph key split).values at) word → IsRooted roots (value_at parts.values at) word)
  rooted_there roots at word some =
      let held = Holds-some (value_at parts.values at) some in
      let there = value_was parts graph key split at held.item held.is in
      let both = rooted_same roots held.item word in (
        λ rooted. subst (λ (o : Option Value). IsRooted roots o word) (sym there) (both.0 (subst (λ (o : Option Value). IsRooted roots o word) held.is rooted)),
        λ rooted. subst (λ (o : Option Value). IsRooted roots o word) (sym held.is) (both.1 (subst (λ (o : Option Value). IsRooted roots o word) there rooted)),
      )
