-- The marks of a range in which a value is written.
use Rattle.std.proofs.Common.{◌≡◌, ℕ, ◌-◌, Bool, true, false, not, ◌&&◌, List, [], ◌∷◌, replicate, get_or, nat_lt, Option, Some, refl, sym, ◌∙◌, ap, arith}
use Rattle.std.specs.Prelude.{if◌then◌else◌}
use Rattle.std.specs.List.{list_all}
use Rattle.std.specs.Option.{option_map_or}
use Rattle.std.proofs.lemmas.List.{get_or-replicate}
use Rattle.graph.specs.declared.edges.HasValue.{HasValue}
use Rattle.graph.specs.declared.parts.Parts.{Parts}
use Rattle.graph.specs.declared.value.Value.{Value}
use Rattle.graph.specs.Choices.{is_free}
use Rattle.graph.specs.Maps.{value_at}
use Rattle.graph.specs.Sizes.{value_class, is_zero}
use Rattle.graph.specs.WellFormed.{passes_at}
use Rattle.graph.proofs.Tests.{and_both}
use Rattle.changes.specs.Ranges.{edge_for, class_for}
use Rattle.reinterpret.specs.Writing.{edge_at}
use Rattle.plain.specs.Marks.{Piece, is_in_range, written_mark}
use Rattle.plain.specs.Shown.{is_sure, bare_mark, mark_in}
use Rattle.plain.proofs.Ranges.{range_low, range_high}

module _ (from size key : ℕ) (value : Value) where
  abbrev new : List HasValue
  new = edge_for value (edge_at from size key)

  class_at : (place : ℕ) → is_in_range from size place ≡ true → get_or (replicate size (class_for value)) (place - from) 0 ≡ class_for value
  class_at place is = get_or-replicate size (place - from) (class_for value) 0 (let a = range_low from size place is in let b = range_high from size place is in omega arith)

  -- the edge of the value, or the class 0
  pub written_within : (place : ℕ) → is_in_range from size place ≡ true → written_mark (is_zero value) size from place ≡ mark_in new place (bare_mark (get_or (replicate size (class_for value)) (place - from) 0))
  written_within place is = by_zero (is_zero value) refl ∙ ap (λ (class : ℕ). mark_in new place (bare_mark class)) (sym (class_at place is))
    where
      by_zero : (b : Bool) → is_zero value ≡ b → written_mark b size from place ≡ mark_in (if b then [] else edge_at from size key ∷ []) place (bare_mark (if b then 0 else value_class value))
      by_zero true is_null = refl
      by_zero false differs = sym (ap (λ (b : Bool). if b then Piece from size else bare_mark (value_class value)) is)

  pub written_beside : (place : ℕ) → is_in_range from size place ≡ false → is_free new place ≡ true
  written_beside place out = by_zero (is_zero value)
    where
      by_zero : (b : Bool) → is_free (if b then [] else edge_at from size key ∷ []) place ≡ true
      by_zero true = refl
      by_zero false = and_both (not (is_in_range from size place)) true (ap not out) refl

  pub written_tight : (place : ℕ) → is_in_range from size place ≡ true → (nat_lt 1 (get_or (replicate size (class_for value)) (place - from) 0) && is_free new place) ≡ false
  written_tight place is = ap (λ (class : ℕ). nat_lt 1 class && is_free new place) (class_at place is) ∙ by_zero (is_zero value)
    where
      no_more : (a b : Bool) → b ≡ false → (a && b) ≡ false
      no_more true b is = is
      no_more false b is = refl

      by_zero : (b : Bool) → (nat_lt 1 (if b then 0 else value_class value) && is_free (if b then [] else edge_at from size key ∷ []) place) ≡ false
      by_zero true = refl
      by_zero false = no_more (nat_lt 1 (value_class value)) (not (is_in_range from size place) && true) (ap (λ (b : Bool). not b && true) is)

  pub written_sure : (parts : Parts) → value_at parts.values key ≡ Some value → is_sure value ≡ true → list_all (λ (edge : HasValue). passes_at parts is_sure edge.value) new ≡ true
  written_sure parts stands sure = by_zero (is_zero value)
    where
      by_zero : (b : Bool) → list_all (λ (edge : HasValue). passes_at parts is_sure edge.value) (if b then [] else edge_at from size key ∷ []) ≡ true
      by_zero true = refl
      by_zero false = and_both (passes_at parts is_sure key) true (ap (λ (o : Option Value). option_map_or is_sure o false) stands ∙ sure) refl
