-- Values that are told apart, one pair after the other.
use Rattle.std.proofs.Common.{◌≡◌, ℕ, ◌+◌, ◌<◌, ◌≤◌, Bool, true, false, length, get_or, nat_eq, None, Some, refl, sym, ◌∙◌, ap, subst, eqb-true, arith, inl, inr}
use Rattle.std.specs.Prelude.{slice_get, ◌↔◌}
use Rattle.std.proofs.lemmas.Bool.{false≢true}
use Rattle.std.proofs.lemmas.Option.{same_Some, slice_get_within}
use Rattle.graph.specs.declared.parts.Pair.{Pair}
use Rattle.graph.specs.Meaning.{Maps}
use Rattle.cover.specs.declared.content.Content.{Content}
use Rattle.cover.specs.Covers.{Pairing, known, IsPairOf, AreApart, IsApart, DifferFixed}
use Rattle.cover.specs.Checked.{IsNoneOf, IsApartBy, ArePairsApart, AreSomePairsApart}
use Rattle.cover.proofs.Forced.{get-at, other-at}

module _ (narrow : Maps) (one other : Content) where
  pub apart-differ : (fine : Bool) → ((fine ≡ true) ↔ DifferFixed one other) → fine ≡ true → (true ≡ true) ↔ AreApart narrow one other
  apart-differ fine (forth, back) is = (λ e. inr (forth is), λ are. refl)

  pub none-start : IsNoneOf narrow one other 0
  none-start place pair below is of_pair = omega arith

  pub none-next : (at : ℕ) (d : Pair) (fine : Bool) → IsNoneOf narrow one other at → at < length narrow.unequal → ((fine ≡ true) ↔ IsPairOf narrow one other (get_or narrow.unequal at d)) → fine ≡ false →
      IsNoneOf narrow one other (at + 1)
  none-next at d fine none within (forth, back) not_fine place pair below is of_pair = by_test (nat_eq place at) refl
    where
      by_test : (b : Bool) → nat_eq place at ≡ b → ⊥
      by_test true hit =
          false≢true (sym not_fine ∙ back (subst (IsPairOf narrow one other) (sym (same_Some _ _ (sym (get-at narrow.unequal at d within) ∙ ap (slice_get narrow.unequal) (sym (eqb-true place at hit)) ∙ is))) of_pair))
      by_test false miss = none place pair (other-at place at miss below) is of_pair

  pub none-found : (at : ℕ) (d : Pair) (fine : Bool) → at < length narrow.unequal → ((fine ≡ true) ↔ IsPairOf narrow one other (get_or narrow.unequal at d)) → fine ≡ true → (true ≡ true) ↔ AreApart narrow one other
  none-found at d fine within (forth, back) is = (λ e. inl (at, get_or narrow.unequal at d, get-at narrow.unequal at d within, forth is), λ are. refl)

  pub none-end : (at : ℕ) (fine : Bool) → IsNoneOf narrow one other at → length narrow.unequal ≤ at → ((fine ≡ true) ↔ DifferFixed one other) → fine ≡ false → (false ≡ true) ↔ AreApart narrow one other
  none-end at fine none all (forth, back) not_fine = (λ e. absurd (false≢true e), by_side)
    where
      by_side : AreApart narrow one other → false ≡ true
      by_side (inl (place, pair, is, of_pair)) = absurd (none place pair (let within = slice_get_within narrow.unequal place pair is in omega arith) is of_pair)
      by_side (inr differ) = sym not_fine ∙ back differ

module _ (wide narrow : Maps) (pairing : Pairing) where
  pub pairs-start : AreSomePairsApart wide narrow pairing 0
  pairs-start place pair below is = absurd (omega arith)

  pub pairs-next : (at : ℕ) (d : Pair) (fine : Bool) → AreSomePairsApart wide narrow pairing at → at < length wide.unequal → ((fine ≡ true) ↔ IsApartBy wide narrow pairing (get_or wide.unequal at d)) → fine ≡ true →
      AreSomePairsApart wide narrow pairing (at + 1)
  pairs-next at d fine some within (forth, back) is_fine place pair below is = by_test (nat_eq place at) refl
    where
      by_test : (b : Bool) → nat_eq place at ≡ b → IsApartBy wide narrow pairing pair
      by_test true hit = subst (IsApartBy wide narrow pairing) (same_Some _ _ (sym (get-at wide.unequal at d within) ∙ ap (slice_get wide.unequal) (sym (eqb-true place at hit)) ∙ is)) (forth is_fine)
      by_test false miss = some place pair (other-at place at miss below) is

  pub pairs-lack : (at : ℕ) (d : Pair) (fine : Bool) → at < length wide.unequal → ((fine ≡ true) ↔ IsApartBy wide narrow pairing (get_or wide.unequal at d)) → fine ≡ false →
      (false ≡ true) ↔ ArePairsApart wide narrow pairing
  pairs-lack at d fine within (forth, back) not_fine =
      (λ e. absurd (false≢true e), λ all. sym not_fine ∙ back (all at (get_or wide.unequal at d) (get-at wide.unequal at d within)))

  pub pairs-end : (at : ℕ) → AreSomePairsApart wide narrow pairing at → length wide.unequal ≤ at → (true ≡ true) ↔ ArePairsApart wide narrow pairing
  pairs-end at some all = (λ e place pair is. some place pair (let within = slice_get_within wide.unequal place pair is in omega arith) is, λ are. refl)

  -- where nothing is known of one of the two there is nothing to ask
  pub left-unknown : (pair : Pair) → known wide pairing pair.left ≡ None → (true ≡ true) ↔ IsApartBy wide narrow pairing pair
  left-unknown pair none = (λ e. subst (λ o. IsApart narrow o (known wide pairing pair.right)) (sym none) tt, λ are. refl)

  pub right-unknown : (pair : Pair) (one : Content) → known wide pairing pair.left ≡ Some one → known wide pairing pair.right ≡ None → (true ≡ true) ↔ IsApartBy wide narrow pairing pair
  right-unknown pair one is none =
      (λ e. subst (λ o. IsApart narrow o (known wide pairing pair.right)) (sym is) (subst (λ o. IsApart narrow (Some one) o) (sym none) tt), λ are. refl)

  pub both-known : (pair : Pair) (one other : Content) (fine : Bool) → known wide pairing pair.left ≡ Some one → known wide pairing pair.right ≡ Some other → ((fine ≡ true) ↔ AreApart narrow one other) →
      (fine ≡ true) ↔ IsApartBy wide narrow pairing pair
  both-known pair one other fine is other_is (forth, back) = (
    λ e. subst (λ o. IsApart narrow o (known wide pairing pair.right)) (sym is) (subst (λ o. IsApart narrow (Some one) o) (sym other_is) (forth e)),
    λ are. back (subst (λ o. IsApart narrow (Some one) o) other_is (subst (λ o. IsApart narrow o (known wide pairing pair.right)) is are)),
  )
