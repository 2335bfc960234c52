-- Two ascending rows with the same members are equal, and so are the numbers of the items that main needs.
use Rattle.std.proofs.Common.{◌≡◌, ℕ, zero, suc, ◌<◌, ◌⊎◌, inl, inr, Some, List, [], ◌∷◌, refl, sym, subst, arith}
use Rattle.std.specs.List.{AllPairs, Contains}
use Rattle.std.specs.Prelude.{slice_index_or}
use Rattle.std.specs.List.Sorted.{IsStrictlyIncreasing}
use Rattle.std.proofs.lemmas.List.Kept.{AllPairs-from_increasing}
use Rattle.ctokens.specs.ItemRows.{item_rows}
use Rattle.ctokens.specs.Need.{IsNeed}
use Rattle.ctokens.specs.declared.item_span.ItemSpan.{ItemSpan}
use Rattle.ctokens.specs.declared.token.Tokens.{Tokens}

module _ {A : Type 0} where
  no_member : (member : A) → Contains [] member → ⊥
  no_member member (k, below, here) = omega arith

  first_member : (member : A) (members : List A) → Contains (member ∷ members) member
  first_member member members = (0, omega arith, refl)

  later_member : (first : A) (members : List A) (member : A) → Contains members member → Contains (first ∷ members) member
  later_member first members member (k, below, here) = (suc k, omega arith, here)

  -- the first member, or a later one
  member_cases : (first : A) (members : List A) (member : A) → Contains (first ∷ members) member → (first ≡ member) ⊎ Contains members member
  member_cases first members member (zero, below, here) = inl here
  member_cases first members member (suc k, below, here) = inr (k, omega arith, here)

-- `Before` says that a member comes before another; of two at most one comes before the other
module _ {A : Type 0} (Before : A → A → Type 0) (one_way : (first second : A) → Before first second → Before second first → ⊥) where
  comes_first : (first : A) (members : List A) → AllPairs Before (first ∷ members) → (member : A) → Contains members member → Before first member
  comes_first first members ascends member (k, below, here) =
      let before : Before first (slice_index_or members k member) = ascends 0 (suc k) member (omega arith) (omega arith) in
      subst (Before first) here before

  ascends_later : (first : A) (members : List A) → AllPairs Before (first ∷ members) → AllPairs Before members
  ascends_later first members ascends i j d before within = ascends (suc i) (suc j) d (omega arith) (omega arith)

  -- the first members of two rows with the same members
  same_first : (x : A) (xs : List A) (y : A) (ys : List A) → AllPairs Before (x ∷ xs) → AllPairs Before (y ∷ ys)
      → Contains (y ∷ ys) x → Contains (x ∷ xs) y → x ≡ y
  same_first x xs y ys left right there here =
      elim (member_cases y ys x there) [
        | inl same ↦ sym same
        | inr later ↦ elim (member_cases x xs y here) [
          | inl same ↦ same
          | inr late ↦ absurd (one_way x y (comes_first x xs left y late) (comes_first y ys right x later))
        ]
      ]

  -- a later member of one row is a later member of the other
  same_later : (x : A) (xs ys : List A) → AllPairs Before (x ∷ xs) → (member : A) → Contains xs member → Contains (x ∷ ys) member → Contains ys member
  same_later x xs ys ascends member within among =
      elim (member_cases x ys member among) [
        | inl same ↦
            let before : Before x member = comes_first x xs ascends member within in
            let itself : Before x x = subst (Before x) (sym same) before in
            absurd (one_way x x itself itself)
        | inr later ↦ later
      ]

  same_row : (xs ys : List A) → AllPairs Before xs → AllPairs Before ys → ((member : A) → Contains xs member → Contains ys member)
      → ((member : A) → Contains ys member → Contains xs member) → xs ≡ ys
  same_row [] [] left right to from = refl
  same_row [] (y ∷ ys) left right to from = absurd (no_member y (from y (first_member y ys)))
  same_row (x ∷ xs) [] left right to from = absurd (no_member x (to x (first_member x xs)))
  same_row (x ∷ xs) (y ∷ ys) left right to from =
      let same : x ≡ y = same_first x xs y ys left right (to x (first_member x xs)) (from y (first_member y ys)) in
      let later : xs ≡ ys =
      same_row xs ys (ascends_later x xs left) (ascends_later y ys right)
      (λ member within. same_later x xs ys left member within (subst (λ z. Contains (z ∷ ys) member) (sym same) (to member (later_member x xs member within))))
      (λ member within. same_later y ys xs right member within (subst (λ z. Contains (z ∷ xs) member) same (from member (later_member y ys member within)))) in
      cc

-- two increasing rows of numbers with the same members are equal
same_numbers : (xs ys : List ℕ) → IsStrictlyIncreasing xs → IsStrictlyIncreasing ys → ((number : ℕ) → Contains xs number → Contains ys number)
    → ((number : ℕ) → Contains ys number → Contains xs number) → xs ≡ ys
same_numbers xs ys left right to from =
    same_row (λ (x : ℕ) (y : ℕ). x < y) (λ first second earlier later. omega (arith, earlier, later)) xs ys (AllPairs-from_increasing xs left) (AllPairs-from_increasing ys right) to from

pub same_need : (t : Tokens) (items : List ItemSpan) (numbers others : List ℕ) → IsNeed (item_rows t items) (Some numbers) → IsNeed (item_rows t items) (Some others)
    → numbers ≡ others
same_need t items numbers others (defined, are) (also, those) =
    same_numbers numbers others are.ascending those.ascending
    (λ number within. those.all number (are.only number within))
    (λ number within. are.all number (those.only number within))
