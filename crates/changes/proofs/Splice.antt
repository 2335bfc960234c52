-- Bytes with others in place of some of them: what stands in a range beside these, and in one within them.
use Rattle.std.proofs.Common.{◌≡◌, ℕ, ◌+◌, ◌-◌, ◌<◌, ◌≤◌, Bool, true, false, List, ◌++◌, length, take, drop, get_or, min, nat_lt, refl, sym, ◌∙◌, ap, ltb-true, arith, length-take, length-drop, length-append, ◌⊎◌, inl, inr}
use Rattle.std.proofs.lemmas.Bool.{ltb-false}
use Rattle.std.proofs.lemmas.List.{get_or-take, get_or-drop, get_or_append_left, get_or-append_right, ext_get_or, length-take-le}
use Rattle.changes.specs.Ranges.{spliced}

module _ {A : Type 0} (items : List A) (from : ℕ) (new : List A) (room : from + length new ≤ length items) (d : A) where
  front_long : length (take from items) ≡ from
  front_long = length-take-le from items (omega arith)

  pub length-spliced : length (spliced items from new) ≡ length items
  length-spliced =
      length-append (take from items) (new ++ drop (from + length new) items)
      ∙ (let a = front_long in let b = length-append new (drop (from + length new) items) in let c = length-drop (from + length new) items in omega arith)

  pub spliced-below : (i : ℕ) → i < from → get_or (spliced items from new) i d ≡ get_or items i d
  spliced-below i below =
      get_or_append_left (take from items) (new ++ drop (from + length new) items) d i (let a = front_long in omega arith) ∙ get_or-take from items i d below

  pub spliced-within : (i : ℕ) → from ≤ i → i < from + length new → get_or (spliced items from new) i d ≡ get_or new (i - from) d
  spliced-within i low high =
      get_or-append_right (take from items) (new ++ drop (from + length new) items) from i d front_long low
      ∙ get_or_append_left new (drop (from + length new) items) d (i - from) (omega arith)

  pub spliced-behind : (i : ℕ) → from + length new ≤ i → get_or (spliced items from new) i d ≡ get_or items i d
  spliced-behind i behind =
      get_or-append_right (take from items) (new ++ drop (from + length new) items) from i d front_long (omega arith)
      ∙ get_or-append_right new (drop (from + length new) items) (length new) (i - from) d refl (omega arith)
      ∙ get_or-drop (from + length new) items (i - from - length new) d
      ∙ ap (λ (n : ℕ). get_or items n d) (let e : from + length new + (i - from - length new) ≡ i = omega arith in e)

module _ {A : Type 0} where
  range_long : (xs : List A) (at size : ℕ) → at + size ≤ length xs → length (take size (drop at xs)) ≡ size
  range_long xs at size room = length-take size (drop at xs) ∙ ap (min size) (length-drop at xs) ∙ omega arith

  -- ranges of two lists that agree there are one
  pub range_same : (one other : List A) (at at' size : ℕ) (d : A) → at + size ≤ length one → at' + size ≤ length other →
      ((i : ℕ) → i < size → get_or one (at + i) d ≡ get_or other (at' + i) d) → take size (drop at one) ≡ take size (drop at' other)
  range_same one other at at' size d room room' same =
      ext_get_or d (take size (drop at one)) (take size (drop at' other)) (range_long one at size room ∙ sym (range_long other at' size room')) (λ i below.
      let small : i < size = let e = range_long one at size room in omega arith in
      get_or-take size (drop at one) i d small ∙ get_or-drop at one i d ∙ same i small ∙ sym (get_or-take size (drop at' other) i d small ∙ get_or-drop at' other i d))

module _ {A : Type 0} (items : List A) (from : ℕ) (new : List A) (room : from + length new ≤ length items) (d : A) where
  -- a range beside the new items
  pub range_beside : (at size : ℕ) → at + size ≤ length items → (at + size ≤ from) ⊎ (from + length new ≤ at) →
      take size (drop at (spliced items from new)) ≡ take size (drop at items)
  range_beside at size within beside =
      range_same (spliced items from new) items at at size d (let e = length-spliced items from new room d in omega arith) within (λ i below. each i below beside)
    where
      each : (i : ℕ) → i < size → (at + size ≤ from) ⊎ (from + length new ≤ at) → get_or (spliced items from new) (at + i) d ≡ get_or items (at + i) d
      each i below (inl low) = spliced-below items from new room d (at + i) (omega arith)
      each i below (inr high) = spliced-behind items from new room d (at + i) (omega arith)

  -- a range within them
  pub range_within : (at size : ℕ) → from ≤ at → at + size ≤ from + length new →
      take size (drop at (spliced items from new)) ≡ take size (drop (at - from) new)
  range_within at size low high =
      range_same (spliced items from new) new at (at - from) size d (let e = length-spliced items from new room d in omega arith) (omega arith) (λ i below.
      spliced-within items from new room d (at + i) (omega arith) (omega arith) ∙ ap (λ (n : ℕ). get_or new n d) (let e : at + i - from ≡ at - from + i = omega arith in e))

  -- what is written over is forgotten
  pub spliced-twice : (mid : List A) → length mid ≡ length new → spliced (spliced items from new) from mid ≡ spliced items from mid
  spliced-twice mid same =
      ext_get_or d (spliced (spliced items from new) from mid) (spliced items from mid)
      (length-spliced (spliced items from new) from mid room_twice d ∙ long ∙ sym (length-spliced items from mid room_mid d))
      (λ i below. each i (nat_lt i from) refl (nat_lt i (from + length mid)) refl)
    where
      long : length (spliced items from new) ≡ length items
      long = length-spliced items from new room d

      room_mid : from + length mid ≤ length items
      room_mid = omega arith

      room_twice : from + length mid ≤ length (spliced items from new)
      room_twice = let e = long in omega arith

      each : (i : ℕ) (a : Bool) → nat_lt i from ≡ a → (b : Bool) → nat_lt i (from + length mid) ≡ b → get_or (spliced (spliced items from new) from mid) i d ≡ get_or (spliced items from mid) i d
      each i true is b b_is =
          let low = ltb-true _ _ is in
          spliced-below (spliced items from new) from mid room_twice d i low ∙ spliced-below items from new room d i low ∙ sym (spliced-below items from mid room_mid d i low)
      each i false is true b_is =
          let low = ltb-false i from is in let high = ltb-true _ _ b_is in
          spliced-within (spliced items from new) from mid room_twice d i low high ∙ sym (spliced-within items from mid room_mid d i low high)
      each i false is false b_is =
          let high = ltb-false i (from + length mid) b_is in
          spliced-behind (spliced items from new) from mid room_twice d i high ∙ spliced-behind items from new room d i (omega arith) ∙ sym (spliced-behind items from mid room_mid d i high)

  -- items written over themselves
  pub spliced-own : length new ≡ length (take (length new) (drop from items)) → new ≡ take (length new) (drop from items) → spliced items from new ≡ items
  spliced-own long own =
      ext_get_or d (spliced items from new) items (length-spliced items from new room d) (λ i below. each i (nat_lt i from) refl (nat_lt i (from + length new)) refl)
    where
      each : (i : ℕ) (a : Bool) → nat_lt i from ≡ a → (b : Bool) → nat_lt i (from + length new) ≡ b → get_or (spliced items from new) i d ≡ get_or items i d
      each i true is b b_is = spliced-below items from new room d i (ltb-true _ _ is)
      each i false is true b_is =
          let low = ltb-false i from is in let high = ltb-true _ _ b_is in
          spliced-within items from new room d i low high
          ∙ ap (λ (xs : List A). get_or xs (i - from) d) own
          ∙ get_or-take (length new) (drop from items) (i - from) d (omega arith) ∙ get_or-drop from items (i - from) d
          ∙ ap (λ (n : ℕ). get_or items n d) (let e : from + (i - from) ≡ i = omega arith in e)
      each i false is false b_is = spliced-behind items from new room d i (ltb-false i (from + length new) b_is)
