-- Two lists of entries by ascending numbers.
use Rattle.std.proofs.Common.{◌≡◌, ◌≢◌, ℕ, zero, suc, ◌<◌, ◌≤◌, Bool, true, false, List, [], ◌∷◌, map, length, nat_eq, nat_lt, Option, None, Some, refl, sym, ◌∙◌, ap, subst, eq-eqb, ltb-true, arith}
use Rattle.std.specs.Prelude.{option_map, slice_get, if◌then◌else◌}
use Rattle.std.specs.List.{list_all}
use Rattle.std.proofs.lemmas.Bool.{false≢true, ne_eqb, ltb-false}
use Rattle.std.proofs.lemmas.Option.{same_Some, none-some}
use Rattle.graph.specs.Maps.{found_at}
use Rattle.graph.specs.WellFormed.{are_ascending}
use Rattle.graph.proofs.Tests.{and_left, and_right}

-- each number behind the first is greater
above-first : (first : ℕ) (rest : List ℕ) → list_all (nat_lt first) rest ≡ true → (place number : ℕ) → slice_get rest place ≡ Some number → first < number
above-first first [] all place number is = absurd (none-some number is)
above-first first (next ∷ rest) all zero number is = subst (λ (n : ℕ). first < n) (same_Some _ _ is) (ltb-true _ _ (and_left (nat_lt first next) (list_all (nat_lt first) rest) all))
above-first first (next ∷ rest) all (suc place) number is = above-first first rest (and_right (nat_lt first next) (list_all (nat_lt first) rest) all) place number is

not-above : (one other : ℕ) → nat_lt one other ≡ false → other ≤ one
not-above one other is = let e = ltb-false one other is in omega arith

module _ {Entry Item : Type 0} (key : Entry → ℕ) (item : Entry → Item) where
  number-at : (entries : List Entry) (place : ℕ) (entry : Entry) → slice_get entries place ≡ Some entry → slice_get (map key entries) place ≡ Some (key entry)
  number-at [] place entry is = absurd (none-some entry is)
  number-at (first ∷ rest) zero entry is = ap (λ (e : Entry). Some (key e)) (same_Some _ _ is)
  number-at (first ∷ rest) (suc place) entry is = number-at rest place entry is

  -- an entry is found at its number
  pub found-place : (entries : List Entry) → are_ascending (map key entries) ≡ true → (place : ℕ) (entry : Entry) → slice_get entries place ≡ Some entry → found_at key item entries (key entry) ≡ Some (item entry)
  found-place [] ascending place entry is = absurd (none-some entry is)
  found-place (first ∷ rest) ascending zero entry is =
      subst (λ (e : Entry). found_at key item (first ∷ rest) (key e) ≡ Some (item e)) (same_Some _ _ is)
      (ap (λ (b : Bool). if b then Some (item first) else found_at key item rest (key first)) (eq-eqb (key first) (key first) refl))
  found-place (first ∷ rest) ascending (suc place) entry is =
      let above = above-first (key first) (map key rest) (and_left (list_all (nat_lt (key first)) (map key rest)) (are_ascending (map key rest)) ascending) place (key entry) (number-at rest place entry is) in
      ap (λ (b : Bool). if b then Some (item first) else found_at key item rest (key entry)) (ne_eqb (key first) (key entry) (λ same. absurd (omega arith)))
      ∙ found-place rest (and_right (list_all (nat_lt (key first)) (map key rest)) (are_ascending (map key rest)) ascending) place entry is

  -- below the first number nothing is found
  none-below : (number : ℕ) (entries : List Entry) → list_all (nat_lt number) (map key entries) ≡ true → (at : ℕ) → at ≤ number → found_at key item entries at ≡ None
  none-below number [] all at below = refl
  none-below number (first ∷ rest) all at below =
      let above = ltb-true _ _ (and_left (nat_lt number (key first)) (list_all (nat_lt number) (map key rest)) all) in
      ap (λ (b : Bool). if b then Some (item first) else found_at key item rest at) (ne_eqb (key first) at (λ same. absurd (omega arith)))
      ∙ none-below number rest (and_right (nat_lt number (key first)) (list_all (nat_lt number) (map key rest)) all) at below

  found-first : (first : Entry) (rest : List Entry) → found_at key item (first ∷ rest) (key first) ≡ Some (item first)
  found-first first rest = ap (λ (b : Bool). if b then Some (item first) else found_at key item rest (key first)) (eq-eqb (key first) (key first) refl)

  found-behind : (first : Entry) (rest : List Entry) (at : ℕ) → key first ≢ at → found_at key item (first ∷ rest) at ≡ found_at key item rest at
  found-behind first rest at differs = ap (λ (b : Bool). if b then Some (item first) else found_at key item rest at) (ne_eqb (key first) at differs)

module _ {One Other A B C : Type 0} (key : One → ℕ) (item : One → A) (other_key : Other → ℕ) (other_item : Other → B) (f : A → Option C) (g : B → C) where
  abbrev AgreeAt : List One → List Other → ℕ → Type 0
  AgreeAt ones others at = option_map f (found_at key item ones at) ≡ option_map (λ b. Some (g b)) (found_at other_key other_item others at)

  -- lists with the same numbers, whose items agree place by place, agree
  pub same-found : (ones : List One) (others : List Other) → length ones ≡ length others →
      ((place : ℕ) (one : One) (other : Other) → slice_get ones place ≡ Some one → slice_get others place ≡ Some other → (key one ≡ other_key other) × (f (item one) ≡ Some (g (other_item other)))) →
      (at : ℕ) → AgreeAt ones others at
  same-found [] [] equal each at = refl
  same-found [] (other ∷ others) equal each at = absurd (omega arith)
  same-found (one ∷ ones) [] equal each at = absurd (omega arith)
  same-found (one ∷ ones) (other ∷ others) equal each at =
      by_test (same-found ones others (omega arith) (λ place. each (suc place)) at) (nat_eq (key one) at) refl (nat_eq (other_key other) at) refl
    where
      here : (key one ≡ other_key other) × (f (item one) ≡ Some (g (other_item other)))
      here = each 0 one other refl refl

      by_test : AgreeAt ones others at → (b : Bool) → nat_eq (key one) at ≡ b → (c : Bool) → nat_eq (other_key other) at ≡ c → AgreeAt (one ∷ ones) (other ∷ others) at
      by_test later true is true other_is =
          ap (λ (b : Bool). option_map f (if b then Some (item one) else found_at key item ones at)) is ∙ ap Some here.1
          ∙ sym (ap (λ (b : Bool). option_map (λ b. Some (g b)) (if b then Some (other_item other) else found_at other_key other_item others at)) other_is)
      by_test later true is false other_is = absurd (false≢true (sym other_is ∙ ap (λ (n : ℕ). nat_eq n at) (sym here.0) ∙ is))
      by_test later false is true other_is = absurd (false≢true (sym is ∙ ap (λ (n : ℕ). nat_eq n at) here.0 ∙ other_is))
      by_test later false is false other_is =
          ap (λ (b : Bool). option_map f (if b then Some (item one) else found_at key item ones at)) is
          ∙ later
          ∙ sym (ap (λ (b : Bool). option_map (λ b. Some (g b)) (if b then Some (other_item other) else found_at other_key other_item others at)) other_is)

  -- of entries that agree one is found where the other is
  both-found : (ones : List One) (others : List Other) (at : ℕ) → AgreeAt ones others at → (a : A) → found_at key item ones at ≡ Some a → found_at other_key other_item others at ≢ None
  both-found ones others at agree a is none = none-some (f a) (sym (sym (ap (option_map f) is) ∙ agree ∙ ap (option_map (λ b. Some (g b))) none))

  both-found-back : (ones : List One) (others : List Other) (at : ℕ) → AgreeAt ones others at → (b : B) → found_at other_key other_item others at ≡ Some b → found_at key item ones at ≢ None
  both-found-back ones others at agree b is none = none-some (Some (g b)) (sym (ap (option_map f) none) ∙ agree ∙ ap (option_map (λ b. Some (g b))) is)

  -- lists that agree have the same numbers
  pub same-numbers : (ones : List One) (others : List Other) → are_ascending (map key ones) ≡ true → are_ascending (map other_key others) ≡ true → ((at : ℕ) → AgreeAt ones others at) → map key ones ≡ map other_key others
  same-numbers [] [] ascending other_ascending agree = refl
  same-numbers [] (other ∷ others) ascending other_ascending agree =
      absurd (both-found-back [] (other ∷ others) (other_key other) (agree (other_key other)) (other_item other) (found-first other_key other_item other others) refl)
  same-numbers (one ∷ ones) [] ascending other_ascending agree = absurd (both-found (one ∷ ones) [] (key one) (agree (key one)) (item one) (found-first key item one ones) refl)
  same-numbers (one ∷ ones) (other ∷ others) ascending other_ascending agree =
      by_order (λ later. same-numbers ones others (and_right (list_all (nat_lt (key one)) (map key ones)) (are_ascending (map key ones)) ascending)
      (and_right (list_all (nat_lt (other_key other)) (map other_key others)) (are_ascending (map other_key others)) other_ascending) later)
      (nat_lt (key one) (other_key other)) refl (nat_lt (other_key other) (key one)) refl
    where
      ones_above : list_all (nat_lt (key one)) (map key ones) ≡ true
      ones_above = and_left (list_all (nat_lt (key one)) (map key ones)) (are_ascending (map key ones)) ascending

      others_above : list_all (nat_lt (other_key other)) (map other_key others) ≡ true
      others_above = and_left (list_all (nat_lt (other_key other)) (map other_key others)) (are_ascending (map other_key others)) other_ascending

      rest : key one ≡ other_key other → (at : ℕ) → AgreeAt ones others at
      rest same at = by_side (nat_lt (key one) at) refl
        where
          by_side : (b : Bool) → nat_lt (key one) at ≡ b → AgreeAt ones others at
          by_side true above =
              let over = ltb-true _ _ above in
              ap (option_map f) (sym (found-behind key item one ones at (λ equal. absurd (omega arith)))) ∙ agree at
              ∙ ap (option_map (λ b. Some (g b))) (found-behind other_key other_item other others at (λ equal. absurd (omega arith)))
          by_side false below =
              let under = not-above (key one) at below in
              ap (option_map f) (none-below key item (key one) ones ones_above at under)
              ∙ sym (ap (option_map (λ b. Some (g b))) (none-below other_key other_item (other_key other) others others_above at (omega arith)))

      by_order : (((at : ℕ) → AgreeAt ones others at) → map key ones ≡ map other_key others) → (b : Bool) → nat_lt (key one) (other_key other) ≡ b → (c : Bool) → nat_lt (other_key other) (key one) ≡ c → map key (one ∷ ones) ≡ map other_key (other ∷ others)
      by_order later true below c c_is =
          let under = ltb-true _ _ below in
          absurd (both-found (one ∷ ones) (other ∷ others) (key one) (agree (key one)) (item one) (found-first key item one ones)
          (found-behind other_key other_item other others (key one) (λ equal. absurd (omega arith)) ∙ none-below other_key other_item (other_key other) others others_above (key one) (omega arith)))
      by_order later false b_is true above =
          let over = ltb-true _ _ above in
          absurd (both-found-back (one ∷ ones) (other ∷ others) (other_key other) (agree (other_key other)) (other_item other) (found-first other_key other_item other others)
          (found-behind key item one ones (other_key other) (λ equal. absurd (omega arith)) ∙ none-below key item (key one) ones ones_above (other_key other) (omega arith)))
      by_order later false b_is false c_is =
          let one_under = not-above (key one) (other_key other) b_is in
          let other_under = not-above (other_key other) (key one) c_is in
          let same : key one ≡ other_key other = omega arith in
          ap (λ (n : ℕ). n ∷ map key ones) same
          ∙ ap (λ (ns : List ℕ). other_key other ∷ ns) (later (rest same))
