-- What stands at a key is looked for by halves, where keys ascend.
use Rattle.std.proofs.Common.{◌≡◌, ◌≢◌, ℕ, zero, suc, ◌+◌, ◌<◌, ◌≤◌, List, [], ◌∷◌, ◌⊎◌, inl, inr, length, take, drop, map, get_or, Option, None, Some, Result, Ok, Err, refl, sym, ◌∙◌, ap, subst, arith}
use Rattle.std.specs.Prelude.{nat_eq, if◌then◌else◌}
use Rattle.std.specs.List.{AllPairs}
use Rattle.std.specs.List.Sorted.{IsBinarySearchResult}
use Rattle.std.specs.Ordering.{nat_cmp}
use Rattle.std.specs.Result.{MatchResult}
use Rattle.std.proofs.lemmas.Bool.{eq-eqb, ne_eqb, cases_eq, cases_lt}
use Rattle.std.proofs.lemmas.List.{length-take-le, length-drop, length-map, get_or-take, get_or-drop, get_or-map, get_or_default}
use Rattle.std.proofs.lemmas.List.Sorted.{searched}
use Rattle.std.proofs.lemmas.List.Sums.{position_or_len_is}
use Rattle.graph.specs.Maps.{found_at}
use Rattle.graph.specs.Renaming.{place_among}
use Rattle.graph.proofs.Found.{found-later, found-here}

module _ {Entry Item : Type 0} (key : Entry → ℕ) (item : Entry → Item) where
  -- where no entry has the key nothing is found
  none_found : (entries : List Entry) (at : ℕ) → ((i : ℕ) (d : Entry) → i < length entries → key (get_or entries i d) ≢ at) → found_at key item entries at ≡ None
  none_found [] at others = refl
  none_found (first ∷ rest) at others =
      found-later key item first rest at (ne_eqb (key first) at (others 0 first (omega arith)))
      ∙ none_found rest at (λ i d within. others (suc i) d (omega arith))

  front_found : (entries : List Entry) (middle at : ℕ) → ((i : ℕ) (d : Entry) → middle ≤ i → i < length entries → key (get_or entries i d) ≢ at) → found_at key item entries at ≡ found_at key item (take middle entries) at
  front_found [] zero at others = refl
  front_found [] (suc middle) at others = refl
  front_found (first ∷ rest) zero at others = none_found (first ∷ rest) at (λ i d within. others i d (omega arith) within)
  front_found (first ∷ rest) (suc middle) at others =
      ap (λ (o : Option Item). if nat_eq (key first) at then Some (item first) else o)
      (front_found rest middle at (λ i d behind within. others (suc i) d (omega arith) (omega arith)))

  behind_found : (entries : List Entry) (middle at : ℕ) → ((i : ℕ) (d : Entry) → i < middle → i < length entries → key (get_or entries i d) ≢ at) → found_at key item entries at ≡ found_at key item (drop middle entries) at
  behind_found [] zero at others = refl
  behind_found [] (suc middle) at others = refl
  behind_found (first ∷ rest) zero at others = refl
  behind_found (first ∷ rest) (suc middle) at others =
      found-later key item first rest at (ne_eqb (key first) at (others 0 first (omega arith) (omega arith)))
      ∙ behind_found rest middle at (λ i d before within. others (suc i) d (omega arith) (omega arith))

  -- the entries that are left ascend, and hold what all entries hold at the key
  pub record Halved (whole left : List Entry) (at : ℕ) : Type 0 where
    pub ascending : AllPairs (λ one other. key one < key other) left
    pub same : found_at key item whole at ≡ found_at key item left at

  pub halved_front : (whole left front : List Entry) (at middle : ℕ) (none : Entry) → Halved whole left at → middle < length left → at < key (get_or left middle none) → front ≡ take middle left → Halved whole front at
  halved_front whole left front at middle none halved inside below front_is =
      subst (λ (es : List Entry). Halved whole es at) (sym front_is) (record {
        ascending = λ i j d before within.
            let long : j < middle = let l = length-take-le middle left (omega arith) in omega arith in
            let one : key (get_or (take middle left) i d) ≡ key (get_or left i d) = ap key (get_or-take middle left i d (omega arith)) in
            let other : key (get_or (take middle left) j d) ≡ key (get_or left j d) = ap key (get_or-take middle left j d long) in
            let lower = halved.ascending i j d before (omega arith) in
            omega arith;
        same = halved.same ∙ front_found left middle at (λ i d behind within equal. above i d within equal (cases_lt middle i) behind);
      })
    where
      above : (i : ℕ) (d : Entry) → i < length left → key (get_or left i d) ≡ at → (middle < i) ⊎ (i ≤ middle) → middle ≤ i → ⊥
      above i d within equal (inl before) behind =
          let lower : key (get_or left middle none) < key (get_or left i none) = halved.ascending middle i none before within in
          let same : key (get_or left i d) ≡ key (get_or left i none) = ap key (get_or_default left i d none within) in
          omega arith
      above i d within equal (inr no_further) behind =
          let place : i ≡ middle = omega arith in
          let same : key (get_or left i d) ≡ key (get_or left middle none) = ap (λ (n : ℕ). key (get_or left n d)) place ∙ ap key (get_or_default left middle d none inside) in
          omega arith

  pub halved_behind : (whole left behind : List Entry) (at middle : ℕ) (none : Entry) → Halved whole left at → middle < length left → key (get_or left middle none) ≤ at → behind ≡ drop middle left → Halved whole behind at
  halved_behind whole left behind at middle none halved inside above behind_is =
      subst (λ (es : List Entry). Halved whole es at) (sym behind_is) (record {
        ascending = λ i j d before within.
            let long : middle + j < length left = let l = length-drop middle left in omega arith in
            let one : key (get_or (drop middle left) i d) ≡ key (get_or left (middle + i) d) = ap key (get_or-drop middle left i d) in
            let other : key (get_or (drop middle left) j d) ≡ key (get_or left (middle + j) d) = ap key (get_or-drop middle left j d) in
            let lower = halved.ascending (middle + i) (middle + j) d (omega arith) long in
            omega arith;
        same = halved.same ∙ behind_found left middle at (λ i d before within equal.
            let lower : key (get_or left i none) < key (get_or left middle none) = halved.ascending i middle none before inside in
            let same : key (get_or left i d) ≡ key (get_or left i none) = ap key (get_or_default left i d none within) in
            omega arith);
      })

  -- one entry is left
  pub halved_found : (whole rest : List Entry) (entry : Entry) (at : ℕ) → Halved whole (entry ∷ rest) at → key entry ≡ at → found_at key item whole at ≡ Some (item entry)
  halved_found whole rest entry at halved same = halved.same ∙ found-here key item entry rest at (eq-eqb (key entry) at same)

  pub halved_none : (whole left rest : List Entry) (entry : Entry) (at : ℕ) → Halved whole left at → left ≡ entry ∷ rest → length left ≤ 1 → key entry ≢ at → found_at key item whole at ≡ None
  halved_none whole left [] entry at halved is one differs =
      halved.same ∙ ap (λ (es : List Entry). found_at key item es at) is ∙ found-later key item entry [] at (ne_eqb (key entry) at differs)
  halved_none whole left (other ∷ rest) entry at halved is one differs =
      let long : length left ≡ suc (suc (length rest)) = ap (λ (es : List Entry). length es) is in
      absurd (omega arith)

-- keys that ascend, as those of entries do
pub ascending_keys : {Entry : Type 0} (key : Entry → ℕ) (entries : List Entry) (keys : List ℕ) → keys ≡ map key entries → AllPairs (λ one other. key one < key other) entries → AllPairs (λ one other. one < other) keys
ascending_keys key [] keys is ascending =
    let none : length keys ≡ 0 = ap (λ (ks : List ℕ). length ks) is in
    λ i j d before within. absurd (omega arith)
ascending_keys {Entry} key (first ∷ rest) keys is ascending = λ i j d before within.
    let long : length keys ≡ length (first ∷ rest) = ap (λ (ks : List ℕ). length ks) is ∙ length-map (first ∷ rest) key in
    let one : get_or keys i d ≡ key (get_or (first ∷ rest) i first) = ap (λ (ks : List ℕ). get_or ks i d) is ∙ get_or-map key (first ∷ rest) i first d (omega arith) in
    let other : get_or keys j d ≡ key (get_or (first ∷ rest) j first) = ap (λ (ks : List ℕ). get_or ks j d) is ∙ get_or-map key (first ∷ rest) j first d (omega arith) in
    let lower = ascending i j first before (omega arith) in
    omega arith

rises : (keys : List ℕ) → AllPairs (λ one other. one < other) keys → (i j : ℕ) → i ≤ j → j < length keys → get_or keys i 0 ≤ get_or keys j 0
rises keys ascending i j before within = by_place (cases_eq i j)
  where
    by_place : (i ≡ j) ⊎ (i ≡ j → ⊥) → get_or keys i 0 ≤ get_or keys j 0
    by_place (inl same) = let equal : get_or keys i 0 ≡ get_or keys j 0 = ap (λ (n : ℕ). get_or keys n 0) same in omega arith
    by_place (inr differs) = let lower = ascending i j 0 (omega arith) within in omega arith

-- the place that a search among ascending keys finds
pub place_searched : (keys : List ℕ) (key : ℕ) (found : Result ℕ ℕ) → AllPairs (λ one other. one < other) keys → IsBinarySearchResult (λ y. nat_cmp y key) keys found →
    MatchResult found (λ place. place ≡ place_among keys key) (λ _. length keys ≡ place_among keys key)
place_searched keys key (Ok place) ascending position =
    let here = searched keys key (Ok place) position (rises keys ascending) in
    sym (position_or_len_is (nat_eq key) keys place 0 (let within = here.0 in omega arith)
    (λ k before. let lower : get_or keys k 0 < get_or keys place 0 = ascending k place 0 before here.0 in
    ne_eqb key (get_or keys k 0) (let same = here.1 in omega arith))
    (λ within. eq-eqb key (get_or keys place 0) (sym here.1)))
place_searched keys key (Err place) ascending position =
    let here = searched keys key (Err place) position (rises keys ascending) in
    sym (position_or_len_is (nat_eq key) keys (length keys) 0 (omega arith)
    (λ k within. ne_eqb key (get_or keys k 0) (by_side here.1 here.2 k within (cases_lt k place)))
    (λ within. absurd (omega arith)))
  where
    by_side : ((k : ℕ) → k < place → get_or keys k 0 < key) → ((k : ℕ) → place ≤ k → k < length keys → key < get_or keys k 0) → (k : ℕ) → k < length keys → (k < place) ⊎ (place ≤ k) → key ≡ get_or keys k 0 → ⊥
    by_side below above k within (inl before) equal = let lower = below k before in omega arith
    by_side below above k within (inr behind) equal = let higher = above k behind within in omega arith
