-- Places of keys among keys, and lists that are mapped one item at a time.
use Rattle.std.proofs.Common.{◌≡◌, ℕ, zero, suc, ◌+◌, ◌<◌, ◌≤◌, true, false, List, [], ◌∷◌, ◌++◌, length, take, drop, map, get_or, refl, ap, sym, ◌∙◌, arith}
use Rattle.std.specs.Prelude.{nat_eq}
use Rattle.std.proofs.Math.ListN.{set}
use Rattle.std.proofs.lemmas.List.{drop_more, drop_all}
use Rattle.std.proofs.lemmas.Bool.{eq-eqb, ne_eqb}
use Rattle.graph.specs.Renaming.{place_among}

-- a key that is another is passed over
pub place_more : (keys : List ℕ) (place key other none : ℕ) → place < length keys → other ≡ get_or keys place none → (key ≡ other → ⊥) → place + place_among (drop place keys) key ≡ (place + 1) + place_among (drop (place + 1) keys) key
place_more keys place key other none inside is differs =
    let test : nat_eq key other ≡ false = ne_eqb key other differs in
    let step : place_among (drop place keys) key ≡ 1 + place_among (drop (place + 1) keys) key =
    ap (λ (t : List ℕ). place_among t key) (drop_more keys place none inside ∙ ap (λ (n : ℕ). n ∷ drop (place + 1) keys) (sym is)) ∙ rw test refl in
    omega arith

-- the key stands here
pub place_here : (keys : List ℕ) (place key other none : ℕ) → place < length keys → other ≡ get_or keys place none → key ≡ other → place + place_among (drop place keys) key ≡ place
place_here keys place key other none inside is same =
    let test : nat_eq key other ≡ true = eq-eqb key other same in
    let step : place_among (drop place keys) key ≡ 0 =
    ap (λ (t : List ℕ). place_among t key) (drop_more keys place none inside ∙ ap (λ (n : ℕ). n ∷ drop (place + 1) keys) (sym is)) ∙ rw test refl in
    omega arith

-- none of them is left
pub place_end : (keys : List ℕ) (place key : ℕ) → length keys ≤ place → place + place_among (drop place keys) key ≡ place
place_end keys place key end =
    let none : place_among (drop place keys) key ≡ 0 = ap (λ (t : List ℕ). place_among t key) (drop_all place keys end) in
    omega arith

-- a loop that changes one item after another
pub changed_more : {X : Type 0} (f : X → X) (items : List X) (at : ℕ) (none : X) → at < length items →
    set (map f (take at items) ++ drop at items) at (f (get_or (map f (take at items) ++ drop at items) at none)) ≡ map f (take (suc at) items) ++ drop (suc at) items
changed_more f [] at none inside = absurd (omega arith)
changed_more f (first ∷ rest) zero none inside = refl
changed_more f (first ∷ rest) (suc at) none inside = ap (λ xs. f first ∷ xs) (changed_more f rest at none (omega arith))
