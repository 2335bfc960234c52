-- What finding an item, or a row of items, leaves as it was and what it adds.
use Rattle.std.proofs.Common.{◌≡◌, ℕ, ◌+◌, ◌<◌, ◌⊎◌, Bool, true, false, cond, List, [], ◌∷◌, ◌++◌, length, get_or, zero, suc, refl, sym, ap, ◌∙◌, subst, inl, inr, arith, append_assoc}
use Rattle.std.proofs.Math.ListN.{set}
use Rattle.std.specs.List.{Contains}
use Rattle.std.proofs.lemmas.Bool.{false≢true}
use Rattle.std.proofs.lemmas.List.{append-nil, length-append, length-set, get_or_default}
use Rattle.std.proofs.lemmas.List.Elements.{Contains-append_left, Contains-append_right, Contains-append_cases, Contains-push, Contains-push_cases}
use Rattle.ctokens.specs.NeedSearch.{State, mark, mark_all}

abbrev pub IsMarked : List Bool → ℕ → Type 0
IsMarked marked k = get_or marked k false ≡ true

-- how many are not marked
abbrev pub unmarked : List Bool → ℕ
unmarked [] = 0
unmarked (true ∷ rest) = unmarked rest
unmarked (false ∷ rest) = suc (unmarked rest)

-- what any step keeps
pub record Grows (old new : State) : Type 0 where
  pub size : length new.marked ≡ length old.marked
  pub more : List ℕ
  pub order : new.order ≡ old.order ++ more
  pub marks_stay : (k : ℕ) → IsMarked old.marked k → IsMarked new.marked k

-- each marked item is listed, and the items that are listed and those that are not marked are as many as all
pub record Sane (count : ℕ) (state : State) : Type 0 where
  pub size : length state.marked ≡ count
  pub counted : length state.order + unmarked state.marked ≡ count
  pub listed : (k : ℕ) → IsMarked state.marked k → Contains state.order k

abbrev pub Sound : (ℕ → Type 0) → State → Type 0
Sound P state = (k : ℕ) → Contains state.order k → P k

-- ---- lists of tests

set-here : (marked : List Bool) (k : ℕ) → k < length marked → IsMarked (set marked k true) k
set-here [] k h = absurd (omega arith)
set-here (b ∷ rest) zero h = refl
set-here (b ∷ rest) (suc k) h = set-here rest k (omega arith)

set-stays : (marked : List Bool) (i k : ℕ) → IsMarked marked k → IsMarked (set marked i true) k
set-stays [] i k h = h
set-stays (b ∷ rest) zero zero h = refl
set-stays (b ∷ rest) zero (suc k) h = h
set-stays (b ∷ rest) (suc i) zero h = h
set-stays (b ∷ rest) (suc i) (suc k) h = set-stays rest i k h

set-cases : (marked : List Bool) (i k : ℕ) → IsMarked (set marked i true) k → IsMarked marked k ⊎ (i ≡ k)
set-cases [] i k h = inl h
set-cases (b ∷ rest) zero zero h = inr refl
set-cases (b ∷ rest) zero (suc k) h = inl h
set-cases (b ∷ rest) (suc i) zero h = inl h
set-cases (b ∷ rest) (suc i) (suc k) h =
    elim (set-cases rest i k h) as (λ _. IsMarked rest k ⊎ (suc i ≡ suc k)) [ inl old ↦ inl old | inr same ↦ inr (ap suc same) ]

unmarked-set : (marked : List Bool) (k : ℕ) → get_or marked k true ≡ false → unmarked marked ≡ suc (unmarked (set marked k true))
unmarked-set [] k h = absurd (false≢true (sym h))
unmarked-set (true ∷ rest) zero h = absurd (false≢true (sym h))
unmarked-set (false ∷ rest) zero h = refl
unmarked-set (true ∷ rest) (suc k) h = unmarked-set rest k h
unmarked-set (false ∷ rest) (suc k) h = ap suc (unmarked-set rest k h)

marked_or_not : (marked : List Bool) (k : ℕ) → k < length marked → get_or marked k true ≡ true → IsMarked marked k
marked_or_not marked k h e = get_or_default marked k false true h ∙ e

-- ---- an item

abbrev marked_by : Bool → ℕ → State → State
marked_by b k state = cond b state (record { order = state.order ++ k ∷ []; marked = set state.marked k true; waiting = state.waiting })

mark-by : (k : ℕ) (state : State) → mark k state ≡ marked_by (get_or state.marked k true) k state
unfolding mark
mark-by k state = refl

grows-by : (b : Bool) (k : ℕ) (state : State) → Grows state (marked_by b k state)
grows-by true k state = record { size = refl; more = []; order = sym (append-nil state.order); marks_stay = λ k h. h }
grows-by false k state = record { size = length-set state.marked k true; more = k ∷ []; order = refl; marks_stay = λ j h. set-stays state.marked k j h }

pub mark-grows : (k : ℕ) (state : State) → Grows state (mark k state)
mark-grows k state = subst (λ new. Grows state new) (sym (mark-by k state)) (grows-by (get_or state.marked k true) k state)

pub mark-waiting : (k : ℕ) (state : State) → (mark k state).waiting ≡ state.waiting
mark-waiting k state = ap (λ (s : State). s.waiting) (mark-by k state) ∙ waiting-by (get_or state.marked k true)
  where
    waiting-by : (b : Bool) → (marked_by b k state).waiting ≡ state.waiting
    waiting-by true = refl
    waiting-by false = refl

sane-by : (b : Bool) (count k : ℕ) (state : State) → get_or state.marked k true ≡ b → Sane count state → Sane count (marked_by b k state)
sane-by true count k state e known = known
sane-by false count k state e known =
    let fewer = unmarked-set state.marked k e in
    let counted = known.counted in
    record {
      size = length-set state.marked k true ∙ known.size;
      counted = rw length-append (omega arith);
      listed = λ j h. elim (set-cases state.marked k j h) as (λ _. Contains (state.order ++ k ∷ []) j) [
        | inl old ↦ Contains-append_left state.order (k ∷ []) j (known.listed j old)
        | inr same ↦ subst (λ (x : ℕ). Contains (state.order ++ k ∷ []) x) same (Contains-push state.order k)
      ];
    }

pub mark-sane : (count k : ℕ) (state : State) → Sane count state → Sane count (mark k state)
mark-sane count k state known = subst (λ new. Sane count new) (sym (mark-by k state)) (sane-by (get_or state.marked k true) count k state refl known)

here-by : (b : Bool) (k : ℕ) (state : State) → get_or state.marked k true ≡ b → k < length state.marked → IsMarked (marked_by b k state).marked k
here-by true k state e h = marked_or_not state.marked k h e
here-by false k state e h = set-here state.marked k h

pub mark-here : (k : ℕ) (state : State) → k < length state.marked → IsMarked (mark k state).marked k
mark-here k state h = subst (λ (new : State). IsMarked new.marked k) (sym (mark-by k state)) (here-by (get_or state.marked k true) k state refl h)

sound-by : (P : ℕ → Type 0) (b : Bool) (k : ℕ) (state : State) → P k → Sound P state → Sound P (marked_by b k state)
sound-by P true k state here known = known
sound-by P false k state here known = λ j h.
    elim (Contains-push_cases state.order k j h) as (λ _. P j) [ inl old ↦ known j old | inr same ↦ subst (λ (x : ℕ). P x) same here ]

pub mark-sound : (P : ℕ → Type 0) (k : ℕ) (state : State) → P k → Sound P state → Sound P (mark k state)
mark-sound P k state here known = subst (λ new. Sound P new) (sym (mark-by k state)) (sound-by P (get_or state.marked k true) k state here known)

-- ---- steps one behind the other

pub grows_none : (state : State) → Grows state state
grows_none state = record { size = refl; more = []; order = sym (append-nil state.order); marks_stay = λ k h. h }

pub grows_then : (a b c : State) → Grows a b → Grows b c → Grows a c
grows_then a b c first second = record {
  size = second.size ∙ first.size;
  more = first.more ++ second.more;
  order = second.order ∙ (ap (λ xs. xs ++ second.more) first.order ∙ append_assoc a.order first.more second.more);
  marks_stay = λ k h. second.marks_stay k (first.marks_stay k h);
}

pub contains_none : (k : ℕ) → Contains {X = ℕ} [] k → ⊥
contains_none k (i, less, is) = absurd (omega arith)

pub contains_cons : (x : ℕ) (xs : List ℕ) (k : ℕ) → Contains (x ∷ xs) k → (x ≡ k) ⊎ Contains xs k
contains_cons x xs k h =
    elim (Contains-append_cases (x ∷ []) xs k h) as (λ _. (x ≡ k) ⊎ Contains xs k) [
      | inl first ↦ elim (Contains-push_cases [] x k first) as (λ _. (x ≡ k) ⊎ Contains xs k) [ inl nowhere ↦ absurd (contains_none k nowhere) | inr same ↦ inl same ]
      | inr rest ↦ inr rest
    ]

-- ---- a row of items

pub mark_all-grows : (items : List ℕ) (state : State) → Grows state (mark_all items state)
mark_all-grows [] state = grows_none state
mark_all-grows (k ∷ items) state = grows_then state (mark k state) (mark_all items (mark k state)) (mark-grows k state) (mark_all-grows items (mark k state))

pub mark_all-waiting : (items : List ℕ) (state : State) → (mark_all items state).waiting ≡ state.waiting
mark_all-waiting [] state = refl
mark_all-waiting (k ∷ items) state = mark_all-waiting items (mark k state) ∙ mark-waiting k state

pub mark_all-sane : (count : ℕ) (items : List ℕ) (state : State) → Sane count state → Sane count (mark_all items state)
mark_all-sane count [] state known = known
mark_all-sane count (k ∷ items) state known = mark_all-sane count items (mark k state) (mark-sane count k state known)

pub mark_all-here : (items : List ℕ) (state : State) (k : ℕ) → Contains items k → k < length state.marked → IsMarked (mark_all items state).marked k
mark_all-here [] state k h less = absurd (contains_none k h)
mark_all-here (i ∷ items) state k h less =
    elim (contains_cons i items k h) as (λ _. IsMarked (mark_all items (mark i state)).marked k) [
      | inl same ↦ (mark_all-grows items (mark i state)).marks_stay k
          (subst (λ (x : ℕ). IsMarked (mark i state).marked x) same (mark-here i state (subst (λ (x : ℕ). x < length state.marked) (sym same) less)))
      | inr rest ↦ mark_all-here items (mark i state) k rest (subst (λ (n : ℕ). k < n) (sym (mark-grows i state).size) less)
    ]

pub mark_all-sound : (P : ℕ → Type 0) (items : List ℕ) (state : State) → ((k : ℕ) → Contains items k → P k) → Sound P state → Sound P (mark_all items state)
mark_all-sound P [] state all known = known
mark_all-sound P (k ∷ items) state all known =
    mark_all-sound P items (mark k state) (λ j h. all j (Contains-append_right (k ∷ []) items j h))
    (mark-sound P k state (all k (Contains-append_left (k ∷ []) items k (Contains-push [] k))) known)
