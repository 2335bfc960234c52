-- What is found is what is reached.
use Rattle.std.proofs.Common.{◌≡◌, ℕ, ◌+◌, ◌<◌, ◌≤◌, ◌⊎◌, Bool, true, false, cond, List, [], ◌∷◌, ◌++◌, length, get_or, replicate, zero, suc, refl, sym, ap, ◌∙◌, subst, inl, inr, arith}
use Rattle.std.specs.List.{Contains}
use Rattle.std.specs.List.Sorted.{IsStrictlyIncreasing}
use Rattle.std.proofs.lemmas.Bool.{false≢true}
use Rattle.std.proofs.lemmas.List.{length-set, length-replicate}
use Rattle.std.proofs.lemmas.List.Elements.{Contains-append_left, Contains-append_right, Contains-push, Contains-push_cases}
use Rattle.ctokens.specs.declared.entry.Entry.{Entry}
use Rattle.ctokens.specs.NeedSearch.{State, Reached, Starting, entry_at, found, mark, mark_mains, places, put, put_all, put_entries, started, waiting_at, waiting_for, walk}
use Rattle.ctokens.proofs.Marks.{IsMarked, unmarked, Grows, Sane, Sound, grows_none, grows_then, contains_cons, contains_none, mark-grows, mark-waiting, mark-sane, mark-here, mark-sound}
use Rattle.ctokens.proofs.Followed.{Held, Whole, walk-whole, walk-grows, reached_marked}

from_zero : (k : ℕ) → 0 + k ≡ k
from_zero k = omega arith

-- ---- items that wait

put-here : (waiting : List (List ℕ)) (item name : ℕ) → name < length waiting → Contains (waiting_at (put item waiting name) name) item
put-here [] item name less = absurd (omega arith)
put-here (items ∷ rest) item zero less = Contains-push items item
put-here (items ∷ rest) item (suc name) less = put-here rest item name (omega arith)

put-stays : (waiting : List (List ℕ)) (item name other k : ℕ) → Contains (waiting_at waiting other) k → Contains (waiting_at (put item waiting name) other) k
put-stays [] item name other k h = h
put-stays (items ∷ rest) item zero zero k h = Contains-append_left items (item ∷ []) k h
put-stays (items ∷ rest) item zero (suc other) k h = h
put-stays (items ∷ rest) item (suc name) zero k h = h
put-stays (items ∷ rest) item (suc name) (suc other) k h = put-stays rest item name other k h

put-cases : (waiting : List (List ℕ)) (item name other k : ℕ) → Contains (waiting_at (put item waiting name) other) k
    → Contains (waiting_at waiting other) k ⊎ ((name ≡ other) × (item ≡ k))
put-cases [] item name other k h = inl h
put-cases (items ∷ rest) item zero zero k h =
    elim (Contains-push_cases items item k h) as (λ _. Contains items k ⊎ ((zero ≡ zero) × (item ≡ k))) [ inl old ↦ inl old | inr same ↦ inr (refl, same) ]
put-cases (items ∷ rest) item zero (suc other) k h = inl h
put-cases (items ∷ rest) item (suc name) zero k h = inl h
put-cases (items ∷ rest) item (suc name) (suc other) k h =
    elim (put-cases rest item name other k h) as (λ _. Contains (waiting_at rest other) k ⊎ ((suc name ≡ suc other) × (item ≡ k))) [
      | inl old ↦ inl old
      | inr same ↦ inr (ap suc same.0, same.1)
    ]

length-put : (waiting : List (List ℕ)) (item name : ℕ) → length (put item waiting name) ≡ length waiting
length-put waiting item name = length-set waiting name (waiting_at waiting name ++ item ∷ [])

length-put_all : (names : List ℕ) (waiting : List (List ℕ)) (item : ℕ) → length (put_all item waiting names) ≡ length waiting
length-put_all [] waiting item = refl
length-put_all (name ∷ names) waiting item = length-put_all names (put item waiting name) item ∙ length-put waiting item name

put_all-stays : (names : List ℕ) (waiting : List (List ℕ)) (item other k : ℕ) → Contains (waiting_at waiting other) k → Contains (waiting_at (put_all item waiting names) other) k
put_all-stays [] waiting item other k h = h
put_all-stays (name ∷ names) waiting item other k h = put_all-stays names (put item waiting name) item other k (put-stays waiting item name other k h)

put_all-here : (names : List ℕ) (waiting : List (List ℕ)) (item name : ℕ) → Contains names name → name < length waiting → Contains (waiting_at (put_all item waiting names) name) item
put_all-here [] waiting item name h less = absurd (contains_none name h)
put_all-here (first ∷ names) waiting item name h less =
    elim (contains_cons first names name h) as (λ _. Contains (waiting_at (put_all item (put item waiting first) names) name) item) [
      | inl same ↦ put_all-stays names (put item waiting first) item name item
          (subst (λ (x : ℕ). Contains (waiting_at (put item waiting x) name) item) (sym same) (put-here waiting item name less))
      | inr rest ↦ put_all-here names (put item waiting first) item name rest (subst (λ (n : ℕ). name < n) (sym (length-put waiting item first)) less)
    ]

put_all-cases : (names : List ℕ) (waiting : List (List ℕ)) (item other k : ℕ) → Contains (waiting_at (put_all item waiting names) other) k
    → Contains (waiting_at waiting other) k ⊎ (Contains names other × (item ≡ k))
put_all-cases [] waiting item other k h = inl h
put_all-cases (name ∷ names) waiting item other k h =
    elim (put_all-cases names (put item waiting name) item other k h) as (λ _. Contains (waiting_at waiting other) k ⊎ (Contains (name ∷ names) other × (item ≡ k))) [
      | inl before ↦ elim (put-cases waiting item name other k before) as (λ _. Contains (waiting_at waiting other) k ⊎ (Contains (name ∷ names) other × (item ≡ k))) [
        | inl old ↦ inl old
        | inr same ↦ inr (subst (λ (x : ℕ). Contains (name ∷ names) x) same.0 (Contains-append_left (name ∷ []) names name (Contains-push [] name)), same.1)
      ]
      | inr later ↦ inr (Contains-append_right (name ∷ []) names other later.0, later.1)
    ]

put_entries-stays : (entries : List Entry) (waiting : List (List ℕ)) (item other k : ℕ) → Contains (waiting_at waiting other) k → Contains (waiting_at (put_entries item waiting entries) other) k
put_entries-stays [] waiting item other k h = h
put_entries-stays (entry ∷ entries) waiting item other k h =
    put_entries-stays entries (put_all item waiting entry.offers) (item + 1) other k (put_all-stays entry.offers waiting item other k h)

put_entries-here : (entries : List Entry) (waiting : List (List ℕ)) (item j name : ℕ) → j < length entries → Contains (entry_at entries j).offers name → name < length waiting
    → Contains (waiting_at (put_entries item waiting entries) name) (item + j)
put_entries-here [] waiting item j name inside h less = absurd (omega arith)
put_entries-here (entry ∷ entries) waiting item zero name inside h less =
    put_entries-stays entries (put_all item waiting entry.offers) (item + 1) name (item + zero)
    (subst (λ (x : ℕ). Contains (waiting_at (put_all item waiting entry.offers) name) x) (let e : item ≡ item + zero = omega arith in e) (put_all-here entry.offers waiting item name h less))
put_entries-here (entry ∷ entries) waiting item (suc j) name inside h less =
    subst (λ (x : ℕ). Contains (waiting_at (put_entries (item + 1) (put_all item waiting entry.offers) entries) name) x)
    (let e : item + 1 + j ≡ item + suc j = omega arith in e)
    (put_entries-here entries (put_all item waiting entry.offers) (item + 1) j name (omega arith) h
    (subst (λ (n : ℕ). name < n) (sym (length-put_all entry.offers waiting item)) less))

abbrev Waits : List Entry → ℕ → ℕ → ℕ → Type 0
Waits entries item other k = (j : ℕ) × (j < length entries) × (item + j ≡ k) × Contains (entry_at entries j).offers other

put_entries-cases : (entries : List Entry) (waiting : List (List ℕ)) (item other k : ℕ) → Contains (waiting_at (put_entries item waiting entries) other) k
    → Contains (waiting_at waiting other) k ⊎ Waits entries item other k
put_entries-cases [] waiting item other k h = inl h
put_entries-cases (entry ∷ entries) waiting item other k h =
    elim (put_entries-cases entries (put_all item waiting entry.offers) (item + 1) other k h) as (λ _. Contains (waiting_at waiting other) k ⊎ Waits (entry ∷ entries) item other k) [
      | inl before ↦ elim (put_all-cases entry.offers waiting item other k before) as (λ _. Contains (waiting_at waiting other) k ⊎ Waits (entry ∷ entries) item other k) [
        | inl old ↦ inl old
        | inr here ↦ let is = here.1 in inr (zero, omega arith, omega arith, here.0)
      ]
      | inr later ↦ let is = later.2 in let less = later.1 in inr (suc later.0, omega arith, omega arith, later.3)
    ]

-- ---- the start

none_wait : (count name : ℕ) → waiting_at (replicate {A = List ℕ} count []) name ≡ []
none_wait zero name = refl
none_wait (suc count) zero = refl
none_wait (suc count) (suc name) = none_wait count name

none_marked : (count k : ℕ) → IsMarked (replicate count false) k → ⊥
none_marked zero k h = false≢true h
none_marked (suc count) zero h = false≢true h
none_marked (suc count) (suc k) h = none_marked count k h

all_unmarked : (count : ℕ) → unmarked (replicate count false) ≡ count
all_unmarked zero = refl
all_unmarked (suc count) = ap suc (all_unmarked count)

main-by : (b : Bool) (item : ℕ) (state : State) → Grows state (cond b (mark item state) state)
main-by true item state = mark-grows item state
main-by false item state = grows_none state

main-waiting : (b : Bool) (item : ℕ) (state : State) → (cond b (mark item state) state).waiting ≡ state.waiting
main-waiting true item state = mark-waiting item state
main-waiting false item state = refl

main-sane : (b : Bool) (count item : ℕ) (state : State) → Sane count state → Sane count (cond b (mark item state) state)
main-sane true count item state known = mark-sane count item state known
main-sane false count item state known = known

main-sound : (P : ℕ → Type 0) (b : Bool) (item : ℕ) (state : State) → (b ≡ true → P item) → Sound P state → Sound P (cond b (mark item state) state)
main-sound P true item state here known = mark-sound P item state (here refl) known
main-sound P false item state here known = known

main-here : (b : Bool) (item : ℕ) (state : State) → b ≡ true → item < length state.marked → IsMarked (cond b (mark item state) state).marked item
main-here true item state is less = mark-here item state less
main-here false item state is less = absurd (false≢true is)

abbrev after_main : Entry → ℕ → State → State
after_main entry item state = cond entry.main (mark item state) state

mains-grows : (entries : List Entry) (item : ℕ) (state : State) → Grows state (mark_mains item entries state)
mains-grows [] item state = grows_none state
mains-grows (entry ∷ entries) item state =
    grows_then state (after_main entry item state) (mark_mains (item + 1) entries (after_main entry item state)) (main-by entry.main item state)
    (mains-grows entries (item + 1) (after_main entry item state))

mains-waiting : (entries : List Entry) (item : ℕ) (state : State) → (mark_mains item entries state).waiting ≡ state.waiting
mains-waiting [] item state = refl
mains-waiting (entry ∷ entries) item state = mains-waiting entries (item + 1) (after_main entry item state) ∙ main-waiting entry.main item state

mains-sane : (entries : List Entry) (count item : ℕ) (state : State) → Sane count state → Sane count (mark_mains item entries state)
mains-sane [] count item state known = known
mains-sane (entry ∷ entries) count item state known =
    mains-sane entries count (item + 1) (after_main entry item state) (main-sane entry.main count item state known)

mains-sound : (P : ℕ → Type 0) (entries : List Entry) (item : ℕ) (state : State) → ((j : ℕ) → j < length entries → (entry_at entries j).main ≡ true → P (item + j))
    → Sound P state → Sound P (mark_mains item entries state)
mains-sound P [] item state all known = known
mains-sound P (entry ∷ entries) item state all known =
    mains-sound P entries (item + 1) (after_main entry item state)
    (λ j less main. subst P (let e : item + suc j ≡ item + 1 + j = omega arith in e) (all (suc j) (omega arith) main))
    (main-sound P entry.main item state (λ main. subst P (let e : item + 0 ≡ item = omega arith in e) (all 0 (omega arith) main)) known)

mains-here : (entries : List Entry) (item j : ℕ) (state : State) → j < length entries → (entry_at entries j).main ≡ true → item + j < length state.marked
    → IsMarked (mark_mains item entries state).marked (item + j)
mains-here [] item j state inside main less = absurd (omega arith)
mains-here (entry ∷ entries) item zero state inside main less =
    (mains-grows entries (item + 1) (after_main entry item state)).marks_stay (item + zero)
    (subst (λ (x : ℕ). IsMarked (after_main entry item state).marked x) (let e : item ≡ item + zero = omega arith in e)
    (main-here entry.main item state main (omega arith)))
mains-here (entry ∷ entries) item (suc j) state inside main less =
    let size = (main-by entry.main item state).size in
    subst (λ (x : ℕ). IsMarked (mark_mains (item + 1) entries (after_main entry item state)).marked x)
    (let e : item + 1 + j ≡ item + suc j = omega arith in e)
    (mains-here entries (item + 1) j (after_main entry item state) (omega arith) main (omega arith))

abbrev first_state : List Entry → ℕ → State
first_state entries count = record { order = []; marked = replicate (length entries) false; waiting = waiting_for entries count }

started-is : (entries : List Entry) (count : ℕ) → started entries count ≡ mark_mains 0 entries (first_state entries count)
unfolding started
started-is entries count = refl

waiting-is : (entries : List Entry) (count : ℕ) → waiting_for entries count ≡ put_entries 0 (replicate count []) entries
unfolding waiting_for
waiting-is entries count = refl

-- names are below their number
abbrev pub AreNamed : List Entry → ℕ → Type 0
AreNamed entries count = (k name : ℕ) → Contains (entry_at entries k).offers name → name < count

abbrev begun : List Entry → ℕ → State
begun entries count = mark_mains 0 entries (first_state entries count)

begun-waiting : (entries : List Entry) (count : ℕ) → (begun entries count).waiting ≡ put_entries 0 (replicate count []) entries
begun-waiting entries count = mains-waiting entries 0 (first_state entries count) ∙ waiting-is entries count

begun-held : (entries : List Entry) (count : ℕ) → AreNamed entries count → Held entries (begun entries count)
begun-held entries count named = record {
  sane = mains-sane entries (length entries) 0 (first_state entries count)
      (record {
        size = length-replicate (length entries) false;
        counted = from_zero (unmarked (replicate (length entries) false)) ∙ all_unmarked (length entries);
        listed = λ k h. absurd (none_marked (length entries) k h);
      });
  sound = mains-sound (Reached entries) entries 0 (first_state entries count)
      (λ j less main. subst (λ (x : ℕ). Reached entries x) (sym (from_zero j)) (Starting j less main))
      (λ k h. absurd (contains_none k h));
  fed = λ name k h.
      let there : Contains (waiting_at (put_entries 0 (replicate {A = List ℕ} count []) entries) name) k =
      subst (λ w. Contains (waiting_at w name) k) (begun-waiting entries count) h in
      elim (put_entries-cases entries (replicate {A = List ℕ} count []) 0 name k there) as (λ _. (k < length entries) × Contains (entry_at entries k).offers name) [
        | inl old ↦ absurd (contains_none k (subst (λ xs. Contains xs k) (none_wait count name) old))
        | inr waits ↦
            let same : waits.0 ≡ k = sym (from_zero waits.0) ∙ waits.2 in
            (subst (λ (x : ℕ). x < length entries) same waits.1, subst (λ (x : ℕ). Contains (entry_at entries x).offers name) same waits.3)
      ];
  pending = λ name k less offers.
      inl (subst (λ w. Contains (waiting_at w name) k) (sym (begun-waiting entries count))
      (subst (λ (x : ℕ). Contains (waiting_at (put_entries 0 (replicate {A = List ℕ} count []) entries) name) x) (from_zero k)
      (put_entries-here entries (replicate {A = List ℕ} count []) 0 k name less offers
      (subst (λ (n : ℕ). name < n) (sym (length-replicate {A = List ℕ} count [])) (named k name offers)))));
}

-- ---- the end

places-all : (marked : List Bool) (place j : ℕ) → IsMarked marked j → Contains (places place marked) (place + j)
places-all [] place j h = absurd (false≢true h)
places-all (true ∷ rest) place zero h =
    Contains-append_left (place ∷ []) (places (place + 1) rest) (place + zero)
    (subst (λ (x : ℕ). Contains (place ∷ []) x) (let e : place ≡ place + zero = omega arith in e) (Contains-push [] place))
places-all (false ∷ rest) place zero h = absurd (false≢true h)
places-all (true ∷ rest) place (suc j) h =
    Contains-append_right (place ∷ []) (places (place + 1) rest) (place + suc j)
    (subst (λ (x : ℕ). Contains (places (place + 1) rest) x) (let e : place + 1 + j ≡ place + suc j = omega arith in e) (places-all rest (place + 1) j h))
places-all (false ∷ rest) place (suc j) h =
    subst (λ (x : ℕ). Contains (places (place + 1) rest) x) (let e : place + 1 + j ≡ place + suc j = omega arith in e) (places-all rest (place + 1) j h)

abbrev Placed : List Bool → ℕ → ℕ → Type 0
Placed marked place k = (j : ℕ) × (place + j ≡ k) × IsMarked marked j

placed_later : (b : Bool) (rest : List Bool) (place k : ℕ) → Placed rest (place + 1) k → Placed (b ∷ rest) place k
placed_later b rest place k (j, is, h) = (suc j, omega arith, h)

places-only : (marked : List Bool) (place k : ℕ) → Contains (places place marked) k → Placed marked place k
places-only [] place k h = absurd (contains_none k h)
places-only (true ∷ rest) place k h =
    elim (contains_cons place (places (place + 1) rest) k h) as (λ _. Placed (true ∷ rest) place k) [
      | inl same ↦ (zero, omega arith, refl)
      | inr later ↦ placed_later true rest place k (places-only rest (place + 1) k later)
    ]
places-only (false ∷ rest) place k h = placed_later false rest place k (places-only rest (place + 1) k h)

-- a list rises, and each of its numbers is at least so much
abbrev Rises : ℕ → List ℕ → Type 0
Rises least [] = Unit {0}
Rises least (x ∷ xs) = (least ≤ x) × Rises (x + 1) xs

rises_lower : (low high : ℕ) (xs : List ℕ) → low ≤ high → Rises high xs → Rises low xs
rises_lower low high [] h known = tt
rises_lower low high (x ∷ xs) h known = let first = known.0 in (omega arith, known.1)

places-rise : (marked : List Bool) (place : ℕ) → Rises place (places place marked)
places-rise [] place = tt
places-rise (true ∷ rest) place = (omega arith, places-rise rest (place + 1))
places-rise (false ∷ rest) place = rises_lower place (place + 1) (places (place + 1) rest) (omega arith) (places-rise rest (place + 1))

increasing_from_rise : (xs : List ℕ) (least : ℕ) → Rises least xs → (k : ℕ) → k + 1 < length xs → get_or xs k 0 < get_or xs (k + 1) 0
increasing_from_rise [] least known k less = absurd (omega arith)
increasing_from_rise (x ∷ []) least known k less = absurd (omega arith)
increasing_from_rise (x ∷ (y ∷ rest)) least known zero less = let next = known.1.0 in omega arith
increasing_from_rise (x ∷ (y ∷ rest)) least known (suc k) less =
    let e : suc k + 1 ≡ suc (k + 1) = omega arith in
    rw e (increasing_from_rise (y ∷ rest) (x + 1) known.1 k (omega arith))

found-is : (entries : List Entry) (count : ℕ) → found entries count ≡ places 0 (walk entries (length entries) 0 (started entries count)).marked
unfolding found
found-is entries count = refl

abbrev last_state : List Entry → ℕ → State
last_state entries count = walk entries (length entries) 0 (begun entries count)

found-places : (entries : List Entry) (count : ℕ) → found entries count ≡ places 0 (last_state entries count).marked
found-places entries count = found-is entries count ∙ ap (λ s. places 0 (walk entries (length entries) 0 s).marked) (started-is entries count)

last_state-whole : (entries : List Entry) (count : ℕ) → AreNamed entries count → Whole entries (last_state entries count)
last_state-whole entries count named =
    walk-whole entries (length entries) 0 (begun entries count) (begun-held entries count named) (omega arith) (λ j name less h. absurd (omega arith)) (omega arith)

last_state-mains : (entries : List Entry) (count : ℕ) → (k : ℕ) → k < length entries → (entry_at entries k).main ≡ true → IsMarked (last_state entries count).marked k
last_state-mains entries count k less main =
    (walk-grows entries (length entries) 0 (begun entries count)).marks_stay k
    (subst (λ (x : ℕ). IsMarked (begun entries count).marked x) (from_zero k)
    (mains-here entries 0 k (first_state entries count) less main
    (let size : length (replicate (length entries) false) ≡ length entries = length-replicate (length entries) false in omega arith)))

pub found_ascending : (entries : List Entry) (count : ℕ) → IsStrictlyIncreasing (found entries count)
found_ascending entries count =
    subst (λ xs. IsStrictlyIncreasing xs) (sym (found-places entries count))
    (λ k less. increasing_from_rise (places 0 (last_state entries count).marked) 0 (places-rise (last_state entries count).marked 0) k less)

pub found_all : (entries : List Entry) (count : ℕ) → AreNamed entries count → (k : ℕ) → Reached entries k → Contains (found entries count) k
found_all entries count named k reached =
    subst (λ xs. Contains xs k) (sym (found-places entries count))
    (subst (λ (x : ℕ). Contains (places 0 (last_state entries count).marked) x) (from_zero k)
    (places-all (last_state entries count).marked 0 k
    (reached_marked entries (last_state entries count) (last_state-whole entries count named) (last_state-mains entries count) k reached)))

pub found_only : (entries : List Entry) (count : ℕ) → AreNamed entries count → (k : ℕ) → Contains (found entries count) k → Reached entries k
found_only entries count named k h =
    let placed = places-only (last_state entries count).marked 0 k (subst (λ xs. Contains xs k) (found-places entries count) h) in
    let whole = last_state-whole entries count named in
    let same : placed.0 ≡ k = sym (from_zero placed.0) ∙ placed.1 in
    whole.held.sound k (whole.held.sane.listed k (subst (λ (x : ℕ). IsMarked (last_state entries count).marked x) same placed.2))

-- the search changes the length of no list of marks
pub found_size : (entries : List Entry) (count : ℕ) (state : State) → state ≡ walk entries (length entries) 0 (started entries count) → length state.marked ≡ length entries
found_size entries count state is =
    ap (λ (s : State). length s.marked) (is ∙ ap (λ s. walk entries (length entries) 0 s) (started-is entries count))
    ∙ ((walk-grows entries (length entries) 0 (begun entries count)).size
    ∙ ((mains-grows entries 0 (first_state entries count)).size ∙ length-replicate (length entries) false))
