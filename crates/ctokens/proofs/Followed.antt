-- What following a name, the names of an item, and the found items in turn leaves and adds.
use Rattle.std.proofs.Common.{◌≡◌, ℕ, ◌+◌, ◌<◌, ◌≤◌, ◌⊎◌, Bool, true, false, cond, List, [], ◌∷◌, length, get_or, zero, suc, refl, sym, ap, ◌∙◌, subst, inl, inr, arith, ltb}
use Rattle.std.proofs.Math.ListN.{set}
use Rattle.std.specs.List.{Contains, slice_index_or}
use Rattle.std.proofs.lemmas.Bool.{cases_lt}
use Rattle.std.proofs.lemmas.List.{get_or_append_left, get_or_default, length-append}
use borrow.Author.Tests.{ltb-true, ltb-false}
use Rattle.std.proofs.lemmas.List.Elements.{Contains-get_or, Contains-append_left, Contains-append_right, Contains-push}
use Rattle.ctokens.specs.declared.entry.Entry.{Entry}
use Rattle.ctokens.specs.NeedSearch.{State, Reached, Starting, Leading, entry_at, follow, follow_all, mark_all, waiting_at, walk}
use Rattle.ctokens.proofs.Marks.{IsMarked, Grows, Sane, Sound, grows_none, grows_then, contains_cons, contains_none, mark_all-grows, mark_all-waiting, mark_all-sane, mark_all-here, mark_all-sound}

-- ---- the lists of those that wait

taken-here : (waiting : List (List ℕ)) (name : ℕ) → waiting_at (set waiting name []) name ≡ []
taken-here [] name = refl
taken-here (items ∷ rest) zero = refl
taken-here (items ∷ rest) (suc name) = taken-here rest name

taken-other : (waiting : List (List ℕ)) (name other : ℕ) → (waiting_at (set waiting name []) other ≡ []) ⊎ (waiting_at (set waiting name []) other ≡ waiting_at waiting other)
taken-other [] name other = inr refl
taken-other (items ∷ rest) zero zero = inl refl
taken-other (items ∷ rest) zero (suc other) = inr refl
taken-other (items ∷ rest) (suc name) zero = inr refl
taken-other (items ∷ rest) (suc name) (suc other) = taken-other rest name other

-- whoever waited still waits, or waited for the name that was taken
taken-cases : (waiting : List (List ℕ)) (name other k : ℕ) → Contains (waiting_at waiting other) k
    → Contains (waiting_at (set waiting name []) other) k ⊎ Contains (waiting_at waiting name) k
taken-cases [] name other k h = inl h
taken-cases (items ∷ rest) zero zero k h = inr h
taken-cases (items ∷ rest) zero (suc other) k h = inl h
taken-cases (items ∷ rest) (suc name) zero k h = inl h
taken-cases (items ∷ rest) (suc name) (suc other) k h = taken-cases rest name other k h

-- ---- what holds at each moment

pub record Held (entries : List Entry) (state : State) : Type 0 where
  pub sane : Sane (length entries) state
  pub sound : Sound (Reached entries) state
  pub fed : (name k : ℕ) → Contains (waiting_at state.waiting name) k → (k < length entries) × Contains (entry_at entries k).offers name
  pub pending : (name k : ℕ) → k < length entries → Contains (entry_at entries k).offers name
      → Contains (waiting_at state.waiting name) k ⊎ IsMarked state.marked k

-- ---- a name

abbrev taken : ℕ → State → State
taken name state = record { order = state.order; marked = state.marked; waiting = set state.waiting name [] }

follow-is : (name : ℕ) (state : State) → follow name state ≡ mark_all (waiting_at state.waiting name) (taken name state)
unfolding follow
follow-is name state = refl

follow-waiting : (name : ℕ) (state : State) → (follow name state).waiting ≡ set state.waiting name []
follow-waiting name state = ap (λ (s : State). s.waiting) (follow-is name state) ∙ mark_all-waiting (waiting_at state.waiting name) (taken name state)

pub follow-grows : (name : ℕ) (state : State) → Grows state (follow name state)
follow-grows name state =
    let step = mark_all-grows (waiting_at state.waiting name) (taken name state) in
    subst (λ new. Grows state new) (sym (follow-is name state))
    (record { size = step.size; more = step.more; order = step.order; marks_stay = step.marks_stay })

pub follow-here : (name : ℕ) (state : State) → waiting_at (follow name state).waiting name ≡ []
follow-here name state = ap (λ w. waiting_at w name) (follow-waiting name state) ∙ taken-here state.waiting name

pub follow-stays : (name other : ℕ) (state : State) → waiting_at state.waiting other ≡ [] → waiting_at (follow name state).waiting other ≡ []
follow-stays name other state none =
    ap (λ w. waiting_at w other) (follow-waiting name state)
    ∙ elim (taken-other state.waiting name other) as (λ _. waiting_at (set state.waiting name []) other ≡ []) [ inl gone ↦ gone | inr same ↦ same ∙ none ]

pub follow-held : (entries : List Entry) (user name : ℕ) (state : State) → Reached entries user → Contains (entry_at entries user).contains name
    → Held entries state → Held entries (follow name state)
follow-held entries user name state reached contains known =
    let items = waiting_at state.waiting name in
    let all : (k : ℕ) → Contains items k → Reached entries k =
    λ k h. let fed = known.fed name k h in Leading k user name fed.0 reached contains fed.1 in
    let unwaiting : (other : ℕ) → waiting_at (follow name state).waiting other ≡ waiting_at (set state.waiting name []) other =
    λ other. ap (λ w. waiting_at w other) (follow-waiting name state) in
    record {
      sane = subst (λ new. Sane (length entries) new) (sym (follow-is name state))
          (mark_all-sane (length entries) items (taken name state)
          (record { size = known.sane.size; counted = known.sane.counted; listed = known.sane.listed }));
      sound = subst (λ new. Sound (Reached entries) new) (sym (follow-is name state))
          (mark_all-sound (Reached entries) items (taken name state) all known.sound);
      fed = λ other k h.
          let now : Contains (waiting_at (set state.waiting name []) other) k = subst (λ xs. Contains xs k) (unwaiting other) h in
          elim (taken-other state.waiting name other) as (λ _. (k < length entries) × Contains (entry_at entries k).offers other) [
            | inl gone ↦ absurd (contains_none k (subst (λ xs. Contains xs k) gone now))
            | inr same ↦ known.fed other k (subst (λ xs. Contains xs k) same now)
          ];
      pending = λ other k less offers.
          let goes_on : IsMarked state.marked k → Contains (waiting_at (follow name state).waiting other) k ⊎ IsMarked (follow name state).marked k =
          λ m. inr ((follow-grows name state).marks_stay k m) in
          elim (known.pending other k less offers) as (λ _. Contains (waiting_at (follow name state).waiting other) k ⊎ IsMarked (follow name state).marked k) [
            | inl waits ↦ elim (taken-cases state.waiting name other k waits) as (λ _. Contains (waiting_at (follow name state).waiting other) k ⊎ IsMarked (follow name state).marked k) [
              | inl still ↦ inl (subst (λ xs. Contains xs k) (sym (unwaiting other)) still)
              | inr here ↦ inr (subst (λ (new : State). IsMarked new.marked k) (sym (follow-is name state))
                  (mark_all-here items (taken name state) k here (let size = known.sane.size in omega arith)))
            ]
            | inr marked ↦ goes_on marked
          ];
    }

-- ---- the names of an item

pub follow_all-grows : (names : List ℕ) (state : State) → Grows state (follow_all names state)
follow_all-grows [] state = grows_none state
follow_all-grows (name ∷ names) state =
    grows_then state (follow name state) (follow_all names (follow name state)) (follow-grows name state) (follow_all-grows names (follow name state))

pub follow_all-stays : (names : List ℕ) (other : ℕ) (state : State) → waiting_at state.waiting other ≡ [] → waiting_at (follow_all names state).waiting other ≡ []
follow_all-stays [] other state none = none
follow_all-stays (name ∷ names) other state none = follow_all-stays names other (follow name state) (follow-stays name other state none)

pub follow_all-here : (names : List ℕ) (name : ℕ) (state : State) → Contains names name → waiting_at (follow_all names state).waiting name ≡ []
follow_all-here [] name state h = absurd (contains_none name h)
follow_all-here (first ∷ names) name state h =
    elim (contains_cons first names name h) as (λ _. waiting_at (follow_all names (follow first state)).waiting name ≡ []) [
      | inl same ↦ follow_all-stays names name (follow first state)
          (subst (λ (x : ℕ). waiting_at (follow first state).waiting x ≡ []) same (follow-here first state))
      | inr rest ↦ follow_all-here names name (follow first state) rest
    ]

pub follow_all-held : (entries : List Entry) (user : ℕ) (names : List ℕ) (state : State) → Reached entries user
    → ((name : ℕ) → Contains names name → Contains (entry_at entries user).contains name) → Held entries state → Held entries (follow_all names state)
follow_all-held entries user [] state reached contains known = known
follow_all-held entries user (name ∷ names) state reached contains known =
    follow_all-held entries user names (follow name state) reached (λ other h. contains other (Contains-append_right (name ∷ []) names other h))
    (follow-held entries user name state reached (contains name (Contains-append_left (name ∷ []) names name (Contains-push [] name))) known)

-- ---- the found items in turn

-- nothing waits any longer for the names of the first so many found items
abbrev pub Followed : List Entry → ℕ → State → Type 0
Followed entries at state =
    (j name : ℕ) → j < at → Contains (entry_at entries (slice_index_or state.order j 0)).contains name → waiting_at state.waiting name ≡ []

pub record Whole (entries : List Entry) (state : State) : Type 0 where
  pub held : Held entries state
  pub followed : Followed entries (length state.order) state

order_stays : (old new : State) → Grows old new → (j : ℕ) → j < length old.order → get_or new.order j 0 ≡ get_or old.order j 0
order_stays old new grows j less = ap (λ xs. get_or xs j 0) grows.order ∙ get_or_append_left old.order grows.more 0 j less

longer : (old new : State) → Grows old new → length old.order ≤ length new.order
longer old new grows = rw grows.order (simp length-append (omega arith))

turn-followed : (entries : List Entry) (at : ℕ) (state : State) → at < length state.order → Followed entries at state
    → Followed entries (at + 1) (follow_all (entry_at entries (slice_index_or state.order at 0)).contains state)
turn-followed entries at state less known = λ j name before contains.
    let names = (entry_at entries (get_or state.order at 0)).contains in
    let new = follow_all names state in
    let same : j < length state.order → get_or new.order j 0 ≡ get_or state.order j 0 = order_stays state new (follow_all-grows names state) j in
    let inside : j < length state.order = omega arith in
    let old : Contains (entry_at entries (get_or state.order j 0)).contains name =
    subst (λ (x : ℕ). Contains (entry_at entries x).contains name) (same inside) contains in
    elim (cases_lt j at) as (λ _. waiting_at new.waiting name ≡ []) [
      | inl earlier ↦ follow_all-stays names name state (known j name earlier old)
      | inr later ↦
          let here : j ≡ at = omega arith in
          follow_all-here names name state (subst (λ (x : ℕ). Contains (entry_at entries (get_or state.order x 0)).contains name) here old)
    ]

walk-by : (b : Bool) (entries : List Entry) (turns at : ℕ) (state : State)
    → ((new : State) (next : ℕ) → Held entries new → next ≤ length new.order → Followed entries next new → length entries ≤ turns + next → Whole entries (walk entries turns next new))
    → ltb at (length state.order) ≡ b → Held entries state → at ≤ length state.order → Followed entries at state → length entries ≤ suc turns + at
    → Whole entries (cond b (walk entries turns (at + 1) (follow_all (entry_at entries (slice_index_or state.order at 0)).contains state)) state)
walk-by true entries turns at state later is held inside known enough =
    let less : at < length state.order = omega (arith, ltb-true at (length state.order) is) in
    let item = get_or state.order at 0 in
    let names = (entry_at entries item).contains in
    let reached : Reached entries item = held.sound item (Contains-get_or state.order at 0 less) in
    later (follow_all names state) (at + 1) (follow_all-held entries item names state reached (λ name h. h) held)
    (let l = longer state (follow_all names state) (follow_all-grows names state) in omega arith)
    (turn-followed entries at state less known) (omega arith)
walk-by false entries turns at state later is held inside known enough =
    let all : length state.order ≤ at = omega (arith, ltb-false at (length state.order) is) in
    record { held = held; followed = λ j name less. known j name (omega arith) }

pub walk-whole : (entries : List Entry) (turns at : ℕ) (state : State) → Held entries state → at ≤ length state.order → Followed entries at state
    → length entries ≤ turns + at → Whole entries (walk entries turns at state)
walk-whole entries zero at state held inside known enough =
    let counted = held.sane.counted in
    record { held = held; followed = λ j name less. known j name (omega arith) }
walk-whole entries (suc turns) at state held inside known enough =
    walk-by (ltb at (length state.order)) entries turns at state (λ new next h i k e. walk-whole entries turns next new h i k e) refl held inside known enough

-- ---- what the end says

-- each item that is reached is marked, if those that define main are
pub reached_marked : (entries : List Entry) (state : State) → Whole entries state
    → ((k : ℕ) → k < length entries → (entry_at entries k).main ≡ true → IsMarked state.marked k)
    → (k : ℕ) → Reached entries k → IsMarked state.marked k
reached_marked entries state whole mains k (Starting _ less main) = mains k less main
reached_marked entries state whole mains k (Leading _ user name less reached contains offers) =
    let marked : IsMarked state.marked user = reached_marked entries state whole mains user reached in
    let listed = whole.held.sane.listed user marked in
    let none : waiting_at state.waiting name ≡ [] =
    whole.followed listed.0 name listed.1
    (subst (λ (x : ℕ). Contains (entry_at entries x).contains name) (sym (get_or_default state.order listed.0 0 user listed.1 ∙ listed.2)) contains) in
    elim (whole.held.pending name k less offers) as (λ _. IsMarked state.marked k) [
      | inl waits ↦ absurd (contains_none k (subst (λ xs. Contains xs k) none waits))
      | inr found ↦ found
    ]

walk-grows-by : (b : Bool) (entries : List Entry) (turns at : ℕ) (state : State)
    → ((new : State) (next : ℕ) → Grows new (walk entries turns next new))
    → Grows state (cond b (walk entries turns (at + 1) (follow_all (entry_at entries (slice_index_or state.order at 0)).contains state)) state)
walk-grows-by true entries turns at state later =
    let names = (entry_at entries (get_or state.order at 0)).contains in
    grows_then state (follow_all names state) (walk entries turns (at + 1) (follow_all names state)) (follow_all-grows names state) (later (follow_all names state) (at + 1))
walk-grows-by false entries turns at state later = grows_none state

pub walk-grows : (entries : List Entry) (turns at : ℕ) (state : State) → Grows state (walk entries turns at state)
walk-grows entries zero at state = grows_none state
walk-grows entries (suc turns) at state = walk-grows-by (ltb at (length state.order)) entries turns at state (λ new next. walk-grows entries turns next new)
