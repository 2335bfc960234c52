-- Steps of a reader, and what they leave of what is known of it.
use Rattle.std.proofs.Common.{◌≡◌, ℕ, zero, suc, ◌+◌, ◌≤◌, max, Bool, false, List, [], ◌∷◌, ◌++◌, drop, length, Option, refl, ap, sym, ◌∙◌, subst, arith, append_assoc, append-nil}
use Rattle.std.proofs.lemmas.List.{length-drop, drop-drop}
use Rattle.std.specs.Prelude.{if◌then◌else◌, slice_index_or}
use Rattle.cevents.specs.Building.{built, built_next, built_all}
use Rattle.cevents.specs.Workshop.{Workshop, token_at, place_at, bytes_at, no_token}
use Rattle.cevents.specs.declared.event.Event.{Event}
use Rattle.cevents.specs.declared.piece.Piece.{Piece}
use Rattle.cgrammar.specs.Phrases.{Context, scoped}
use Rattle.cgrammar.specs.Scope.{Names, entered, left, declared}
use Rattle.cgrammar.specs.Terminals.{Terminal, first_place}
use Rattle.cparser.specs.State.{State, rest, is_going, goes, with_levels, with_scope, with_event, skipped, lost}
use Rattle.cparser.specs.Steps.{Inner, mark, word, mark_or_back, whole, write, make, wrap, wrapped, declare, enter, leave, ask, ask_whole, ask_right}
use Rattle.cparser.specs.declared.point.Point.{Point}
use Rattle.cparser.specs.declared.status.Status.{Status}
use Rattle.cparser.specs.declared.status.Status.TheVariants.{Going, Stopped, Nothing}
use Rattle.cparser.specs.declared.wanted.Wanted.{Wanted}
use Rattle.cread_expr.proofs.Agreed.{shop, Pieces, none, Kept, Went, Failed, Halted, Ended, Ready, context_of}
use Rattle.cread_expr.proofs.AgreedPlaces.{place_first}

-- Rows.
pub row_more : {A : Type 0} (at : ℕ) (row others : List A) (first : A) → drop at row ≡ first ∷ others → drop (at + 1) row ≡ others
row_more {A} at row others first is = sym (drop-drop 1 at row) ∙ ap (λ (left : List A). drop 1 left) is

pub row_at : {A : Type 0} (at : ℕ) (row others : List A) (first any : A) → drop at row ≡ first ∷ others → slice_index_or row at any ≡ first
row_at {A} zero row others first any is = ap (λ (left : List A). slice_index_or left 0 any) is
row_at (suc at) [] others first any is = cc is
row_at (suc at) (other ∷ row) others first any is = row_at at row others first any is

pub row_inside : {A : Type 0} (at : ℕ) (row others : List A) (first : A) → drop at row ≡ first ∷ others → at + 1 ≤ length row
row_inside {A} at row others first is =
    let left : length (drop at row) ≡ suc (length others) = ap (λ (row : List A). length row) is in
    omega (arith, length-drop at row, left)

-- What events make.
pub built_more : (row : List Terminal) (one other : List Event) (workshop : Option Workshop)
    → built_all row (one ++ other) workshop ≡ built_all row other (built_all row one workshop)
unfolding built_all
built_more row [] other workshop = refl
built_more row (event ∷ one) other workshop = built_more row one other (built_next row event workshop)

pub built_one : (row : List Terminal) (event : Event) (count : ℕ) (pieces : List Piece) → built_all row (event ∷ []) (shop count pieces) ≡ built row event count pieces
unfolding built_all
built_one row event count pieces = refl

-- What still stands.
pub kept_then : {s t u : State} → Kept s t → Kept t u → Kept s u
kept_then {s} one other = record {
  row = other.row ∙ one.row;
  added = one.added ++ other.added;
  events = other.events ∙ (ap (λ (events : List Event). events ++ other.added) one.events ∙ append_assoc s.events one.added other.added);
}

pub kept_went : {s t : State} {below above : Pieces} {before after : ℕ} → Went s t below above before after → Kept s t
kept_went went = record { row = went.row; added = went.added; events = went.events }

pub kept_ended : {s t : State} {below above : Pieces} {base levels before : ℕ} {behind : Context} {others : List Terminal}
    → Ended s t below above base levels before behind others → Kept s t
kept_ended far = kept_went far.went

pub kept_at : {s t u : State} → u ≡ t → Kept s t → Kept s u
kept_at {s} same kept = subst (λ (v : State). Kept s v) (sym same) kept

-- over tokens nothing is written
pub kept_skipped : {t u : State} (count : ℕ) → Kept (skipped count t) u → Kept t u
kept_skipped count kept = record { row = kept.row; added = kept.added; events = kept.events }

pub kept_over : (t : State) (count : ℕ) → Kept t (skipped count t)
kept_over t count = record { row = refl; added = []; events = sym (append-nil t.events) }

pub failed_then : {s t u : State} → Kept s t → Failed t u → Failed s u
failed_then kept failed = record { kept = kept_then kept failed.kept; status = failed.status }

-- What is made.
pub went_none : (s : State) (below : Pieces) (before : ℕ) → Went s s below below before before
unfolding built_all
went_none s below before = record { row = refl; added = []; events = sym (append-nil s.events); builds = λ pieces. refl }

pub went_then : {s t u : State} {below lower above : Pieces} {before middle after : ℕ} (under : Pieces)
    → Went s t below (λ pieces. lower (under pieces)) before middle → Went t u lower above middle after
    → Went s u below (λ pieces. above (under pieces)) before after
went_then {s} {t} {u} {below} {lower} {above} {before} {middle} {after} under one other = record {
  row = other.row ∙ one.row;
  added = one.added ++ other.added;
  events = other.events ∙ (ap (λ (events : List Event). events ++ other.added) one.events ∙ append_assoc s.events one.added other.added);
  builds = λ pieces.
      built_more s.row one.added other.added (shop before (below pieces))
      ∙ (ap (λ (workshop : Option Workshop). built_all s.row other.added workshop) (one.builds pieces)
      ∙ (ap (λ (row : List Terminal). built_all row other.added (shop middle (lower (under pieces)))) (sym one.row)
      ∙ other.builds (under pieces)));
}

-- one more event, in a state that differs in nothing else that counts here
pub went_event : {s t : State} {below middle above : Pieces} {before between after : ℕ} (event : Event) (u : State)
    → Went s t below middle before between → u.row ≡ t.row → u.events ≡ t.events ++ event ∷ []
    → ((pieces : List Piece) → built s.row event between (middle pieces) ≡ shop after (above pieces))
    → Went s u below above before after
went_event {s} {t} {below} {middle} {above} {before} {between} {after} event u went row events builds = record {
  row = row ∙ went.row;
  added = went.added ++ event ∷ [];
  events = events ∙ (ap (λ (events : List Event). events ++ event ∷ []) went.events ∙ append_assoc s.events went.added (event ∷ []));
  builds = λ pieces.
      built_more s.row went.added (event ∷ []) (shop before (below pieces))
      ∙ (ap (λ (workshop : Option Workshop). built_all s.row (event ∷ []) workshop) (went.builds pieces)
      ∙ (built_one s.row event between (middle pieces) ∙ builds pieces));
}

-- Tests of the status.
pub if_going : {A : Type 0} (one other : A) (s : State) → s.status ≡ Going → (if goes s then one else other) ≡ one
if_going {A} one other s is = ap (λ (status : Status). if is_going status then one else other) is

pub if_idle : {A : Type 0} (one other : A) (s : State) → goes s ≡ false → (if goes s then one else other) ≡ other
if_idle {A} one other s is = ap (λ (test : Bool). if test then one else other) is

-- a state that no step changes, where it has that status
pub record Still (status : Status) (u v : State) : Type 0 where
  pub idle : is_going status ≡ false
  pub same : u.status ≡ status → v ≡ u

pub still_lost : {u : State} → Still Nothing u u
still_lost = record { idle = refl; same = λ is. refl }

pub still_stopped : {u : State} → Still Stopped u u
still_stopped = record { idle = refl; same = λ is. refl }

pub still_through : {u v w : State} → Still Nothing u v → Still Nothing v w → Still Nothing u w
still_through {u} {v} first second = record { idle = refl; same = λ is. second.same (ap (λ (s : State). s.status) (first.same is) ∙ is) ∙ first.same is }

pub still_goes : {status : Status} {u v : State} (one : State) → Still status u v → Still status u (if goes v then one else v)
still_goes {status} {u} {v} one still = record {
  idle = still.idle;
  same = λ is.
      let same : v ≡ u = still.same is in
      let idle : goes v ≡ false = ap (λ (s : State). goes s) same ∙ (ap (λ (status : Status). is_going status) is ∙ still.idle) in
      if_idle one v v idle ∙ same;
}

pub still_mark : {status : Status} {u v : State} (bytes : List ℕ) → Still status u v → Still status u (mark bytes v)
unfolding mark
still_mark bytes still = still_goes _ still

pub still_word : {status : Status} {u v : State} (bytes : List ℕ) → Still status u v → Still status u (word bytes v)
unfolding word
still_word bytes still = still_goes _ still

pub still_mark_or_back : {status : Status} {u v : State} (bytes : List ℕ) (point : Point) → Still status u v → Still status u (mark_or_back bytes point v)
unfolding mark_or_back
still_mark_or_back bytes point still = still_goes _ still

pub still_write : {status : Status} {u v : State} (event : Event) → Still status u v → Still status u (write event v)
unfolding write
still_write event still = still_goes _ still

pub still_make : {status : Status} {u v : State} (event : Event) → Still status u v → Still status u (make event v)
unfolding make
still_make event still = still_goes _ still

pub still_declare : {status : Status} {u v : State} (at : ℕ) (typedef : Bool) → Still status u v → Still status u (declare at typedef v)
unfolding declare
still_declare at typedef still = still_goes _ still

pub still_enter : {status : Status} {u v : State} → Still status u v → Still status u (enter v)
unfolding enter
still_enter still = still_goes _ still

pub still_leave : {status : Status} {u v : State} → Still status u v → Still status u (leave v)
unfolding leave
still_leave still = still_goes _ still

pub still_ask : {status : Status} {u v : State} (inner : Inner) (wanted : Wanted) → Still status u v → Still status u (ask inner wanted v)
unfolding ask
still_ask inner wanted still = still_goes _ still

pub still_ask_right : {status : Status} {u v : State} (inner : Inner) (wanted : Wanted) (point : Point) (event : Event)
    → Still status u v → Still status u (ask_right inner wanted point event v)
unfolding ask_right
still_ask_right inner wanted point event still = still_goes _ still

lost_again : (s : State) → s.status ≡ Nothing → lost s ≡ s
lost_again s is = λ i. record { row = s.row; at = s.at; status = sym is i; levels = s.levels; unary = s.unary; scope = s.scope; events = s.events }

still_idle : {u v : State} → Still Nothing u v → u.status ≡ Nothing → v.status ≡ Nothing
still_idle still is = ap (λ (s : State). s.status) (still.same is) ∙ is

going_of : (s : State) → s.status ≡ Nothing → goes s ≡ false
going_of s is = ap (λ (status : Status). is_going status) is

pub still_losing : {u v : State} → Still Nothing u v → Still Nothing u (lost v)
still_losing {u} {v} still = record { idle = refl; same = λ is. lost_again v (still_idle still is) ∙ still.same is }

pub still_whole : {u v : State} → Still Nothing u v → Still Nothing u (whole v)
unfolding whole
still_whole {u} {v} still = record {
  idle = refl;
  same = λ is.
      let nothing : v.status ≡ Nothing = still_idle still is in
      if_idle v (lost v) v (going_of v nothing) ∙ (lost_again v nothing ∙ still.same is);
}

pub still_ask_whole : {u v : State} (inner : Inner) (wanted : Wanted) → Still Nothing u v → Still Nothing u (ask_whole inner wanted v)
unfolding ask_whole
still_ask_whole inner wanted still = still_whole (still_ask inner wanted still)

pub still_wrap : {u v : State} (event : Event) → Still Nothing u v → Still Nothing u (wrap event v)
unfolding wrap
still_wrap {u} {v} event still = record {
  idle = refl;
  same = λ is. ap (λ (status : Status). wrapped event status v) (still_idle still is) ∙ still.same is;
}

-- Where the reader goes on.
pub ready : {s t : State} {below above : Pieces} {base levels before : ℕ} {behind : Context} {others : List Terminal}
    → Ended s t below above base levels before behind others → Ready t
ready far = record { status = far.status; inside = far.inside }

pub ended_at : {s t u : State} {below above : Pieces} {base levels before : ℕ} {behind : Context} {others : List Terminal}
    → u ≡ t → Ended s t below above base levels before behind others → Ended s u below above base levels before behind others
ended_at {s} {t} {u} {below} {above} {base} {levels} {before} {behind} {others} same far =
    subst (λ (v : State). Ended s v below above base levels before behind others) (sym same) far

pub ended_levels : {s t : State} {below above : Pieces} {base levels other before : ℕ} {behind : Context} {others : List Terminal}
    → levels ≡ other → Ended s t below above base levels before behind others → Ended s t below above base other before behind others
ended_levels {s} {t} {below} {above} {base} {levels} {other} {before} {behind} {others} same far =
    subst (λ (n : ℕ). Ended s t below above base n before behind others) same far

-- from the start of a part, and of a whole tree
pub ended_part : (s : State) (below : Pieces) (before : ℕ) → Ready s → Ended s s below below s.levels 0 before (context_of s before) (rest s)
ended_part s below before is = record {
  went = went_none s below before;
  status = is.status;
  left = refl;
  scope = refl;
  levels = omega arith;
  on = omega arith;
  inside = is.inside;
}

pub ended_none : (s : State) (below : Pieces) (before : ℕ) → Ready s → s.levels ≡ 0 → Ended s s below below 0 0 before (context_of s before) (rest s)
ended_none s below before is none = record {
  went = went_none s below before;
  status = is.status;
  left = refl;
  scope = refl;
  levels = omega (arith, none);
  on = omega arith;
  inside = is.inside;
}

-- behind a part that is read from there on
pub ended_then : {s t u : State} {below lower above : Pieces} {base levels more before : ℕ} {context behind : Context} {row others : List Terminal} (under : Pieces)
    → Ended s t below (λ pieces. lower (under pieces)) base levels before context row
    → Ended t u lower above t.levels more context.expressions behind others
    → Ended s u below (λ pieces. above (under pieces)) base (max levels more) before behind others
ended_then under far part = record {
  went = went_then under far.went part.went;
  status = part.status;
  left = part.left;
  scope = part.scope;
  levels = omega arith;
  on = omega arith;
  inside = part.inside;
}

pub halted_then : {s t u : State} {below lower above : Pieces} {base levels before after : ℕ} {context : Context} {row others : List Terminal} (under : Pieces)
    → Ended s t below (λ pieces. lower (under pieces)) base levels before context row
    → Halted t u lower above context.expressions after others
    → Halted s u below (λ pieces. above (under pieces)) before after others
halted_then under far part = record { went = went_then under far.went part.went; status = part.status; left = part.left }

-- over a token
pub ended_skip : {s t : State} {below above : Pieces} {base levels before : ℕ} {behind : Context} {first : Terminal} {others : List Terminal}
    → Ended s t below above base levels before behind (first ∷ others) → Ended s (skipped 1 t) below above base levels before behind others
ended_skip {s} {t} {below} {above} {base} {levels} {before} {behind} {first} {others} far =
    let inside : t.at + 1 ≤ length t.row = row_inside t.at t.row others first far.left in
    record {
      went = record { row = far.went.row; added = far.went.added; events = far.went.events; builds = far.went.builds };
      status = far.status;
      left = row_more t.at t.row others first far.left;
      scope = far.scope;
      levels = far.levels;
      on = omega arith;
      inside = inside;
    }

-- the token there
pub ended_token : {s t : State} {below above : Pieces} {base levels before : ℕ} {behind : Context} {first : Terminal} {others : List Terminal}
    → Ended s t below above base levels before behind (first ∷ others) → token_at s.row t.at ≡ first
ended_token {s} {t} {first} {others} far =
    ap (λ (row : List Terminal). token_at row t.at) (sym far.went.row) ∙ row_at t.at t.row others first no_token far.left

-- the place of the token there, or that of none behind the last
pub place_next : {s t : State} {below above : Pieces} {base levels before : ℕ} {behind : Context} {others : List Terminal}
    → Ended s t below above base levels before behind others → place_at s.row t.at ≡ first_place others
place_next {s} {t} far = place_first t.at s.row ∙ ap first_place (ap (λ (row : List Terminal). drop t.at row) (sym far.went.row) ∙ far.left)

-- a part is written: what it makes is known by computation, mostly
pub ended_write : {s t : State} {below middle above : Pieces} {base levels before after : ℕ} {behind : Context} {others : List Terminal} (event : Event)
    → ((pieces : List Piece) → built s.row event behind.expressions (middle pieces) ≡ shop after (above pieces))
    → Ended s t below middle base levels before behind others
    → Ended s (write event t) below above base levels before (record { scope = behind.scope; expressions = after }) others
unfolding write
ended_write {t} event builds far = ended_at (if_going (with_event event t) t t far.status) (record {
  went = went_event event (with_event event t) far.went refl refl builds;
  status = far.status;
  left = far.left;
  scope = far.scope;
  levels = far.levels;
  on = far.on;
  inside = far.inside;
})

-- a tree is made, which has one level more than its parts
pub ended_make : {s t : State} {below middle above : Pieces} {levels before after : ℕ} {behind : Context} {others : List Terminal} (event : Event)
    → ((pieces : List Piece) → built s.row event behind.expressions (middle pieces) ≡ shop after (above pieces))
    → Ended s t below middle 0 levels before behind others
    → Ended s (make event t) below above 0 (1 + levels) before (record { scope = behind.scope; expressions = after }) others
unfolding make
ended_make {t} event builds far = ended_at (if_going (with_levels (t.levels + 1) (with_event event t)) t t far.status) (record {
  went = went_event event (with_levels (t.levels + 1) (with_event event t)) far.went refl refl builds;
  status = far.status;
  left = far.left;
  scope = far.scope;
  levels = omega (arith, far.levels);
  on = far.on;
  inside = far.inside;
})

ended_scope : {s t : State} {below above : Pieces} {base levels before : ℕ} {behind : Context} {others : List Terminal} (scope : List Names)
    → Ended s t below above base levels before behind others → Ended s (with_scope scope t) below above base levels before (scoped behind scope) others
ended_scope scope far = record {
  went = record { row = far.went.row; added = far.went.added; events = far.went.events; builds = far.went.builds };
  status = far.status;
  left = far.left;
  scope = refl;
  levels = far.levels;
  on = far.on;
  inside = far.inside;
}

ended_behind : {s t : State} {below above : Pieces} {base levels before expressions : ℕ} {one other : List Names} {others : List Terminal} → one ≡ other
    → Ended s t below above base levels before (record { scope = one; expressions = expressions }) others
    → Ended s t below above base levels before (record { scope = other; expressions = expressions }) others
ended_behind {s} {t} {below} {above} {base} {levels} {before} {expressions} {one} {other} {others} same far =
    subst (λ (scope : List Names). Ended s t below above base levels before (record { scope = scope; expressions = expressions }) others) same far

pub ended_enter : {s t : State} {below above : Pieces} {base levels before : ℕ} {behind : Context} {others : List Terminal}
    → Ended s t below above base levels before behind others → Ended s (enter t) below above base levels before (scoped behind (entered behind.scope)) others
unfolding enter
ended_enter {t} far = ended_at (if_going (with_scope (entered t.scope) t) t t far.status)
    (ended_behind (ap (λ (scope : List Names). entered scope) far.scope) (ended_scope (entered t.scope) far))

pub ended_leave : {s t : State} {below above : Pieces} {base levels before : ℕ} {behind : Context} {others : List Terminal}
    → Ended s t below above base levels before behind others → Ended s (leave t) below above base levels before (scoped behind (left behind.scope)) others
unfolding leave
ended_leave {t} far = ended_at (if_going (with_scope (left t.scope) t) t t far.status)
    (ended_behind (ap (λ (scope : List Names). left scope) far.scope) (ended_scope (left t.scope) far))

-- the token whose name is declared has those bytes
pub ended_declare : {s t : State} {below above : Pieces} {base levels before : ℕ} {behind : Context} {others : List Terminal} (at : ℕ) (bytes : List ℕ) (typedef : Bool)
    → bytes_at s.row at ≡ bytes
    → Ended s t below above base levels before behind others → Ended s (declare at typedef t) below above base levels before (scoped behind (declared bytes typedef behind.scope)) others
unfolding declare
ended_declare {s} {t} at bytes typedef is far =
    let found : bytes_at t.row at ≡ bytes = ap (λ (row : List Terminal). bytes_at row at) far.went.row ∙ is in
    ended_at (if_going (with_scope (declared (bytes_at t.row at) typedef t.scope) t) t t far.status)
    (ended_behind (λ i. declared (found i) typedef (far.scope i)) (ended_scope (declared (bytes_at t.row at) typedef t.scope) far))
