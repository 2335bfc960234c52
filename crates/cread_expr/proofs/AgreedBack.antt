-- Rules that go back: where more does not follow, the tree before it is all that is read.
use Rattle.std.proofs.Common.{◌≡◌, ℕ, ◌+◌, max, Bool, true, false, List, [], ◌∷◌, drop, take, length, refl, ap, ◌∙◌, arith}
use Rattle.std.proofs.lemmas.List.{take_at}
use Rattle.std.specs.Prelude.{if◌then◌else◌}
use Rattle.cevents.specs.Building.{built}
use Rattle.cevents.specs.declared.event.Event.{Event}
use Rattle.cevents.specs.declared.piece.Piece.{Piece}
use Rattle.cgrammar.specs.Outcomes.{Outcome, Reader, or_else, with_right, continued, after_mark, has_mark}
use Rattle.cgrammar.specs.Outcomes as outcome
use Rattle.cgrammar.specs.Phrases.{Context, counted}
use Rattle.cgrammar.specs.Terminals.{Terminal, is_mark}
use Rattle.cparser.specs.State.{State, rest, is_going, goes, with_levels, with_event, skipped, stopped, point_of, back_at}
use Rattle.cparser.specs.Steps.{Inner, mark_or_back, back_unless_going, join, joined, ask, ask_right}
use Rattle.cparser.specs.declared.point.Point.{Point}
use Rattle.cparser.specs.declared.status.Status.{Status}
use Rattle.cparser.specs.declared.status.Status.TheVariants.{Going, Stopped, Nothing}
use Rattle.cparser.specs.declared.wanted.Wanted.{Wanted}
use Rattle.ctokens.proofs.Choices.{chosen_yes, chosen_no}
use Rattle.cread_expr.proofs.Agreed.{shop, Pieces, none, Kept, Halted, Ended, Agreed, Reads, Continues, anyhow}
use Rattle.cread_expr.proofs.AgreedRules.{agreed_lost, agreed_halted, agreed_at, same_first, from_here, ask_anyhow}
use Rattle.cread_expr.proofs.AgreedSteps.{kept_at, kept_over, kept_went, kept_ended, went_event, if_going, if_idle, Still, ended_at, ended_then, halted_then, ended_skip}

-- the tree that is read up to a point is all that is read
pub agreed_back : {A : Type 0} {s t u : State} {below : Pieces} {above : A → Pieces} {fits : A → State → Type 0} {base levels before : ℕ} {behind : Context} {others : List Terminal} (tree : A)
    → Ended s t below (above tree) base levels before behind others → Kept t u → fits tree (back_at (point_of t) u)
    → Agreed below above fits base before (outcome.Stopped tree behind.expressions others) s (back_at (point_of t) u)
agreed_back {s} {t} {u} {others} tree far kept fits = agreed_halted (record {
  went = record {
    row = kept.row ∙ far.went.row;
    added = far.went.added;
    events = (ap (λ (events : List Event). take (length t.events) events) kept.events ∙ take_at t.events kept.added (length t.events) refl) ∙ far.went.events;
    builds = far.went.builds;
  };
  status = refl;
  left = ap (λ (row : List Terminal). drop t.at row) kept.row ∙ far.left;
}) fits

-- the tree that is read so far is all that is read
pub agreed_stopped : {A : Type 0} {s t : State} {below : Pieces} {above : A → Pieces} {fits : A → State → Type 0} {base levels before : ℕ} {behind : Context} {others : List Terminal} (tree : A)
    → Ended s t below (above tree) base levels before behind others → fits tree (stopped t)
    → Agreed below above fits base before (outcome.Stopped tree behind.expressions others) s (stopped t)
agreed_stopped {t} tree far fits = agreed_halted (record {
  went = record { row = far.went.row; added = far.went.added; events = far.went.events; builds = far.went.builds };
  status = refl;
  left = far.left;
}) fits

-- a part, or back to a point
pub else_back : {A B : Type 0} {s t v : State} {below lower : Pieces} {upper : A → Pieces} {holds : A → State → Type 0} {above : B → Pieces} {fits : B → State → Type 0} {base levels before : ℕ} {context : Context} {row : List Terminal}
    (under : Pieces) (reader : Reader A) (steps : State → State) (point : Point) (without : Outcome B) (go : A → ℕ → Context → List Terminal → Outcome B)
    → Ended s t below (λ pieces. lower (under pieces)) base levels before context row
    → Continues lower upper holds reader steps
    → Still Stopped (back_unless_going point (steps t)) v
    → ((u : State) → Kept t u → Agreed below above fits base before without s (back_at point u))
    → ((tree : A) (more : ℕ) (behind : Context) (others : List Terminal) → Kept t (back_unless_going point (steps t))
    → Ended s (back_unless_going point (steps t)) below (λ pieces. upper tree (under pieces)) base (max levels more) before behind others
    → Agreed below above fits base before (go tree more behind others) s v)
    → Agreed below above fits base before (or_else (reader context row) without go) s v
unfolding back_unless_going
else_back {A} {B} {s} {t} {v} {below} {lower} {upper} {holds} {above} {fits} {base} {levels} {before} {context} {row} under reader steps point without go far agrees still other next =
    case (reader context row) (from_here reader steps far agrees)
  where
    going_back : goes (steps t) ≡ false → Kept t (steps t) → Agreed below above fits base before without s v
    going_back idle kept =
        let same : back_unless_going point (steps t) ≡ back_at point (steps t) = if_idle (steps t) (back_at point (steps t)) (steps t) idle in
        let halts : (back_unless_going point (steps t)).status ≡ Stopped = ap (λ (u : State). u.status) same in
        agreed_at (still.same halts ∙ same) (other (steps t) kept)

    case : (outcome : Outcome A) → Agreed lower upper holds t.levels context.expressions outcome t (steps t) → Agreed below above fits base before (or_else outcome without go) s v
    case outcome.Nothing is = going_back (ap (λ (status : Status). is_going status) is.is.status) is.is.kept
    case (outcome.Stopped tree expressions others) is = going_back (ap (λ (status : Status). is_going status) is.is.0.status) (kept_went is.is.0.went)
    case (outcome.Read tree more behind others) is =
        let same : back_unless_going point (steps t) ≡ steps t = if_going (steps t) (back_at point (steps t)) (steps t) is.is.0.status in
        next tree more behind others (kept_at same (kept_ended is.is.0)) (ended_at same (ended_then under far is.is.0))

-- a mark, or back to a point
pub mark_back : {B : Type 0} {s t v : State} {below middle : Pieces} {above : B → Pieces} {fits : B → State → Type 0} {base levels before : ℕ} {context : Context}
    (bytes : List ℕ) (row : List Terminal) (point : Point) (without : Outcome B) (go : Terminal → List Terminal → Outcome B)
    → Ended s t below middle base levels before context row
    → Still Stopped (mark_or_back bytes point t) v
    → Agreed below above fits base before without s (back_at point t)
    → ((first : Terminal) (others : List Terminal) → Kept t (mark_or_back bytes point t) → Ended s (mark_or_back bytes point t) below middle base levels before context others
    → Agreed below above fits base before (go first others) s v)
    → Agreed below above fits base before (after_mark bytes row without go) s v
unfolding mark_or_back
mark_back {B} {s} {t} {v} {below} {middle} {above} {fits} {base} {levels} {before} {context} bytes row point without go far still other next = case row far
  where
    going_back : (row : List Terminal) → Ended s t below middle base levels before context row → has_mark bytes row ≡ false → Agreed below above fits base before without s v
    going_back row far is =
        let same : mark_or_back bytes point t ≡ back_at point t = if_going _ t t far.status ∙ chosen_no (has_mark bytes (rest t)) (skipped 1 t) (back_at point t) (same_first (is_mark bytes) far ∙ is) in
        let halts : (mark_or_back bytes point t).status ≡ Stopped = ap (λ (u : State). u.status) same in
        agreed_at (still.same halts ∙ same) other

    tested : (first : Terminal) (others : List Terminal) (passes : Bool) → is_mark bytes first ≡ passes → Ended s t below middle base levels before context (first ∷ others)
        → Agreed below above fits base before (if passes then go first others else without) s v
    tested first others true is far =
        let same : mark_or_back bytes point t ≡ skipped 1 t = if_going _ t t far.status ∙ chosen_yes (has_mark bytes (rest t)) (skipped 1 t) (back_at point t) (same_first (is_mark bytes) far ∙ is) in
        next first others (kept_at same (kept_over t 1)) (ended_at same (ended_skip far))
    tested first others false is far = going_back (first ∷ others) far is

    case : (row : List Terminal) → Ended s t below middle base levels before context row → Agreed below above fits base before (after_mark bytes row without go) s v
    case [] far = going_back [] far refl
    case (first ∷ others) far = tested first others (is_mark bytes first) refl far

-- an operand to the right of an operator, and the tree that it is a part of
pub right_joined : {A B : Type 0} {s t v : State} {below under : Pieces} {upper : A → Pieces} {above : B → Pieces} {levels before : ℕ} {context : Context} {row : List Terminal}
    (reader : Reader A) (inner : Inner) (wanted : Wanted) (point : Point) (event : Event) (without : Outcome B) (tree_of : A → ℕ → B) (go : A → ℕ → Context → List Terminal → Outcome B)
    → Ended s t below under 0 levels before context row
    → Reads upper anyhow reader (inner.reads wanted)
    → ((tree : A) (count : ℕ) (pieces : List Piece) → built s.row event count (upper tree (under pieces)) ≡ shop (count + 1) (above (tree_of tree count) pieces))
    → Still Stopped (ask_right inner wanted point event t) v
    → ((u : State) → Kept t u → Agreed below above anyhow 0 before without s (back_at point u))
    → ((tree : A) (more : ℕ) (behind : Context) (others : List Terminal) → Ended s (ask_right inner wanted point event t) below (above (tree_of tree behind.expressions)) 0 (1 + max levels more) before (counted behind) others
    → Agreed below above anyhow 0 before (go tree more behind others) s v)
    → Agreed below above anyhow 0 before (with_right (reader context row) without tree_of go) s v
unfolding ask_right join
right_joined {A} {B} {s} {t} {v} {below} {under} {upper} {above} {levels} {before} {context} {row} reader inner wanted point event without tree_of go far agrees builds still other next =
    case (reader context row) (from_here reader (ask inner wanted) far (ask_anyhow reader inner wanted agrees))
  where
    asked : State
    asked = ask inner wanted t

    to : (status : Status) → asked.status ≡ status → ask_right inner wanted point event t ≡ joined point event status asked
    to status is = if_going _ t t far.status ∙ ap (λ (status : Status). joined point event status asked) is

    case : (outcome : Outcome A) → Agreed none upper anyhow t.levels context.expressions outcome t asked → Agreed below above anyhow 0 before (with_right outcome without tree_of go) s v
    case outcome.Nothing is =
        let same : ask_right inner wanted point event t ≡ back_at point asked = to Nothing is.is.status in
        let halts : (ask_right inner wanted point event t).status ≡ Stopped = ap (λ (u : State). u.status) same in
        agreed_at (still.same halts ∙ same) (other asked is.is.kept)
    case (outcome.Stopped tree expressions others) is =
        let same : ask_right inner wanted point event t ≡ with_event event asked = to Stopped is.is.0.status in
        let halts : (ask_right inner wanted point event t).status ≡ Stopped = ap (λ (u : State). u.status) same ∙ is.is.0.status in
        let halted : Halted s asked below (λ pieces. upper tree (under pieces)) before expressions others = halted_then under far is.is.0 in
        agreed_at (still.same halts ∙ same) (agreed_halted (record {
          went = went_event event (with_event event asked) halted.went refl refl (builds tree expressions);
          status = halted.status;
          left = halted.left;
        }) tt)
    case (outcome.Read tree more behind others) is =
        let same : ask_right inner wanted point event t ≡ with_levels (asked.levels + 1) (with_event event asked) = to Going is.is.0.status in
        let ended : Ended s asked below (λ pieces. upper tree (under pieces)) 0 (max levels more) before behind others = ended_then under far is.is.0 in
        next tree more behind others (ended_at same (record {
          went = went_event event (with_levels (asked.levels + 1) (with_event event asked)) ended.went refl refl (builds tree behind.expressions);
          status = ended.status;
          left = ended.left;
          scope = ended.scope;
          levels = omega (arith, ended.levels);
          on = ended.on;
          inside = ended.inside;
        }))

-- what is read behind a tree, where it may be the whole of another one
pub then_continued : {A B : Type 0} {s t v : State} {below : Pieces} {above : B → Pieces} {holds : A → State → Type 0} {base before : ℕ}
    (outcome : Outcome A) (tree_of : A → B) (go : A → ℕ → Context → List Terminal → Outcome B)
    → Agreed below (λ tree. above (tree_of tree)) holds base before outcome s t
    → Still Nothing t v → Still Stopped t v
    → ((tree : A) (levels : ℕ) (behind : Context) (others : List Terminal) → Ended s t below (above (tree_of tree)) base levels before behind others → holds tree t
    → Agreed below above anyhow base before (go tree levels behind others) s v)
    → Agreed below above anyhow base before (continued outcome tree_of go) s v
then_continued outcome.Nothing tree_of go is lost_still still next = agreed_lost is.is lost_still
then_continued (outcome.Stopped tree expressions others) tree_of go is lost_still still next = agreed_at (still.same is.is.0.status) (agreed_halted is.is.0 tt)
then_continued (outcome.Read tree levels behind others) tree_of go is lost_still still next = next tree levels behind others is.is.0 is.is.1
