-- Sizes of arrays, and names of types.
use Rattle.std.proofs.Common.{◌≡◌, ℕ, zero, suc, ◌+◌, ◌≤◌, max, Bool, true, false, ◌||◌, List, [], ◌∷◌, ◌++◌, drop, length, codes, Option, None, Some, is_some, refl, ap, sym, ◌∙◌, subst, arith, length-drop, drop-drop, append-nil}
use Rattle.std.proofs.lemmas.List.Sums.{prefix_len-le-length}
use Rattle.std.specs.List.{list_all}
use Rattle.std.specs.Prelude.{if◌then◌else◌}
use Rattle.cbase.specs.declared.tree.decl.TypeName.{TypeName}
use Rattle.cbase.specs.declared.tree.expr.Expr.{Expr}
use Rattle.cevents.specs.declared.event.Event.TheVariants as event
use Rattle.cevents.specs.declared.piece.Piece.TheVariants as piece
use Rattle.cgrammar.specs.Outcomes.{Outcome, Reader, then_read, after_first, after_mark, has_first, has_mark, behind_first}
use Rattle.cgrammar.specs.Outcomes as outcome
use Rattle.cgrammar.specs.Phrases.{Context}
use Rattle.cgrammar.specs.ReadLevels.{Level, prepended}
use Rattle.cgrammar.specs.ReadTypes.{star_count, behind_stars, read_sizes, read_type_name}
use Rattle.cgrammar.specs.ReadTypes as reader
use Rattle.cgrammar.specs.Terminals.{Terminal, is_mark}
use Rattle.cparser.specs.State.{State, rest, skipped, lost}
use Rattle.cparser.specs.Steps.{Inner, mark, ask_whole, write}
use Rattle.cparser.specs.TypeSteps.{sizes, sizes_from, all_sizes, type_name, type_name_behind}
use Rattle.cparser.specs.TypeSteps as steps
use Rattle.cparser.specs.declared.status.Status.TheVariants.{Nothing}
use Rattle.cparser.specs.declared.wanted.Wanted.TheVariants as wanted
use Rattle.ctokens.proofs.Choices.{chosen_yes, chosen_no}
use Rattle.cread_expr.proofs.Agreed.{Pieces, none, Ended, Agreed, Follows, Continues, ends, context_of, LevelAgrees}
use Rattle.cread_expr.proofs.AgreedLists.{failed_lost, then_prepended}
use Rattle.cread_expr.proofs.AgreedRules.{agreed_read, agreed_failed, agreed_lost, agreed_at, agreed_outcome, agreed_goes, same_first, if_first, then_asked, then_ends, then_mark}
use Rattle.cread_expr.proofs.AgreedSteps.{kept_ended, failed_then, Still, still_lost, still_losing, still_goes, still_mark, still_write, still_ask_whole, ended_levels, ended_part, ended_skip, ended_write}

-- what is read to its end
pub read_ends : {A : Type 0} {s t : State} {below : Pieces} {above : A → Pieces} {base levels before : ℕ} {behind : Context} {others : List Terminal} {tree : A}
    → Ended s t below (above tree) base levels before behind others → Agreed below above ends base before (outcome.Read tree levels behind others) s t
read_ends far = agreed_read far far.status

-- nothing is read there
pub lost_here : {A : Type 0} {s t v : State} {below middle : Pieces} {above : A → Pieces} {fits : A → State → Type 0} {base levels before : ℕ} {context : Context} {row : List Terminal}
    → Ended s t below middle base levels before context row → Still Nothing (lost t) v → Agreed below above fits base before outcome.Nothing s v
lost_here {t} far still = agreed_lost (failed_then (kept_ended far) (failed_lost t)) still

-- over so many tokens
pub ended_over : {s t : State} {below above : Pieces} {base levels before : ℕ} {behind : Context} {others : List Terminal} (count : ℕ) → count ≤ length others
    → Ended s t below above base levels before behind others → Ended s (skipped count t) below above base levels before behind (drop count others)
ended_over {s} {t} {others} count fits far =
    let fewer = length-drop t.at t.row in
    let same : length (drop t.at t.row) ≡ length others = ap (λ (row : List Terminal). length row) far.left in
    record {
      went = record { row = far.went.row; added = far.went.added; events = far.went.events; builds = far.went.builds };
      status = far.status;
      left = sym (drop-drop count t.at t.row) ∙ ap (λ (row : List Terminal). drop count row) far.left;
      scope = far.scope;
      levels = far.levels;
      on = let on = far.on in omega (arith, on);
      inside = let inside = far.inside in omega (arith, fits, fewer, same, inside);
    }

pub ended_stars : {s t : State} {below above : Pieces} {base levels before : ℕ} {behind : Context} {others : List Terminal}
    → Ended s t below above base levels before behind others → Ended s (skipped (star_count others) t) below above base levels before behind (behind_stars others)
ended_stars {others} far = ended_over (star_count others) (prefix_len-le-length (is_mark (codes "*")) others) far

-- a token that may follow, where the reader function looks before it goes over it too
behind_is : {B : Type 0} (test : Terminal → Bool) (row : List Terminal) (one : List Terminal → Outcome B) (other : Outcome B)
    → (if has_first test row then one (behind_first row) else other) ≡ after_first test row other (λ first others. one others)
behind_is test [] one other = refl
behind_is test (first ∷ others) one other = refl

pub if_behind : {B : Type 0} {s t u v : State} {below middle : Pieces} {above : B → Pieces} {fits : B → State → Type 0} {base levels before : ℕ} {context : Context}
    (test : Terminal → Bool) (row : List Terminal) (one : List Terminal → Outcome B) (other : Outcome B)
    → Ended s t below middle base levels before context row
    → (has_first test row ≡ false → Agreed below above fits base before other s v)
    → ((first : Terminal) (others : List Terminal) → test first ≡ true → Ended s t below middle base levels before context (first ∷ others) → Ended s (skipped 1 t) below middle base levels before context others
    → Agreed below above fits base before (one others) s u)
    → Agreed below above fits base before (if has_first test row then one (behind_first row) else other) s (if has_first test (rest t) then u else v)
if_behind test row one other far without next =
    agreed_outcome (behind_is test row one other) (if_first test row other (λ first others. one others) far without next)

-- Sizes.
abbrev pub sizes_piece : List (Option Expr) → Pieces
sizes_piece sizes pieces = piece.Sizes sizes ∷ pieces

-- sizes may be left out, or may not
abbrev pub admitted : Bool → Outcome (List (Option Expr)) → Outcome (List (Option Expr))
admitted optional outcome.Nothing = outcome.Nothing
admitted optional (outcome.Stopped sizes expressions others) = outcome.Nothing
admitted optional (outcome.Read sizes levels behind others) = if optional || list_all is_some sizes then outcome.Read sizes levels behind others else outcome.Nothing

admitted_empty : (optional : Bool) (context : Context) (row : List Terminal) → admitted optional (outcome.Read [] 0 context row) ≡ outcome.Read [] 0 context row
admitted_empty true context row = refl
admitted_empty false context row = refl

admitted_then : {A : Type 0} (optional : Bool) (found : Outcome A) (go : A → ℕ → Context → List Terminal → Outcome (List (Option Expr)))
    → admitted optional (then_read found go) ≡ then_read found (λ tree levels behind others. admitted optional (go tree levels behind others))
admitted_then optional outcome.Nothing go = refl
admitted_then optional (outcome.Stopped tree expressions others) go = refl
admitted_then optional (outcome.Read tree levels behind others) go = refl

admitted_first : (optional : Bool) (test : Terminal → Bool) (row : List Terminal) (go : Terminal → List Terminal → Outcome (List (Option Expr)))
    → admitted optional (after_first test row outcome.Nothing go) ≡ after_first test row outcome.Nothing (λ first others. admitted optional (go first others))
admitted_first optional test [] go = refl
admitted_first optional test (first ∷ others) go = case (test first)
  where
    case : (passes : Bool) → admitted optional (if passes then go first others else outcome.Nothing) ≡ (if passes then admitted optional (go first others) else outcome.Nothing)
    case true = refl
    case false = refl

admitted_some : (optional : Bool) (size : Expr) (levels : ℕ) (found : Outcome (List (Option Expr)))
    → admitted optional (prepended (Some size) levels found) ≡ prepended (Some size) levels (admitted optional found)
admitted_some optional size levels outcome.Nothing = refl
admitted_some optional size levels (outcome.Stopped sizes expressions others) = refl
admitted_some optional size levels (outcome.Read sizes more behind others) = case (optional || list_all is_some sizes)
  where
    case : (all : Bool) → (if all then outcome.Read (Some size ∷ sizes) (max levels more) behind others else outcome.Nothing)
        ≡ prepended (Some size) levels (if all then outcome.Read sizes more behind others else outcome.Nothing)
    case true = refl
    case false = refl

admitted_open : (levels : ℕ) (found : Outcome (List (Option Expr))) → admitted true (prepended None levels found) ≡ prepended None levels (admitted true found)
admitted_open levels outcome.Nothing = refl
admitted_open levels (outcome.Stopped sizes expressions others) = refl
admitted_open levels (outcome.Read sizes more behind others) = refl

admitted_none : (levels : ℕ) (found : Outcome (List (Option Expr))) → admitted false (prepended None levels found) ≡ outcome.Nothing
admitted_none levels outcome.Nothing = refl
admitted_none levels (outcome.Stopped sizes expressions others) = refl
admitted_none levels (outcome.Read sizes more behind others) = refl

then_open : {B : Type 0} (found : Outcome (List (Option Expr))) (go : List (Option Expr) → ℕ → Context → List Terminal → Outcome B) → then_read found go ≡ then_read (admitted true found) go
then_open outcome.Nothing go = refl
then_open (outcome.Stopped sizes expressions others) go = refl
then_open (outcome.Read sizes levels behind others) go = refl

then_closed : {B : Type 0} (found : Outcome (List (Option Expr))) (go : List (Option Expr) → ℕ → Context → List Terminal → Outcome B)
    → then_read found (λ sizes levels behind others. if list_all is_some sizes then go sizes levels behind others else outcome.Nothing) ≡ then_read (admitted false found) go
then_closed outcome.Nothing go = refl
then_closed (outcome.Stopped sizes expressions others) go = refl
then_closed {B} (outcome.Read sizes levels behind others) go = case (list_all is_some sizes)
  where
    case : (all : Bool) → (if all then go sizes levels behind others else outcome.Nothing) ≡ then_read (if all then outcome.Read sizes levels behind others else outcome.Nothing) go
    case true = refl
    case false = refl

pub still_sizes : {u v : State} (inner : Inner) (optional : Bool) (count : ℕ) → Still Nothing u v → Still Nothing u (sizes inner optional count v)
unfolding sizes
still_sizes inner optional zero still = still_losing still
still_sizes inner optional (suc count) still = still_goes _ still

-- a size, and those behind it
size_agrees : {level : Level} {inner : Inner} {s t : State} {below : Pieces} {base before : ℕ} {context : Context} (optional : Bool) (done : List (Option Expr)) (read : Reader (List (Option Expr))) (go : State → State) (row : List Terminal)
    → LevelAgrees level inner
    → ((u v : State) → Still Nothing u v → Still Nothing u (go v))
    → ((size : Option Expr) → Continues (sizes_piece (done ++ size ∷ [])) (λ more. sizes_piece ((done ++ size ∷ []) ++ more)) ends (λ context row. admitted optional (read context row)) go)
    → Ended s t below (sizes_piece done) base 0 before context row
    → Agreed below (λ more. sizes_piece (done ++ more)) ends base before (admitted optional (reader.size_behind read level context row)) s (go (steps.size_behind inner optional t))
unfolding steps.size_behind
size_agrees {level} {inner} {s} {t} {below} {base} {before} {context} optional done read go row agrees through again far = tested row (has_mark (codes "]") row) refl far
  where
    closing : (optional : Bool) (row : List Terminal)
        → ((size : Option Expr) → Continues (sizes_piece (done ++ size ∷ [])) (λ more. sizes_piece ((done ++ size ∷ []) ++ more)) ends (λ context row. admitted optional (read context row)) go)
        → Ended s t below (sizes_piece done) base 0 before context row → Ended s (skipped 1 t) below (sizes_piece done) base 0 before context (behind_first row)
        → Agreed below (λ more. sizes_piece (done ++ more)) ends base before (admitted optional (prepended None 0 (read context (behind_first row)))) s (go (if optional then write event.OpenSize (skipped 1 t) else lost t))
    closing true row again far behind =
        agreed_outcome (admitted_open 0 (read context (behind_first row)))
        (then_prepended sizes_piece none done None (λ context row. admitted true (read context row)) go (ended_write event.OpenSize (λ pieces. refl) behind) (again None))
    closing false row again far behind = agreed_outcome (admitted_none 0 (read context (behind_first row))) (lost_here far (through _ _ still_lost))

    tested : (row : List Terminal) (found : Bool) → has_mark (codes "]") row ≡ found → Ended s t below (sizes_piece done) base 0 before context row
        → Agreed below (λ more. sizes_piece (done ++ more)) ends base before
        (admitted optional (if found then prepended None 0 (read context (behind_first row))
        else then_read (level.conditional context row) (λ size levels behind others.
        after_mark (codes "]") others outcome.Nothing (λ closing more. prepended (Some size) levels (read behind more))))) s
        (go (if has_mark (codes "]") (rest t) then (if optional then write event.OpenSize (skipped 1 t) else lost t) else write event.Size (mark (codes "]") (ask_whole inner wanted.Conditional t))))
    tested [] true found far = cc found
    tested (first ∷ others) true found far =
        agreed_at (ap go (chosen_yes _ _ _ (same_first (is_mark (codes "]")) far ∙ found))) (closing optional (first ∷ others) again far (ended_skip far))
    tested row false found far =
        agreed_at (ap go (chosen_no _ _ _ (same_first (is_mark (codes "]")) far ∙ found)))
        (agreed_outcome (admitted_then optional (level.conditional context row) _)
        (then_asked (sizes_piece done) level.conditional inner wanted.Conditional _ far agrees.conditional (through _ _ (still_write _ (still_mark _ still_lost))) (λ size levels behind others further.
        agreed_outcome (admitted_first optional (is_mark (codes "]")) others _)
        (then_mark (codes "]") others _ further (through _ _ (still_write _ still_lost)) (λ bracket more is at beyond.
        agreed_outcome (admitted_some optional size levels (read behind more))
        (then_prepended sizes_piece none done (Some size) (λ context row. admitted optional (read context row)) go (ended_levels (omega arith) (ended_write event.Size (λ pieces. refl) beyond)) (again (Some size))))))))

pub sizes_agree : {level : Level} {inner : Inner} (optional : Bool) (count : ℕ) (done : List (Option Expr)) → LevelAgrees level inner
    → Continues (sizes_piece done) (λ more. sizes_piece (done ++ more)) ends (λ context row. admitted optional (read_sizes level count context row)) (sizes inner optional count)
unfolding read_sizes sizes
sizes_agree optional zero done agrees s before is = agreed_failed (failed_lost s)
sizes_agree {level} {inner} optional (suc count) done agrees s before is =
    agreed_goes s s is.status (tested (λ size. sizes_agree optional count (done ++ size ∷ []) agrees) (rest s) (has_mark (codes "[") (rest s)) refl (ended_part s (sizes_piece done) before is))
  where
    tested : ((size : Option Expr) → Continues (sizes_piece (done ++ size ∷ [])) (λ more. sizes_piece ((done ++ size ∷ []) ++ more)) ends (λ context row. admitted optional (read_sizes level count context row)) (sizes inner optional count))
        → (row : List Terminal) (found : Bool) → has_mark (codes "[") row ≡ found → Ended s s (sizes_piece done) (sizes_piece done) s.levels 0 before (context_of s before) row
        → Agreed (sizes_piece done) (λ more. sizes_piece (done ++ more)) ends s.levels before
        (admitted optional (if found then reader.size_behind (read_sizes level count) level (context_of s before) (behind_first row) else outcome.Read [] 0 (context_of s before) row)) s
        (if has_mark (codes "[") (rest s) then sizes inner optional count (steps.size_behind inner optional (skipped 1 s)) else s)
    tested again [] true found far = cc found
    tested again (first ∷ others) true found far =
        agreed_at (chosen_yes _ _ _ (same_first (is_mark (codes "[")) far ∙ found))
        (size_agrees optional done (read_sizes level count) (sizes inner optional count) others agrees (λ u v still. still_sizes inner optional count still) again (ended_skip far))
    tested again row false found far =
        agreed_at (chosen_no _ _ _ (same_first (is_mark (codes "[")) far ∙ found))
        (agreed_outcome (admitted_empty optional (context_of s before) row)
        (read_ends (subst (λ (all : List (Option Expr)). Ended s s (sizes_piece done) (sizes_piece all) s.levels 0 before (context_of s before) row) (sym (append-nil done)) far)))

-- all sizes that follow a name
then_all_sizes : {level : Level} {inner : Inner} {B : Type 0} {s t v : State} {below under : Pieces} {above : B → Pieces} {fits : B → State → Type 0} {base levels before : ℕ} {context : Context} {row : List Terminal}
    (optional : Bool) (go : List (Option Expr) → ℕ → Context → List Terminal → Outcome B)
    → LevelAgrees level inner
    → Ended s t below under base levels before context row
    → Still Nothing (all_sizes inner optional t) v
    → ((sizes : List (Option Expr)) (more : ℕ) (behind : Context) (others : List Terminal) → Ended s (all_sizes inner optional t) below (λ pieces. sizes_piece sizes (under pieces)) base (max levels more) before behind others
    → Agreed below above fits base before (go sizes more behind others) s v)
    → Agreed below above fits base before (then_read (admitted optional (read_sizes level (length row + 1) context row)) go) s v
unfolding all_sizes
then_all_sizes {level} {inner} {under} optional go agrees far still next =
    then_ends under (λ context row. admitted optional (read_sizes level (length row + 1) context row)) (sizes_from inner optional) go
    (ended_write event.NoSizes (λ pieces. refl) far) (λ s before is. sizes_agree optional (length (rest s) + 1) [] agrees s before is) still next

pub then_sizes : {level : Level} {inner : Inner} {B : Type 0} {s t v : State} {below under : Pieces} {above : B → Pieces} {fits : B → State → Type 0} {base levels before : ℕ} {context : Context} {row : List Terminal}
    (go : List (Option Expr) → ℕ → Context → List Terminal → Outcome B)
    → LevelAgrees level inner
    → Ended s t below under base levels before context row
    → Still Nothing (all_sizes inner true t) v
    → ((sizes : List (Option Expr)) (more : ℕ) (behind : Context) (others : List Terminal) → Ended s (all_sizes inner true t) below (λ pieces. sizes_piece sizes (under pieces)) base (max levels more) before behind others
    → Agreed below above fits base before (go sizes more behind others) s v)
    → Agreed below above fits base before (then_read (read_sizes level (length row + 1) context row) go) s v
then_sizes {level} {context} {row} go agrees far still next =
    agreed_outcome (then_open (read_sizes level (length row + 1) context row) go) (then_all_sizes true go agrees far still next)

pub then_closed_sizes : {level : Level} {inner : Inner} {B : Type 0} {s t v : State} {below under : Pieces} {above : B → Pieces} {fits : B → State → Type 0} {base levels before : ℕ} {context : Context} {row : List Terminal}
    (go : List (Option Expr) → ℕ → Context → List Terminal → Outcome B)
    → LevelAgrees level inner
    → Ended s t below under base levels before context row
    → Still Nothing (all_sizes inner false t) v
    → ((sizes : List (Option Expr)) (more : ℕ) (behind : Context) (others : List Terminal) → Ended s (all_sizes inner false t) below (λ pieces. sizes_piece sizes (under pieces)) base (max levels more) before behind others
    → Agreed below above fits base before (go sizes more behind others) s v)
    → Agreed below above fits base before (then_read (read_sizes level (length row + 1) context row) (λ sizes levels behind others. if list_all is_some sizes then go sizes levels behind others else outcome.Nothing)) s v
then_closed_sizes {level} {context} {row} go agrees far still next =
    agreed_outcome (then_closed (read_sizes level (length row + 1) context row) go) (then_all_sizes false go agrees far still next)

-- a name of a type
abbrev pub type_name_piece : TypeName → Pieces
type_name_piece type pieces = piece.TypeName type ∷ pieces

pub still_type_name : {u v : State} (inner : Inner) → Still Nothing u v → Still Nothing u (type_name inner v)
unfolding type_name type_name_behind
still_type_name inner still = still_goes _ (still_ask_whole _ _ still)

pub type_name_agrees : {level : Level} {inner : Inner} → LevelAgrees level inner → Follows type_name_piece ends (read_type_name level) (type_name inner)
unfolding read_type_name type_name type_name_behind
type_name_agrees {level} {inner} agrees s before is =
    then_asked none level.specifier inner wanted.Specifier _ (ended_part s none before is) agrees.specifier (still_goes _ still_lost) (λ type levels behind others far.
    agreed_goes (ask_whole inner wanted.Specifier s) (ask_whole inner wanted.Specifier s) far.status
    (agreed_at (ap (λ (row : List Terminal). steps.type_name_with inner (star_count row) (ask_whole inner wanted.Specifier s)) far.left)
    (then_sizes _ agrees (ended_stars far) (still_write _ still_lost) (λ sizes more last end further.
    read_ends (ended_levels (omega arith) (ended_write (event.TypeName (star_count others)) (λ pieces. refl) further))))))
