-- Members and items of `__builtin_offsetof`, and what is passed over up to the bracket that closes.
use Rattle.std.proofs.Common.{◌≡◌, ℕ, zero, suc, ◌+◌, ◌-◌, List, [], ◌∷◌, ◌++◌, drop, length, codes, Some, refl, ap, sym, ◌∙◌, subst, arith, append-nil, length-append}
use Rattle.std.proofs.lemmas.List.{drop_at, append_assoc, drop-drop, length-drop}
use Rattle.std.specs.Prelude.{if◌then◌else◌}
use Rattle.cbase.specs.declared.tree.expr.Part.{Part}
use Rattle.cbase.specs.declared.tree.expr.Part.TheVariants.{Member as NamedPart, At}
use Rattle.cevents.specs.declared.event.Event.TheVariants as event
use Rattle.cevents.specs.declared.piece.Piece.TheVariants as piece
use Rattle.cgrammar.proofs.SoundBrackets.{Closes, brackets_close}
use Rattle.cgrammar.specs.Outcomes.{has_mark, has_first, behind_first, then_read, after_first, after_mark}
use Rattle.cgrammar.specs.Outcomes as outcome
use Rattle.cgrammar.specs.Phrases.{Context}
use Rattle.cgrammar.specs.ReadLevels.{Level, prepended}
use Rattle.cgrammar.specs.ReadOperands.{behind_matched, read_path}
use Rattle.cgrammar.specs.Terminals.{Terminal, is_mark, is_name}
use Rattle.cgrammar.specs.Trees.{identifier}
use Rattle.cparser.specs.OperandSteps.{path_member, path_index, path_with, path, over_to, over_matched}
use Rattle.cparser.specs.State.{State, rest, skipped, lost}
use Rattle.cparser.specs.Steps.{Inner}
use Rattle.cparser.specs.declared.status.Status.TheVariants.{Going, Nothing}
use Rattle.cparser.specs.declared.wanted.Wanted.TheVariants as wanted
use Rattle.ctokens.proofs.Choices.{chosen_no}
use Rattle.cread_expr.proofs.Agreed.{shop, Pieces, none, Ended, Agreed, Continues, ends, LevelAgrees}
use Rattle.cread_expr.proofs.AgreedLists.{then_prepended, failed_lost}
use Rattle.cread_expr.proofs.AgreedPostfixes.{if_under}
use Rattle.cread_expr.proofs.AgreedRules.{agreed_read, agreed_failed, agreed_at, agreed_goes, agreed_lost, agreed_test, same_first, then_asked, then_mark, if_first}
use Rattle.cread_expr.proofs.AgreedSteps.{kept_ended, failed_then, if_going, Still, still_lost, still_losing, still_goes, still_mark, still_write, ended_levels, ended_part, ended_skip, ended_token, ended_write}

abbrev pub path_piece : List Part → Pieces
path_piece parts pieces = piece.Path parts ∷ pieces

pub still_path : {u v : State} (inner : Inner) (count : ℕ) → Still Nothing u v → Still Nothing u (path inner count v)
unfolding path
still_path inner zero still = still_losing still
still_path inner (suc count) still = still_goes _ still

-- where nothing is read behind a place
pub agreed_losing : {A : Type 0} {s t v : State} {below middle : Pieces} {above : A → Pieces} {fits : A → State → Type 0} {base levels more before : ℕ} {behind : Context} {others : List Terminal}
    → Ended s t below middle more levels before behind others → Still Nothing (lost t) v → Agreed below above fits base before outcome.Nothing s v
agreed_losing {t} far still = agreed_lost (failed_then (kept_ended far) (failed_lost t)) still

-- one more member, behind a `.`
path_member_agrees : {s t : State} {base before : ℕ} {context : Context} (level : Level) (inner : Inner) (count : ℕ) (done : List Part) (row : List Terminal)
    → ((more : List Part) → Continues (path_piece more) (λ parts. path_piece (more ++ parts)) ends (read_path level count) (path inner count))
    → Ended s t (path_piece done) (path_piece done) base 0 before context row
    → Agreed (path_piece done) (λ parts. path_piece (done ++ parts)) ends base before
    (after_first is_name row outcome.Nothing (λ name others. prepended (NamedPart (identifier name)) 0 (read_path level count context others)))
    s (path inner count (path_member t))
unfolding path_member
path_member_agrees {s} {t} {base} {before} {context} level inner count done row again far =
    agreed_at (if_under (λ state. path inner count state) (has_first is_name (rest t)) _ _)
    (if_first is_name row _ _ far
    (λ is. agreed_losing far (still_path inner count still_lost))
    (λ name others is there behind.
    then_prepended path_piece none done (NamedPart (identifier name)) (read_path level count) (path inner count)
    (ended_write {above = path_piece (done ++ NamedPart (identifier name) ∷ [])} (event.PathMember t.at) (λ pieces i. shop context.expressions (piece.Path (done ++ NamedPart (identifier (ended_token there i)) ∷ []) ∷ pieces)) behind)
    (again (done ++ NamedPart (identifier name) ∷ []))))

-- one more index, behind a `[`
path_index_agrees : {level : Level} {inner : Inner} {s t : State} {base before : ℕ} {context : Context} (count : ℕ) (done : List Part) (row : List Terminal)
    → LevelAgrees level inner
    → ((more : List Part) → Continues (path_piece more) (λ parts. path_piece (more ++ parts)) ends (read_path level count) (path inner count))
    → Ended s t (path_piece done) (path_piece done) base 0 before context row
    → Agreed (path_piece done) (λ parts. path_piece (done ++ parts)) ends base before
    (then_read (level.conditional context row) (λ index levels behind others.
    after_mark (codes "]") others outcome.Nothing (λ closing more. prepended (At index) levels (read_path level count behind more))))
    s (path inner count (path_index inner t))
unfolding path_index
path_index_agrees {level} {inner} count done row agrees again far =
    then_asked (path_piece done) level.conditional inner wanted.Conditional _ far agrees.conditional
    (still_path inner count (still_write _ (still_mark _ still_lost)))
    (λ index levels behind others behind_index.
    then_mark (codes "]") others _ behind_index
    (still_path inner count (still_write _ still_lost))
    (λ closing more is there behind_closing.
    then_prepended path_piece none done (At index) (read_path level count) (path inner count)
    (ended_write {above = path_piece (done ++ At index ∷ [])} event.PathIndex (λ pieces. refl) (ended_levels (omega arith) behind_closing))
    (again (done ++ At index ∷ []))))

path_row_agrees : {level : Level} {inner : Inner} {s t : State} {base before : ℕ} {context : Context} (count : ℕ) (done : List Part) (row : List Terminal)
    → LevelAgrees level inner
    → ((more : List Part) → Continues (path_piece more) (λ parts. path_piece (more ++ parts)) ends (read_path level count) (path inner count))
    → Ended s t (path_piece done) (path_piece done) base 0 before context row
    → Agreed (path_piece done) (λ parts. path_piece (done ++ parts)) ends base before
    (if has_mark (codes ".") row
    then after_first is_name (behind_first row) outcome.Nothing (λ name others. prepended (NamedPart (identifier name)) 0 (read_path level count context others))
    else (if has_mark (codes "[") row
    then then_read (level.conditional context (behind_first row)) (λ index levels behind others.
    after_mark (codes "]") others outcome.Nothing (λ closing more. prepended (At index) levels (read_path level count behind more)))
    else outcome.Read [] 0 context row))
    s (path_with (path inner count) inner t)
path_row_agrees {s} {t} {base} {before} {context} count done [] agrees again far =
    agreed_at (chosen_no (has_mark (codes ".") (rest t)) _ _ (same_first (is_mark (codes ".")) far) ∙ chosen_no (has_mark (codes "[") (rest t)) _ _ (same_first (is_mark (codes "[")) far))
    (agreed_read (subst (λ (all : List Part). Ended s t (path_piece done) (path_piece all) base 0 before context []) (sym (append-nil done)) far) far.status)
path_row_agrees {s} {t} {base} {before} {context} count done (first ∷ others) agrees again far =
    agreed_test (is_mark (codes ".") first) _ _ _ (same_first (is_mark (codes ".")) far)
    (λ dot. path_member_agrees _ _ count done others again (ended_skip far))
    (λ is. agreed_test (is_mark (codes "[") first) _ _ _ (same_first (is_mark (codes "[")) far)
    (λ index. path_index_agrees count done others agrees again (ended_skip far))
    (λ none. agreed_read (subst (λ (all : List Part). Ended s t (path_piece done) (path_piece all) base 0 before context (first ∷ others)) (sym (append-nil done)) far) far.status))

pub path_agrees : {level : Level} {inner : Inner} → LevelAgrees level inner → (count : ℕ) (done : List Part)
    → Continues (path_piece done) (λ parts. path_piece (done ++ parts)) ends (read_path level count) (path inner count)
unfolding read_path path
path_agrees agrees zero done s before is = agreed_failed (failed_lost s)
path_agrees agrees (suc count) done s before is =
    agreed_goes s s is.status (path_row_agrees count done (rest s) agrees (λ more. path_agrees agrees count more) (ended_part s (path_piece done) before is))

-- Over what stands in brackets.
split_of : (row others : List Terminal) → behind_matched (41 ∷ []) row ≡ Some others → (front : List Terminal) × (row ≡ front ++ others)
split_of row others is = whole (brackets_close (41 ∷ []) row others is)
  where
    whole : Closes (41 ∷ []) row others → (front : List Terminal) × (row ≡ front ++ others)
    whole (inside, closing, more, split, matched, marked, last) =
        (inside ++ (closing ∷ []), split.is ∙ (ap (λ (left : List Terminal). inside ++ (closing ∷ left)) last ∙ sym (append_assoc inside (closing ∷ []) others)))

pub ended_front : {s t : State} {below above : Pieces} {base levels before : ℕ} {behind : Context} {row others : List Terminal} (front : List Terminal)
    → row ≡ front ++ others
    → Ended s t below above base levels before behind row → Ended s (skipped (length row - length others) t) below above base levels before behind others
ended_front {s} {t} {below} {above} {base} {levels} {before} {behind} {row} {others} front split far =
    let long : length row ≡ length front + length others = ap (λ (row : List Terminal). length row) split ∙ length-append front others in
    let count : length row - length others ≡ length front = omega (arith, long) in
    let left : length (drop t.at t.row) ≡ length row = ap (λ (row : List Terminal). length row) far.left in
    record {
      went = record { row = far.went.row; added = far.went.added; events = far.went.events; builds = far.went.builds };
      status = far.status;
      left = sym (drop-drop (length row - length others) t.at t.row)
          ∙ (ap (λ (row_left : List Terminal). drop (length row - length others) row_left) (far.left ∙ split)
          ∙ drop_at front others (length row - length others) (sym count));
      scope = far.scope;
      levels = far.levels;
      on = omega (arith, far.on);
      inside = omega (arith, far.inside, left, long, length-drop t.at t.row);
    }

pub still_matched : {u v : State} → Still Nothing u v → Still Nothing u (over_matched v)
unfolding over_matched
still_matched still = still_goes _ still

-- the steps over them, where there is a bracket that closes and where there is none
pub over_matched_to : (t : State) (row : List Terminal) → t.status ≡ Going → rest t ≡ row → over_matched t ≡ over_to t (behind_matched (41 ∷ []) row)
unfolding over_matched
over_matched_to t row going left = if_going _ t t going ∙ ap (λ (row : List Terminal). over_to t (behind_matched (41 ∷ []) row)) left

pub ended_matched : {s t : State} {below above : Pieces} {base levels before : ℕ} {behind : Context} {row others : List Terminal}
    → behind_matched (41 ∷ []) row ≡ Some others
    → Ended s t below above base levels before behind row → Ended s (skipped (length (rest t) - length others) t) below above base levels before behind others
ended_matched {s} {t} {below} {above} {base} {levels} {before} {behind} {row} {others} is far =
    let found = split_of row others is in
    subst (λ (n : ℕ). Ended s (skipped (n - length others) t) below above base levels before behind others) (ap (λ (row : List Terminal). length row) (sym far.left)) (ended_front found.0 found.1 far)
