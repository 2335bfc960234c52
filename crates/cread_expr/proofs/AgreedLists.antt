-- Lists: what is read is put behind what is already done.
use Rattle.std.proofs.Common.{◌≡◌, ℕ, zero, suc, ◌+◌, max, Bool, true, false, ◌&&◌, not, List, [], ◌∷◌, ◌++◌, length, codes, refl, ap, sym, ◌∙◌, subst, arith, append_assoc, append-nil}
use Rattle.std.specs.Prelude.{if◌then◌else◌}
use Rattle.cevents.specs.Building.{built}
use Rattle.cevents.specs.declared.event.Event.{Event}
use Rattle.cevents.specs.declared.piece.Piece.{Piece}
use Rattle.cgrammar.specs.Outcomes.{Outcome, Reader, then_read, has_mark, behind_first}
use Rattle.cgrammar.specs.Outcomes as outcome
use Rattle.cgrammar.specs.Phrases.{Context}
use Rattle.cgrammar.specs.ReadLevels.{prepended, read_list, read_until_brace}
use Rattle.cgrammar.specs.Terminals.{Terminal, is_mark}
use Rattle.cparser.specs.State.{State, rest, is_going, goes, skipped, lost}
use Rattle.cparser.specs.Steps.{write, parts, all_parts, parts_until_brace, until_brace}
use Rattle.cparser.specs.declared.status.Status.{Status}
use Rattle.cparser.specs.declared.status.Status.TheVariants.{Going, Stopped, Nothing}
use Rattle.ctokens.proofs.Choices.{chosen_yes, chosen_no}
use Rattle.cread_expr.proofs.Agreed.{shop, Pieces, none, Follows, Failed, Ended, Agreed, Continues, ends, context_of}
use Rattle.cread_expr.proofs.AgreedEntire.{entirely, entire_then, entirely_ends, agreed_then}
use Rattle.cread_expr.proofs.AgreedRules.{agreed_read, agreed_failed, agreed_at, agreed_outcome, agreed_goes, agreed_test, same_first, from_here, then_ends}
use Rattle.cread_expr.proofs.AgreedSteps.{kept_ended, failed_then, Still, still_lost, still_losing, still_goes, ended_levels, ended_part, ended_then, ended_skip, ended_write}

pub failed_lost : (s : State) → Failed s (lost s)
failed_lost s = record { kept = record { row = refl; added = []; events = sym (append-nil s.events) }; status = refl }

pub still_both : {status : Status} {u v : State} (more : Bool) (one : State) → Still status u v → Still status u (if goes v && more then one else v)
still_both {status} {u} {v} more one still = record {
  idle = still.idle;
  same = λ is.
      let same : v ≡ u = still.same is in
      let idle : goes v ≡ false = ap (λ (s : State). goes s) same ∙ (ap (λ (status : Status). is_going status) is ∙ still.idle) in
      chosen_no (goes v && more) one v (ap (λ (test : Bool). test && more) idle) ∙ same;
}

-- one more item, and the items behind it
pub then_prepended : {A : Type 0} {s t : State} {below : Pieces} {base levels before : ℕ} {context : Context} {row : List Terminal}
    (list_piece : List A → Pieces) (under : Pieces) (done : List A) (tree : A) (reader : Reader (List A)) (steps : State → State)
    → Ended s t below (λ pieces. list_piece (done ++ tree ∷ []) (under pieces)) base levels before context row
    → Continues (list_piece (done ++ tree ∷ [])) (λ trees. list_piece ((done ++ tree ∷ []) ++ trees)) ends reader steps
    → Agreed below (λ trees pieces. list_piece (done ++ trees) (under pieces)) ends base before (prepended tree levels (reader context row)) s (steps t)
then_prepended {A} {s} {t} {below} {base} {levels} {before} {context} {row} list_piece under done tree reader steps far agrees =
    case (reader context row) (from_here reader steps far agrees)
  where
    case : (outcome : Outcome (List A)) → Agreed (list_piece (done ++ tree ∷ [])) (λ trees. list_piece ((done ++ tree ∷ []) ++ trees)) ends t.levels context.expressions outcome t (steps t)
        → Agreed below (λ trees pieces. list_piece (done ++ trees) (under pieces)) ends base before (prepended tree levels outcome) s (steps t)
    case outcome.Nothing is = agreed_failed (failed_then (kept_ended far) is.is)
    case (outcome.Stopped trees expressions others) is = let wrong : Stopped ≡ Going = sym is.is.0.status ∙ is.is.1 in cc wrong
    case (outcome.Read trees more behind others) is =
        agreed_read (subst (λ (all : List A). Ended s (steps t) below (λ pieces. list_piece all (under pieces)) base (max levels more) before behind others) (append_assoc done (tree ∷ []) trees)
        (ended_then under far is.is.0)) is.is.1

-- items with a comma between each and the next
pub items_agree : {A : Type 0} (list_piece : List A → Pieces) (closes : List Terminal → Bool) (item : Reader A) (part : State → State)
    → ((done : List A) → Continues (list_piece done) (λ tree. list_piece (done ++ tree ∷ [])) ends (entirely item) part)
    → (count : ℕ) (done : List A) → Continues (list_piece done) (λ trees. list_piece (done ++ trees)) ends (read_list closes item count) (parts closes part count)
unfolding read_list parts
items_agree list_piece closes item part agrees zero done s before is = agreed_failed (failed_lost s)
items_agree {A} list_piece closes item part agrees (suc count) done s before is =
    agreed_outcome (entire_then (item (context_of s before) (rest s)) _)
    (then_ends none (entirely item) part _ (ended_part s (list_piece done) before is) (agrees done) (still_both _ _ still_lost) (λ tree more behind others far.
    agreed_test (has_mark (codes ",") others && not (closes (behind_first others))) _ _ _
    (λ i. is_going (far.status i) && (has_mark (codes ",") (far.left i) && not (closes (behind_first (far.left i)))))
    (λ comma. further tree (items_agree list_piece closes item part agrees count (done ++ tree ∷ [])) more behind others far comma)
    (λ last. agreed_read (ended_levels (omega arith) far) far.status)))
  where
    further : (tree : A) → Continues (list_piece (done ++ tree ∷ [])) (λ trees. list_piece ((done ++ tree ∷ []) ++ trees)) ends (read_list closes item count) (parts closes part count)
        → (more : ℕ) (behind : Context) (others : List Terminal) → Ended s (part s) (list_piece done) (list_piece (done ++ tree ∷ [])) s.levels (max 0 more) before behind others
        → (has_mark (codes ",") others && not (closes (behind_first others))) ≡ true
        → Agreed (list_piece done) (λ trees. list_piece (done ++ trees)) ends s.levels before (prepended tree more (read_list closes item count behind (behind_first others))) s (parts closes part count (skipped 1 (part s)))
    further tree again more behind [] far comma = cc comma
    further tree again more behind (first ∷ others) far comma =
        let far_more : Ended s (part s) (list_piece done) (list_piece (done ++ tree ∷ [])) s.levels more before behind (first ∷ others) = ended_levels (omega arith) far in
        then_prepended list_piece none done tree (read_list closes item count) (parts closes part count) (ended_skip far_more) again

-- the `}` that ends a list in braces is no part of what is left
abbrev pub behind_brace : {A : Type 0} → Outcome A → Outcome A
behind_brace outcome.Nothing = outcome.Nothing
behind_brace (outcome.Stopped tree expressions others) = outcome.Stopped tree expressions others
behind_brace (outcome.Read tree levels behind others) = outcome.Read tree levels behind (behind_first others)

abbrev pub over_brace : {A : Type 0} → Reader A → Reader A
over_brace reader context row = behind_brace (reader context row)

pub brace_then : {A B : Type 0} (outcome : Outcome A) (go : A → ℕ → Context → List Terminal → Outcome B)
    → behind_brace (then_read outcome go) ≡ then_read outcome (λ tree levels behind others. behind_brace (go tree levels behind others))
brace_then outcome.Nothing go = refl
brace_then (outcome.Stopped tree expressions others) go = refl
brace_then (outcome.Read tree levels behind others) go = refl

pub brace_prepended : {A : Type 0} (tree : A) (levels : ℕ) (outcome : Outcome (List A)) → behind_brace (prepended tree levels outcome) ≡ prepended tree levels (behind_brace outcome)
brace_prepended tree levels outcome.Nothing = refl
brace_prepended tree levels (outcome.Stopped trees expressions others) = refl
brace_prepended tree levels (outcome.Read trees more behind others) = refl

pub then_brace : {A B : Type 0} (outcome : Outcome A) (go : A → ℕ → Context → List Terminal → Outcome B)
    → then_read outcome (λ tree levels behind others. go tree levels behind (behind_first others)) ≡ then_read (behind_brace outcome) go
then_brace outcome.Nothing go = refl
then_brace (outcome.Stopped tree expressions others) go = refl
then_brace (outcome.Read tree levels behind others) go = refl

pub still_parts : {u v : State} (closes : List Terminal → Bool) (part : State → State) (count : ℕ)
    → ((u v : State) → Still Nothing u v → Still Nothing u (part v)) → Still Nothing u v → Still Nothing u (parts closes part count v)
unfolding parts
still_parts closes part zero through still = still_losing still
still_parts closes part (suc count) through still = still_both _ _ (through _ _ still)

pub still_braces : {u v : State} (part : State → State) (count : ℕ) → Still Nothing u v → Still Nothing u (parts_until_brace part count v)
unfolding parts_until_brace
still_braces part zero still = still_losing still
still_braces part (suc count) still = still_goes _ still

-- items up to a `}`, and over it
pub braced_agree : {A : Type 0} (list_piece : List A → Pieces) (item : Reader A) (part : State → State)
    → ((done : List A) → Continues (list_piece done) (λ tree. list_piece (done ++ tree ∷ [])) ends (entirely item) part)
    → (count : ℕ) (done : List A) → Continues (list_piece done) (λ trees. list_piece (done ++ trees)) ends (over_brace (read_until_brace item count)) (parts_until_brace part count)
unfolding read_until_brace parts_until_brace
braced_agree list_piece item part agrees zero done s before is = agreed_failed (failed_lost s)
braced_agree {A} list_piece item part agrees (suc count) done s before is =
    agreed_goes s s is.status (tested (λ tree. braced_agree list_piece item part agrees count (done ++ tree ∷ [])) (rest s) (has_mark (codes "}") (rest s)) refl (ended_part s (list_piece done) before is))
  where
    closing : (row : List Terminal) → has_mark (codes "}") row ≡ true → Ended s s (list_piece done) (list_piece done) s.levels 0 before (context_of s before) row
        → Agreed (list_piece done) (λ trees. list_piece (done ++ trees)) ends s.levels before (outcome.Read [] 0 (context_of s before) (behind_first row)) s (skipped 1 s)
    closing [] found far = cc found
    closing (first ∷ others) found far =
        agreed_read (subst (λ (all : List A). Ended s (skipped 1 s) (list_piece done) (list_piece all) s.levels 0 before (context_of s before) others) (sym (append-nil done)) (ended_skip far)) is.status

    tested : ((tree : A) → Continues (list_piece (done ++ tree ∷ [])) (λ trees. list_piece ((done ++ tree ∷ []) ++ trees)) ends (over_brace (read_until_brace item count)) (parts_until_brace part count))
        → (row : List Terminal) (found : Bool) → has_mark (codes "}") row ≡ found → Ended s s (list_piece done) (list_piece done) s.levels 0 before (context_of s before) row
        → Agreed (list_piece done) (λ trees. list_piece (done ++ trees)) ends s.levels before
        (behind_brace (if found then outcome.Read [] 0 (context_of s before) row
        else then_read (item (context_of s before) row) (λ tree levels behind others. prepended tree levels (read_until_brace item count behind others)))) s
        (if has_mark (codes "}") (rest s) then skipped 1 s else parts_until_brace part count (part s))
    tested again row true found far = agreed_at (chosen_yes _ _ _ (same_first (is_mark (codes "}")) far ∙ found)) (closing row found far)
    tested again row false found far =
        agreed_at (chosen_no _ _ _ (same_first (is_mark (codes "}")) far ∙ found))
        (agreed_outcome (brace_then (item (context_of s before) row) _)
        (agreed_outcome (entire_then (item (context_of s before) row) _)
        (then_ends none (entirely item) part _ far (agrees done) (still_braces part count still_lost) (λ tree more behind others far_more.
        agreed_outcome (brace_prepended tree more (read_until_brace item count behind others))
        (then_prepended list_piece none done tree (over_brace (read_until_brace item count)) (parts_until_brace part count) (ended_levels (omega arith) far_more) (again tree))))))

-- the same for items that never stop
pub list_agrees : {A : Type 0} (list_piece : List A → Pieces) (closes : List Terminal → Bool) (item : Reader A) (part : State → State)
    → ((done : List A) → Continues (list_piece done) (λ tree. list_piece (done ++ tree ∷ [])) ends item part)
    → (count : ℕ) (done : List A) → Continues (list_piece done) (λ trees. list_piece (done ++ trees)) ends (read_list closes item count) (parts closes part count)
list_agrees list_piece closes item part agrees = items_agree list_piece closes item part (λ done. entirely_ends item part (agrees done))

pub braces_agree : {A : Type 0} (list_piece : List A → Pieces) (item : Reader A) (part : State → State)
    → ((done : List A) → Continues (list_piece done) (λ tree. list_piece (done ++ tree ∷ [])) ends item part)
    → (count : ℕ) (done : List A) → Continues (list_piece done) (λ trees. list_piece (done ++ trees)) ends (over_brace (read_until_brace item count)) (parts_until_brace part count)
braces_agree list_piece item part agrees = braced_agree list_piece item part (λ done. entirely_ends item part (agrees done))

-- a list from its first item on
pub all_parts_follow : {A : Type 0} (list_piece : List A → Pieces) (closes : List Terminal → Bool) (item : Reader A) (part : State → State) (event : Event)
    → ((row : List Terminal) (count : ℕ) (pieces : List Piece) → built row event count pieces ≡ shop count (list_piece [] pieces))
    → ((done : List A) → Continues (list_piece done) (λ tree. list_piece (done ++ tree ∷ [])) ends (entirely item) part)
    → Follows list_piece ends (λ context row. read_list closes item (length row + 1) context row) (λ s. all_parts closes part (write event s))
all_parts_follow list_piece closes item part event builds agrees s before is =
    let far : Ended s (write event s) none (list_piece []) s.levels 0 before (context_of s before) (rest s) = ended_write event (λ pieces. builds s.row before pieces) (ended_part s none before is) in
    agreed_at (ap (λ (row : List Terminal). parts closes part (length row + 1) (write event s)) far.left)
    (agreed_then none far
    (from_here (read_list closes item (length (rest s) + 1)) (parts closes part (length (rest s) + 1)) far (items_agree list_piece closes item part agrees (length (rest s) + 1) [])))

pub until_brace_follows : {A : Type 0} (list_piece : List A → Pieces) (item : Reader A) (part : State → State) (event : Event)
    → ((row : List Terminal) (count : ℕ) (pieces : List Piece) → built row event count pieces ≡ shop count (list_piece [] pieces))
    → ((done : List A) → Continues (list_piece done) (λ tree. list_piece (done ++ tree ∷ [])) ends (entirely item) part)
    → Follows list_piece ends (λ context row. over_brace (read_until_brace item (length row + 1)) context row) (λ s. until_brace part (write event s))
until_brace_follows list_piece item part event builds agrees s before is =
    let far : Ended s (write event s) none (list_piece []) s.levels 0 before (context_of s before) (rest s) = ended_write event (λ pieces. builds s.row before pieces) (ended_part s none before is) in
    agreed_at (ap (λ (row : List Terminal). parts_until_brace part (length row + 1) (write event s)) far.left)
    (agreed_then none far
    (from_here (over_brace (read_until_brace item (length (rest s) + 1))) (parts_until_brace part (length (rest s) + 1)) far (braced_agree list_piece item part agrees (length (rest s) + 1) [])))
