-- Statements with and without labels, and what stands in a block (C11 6.8, 6.8.1).
use Rattle.std.proofs.Common.{◌≡◌, ℕ, ◌+◌, ◌-◌, ◌≤◌, Bool, true, false, List, [], ◌∷◌, drop, length, codes, refl, ap, sym, ◌∙◌, subst, arith}
use Rattle.std.proofs.lemmas.List.{drop-drop, length-drop}
use Rattle.std.specs.Prelude.{if◌then◌else◌}
use Rattle.cbase.specs.declared.place.Place.{Place}
use Rattle.cbase.specs.declared.tree.stmt.Stmt.{Stmt}
use Rattle.cbase.specs.declared.tree.stmt.StmtForm.TheVariants.{Block, Break, Continue}
use Rattle.cevents.specs.Workshop.{place_at}
use Rattle.cevents.specs.declared.piece.Piece.TheVariants as piece
use Rattle.cgrammar.specs.Firsts.{begins_declaration}
use Rattle.cgrammar.specs.FrontOf.{front_of}
use Rattle.cgrammar.specs.FrontReadings.{begins_with_label}
use Rattle.cgrammar.specs.Outcomes.{Outcome, then_read, after_mark, has_first}
use Rattle.cgrammar.specs.Outcomes as outcome
use Rattle.cgrammar.specs.Phrases.{Context}
use Rattle.cgrammar.specs.ReadLevels.{Level}
use Rattle.cgrammar.specs.ReadStarts.{statement_start}
use Rattle.cgrammar.specs.ReadStatements.{read_block, read_if, read_while, read_do, read_for, read_return, read_clause, read_unlabeled, read_statement, read_item, statement_with as read_with}
use Rattle.cgrammar.specs.Scope.{Names}
use Rattle.cgrammar.specs.Terminals.{Terminal, last_place, first_place}
use Rattle.cgrammar.specs.Trees.{statement as statement_of}
use Rattle.cgrammar.specs.declared.reading.starts.StatementStart.{StatementStart}
use Rattle.cgrammar.specs.declared.reading.starts.StatementStart.TheVariants as start
use Rattle.cparser.specs.State.{State, rest, skipped}
use Rattle.cparser.specs.StatementSteps.{block, blocked, block_statement, other_statement, statement_with, statement_first, unlabeled_with, unlabeled, labels_length, statement, item}
use Rattle.cparser.specs.Steps.{Inner}
use Rattle.cread_expr.proofs.Agreed.{none, shop, Ended, Agreed, Ready, Reads, ends, context_of, statement_piece, LevelAgrees}
use Rattle.cread_expr.proofs.AgreedEntire.{agreed_then}
use Rattle.cread_expr.proofs.AgreedLists.{failed_lost}
use Rattle.cread_expr.proofs.AgreedRules.{agreed_failed, agreed_outcome, agreed_goes, agreed_test, same_first}
use Rattle.cread_expr.proofs.AgreedStatements.{place_last, then_passes, block_agrees, clause_agrees}
use Rattle.cread_expr.proofs.AgreedStatementsRules.{if_agrees, while_agrees, do_agrees, for_agrees, break_agrees, continue_agrees, return_agrees}
use Rattle.cread_expr.proofs.AgreedSteps.{still_lost, still_make, ready, ended_levels, ended_none, ended_token, place_next, ended_make, ended_skip}
use Rattle.cread_expr.proofs.AgreedTypesSizes.{read_ends}

-- A block as a statement.
block_statement_agrees : {level : Level} {inner : Inner} → LevelAgrees level inner → (s : State) (before : ℕ) → Ready s → s.levels ≡ 0
    → (first : Terminal) (row : List Terminal) → rest s ≡ first ∷ row
    → Agreed none statement_piece ends 0 before (read_with level (context_of s before) first row start.Block) s (block_statement inner s)
unfolding block_statement blocked
block_statement_agrees {level} {inner} agrees s before is none_before first row left =
    subst (λ (row : List Terminal). Agreed none statement_piece ends 0 before (blocks row) s (block_statement inner s)) left
    (let start = ended_none s none before is none_before in
    let one = place_next start in
    then_passes none (read_block level) (block inner) _ start (block_agrees agrees) (still_make _ still_lost) (λ body levels behind others far further.
    let last = place_last start far further in
    read_ends (ended_levels (omega arith) (ended_make _ (λ pieces i. shop behind.expressions (piece.Statement (statement_of (one i) (last i) (Block body)) ∷ pieces)) far))))
  where
    blocks : List Terminal → Outcome Stmt
    blocks row = then_read (read_block level (context_of s before) row) (λ body levels behind others. outcome.Read (statement_of (first_place row) (last_place (front_of row others)) (Block body)) (1 + levels) behind others)

-- A statement without its labels.
unlabeled_agrees : {level : Level} {inner : Inner} → LevelAgrees level inner → Reads statement_piece ends (read_unlabeled level) (unlabeled inner)
unfolding read_unlabeled unlabeled other_statement
unlabeled_agrees {level} {inner} agrees s before is none_before =
    agreed_goes s s is.status (case (rest s) (ended_none s none before is none_before))
  where
    -- the place of the first token, as it is known to the steps
    placed : (first : Terminal) (row : List Terminal) → Ended s s none none 0 0 before (context_of s before) (first ∷ row) → (read : Place → Outcome Stmt) (t : State)
        → Agreed none statement_piece ends 0 before (read (place_at s.row s.at)) s t → Agreed none statement_piece ends 0 before (read first.place) s t
    placed first row far read t agreed =
        let token = ended_token far in
        agreed_outcome (ap (λ (token : Terminal). read token.place) (sym token)) agreed

    begun : (first : Terminal) (row : List Terminal) → Ended s s none none 0 0 before (context_of s before) (first ∷ row) → (start : StatementStart)
        → Agreed none statement_piece ends 0 before (read_with level (context_of s before) first row start) s (statement_with inner s start)
    begun first row far start.Block = block_statement_agrees agrees s before is none_before first row far.left
    begun first row far start.If = placed first row far (λ place. read_if level place (context_of s before) row) _ (if_agrees s.at agrees (ended_skip far))
    begun first row far start.While = placed first row far (λ place. read_while level place (context_of s before) row) _ (while_agrees s.at agrees (ended_skip far))
    begun first row far start.Do = placed first row far (λ place. read_do level place (context_of s before) row) _ (do_agrees s.at agrees (ended_skip far))
    begun first row far start.For = placed first row far (λ place. read_for level place (context_of s before) row) _ (for_agrees s.at agrees (ended_skip far))
    begun first row far start.Break =
        placed first row far (λ place. after_mark (codes ";") row outcome.Nothing (λ semicolon others. outcome.Read (statement_of place semicolon.place Break) 1 (context_of s before) others)) _
        (break_agrees s.at (ended_skip far))
    begun first row far start.Continue =
        placed first row far (λ place. after_mark (codes ";") row outcome.Nothing (λ semicolon others. outcome.Read (statement_of place semicolon.place Continue) 1 (context_of s before) others)) _
        (continue_agrees s.at (ended_skip far))
    begun first row far start.Return = placed first row far (λ place. read_return level place (context_of s before) row) _ (return_agrees s.at agrees (ended_skip far))
    begun first row far start.Other =
        agreed_test (begins_declaration s.scope first) (has_first (begins_declaration s.scope) (rest s)) _ _ (same_first (begins_declaration s.scope) far)
        (λ begins. agreed_failed (failed_lost s))
        (λ other. agreed_outcome (ap (λ (row : List Terminal). read_clause level (context_of s before) row) (sym far.left)) (clause_agrees agrees s before is none_before))

    case : (row : List Terminal) → Ended s s none none 0 0 before (context_of s before) row
        → Agreed none statement_piece ends 0 before (read_unlabeled level (context_of s before) row) s (unlabeled_with inner s (statement_first row))
    case [] far = agreed_failed (failed_lost s)
    case (first ∷ row) far = begun first row far (statement_start first)

-- Labels are passed over.
labels_within : (scope : List Names) (row : List Terminal) → labels_length scope row ≤ length row
unfolding labels_length
labels_within scope [] = omega arith
labels_within scope (first ∷ []) = omega arith
labels_within scope (first ∷ (second ∷ row)) = step (begins_with_label scope (first ∷ (second ∷ row))) (labels_within scope row)
  where
    step : (labeled : Bool) → labels_length scope row ≤ length row → (if labeled then 2 + labels_length scope row else 0) ≤ length (first ∷ (second ∷ row))
    step true within = omega (arith, within)
    step false within = omega arith

labels_read : (level : Level) (context : Context) (row : List Terminal) → read_statement level context row ≡ read_unlabeled level context (drop (labels_length context.scope row) row)
unfolding read_statement read_unlabeled labels_length
labels_read level context [] = refl
labels_read level context (first ∷ []) = refl
labels_read level context (first ∷ (second ∷ row)) = step (begins_with_label context.scope (first ∷ (second ∷ row))) (labels_read level context row)
  where
    step : (labeled : Bool) → read_statement level context row ≡ read_unlabeled level context (drop (labels_length context.scope row) row)
        → (if labeled then read_statement level context row else read_unlabeled level context (first ∷ (second ∷ row)))
        ≡ read_unlabeled level context (drop (if labeled then 2 + labels_length context.scope row else 0) (first ∷ (second ∷ row)))
    step true same =
        same ∙ ap (λ (row : List Terminal). read_unlabeled level context row) (drop-drop (labels_length context.scope row) 2 (first ∷ (second ∷ row)))
    step false same = refl

-- over so many tokens, from the start
skipped_far : (s : State) (before count : ℕ) → Ready s → s.levels ≡ 0 → count ≤ length (rest s)
    → Ended s (skipped count s) none none 0 0 before (context_of s before) (rest (skipped count s))
skipped_far s before count is none_before within =
    let far = ended_none s none before is none_before in
    record {
      went = record { row = refl; added = far.went.added; events = far.went.events; builds = far.went.builds };
      status = is.status;
      left = refl;
      scope = refl;
      levels = far.levels;
      on = omega arith;
      inside = reached s.at (length s.row) (length (rest s)) is.inside (length-drop s.at s.row) within;
    }
  where
    reached : (at whole left : ℕ) → at ≤ whole → left ≡ whole - at → count ≤ left → at + count ≤ whole
    reached at whole left inside is within = omega (arith, inside, is, within)

pub statement_agrees : {level : Level} {inner : Inner} → LevelAgrees level inner → Reads statement_piece ends (read_statement level) (statement inner)
unfolding statement
statement_agrees {level} {inner} agrees s before is none_before =
    let count : ℕ = labels_length s.scope (rest s) in
    let far : Ended s (skipped count s) none none 0 0 before (context_of s before) (rest (skipped count s)) =
    skipped_far s before count is none_before (labels_within s.scope (rest s)) in
    agreed_goes s s is.status
    (agreed_outcome (labels_read level (context_of s before) (rest s) ∙ ap (λ (row : List Terminal). read_unlabeled level (context_of s before) row) (drop-drop count s.at s.row))
    (agreed_then none far (subst (λ (base : ℕ). Agreed none statement_piece ends base before (read_unlabeled level (context_of s before) (rest (skipped count s))) (skipped count s) (unlabeled inner (skipped count s))) (sym none_before)
    (unlabeled_agrees agrees (skipped count s) before (ready far) none_before))))

-- what stands in a block
pub item_agrees : {level : Level} {inner : Inner} → LevelAgrees level inner → Reads statement_piece ends (read_item level) (item inner)
unfolding read_item item
item_agrees {level} {inner} agrees s before is none_before =
    agreed_goes s s is.status (agreed_test (has_first (begins_declaration s.scope) (rest s)) (has_first (begins_declaration s.scope) (rest s)) _ _ refl
    (λ begins. clause_agrees agrees s before is none_before)
    (λ other. statement_agrees agrees s before is none_before))
