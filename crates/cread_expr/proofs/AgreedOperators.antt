-- Operators behind an operand that is read.
use Rattle.std.proofs.Common.{◌≡◌, ℕ, zero, suc, ◌+◌, max, ◌&&◌, List, [], ◌∷◌, length, nat_le, codes, Option, None, Some, refl, ap, arith}
use Rattle.std.specs.Prelude.{if◌then◌else◌}
use Rattle.cbase.specs.declared.tree.expr.Expr.{Expr}
use Rattle.cbase.specs.declared.tree.expr.ExprForm.TheVariants.{Binary, Assign, Choose}
use Rattle.cbase.specs.declared.tree.operators.BinaryOp.{BinaryOp}
use Rattle.cbase.specs.declared.tree.operators.BinaryOp.TheVariants.{Comma}
use Rattle.cevents.specs.declared.event.Event.TheVariants as event
use Rattle.cevents.specs.declared.piece.Piece.TheVariants as piece
use Rattle.cgrammar.specs.Operators.{mark_row, binary_rows, assignment_rows}
use Rattle.cgrammar.specs.Outcomes.{Reader, has_mark}
use Rattle.cgrammar.specs.Outcomes as outcome
use Rattle.cgrammar.specs.Phrases.{Context, counted, numbered}
use Rattle.cgrammar.specs.ReadLevels.{Level}
use Rattle.cgrammar.specs.ReadOperators.{expression_of, itself, binary_with, read_operations, operations_from, read_choice, conditional_from, assignment_with, assignment_from, read_commas, expression_from}
use Rattle.cgrammar.specs.ReadOperators as reader
use Rattle.cgrammar.specs.Terminals.{Terminal, is_mark}
use Rattle.cgrammar.specs.declared.reading.operand.Operand.{Operand}
use Rattle.cparser.specs.OperatorSteps.{operation_with, operations, all_operations, choice_behind, choice, comma_with, commas}
use Rattle.cparser.specs.OperatorSteps as steps
use Rattle.cparser.specs.State.{State, rest, is_going, goes, skipped, point_of}
use Rattle.cparser.specs.Steps.{Inner, ask, first_row}
use Rattle.cparser.specs.declared.status.Status.{Status}
use Rattle.cparser.specs.declared.status.Status.TheVariants.{Stopped}
use Rattle.cparser.specs.declared.wanted.Wanted.TheVariants as wanted
use Rattle.ctokens.proofs.Choices.{chosen_no}
use Rattle.cread_expr.proofs.Agreed.{shop, Pieces, Ended, Agreed, anyhow, LevelAgrees}
use Rattle.cread_expr.proofs.AgreedBack.{agreed_back, agreed_stopped, else_back, mark_back, right_joined, then_continued}
use Rattle.cread_expr.proofs.AgreedLists.{still_both}
use Rattle.cread_expr.proofs.AgreedRules.{agreed_read, agreed_at, agreed_goes, agreed_test, same_first, ask_anyhow}
use Rattle.cread_expr.proofs.AgreedSteps.{kept_then, kept_skipped, Still, still_lost, still_stopped, still_goes, still_mark_or_back, still_ask_right, ended_levels, ended_skip, ended_token}

-- an expression on top of others
abbrev pub expr_on : Pieces → Expr → Pieces
expr_on under expr pieces = piece.Expr expr ∷ under pieces

-- the levels that are read so far are within what may stand in a tree
pub same_most : {level : Level} {inner : Inner} {s t : State} {below above : Pieces} {levels before : ℕ} {behind : Context} {others : List Terminal}
    → LevelAgrees level inner → Ended s t below above 0 levels before behind others → nat_le t.levels inner.most ≡ nat_le levels level.most
same_most {t} {levels} agrees far = let same : t.levels ≡ levels = omega (arith, far.levels) in λ i. nat_le (same i) (agrees.most i)

pub still_operations : {status : Status} {u v : State} (inner : Inner) (loosest count : ℕ) → Still status u v → Still status u (operations inner loosest count v)
unfolding operations
still_operations inner loosest zero still = still
still_operations inner loosest (suc count) still = still_goes _ still

pub still_choice : {status : Status} {u v : State} (inner : Inner) → Still status u v → Still status u (choice inner v)
unfolding choice
still_choice inner still = still_goes _ still

pub still_conditional : {status : Status} {u v : State} (inner : Inner) → Still status u v → Still status u (steps.conditional_from inner v)
unfolding steps.conditional_from
still_conditional inner still = still_choice inner (still_operations inner _ _ still)

pub still_assignment : {status : Status} {u v : State} (inner : Inner) → Still status u v → Still status u (steps.assignment_from inner v)
unfolding steps.assignment_from
still_assignment inner still = still_goes _ still

pub still_commas : {status : Status} {u v : State} (inner : Inner) (count : ℕ) → Still status u v → Still status u (commas inner count v)
unfolding commas
still_commas inner zero still = still
still_commas inner (suc count) still = still_both _ _ still

pub still_expression : {status : Status} {u v : State} (inner : Inner) → Still status u v → Still status u (steps.expression_from inner v)
unfolding steps.expression_from
still_expression inner still = still_commas inner _ (still_assignment inner still)

-- binary operators
operation_agrees : {level : Level} {inner : Inner} {s t : State} {below under : Pieces} {levels before : ℕ} {context : Context} {mark : Terminal} {row : List Terminal}
    (go : Expr → ℕ → Reader Expr) (on : State → State) (loosest : ℕ) (left : Expr) (entry : Option (ℕ × BinaryOp))
    → LevelAgrees level inner
    → ((u v : State) → Still Stopped u v → Still Stopped u (on v))
    → ((next : Expr) (more : ℕ) (u : State) (behind : Context) (others : List Terminal) → Ended s u below (expr_on under next) 0 more before behind others
    → Agreed below (expr_on under) anyhow 0 before (go next more behind others) s (on u))
    → Ended s t below (expr_on under left) 0 levels before context (mark ∷ row)
    → Agreed below (expr_on under) anyhow 0 before (binary_with go level loosest left levels context mark row entry) s (operation_with on inner loosest t entry)
operation_agrees go on loosest left None agrees through next far = agreed_read far tt
operation_agrees {level} {inner} {t} {below} {under} {levels} {context} {mark} {row} go on loosest left (Some entry) agrees through next far =
    agreed_test (nat_le loosest entry.0) _ _ _ refl
    (λ loose. agreed_test (nat_le levels level.most) _ _ _ (same_most agrees far)
    (λ fits. right_joined (level.operation (entry.0 + 1)) inner (wanted.Operation (entry.0 + 1)) (point_of t) (event.Binary entry.1 t.at) _ _ _ (ended_skip far) (agrees.operation (entry.0 + 1))
    (λ right count pieces i. shop (count + 1) (piece.Expr (expression_of count (ended_token far i).place (Binary entry.1 left right)) ∷ under pieces))
    (through _ _ still_stopped)
    (λ u kept. agreed_back left far (kept_skipped 1 kept) tt)
    (λ right more behind others further. next _ _ _ _ others further))
    (λ deep. agreed_stopped left far tt))
    (λ tight. agreed_read far tt)

pub operations_agree : {level : Level} {inner : Inner} {s t : State} {below under : Pieces} {levels before : ℕ} {context : Context} (loosest count : ℕ) (left : Expr) (row : List Terminal)
    → LevelAgrees level inner
    → Ended s t below (expr_on under left) 0 levels before context row
    → Agreed below (expr_on under) anyhow 0 before (read_operations level loosest count left levels context row) s (operations inner loosest count t)
unfolding read_operations operations
operations_agree loosest zero left row agrees far = agreed_read far tt
operations_agree {inner} {t} loosest (suc count) left [] agrees far =
    agreed_goes t t far.status
    (agreed_at (ap (λ (row : List Terminal). operation_with (operations inner loosest count) inner loosest t (first_row binary_rows row)) far.left) (agreed_read far tt))
operations_agree {level} {inner} {t} loosest (suc count) left (mark ∷ row) agrees far =
    agreed_goes t t far.status
    (agreed_at (ap (λ (row : List Terminal). operation_with (operations inner loosest count) inner loosest t (first_row binary_rows row)) far.left)
    (operation_agrees (read_operations level loosest count) (operations inner loosest count) loosest left (mark_row binary_rows mark) agrees
    (λ u v still. still_operations inner loosest count still)
    (λ next more u behind others further. operations_agree loosest count next others agrees further) far))

pub all_operations_agree : {level : Level} {inner : Inner} {s t : State} {below under : Pieces} {levels before : ℕ} {context : Context} (loosest : ℕ) (operand : Operand) (row : List Terminal)
    → LevelAgrees level inner
    → Ended s t below (expr_on under operand.expr) 0 levels before context row
    → Agreed below (expr_on under) anyhow 0 before (operations_from level loosest operand levels context row) s (all_operations inner loosest t)
all_operations_agree {inner} {t} loosest operand row agrees far =
    agreed_at (ap (λ (left : List Terminal). operations inner loosest (length left + 1) t) far.left) (operations_agree loosest (length row + 1) operand.expr row agrees far)

-- a `?`, and what stands on both sides of the `:`
choice_behind_agrees : {level : Level} {inner : Inner} {s t : State} {below under : Pieces} {levels before : ℕ} {context : Context} (test : Expr) (mark : Terminal) (row : List Terminal)
    → LevelAgrees level inner
    → Ended s t below (expr_on under test) 0 levels before context (mark ∷ row)
    → Agreed below (expr_on under) anyhow 0 before
    (outcome.or_else (level.expression context row) (reader.stopped test context mark row) (λ one ones first rest.
    outcome.after_mark (codes ":") rest (reader.stopped test context mark row) (λ colon others.
    outcome.with_right (level.conditional first others) (reader.stopped test context mark row)
    (λ other number. expression_of number mark.place (Choose test one other))
    (λ other twos behind more. outcome.Read (numbered behind mark.place (Choose test one other)) (1 + max levels (max ones twos)) (counted behind) more))))
    s (choice_behind inner (point_of t) t.at (skipped 1 t))
unfolding choice_behind
choice_behind_agrees {level} {inner} {t} {under} test mark row agrees far =
    else_back (expr_on under test) level.expression (ask inner wanted.Expression) (point_of t) _ _ (ended_skip far) (ask_anyhow level.expression inner wanted.Expression agrees.expression)
    (still_ask_right _ _ _ _ (still_mark_or_back _ _ still_stopped))
    (λ u kept. agreed_back test far (kept_skipped 1 kept) tt)
    (λ one ones first others kept_one behind_one.
    mark_back (codes ":") others (point_of t) _ _ behind_one
    (still_ask_right _ _ _ _ still_stopped)
    (agreed_back test far (kept_skipped 1 kept_one) tt)
    (λ colon more kept_colon behind_colon.
    right_joined level.conditional inner wanted.Conditional (point_of t) (event.Choose t.at) _ _ _ behind_colon agrees.conditional
    (λ other count pieces i. shop (count + 1) (piece.Expr (expression_of count (ended_token far i).place (Choose test one other)) ∷ under pieces))
    still_stopped
    (λ u kept. agreed_back test far (kept_skipped 1 (kept_then kept_one (kept_then kept_colon kept))) tt)
    (λ other twos behind end further. agreed_read (ended_levels (omega arith) further) tt)))

pub choice_agrees : {level : Level} {inner : Inner} {s t : State} {below under : Pieces} {before : ℕ} {context : Context} (test : Expr) (levels : ℕ) (row : List Terminal)
    → LevelAgrees level inner
    → Ended s t below (expr_on under test) 0 levels before context row
    → Agreed below (expr_on under) anyhow 0 before (read_choice level test levels context row) s (choice inner t)
unfolding read_choice choice
choice_agrees {t} test levels [] agrees far =
    agreed_goes t t far.status (agreed_at (chosen_no (has_mark (codes "?") (rest t)) _ t (same_first (is_mark (codes "?")) far)) (agreed_read far tt))
choice_agrees {level} {t} test levels (mark ∷ row) agrees far =
    agreed_goes t t far.status
    (agreed_test (is_mark (codes "?") mark) _ _ _ (same_first (is_mark (codes "?")) far)
    (λ is. agreed_test (nat_le levels level.most) _ _ _ (same_most agrees far)
    (λ fits. choice_behind_agrees test mark row agrees far)
    (λ deep. agreed_stopped test far tt))
    (λ is. agreed_read far tt))

pub conditional_agrees : {level : Level} {inner : Inner} {s t : State} {below under : Pieces} {levels before : ℕ} {context : Context} (operand : Operand) (row : List Terminal)
    → LevelAgrees level inner
    → Ended s t below (expr_on under operand.expr) 0 levels before context row
    → Agreed below (expr_on under) anyhow 0 before (conditional_from level operand levels context row) s (steps.conditional_from inner t)
unfolding steps.conditional_from
conditional_agrees {level} {inner} {levels} {context} operand row agrees far =
    then_continued (operations_from level 0 operand levels context row) itself (read_choice level) (all_operations_agree 0 operand row agrees far)
    (still_choice inner still_lost) (still_choice inner still_stopped)
    (λ test tests behind others further holds. choice_agrees test tests others agrees further)

-- an assignment operator behind a unary expression
assignment_with_agrees : {level : Level} {inner : Inner} {s t : State} {below under : Pieces} {levels before : ℕ} {context : Context} {mark : Terminal} {row : List Terminal} (operand : Operand) (op : Option (Option BinaryOp))
    → LevelAgrees level inner → t.unary ≡ operand.unary
    → Ended s t below (expr_on under operand.expr) 0 levels before context (mark ∷ row)
    → Agreed below (expr_on under) anyhow 0 before (assignment_with level operand levels context mark row op) s (steps.assignment_with inner t op)
assignment_with_agrees {mark} {row} operand None agrees unary far = conditional_agrees operand (mark ∷ row) agrees far
assignment_with_agrees {level} {inner} {t} {under} {levels} {mark} {row} operand (Some op) agrees unary far =
    agreed_test operand.unary t.unary _ _ unary
    (λ is. agreed_test (nat_le levels level.most) _ _ _ (same_most agrees far)
    (λ fits. right_joined level.assignment inner wanted.Assignment (point_of t) (event.Assign op t.at) _ _ _ (ended_skip far) agrees.assignment
    (λ right count pieces i. shop (count + 1) (piece.Expr (expression_of count (ended_token far i).place (Assign op operand.expr right)) ∷ under pieces))
    still_stopped
    (λ u kept. agreed_back operand.expr far (kept_skipped 1 kept) tt)
    (λ right more behind others further. agreed_read further tt))
    (λ deep. agreed_stopped operand.expr far tt))
    (λ is. conditional_agrees operand (mark ∷ row) agrees far)

pub assignment_agrees : {level : Level} {inner : Inner} {s t : State} {below under : Pieces} {levels before : ℕ} {context : Context} (operand : Operand) (row : List Terminal)
    → LevelAgrees level inner → t.unary ≡ operand.unary
    → Ended s t below (expr_on under operand.expr) 0 levels before context row
    → Agreed below (expr_on under) anyhow 0 before (assignment_from level operand levels context row) s (steps.assignment_from inner t)
unfolding assignment_from steps.assignment_from
assignment_agrees {inner} {t} operand [] agrees unary far =
    agreed_goes t t far.status
    (agreed_at (ap (λ (row : List Terminal). steps.assignment_with inner t (first_row assignment_rows row)) far.left) (conditional_agrees operand [] agrees far))
assignment_agrees {inner} {t} operand (mark ∷ row) agrees unary far =
    agreed_goes t t far.status
    (agreed_at (ap (λ (row : List Terminal). steps.assignment_with inner t (first_row assignment_rows row)) far.left)
    (assignment_with_agrees operand (mark_row assignment_rows mark) agrees unary far))

-- commas
comma_agrees : {level : Level} {inner : Inner} {s t : State} {below under : Pieces} {levels before : ℕ} {context : Context} (count : ℕ) (left : Expr) (mark : Terminal) (row : List Terminal)
    → LevelAgrees level inner
    → ((next : Expr) (more : ℕ) (u : State) (behind : Context) (others : List Terminal) → Ended s u below (expr_on under next) 0 more before behind others
    → Agreed below (expr_on under) anyhow 0 before (read_commas level count next more behind others) s (commas inner count u))
    → Ended s t below (expr_on under left) 0 levels before context (mark ∷ row)
    → Agreed below (expr_on under) anyhow 0 before
    (if nat_le levels level.most
    then outcome.with_right (level.assignment context row) (reader.stopped left context mark row)
    (λ right number. expression_of number mark.place (Binary Comma left right))
    (λ right others behind rest. read_commas level count (numbered behind mark.place (Binary Comma left right)) (1 + max levels others) (counted behind) rest)
    else reader.stopped left context mark row)
    s (comma_with (commas inner count) inner t)
comma_agrees {level} {inner} {t} {under} {levels} count left mark row agrees next far =
    agreed_test (nat_le levels level.most) _ _ _ (same_most agrees far)
    (λ fits. right_joined level.assignment inner wanted.Assignment (point_of t) (event.Binary Comma t.at) _ _ _ (ended_skip far) agrees.assignment
    (λ right count pieces i. shop (count + 1) (piece.Expr (expression_of count (ended_token far i).place (Binary Comma left right)) ∷ under pieces))
    (still_commas inner count still_stopped)
    (λ u kept. agreed_back left far (kept_skipped 1 kept) tt)
    (λ right more behind others further. next _ _ _ _ others further))
    (λ deep. agreed_stopped left far tt)

pub commas_agree : {level : Level} {inner : Inner} {s t : State} {below under : Pieces} {levels before : ℕ} {context : Context} (count : ℕ) (left : Expr) (row : List Terminal)
    → LevelAgrees level inner
    → Ended s t below (expr_on under left) 0 levels before context row
    → Agreed below (expr_on under) anyhow 0 before (read_commas level count left levels context row) s (commas inner count t)
unfolding read_commas commas
commas_agree zero left row agrees far = agreed_read far tt
commas_agree {t} (suc count) left [] agrees far =
    agreed_at (chosen_no (goes t && has_mark (codes ",") (rest t)) _ t (λ i. is_going (far.status i) && has_mark (codes ",") (far.left i))) (agreed_read far tt)
commas_agree {t} (suc count) left (mark ∷ row) agrees far =
    agreed_test (is_mark (codes ",") mark) (goes t && has_mark (codes ",") (rest t)) _ _ (λ i. is_going (far.status i) && has_mark (codes ",") (far.left i))
    (λ is. comma_agrees count left mark row agrees (λ next more u behind others further. commas_agree count next others agrees further) far)
    (λ is. agreed_read far tt)

pub expression_agrees : {level : Level} {inner : Inner} {s t : State} {below under : Pieces} {levels before : ℕ} {context : Context} (operand : Operand) (row : List Terminal)
    → LevelAgrees level inner → t.unary ≡ operand.unary
    → Ended s t below (expr_on under operand.expr) 0 levels before context row
    → Agreed below (expr_on under) anyhow 0 before (expression_from level operand levels context row) s (steps.expression_from inner t)
unfolding steps.expression_from
expression_agrees {level} {inner} {t} {levels} {context} operand row agrees unary far =
    then_continued (assignment_from level operand levels context row) itself _ (assignment_agrees operand row agrees unary far)
    (still_commas inner _ still_lost) (still_commas inner _ still_stopped)
    (λ left more behind others further holds.
    agreed_at (ap (λ (row : List Terminal). commas inner (length row + 1) (steps.assignment_from inner t)) further.left)
    (commas_agree (length others + 1) left others agrees further))
