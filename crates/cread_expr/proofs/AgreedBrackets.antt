-- Operands, with the brackets around expressions that they begin with.
use Rattle.std.proofs.Common.{◌≡◌, ℕ, zero, suc, ◌+◌, Bool, true, false, List, [], ◌∷◌, codes, refl, ap, sym, ◌∙◌, subst, arith}
use Rattle.std.specs.Prelude.{if◌then◌else◌}
use Rattle.cgrammar.specs.Outcomes.{Outcome, then_read, continued}
use Rattle.cgrammar.specs.Outcomes as outcome
use Rattle.cgrammar.specs.Phrases.{Context}
use Rattle.cgrammar.specs.ReadLevels.{Level}
use Rattle.cgrammar.specs.ReadOperands.{opens, plain_with, read_plain, read_cast}
use Rattle.cgrammar.specs.ReadOperands as reader
use Rattle.cgrammar.specs.ReadOperators as reading
use Rattle.cgrammar.specs.ReadOperators.{expr_of}
use Rattle.cgrammar.specs.ReadStarts.{operand_start}
use Rattle.cgrammar.specs.Terminals.{Terminal}
use Rattle.cgrammar.specs.declared.reading.operand.Operand.{Operand}
use Rattle.cparser.specs.OperandSteps.{operand_first, plain, opened, closed, all_closed, cast_behind, cast}
use Rattle.cparser.specs.OperandSteps as steps
use Rattle.cparser.specs.OperatorSteps.{all_operations, conditional_from, assignment_from, expression_from}
use Rattle.cparser.specs.State.{State, rest, is_going, goes, skipped, lost}
use Rattle.cparser.specs.Steps.{Inner, whole}
use Rattle.cparser.specs.declared.status.Status.{Status}
use Rattle.cparser.specs.declared.status.Status.TheVariants.{Nothing}
use Rattle.cread_expr.proofs.Agreed.{Pieces, none, Kept, Ended, Agreed, Ready, Reads, context_of, anyhow, LevelAgrees, expr_piece, operand_piece, operand_fits}
use Rattle.cread_expr.proofs.AgreedBack.{then_continued}
use Rattle.cread_expr.proofs.AgreedLists.{failed_lost}
use Rattle.cread_expr.proofs.AgreedOperands.{PartsAgree, operand_agrees}
use Rattle.cread_expr.proofs.AgreedOperators.{all_operations_agree, conditional_agrees, assignment_agrees, expression_agrees, still_operations, still_conditional, still_assignment, still_expression}
use Rattle.cread_expr.proofs.AgreedPostfixes.{Begins, still_postfixes_from, postfixes_from_agree}
use Rattle.cread_expr.proofs.AgreedRules.{agreed_failed, agreed_at, agreed_goes, then_mark}
use Rattle.cread_expr.proofs.AgreedSteps.{row_at, row_more, row_inside, kept_went, if_going, if_idle, Still, still_lost, still_stopped, still_whole, still_mark, ended_at, ended_none}

-- the row from a token on
begins_at : (s : State) (first : Terminal) (row : List Terminal) → rest s ≡ first ∷ row → Begins (skipped 1 s) s.at first row
begins_at s first row left = record { earlier = omega arith; found = row_at s.at s.row row first _ left; start = left }

ready_behind : (s : State) (first : Terminal) (row : List Terminal) → Ready s → rest s ≡ first ∷ row → Ready (skipped 1 s)
ready_behind s first row is left = record { status = is.status; inside = row_inside s.at s.row row first left }

-- what is read from behind a token is read from that token on
agreed_skipped : {A : Type 0} {s t : State} {below : Pieces} {above : A → Pieces} {fits : A → State → Type 0} {base before : ℕ} (given : Outcome A)
    → Agreed below above fits base before given (skipped 1 s) t → Agreed below above fits base before given s t
agreed_skipped outcome.Nothing is = record { is = record { kept = record { row = is.is.kept.row; added = is.is.kept.added; events = is.is.kept.events }; status = is.is.status } }
agreed_skipped (outcome.Stopped tree expressions others) is =
    let halted = is.is.0 in
    record {
      is = (
        record {
          went = record { row = halted.went.row; added = halted.went.added; events = halted.went.events; builds = halted.went.builds };
          status = halted.status;
          left = halted.left;
        },
        is.is.1,
      );
    }
agreed_skipped {s} (outcome.Read tree levels behind others) is =
    let far = is.is.0 in
    record {
      is = (
        record {
          went = record { row = far.went.row; added = far.went.added; events = far.went.events; builds = far.went.builds };
          status = far.status;
          left = far.left;
          scope = far.scope;
          levels = far.levels;
          on = omega (arith, far.on);
          inside = far.inside;
        },
        is.is.1,
      );
    }

-- an operand with no bracket around an expression before it
plain_agrees : {level : Level} {inner : Inner} (s : State) (before : ℕ) (row : List Terminal) → PartsAgree level inner → Ready s → s.levels ≡ 0 → rest s ≡ row
    → Agreed none operand_piece operand_fits 0 before (read_plain level (context_of s before) row) s (plain inner s)
unfolding read_plain plain
plain_agrees {inner} s before [] agrees is none_read left =
    agreed_goes s s is.status (agreed_at (ap (λ (row : List Terminal). steps.plain_with inner s (operand_first row)) left) (agreed_failed (failed_lost s)))
plain_agrees {level} {inner} s before (first ∷ row) agrees is none_read left =
    let next : Ended (skipped 1 s) (skipped 1 s) none none 0 0 before (context_of s before) (rest (skipped 1 s)) = ended_none (skipped 1 s) none before (ready_behind s first row is left) none_read in
    agreed_goes s s is.status (agreed_at (ap (λ (row : List Terminal). steps.plain_with inner s (operand_first row)) left)
    (agreed_skipped (plain_with level (context_of s before) first row (operand_start first))
    (operand_agrees s first row (operand_start first) agrees (begins_at s first row left)
    (subst (λ (row : List Terminal). Ended (skipped 1 s) (skipped 1 s) none none 0 0 before (context_of s before) row) (row_more s.at s.row row first left) next))))

-- more has to follow behind what is read
whole_then : {A B : Type 0} {s u v : State} {below : Pieces} {upper : A → Pieces} {holds : A → State → Type 0} {above : B → Pieces} {fits : B → State → Type 0} {base before : ℕ}
    (given : Outcome A) (go : A → ℕ → Context → List Terminal → Outcome B)
    → Agreed below upper holds base before given s u
    → Still Nothing (whole u) v
    → ((tree : A) (levels : ℕ) (behind : Context) (others : List Terminal) → Ended s (whole u) below (upper tree) base levels before behind others → holds tree (whole u)
    → Agreed below above fits base before (go tree levels behind others) s v)
    → Agreed below above fits base before (then_read given go) s v
unfolding whole
whole_then {A} {B} {s} {u} {v} {below} {upper} {holds} {above} {fits} {base} {before} given go is still next = case given is
  where
    losing : goes u ≡ false → Kept s u → Agreed below above fits base before outcome.Nothing s v
    losing idle kept =
        let same : whole u ≡ lost u = if_idle u (lost u) u idle in
        let nothing : (whole u).status ≡ Nothing = ap (λ (state : State). state.status) same in
        agreed_at (still.same nothing ∙ same) (agreed_failed (record { kept = record { row = kept.row; added = kept.added; events = kept.events }; status = refl }))

    case : (given : Outcome A) → Agreed below upper holds base before given s u → Agreed below above fits base before (then_read given go) s v
    case outcome.Nothing is = losing (ap (λ (status : Status). is_going status) is.is.status) is.is.kept
    case (outcome.Stopped tree expressions others) is = losing (ap (λ (status : Status). is_going status) is.is.0.status) (kept_went is.is.0.went)
    case (outcome.Read tree levels behind others) is =
        let same : whole u ≡ u = if_going u (lost u) u is.is.0.status in
        next tree levels behind others (ended_at same is.is.0) (subst (λ (state : State). holds tree state) (sym same) is.is.1)

-- the expression in brackets
closed_agrees : {level : Level} {inner : Inner} {s u : State} {before : ℕ} (at : ℕ) (first : Terminal) (row : List Terminal) (given : Outcome Operand)
    → LevelAgrees level inner → Begins s at first row
    → Agreed none operand_piece operand_fits 0 before given s u
    → Agreed none operand_piece operand_fits 0 before (reader.closed level (first ∷ row) given) s (closed inner at u)
unfolding closed
closed_agrees {level} {inner} at first row given agrees begins is =
    whole_then given _ is
    (still_postfixes_from inner at (still_mark _ (still_whole (still_expression inner still_lost))))
    (λ operand levels behind others far unary.
    whole_then (reading.expression_from level operand levels behind others) _ (expression_agrees operand others agrees unary far)
    (still_postfixes_from inner at (still_mark _ still_lost))
    (λ expr deep last more further holds.
    then_mark (codes ")") more _ further (still_postfixes_from inner at still_lost) (λ closing end is there behind_closing.
    postfixes_from_agree at expr end agrees begins behind_closing)))

-- the outermost bracket is the last one to be closed
all_closed_outer : (inner : Inner) (first count : ℕ) (s : State) → all_closed inner first (suc count) s ≡ closed inner first (all_closed inner (first + 1) count s)
unfolding all_closed
all_closed_outer inner first zero s = ap (λ (at : ℕ). closed inner at s) (same first)
  where
    same : (at : ℕ) → at + 0 ≡ at
    same at = omega arith
all_closed_outer inner first (suc count) s =
    all_closed_outer inner first count (closed inner (first + suc count) s)
    ∙ ap (λ (at : ℕ). closed inner first (all_closed inner (first + 1) count (closed inner at s))) (same first count)
  where
    same : (at count : ℕ) → at + suc count ≡ at + 1 + count
    same at count = omega arith

one_more : (inner : Inner) (count : ℕ) (s : State) → cast_behind inner (1 + count) s ≡ closed inner s.at (cast_behind inner count (skipped 1 s))
one_more inner count s =
    ap (λ (n : ℕ). all_closed inner s.at n (plain inner (skipped (1 + count) s))) (first_of count)
    ∙ (all_closed_outer inner s.at count (plain inner (skipped (1 + count) s))
    ∙ ap (λ (at : ℕ). closed inner s.at (all_closed inner (s.at + 1) count (plain inner (record { row = s.row; at = at; status = s.status; levels = s.levels; unary = s.unary; scope = s.scope; events = s.events })))) (same s.at count))
  where
    first_of : (count : ℕ) → 1 + count ≡ suc count
    first_of count = omega arith

    same : (at count : ℕ) → at + (1 + count) ≡ at + 1 + count
    same at count = omega arith

none_more : (inner : Inner) (s : State) → cast_behind inner 0 s ≡ plain inner s
unfolding all_closed
none_more inner s =
    ap (λ (at : ℕ). plain inner (record { row = s.row; at = at; status = s.status; levels = s.levels; unary = s.unary; scope = s.scope; events = s.events })) (same s.at)
  where
    same : (at : ℕ) → at + 0 ≡ at
    same at = omega arith

-- an operand
cast_row_agrees : {level : Level} {inner : Inner} (row : List Terminal) (s : State) (before : ℕ) → PartsAgree level inner → Ready s → s.levels ≡ 0 → rest s ≡ row
    → Agreed none operand_piece operand_fits 0 before (read_cast level (context_of s before) row) s (cast_behind inner (opened s.scope row) s)
unfolding read_cast opened read_plain
cast_row_agrees {inner} [] s before agrees is none_read left = agreed_at (none_more inner s) (plain_agrees s before [] agrees is none_read left)
cast_row_agrees {level} {inner} (first ∷ row) s before agrees is none_read left =
    case (opens s.scope first row)
    (cast_row_agrees row (skipped 1 s) before agrees (ready_behind s first row is left) none_read (row_more s.at s.row row first left))
  where
    case : (test : Bool)
        → Agreed none operand_piece operand_fits 0 before (read_cast level (context_of s before) row) (skipped 1 s) (cast_behind inner (opened s.scope row) (skipped 1 s))
        → Agreed none operand_piece operand_fits 0 before
        (if test then reader.closed level (first ∷ row) (read_cast level (context_of s before) row) else read_plain level (context_of s before) (first ∷ row)) s
        (cast_behind inner (if test then 1 + opened s.scope row else 0) s)
    case true behind =
        agreed_at (one_more inner (opened s.scope row) s)
        (agreed_skipped (reader.closed level (first ∷ row) (read_cast level (context_of s before) row))
        (closed_agrees s.at first row (read_cast level (context_of s before) row) agrees.deeper (begins_at s first row left) behind))
    case false behind = agreed_at (none_more inner s) (plain_agrees s before (first ∷ row) agrees is none_read left)

pub cast_agrees : {level : Level} {inner : Inner} → PartsAgree level inner → Reads operand_piece operand_fits (read_cast level) (cast inner)
unfolding cast
cast_agrees agrees s before is none_read = agreed_goes s s is.status (cast_row_agrees (rest s) s before agrees is none_read refl)

-- Expressions, from their first operand on.
pub operation_reads : {level : Level} {inner : Inner} (loosest : ℕ) → PartsAgree level inner
    → Reads expr_piece anyhow (λ context row. continued (read_cast level context row) expr_of (reading.operations_from level loosest)) (λ s. all_operations inner loosest (cast inner s))
operation_reads {level} {inner} loosest agrees s before is none_read =
    then_continued (read_cast level (context_of s before) (rest s)) expr_of _ (cast_agrees agrees s before is none_read)
    (still_operations inner loosest _ still_lost) (still_operations inner loosest _ still_stopped)
    (λ operand levels behind others far unary. all_operations_agree loosest operand others agrees.deeper far)

pub conditional_reads : {level : Level} {inner : Inner} → PartsAgree level inner
    → Reads expr_piece anyhow (λ context row. continued (read_cast level context row) expr_of (reading.conditional_from level)) (λ s. conditional_from inner (cast inner s))
conditional_reads {level} {inner} agrees s before is none_read =
    then_continued (read_cast level (context_of s before) (rest s)) expr_of _ (cast_agrees agrees s before is none_read)
    (still_conditional inner still_lost) (still_conditional inner still_stopped)
    (λ operand levels behind others far unary. conditional_agrees operand others agrees.deeper far)

pub assignment_reads : {level : Level} {inner : Inner} → PartsAgree level inner
    → Reads expr_piece anyhow (λ context row. continued (read_cast level context row) expr_of (reading.assignment_from level)) (λ s. assignment_from inner (cast inner s))
assignment_reads {level} {inner} agrees s before is none_read =
    then_continued (read_cast level (context_of s before) (rest s)) expr_of _ (cast_agrees agrees s before is none_read)
    (still_assignment inner still_lost) (still_assignment inner still_stopped)
    (λ operand levels behind others far unary. assignment_agrees operand others agrees.deeper unary far)

pub expression_reads : {level : Level} {inner : Inner} → PartsAgree level inner
    → Reads expr_piece anyhow (λ context row. continued (read_cast level context row) expr_of (reading.expression_from level)) (λ s. expression_from inner (cast inner s))
expression_reads {level} {inner} agrees s before is none_read =
    then_continued (read_cast level (context_of s before) (rest s)) expr_of _ (cast_agrees agrees s before is none_read)
    (still_expression inner still_lost) (still_expression inner still_stopped)
    (λ operand levels behind others far unary. expression_agrees operand others agrees.deeper unary far)
