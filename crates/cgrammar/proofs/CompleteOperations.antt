-- The reader is complete on binary operators (C11 6.5.5 to 6.5.14).
use Rattle.std.proofs.Common.{◌≡◌, ℕ, zero, suc, Bool, true, false, ◌||◌, ◌+◌, ◌<◌, ◌≤◌, ◌⊎◌, inl, inr, max, nat_le, List, [], ◌∷◌, ◌++◌, length, Some, None, IsTrue, refl, ap, sym, subst, ◌∙◌, arith}
use Rattle.std.specs.Prelude.{if◌then◌else◌, Option}
use Rattle.std.proofs.lemmas.Bool.{le-leb, leb-true, lt-ltb, ltb-true, le-ltb}
use Rattle.std.proofs.lemmas.List.{append_assoc, length-append}
use Rattle.cbase.specs.declared.tree.expr.Expr.{Expr}
use Rattle.cbase.specs.declared.tree.expr.ExprForm.TheVariants.{Binary}
use Rattle.cbase.specs.declared.tree.operators.BinaryOp.{BinaryOp}
use Rattle.ctrees.specs.Levels.{expr_levels}
use Rattle.ctokens.proofs.Choices.{chosen_yes}
use Rattle.cgrammar.proofs.CompleteReaches.{continued_reaches, operations_reach}
use Rattle.cgrammar.proofs.CompleteSteps.{first_more, levels_fit, some_level, with_right_step}
use Rattle.cgrammar.proofs.CompleteTokens.{binary_no_operand}
use Rattle.cgrammar.proofs.Reached.{Reaches, Goes, IsWithinLevel, Completes, goes_on_operand, goes_on_operation, is_tighter, is_no_looser, goes_on_from}
use Rattle.cgrammar.proofs.TreeLevels.{levels_binary}
use Rattle.cgrammar.proofs.Truth.{or-left, or-right, or-cases, clash}
use Rattle.cgrammar.specs.Operators.{mark_row, binary_rows, IsBinary}
use Rattle.cgrammar.specs.Outcomes.{Outcome, Read, Reader, with_right, continued, has_first}
use Rattle.cgrammar.specs.Phrases.{Context, counted, numbered, Operation, CastExpression}
use Rattle.cgrammar.specs.ReadLevels.{Level}
use Rattle.cgrammar.specs.ReadOperands.{read_cast}
use Rattle.cgrammar.specs.ReadOperators.{expression_of, expr_of, stopped, binary_with, read_operations, operations_from}
use Rattle.cgrammar.specs.Reader.{level}
use Rattle.cgrammar.specs.Terminals.{Terminal}

-- operators that the loop takes: those that are no looser
taken_is_tighter : (k : ℕ) (entry : Option (ℕ × BinaryOp)) → is_no_looser (k + 1) entry ≡ true → is_tighter k entry ≡ true
taken_is_tighter k None is = is
taken_is_tighter k (Some entry) is = let more = leb-true (k + 1) entry.0 is in lt-ltb k entry.0 (omega (arith, more))

tighter_still : (k tighter : ℕ) → k ≤ tighter → (entry : Option (ℕ × BinaryOp)) → is_tighter tighter entry ≡ true → is_tighter k entry ≡ true
tighter_still k tighter less None is = is
tighter_still k tighter less (Some entry) is = let more = ltb-true tighter entry.0 is in lt-ltb k entry.0 (omega (arith, more))

pub operation_goes_on_looser : (k tighter : ℕ) → k ≤ tighter → (token : Terminal) → goes_on_operation tighter token ≡ true → goes_on_operation k token ≡ true
operation_goes_on_looser k tighter less token is = step (or-cases (goes_on_operand token) (is_tighter tighter (mark_row binary_rows token)) is)
  where
    step : (goes_on_operand token ≡ true) ⊎ (is_tighter tighter (mark_row binary_rows token) ≡ true) → goes_on_operation k token ≡ true
    step (inl operand) = or-left (is_tighter k (mark_row binary_rows token)) operand
    step (inr mark) = or-right (goes_on_operand token) (tighter_still k tighter less (mark_row binary_rows token) mark)

-- the loop ends, or goes on
stops_at : (go : Expr → ℕ → Reader Expr) (inner : Level) (loosest : ℕ) (left : Expr) (levels : ℕ) (context : Context) (mark : Terminal) (row : List Terminal) (entry : Option (ℕ × BinaryOp))
    → (binary_with go inner loosest left levels context mark row entry ≡ Read left levels context (mark ∷ row)) ⊎ (is_no_looser loosest entry ≡ true)
stops_at go inner loosest left levels context mark row None = inl refl
stops_at go inner loosest left levels context mark row (Some entry) = step (nat_le loosest entry.0) _
  where
    step : (test : Bool) (more : Outcome Expr) → ((if test then more else Read left levels context (mark ∷ row)) ≡ Read left levels context (mark ∷ row)) ⊎ (test ≡ true)
    step true more = inr refl
    step false more = inl refl

pub operations_stop : (inner : Level) (loosest count : ℕ) (left : Expr) (levels : ℕ) (context : Context) (row : List Terminal)
    → (read_operations inner loosest count left levels context row ≡ Read left levels context row) ⊎ IsTrue (has_first (goes_on_from loosest) row)
unfolding read_operations
operations_stop inner loosest zero left levels context row = inl refl
operations_stop inner loosest (suc count) left levels context [] = inl refl
operations_stop inner loosest (suc count) left levels context (mark ∷ row) =
    stops_at (read_operations inner loosest count) inner loosest left levels context mark row (mark_row binary_rows mark)

-- one turn of the loop
pub operations_turn : (inner : Level) (loosest count : ℕ) (left : Expr) (levels : ℕ) (context : Context) (mark : Terminal) (row : List Terminal) (tighter : ℕ) (op : BinaryOp)
    → IsBinary tighter op mark → nat_le loosest tighter ≡ true → nat_le levels inner.most ≡ true
    → read_operations inner loosest (suc count) left levels context (mark ∷ row)
    ≡ with_right (inner.operation (tighter + 1) context row) (stopped left context mark row)
    (λ right number. expression_of number mark.place (Binary op left right))
    (λ right others behind rest. read_operations inner loosest count (numbered behind mark.place (Binary op left right)) (1 + max levels others) (counted behind) rest)
unfolding read_operations
operations_turn inner loosest count left levels context mark row tighter op is loose fits =
    ap (λ (entry : Option (ℕ × BinaryOp)). binary_with (read_operations inner loosest count) inner loosest left levels context mark row entry) is
    ∙ chosen_yes (nat_le loosest tighter) _ (Read left levels context (mark ∷ row)) loose
    ∙ chosen_yes (nat_le levels inner.most) _ (stopped left context mark row) fits

-- what a whole operation is read as
abbrev Wanted : ℕ → ℕ → ℕ → Expr → Context → List Terminal → Outcome Expr → Type 0
Wanted k m loosest e after rest outcome =
    ((count : ℕ) × (length rest < count) × (outcome ≡ read_operations (level m) loosest count e (expr_levels e) after rest))
    ⊎ (IsTrue (has_first (goes_on_operation k) rest) × Reaches outcome rest)

pub operation_goes : (k : ℕ) (e : Expr) (before after : Context) (front : List Terminal) → Completes (Operation (k + 1) e) before front after → ((n : ℕ) → IsWithinLevel (level n))
    → (m : ℕ) (rest : List Terminal) → expr_levels e ≤ m → Goes (goes_on_operation k) e (expr_levels e) after rest ((level m).operation (k + 1) before (front ++ rest))
operation_goes k e before after front whole within zero rest fits = absurd (some_level e fits)
operation_goes k e before after front whole within (suc m) rest fits = step (whole m (k + 1) rest (omega arith) (omega (arith, fits)))
  where
    outcome : Outcome Expr
    outcome = continued (read_cast (level m) before (front ++ rest)) expr_of (operations_from (level m) (k + 1))

    taken : (token : Terminal) → goes_on_from (k + 1) token ≡ true → goes_on_operation k token ≡ true
    taken token is = or-right (goes_on_operand token) (taken_is_tighter k (mark_row binary_rows token) is)

    ends : (count : ℕ) → outcome ≡ read_operations (level m) (k + 1) count e (expr_levels e) after rest
        → (read_operations (level m) (k + 1) count e (expr_levels e) after rest ≡ Read e (expr_levels e) after rest) ⊎ IsTrue (has_first (goes_on_from (k + 1)) rest)
        → Goes (goes_on_operation k) e (expr_levels e) after rest outcome
    ends count is (inl stop) = inl (is ∙ stop)
    ends count is (inr more) =
        inr (first_more (goes_on_from (k + 1)) (goes_on_operation k) rest taken more, subst (λ o. Reaches o rest) (sym is) (operations_reach (level m) (within m) (k + 1) count e (expr_levels e) after rest))

    step : Wanted (k + 1) m (k + 1) e after rest outcome → Goes (goes_on_operation k) e (expr_levels e) after rest outcome
    step (inl (count, less, is)) = ends count is (operations_stop (level m) (k + 1) count e (expr_levels e) after rest)
    step (inr (goes, far)) = inr (first_more (goes_on_operation (k + 1)) (goes_on_operation k) rest (operation_goes_on_looser k (k + 1) (omega arith)) goes, far)

pub complete_one_cast : (before after : Context) (row : List Terminal) (expr : Expr) (k : ℕ) → Completes (CastExpression expr) before row after → ((n : ℕ) → IsWithinLevel (level n))
    → Completes (Operation k expr) before row after
complete_one_cast before after row expr k whole within m loosest rest loose fits = step (whole (suc m) rest (omega (arith, fits)))
  where
    outcome : Outcome Expr
    outcome = continued (read_cast (level m) before (row ++ rest)) expr_of (operations_from (level m) loosest)

    step : ((unary : Bool) × (read_cast (level m) before (row ++ rest) ≡ Read (record { expr = expr; unary = unary }) (expr_levels expr) after rest))
        ⊎ (IsTrue (has_first goes_on_operand rest) × Reaches (read_cast (level m) before (row ++ rest)) rest)
        → Wanted k m loosest expr after rest outcome
    step (inl (unary, is)) = inl (length rest + 1, omega arith, ap (λ o. continued o expr_of (operations_from (level m) loosest)) is)
    step (inr (goes, far)) =
        inr (
          first_more goes_on_operand (goes_on_operation k) rest (λ token is. or-left (is_tighter k (mark_row binary_rows token)) is) goes,
          continued_reaches (read_cast (level m) before (row ++ rest)) expr_of (operations_from (level m) loosest) rest far
              (λ operand levels context others. operations_reach (level m) (within m) loosest (length others + 1) operand.expr levels context others),
        )

-- a binary operator is not tighter than itself
binary_ends : (tighter : ℕ) (op : BinaryOp) (mark : Terminal) → IsBinary tighter op mark → goes_on_operation tighter mark ≡ false
binary_ends tighter op mark is =
    ap (λ (b : Bool). b || is_tighter tighter (mark_row binary_rows mark)) (binary_no_operand tighter op mark is)
    ∙ ap (is_tighter tighter) is
    ∙ le-ltb tighter tighter (omega arith)

pub complete_binary_operator : (before middle after : Context) (xs ys : List Terminal) (left right : Expr) (k tighter : ℕ) (op : BinaryOp) (mark : Terminal)
    → k ≤ tighter → IsBinary tighter op mark
    → Completes (Operation tighter left) before xs middle → Completes (Operation (tighter + 1) right) middle ys after → ((n : ℕ) → IsWithinLevel (level n))
    → Completes (Operation k (numbered after mark.place (Binary op left right))) before (xs ++ (mark ∷ ys)) (counted after)
complete_binary_operator before middle after xs ys left right k tighter op mark less is one other within m loosest rest loose fits =
    subst (λ row. Wanted k m loosest whole (counted after) rest (continued (read_cast (level m) before row) expr_of (operations_from (level m) loosest))) (sym (append_assoc xs (mark ∷ ys) rest))
    (first (one m loosest (mark ∷ (ys ++ rest)) (omega (arith, loose, less)) (omega (arith, lefts))))
  where
    whole : Expr
    whole = numbered after mark.place (Binary op left right)

    levels : expr_levels whole ≡ 1 + max (expr_levels left) (expr_levels right)
    levels = levels_binary after.expressions mark.place op left right

    lefts : expr_levels left ≤ m
    lefts = let sum = levels in omega (arith, fits, sum)

    rights : expr_levels right ≤ m
    rights = let sum = levels in omega (arith, fits, sum)

    outcome : Outcome Expr
    outcome = continued (read_cast (level m) before (xs ++ (mark ∷ (ys ++ rest)))) expr_of (operations_from (level m) loosest)

    go : ℕ → Expr → ℕ → Context → List Terminal → Outcome Expr
    go count e others behind more = read_operations (level m) loosest count (numbered behind mark.place (Binary op left e)) (1 + max (expr_levels left) others) (counted behind) more

    behind : (count : ℕ) → length rest < count
        → outcome ≡ with_right ((level m).operation (tighter + 1) middle (ys ++ rest)) (stopped left middle mark (ys ++ rest)) (λ e number. expression_of number mark.place (Binary op left e)) (go count)
        → (with_right ((level m).operation (tighter + 1) middle (ys ++ rest)) (stopped left middle mark (ys ++ rest)) (λ e number. expression_of number mark.place (Binary op left e)) (go count) ≡ go count right (expr_levels right) after rest)
        ⊎ (IsTrue (has_first (goes_on_operation tighter) rest) × Reaches (with_right ((level m).operation (tighter + 1) middle (ys ++ rest)) (stopped left middle mark (ys ++ rest)) (λ e number. expression_of number mark.place (Binary op left e)) (go count)) rest)
        → Wanted k m loosest whole (counted after) rest outcome
    behind count more turned (inl exact) =
        inl (count, more, turned ∙ exact ∙ ap (λ (n : ℕ). read_operations (level m) loosest count whole n (counted after) rest) (sym levels))
    behind count more turned (inr (goes, far)) =
        inr (first_more (goes_on_operation tighter) (goes_on_operation k) rest (operation_goes_on_looser k tighter less) goes, subst (λ o. Reaches o rest) (sym turned) far)

    first : Wanted tighter m loosest left middle (mark ∷ (ys ++ rest)) outcome → Wanted k m loosest whole (counted after) rest outcome
    first (inl (zero, longer, read)) = absurd (omega (arith, longer))
    first (inl (suc count, longer, read)) =
        let sum = length-append ys rest in
        behind count (omega (arith, longer, sum))
        (read ∙ operations_turn (level m) loosest count left (expr_levels left) middle mark (ys ++ rest) tighter op is (le-leb loosest tighter (omega (arith, loose, less))) (levels_fit (expr_levels left) m lefts))
        (with_right_step (goes_on_operation tighter) right (expr_levels right) after rest ((level m).operation (tighter + 1) middle (ys ++ rest)) (stopped left middle mark (ys ++ rest))
        (λ e number. expression_of number mark.place (Binary op left e)) (go count)
        (λ e others context row. operations_reach (level m) (within m) loosest count (numbered context mark.place (Binary op left e)) (1 + max (expr_levels left) others) (counted context) row)
        (operation_goes tighter right middle after ys other within m rest rights))
    first (inr (goes, far)) = absurd (clash (goes_on_operation tighter mark) goes (binary_ends tighter op mark is))
