-- The reader is complete on expressions with commas (C11 6.5.17).
use Rattle.std.proofs.Common.{◌≡◌, ℕ, zero, suc, Bool, true, false, ◌+◌, ◌<◌, ◌≤◌, ◌⊎◌, inl, inr, max, nat_le, List, [], ◌∷◌, ◌++◌, codes, length, IsTrue, refl, ap, sym, subst, ◌∙◌, arith}
use Rattle.std.specs.Prelude.{if◌then◌else◌}
use Rattle.std.proofs.lemmas.List.{append_assoc, length-append}
use Rattle.cbase.specs.declared.tree.expr.Expr.{Expr}
use Rattle.cbase.specs.declared.tree.expr.ExprForm.TheVariants.{Binary}
use Rattle.cbase.specs.declared.tree.operators.BinaryOp.TheVariants.{Comma}
use Rattle.ctrees.specs.Levels.{expr_levels}
use Rattle.ctokens.proofs.Choices.{chosen_yes}
use Rattle.cgrammar.proofs.CompleteAssignments.{assignment_at}
use Rattle.cgrammar.proofs.CompleteReaches.{continued_reaches, commas_reach}
use Rattle.cgrammar.proofs.CompleteSteps.{first_more, levels_fit, some_level, continued_twice, with_right_step}
use Rattle.cgrammar.proofs.CompleteTokens.{comma_no_assignment}
use Rattle.cgrammar.proofs.Reached.{Reaches, Goes, IsWithinLevel, Completes, goes_on_assignment, goes_on_expression}
use Rattle.cgrammar.proofs.TreeLevels.{levels_binary}
use Rattle.cgrammar.proofs.Truth.{or-left, or-right, clash}
use Rattle.cgrammar.specs.Outcomes.{Outcome, Read, Reader, with_right, continued, has_first}
use Rattle.cgrammar.specs.Phrases.{Context, counted, numbered, Assignment, Expression}
use Rattle.cgrammar.specs.ReadLevels.{Level}
use Rattle.cgrammar.specs.ReadOperands.{read_cast}
use Rattle.cgrammar.specs.ReadOperators.{expression_of, expr_of, itself, stopped, assignment_from, read_commas, expression_from}
use Rattle.cgrammar.specs.Reader.{level}
use Rattle.cgrammar.specs.Terminals.{Terminal, is_mark, IsMark}

abbrev pub expression_at : ℕ → Context → List Terminal → Outcome Expr
expression_at m before row = continued (read_cast (level m) before row) expr_of (expression_from (level m))

-- commas go on with the expression as their left operand
abbrev pub CommasGo : ℕ → Expr → Context → List Terminal → Outcome Expr → Type 0
CommasGo m e after rest outcome =
    ((count : ℕ) × (length rest < count) × (outcome ≡ read_commas (level m) count e (expr_levels e) after rest))
    ⊎ (IsTrue (has_first goes_on_assignment rest) × Reaches outcome rest)

-- What is to be known of an expression to the left of a comma: more than `Completes (Expression e)` says.
abbrev pub CompletesCommas : Expr → Context → List Terminal → Context → Type 0
CompletesCommas e before front after =
    (m : ℕ) (rest : List Terminal) → expr_levels e ≤ m + 1 → CommasGo m e after rest (expression_at m before (front ++ rest))

-- the loop ends, or goes on
pub commas_stop : (inner : Level) (count : ℕ) (left : Expr) (levels : ℕ) (context : Context) (row : List Terminal)
    → (read_commas inner count left levels context row ≡ Read left levels context row) ⊎ IsTrue (has_first (is_mark (codes ",")) row)
unfolding read_commas
commas_stop inner zero left levels context row = inl refl
commas_stop inner (suc count) left levels context [] = inl refl
commas_stop inner (suc count) left levels context (mark ∷ row) = step (is_mark (codes ",") mark) _
  where
    step : (is : Bool) (more : Outcome Expr) → ((if is then more else Read left levels context (mark ∷ row)) ≡ Read left levels context (mark ∷ row)) ⊎ (is ≡ true)
    step true more = inr refl
    step false more = inl refl

commas_turn : (inner : Level) (count : ℕ) (left : Expr) (levels : ℕ) (context : Context) (mark : Terminal) (row : List Terminal) → is_mark (codes ",") mark ≡ true → nat_le levels inner.most ≡ true
    → read_commas inner (suc count) left levels context (mark ∷ row)
    ≡ with_right (inner.assignment context row) (stopped left context mark row)
    (λ right number. expression_of number mark.place (Binary Comma left right))
    (λ right others behind rest. read_commas inner count (numbered behind mark.place (Binary Comma left right)) (1 + max levels others) (counted behind) rest)
unfolding read_commas
commas_turn inner count left levels context mark row is fits =
    chosen_yes (is_mark (codes ",") mark) _ (Read left levels context (mark ∷ row)) is
    ∙ chosen_yes (nat_le levels inner.most) _ (stopped left context mark row) fits

-- an assignment is read first
commas_from : Level → Expr → ℕ → Reader Expr
commas_from inner left others behind rest = read_commas inner (length rest + 1) left others behind rest

assignment_first : (m : ℕ) (before : Context) (row : List Terminal) → expression_at m before row ≡ continued (assignment_at m before row) itself (commas_from (level m))
unfolding commas_from
assignment_first m before row = continued_twice (read_cast (level m) before row) expr_of (assignment_from (level m)) itself (commas_from (level m))

commas_from_reach : (m : ℕ) → IsWithinLevel (level m) → (left : Expr) (others : ℕ) (behind : Context) (rest : List Terminal) → Reaches (commas_from (level m) left others behind rest) rest
unfolding commas_from
commas_from_reach m within left others behind rest = commas_reach (level m) within (length rest + 1) left others behind rest

one_assignment : (m : ℕ) → IsWithinLevel (level m) → (before after : Context) (row rest : List Terminal) (e : Expr)
    → Goes goes_on_assignment e (expr_levels e) after rest (assignment_at m before row) → CommasGo m e after rest (expression_at m before row)
unfolding commas_from
one_assignment m within before after row rest e (inl is) =
    inl (length rest + 1, omega arith, assignment_first m before row ∙ ap (λ o. continued o itself (commas_from (level m))) is)
one_assignment m within before after row rest e (inr (goes, far)) =
    inr (
      goes,
      subst (λ o. Reaches o rest) (sym (assignment_first m before row))
          (continued_reaches (assignment_at m before row) itself (commas_from (level m)) rest far (commas_from_reach m within)),
    )

pub commas_one_assignment : (before after : Context) (row : List Terminal) (expr : Expr) → Completes (Assignment expr) before row after → ((n : ℕ) → IsWithinLevel (level n))
    → CompletesCommas expr before row after
commas_one_assignment before after row expr whole within m rest fits =
    one_assignment m (within m) before after (row ++ rest) rest expr (whole (suc m) rest (omega (arith, fits)))

pub commas_comma_operator : (before middle after : Context) (xs ys : List Terminal) (left right : Expr) (mark : Terminal)
    → IsMark (codes ",") mark
    → CompletesCommas left before xs middle → Completes (Assignment right) middle ys after → ((n : ℕ) → IsWithinLevel (level n))
    → CompletesCommas (numbered after mark.place (Binary Comma left right)) before (xs ++ (mark ∷ ys)) (counted after)
commas_comma_operator before middle after xs ys left right mark is one other within m rest fits =
    subst (λ row. CommasGo m whole (counted after) rest (expression_at m before row)) (sym (append_assoc xs (mark ∷ ys) rest))
    (first (one m (mark ∷ (ys ++ rest)) (omega (arith, fits, levels))))
  where
    whole : Expr
    whole = numbered after mark.place (Binary Comma left right)

    levels : expr_levels whole ≡ 1 + max (expr_levels left) (expr_levels right)
    levels = levels_binary after.expressions mark.place Comma left right

    outcome : Outcome Expr
    outcome = expression_at m before (xs ++ (mark ∷ (ys ++ rest)))

    go : ℕ → Expr → ℕ → Context → List Terminal → Outcome Expr
    go count e others behind more = read_commas (level m) count (numbered behind mark.place (Binary Comma left e)) (1 + max (expr_levels left) others) (counted behind) more

    taken : ℕ → Outcome Expr
    taken count = with_right ((level m).assignment middle (ys ++ rest)) (stopped left middle mark (ys ++ rest)) (λ e number. expression_of number mark.place (Binary Comma left e)) (go count)

    behind : (count : ℕ) → length rest < count → outcome ≡ taken count
        → (taken count ≡ go count right (expr_levels right) after rest) ⊎ (IsTrue (has_first goes_on_assignment rest) × Reaches (taken count) rest)
        → CommasGo m whole (counted after) rest outcome
    behind count more turned (inl exact) = inl (count, more, turned ∙ exact ∙ ap (λ (n : ℕ). read_commas (level m) count whole n (counted after) rest) (sym levels))
    behind count more turned (inr (goes, far)) = inr (goes, subst (λ o. Reaches o rest) (sym turned) far)

    first : CommasGo m left middle (mark ∷ (ys ++ rest)) outcome → CommasGo m whole (counted after) rest outcome
    first (inl (zero, longer, read)) = absurd (omega (arith, longer))
    first (inl (suc count, longer, read)) =
        let sum = length-append ys rest in
        behind count (omega (arith, longer, sum))
        (read ∙ commas_turn (level m) count left (expr_levels left) middle mark (ys ++ rest) is (levels_fit (expr_levels left) m (omega (arith, fits, levels))))
        (with_right_step goes_on_assignment right (expr_levels right) after rest ((level m).assignment middle (ys ++ rest)) (stopped left middle mark (ys ++ rest))
        (λ e number. expression_of number mark.place (Binary Comma left e)) (go count)
        (λ e others context row. commas_reach (level m) (within m) count (numbered context mark.place (Binary Comma left e)) (1 + max (expr_levels left) others) (counted context) row)
        (other m rest (omega (arith, fits, levels))))
    first (inr (goes, far)) = absurd (clash (goes_on_assignment mark) goes (comma_no_assignment mark is))

-- what is known of it to the left of a comma is known of it anywhere
pub complete_of_commas : (before after : Context) (row : List Terminal) (expr : Expr) → CompletesCommas expr before row after → ((n : ℕ) → IsWithinLevel (level n))
    → Completes (Expression expr) before row after
complete_of_commas before after row expr whole within zero rest fits = absurd (some_level expr fits)
complete_of_commas before after row expr whole within (suc m) rest fits = step (whole m rest (omega (arith, fits)))
  where
    comma_goes_on : (token : Terminal) → is_mark (codes ",") token ≡ true → goes_on_expression token ≡ true
    comma_goes_on token is = or-right (goes_on_assignment token) is

    assignment_goes_on : (token : Terminal) → goes_on_assignment token ≡ true → goes_on_expression token ≡ true
    assignment_goes_on token is = or-left (is_mark (codes ",") token) is

    ends : (count : ℕ) → expression_at m before (row ++ rest) ≡ read_commas (level m) count expr (expr_levels expr) after rest
        → (read_commas (level m) count expr (expr_levels expr) after rest ≡ Read expr (expr_levels expr) after rest) ⊎ IsTrue (has_first (is_mark (codes ",")) rest)
        → Goes goes_on_expression expr (expr_levels expr) after rest (expression_at m before (row ++ rest))
    ends count is (inl stop) = inl (is ∙ stop)
    ends count is (inr more) =
        inr (
          first_more (is_mark (codes ",")) goes_on_expression rest comma_goes_on more,
          subst (λ o. Reaches o rest) (sym is) (commas_reach (level m) (within m) count expr (expr_levels expr) after rest),
        )

    step : CommasGo m expr after rest (expression_at m before (row ++ rest)) → Goes goes_on_expression expr (expr_levels expr) after rest (expression_at m before (row ++ rest))
    step (inl (count, less, is)) = ends count is (commas_stop (level m) count expr (expr_levels expr) after rest)
    step (inr (goes, far)) = inr (first_more goes_on_assignment goes_on_expression rest assignment_goes_on goes, far)

pub complete_one_assignment : (before after : Context) (row : List Terminal) (expr : Expr) → Completes (Assignment expr) before row after → ((n : ℕ) → IsWithinLevel (level n))
    → Completes (Expression expr) before row after
complete_one_assignment before after row expr whole within = complete_of_commas before after row expr (commas_one_assignment before after row expr whole within) within

pub complete_comma_operator : (before middle after : Context) (xs ys : List Terminal) (left right : Expr) (mark : Terminal)
    → IsMark (codes ",") mark
    → CompletesCommas left before xs middle → Completes (Assignment right) middle ys after → ((n : ℕ) → IsWithinLevel (level n))
    → Completes (Expression (numbered after mark.place (Binary Comma left right))) before (xs ++ (mark ∷ ys)) (counted after)
complete_comma_operator before middle after xs ys left right mark is one other within =
    complete_of_commas before (counted after) (xs ++ (mark ∷ ys)) (numbered after mark.place (Binary Comma left right)) (commas_comma_operator before middle after xs ys left right mark is one other within) within
