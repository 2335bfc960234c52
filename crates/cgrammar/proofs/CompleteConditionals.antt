-- The reader is complete on conditional expressions (C11 6.5.15).
use Rattle.std.proofs.Common.{◌≡◌, ℕ, zero, suc, Bool, true, false, ◌||◌, ◌+◌, ◌<◌, ◌≤◌, ◌⊎◌, inl, inr, max, nat_le, List, [], ◌∷◌, ◌++◌, codes, length, Some, None, IsTrue, refl, ap, sym, subst, ◌∙◌, arith}
use Rattle.std.specs.Prelude.{if◌then◌else◌, Option}
use Rattle.std.proofs.lemmas.List.{append_assoc}
use Rattle.cbase.specs.declared.tree.expr.Expr.{Expr}
use Rattle.cbase.specs.declared.tree.expr.ExprForm.TheVariants.{Choose}
use Rattle.cbase.specs.declared.tree.operators.BinaryOp.{BinaryOp}
use Rattle.ctrees.specs.Levels.{expr_levels}
use Rattle.ctokens.proofs.Choices.{chosen_yes}
use Rattle.cgrammar.proofs.CompleteOperations.{operations_stop}
use Rattle.cgrammar.proofs.CompleteReaches.{continued_reaches, operations_reach, choice_reaches}
use Rattle.cgrammar.proofs.CompleteSteps.{first_more, levels_fit, some_level, continued_twice, with_right_step, goes_exactly}
use Rattle.cgrammar.proofs.CompleteTokens.{colon_no_expression, question_no_operand, question_no_binary}
use Rattle.cgrammar.proofs.Reached.{Reaches, Goes, IsWithinLevel, Completes, goes_on_operand, goes_on_operation, goes_on_conditional, goes_on_expression, is_tighter, is_some_binary, goes_on_from, is_no_looser}
use Rattle.cgrammar.proofs.TreeLevels.{levels_choose}
use Rattle.cgrammar.proofs.Truth.{or-left, or-right, or-cases, clash}
use Rattle.cgrammar.specs.Operators.{mark_row, binary_rows}
use Rattle.cgrammar.specs.Outcomes.{Outcome, Read, with_right, or_else, after_mark, continued, has_first}
use Rattle.cgrammar.specs.Phrases.{Context, counted, numbered, Operation, Conditional, Expression}
use Rattle.cgrammar.specs.ReadLevels.{Level}
use Rattle.cgrammar.specs.ReadOperands.{read_cast}
use Rattle.cgrammar.specs.ReadOperators.{expression_of, expr_of, itself, stopped, read_operations, operations_from, read_choice, conditional_from}
use Rattle.cgrammar.specs.Reader.{level}
use Rattle.cgrammar.specs.Terminals.{Terminal, is_mark, IsMark}

some_taken : (loosest : ℕ) (entry : Option (ℕ × BinaryOp)) → is_no_looser loosest entry ≡ true → is_some_binary entry ≡ true
some_taken loosest None is = is
some_taken loosest (Some entry) is = refl

some_tighter : (k : ℕ) (entry : Option (ℕ × BinaryOp)) → is_tighter k entry ≡ true → is_some_binary entry ≡ true
some_tighter k None is = is
some_tighter k (Some entry) is = refl

pub taken_goes_on : (loosest : ℕ) (token : Terminal) → goes_on_from loosest token ≡ true → goes_on_conditional token ≡ true
taken_goes_on loosest token is =
    or-right (goes_on_operand token) (or-left (is_mark (codes "?") token) (some_taken loosest (mark_row binary_rows token) is))

pub operation_goes_on_conditional : (k : ℕ) (token : Terminal) → goes_on_operation k token ≡ true → goes_on_conditional token ≡ true
operation_goes_on_conditional k token is = step (or-cases (goes_on_operand token) (is_tighter k (mark_row binary_rows token)) is)
  where
    step : (goes_on_operand token ≡ true) ⊎ (is_tighter k (mark_row binary_rows token) ≡ true) → goes_on_conditional token ≡ true
    step (inl operand) = or-left (is_some_binary (mark_row binary_rows token) || is_mark (codes "?") token) operand
    step (inr mark) = or-right (goes_on_operand token) (or-left (is_mark (codes "?") token) (some_tighter k (mark_row binary_rows token) mark))

pub question_goes_on : (token : Terminal) → is_mark (codes "?") token ≡ true → goes_on_conditional token ≡ true
question_goes_on token is = or-right (goes_on_operand token) (or-right (is_some_binary (mark_row binary_rows token)) is)

-- a `?` is read, or there is none
pub choice_stops : (inner : Level) (test : Expr) (levels : ℕ) (context : Context) (row : List Terminal)
    → (read_choice inner test levels context row ≡ Read test levels context row) ⊎ IsTrue (has_first (is_mark (codes "?")) row)
unfolding read_choice
choice_stops inner test levels context [] = inl refl
choice_stops inner test levels context (mark ∷ row) = step (is_mark (codes "?") mark) _
  where
    step : (is : Bool) (more : Outcome Expr) → ((if is then more else Read test levels context (mark ∷ row)) ≡ Read test levels context (mark ∷ row)) ⊎ (is ≡ true)
    step true more = inr refl
    step false more = inl refl

-- behind a `?`
abbrev chosen : Level → Expr → ℕ → Context → Terminal → List Terminal → Expr → ℕ → Context → List Terminal → Outcome Expr
chosen inner test levels context mark row one ones first others =
    with_right (inner.conditional first others) (stopped test context mark row)
    (λ other number. expression_of number mark.place (Choose test one other))
    (λ other twos behind more. Read (numbered behind mark.place (Choose test one other)) (1 + max levels (max ones twos)) (counted behind) more)

choice_turn : (inner : Level) (test : Expr) (levels : ℕ) (context : Context) (mark : Terminal) (row : List Terminal) → is_mark (codes "?") mark ≡ true → nat_le levels inner.most ≡ true
    → read_choice inner test levels context (mark ∷ row)
    ≡ or_else (inner.expression context row) (stopped test context mark row) (λ one ones first rest.
    after_mark (codes ":") rest (stopped test context mark row) (λ colon others. chosen inner test levels context mark row one ones first others))
unfolding read_choice
choice_turn inner test levels context mark row is fits =
    chosen_yes (is_mark (codes "?") mark) _ (Read test levels context (mark ∷ row)) is
    ∙ chosen_yes (nat_le levels inner.most) _ (stopped test context mark row) fits

choice_step : (inner : Level) (test : Expr) (levels : ℕ) (context : Context) (mark : Terminal) (row : List Terminal) → is_mark (codes "?") mark ≡ true → nat_le levels inner.most ≡ true
    → (one : Expr) (ones : ℕ) (first : Context) (colon : Terminal) (others : List Terminal) → is_mark (codes ":") colon ≡ true
    → inner.expression context row ≡ Read one ones first (colon ∷ others)
    → read_choice inner test levels context (mark ∷ row) ≡ chosen inner test levels context mark row one ones first others
choice_step inner test levels context mark row is fits one ones first colon others ends read =
    choice_turn inner test levels context mark row is fits
    ∙ ap (λ o. or_else o (stopped test context mark row) (λ one ones first rest.
    after_mark (codes ":") rest (stopped test context mark row) (λ colon others. chosen inner test levels context mark row one ones first others))) read
    ∙ chosen_yes (is_mark (codes ":") colon) _ (stopped test context mark row) ends

-- an operation is read first
abbrev pub conditional_at : ℕ → Context → List Terminal → Outcome Expr
conditional_at m before row = continued (read_cast (level m) before row) expr_of (conditional_from (level m))

operation_at : ℕ → Context → List Terminal → Outcome Expr
operation_at m before row = continued (read_cast (level m) before row) expr_of (operations_from (level m) 0)

operation_first : (m : ℕ) (before : Context) (row : List Terminal) → conditional_at m before row ≡ continued (operation_at m before row) itself (read_choice (level m))
unfolding operation_at
operation_first m before row = continued_twice (read_cast (level m) before row) expr_of (operations_from (level m) 0) itself (read_choice (level m))

abbrev Operated : ℕ → Expr → Context → List Terminal → Outcome Expr → Type 0
Operated m e after rest outcome =
    ((count : ℕ) × (length rest < count) × (outcome ≡ read_operations (level m) 0 count e (expr_levels e) after rest))
    ⊎ (IsTrue (has_first (goes_on_operation 0) rest) × Reaches outcome rest)

-- what goes on with an operation: an operator, or a `?`
abbrev Choices : ℕ → Expr → Context → List Terminal → Outcome Expr → Type 0
Choices m e after rest outcome =
    (outcome ≡ read_choice (level m) e (expr_levels e) after rest) ⊎ (IsTrue (has_first goes_on_conditional rest) × Reaches outcome rest)

choices : (m : ℕ) (before after : Context) (row rest : List Terminal) (e : Expr) → IsWithinLevel (level m) → Operated m e after rest (operation_at m before row) → Choices m e after rest (conditional_at m before row)
choices m before after row rest e within read = step read
  where
    outcome : Outcome Expr
    outcome = operation_at m before row

    ends : (count : ℕ) → outcome ≡ read_operations (level m) 0 count e (expr_levels e) after rest
        → (read_operations (level m) 0 count e (expr_levels e) after rest ≡ Read e (expr_levels e) after rest) ⊎ IsTrue (has_first (goes_on_from 0) rest)
        → Choices m e after rest (conditional_at m before row)
    ends count is (inl stop) = inl (operation_first m before row ∙ ap (λ o. continued o itself (read_choice (level m))) (is ∙ stop))
    ends count is (inr more) =
        inr (
          first_more (goes_on_from 0) goes_on_conditional rest (taken_goes_on 0) more,
          subst (λ o. Reaches o rest) (sym (operation_first m before row))
              (continued_reaches outcome itself (read_choice (level m)) rest
              (subst (λ o. Reaches o rest) (sym is) (operations_reach (level m) within 0 count e (expr_levels e) after rest))
              (choice_reaches (level m) within)),
        )

    step : Operated m e after rest outcome → Choices m e after rest (conditional_at m before row)
    step (inl (count, less, is)) = ends count is (operations_stop (level m) 0 count e (expr_levels e) after rest)
    step (inr (goes, far)) =
        inr (
          first_more (goes_on_operation 0) goes_on_conditional rest (operation_goes_on_conditional 0) goes,
          subst (λ o. Reaches o rest) (sym (operation_first m before row))
              (continued_reaches outcome itself (read_choice (level m)) rest far (choice_reaches (level m) within)),
        )

operation_choices : (e : Expr) (before after : Context) (front : List Terminal) → Completes (Operation 0 e) before front after → ((n : ℕ) → IsWithinLevel (level n))
    → (m : ℕ) (rest : List Terminal) → expr_levels e ≤ m + 1 → Choices m e after rest (conditional_at m before (front ++ rest))
unfolding operation_at
operation_choices e before after front whole within m rest fits = choices m before after (front ++ rest) rest e (within m) (whole m 0 rest (omega arith) fits)

pub complete_one_operation : (before after : Context) (row : List Terminal) (expr : Expr) → Completes (Operation 0 expr) before row after → ((n : ℕ) → IsWithinLevel (level n))
    → Completes (Conditional expr) before row after
complete_one_operation before after row expr whole within zero rest fits = absurd (some_level expr fits)
complete_one_operation before after row expr whole within (suc m) rest fits = step (operation_choices expr before after row whole within m rest (omega (arith, fits)))
  where
    ends : conditional_at m before (row ++ rest) ≡ read_choice (level m) expr (expr_levels expr) after rest
        → (read_choice (level m) expr (expr_levels expr) after rest ≡ Read expr (expr_levels expr) after rest) ⊎ IsTrue (has_first (is_mark (codes "?")) rest)
        → Goes goes_on_conditional expr (expr_levels expr) after rest (conditional_at m before (row ++ rest))
    ends is (inl stop) = inl (is ∙ stop)
    ends is (inr more) =
        inr (
          first_more (is_mark (codes "?")) goes_on_conditional rest question_goes_on more,
          subst (λ o. Reaches o rest) (sym is) (choice_reaches (level m) (within m) expr (expr_levels expr) after rest),
        )

    step : Choices m expr after rest (conditional_at m before (row ++ rest)) → Goes goes_on_conditional expr (expr_levels expr) after rest (conditional_at m before (row ++ rest))
    step (inl is) = ends is (choice_stops (level m) expr (expr_levels expr) after rest)
    step (inr far) = inr far

question_ends : (token : Terminal) → is_mark (codes "?") token ≡ true → goes_on_operation 0 token ≡ false
question_ends token is =
    ap (λ (b : Bool). b || is_tighter 0 (mark_row binary_rows token)) (question_no_operand token is)
    ∙ ap (is_tighter 0) (question_no_binary token is)

no_taken : (token : Terminal) → is_mark (codes "?") token ≡ true → goes_on_from 0 token ≡ false
no_taken token is = ap (is_no_looser 0) (question_no_binary token is)

-- behind an operation a `?` is read
question_read : (m : ℕ) (before after : Context) (row rest : List Terminal) (mark : Terminal) (e : Expr) → is_mark (codes "?") mark ≡ true → Operated m e after (mark ∷ rest) (operation_at m before row)
    → conditional_at m before row ≡ read_choice (level m) e (expr_levels e) after (mark ∷ rest)
question_read m before after row rest mark e is read = step read
  where
    ends : (count : ℕ) → operation_at m before row ≡ read_operations (level m) 0 count e (expr_levels e) after (mark ∷ rest)
        → (read_operations (level m) 0 count e (expr_levels e) after (mark ∷ rest) ≡ Read e (expr_levels e) after (mark ∷ rest)) ⊎ IsTrue (has_first (goes_on_from 0) (mark ∷ rest))
        → conditional_at m before row ≡ read_choice (level m) e (expr_levels e) after (mark ∷ rest)
    ends count was (inl stop) = operation_first m before row ∙ ap (λ o. continued o itself (read_choice (level m))) (was ∙ stop)
    ends count was (inr more) = absurd (clash (goes_on_from 0 mark) more (no_taken mark is))

    step : Operated m e after (mark ∷ rest) (operation_at m before row) → conditional_at m before row ≡ read_choice (level m) e (expr_levels e) after (mark ∷ rest)
    step (inl (count, less, was)) = ends count was (operations_stop (level m) 0 count e (expr_levels e) after (mark ∷ rest))
    step (inr (goes, far)) = absurd (clash (goes_on_operation 0 mark) goes (question_ends mark is))

operation_question : (e : Expr) (before after : Context) (front : List Terminal) → Completes (Operation 0 e) before front after
    → (m : ℕ) (mark : Terminal) (rest : List Terminal) → is_mark (codes "?") mark ≡ true → expr_levels e ≤ m + 1
    → conditional_at m before (front ++ (mark ∷ rest)) ≡ read_choice (level m) e (expr_levels e) after (mark ∷ rest)
unfolding operation_at
operation_question e before after front whole m mark rest is fits = question_read m before after (front ++ (mark ∷ rest)) rest mark e is (whole m 0 (mark ∷ rest) (omega arith) fits)

-- rows of three parts
three_parts : (xs ys zs rest : List Terminal) (mark colon : Terminal) → (xs ++ (mark ∷ (ys ++ (colon ∷ zs)))) ++ rest ≡ xs ++ (mark ∷ (ys ++ (colon ∷ (zs ++ rest))))
three_parts xs ys zs rest mark colon =
    append_assoc xs (mark ∷ (ys ++ (colon ∷ zs))) rest ∙ ap (λ (row : List Terminal). xs ++ (mark ∷ row)) (append_assoc ys (colon ∷ zs) rest)

pub complete_conditional_operator : (before first second after : Context) (xs ys zs : List Terminal) (test one other : Expr) (mark colon : Terminal)
    → IsMark (codes "?") mark → IsMark (codes ":") colon
    → Completes (Operation 0 test) before xs first → Completes (Expression one) first ys second → Completes (Conditional other) second zs after → ((n : ℕ) → IsWithinLevel (level n))
    → Completes (Conditional (numbered after mark.place (Choose test one other))) before (xs ++ (mark ∷ (ys ++ (colon ∷ zs)))) (counted after)
complete_conditional_operator before first second after xs ys zs test one other mark colon is ends tests ones others within zero rest fits = absurd (some_level (numbered after mark.place (Choose test one other)) fits)
complete_conditional_operator before first second after xs ys zs test one other mark colon is ends tests ones others within (suc m) rest fits =
    subst (λ row. Goes goes_on_conditional whole (expr_levels whole) (counted after) rest (conditional_at m before row)) (sym (three_parts xs ys zs rest mark colon))
    (step (with_right_step goes_on_conditional other (expr_levels other) after rest ((level m).conditional second (zs ++ rest)) (stopped test first mark behind_mark)
    (λ e number. expression_of number mark.place (Choose test one e)) go (λ e twos behind more. reaches e twos behind more) (others m rest (omega (arith, fits, levels)))))
  where
    whole : Expr
    whole = numbered after mark.place (Choose test one other)

    levels : expr_levels whole ≡ 1 + max (expr_levels test) (max (expr_levels one) (expr_levels other))
    levels = levels_choose after.expressions mark.place test one other

    behind_mark : List Terminal
    behind_mark = ys ++ (colon ∷ (zs ++ rest))

    go : Expr → ℕ → Context → List Terminal → Outcome Expr
    go e twos behind more = Read (numbered behind mark.place (Choose test one e)) (1 + max (expr_levels test) (max (expr_levels one) twos)) (counted behind) more

    reaches : (e : Expr) (twos : ℕ) (behind : Context) (more : List Terminal) → Reaches (go e twos behind more) more
    reaches e twos behind more = omega arith

    right : Outcome Expr
    right = chosen (level m) test (expr_levels test) first mark behind_mark one (expr_levels one) second (zs ++ rest)

    turned : conditional_at m before (xs ++ (mark ∷ behind_mark)) ≡ right
    turned =
        operation_question test before first xs tests m mark behind_mark is (omega (arith, fits, levels))
        ∙ choice_step (level m) test (expr_levels test) first mark behind_mark is (levels_fit (expr_levels test) m (omega (arith, fits, levels))) one (expr_levels one) second colon (zs ++ rest) ends
        (goes_exactly goes_on_expression one (expr_levels one) second colon (zs ++ rest) ((level m).expression first behind_mark) (colon_no_expression colon ends) (ones m (colon ∷ (zs ++ rest)) (omega (arith, fits, levels))))

    step : (right ≡ go other (expr_levels other) after rest) ⊎ (IsTrue (has_first goes_on_conditional rest) × Reaches right rest)
        → Goes goes_on_conditional whole (expr_levels whole) (counted after) rest (conditional_at m before (xs ++ (mark ∷ behind_mark)))
    step (inl exact) = inl (turned ∙ exact ∙ ap (λ (n : ℕ). Read whole n (counted after) rest) (sym levels))
    step (inr (goes, far)) = inr (goes, subst (λ o. Reaches o rest) (sym turned) far)
