-- The reader is complete on assignments (C11 6.5.16).
use Rattle.std.proofs.Common.{◌≡◌, ℕ, zero, suc, Bool, true, false, ◌||◌, ◌+◌, ◌≤◌, ◌⊎◌, inl, inr, max, nat_le, List, [], ◌∷◌, ◌++◌, codes, length, Some, None, IsTrue, refl, ap, sym, subst, ◌∙◌, arith}
use Rattle.std.specs.Prelude.{Option}
use Rattle.std.proofs.lemmas.List.{append_assoc}
use Rattle.cbase.specs.declared.tree.expr.Expr.{Expr}
use Rattle.cbase.specs.declared.tree.expr.ExprForm.TheVariants.{Assign}
use Rattle.cbase.specs.declared.tree.operators.BinaryOp.{BinaryOp}
use Rattle.ctrees.specs.Levels.{expr_levels}
use Rattle.ctokens.proofs.Choices.{chosen_yes}
use Rattle.cgrammar.proofs.CompleteConditionals.{choice_stops, taken_goes_on, question_goes_on}
use Rattle.cgrammar.proofs.CompleteOperations.{operations_stop}
use Rattle.cgrammar.proofs.CompleteReaches.{reaches_more, assignment_reaches}
use Rattle.cgrammar.proofs.CompleteSteps.{first_more, levels_fit, some_level, with_right_step, goes_exactly}
use Rattle.cgrammar.proofs.CompleteTokens.{assignment_no_conditional}
use Rattle.cgrammar.proofs.Reached.{Reaches, Goes, IsWithinLevel, Completes, goes_on_operand, goes_on_conditional, goes_on_assignment, is_some_binary, is_some_assignment, goes_on_from}
use Rattle.cgrammar.proofs.TreeLevels.{levels_assign}
use Rattle.cgrammar.proofs.Truth.{or-left, or-right, or-false-left, clash}
use Rattle.cgrammar.specs.Operators.{mark_row, binary_rows, assignment_rows, IsAssignment}
use Rattle.cgrammar.specs.Outcomes.{Outcome, Nothing, Stopped, Read, with_right, continued, has_first}
use Rattle.cgrammar.specs.Phrases.{Context, counted, numbered, Conditional, Assignment, UnaryExpression}
use Rattle.cgrammar.specs.ReadLevels.{Level}
use Rattle.cgrammar.specs.ReadOperands.{read_cast, unary_operand}
use Rattle.cgrammar.specs.ReadOperators.{expression_of, expr_of, itself, stopped, read_operations, read_choice, conditional_from, assignment_with, assignment_from}
use Rattle.cgrammar.specs.Reader.{level}
use Rattle.cgrammar.specs.Terminals.{Terminal, is_mark}
use Rattle.cgrammar.specs.declared.reading.operand.Operand.{Operand}

abbrev pub is_assigning : Terminal → Bool
is_assigning token = is_some_assignment (mark_row assignment_rows token)

abbrev pub assignment_at : ℕ → Context → List Terminal → Outcome Expr
assignment_at m before row = continued (read_cast (level m) before row) expr_of (assignment_from (level m))

-- nothing goes on with the operand as the operand of a conditional expression
conditional_ends : (inner : Level) (operand : Operand) (levels : ℕ) (context : Context) (mark : Terminal) (row : List Terminal) → goes_on_conditional mark ≡ false
    → conditional_from inner operand levels context (mark ∷ row) ≡ Read operand.expr levels context (mark ∷ row)
conditional_ends inner operand levels context mark row ends =
    step (operations_stop inner 0 (length (mark ∷ row) + 1) operand.expr levels context (mark ∷ row)) (choice_stops inner operand.expr levels context (mark ∷ row))
  where
    step : (read_operations inner 0 (length (mark ∷ row) + 1) operand.expr levels context (mark ∷ row) ≡ Read operand.expr levels context (mark ∷ row)) ⊎ IsTrue (has_first (goes_on_from 0) (mark ∷ row))
        → (read_choice inner operand.expr levels context (mark ∷ row) ≡ Read operand.expr levels context (mark ∷ row)) ⊎ IsTrue (has_first (is_mark (codes "?")) (mark ∷ row))
        → conditional_from inner operand levels context (mark ∷ row) ≡ Read operand.expr levels context (mark ∷ row)
    step (inl one) (inl other) = ap (λ o. continued o itself (read_choice inner)) one ∙ other
    step (inr one) other = absurd (clash (goes_on_conditional mark) (taken_goes_on 0 mark one) ends)
    step (inl one) (inr other) = absurd (clash (goes_on_conditional mark) (question_goes_on mark other) ends)

-- an assignment operator stands behind the operand, or it is read as the operand of a conditional expression
Alternatives : Level → Operand → ℕ → Context → List Terminal → Type 0
Alternatives inner operand levels context row =
    (assignment_from inner operand levels context row ≡ conditional_from inner operand levels context row)
    ⊎ (IsTrue (has_first is_assigning row) × (conditional_from inner operand levels context row ≡ Read operand.expr levels context row))

alternatives : (inner : Level) (operand : Operand) (levels : ℕ) (context : Context) (row : List Terminal) → Alternatives inner operand levels context row
unfolding Alternatives assignment_from
alternatives inner operand levels context [] = inl refl
alternatives inner operand levels context (mark ∷ row) = step (mark_row assignment_rows mark) refl
  where
    step : (op : Option (Option BinaryOp)) → mark_row assignment_rows mark ≡ op
        → (assignment_with inner operand levels context mark row op ≡ conditional_from inner operand levels context (mark ∷ row))
        ⊎ (IsTrue (is_some_assignment op) × (conditional_from inner operand levels context (mark ∷ row) ≡ Read operand.expr levels context (mark ∷ row)))
    step None is = inl refl
    step (Some op) is = inr (refl, conditional_ends inner operand levels context mark row (assignment_no_conditional op mark is))

left_over : {A : Type 0} → Outcome A → List Terminal
left_over Nothing = []
left_over (Stopped tree expressions rest) = rest
left_over (Read tree levels behind rest) = rest

same_rest : {A : Type 0} (one other : A) (n m : ℕ) (before after : Context) (xs ys : List Terminal) → Read one n before xs ≡ Read other m after ys → xs ≡ ys
unfolding left_over
same_rest one other n m before after xs ys is = ap left_over is

conditional_goes_on : (token : Terminal) → goes_on_conditional token ≡ true → goes_on_assignment token ≡ true
conditional_goes_on token is = or-left (is_assigning token) is

assigning_goes_on : (token : Terminal) → is_assigning token ≡ true → goes_on_assignment token ≡ true
assigning_goes_on token is = or-right (goes_on_conditional token) is

goes_further : (e : Expr) (levels : ℕ) (after : Context) (rest : List Terminal) (outcome : Outcome Expr) → Goes goes_on_conditional e levels after rest outcome → Goes goes_on_assignment e levels after rest outcome
goes_further e levels after rest outcome (inl is) = inl is
goes_further e levels after rest outcome (inr (goes, far)) = inr (first_more goes_on_conditional goes_on_assignment rest conditional_goes_on goes, far)

assigned : (inner : Level) (within : IsWithinLevel inner) (operand : Operand) (n : ℕ) (context : Context) (row : List Terminal) (e : Expr) (levels : ℕ) (after : Context) (rest : List Terminal)
    → Goes goes_on_conditional e levels after rest (conditional_from inner operand n context row) → Alternatives inner operand n context row
    → Goes goes_on_assignment e levels after rest (assignment_from inner operand n context row)
unfolding Alternatives
assigned inner within operand n context row e levels after rest goes (inl same) =
    subst (λ o. Goes goes_on_assignment e levels after rest o) (sym same) (goes_further e levels after rest (conditional_from inner operand n context row) goes)
assigned inner within operand n context row e levels after rest (inl is) (inr (assigning, ends)) =
    let same : row ≡ rest = same_rest operand.expr e n levels context after row rest (sym ends ∙ is) in
    inr (
      subst (λ r. IsTrue (has_first goes_on_assignment r)) same (first_more is_assigning goes_on_assignment row assigning_goes_on assigning),
      subst (λ r. Reaches (assignment_from inner operand n context row) r) same (assignment_reaches inner within operand n context row),
    )
assigned inner within operand n context row e levels after rest (inr (goes, far)) (inr (assigning, ends)) =
    let further : length row ≤ length rest = subst (λ o. Reaches o rest) ends far in
    inr (
      first_more goes_on_conditional goes_on_assignment rest conditional_goes_on goes,
      reaches_more (assignment_from inner operand n context row) row rest further (assignment_reaches inner within operand n context row),
    )

conditional_assigned : (inner : Level) (within : IsWithinLevel inner) (outcome : Outcome Operand) (e : Expr) (levels : ℕ) (after : Context) (rest : List Terminal)
    → Goes goes_on_conditional e levels after rest (continued outcome expr_of (conditional_from inner))
    → Goes goes_on_assignment e levels after rest (continued outcome expr_of (assignment_from inner))
conditional_assigned inner within Nothing e levels after rest (inl is) = absurd (cc is)
conditional_assigned inner within Nothing e levels after rest (inr (goes, far)) = absurd far
conditional_assigned inner within (Stopped operand n row) e levels after rest (inl is) = absurd (cc is)
conditional_assigned inner within (Stopped operand n row) e levels after rest (inr (goes, far)) = inr (first_more goes_on_conditional goes_on_assignment rest conditional_goes_on goes, far)
conditional_assigned inner within (Read operand n context row) e levels after rest goes = assigned inner within operand n context row e levels after rest goes (alternatives inner operand n context row)

pub complete_one_conditional : (before after : Context) (row : List Terminal) (expr : Expr) → Completes (Conditional expr) before row after → ((n : ℕ) → IsWithinLevel (level n))
    → Completes (Assignment expr) before row after
complete_one_conditional before after row expr whole within zero rest fits = absurd (some_level expr fits)
complete_one_conditional before after row expr whole within (suc m) rest fits =
    conditional_assigned (level m) (within m) (read_cast (level m) before (row ++ rest)) expr (expr_levels expr) after rest (whole (suc m) rest fits)

assignment_turn : (inner : Level) (left : Expr) (levels : ℕ) (context : Context) (mark : Terminal) (row : List Terminal) (op : Option BinaryOp) → IsAssignment op mark → nat_le levels inner.most ≡ true
    → assignment_from inner (unary_operand left) levels context (mark ∷ row)
    ≡ with_right (inner.assignment context row) (stopped left context mark row)
    (λ right number. expression_of number mark.place (Assign op left right))
    (λ right others behind rest. Read (numbered behind mark.place (Assign op left right)) (1 + max levels others) (counted behind) rest)
unfolding assignment_from
assignment_turn inner left levels context mark row op is fits =
    ap (λ (o : Option (Option BinaryOp)). assignment_with inner (unary_operand left) levels context mark row o) is
    ∙ chosen_yes (nat_le levels inner.most) _ (stopped left context mark row) fits

pub complete_assignment_operator : (before middle after : Context) (xs ys : List Terminal) (left right : Expr) (op : Option BinaryOp) (mark : Terminal)
    → IsAssignment op mark
    → Completes (UnaryExpression left) before xs middle → Completes (Assignment right) middle ys after → ((n : ℕ) → IsWithinLevel (level n))
    → Completes (Assignment (numbered after mark.place (Assign op left right))) before (xs ++ (mark ∷ ys)) (counted after)
complete_assignment_operator before middle after xs ys left right op mark is one other within zero rest fits = absurd (some_level (numbered after mark.place (Assign op left right)) fits)
complete_assignment_operator before middle after xs ys left right op mark is one other within (suc m) rest fits =
    subst (λ row. Goes goes_on_assignment whole (expr_levels whole) (counted after) rest (assignment_at m before row)) (sym (append_assoc xs (mark ∷ ys) rest))
    (step (with_right_step goes_on_assignment right (expr_levels right) after rest ((level m).assignment middle (ys ++ rest)) (stopped left middle mark (ys ++ rest))
    (λ e number. expression_of number mark.place (Assign op left e)) go reaches (other m rest (omega (arith, fits, levels)))))
  where
    whole : Expr
    whole = numbered after mark.place (Assign op left right)

    levels : expr_levels whole ≡ 1 + max (expr_levels left) (expr_levels right)
    levels = levels_assign after.expressions mark.place op left right

    go : Expr → ℕ → Context → List Terminal → Outcome Expr
    go e others behind more = Read (numbered behind mark.place (Assign op left e)) (1 + max (expr_levels left) others) (counted behind) more

    reaches : (e : Expr) (others : ℕ) (behind : Context) (more : List Terminal) → Reaches (go e others behind more) more
    reaches e others behind more = omega arith

    taken : Outcome Expr
    taken = with_right ((level m).assignment middle (ys ++ rest)) (stopped left middle mark (ys ++ rest)) (λ e number. expression_of number mark.place (Assign op left e)) go

    turned : assignment_at m before (xs ++ (mark ∷ (ys ++ rest))) ≡ taken
    turned =
        ap (λ o. continued o expr_of (assignment_from (level m)))
        (goes_exactly goes_on_operand (unary_operand left) (expr_levels left) middle mark (ys ++ rest) (read_cast (level m) before (xs ++ (mark ∷ (ys ++ rest))))
        (or-false-left (goes_on_operand mark) (is_some_binary (mark_row binary_rows mark) || is_mark (codes "?") mark) (assignment_no_conditional op mark is))
        (one (suc m) (mark ∷ (ys ++ rest)) (omega (arith, fits, levels))))
        ∙ assignment_turn (level m) left (expr_levels left) middle mark (ys ++ rest) op is (levels_fit (expr_levels left) m (omega (arith, fits, levels)))

    step : (taken ≡ go right (expr_levels right) after rest) ⊎ (IsTrue (has_first goes_on_assignment rest) × Reaches taken rest)
        → Goes goes_on_assignment whole (expr_levels whole) (counted after) rest (assignment_at m before (xs ++ (mark ∷ (ys ++ rest))))
    step (inl exact) = inl (turned ∙ exact ∙ ap (λ (n : ℕ). Read whole n (counted after) rest) (sym levels))
    step (inr (goes, far)) = inr (goes, subst (λ o. Reaches o rest) (sym turned) far)
