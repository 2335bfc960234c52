-- The reader is complete on casts and on prefix operators (C11 6.5.3, 6.5.4).
use Rattle.std.proofs.Common.{◌≡◌, ℕ, zero, suc, Bool, true, false, ◌&&◌, not, ◌+◌, ◌⊎◌, inl, inr, max, List, [], ◌∷◌, ◌++◌, codes, IsTrue, refl, ap, sym, subst, ◌∙◌, arith}
use Rattle.std.specs.List.{list_any}
use Rattle.std.specs.Str.{bytes_eq}
use Rattle.std.proofs.lemmas.List.{append_assoc}
use Rattle.cbase.specs.declared.place.Place.{Place}
use Rattle.cbase.specs.declared.tree.decl.TypeName.{TypeName}
use Rattle.cbase.specs.declared.tree.expr.Expr.{Expr}
use Rattle.cbase.specs.declared.tree.expr.ExprForm.{ExprForm}
use Rattle.cbase.specs.declared.tree.expr.ExprForm.TheVariants.{Unary, Count, Cast, SizeOf, SizeOfType}
use Rattle.cbase.specs.declared.tree.operators.UnaryOp.{UnaryOp}
use Rattle.ctrees.specs.Levels.{expr_levels, type_name_levels}
use Rattle.ctokens.proofs.Choices.{chosen_yes, chosen_no}
use Rattle.cgrammar.proofs.CompleteNoCasts.{no_cast}
use Rattle.cgrammar.proofs.CompleteOperandStarts.{unary_starts, counting_starts, size_of_starts, bracket_starts, unary_no_bracket, count_no_bracket, opens_not, opens_no_type, read_as_plain}
use Rattle.cgrammar.proofs.CompleteReaches.{right_goes}
use Rattle.cgrammar.proofs.CompleteSteps.{some_level}
use Rattle.cgrammar.proofs.CompleteTokens.{mark_test}
use Rattle.cgrammar.proofs.CompleteUnaryOutcomes.{no_type_in_brackets, cast_alone}
use Rattle.cgrammar.proofs.Firsts.{first_tokens}
use Rattle.cgrammar.proofs.Reached.{Reaches, Goes, Completes, goes_on_operand, goes_on_type_name}
use Rattle.cgrammar.proofs.TokenKinds.{word_is_no_mark, word_kind_no_mark}
use Rattle.cgrammar.proofs.TreeLevels.{levels_unary, levels_count, levels_cast, levels_size_of, levels_size_of_type}
use Rattle.cgrammar.proofs.Truth.{and-left, or-cases}
use Rattle.cgrammar.specs.Firsts.{Begins, is_among, begins_type, type_words}
use Rattle.cgrammar.specs.Grammar.{Spells}
use Rattle.cgrammar.specs.Operators.{IsUnary, IsCount}
use Rattle.cgrammar.specs.Outcomes.{Outcome, Nothing, Read, then_read, with_right, after_mark, has_first, has_mark}
use Rattle.cgrammar.specs.Phrases.{Context, counted, numbered, CastExpression, UnaryExpression, NameOfType}
use Rattle.cgrammar.specs.ReadLevels.{Level}
use Rattle.cgrammar.specs.ReadOperands.{unary_operand, cast_operand, prefixed, unary_alone, read_cast, read_bracket, read_cast_to, statement_expression, read_size_of, begins_type_in_brackets, opens}
use Rattle.cgrammar.specs.ReadOperators.{expression_of}
use Rattle.cgrammar.specs.ReadTypes.{read_type_name}
use Rattle.cgrammar.specs.Reader.{level}
use Rattle.cgrammar.specs.Scope.{Names, is_typedef_name}
use Rattle.cgrammar.specs.Terminals.{Terminal, is_word_kind, is_mark, IsMark, IsWord, is_name, is_typedef}
use Rattle.cgrammar.specs.declared.reading.operand.Operand.{Operand}
use Rattle.cgrammar.specs.declared.reading.starts.OperandStart.TheVariants as operand

-- an operand is read, or more of it
abbrev Operands : Expr → Context → List Terminal → Outcome Operand → Type 0
Operands e after rest outcome =
    ((unary : Bool) × (outcome ≡ Read (record { expr = e; unary = unary }) (expr_levels e) after rest)) ⊎ (IsTrue (has_first goes_on_operand rest) × Reaches outcome rest)

abbrev Unaries : Expr → Context → List Terminal → Outcome Operand → Type 0
Unaries e after rest outcome = Goes goes_on_operand (unary_operand e) (expr_levels e) after rest outcome

operands_of : (e : Expr) (after : Context) (rest : List Terminal) (outcome : Outcome Operand) → Unaries e after rest outcome → Operands e after rest outcome
operands_of e after rest outcome (inl is) = inl (true, is)
operands_of e after rest outcome (inr far) = inr far

pub complete_one_unary : (before after : Context) (row : List Terminal) (expr : Expr) → Completes (UnaryExpression expr) before row after → Completes (CastExpression expr) before row after
complete_one_unary before after row expr whole n rest fits = operands_of expr after rest ((level n).cast before (row ++ rest)) (whole n rest fits)

-- one mark or word before an operand
prefix_goes : (outcome : Outcome Operand) (place : Place) (wrapped : Expr → ExprForm) (e : Expr) (after : Context) (rest : List Terminal)
    → expr_levels (numbered after place (wrapped e)) ≡ 1 + expr_levels e → Operands e after rest outcome
    → Unaries (numbered after place (wrapped e)) (counted after) rest (prefixed outcome place wrapped)
prefix_goes outcome place wrapped e after rest levels (inl (unary, is)) =
    inl (ap (λ o. prefixed o place wrapped) is ∙ ap (λ (n : ℕ). Read (unary_operand (numbered after place (wrapped e))) n (counted after) rest) (sym levels))
prefix_goes outcome place wrapped e after rest levels (inr (goes, far)) =
    inr (
      goes,
      right_goes outcome Nothing (λ operand number. unary_operand (expression_of number place (wrapped operand.expr)))
          (λ operand levels behind more. Read (unary_operand (numbered behind place (wrapped operand.expr))) (1 + levels) (counted behind) more) rest far (λ operand levels behind more. omega arith),
    )

pub complete_unary_operator : (before after : Context) (xs : List Terminal) (expr : Expr) (op : UnaryOp) (mark : Terminal) → IsUnary op mark
    → Completes (CastExpression expr) before xs after → Completes (UnaryExpression (numbered after mark.place (Unary op expr))) before (mark ∷ xs) (counted after)
complete_unary_operator before after xs expr op mark is whole zero rest fits = absurd (some_level (numbered after mark.place (Unary op expr)) fits)
complete_unary_operator before after xs expr op mark is whole (suc m) rest fits =
    let levels : expr_levels (numbered after mark.place (Unary op expr)) ≡ 1 + expr_levels expr = levels_unary after.expressions mark.place op expr in
    subst (λ o. Unaries (numbered after mark.place (Unary op expr)) (counted after) rest o)
    (sym (read_as_plain (level m) before mark (xs ++ rest) (operand.Unary op) (opens_not before mark (xs ++ rest) (unary_no_bracket op mark is)) (unary_starts op mark is)))
    (prefix_goes ((level m).cast before (xs ++ rest)) mark.place (Unary op) expr after rest levels (whole m rest (omega (arith, fits, levels))))

-- where no cast may stand
unary_goes : (m : ℕ) (before after : Context) (xs rest : List Terminal) (expr : Expr) → Spells (UnaryExpression expr) before xs after
    → Unaries expr after rest ((level m).cast before (xs ++ rest)) → Operands expr after rest (unary_alone ((level m).cast before (xs ++ rest)))
unary_goes m before after xs rest expr spelled goes =
    subst (λ o. Operands expr after rest o) (sym (cast_alone m before (xs ++ rest) (no_cast spelled rest))) (operands_of expr after rest ((level m).cast before (xs ++ rest)) goes)

pub complete_count_before : (before after : Context) (xs : List Terminal) (expr : Expr) (up : Bool) (mark : Terminal) → IsCount up mark
    → Spells (UnaryExpression expr) before xs after → Completes (UnaryExpression expr) before xs after
    → Completes (UnaryExpression (numbered after mark.place (Count up false expr))) before (mark ∷ xs) (counted after)
complete_count_before before after xs expr up mark is spelled whole zero rest fits = absurd (some_level (numbered after mark.place (Count up false expr)) fits)
complete_count_before before after xs expr up mark is spelled whole (suc m) rest fits =
    let levels : expr_levels (numbered after mark.place (Count up false expr)) ≡ 1 + expr_levels expr = levels_count after.expressions mark.place up false expr in
    subst (λ o. Unaries (numbered after mark.place (Count up false expr)) (counted after) rest o)
    (sym (read_as_plain (level m) before mark (xs ++ rest) (operand.Count up) (opens_not before mark (xs ++ rest) (count_no_bracket up mark is)) (counting_starts up mark is)))
    (prefix_goes (unary_alone ((level m).cast before (xs ++ rest))) mark.place (Count up false) expr after rest levels (unary_goes m before after xs rest expr spelled (whole m rest (omega (arith, fits, levels)))))

-- `sizeof`
size_of_read : (inner : Level) (context : Context) (word : Terminal) (row : List Terminal) → begins_type_in_brackets context.scope row ≡ false
    → read_size_of inner context word row ≡ prefixed (unary_alone (inner.cast context row)) word.place SizeOf
unfolding read_size_of
size_of_read inner context word row is = chosen_no (begins_type_in_brackets context.scope row) _ (prefixed (unary_alone (inner.cast context row)) word.place SizeOf) is

pub complete_size_of_expression : (before after : Context) (xs : List Terminal) (expr : Expr) (word : Terminal) → IsWord (codes "sizeof") word
    → Spells (UnaryExpression expr) before xs after → Completes (UnaryExpression expr) before xs after
    → Completes (UnaryExpression (numbered after word.place (SizeOf expr))) before (word ∷ xs) (counted after)
complete_size_of_expression before after xs expr word is spelled whole zero rest fits = absurd (some_level (numbered after word.place (SizeOf expr)) fits)
complete_size_of_expression before after xs expr word is spelled whole (suc m) rest fits =
    let levels : expr_levels (numbered after word.place (SizeOf expr)) ≡ 1 + expr_levels expr = levels_size_of after.expressions word.place expr in
    subst (λ o. Unaries (numbered after word.place (SizeOf expr)) (counted after) rest o)
    (sym (read_as_plain (level m) before word (xs ++ rest) operand.SizeOf (opens_not before word (xs ++ rest) (word_is_no_mark (codes "sizeof") (codes "(") word is)) (size_of_starts word is)
    ∙ size_of_read (level m) before word (xs ++ rest) (no_type_in_brackets before (xs ++ rest) (no_cast spelled rest))))
    (prefix_goes (unary_alone ((level m).cast before (xs ++ rest))) word.place SizeOf expr after rest levels (unary_goes m before after xs rest expr spelled (whole m rest (omega (arith, fits, levels)))))

-- a type in brackets
closing_no_type_name : (token : Terminal) → IsMark (codes ")") token → goes_on_type_name token ≡ false
closing_no_type_name token is = mark_test goes_on_type_name false (codes ")") token is (λ place. refl)

type_first : (scopes : List Names) (xs more : List Terminal) → Begins (begins_type scopes) xs → has_first (begins_type scopes) (xs ++ more) ≡ true
type_first scopes [] more begins = absurd begins
type_first scopes (first ∷ xs) more begins = begins

type_read : (inner : Level) (context : Context) (word opening : Terminal) (row : List Terminal) (to : TypeName) (levels : ℕ) (behind : Context) (closing : Terminal) (rest : List Terminal)
    → is_mark (codes "(") opening ≡ true → has_first (begins_type context.scope) row ≡ true → read_type_name inner context row ≡ Read to levels behind (closing ∷ rest) → is_mark (codes ")") closing ≡ true
    → read_size_of inner context word (opening ∷ row) ≡ Read (unary_operand (numbered behind word.place (SizeOfType to))) (1 + levels) (counted behind) rest
unfolding read_size_of
type_read inner context word opening row to levels behind closing rest is begins read ends =
    chosen_yes (begins_type_in_brackets context.scope (opening ∷ row)) _ (prefixed (unary_alone (inner.cast context (opening ∷ row))) word.place SizeOf) (ap (λ (b : Bool). b && has_first (begins_type context.scope) row) is ∙ begins)
    ∙ ap (λ o. then_read o (λ to levels behind rest.
    after_mark (codes ")") rest Nothing (λ closing others.
    Read (unary_operand (numbered behind word.place (SizeOfType to))) (1 + levels) (counted behind) others))) read
    ∙ chosen_yes (is_mark (codes ")") closing) (Read (unary_operand (numbered behind word.place (SizeOfType to))) (1 + levels) (counted behind) rest) Nothing ends

pub complete_size_of_type_name : (before after : Context) (xs : List Terminal) (to : TypeName) (word opening closing : Terminal)
    → IsWord (codes "sizeof") word → IsMark (codes "(") opening → IsMark (codes ")") closing
    → Spells (NameOfType to) before xs after → Completes (NameOfType to) before xs after
    → Completes (UnaryExpression (numbered after word.place (SizeOfType to))) before (word ∷ (opening ∷ (xs ++ (closing ∷ [])))) (counted after)
complete_size_of_type_name before after xs to word opening closing is opens ends spelled whole zero rest fits = absurd (some_level (numbered after word.place (SizeOfType to)) fits)
complete_size_of_type_name before after xs to word opening closing is opens ends spelled whole (suc m) rest fits =
    let levels : expr_levels (numbered after word.place (SizeOfType to)) ≡ 1 + type_name_levels to = levels_size_of_type after.expressions word.place to in
    inl (ap (λ (row : List Terminal). read_cast (level m) before (word ∷ (opening ∷ row))) (append_assoc xs (closing ∷ []) rest)
    ∙ read_as_plain (level m) before word (opening ∷ (xs ++ (closing ∷ rest))) operand.SizeOf (opens_not before word (opening ∷ (xs ++ (closing ∷ rest))) (word_is_no_mark (codes "sizeof") (codes "(") word is)) (size_of_starts word is)
    ∙ type_read (level m) before word opening (xs ++ (closing ∷ rest)) to (type_name_levels to) after closing rest opens
    (type_first before.scope xs (closing ∷ rest) (first_tokens (NameOfType to) before after xs spelled))
    (whole m (closing ∷ rest) (omega (arith, fits, levels)) (ap not (closing_no_type_name closing ends))) ends
    ∙ ap (λ (n : ℕ). Read (unary_operand (numbered after word.place (SizeOfType to))) n (counted after) rest) (sym levels))

-- casts
type_is_word : (scopes : List Names) (token : Terminal) → begins_type scopes token ≡ true → is_word_kind token.kind ≡ true
type_is_word scopes token is = step (or-cases (is_among type_words token) (is_typedef scopes token) is)
  where
    step : (is_among type_words token ≡ true) ⊎ (is_typedef scopes token ≡ true) → is_word_kind token.kind ≡ true
    step (inl word) = and-left (is_word_kind token.kind) (list_any (bytes_eq token.bytes) type_words) word
    step (inr name) = and-left (is_word_kind token.kind) _ (and-left (is_name token) (is_typedef_name scopes token.bytes) name)

type_no_brace : (scopes : List Names) (token : Terminal) → begins_type scopes token ≡ true → is_mark (codes "{") token ≡ false
type_no_brace scopes token is = ap (λ (b : Bool). b && bytes_eq token.bytes (codes "{")) (word_kind_no_mark token.kind (type_is_word scopes token is))

cast_opens : (context : Context) (first : Terminal) (xs more : List Terminal) → Begins (begins_type context.scope) xs → opens context.scope first (xs ++ more) ≡ false
cast_opens context first [] more begins = absurd begins
cast_opens context first (next ∷ xs) more begins = opens_no_type context first next (xs ++ more) begins

cast_no_brace : (context : Context) (xs more : List Terminal) → Begins (begins_type context.scope) xs → has_mark (codes "{") (xs ++ more) ≡ false
cast_no_brace context [] more begins = absurd begins
cast_no_brace context (next ∷ xs) more begins = type_no_brace context.scope next begins

-- what is read behind the type
cast_with : Context → Terminal → TypeName → ℕ → Outcome Operand → Outcome Operand
cast_with context opening to levels outcome =
    with_right outcome Nothing
    (λ operand number. cast_operand (expression_of number opening.place (Cast to operand.expr)))
    (λ operand more last end. Read (cast_operand (numbered last opening.place (Cast to operand.expr))) (1 + max levels more) (counted last) end)

cast_read : (inner : Level) (context : Context) (opening : Terminal) (row : List Terminal) (to : TypeName) (levels : ℕ) (behind : Context) (closing : Terminal) (rest : List Terminal)
    → has_mark (codes "{") row ≡ false → read_type_name inner context row ≡ Read to levels behind (closing ∷ rest) → is_mark (codes ")") closing ≡ true
    → read_bracket inner context opening row ≡ cast_with context opening to levels (inner.cast behind rest)
unfolding read_bracket cast_with
cast_read inner context opening row to levels behind closing rest no_brace read ends =
    chosen_no (has_mark (codes "{") row) (statement_expression inner context opening row) (read_cast_to inner context opening row) no_brace
    ∙ ap (λ o. then_read o (λ to levels behind rest.
    after_mark (codes ")") rest Nothing (λ closing others.
    with_right (inner.cast behind others) Nothing
    (λ operand number. cast_operand (expression_of number opening.place (Cast to operand.expr)))
    (λ operand more last end. Read (cast_operand (numbered last opening.place (Cast to operand.expr))) (1 + max levels more) (counted last) end)))) read
    ∙ chosen_yes (is_mark (codes ")") closing) _ Nothing ends

cast_goes : (context : Context) (opening : Terminal) (to : TypeName) (e : Expr) (after : Context) (rest : List Terminal) (outcome : Outcome Operand)
    → expr_levels (numbered after opening.place (Cast to e)) ≡ 1 + max (type_name_levels to) (expr_levels e) → Operands e after rest outcome
    → Operands (numbered after opening.place (Cast to e)) (counted after) rest (cast_with context opening to (type_name_levels to) outcome)
unfolding cast_with
cast_goes context opening to e after rest outcome levels (inl (unary, is)) =
    inl (false, ap (cast_with context opening to (type_name_levels to)) is ∙ ap (λ (n : ℕ). Read (cast_operand (numbered after opening.place (Cast to e))) n (counted after) rest) (sym levels))
cast_goes context opening to e after rest outcome levels (inr (goes, far)) =
    inr (
      goes,
      right_goes outcome Nothing (λ operand number. cast_operand (expression_of number opening.place (Cast to operand.expr)))
          (λ operand more last end. Read (cast_operand (numbered last opening.place (Cast to operand.expr))) (1 + max (type_name_levels to) more) (counted last) end) rest far (λ operand more last end. omega arith),
    )

pub complete_cast_operator : (before middle after : Context) (xs ys : List Terminal) (to : TypeName) (expr : Expr) (opening closing : Terminal)
    → IsMark (codes "(") opening → IsMark (codes ")") closing
    → Spells (NameOfType to) before xs middle → Completes (NameOfType to) before xs middle → Completes (CastExpression expr) middle ys after
    → Completes (CastExpression (numbered after opening.place (Cast to expr))) before (opening ∷ (xs ++ (closing ∷ ys))) (counted after)
complete_cast_operator before middle after xs ys to expr opening closing is ends spelled one other zero rest fits = absurd (some_level (numbered after opening.place (Cast to expr)) fits)
complete_cast_operator before middle after xs ys to expr opening closing is ends spelled one other (suc m) rest fits =
    subst (λ row. Operands whole (counted after) rest (read_cast (level m) before (opening ∷ row))) (sym (append_assoc xs (closing ∷ ys) rest))
    (subst (λ o. Operands whole (counted after) rest o) (sym turned)
    (cast_goes before opening to expr after rest ((level m).cast middle (ys ++ rest)) levels (other m rest (omega (arith, fits, levels)))))
  where
    whole : Expr
    whole = numbered after opening.place (Cast to expr)

    levels : expr_levels whole ≡ 1 + max (type_name_levels to) (expr_levels expr)
    levels = levels_cast after.expressions opening.place to expr

    begins : Begins (begins_type before.scope) xs
    begins = first_tokens (NameOfType to) before middle xs spelled

    turned : read_cast (level m) before (opening ∷ (xs ++ (closing ∷ (ys ++ rest)))) ≡ cast_with before opening to (type_name_levels to) ((level m).cast middle (ys ++ rest))
    turned =
        read_as_plain (level m) before opening (xs ++ (closing ∷ (ys ++ rest))) operand.Bracket (cast_opens before opening xs (closing ∷ (ys ++ rest)) begins) (bracket_starts opening is)
        ∙ cast_read (level m) before opening (xs ++ (closing ∷ (ys ++ rest))) to (type_name_levels to) middle closing (ys ++ rest) (cast_no_brace before xs (closing ∷ (ys ++ rest)) begins)
        (one m (closing ∷ (ys ++ rest)) (omega (arith, fits, levels)) (ap not (closing_no_type_name closing ends))) ends
