-- Where no type stands in a bracket at the front of a row, what is read there is a unary expression and no cast.
use Rattle.std.proofs.Common.{◌≡◌, ℕ, zero, suc, Bool, true, false, ◌&&◌, not, ◌+◌, max, nat_le, List, [], ◌∷◌, codes, length, Some, None, IsTrue, refl, ap, ◌∙◌}
use Rattle.std.specs.Prelude.{if◌then◌else◌, Option}
use Rattle.cbase.specs.declared.place.Place.{Place}
use Rattle.cbase.specs.declared.tree.expr.Expr.{Expr}
use Rattle.cbase.specs.declared.tree.expr.ExprForm.{ExprForm}
use Rattle.cbase.specs.declared.tree.expr.ExprForm.TheVariants.{Name, Constant, Unary, Count, SizeOf, SizeOfType, OffsetOf, Inner, AssertFail}
use Rattle.cbase.specs.declared.tree.expr.Part.TheVariants.{Member as NamedPart}
use Rattle.cbase.specs.declared.tree.decl.TypeName.{TypeName}
use Rattle.cbase.specs.declared.tree.operators.UnaryOp.{UnaryOp}
use Rattle.ctokens.proofs.Choices.{chosen_yes, chosen_no}
use Rattle.ctokens.proofs.Choices.{false_and}
use Rattle.cgrammar.proofs.Truth.{clash}
use Rattle.cgrammar.specs.FrontOf.{front_of}
use Rattle.cgrammar.specs.Firsts.{begins_type}
use Rattle.cgrammar.specs.Operators.{mark_row, unary_rows, count_rows}
use Rattle.cgrammar.specs.Outcomes.{Outcome, Nothing, Stopped, Read, Reader, then_read, or_else, after_first, after_mark, behind_first}
use Rattle.cgrammar.specs.Phrases.{Context, counted, numbered}
use Rattle.cgrammar.specs.ReadLevels.{Level, read_list}
use Rattle.cgrammar.specs.ReadOperands.{unary_operand, prefixed, unary_alone, stopped_operand, index_behind, call_behind, member_behind, postfix_with, goes_on, read_postfixes, closed, opens, plain_with, read_plain, read_cast, read_bracket, read_cast_to, statement_expression, read_size_of, begins_type_in_brackets, read_offset_of, read_assert_fail, failed_assertion, behind_matched, read_path, postfixes_from}
use Rattle.cgrammar.specs.ReadOperators.{expression_from}
use Rattle.cgrammar.specs.ReadStatements.{read_block}
use Rattle.cgrammar.specs.ReadStarts.{operand_start, postfix_start, is_constant, unary_start, counting_start}
use Rattle.cgrammar.specs.ReadTypes.{never, read_type_name}
use Rattle.cgrammar.specs.Reader.{level}
use Rattle.cgrammar.specs.Terminals.{Terminal, is_mark, is_word, is_name, begins_with_typedef, first_word_place, last_place}
use Rattle.cgrammar.specs.Trees.{identifier}
use Rattle.cgrammar.specs.declared.reading.operand.Operand.{Operand}
use Rattle.cgrammar.specs.declared.reading.starts.OperandStart.{OperandStart}
use Rattle.cgrammar.specs.declared.reading.starts.OperandStart.TheVariants as operand
use Rattle.cgrammar.specs.declared.reading.starts.PostfixStart.{PostfixStart}
use Rattle.cgrammar.specs.declared.reading.starts.PostfixStart.TheVariants as postfix

-- a bracket at the front of the row, and a type or nothing behind it
abbrev pub is_cast_row : Context → List Terminal → Bool
is_cast_row context [] = false
is_cast_row context (first ∷ []) = is_mark (codes "(") first
is_cast_row context (first ∷ (second ∷ row)) = is_mark (codes "(") first && begins_type context.scope second

pub no_type_in_brackets : (context : Context) (row : List Terminal) → is_cast_row context row ≡ false → begins_type_in_brackets context.scope row ≡ false
no_type_in_brackets context [] is = is
no_type_in_brackets context (first ∷ []) is = false_and (is_mark (codes "(") first) false refl
no_type_in_brackets context (first ∷ (second ∷ row)) is = is

-- what was read is a unary expression
abbrev AllUnary : Outcome Operand → Type 0
AllUnary Nothing = Unit {0}
AllUnary (Stopped operand expressions rest) = IsTrue operand.unary
AllUnary (Read operand levels behind rest) = IsTrue operand.unary

alone_of_unary : (outcome : Outcome Operand) → AllUnary outcome → unary_alone outcome ≡ outcome
alone_of_unary Nothing is = refl
alone_of_unary (Stopped operand expressions rest) is = chosen_yes operand.unary (Stopped operand expressions rest) Nothing is
alone_of_unary (Read operand levels behind rest) is = chosen_yes operand.unary (Read operand levels behind rest) Nothing is

then_unary : {A : Type 0} (outcome : Outcome A) (go : A → ℕ → Context → List Terminal → Outcome Operand)
    → ((tree : A) (levels : ℕ) (behind : Context) (rest : List Terminal) → AllUnary (go tree levels behind rest)) → AllUnary (then_read outcome go)
then_unary Nothing go each = tt
then_unary (Stopped tree expressions rest) go each = tt
then_unary (Read tree levels behind rest) go each = each tree levels behind rest

else_unary : {A : Type 0} (outcome : Outcome A) (without : Outcome Operand) (go : A → ℕ → Context → List Terminal → Outcome Operand) → AllUnary without
    → ((tree : A) (levels : ℕ) (behind : Context) (rest : List Terminal) → AllUnary (go tree levels behind rest)) → AllUnary (or_else outcome without go)
else_unary Nothing without go none each = none
else_unary (Stopped tree expressions rest) without go none each = none
else_unary (Read tree levels behind rest) without go none each = each tree levels behind rest

chosen_unary : (test : Bool) (one other : Outcome Operand) → AllUnary one → AllUnary other → AllUnary (if test then one else other)
chosen_unary true one other p q = p
chosen_unary false one other p q = q

first_unary : (test : Terminal → Bool) (row : List Terminal) (without : Outcome Operand) (go : Terminal → List Terminal → Outcome Operand) → AllUnary without
    → ((first : Terminal) (others : List Terminal) → AllUnary (go first others)) → AllUnary (after_first test row without go)
first_unary test [] without go none each = none
first_unary test (first ∷ others) without go none each = chosen_unary (test first) (go first others) without (each first others) none

prefixed_unary : (outcome : Outcome Operand) (place : Place) (wrapped : Expr → ExprForm) → AllUnary (prefixed outcome place wrapped)
prefixed_unary Nothing place wrapped = tt
prefixed_unary (Stopped operand expressions rest) place wrapped = refl
prefixed_unary (Read operand levels behind rest) place wrapped = refl

-- postfix operators
Unaries : (Expr → ℕ → Reader Operand) → Type 0
Unaries go = (base : Expr) (levels : ℕ) (context : Context) (row : List Terminal) → AllUnary (go base levels context row)

index_unary : (go : Expr → ℕ → Reader Operand) → Unaries go → (inner : Level) (base : Expr) (levels : ℕ) (context : Context) (mark : Terminal) (row : List Terminal) → AllUnary (index_behind go inner base levels context mark row)
unfolding Unaries
index_unary go each inner base levels context mark row =
    else_unary (inner.expression context row) (stopped_operand base context mark row) _ refl
    (λ index others behind rest. first_unary (is_mark (codes "]")) rest (stopped_operand base context mark row) _ refl (λ closing more. each _ _ _ more))

call_unary : (go : Expr → ℕ → Reader Operand) → Unaries go → (inner : Level) (place : Place) (base : Expr) (levels : ℕ) (context : Context) (mark : Terminal) (row : List Terminal) → AllUnary (call_behind go inner place base levels context mark row)
unfolding Unaries
call_unary go each inner place base levels context mark row =
    first_unary (is_mark (codes ")")) row _ _
    (chosen_unary (begins_with_typedef context.scope row) (stopped_operand base context mark row) _ refl
    (else_unary (read_list never inner.assignment (length row + 1) context row) (stopped_operand base context mark row) _ refl
    (λ arguments others behind rest. first_unary (is_mark (codes ")")) rest (stopped_operand base context mark row) _ refl (λ closing more. each _ _ _ more))))
    (λ closing more. each _ _ _ more)

member_unary : (go : Expr → ℕ → Reader Operand) → Unaries go → (through : Bool) (base : Expr) (levels : ℕ) (context : Context) (mark : Terminal) (row : List Terminal) → AllUnary (member_behind go through base levels context mark row)
unfolding Unaries
member_unary go each through base levels context mark row = first_unary is_name row (stopped_operand base context mark row) _ refl (λ name more. each _ _ _ more)

postfix_unary : (go : Expr → ℕ → Reader Operand) → Unaries go → (inner : Level) (start : List Terminal) (base : Expr) (levels : ℕ) (context : Context) (mark : Terminal) (row : List Terminal) (kind : PostfixStart)
    → AllUnary (postfix_with go inner start base levels context mark row kind)
unfolding Unaries
postfix_unary go each inner start base levels context mark row postfix.Index = index_unary go each inner base levels context mark row
postfix_unary go each inner start base levels context mark row postfix.Call = call_unary go each inner (first_word_place (front_of start (mark ∷ row))) base levels context mark row
postfix_unary go each inner start base levels context mark row (postfix.Member through) = member_unary go each through base levels context mark row
postfix_unary go each inner start base levels context mark row (postfix.Count up) = each _ _ _ row
postfix_unary go each inner start base levels context mark row postfix.Other = refl

postfixes_unary : (inner : Level) (start : List Terminal) (count : ℕ) (base : Expr) (levels : ℕ) (context : Context) (row : List Terminal) → AllUnary (read_postfixes inner start count base levels context row)
unfolding read_postfixes Unaries
postfixes_unary inner start zero base levels context row = refl
postfixes_unary inner start (suc count) base levels context [] = refl
postfixes_unary inner start (suc count) base levels context (mark ∷ row) =
    chosen_unary (goes_on (postfix_start mark) && not (nat_le levels inner.most)) (stopped_operand base context mark row) _ refl
    (postfix_unary (read_postfixes inner start count) (postfixes_unary inner start count) inner start base levels context mark row (postfix_start mark))

-- operands
closed_unary : (inner : Level) (start : List Terminal) (outcome : Outcome Operand) → AllUnary (closed inner start outcome)
closed_unary inner start outcome =
    then_unary outcome _ (λ operand levels behind rest. then_unary (expression_from inner operand levels behind rest) _ (λ expr others last more.
    first_unary (is_mark (codes ")")) more Nothing _ tt (λ closing end. postfixes_unary inner start (length end + 1) expr others last end)))

block_unary : (inner : Level) (context : Context) (opening : Terminal) (row : List Terminal) → AllUnary (statement_expression inner context opening row)
block_unary inner context opening row =
    then_unary (read_block inner context row) _ (λ body levels behind rest. first_unary (is_mark (codes ")")) rest Nothing _ tt (λ closing others. postfixes_unary inner (opening ∷ row) (length others + 1) (numbered behind opening.place (Inner body (last_place (front_of row rest)))) (1 + levels) (counted behind) others))

size_unary : (inner : Level) (context : Context) (word : Terminal) (row : List Terminal) → AllUnary (read_size_of inner context word row)
unfolding read_size_of
size_unary inner context word row =
    chosen_unary (begins_type_in_brackets context.scope row) _ _
    (then_unary (read_type_name inner context (behind_first row)) _ (λ to levels behind rest.
    first_unary (is_mark (codes ")")) rest Nothing (λ closing others. Read (unary_operand (numbered behind word.place (SizeOfType to))) (1 + levels) (counted behind) others) tt (λ closing others. refl)))
    (prefixed_unary (unary_alone (inner.cast context row)) word.place SizeOf)

offset_behind : Level → Terminal → List Terminal → TypeName → ℕ → Context → Terminal → List Terminal → Outcome Operand
offset_behind inner word row to levels behind name four =
    then_read (read_path inner (length four + 1) behind four) (λ path others last five.
    after_mark (codes ")") five Nothing (λ closing end.
    postfixes_from inner (word ∷ row) (numbered last word.place (OffsetOf to (NamedPart (identifier name) ∷ path))) (1 + max levels others) (counted last) end))

offset_behind_unary : (inner : Level) (word : Terminal) (row : List Terminal) (to : TypeName) (levels : ℕ) (behind : Context) (name : Terminal) (four : List Terminal) → AllUnary (offset_behind inner word row to levels behind name four)
unfolding offset_behind
offset_behind_unary inner word row to levels behind name four =
    then_unary (read_path inner (length four + 1) behind four) _ (λ path others last five.
    first_unary (is_mark (codes ")")) five Nothing _ tt (λ closing end.
    postfixes_unary inner (word ∷ row) (length end + 1) (numbered last word.place (OffsetOf to (NamedPart (identifier name) ∷ path))) (1 + max levels others) (counted last) end))

offset_unary : (inner : Level) (context : Context) (word : Terminal) (row : List Terminal) → AllUnary (read_offset_of inner context word row)
unfolding read_offset_of offset_behind
offset_unary inner context word row =
    first_unary (is_mark (codes "(")) row Nothing _ tt (λ opening one.
    then_unary (read_type_name inner context one) _ (λ to levels behind two.
    first_unary (is_mark (codes ",")) two Nothing _ tt (λ comma three.
    first_unary is_name three Nothing (offset_behind inner word row to levels behind) tt (λ name four. offset_behind_unary inner word row to levels behind name four))))

failed_unary : (inner : Level) (context : Context) (word : Terminal) (start : List Terminal) (row : Option (List Terminal)) → AllUnary (failed_assertion inner context word start row)
failed_unary inner context word start None = tt
failed_unary inner context word start (Some rest) = postfixes_unary inner start (length rest + 1) (numbered context word.place AssertFail) 1 (counted context) rest

assert_unary : (inner : Level) (context : Context) (word : Terminal) (row : List Terminal) → AllUnary (read_assert_fail inner context word row)
unfolding read_assert_fail
assert_unary inner context word row =
    first_unary (is_mark (codes "(")) row Nothing _ tt (λ opening others. failed_unary inner context word (word ∷ row) (behind_matched (41 ∷ []) others))

is_bracket_start : OperandStart → Bool
is_bracket_start operand.Bracket = true
is_bracket_start _ = false

plain_unary : (inner : Level) (context : Context) (first : Terminal) (row : List Terminal) (kind : OperandStart) → (IsTrue (is_bracket_start kind) → AllUnary (read_bracket inner context first row))
    → AllUnary (plain_with inner context first row kind)
unfolding is_bracket_start
plain_unary inner context first row operand.Bracket bracket = bracket refl
plain_unary inner context first row (operand.Count up) bracket = prefixed_unary (unary_alone (inner.cast context row)) first.place (Count up false)
plain_unary inner context first row (operand.Unary op) bracket = prefixed_unary (inner.cast context row) first.place (Unary op)
plain_unary inner context first row operand.SizeOf bracket = size_unary inner context first row
plain_unary inner context first row operand.OffsetOf bracket = offset_unary inner context first row
plain_unary inner context first row operand.AssertFail bracket = assert_unary inner context first row
plain_unary inner context first row operand.Name bracket = postfixes_unary inner (first ∷ row) (length row + 1) (numbered context first.place (Name first.bytes)) 1 (counted context) row
plain_unary inner context first row operand.Constant bracket = postfixes_unary inner (first ∷ row) (length row + 1) (numbered context first.place (Constant first.bytes)) 1 (counted context) row
plain_unary inner context first row operand.Other bracket = tt

-- only a `(` is seen to begin as one
chosen_start : (test : Bool) (one two : OperandStart) → is_bracket_start one ≡ false → is_bracket_start two ≡ false → is_bracket_start (if test then one else two) ≡ false
chosen_start true one two p q = p
chosen_start false one two p q = q

unary_no_start : (op : Option UnaryOp) (token : Terminal) → is_bracket_start (unary_start op token) ≡ false
unfolding is_bracket_start
unary_no_start None token = step (mark_row count_rows token)
  where
    step : (up : Option Bool) → is_bracket_start (counting_start up) ≡ false
    step None = refl
    step (Some up) = refl
unary_no_start (Some op) token = refl

no_bracket_start : (token : Terminal) → is_mark (codes "(") token ≡ false → is_bracket_start (operand_start token) ≡ false
unfolding is_bracket_start operand_start
no_bracket_start token is =
    chosen_start (is_name token) operand.Name _ refl
    (chosen_start (is_constant token) operand.Constant _ refl
    (ap is_bracket_start (chosen_no (is_mark (codes "(") token) operand.Bracket _ is)
    ∙ chosen_start (is_word (codes "sizeof") token) operand.SizeOf _ refl
    (chosen_start (is_word (codes "__builtin_offsetof") token) operand.OffsetOf _ refl
    (chosen_start (is_word (codes "__assert_fail") token) operand.AssertFail _ refl
    (unary_no_start (mark_row unary_rows token) token)))))

-- a block stands in the bracket, where no type and no expression does
only_block : (bracket brace type : Bool) → (bracket && (not brace && not type)) ≡ false → (bracket && type) ≡ false → bracket ≡ true → brace ≡ true
only_block bracket true type opens no_type is = refl
only_block false false type opens no_type is = cc is
only_block true false true opens no_type is = cc no_type
only_block true false false opens no_type is = cc opens

bracket_unary : (inner : Level) (context : Context) (first : Terminal) (row : List Terminal) → opens context.scope first row ≡ false → is_cast_row context (first ∷ row) ≡ false → is_mark (codes "(") first ≡ true
    → AllUnary (read_bracket inner context first row)
unfolding read_bracket
bracket_unary inner context first [] opens no_cast is = absurd (clash (is_mark (codes "(") first) is no_cast)
bracket_unary inner context first (second ∷ row) opens no_cast is =
    step (is_mark (codes "{") second) (only_block (is_mark (codes "(") first) (is_mark (codes "{") second) (begins_type context.scope second) opens no_cast is)
  where
    step : (brace : Bool) → brace ≡ true → AllUnary (if brace then statement_expression inner context first (second ∷ row) else read_cast_to inner context first (second ∷ row))
    step true has = block_unary inner context first (second ∷ row)
    step false has = absurd (cc has)

cast_unary : (inner : Level) (context : Context) (row : List Terminal) → is_cast_row context row ≡ false → AllUnary (read_cast inner context row)
unfolding read_cast read_plain
cast_unary inner context [] no_cast = tt
cast_unary inner context (first ∷ row) no_cast = step (opens context.scope first row) refl
  where
    bracket : opens context.scope first row ≡ false → (b : Bool) → is_mark (codes "(") first ≡ b → IsTrue (is_bracket_start (operand_start first)) → AllUnary (read_bracket inner context first row)
    bracket not_open true is starts = bracket_unary inner context first row not_open no_cast is
    bracket not_open false is starts = absurd (clash (is_bracket_start (operand_start first)) starts (no_bracket_start first is))

    step : (test : Bool) → opens context.scope first row ≡ test → AllUnary (if test then closed inner (first ∷ row) (read_cast inner context row) else plain_with inner context first row (operand_start first))
    step true is = closed_unary inner (first ∷ row) (read_cast inner context row)
    step false is = plain_unary inner context first row (operand_start first) (bracket is (is_mark (codes "(") first) refl)

pub cast_alone : (m : ℕ) (context : Context) (row : List Terminal) → is_cast_row context row ≡ false → unary_alone ((level m).cast context row) ≡ (level m).cast context row
cast_alone zero context row no_cast = refl
cast_alone (suc m) context row no_cast = alone_of_unary (read_cast (level m) context row) (cast_unary (level m) context row no_cast)
