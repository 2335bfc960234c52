-- Operands: what stands between binary operators (C11 6.5.1 to 6.5.4). `inner` reads what stands in them, with one level
-- less.
use Rattle.std.specs.Prelude.{ℕ, zero, suc, ◌+◌, max, nat_le, Bool, true, false, ◌&&◌, not, if◌then◌else◌, List, [], ◌∷◌, length, Option, None, Some, codes}
use Rattle.cbase.specs.declared.place.Place.{Place}
use Rattle.cbase.specs.declared.tree.expr.Expr.{Expr}
use Rattle.cbase.specs.declared.tree.expr.ExprForm.{ExprForm}
use Rattle.cbase.specs.declared.tree.expr.ExprForm.TheVariants.{Name, Constant, Unary, Count, Cast, SizeOf, SizeOfType, OffsetOf, Index, Member, Call, Inner, AssertFail}
use Rattle.cbase.specs.declared.tree.expr.Part.{Part}
use Rattle.cbase.specs.declared.tree.expr.Part.TheVariants.{Member as NamedPart, At}
use Rattle.cgrammar.specs.Brackets.{is_bracket}
use Rattle.cgrammar.specs.Firsts.{begins_type}
use Rattle.cgrammar.specs.FrontOf.{front_of}
use Rattle.cgrammar.specs.Outcomes.{Outcome, Nothing, Stopped, Read, Reader, then_read, or_else, with_right, after_first, after_mark, has_mark, has_first, behind_first}
use Rattle.cgrammar.specs.Phrases.{Context, counted, numbered}
use Rattle.cgrammar.specs.ReadLevels.{Level, prepended, read_list}
use Rattle.cgrammar.specs.ReadOperators.{expression_of, expression_from}
use Rattle.cgrammar.specs.ReadStarts.{operand_start, postfix_start}
use Rattle.cgrammar.specs.ReadStatements.{read_block}
use Rattle.cgrammar.specs.ReadTypes.{read_type_name, never}
use Rattle.cgrammar.specs.Scope.{Names}
use Rattle.cgrammar.specs.Terminals.{Terminal, is_mark, is_name, begins_with_typedef, first_word_place, last_place}
use Rattle.cgrammar.specs.Trees.{identifier}
use Rattle.cgrammar.specs.declared.reading.operand.Operand.{Operand}
use Rattle.cgrammar.specs.declared.reading.starts.OperandStart.{OperandStart}
use Rattle.cgrammar.specs.declared.reading.starts.OperandStart.TheVariants as start
use Rattle.cgrammar.specs.declared.reading.starts.PostfixStart.{PostfixStart}
use Rattle.cgrammar.specs.declared.reading.starts.PostfixStart.TheVariants as postfix

-- a unary expression, and a cast
abbrev pub unary_operand : Expr → Operand
unary_operand expr = record { expr = expr; unary = true }

abbrev pub cast_operand : Expr → Operand
cast_operand expr = record { expr = expr; unary = false }

-- an operand of an expression before which one mark or word stands, as `wrapped` has it
abbrev pub prefixed : Outcome Operand → Place → (Expr → ExprForm) → Outcome Operand
prefixed outcome place wrapped =
    with_right outcome Nothing
    (λ operand number. unary_operand (expression_of number place (wrapped operand.expr)))
    (λ operand levels behind rest. Read (unary_operand (numbered behind place (wrapped operand.expr))) (1 + levels) (counted behind) rest)

-- the same, where no cast may stand
abbrev pub unary_alone : Outcome Operand → Outcome Operand
unary_alone Nothing = Nothing
unary_alone (Stopped operand expressions rest) = if operand.unary then Stopped operand expressions rest else Nothing
unary_alone (Read operand levels behind rest) = if operand.unary then Read operand levels behind rest else Nothing

-- operators behind an operand, each to the left (C11 6.5.2); `start` is the row from the operand's first token on
abbrev pub stopped_operand : Expr → Context → Terminal → List Terminal → Outcome Operand
stopped_operand base context mark row = Stopped (unary_operand base) context.expressions (mark ∷ row)

abbrev pub index_behind : (Expr → ℕ → Reader Operand) → Level → Expr → ℕ → Context → Terminal → List Terminal → Outcome Operand
index_behind go inner base levels context mark row =
    or_else (inner.expression context row) (stopped_operand base context mark row) (λ index others behind rest.
    after_mark (codes "]") rest (stopped_operand base context mark row) (λ closing more.
    go (numbered behind mark.place (Index base index)) (1 + max levels others) (counted behind) more))

abbrev pub call_behind : (Expr → ℕ → Reader Operand) → Level → Place → Expr → ℕ → Context → Terminal → List Terminal → Outcome Operand
call_behind go inner place base levels context mark row =
    after_mark (codes ")") row
    (if begins_with_typedef context.scope row then stopped_operand base context mark row
    else or_else (read_list never inner.assignment (length row + 1) context row) (stopped_operand base context mark row) (λ arguments others behind rest.
    after_mark (codes ")") rest (stopped_operand base context mark row) (λ closing more.
    go (numbered behind place (Call base arguments)) (1 + max levels others) (counted behind) more)))
    (λ closing more. go (numbered context place (Call base [])) (1 + levels) (counted context) more)

abbrev pub member_behind : (Expr → ℕ → Reader Operand) → Bool → Expr → ℕ → Context → Terminal → List Terminal → Outcome Operand
member_behind go through base levels context mark row =
    after_first is_name row (stopped_operand base context mark row) (λ name more.
    go (numbered context mark.place (Member base (identifier name) through)) (1 + levels) (counted context) more)

abbrev pub postfix_with : (Expr → ℕ → Reader Operand) → Level → List Terminal → Expr → ℕ → Context → Terminal → List Terminal → PostfixStart → Outcome Operand
postfix_with go inner start base levels context mark row postfix.Index = index_behind go inner base levels context mark row
postfix_with go inner start base levels context mark row postfix.Call =
    call_behind go inner (first_word_place (front_of start (mark ∷ row))) base levels context mark row
postfix_with go inner start base levels context mark row (postfix.Member through) = member_behind go through base levels context mark row
postfix_with go inner start base levels context mark row (postfix.Count up) =
    go (numbered context mark.place (Count up true base)) (1 + levels) (counted context) row
postfix_with go inner start base levels context mark row postfix.Other = Read (unary_operand base) levels context (mark ∷ row)

-- whether an operator stands there
abbrev pub goes_on : PostfixStart → Bool
goes_on postfix.Other = false
goes_on _ = true

unfoldable pub read_postfixes : Level → List Terminal → ℕ → Expr → ℕ → Reader Operand
read_postfixes inner start zero base levels context row = Read (unary_operand base) levels context row
read_postfixes inner start (suc count) base levels context [] = Read (unary_operand base) levels context []
read_postfixes inner start (suc count) base levels context (mark ∷ row) =
    if goes_on (postfix_start mark) && not (nat_le levels inner.most) then stopped_operand base context mark row
    else postfix_with (read_postfixes inner start count) inner start base levels context mark row (postfix_start mark)

-- a primary expression, and the operators behind it; each takes a token
abbrev pub postfixes_from : Level → List Terminal → Expr → ℕ → Reader Operand
postfixes_from inner start base levels context row = read_postfixes inner start (length row + 1) base levels context row

-- members and items of `__builtin_offsetof` behind the first member (C11 7.19)
unfoldable pub read_path : Level → ℕ → Reader (List Part)
read_path inner zero context row = Nothing
read_path inner (suc count) context row =
    if has_mark (codes ".") row
    then after_first is_name (behind_first row) Nothing (λ name rest. prepended (NamedPart (identifier name)) 0 (read_path inner count context rest))
    else (if has_mark (codes "[") row
    then then_read (inner.conditional context (behind_first row)) (λ index levels behind rest.
    after_mark (codes "]") rest Nothing (λ closing others. prepended (At index) levels (read_path inner count behind others)))
    else Read [] 0 context row)

-- the byte of the bracket that closes an opening one
abbrev pub closer_of : Terminal → Option ℕ
closer_of token =
    if is_mark (codes "(") token then Some 41
    else (if is_mark (codes "[") token then Some 93
    else (if is_mark (codes "{") token then Some 125 else None))

abbrev pub matched_with : (ℕ → Option (List Terminal)) → Option (List Terminal) → Terminal → Option ℕ → Option (List Terminal)
matched_with opened on token (Some closer) = opened closer
matched_with opened on token None = if is_bracket token then None else on

-- What is behind the bracket that closes the last of the open ones, where brackets are matched by kind. The bytes are
-- those of the brackets to come, that of the innermost first.
unfoldable pub behind_matched : List ℕ → List Terminal → Option (List Terminal)
behind_matched [] row = Some row
behind_matched (closer ∷ others) [] = None
behind_matched (closer ∷ others) (token ∷ row) =
    if is_mark (closer ∷ []) token then behind_matched others row
    else matched_with (λ inner. behind_matched (inner ∷ (closer ∷ others)) row) (behind_matched (closer ∷ others) row) token (closer_of token)

-- what follows a `(`: a block in a statement expression, or the type of a cast (C11 6.5.4)
abbrev pub statement_expression : Level → Context → Terminal → List Terminal → Outcome Operand
statement_expression inner context opening row =
    then_read (read_block inner context row) (λ body levels behind rest.
    after_mark (codes ")") rest Nothing (λ closing others.
    postfixes_from inner (opening ∷ row) (numbered behind opening.place (Inner body (last_place (front_of row rest)))) (1 + levels) (counted behind) others))

abbrev pub read_cast_to : Level → Context → Terminal → List Terminal → Outcome Operand
read_cast_to inner context opening row =
    then_read (read_type_name inner context row) (λ to levels behind rest.
    after_mark (codes ")") rest Nothing (λ closing others.
    with_right (inner.cast behind others) Nothing
    (λ operand number. cast_operand (expression_of number opening.place (Cast to operand.expr)))
    (λ operand more last end. Read (cast_operand (numbered last opening.place (Cast to operand.expr))) (1 + max levels more) (counted last) end)))

unfoldable pub read_bracket : Level → Context → Terminal → List Terminal → Outcome Operand
read_bracket inner context opening row =
    if has_mark (codes "{") row then statement_expression inner context opening row else read_cast_to inner context opening row

-- `sizeof` of a type or of a unary expression (C11 6.5.3.4)
abbrev pub begins_type_in_brackets : List Names → List Terminal → Bool
begins_type_in_brackets scope row = has_mark (codes "(") row && has_first (begins_type scope) (behind_first row)

unfoldable pub read_size_of : Level → Context → Terminal → List Terminal → Outcome Operand
read_size_of inner context word row =
    if begins_type_in_brackets context.scope row
    then then_read (read_type_name inner context (behind_first row)) (λ to levels behind rest.
    after_mark (codes ")") rest Nothing (λ closing others.
    Read (unary_operand (numbered behind word.place (SizeOfType to))) (1 + levels) (counted behind) others))
    else prefixed (unary_alone (inner.cast context row)) word.place SizeOf

unfoldable pub read_offset_of : Level → Context → Terminal → List Terminal → Outcome Operand
read_offset_of inner context word row =
    after_mark (codes "(") row Nothing (λ opening one.
    then_read (read_type_name inner context one) (λ to levels behind two.
    after_mark (codes ",") two Nothing (λ comma three.
    after_first is_name three Nothing (λ name four.
    then_read (read_path inner (length four + 1) behind four) (λ path others last five.
    after_mark (codes ")") five Nothing (λ closing end.
    postfixes_from inner (word ∷ row) (numbered last word.place (OffsetOf to (NamedPart (identifier name) ∷ path))) (1 + max levels others) (counted last) end))))))

abbrev pub failed_assertion : Level → Context → Terminal → List Terminal → Option (List Terminal) → Outcome Operand
failed_assertion inner context word start None = Nothing
failed_assertion inner context word start (Some rest) = postfixes_from inner start (numbered context word.place AssertFail) 1 (counted context) rest

unfoldable pub read_assert_fail : Level → Context → Terminal → List Terminal → Outcome Operand
read_assert_fail inner context word row =
    after_mark (codes "(") row Nothing (λ opening others. failed_assertion inner context word (word ∷ row) (behind_matched (41 ∷ []) others))

abbrev pub plain_with : Level → Context → Terminal → List Terminal → OperandStart → Outcome Operand
plain_with inner context first row start.Bracket = read_bracket inner context first row
plain_with inner context first row (start.Count up) = prefixed (unary_alone (inner.cast context row)) first.place (Count up false)
plain_with inner context first row (start.Unary op) = prefixed (inner.cast context row) first.place (Unary op)
plain_with inner context first row start.SizeOf = read_size_of inner context first row
plain_with inner context first row start.OffsetOf = read_offset_of inner context first row
plain_with inner context first row start.AssertFail = read_assert_fail inner context first row
plain_with inner context first row start.Name =
    postfixes_from inner (first ∷ row) (numbered context first.place (Name first.bytes)) 1 (counted context) row
plain_with inner context first row start.Constant =
    postfixes_from inner (first ∷ row) (numbered context first.place (Constant first.bytes)) 1 (counted context) row
plain_with inner context first row start.Other = Nothing

-- an operand that begins with no bracket around an expression
unfoldable pub read_plain : Level → Reader Operand
read_plain inner context [] = Nothing
read_plain inner context (first ∷ row) = plain_with inner context first row (operand_start first)

-- a `(` around an expression: neither a type nor a block stands behind it
abbrev pub begins_expression : List Names → Terminal → Bool
begins_expression scope token = not (is_mark (codes "{") token) && not (begins_type scope token)

abbrev pub opens : List Names → Terminal → List Terminal → Bool
opens scope first row = is_mark (codes "(") first && has_first (begins_expression scope) row

-- the expression in brackets, from its first operand on, and the operators behind the brackets
abbrev pub closed : Level → List Terminal → Outcome Operand → Outcome Operand
closed inner start outcome =
    then_read outcome (λ operand levels behind rest.
    then_read (expression_from inner operand levels behind rest) (λ expr others last more.
    after_mark (codes ")") more Nothing (λ closing end. postfixes_from inner start expr others last end)))

-- an operand (C11 6.5.4)
unfoldable pub read_cast : Level → Reader Operand
read_cast inner context [] = Nothing
read_cast inner context (first ∷ row) =
    if opens context.scope first row then closed inner (first ∷ row) (read_cast inner context row) else read_plain inner context (first ∷ row)
