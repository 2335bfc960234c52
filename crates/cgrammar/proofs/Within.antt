-- What a reader of a level gives leaves no more tokens than the row that it was given has.
use Rattle.std.proofs.Common.{ℕ, zero, suc, ◌+◌, ◌≤◌, Bool, true, false, ◌&&◌, not, List, [], ◌∷◌, length, arith, codes, Option, None, Some, nat_le}
use Rattle.std.specs.Prelude.{if◌then◌else◌}
use Rattle.cbase.specs.declared.place.Place.{Place}
use Rattle.cbase.specs.declared.tree.expr.Expr.{Expr}
use Rattle.cbase.specs.declared.tree.expr.ExprForm.{ExprForm}
use Rattle.cbase.specs.declared.tree.operators.BinaryOp.{BinaryOp}
use Rattle.cgrammar.specs.Brackets.{is_bracket}
use Rattle.cgrammar.specs.Grammar.{inside}
use Rattle.cgrammar.specs.Operators.{mark_row, binary_rows, assignment_rows}
use Rattle.cgrammar.specs.Outcomes.{Outcome, Nothing, Stopped, Read, Reader, has_mark, behind_first}
use Rattle.cgrammar.specs.Phrases.{Context}
use Rattle.cgrammar.specs.ReadLevels.{Level, read_list}
use Rattle.cgrammar.specs.ReadOperands.{read_cast, read_plain, plain_with, read_bracket, statement_expression, read_cast_to, begins_type_in_brackets, read_size_of, read_offset_of, read_assert_fail, failed_assertion, behind_matched, matched_with, closer_of, read_path, postfixes_from, read_postfixes, postfix_with, goes_on, prefixed, unary_alone, opens, closed}
use Rattle.cgrammar.specs.ReadOperators.{binary_with, read_operations, operations_from, read_choice, conditional_from, assignment_with, assignment_from, read_commas, expression_from}
use Rattle.cgrammar.specs.Reader.{level, level_above}
use Rattle.cgrammar.specs.ReadStarts.{operand_start, postfix_start}
use Rattle.cgrammar.specs.ReadStatements.{read_block}
use Rattle.cgrammar.specs.ReadTypes.{read_type_name, never}
use Rattle.cgrammar.specs.Terminals.{Terminal, is_mark, begins_with_typedef}
use Rattle.cgrammar.specs.declared.reading.operand.Operand.{Operand}
use Rattle.cgrammar.specs.declared.reading.starts.OperandStart.{OperandStart}
use Rattle.cgrammar.specs.declared.reading.starts.OperandStart.TheVariants as operand
use Rattle.cgrammar.specs.declared.reading.starts.PostfixStart.{PostfixStart}
use Rattle.cgrammar.specs.declared.reading.starts.PostfixStart.TheVariants as postfix
use Rattle.cgrammar.proofs.Reached.{IsWithin, IsWithinLevel}
use Rattle.cgrammar.proofs.WithinSteps.{Leaves, Keeps, KeepsLevel, keep_then, keep_continued, keep_right, keep_else, keep_if, keep_first, keep_prepended, keep_list, fewer_behind, fewer_others}
use Rattle.cgrammar.proofs.WithinDeclarations.{keep_type_name, keep_specifier, keep_initializer, keep_block, keep_clause, keep_statement, keep_item}

-- operators
keep_binary_with : (go : Expr → ℕ → Reader Expr) (inner : Level) (loosest : ℕ) (left : Expr) (levels most : ℕ) (context : Context) (mark : Terminal) (row : List Terminal) (entry : Option (ℕ × BinaryOp))
    → ((next : Expr) (others : ℕ) → Keeps (go next others)) → KeepsLevel inner → length (mark ∷ row) ≤ most → Leaves (binary_with go inner loosest left levels context mark row entry) most
keep_binary_with go inner loosest left levels most context mark row None next is inside = inside
keep_binary_with go inner loosest left levels most context mark row (Some entry) next is inside =
    keep_if most (nat_le loosest entry.0) _ _
    (keep_if most (nat_le levels inner.most) _ _
    (keep_right most (inner.operation (entry.0 + 1) context row) _ _ _ (is.operation (entry.0 + 1) most context row (fewer_others most mark row inside)) inside
    (λ right others behind rest within. next _ _ most _ rest within))
    inside)
    inside

pub keep_operations : (inner : Level) (loosest count : ℕ) (left : Expr) (levels : ℕ) → KeepsLevel inner → Keeps (read_operations inner loosest count left levels)
unfolding read_operations
keep_operations inner loosest zero left levels is most context row inside = inside
keep_operations inner loosest (suc count) left levels is most context [] inside = inside
keep_operations inner loosest (suc count) left levels is most context (mark ∷ row) inside =
    keep_binary_with (read_operations inner loosest count) inner loosest left levels most context mark row (mark_row binary_rows mark)
    (λ next others. keep_operations inner loosest count next others is) is inside

pub keep_operations_from : (inner : Level) (loosest : ℕ) (operand : Operand) (levels : ℕ) → KeepsLevel inner → Keeps (operations_from inner loosest operand levels)
keep_operations_from inner loosest operand levels is most context row inside =
    keep_operations inner loosest (length row + 1) operand.expr levels is most context row inside

pub keep_choice : (inner : Level) (test : Expr) (levels : ℕ) → KeepsLevel inner → Keeps (read_choice inner test levels)
unfolding read_choice
keep_choice inner test levels is most context [] inside = inside
keep_choice inner test levels is most context (mark ∷ row) inside =
    keep_if most (is_mark (codes "?") mark) _ _
    (keep_if most (nat_le levels inner.most) _ _
    (keep_else most (inner.expression context row) _ _ (is.expression most context row (fewer_others most mark row inside)) inside (λ one ones first rest within.
    keep_first most _ rest _ _ within inside (λ colon others fewer.
    keep_right most (inner.conditional first others) _ _ _ (is.conditional most first others fewer) inside (λ other twos behind more less. less))))
    inside)
    inside

pub keep_conditional_from : (inner : Level) (operand : Operand) (levels : ℕ) → KeepsLevel inner → Keeps (conditional_from inner operand levels)
keep_conditional_from inner operand levels is most context row inside =
    keep_continued most (operations_from inner 0 operand levels context row) _ _ (keep_operations_from inner 0 operand levels is most context row inside)
    (λ test tests behind rest within. keep_choice inner test tests is most behind rest within)

keep_assignment_with : (inner : Level) (operand : Operand) (levels most : ℕ) (context : Context) (mark : Terminal) (row : List Terminal) (op : Option (Option BinaryOp))
    → KeepsLevel inner → length (mark ∷ row) ≤ most → Leaves (assignment_with inner operand levels context mark row op) most
keep_assignment_with inner operand levels most context mark row None is inside = keep_conditional_from inner operand levels is most context (mark ∷ row) inside
keep_assignment_with inner operand levels most context mark row (Some op) is inside =
    keep_if most operand.unary _ _
    (keep_if most (nat_le levels inner.most) _ _
    (keep_right most (inner.assignment context row) _ _ _ (is.assignment most context row (fewer_others most mark row inside)) inside (λ right others behind rest within. within))
    inside)
    (keep_conditional_from inner operand levels is most context (mark ∷ row) inside)

pub keep_assignment_from : (inner : Level) (operand : Operand) (levels : ℕ) → KeepsLevel inner → Keeps (assignment_from inner operand levels)
unfolding assignment_from
keep_assignment_from inner operand levels is most context [] inside = keep_conditional_from inner operand levels is most context [] inside
keep_assignment_from inner operand levels is most context (mark ∷ row) inside = keep_assignment_with inner operand levels most context mark row (mark_row assignment_rows mark) is inside

pub keep_commas : (inner : Level) (count : ℕ) (left : Expr) (levels : ℕ) → KeepsLevel inner → Keeps (read_commas inner count left levels)
unfolding read_commas
keep_commas inner zero left levels is most context row inside = inside
keep_commas inner (suc count) left levels is most context [] inside = inside
keep_commas inner (suc count) left levels is most context (mark ∷ row) inside =
    keep_if most (is_mark (codes ",") mark) _ _
    (keep_if most (nat_le levels inner.most) _ _
    (keep_right most (inner.assignment context row) _ _ _ (is.assignment most context row (fewer_others most mark row inside)) inside
    (λ right others behind rest within. keep_commas inner count _ _ is most _ rest within))
    inside)
    inside

pub keep_expression_from : (inner : Level) (operand : Operand) (levels : ℕ) → KeepsLevel inner → Keeps (expression_from inner operand levels)
keep_expression_from inner operand levels is most context row inside =
    keep_continued most (assignment_from inner operand levels context row) _ _ (keep_assignment_from inner operand levels is most context row inside)
    (λ left others behind rest within. keep_commas inner (length rest + 1) left others is most behind rest within)

-- operands
keep_postfix_with : (go : Expr → ℕ → Reader Operand) (inner : Level) (start : List Terminal) (base : Expr) (levels most : ℕ) (context : Context) (mark : Terminal) (row : List Terminal) (begins : PostfixStart)
    → ((next : Expr) (others : ℕ) → Keeps (go next others)) → KeepsLevel inner → length (mark ∷ row) ≤ most → Leaves (postfix_with go inner start base levels context mark row begins) most
keep_postfix_with go inner start base levels most context mark row postfix.Index next is inside =
    keep_else most (inner.expression context row) _ _ (is.expression most context row (fewer_others most mark row inside)) inside (λ index others behind rest within.
    keep_first most _ rest _ _ within inside (λ closing more fewer. next _ _ most _ more fewer))
keep_postfix_with go inner start base levels most context mark row postfix.Call next is inside =
    keep_first most _ row _ _ (fewer_others most mark row inside)
    (keep_if most (begins_with_typedef context.scope row) _ _ inside
    (keep_else most (read_list never inner.assignment (length row + 1) context row) _ _
    (keep_list never inner.assignment (length row + 1) is.assignment most context row (fewer_others most mark row inside)) inside
    (λ arguments others behind rest within. keep_first most _ rest _ _ within inside (λ closing more fewer. next _ _ most _ more fewer))))
    (λ closing more fewer. next _ _ most _ more fewer)
keep_postfix_with go inner start base levels most context mark row (postfix.Member through) next is inside =
    keep_first most _ row _ _ (fewer_others most mark row inside) inside (λ name more fewer. next _ _ most _ more fewer)
keep_postfix_with go inner start base levels most context mark row (postfix.Count up) next is inside = next _ _ most _ row (fewer_others most mark row inside)
keep_postfix_with go inner start base levels most context mark row postfix.Other next is inside = inside

pub keep_postfixes : (inner : Level) (start : List Terminal) (count : ℕ) (base : Expr) (levels : ℕ) → KeepsLevel inner → Keeps (read_postfixes inner start count base levels)
unfolding read_postfixes
keep_postfixes inner start zero base levels is most context row inside = inside
keep_postfixes inner start (suc count) base levels is most context [] inside = inside
keep_postfixes inner start (suc count) base levels is most context (mark ∷ row) inside =
    keep_if most (goes_on (postfix_start mark) && not (nat_le levels inner.most)) _ _ inside
    (keep_postfix_with (read_postfixes inner start count) inner start base levels most context mark row (postfix_start mark)
    (λ next others. keep_postfixes inner start count next others is) is inside)

pub keep_postfixes_from : (inner : Level) (start : List Terminal) (base : Expr) (levels : ℕ) → KeepsLevel inner → Keeps (postfixes_from inner start base levels)
keep_postfixes_from inner start base levels is most context row inside = keep_postfixes inner start (length row + 1) base levels is most context row inside

pub keep_path : (inner : Level) (count : ℕ) → KeepsLevel inner → Keeps (read_path inner count)
unfolding read_path
keep_path inner zero is most context row inside = tt
keep_path inner (suc count) is most context row inside =
    keep_if most (has_mark (codes ".") row) _ _
    (keep_first most _ (behind_first row) _ _ (fewer_behind most row inside) tt (λ name rest within.
    keep_prepended most _ 0 (read_path inner count context rest) (keep_path inner count is most context rest within)))
    (keep_if most (has_mark (codes "[") row) _ _
    (keep_then most (inner.conditional context (behind_first row)) _ (is.conditional most context (behind_first row) (fewer_behind most row inside)) (λ index levels behind rest within.
    keep_first most _ rest _ _ within tt (λ closing others fewer.
    keep_prepended most _ levels (read_path inner count behind others) (keep_path inner count is most behind others fewer))))
    inside)

keep_prefixed : (most : ℕ) (outcome : Outcome Operand) (place : Place) (wrapped : Expr → ExprForm) → Leaves outcome most → Leaves (prefixed outcome place wrapped) most
keep_prefixed most outcome place wrapped is = keep_right most outcome _ _ _ is tt (λ operand levels behind rest within. within)

keep_alone : (most : ℕ) (outcome : Outcome Operand) → Leaves outcome most → Leaves (unary_alone outcome) most
keep_alone most Nothing is = tt
keep_alone most (Stopped operand expressions rest) is = keep_if most operand.unary _ _ is tt
keep_alone most (Read operand levels behind rest) is = keep_if most operand.unary _ _ is tt

keep_statement_expression : (inner : Level) (most : ℕ) (context : Context) (opening : Terminal) (row : List Terminal) → KeepsLevel inner → length row ≤ most → Leaves (statement_expression inner context opening row) most
keep_statement_expression inner most context opening row is inside =
    keep_then most (read_block inner context row) _ (keep_block inner is most context row inside) (λ body levels behind rest within.
    keep_first most _ rest _ _ within tt (λ closing others fewer. keep_postfixes_from inner (opening ∷ row) _ _ is most _ others fewer))

keep_cast_to : (inner : Level) (most : ℕ) (context : Context) (opening : Terminal) (row : List Terminal) → KeepsLevel inner → length row ≤ most → Leaves (read_cast_to inner context opening row) most
keep_cast_to inner most context opening row is inside =
    keep_then most (read_type_name inner context row) _ (keep_type_name inner is most context row inside) (λ to levels behind rest within.
    keep_first most _ rest _ _ within tt (λ closing others fewer.
    keep_right most (inner.cast behind others) _ _ _ (is.cast most behind others fewer) tt (λ operand more last end ends. ends)))

keep_bracket : (inner : Level) (most : ℕ) (context : Context) (opening : Terminal) (row : List Terminal) → KeepsLevel inner → length row ≤ most → Leaves (read_bracket inner context opening row) most
unfolding read_bracket
keep_bracket inner most context opening row is inside =
    keep_if most (has_mark (codes "{") row) _ _ (keep_statement_expression inner most context opening row is inside) (keep_cast_to inner most context opening row is inside)

keep_size_of : (inner : Level) (most : ℕ) (context : Context) (word : Terminal) (row : List Terminal) → KeepsLevel inner → length row ≤ most → Leaves (read_size_of inner context word row) most
unfolding read_size_of
keep_size_of inner most context word row is inside =
    keep_if most (begins_type_in_brackets context.scope row) _ _
    (keep_then most (read_type_name inner context (behind_first row)) _ (keep_type_name inner is most context (behind_first row) (fewer_behind most row inside)) (λ to levels behind rest within.
    keep_first most _ rest _ _ within tt (λ closing others fewer. fewer)))
    (keep_prefixed most (unary_alone (inner.cast context row)) _ _ (keep_alone most (inner.cast context row) (is.cast most context row inside)))

keep_offset_of : (inner : Level) (most : ℕ) (context : Context) (word : Terminal) (row : List Terminal) → KeepsLevel inner → length row ≤ most → Leaves (read_offset_of inner context word row) most
unfolding read_offset_of
keep_offset_of inner most context word row is inside =
    keep_first most _ row _ _ inside tt (λ opening one fewer.
    keep_then most (read_type_name inner context one) _ (keep_type_name inner is most context one fewer) (λ to levels behind two within.
    keep_first most _ two _ _ within tt (λ comma three less.
    keep_first most _ three _ _ less tt (λ name four lesser.
    keep_then most (read_path inner (length four + 1) behind four) _ (keep_path inner (length four + 1) is most behind four lesser) (λ path others last five ends.
    keep_first most _ five _ _ ends tt (λ closing end done. keep_postfixes_from inner (word ∷ row) _ _ is most _ end done))))))

-- what is behind matched brackets is not longer than the row
abbrev OptionLeaves : Option (List Terminal) → ℕ → Type 0
OptionLeaves None most = Unit {0}
OptionLeaves (Some rest) most = length rest ≤ most

keep_matched : (most : ℕ) (closers : List ℕ) (row : List Terminal) → length row ≤ most → OptionLeaves (behind_matched closers row) most
unfolding behind_matched
keep_matched most [] row fits = fits
keep_matched most (closer ∷ others) [] fits = tt
keep_matched most (closer ∷ others) (token ∷ row) fits =
    closing _ _ (is_mark (closer ∷ []) token) (keep_matched most others row (fewer_others most token row fits))
    (opening _ _ (closer_of token) (λ next. keep_matched most (next ∷ (closer ∷ others)) row (fewer_others most token row fits))
    (keep_matched most (closer ∷ others) row (fewer_others most token row fits)))
  where
    between : (on : Option (List Terminal)) (test : Bool) → OptionLeaves on most → OptionLeaves (if test then None else on) most
    between on true is = tt
    between on false is = is

    opening : (opened : ℕ → Option (List Terminal)) (on : Option (List Terminal)) (next : Option ℕ) → ((next : ℕ) → OptionLeaves (opened next) most) → OptionLeaves on most → OptionLeaves (matched_with opened on token next) most
    opening opened on (Some next) each is = each next
    opening opened on None each is = between on (is_bracket token) is

    closing : (one other : Option (List Terminal)) (test : Bool) → OptionLeaves one most → OptionLeaves other most → OptionLeaves (if test then one else other) most
    closing one other true is or_is = is
    closing one other false is or_is = or_is

keep_failed_assertion : (inner : Level) (most : ℕ) (context : Context) (word : Terminal) (start : List Terminal) (rest : Option (List Terminal)) → KeepsLevel inner → OptionLeaves rest most → Leaves (failed_assertion inner context word start rest) most
keep_failed_assertion inner most context word start None is inside = tt
keep_failed_assertion inner most context word start (Some rest) is inside = keep_postfixes_from inner start _ _ is most _ rest inside

keep_assert_fail : (inner : Level) (most : ℕ) (context : Context) (word : Terminal) (row : List Terminal) → KeepsLevel inner → length row ≤ most → Leaves (read_assert_fail inner context word row) most
unfolding read_assert_fail
keep_assert_fail inner most context word row is inside =
    keep_first most _ row _ _ inside tt (λ opening others fewer.
    keep_failed_assertion inner most context word (word ∷ row) (behind_matched (41 ∷ []) others) is (keep_matched most (41 ∷ []) others fewer))

keep_plain_with : (inner : Level) (most : ℕ) (context : Context) (first : Terminal) (row : List Terminal) (start : OperandStart) → KeepsLevel inner → length row ≤ most → Leaves (plain_with inner context first row start) most
keep_plain_with inner most context first row operand.Bracket is inside = keep_bracket inner most context first row is inside
keep_plain_with inner most context first row (operand.Count up) is inside =
    keep_prefixed most (unary_alone (inner.cast context row)) _ _ (keep_alone most (inner.cast context row) (is.cast most context row inside))
keep_plain_with inner most context first row (operand.Unary op) is inside = keep_prefixed most (inner.cast context row) _ _ (is.cast most context row inside)
keep_plain_with inner most context first row operand.SizeOf is inside = keep_size_of inner most context first row is inside
keep_plain_with inner most context first row operand.OffsetOf is inside = keep_offset_of inner most context first row is inside
keep_plain_with inner most context first row operand.AssertFail is inside = keep_assert_fail inner most context first row is inside
keep_plain_with inner most context first row operand.Name is inside = keep_postfixes_from inner (first ∷ row) _ _ is most _ row inside
keep_plain_with inner most context first row operand.Constant is inside = keep_postfixes_from inner (first ∷ row) _ _ is most _ row inside
keep_plain_with inner most context first row operand.Other is inside = tt

pub keep_plain : (inner : Level) → KeepsLevel inner → Keeps (read_plain inner)
unfolding read_plain
keep_plain inner is most context [] inside = tt
keep_plain inner is most context (first ∷ row) inside = keep_plain_with inner most context first row (operand_start first) is (fewer_others most first row inside)

keep_closed : (inner : Level) (most : ℕ) (start : List Terminal) (outcome : Outcome Operand) → KeepsLevel inner → Leaves outcome most → Leaves (closed inner start outcome) most
keep_closed inner most start outcome is inside =
    keep_then most outcome _ inside (λ operand levels behind rest within.
    keep_then most (expression_from inner operand levels behind rest) _ (keep_expression_from inner operand levels is most behind rest within) (λ expr others last more fewer.
    keep_first most _ more _ _ fewer tt (λ closing end less. keep_postfixes_from inner start expr others is most last end less)))

pub keep_cast : (inner : Level) → KeepsLevel inner → Keeps (read_cast inner)
unfolding read_cast
keep_cast inner is most context [] inside = tt
keep_cast inner is most context (first ∷ row) inside =
    keep_if most (opens context.scope first row) _ _
    (keep_closed inner most (first ∷ row) (read_cast inner context row) is (keep_cast inner is most context row (fewer_others most first row inside)))
    (keep_plain inner is most context (first ∷ row) inside)

-- levels
keep_above : (inner : Level) → KeepsLevel inner → KeepsLevel (level_above inner)
keep_above inner is = record {
  cast = keep_cast inner is;
  operation = λ loosest most context row inside. keep_continued most (read_cast inner context row) _ _ (keep_cast inner is most context row inside)
      (λ operand levels behind rest within. keep_operations_from inner loosest operand levels is most behind rest within);
  conditional = λ most context row inside. keep_continued most (read_cast inner context row) _ _ (keep_cast inner is most context row inside)
      (λ operand levels behind rest within. keep_conditional_from inner operand levels is most behind rest within);
  assignment = λ most context row inside. keep_continued most (read_cast inner context row) _ _ (keep_cast inner is most context row inside)
      (λ operand levels behind rest within. keep_assignment_from inner operand levels is most behind rest within);
  expression = λ most context row inside. keep_continued most (read_cast inner context row) _ _ (keep_cast inner is most context row inside)
      (λ operand levels behind rest within. keep_expression_from inner operand levels is most behind rest within);
  specifier = keep_specifier inner is;
  initializer = keep_initializer inner is;
  clause = keep_clause inner is;
  statement = keep_statement inner is;
  item = keep_item inner is;
}

pub keep_level : (n : ℕ) → KeepsLevel (level n)
keep_level zero = record {
  cast = λ most context row inside. tt;
  operation = λ loosest most context row inside. tt;
  conditional = λ most context row inside. tt;
  assignment = λ most context row inside. tt;
  expression = λ most context row inside. tt;
  specifier = λ most context row inside. tt;
  initializer = λ most context row inside. tt;
  clause = λ most context row inside. tt;
  statement = λ most context row inside. tt;
  item = λ most context row inside. tt;
}
keep_level (suc n) = keep_above (level n) (keep_level n)

same : (row : List Terminal) → length row ≤ length row
same row = omega arith

-- whatever keeps within its row gives no more than its row
pub within_row : {A : Type 0} (reader : Reader A) → Keeps reader → (context : Context) (row : List Terminal) → IsWithin (reader context row) row
within_row reader is context row = as_within (reader context row) row (is (length row) context row (same row))
  where
    as_within : {A : Type 0} (outcome : Outcome A) (row : List Terminal) → Leaves outcome (length row) → IsWithin outcome row
    as_within Nothing row is = tt
    as_within (Stopped tree expressions rest) row is = is
    as_within (Read tree levels behind rest) row is = is

pub within : (n : ℕ) → IsWithinLevel (level n)
within n =
    let is = keep_level n in
    record {
      cast = within_row (level n).cast is.cast;
      operation = λ loosest. within_row ((level n).operation loosest) (is.operation loosest);
      conditional = within_row (level n).conditional is.conditional;
      assignment = within_row (level n).assignment is.assignment;
      expression = within_row (level n).expression is.expression;
      specifier = within_row (level n).specifier is.specifier;
      initializer = within_row (level n).initializer is.initializer;
      clause = within_row (level n).clause is.clause;
      statement = within_row (level n).statement is.statement;
      item = within_row (level n).item is.item;
    }
