-- What the first tokens of a row are read as.
use Rattle.std.specs.Prelude.{ℕ, Bool, true, false, if◌then◌else◌, List, Option, None, Some, codes}
use Rattle.ctokens.specs.declared.token.TokenKind.{TokenKind}
use Rattle.ctokens.specs.declared.token.TokenKind.TheVariants.{Number, Letter}
use Rattle.cbase.specs.declared.tree.operators.UnaryOp.{UnaryOp}
use Rattle.cgrammar.specs.ConstantParts.{is_integer}
use Rattle.cgrammar.specs.FrontReadings.{is_basic_word}
use Rattle.cgrammar.specs.Operators.{mark_row, unary_rows, count_rows, member_rows}
use Rattle.cgrammar.specs.Scope.{Names}
use Rattle.cgrammar.specs.Terminals.{Terminal, is_mark, is_word, is_name, is_typedef}
use Rattle.cgrammar.specs.declared.reading.starts.OperandStart.{OperandStart}
use Rattle.cgrammar.specs.declared.reading.starts.OperandStart.TheVariants as operand
use Rattle.cgrammar.specs.declared.reading.starts.PostfixStart.{PostfixStart}
use Rattle.cgrammar.specs.declared.reading.starts.PostfixStart.TheVariants as postfix
use Rattle.cgrammar.specs.declared.reading.starts.TypeStart.{TypeStart}
use Rattle.cgrammar.specs.declared.reading.starts.TypeStart.TheVariants as type
use Rattle.cgrammar.specs.declared.reading.starts.StatementStart.{StatementStart}
use Rattle.cgrammar.specs.declared.reading.starts.StatementStart.TheVariants as statement

abbrev pub is_constant : Terminal → Bool
is_constant token = is_constant_of token.kind token.bytes
  where
    is_constant_of : TokenKind → List ℕ → Bool
    is_constant_of Number bytes = is_integer bytes
    is_constant_of Letter bytes = true
    is_constant_of _ bytes = false

-- `++` and `--` before an operand, and otherwise what no other mark begins
abbrev pub counting_start : Option Bool → OperandStart
counting_start None = operand.Other
counting_start (Some up) = operand.Count up

abbrev pub unary_start : Option UnaryOp → Terminal → OperandStart
unary_start None token = counting_start (mark_row count_rows token)
unary_start (Some op) token = operand.Unary op

-- with what an operand begins (C11 6.5.1 to 6.5.4)
unfoldable pub operand_start : Terminal → OperandStart
operand_start token =
    if is_name token then operand.Name
    else (if is_constant token then operand.Constant
    else (if is_mark (codes "(") token then operand.Bracket
    else (if is_word (codes "sizeof") token then operand.SizeOf
    else (if is_word (codes "__builtin_offsetof") token then operand.OffsetOf
    else (if is_word (codes "__assert_fail") token then operand.AssertFail
    else unary_start (mark_row unary_rows token) token)))))

abbrev pub count_start : Option Bool → PostfixStart
count_start None = postfix.Other
count_start (Some up) = postfix.Count up

abbrev pub member_start : Option Bool → Terminal → PostfixStart
member_start None token = count_start (mark_row count_rows token)
member_start (Some through) token = postfix.Member through

-- what goes on with an operand behind it (C11 6.5.2)
unfoldable pub postfix_start : Terminal → PostfixStart
postfix_start token =
    if is_mark (codes "[") token then postfix.Index
    else (if is_mark (codes "(") token then postfix.Call
    else member_start (mark_row member_rows token) token)

-- with what a type begins (C11 6.7.2)
unfoldable pub type_start : List Names → Terminal → TypeStart
type_start scopes token =
    if is_typedef scopes token then type.Named
    else (if is_basic_word token then type.Basic
    else (if is_word (codes "struct") token then type.Struct
    else (if is_word (codes "enum") token then type.Enum
    else (if is_word (codes "typeof") token then type.TypeOf else type.Other))))

-- with what a statement begins (C11 6.8)
unfoldable pub statement_start : Terminal → StatementStart
statement_start token =
    if is_mark (codes "{") token then statement.Block
    else (if is_word (codes "if") token then statement.If
    else (if is_word (codes "while") token then statement.While
    else (if is_word (codes "do") token then statement.Do
    else (if is_word (codes "for") token then statement.For
    else (if is_word (codes "break") token then statement.Break
    else (if is_word (codes "continue") token then statement.Continue
    else (if is_word (codes "return") token then statement.Return else statement.Other)))))))
