-- Operands: what stands between binary operators (C11 6.5.1 to 6.5.4).
use Rattle.std.specs.Prelude.{ℕ, zero, suc, ◌+◌, ◌-◌, nat_eq, nat_le, Bool, true, false, ◌&&◌, not, if◌then◌else◌, List, [], ◌∷◌, take, drop, length, Option, None, Some, codes}
use Rattle.std.specs.List.{prefix_len}
use Rattle.cbase.specs.declared.tree.operators.UnaryOp.{UnaryOp}
use Rattle.cevents.specs.declared.event.Event.{Event}
use Rattle.cevents.specs.declared.event.Event.TheVariants as event
use Rattle.cgrammar.specs.Outcomes.{has_mark, has_first}
use Rattle.cgrammar.specs.ReadOperands.{begins_type_in_brackets, behind_matched, goes_on, opens}
use Rattle.cgrammar.specs.ReadStarts.{operand_start, postfix_start}
use Rattle.cgrammar.specs.ReadTypes.{never}
use Rattle.cgrammar.specs.Scope.{Names}
use Rattle.cgrammar.specs.Terminals.{Terminal, is_name, is_any_word, begins_with_typedef}
use Rattle.cgrammar.specs.declared.reading.starts.OperandStart.{OperandStart}
use Rattle.cgrammar.specs.declared.reading.starts.OperandStart.TheVariants as start
use Rattle.cgrammar.specs.declared.reading.starts.PostfixStart.{PostfixStart}
use Rattle.cgrammar.specs.declared.reading.starts.PostfixStart.TheVariants as postfix
use Rattle.cparser.specs.OperatorSteps.{expression_from}
use Rattle.cparser.specs.State.{State, rest, goes, is_nothing, with_unary, skipped, lost, stopped, point_of, back_at}
use Rattle.cparser.specs.StatementSteps.{block}
use Rattle.cparser.specs.Steps.{Inner, mark, whole, ask, ask_whole, back_unless_going, mark_or_back, write, make, wrap, all_parts}
use Rattle.cparser.specs.TypeSteps.{type_name}
use Rattle.cparser.specs.declared.point.Point.{Point}
use Rattle.cparser.specs.declared.wanted.Wanted.TheVariants as wanted

-- what is read is an operand: a unary expression, or a cast
unfoldable pub as_operand : Bool → State → State
as_operand unary s = if is_nothing s.status then s else with_unary unary s

-- nothing is read where the operand is a cast: a unary expression alone may stand there (C11 6.5.3)
unfoldable pub unary_alone : State → State
unary_alone s = if not (is_nothing s.status) && not s.unary then lost s else s

-- Operators behind an operand, each to the left (C11 6.5.2).
unfoldable pub index_behind : Inner → Point → ℕ → State → State
index_behind inner point at s = make (event.Index at) (mark_or_back (codes "]") point (back_unless_going point (ask inner wanted.Expression s)))

unfoldable pub argument : Inner → State → State
argument inner s = write event.Argument (ask_whole inner wanted.Assignment s)

unfoldable pub arguments : Inner → State → State
arguments inner s = all_parts never (argument inner) (write event.NoArguments s)

unfoldable pub call_behind : Inner → Point → ℕ → State → State
call_behind inner point at s =
    if has_mark (codes ")") (rest s) then make (event.Call at) (write event.NoArguments (skipped 1 s))
    else (if begins_with_typedef s.scope (rest s) then back_at point s
    else make (event.Call at) (mark_or_back (codes ")") point (back_unless_going point (arguments inner s))))

unfoldable pub member_behind : Bool → Point → ℕ → State → State
member_behind through point at s =
    if has_first is_name (rest s) then make (event.Member through at s.at) (skipped 1 s) else back_at point s

-- the number of the first word among the tokens from one number on, or that of the first token
abbrev pub is_no_word : Terminal → Bool
is_no_word token = not (is_any_word token)

abbrev pub first_word : ℕ → List Terminal → ℕ
first_word first front = if nat_eq (prefix_len is_no_word front) (length front) then first else first + prefix_len is_no_word front

abbrev pub call_place : ℕ → State → ℕ
call_place first s = first_word first (take (s.at - first) (drop first s.row))

abbrev pub postfix_first : List Terminal → PostfixStart
postfix_first [] = postfix.Other
postfix_first (first ∷ others) = postfix_start first

-- one operator behind an operand that begins at the token `first`
abbrev pub postfix_with : Inner → ℕ → State → PostfixStart → State
postfix_with inner first s postfix.Index = index_behind inner (point_of s) s.at (skipped 1 s)
postfix_with inner first s postfix.Call = call_behind inner (point_of s) (call_place first s) (skipped 1 s)
postfix_with inner first s (postfix.Member through) = member_behind through (point_of s) s.at (skipped 1 s)
postfix_with inner first s (postfix.Count up) = make (event.Count up true s.at) (skipped 1 s)
postfix_with inner first s postfix.Other = s

unfoldable pub postfix_at : Inner → ℕ → State → State
postfix_at inner first s = if nat_le s.levels inner.most then postfix_with inner first s (postfix_first (rest s)) else stopped s

abbrev pub postfix_turn : Inner → ℕ → (State → State) → State → State
postfix_turn inner first go s = if goes s && goes_on (postfix_first (rest s)) then go (postfix_at inner first s) else s

unfoldable pub postfixes : Inner → ℕ → ℕ → State → State
postfixes inner first zero s = s
postfixes inner first (suc count) s = postfix_turn inner first (postfixes inner first count) s

-- each takes a token, so that there are no more of them than tokens
abbrev pub all_postfixes : Inner → ℕ → State → State
all_postfixes inner first s = postfixes inner first (length (rest s) + 1) s

-- an operand that begins at the token `first`, from behind its primary expression on
unfoldable pub postfixes_from : Inner → ℕ → State → State
postfixes_from inner first s = if goes s then as_operand true (all_postfixes inner first s) else s

-- Members and items of `__builtin_offsetof` behind the first member (C11 7.19).
unfoldable pub path_member : State → State
path_member s = if has_first is_name (rest s) then write (event.PathMember s.at) (skipped 1 s) else lost s

unfoldable pub path_index : Inner → State → State
path_index inner s = write event.PathIndex (mark (codes "]") (ask_whole inner wanted.Conditional s))

abbrev pub path_with : (State → State) → Inner → State → State
path_with go inner s =
    if has_mark (codes ".") (rest s) then go (path_member (skipped 1 s))
    else (if has_mark (codes "[") (rest s) then go (path_index inner (skipped 1 s)) else s)

abbrev pub path_turn : Inner → (State → State) → State → State
path_turn inner go s = if goes s then path_with go inner s else s

unfoldable pub path : Inner → ℕ → State → State
path inner zero s = lost s
path inner (suc count) s = path_turn inner (path inner count) s

abbrev pub whole_path : Inner → State → State
whole_path inner s = path inner (length (rest s) + 1) s

unfoldable pub offset_path : Inner → ℕ → State → State
offset_path inner at s =
    if goes s
    then (if has_first is_name (rest s)
    then postfixes_from inner at (make (event.OffsetOf at) (mark (codes ")") (whole_path inner (write (event.Path s.at) (skipped 1 s)))))
    else lost s)
    else s

unfoldable pub offset_of : Inner → ℕ → State → State
offset_of inner at s = offset_path inner at (mark (codes ",") (type_name inner (mark (codes "(") s)))

-- over the rest of what stands in brackets, up to the one that closes them
abbrev pub over_to : State → Option (List Terminal) → State
over_to s None = lost s
over_to s (Some others) = skipped (length (rest s) - length others) s

unfoldable pub over_matched : State → State
over_matched s = if goes s then over_to s (behind_matched (41 ∷ []) (rest s)) else s

unfoldable pub assert_fail : Inner → ℕ → State → State
assert_fail inner at s = postfixes_from inner at (make (event.AssertFail at) (over_matched (mark (codes "(") s)))

-- what follows a `(`: a block in a statement expression, or the type of a cast (C11 6.5.4)
unfoldable pub inner_closed : ℕ → State → State
inner_closed at s = make (event.Inner at (s.at - 1)) (mark (codes ")") s)

unfoldable pub statement_expression : Inner → ℕ → State → State
statement_expression inner at s = postfixes_from inner at (inner_closed at (block inner s))

unfoldable pub cast_to : Inner → ℕ → State → State
cast_to inner at s = as_operand false (wrap (event.Cast at) (ask inner wanted.Cast (mark (codes ")") (type_name inner s))))

unfoldable pub bracket : Inner → ℕ → State → State
bracket inner at s = if has_mark (codes "{") (rest s) then statement_expression inner at s else cast_to inner at s

-- `sizeof` of a type or of a unary expression (C11 6.5.3.4)
abbrev pub size_of_type : Inner → ℕ → State → State
size_of_type inner at s = as_operand true (make (event.SizeOfType at) (mark (codes ")") (type_name inner s)))

unfoldable pub size_of : Inner → ℕ → State → State
size_of inner at s =
    if begins_type_in_brackets s.scope (rest s)
    then size_of_type inner at (skipped 1 s)
    else as_operand true (wrap (event.SizeOf at) (unary_alone (ask inner wanted.Cast s)))

abbrev pub operand_first : List Terminal → OperandStart
operand_first [] = start.Other
operand_first (first ∷ others) = operand_start first

-- whether an operand begins there
abbrev pub begins : OperandStart → Bool
begins start.Other = false
begins _ = true

-- an operand that begins with a mark or a word at the token `at`, from behind that on
abbrev pub counted : Inner → Bool → ℕ → State → State
counted inner up at s = as_operand true (wrap (event.Count up false at) (unary_alone (ask inner wanted.Cast s)))

abbrev pub unary : Inner → UnaryOp → ℕ → State → State
unary inner op at s = as_operand true (wrap (event.Unary op at) (ask inner wanted.Cast s))

abbrev pub prefixed : Inner → ℕ → State → OperandStart → State
prefixed inner at s start.Bracket = bracket inner at s
prefixed inner at s (start.Count up) = counted inner up at s
prefixed inner at s (start.Unary op) = unary inner op at s
prefixed inner at s start.SizeOf = size_of inner at s
prefixed inner at s start.OffsetOf = offset_of inner at s
prefixed inner at s start.AssertFail = assert_fail inner at s
prefixed inner at s _ = s

-- an operand that begins with a name or a constant
abbrev pub primary : Inner → Event → State → State
primary inner event s = postfixes_from inner s.at (make event (skipped 1 s))

abbrev pub plain_with : Inner → State → OperandStart → State
plain_with inner s start.Name = primary inner (event.Name s.at) s
plain_with inner s start.Constant = primary inner (event.Constant s.at) s
plain_with inner s start.Other = lost s
plain_with inner s first = prefixed inner s.at (skipped 1 s) first

-- an operand that begins with no bracket around an expression
unfoldable pub plain : Inner → State → State
plain inner s = if goes s then plain_with inner s (operand_first (rest s)) else s

-- whether the row begins with a `(` around an expression
abbrev pub opens_row : List Names → List Terminal → Bool
opens_row scope [] = false
opens_row scope (first ∷ row) = opens scope first row

-- how many of them the row begins with
unfoldable pub opened : List Names → List Terminal → ℕ
opened scope [] = 0
opened scope (first ∷ row) = if opens scope first row then 1 + opened scope row else 0

-- the expression in brackets that begin at the token `first`, from its first operand on, and the operators behind them
unfoldable pub closed : Inner → ℕ → State → State
closed inner first s = postfixes_from inner first (mark (codes ")") (whole (expression_from inner (whole s))))

-- so many brackets, the innermost first; the outermost begins at the token `first`
unfoldable pub all_closed : Inner → ℕ → ℕ → State → State
all_closed inner first zero s = s
all_closed inner first (suc count) s = all_closed inner first count (closed inner (first + count) s)

-- an operand (C11 6.5.4)
abbrev pub cast_behind : Inner → ℕ → State → State
cast_behind inner count s = all_closed inner s.at count (plain inner (skipped count s))

unfoldable pub cast : Inner → State → State
cast inner s = if goes s then cast_behind inner (opened s.scope (rest s)) s else s
