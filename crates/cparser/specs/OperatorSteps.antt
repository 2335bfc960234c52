-- Operators behind an operand that is read (C11 6.5.5 to 6.5.17).
use Rattle.std.specs.Prelude.{ℕ, zero, suc, ◌+◌, nat_le, ◌&&◌, if◌then◌else◌, length, Option, None, Some, codes}
use Rattle.cbase.specs.declared.tree.operators.BinaryOp.{BinaryOp}
use Rattle.cbase.specs.declared.tree.operators.BinaryOp.TheVariants.{Comma}
use Rattle.cevents.specs.declared.event.Event.TheVariants as event
use Rattle.cgrammar.specs.Operators.{binary_rows, assignment_rows}
use Rattle.cgrammar.specs.Outcomes.{has_mark}
use Rattle.cparser.specs.State.{State, rest, goes, skipped, stopped, point_of}
use Rattle.cparser.specs.Steps.{Inner, ask, ask_right, back_unless_going, mark_or_back, first_row}
use Rattle.cparser.specs.declared.point.Point.{Point}
use Rattle.cparser.specs.declared.wanted.Wanted.TheVariants as wanted

-- a binary operator that is no looser than `loosest`
abbrev pub operation_with : (State → State) → Inner → ℕ → State → Option (ℕ × BinaryOp) → State
operation_with go inner loosest s None = s
operation_with go inner loosest s (Some entry) =
    if nat_le loosest entry.0
    then (if nat_le s.levels inner.most
    then go (ask_right inner (wanted.Operation (entry.0 + 1)) (point_of s) (event.Binary entry.1 s.at) (skipped 1 s))
    else stopped s)
    else s

abbrev pub operation_turn : Inner → ℕ → (State → State) → State → State
operation_turn inner loosest go s = if goes s then operation_with go inner loosest s (first_row binary_rows (rest s)) else s

-- binary operators, each to the left
unfoldable pub operations : Inner → ℕ → ℕ → State → State
operations inner loosest zero s = s
operations inner loosest (suc count) s = operation_turn inner loosest (operations inner loosest count) s

-- each takes a token, so that there are no more of them than tokens
abbrev pub all_operations : Inner → ℕ → State → State
all_operations inner loosest s = operations inner loosest (length (rest s) + 1) s

-- what stands behind a `?`, up to the end of what stands behind the `:`
unfoldable pub choice_behind : Inner → Point → ℕ → State → State
choice_behind inner point at s =
    ask_right inner wanted.Conditional point (event.Choose at) (mark_or_back (codes ":") point (back_unless_going point (ask inner wanted.Expression s)))

unfoldable pub choice : Inner → State → State
choice inner s =
    if goes s
    then (if has_mark (codes "?") (rest s)
    then (if nat_le s.levels inner.most then choice_behind inner (point_of s) s.at (skipped 1 s) else stopped s)
    else s)
    else s

unfoldable pub conditional_from : Inner → State → State
conditional_from inner s = choice inner (all_operations inner 0 s)

-- an assignment operator behind a unary expression
abbrev pub assignment_with : Inner → State → Option (Option BinaryOp) → State
assignment_with inner s None = conditional_from inner s
assignment_with inner s (Some op) =
    if s.unary
    then (if nat_le s.levels inner.most
    then ask_right inner wanted.Assignment (point_of s) (event.Assign op s.at) (skipped 1 s)
    else stopped s)
    else conditional_from inner s

unfoldable pub assignment_from : Inner → State → State
assignment_from inner s = if goes s then assignment_with inner s (first_row assignment_rows (rest s)) else s

-- commas, each to the left
abbrev pub comma_with : (State → State) → Inner → State → State
comma_with go inner s =
    if nat_le s.levels inner.most
    then go (ask_right inner wanted.Assignment (point_of s) (event.Binary Comma s.at) (skipped 1 s))
    else stopped s

abbrev pub comma_turn : Inner → (State → State) → State → State
comma_turn inner go s = if goes s && has_mark (codes ",") (rest s) then comma_with go inner s else s

unfoldable pub commas : Inner → ℕ → State → State
commas inner zero s = s
commas inner (suc count) s = comma_turn inner (commas inner count) s

abbrev pub all_commas : Inner → State → State
all_commas inner s = commas inner (length (rest s) + 1) s

unfoldable pub expression_from : Inner → State → State
expression_from inner s = all_commas inner (assignment_from inner s)
