-- The rows of objects that declarations make among what typing hands on, by token.
use Rattle.std.specs.Prelude.{◌≡◌, ℕ, List, nat_eq, Option, None, Some, if◌then◌else◌}
use Rattle.std.specs.Map.{lookup}
use Rattle.typing.specs.Outcomes.{ObjectRow as Row}
use Rattle.expressions.specs.declared.handed_row.HandedRow.{HandedRow}
use Rattle.expressions.specs.declared.handed_row.HandedRow.TheVariants.{Expression, Store, Object, Link, Function, Parameter}
use Rattle.expressions.specs.Numbers.{Numbering}
use Rattle.c_text.specs.FirstRows.{first_in}
use Rattle.c_text.specs.declared.object_row.ObjectRow.{ObjectRow}

abbrev pub object_here : ℕ → HandedRow → Option ObjectRow
object_here token (Expression own ctype stands value) = None
object_here token (Store object offset ctype own) = None
object_here token (Object own ctype fixed zeroed) =
    if nat_eq own token then Some (record { token = own; ctype = ctype; fixed = fixed; zeroed = zeroed }) else None
object_here token (Link own first) = None
object_here token (Function own result) = None
object_here token (Parameter own ctype) = None

-- the objects of what is handed on
abbrev pub AreObjects : List HandedRow → List (ℕ × ObjectRow) → Type 0
AreObjects handed objects = (token : ℕ) → lookup (nat_eq token) objects ≡ first_in (object_here token) handed

-- a row as a numbering reads it
abbrev pub object_by : Numbering → ObjectRow → Row
object_by n row = record { token = row.token; ctype = n.ctype row.ctype; fixed = row.fixed; zeroed = row.zeroed }
