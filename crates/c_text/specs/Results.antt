-- The results of definitions of functions among what typing hands on, by token.
use Rattle.std.specs.Prelude.{◌≡◌, ℕ, List, nat_eq, Option, None, Some, if◌then◌else◌}
use Rattle.std.specs.Map.{lookup}
use Rattle.expressions.specs.declared.handed_row.HandedRow.{HandedRow}
use Rattle.expressions.specs.declared.handed_row.HandedRow.TheVariants.{Expression, Store, Object, Link, Function, Parameter}
use Rattle.c_text.specs.FirstRows.{first_in}

-- the number of the type of the result, if the row is that of a function
abbrev pub result_here : ℕ → HandedRow → Option ℕ
result_here token (Expression own ctype stands value) = None
result_here token (Store object offset ctype own) = None
result_here token (Object own ctype fixed zeroed) = None
result_here token (Link own first) = None
result_here token (Function own result) = if nat_eq own token then Some result else None
result_here token (Parameter own ctype) = None

-- the results of what is handed on
abbrev pub AreResults : List HandedRow → List (ℕ × ℕ) → Type 0
AreResults handed results = (token : ℕ) → lookup (nat_eq token) results ≡ first_in (result_here token) handed
