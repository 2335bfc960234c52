-- The rows of definitions of functions among what typing hands on, by token, with what is handed on behind them.
use Rattle.std.specs.Prelude.{◌≡◌, ℕ, List, [], ◌∷◌, drop, nat_eq, Option, None, Some, option_map, if◌then◌else◌}
use Rattle.std.specs.Map.{lookup}
use Rattle.expressions.specs.declared.handed_row.HandedRow.{HandedRow}
use Rattle.expressions.specs.declared.handed_row.HandedRow.TheVariants.{Expression, Store, Object, Link, Function, Parameter}
use Rattle.typing.specs.Outcomes.{ParameterRow}
use Rattle.c_machine.specs.declared.object.Object.{Object as Made}
use Rattle.c_machine.specs.Program.{Program, size_of}
use Rattle.c_text.specs.FirstRows.{or_else}

-- where the rows behind a row begin, if this is that of a function
abbrev pub function_here : ℕ → ℕ → HandedRow → Option ℕ
function_here token behind (Expression own ctype stands value) = None
function_here token behind (Store object offset ctype own) = None
function_here token behind (Object own ctype fixed zeroed) = None
function_here token behind (Link own first) = None
function_here token behind (Function own result) = if nat_eq own token then Some behind else None
function_here token behind (Parameter own ctype) = None

-- the rows behind the first one of a function
abbrev pub behind_here : ℕ → List HandedRow → HandedRow → Option (List HandedRow)
behind_here token rest row = option_map (λ k. rest) (function_here token 0 row)

abbrev pub behind_in : ℕ → List HandedRow → Option (List HandedRow)
behind_in token [] = None
behind_in token (row ∷ rest) = or_else (behind_here token rest row) (behind_in token rest)

-- the functions of what is handed on
abbrev pub AreFunctions : List HandedRow → List (ℕ × ℕ) → Type 0
AreFunctions handed functions = (token : ℕ) → option_map (λ behind. drop behind handed) (lookup (nat_eq token) functions) ≡ behind_in token handed

-- the object of a parameter
abbrev pub parameter_object : Program → ParameterRow → Made
parameter_object p param = record { token = param.token; bytes = size_of p param.ctype }
