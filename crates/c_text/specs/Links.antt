-- The rows of names that have linkage among what typing hands on, by token.
use Rattle.std.specs.Prelude.{◌≡◌, ℕ, List, nat_eq, Option, None, Some, if◌then◌else◌}
use Rattle.std.specs.Map.{lookup}
use Rattle.expressions.specs.declared.handed_row.HandedRow.{HandedRow}
use Rattle.expressions.specs.declared.handed_row.HandedRow.TheVariants.{Expression, Store, Object, Link, Function, Parameter}
use Rattle.c_text.specs.FirstRows.{first_in}

-- by how many tokens the name that declared it first stands
abbrev pub link_here : ℕ → HandedRow → Option ℕ
link_here token (Expression own ctype stands value) = None
link_here token (Store object offset ctype own) = None
link_here token (Object own ctype fixed zeroed) = None
link_here token (Link own first) = if nat_eq own token then Some first else None
link_here token (Function own result) = None
link_here token (Parameter own ctype) = None

-- the links of what is handed on
abbrev pub AreLinks : List HandedRow → List (ℕ × ℕ) → Type 0
AreLinks handed links = (token : ℕ) → lookup (nat_eq token) links ≡ first_in (link_here token) handed
