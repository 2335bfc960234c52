-- The rows of stores of initialisers among what typing hands on, by the token of the object and the number of the expression.
use Rattle.std.specs.Prelude.{◌≡◌, ℕ, Bool, ◌&&◌, List, nat_eq, Option, None, Some, if◌then◌else◌}
use Rattle.std.specs.Map.{lookup}
use Rattle.expressions.specs.declared.handed_row.HandedRow.{HandedRow}
use Rattle.expressions.specs.declared.handed_row.HandedRow.TheVariants.{Expression, Store, Object, Link, Function, Parameter}
use Rattle.c_text.specs.FirstRows.{first_in}
use Rattle.c_text.specs.declared.store_row.StoreKey.{StoreKey}
use Rattle.c_text.specs.declared.store_row.StoreRow.{StoreRow}

abbrev pub store_here : ℕ → ℕ → HandedRow → Option StoreRow
store_here token number (Expression own ctype stands value) = None
store_here token number (Store object offset ctype own) =
    if nat_eq object token && nat_eq own number then Some (record { object = object; offset = offset; ctype = ctype; number = own }) else None
store_here token number (Object own ctype fixed zeroed) = None
store_here token number (Link own first) = None
store_here token number (Function own result) = None
store_here token number (Parameter own ctype) = None

-- whether a key is that of a store
abbrev pub is_key : ℕ → ℕ → StoreKey → Bool
is_key object number key = nat_eq object key.object && nat_eq number key.number

-- the stores of what is handed on
abbrev pub AreStores : List HandedRow → List (StoreKey × StoreRow) → Type 0
AreStores handed stores = (object number : ℕ) → lookup (is_key object number) stores ≡ first_in (store_here object number) handed
