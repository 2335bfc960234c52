-- What is found of a store by its row is what the program says that a context stands for.
use Rattle.std.proofs.Common.{◌≡◌, ℕ, ◌<◌, Bool, true, false, ◌&&◌, List, [], ◌∷◌, map, Option, None, Some, option_map, nat_eq, refl, sym, ap, ◌∙◌, if◌then◌else◌}
use Rattle.std.specs.Prelude.{IfSome}
use Rattle.std.specs.Map.{lookup}
use Rattle.std.proofs.lemmas.Bool.{eqb-true}
use Rattle.typing.specs.Outcomes.{Store as Row, Handed}
use Rattle.expressions.specs.declared.handed_row.HandedRow.{HandedRow}
use Rattle.expressions.specs.declared.handed_row.HandedRow.TheVariants.{Expression, Store, Object, Link, Function, Parameter}
use Rattle.expressions.specs.Context.{Context}
use Rattle.expressions.specs.Numbers.{Numbering, handed_at}
use Rattle.c_machine.specs.Program.{Program, store_in}
use Rattle.c_text.specs.declared.store_row.StoreKey.{StoreKey}
use Rattle.c_text.specs.declared.store_row.StoreRow.{StoreRow}
use Rattle.c_text.specs.FirstRows.{or_else, first_in}
use Rattle.c_text.specs.Stores.{is_key, store_here}
use Rattle.c_text.specs.Rows.{is_known, are_known}
use Rattle.c_text.specs.Stands.{StandsFor}
use Rattle.c_text.proofs.FirstRows.{both, comes_where, first_has, stays_where}
use Rattle.c_text.proofs.NamesStand.{signature_below}

-- the same look-up, where the object and the expression are the same
same_look_up : (stores : List (StoreKey × StoreRow)) (own place object number : ℕ) → nat_eq own object && nat_eq place number ≡ true →
    lookup (is_key object number) stores ≡ lookup (is_key own place) stores
same_look_up stores own place object number same =
    let parts = both (nat_eq own object) (nat_eq place number) same in
    ap (λ (k : ℕ). lookup (is_key k number) stores) (sym (eqb-true own object parts.0))
    ∙ ap (λ (k : ℕ). lookup (is_key own k) stores) (sym (eqb-true place number parts.1))

pub stays : (stores : List (StoreKey × StoreRow)) (row there : StoreRow) (object number : ℕ) → lookup (is_key row.object row.number) stores ≡ Some there →
    lookup (is_key object number) stores
    ≡ or_else (lookup (is_key object number) stores) (if nat_eq row.object object && nat_eq row.number number then Some row else None)
stays stores row there object number is =
    stays_where (lookup (is_key object number) stores) (nat_eq row.object object && nat_eq row.number number) row there
    (λ same. same_look_up stores row.object row.number object number same ∙ is)

pub comes : (stores : List (StoreKey × StoreRow)) (row : StoreRow) (object number : ℕ) → lookup (is_key row.object row.number) stores ≡ None →
    (if nat_eq row.object object && nat_eq row.number number then Some row else lookup (is_key object number) stores)
    ≡ or_else (lookup (is_key object number) stores) (if nat_eq row.object object && nat_eq row.number number then Some row else None)
comes stores row object number is =
    comes_where (lookup (is_key object number) stores) (nat_eq row.object object && nat_eq row.number number) row
    (λ same. same_look_up stores row.object row.number object number same ∙ is)

-- a row as a numbering reads it
abbrev pub store_by : Numbering → StoreRow → Row
store_by n row = record { object = row.object; offset = row.offset; ctype = n.ctype row.ctype; number = row.number }

store_mapped : (n : Numbering) (token number : ℕ) (handed : List HandedRow) →
    option_map (store_by n) (first_in (store_here token number) handed) ≡ store_in (map (handed_at n) handed) token number
store_mapped n token number [] = refl
store_mapped n token number (Expression own ctype stands value ∷ rest) = store_mapped n token number rest
store_mapped n token number (Store object offset ctype own ∷ rest) =
    at (nat_eq object token && nat_eq own number) (record { object = object; offset = offset; ctype = ctype; number = own })
    (store_mapped n token number rest)
  where
    at : (same : Bool) (row : StoreRow) → option_map (store_by n) (first_in (store_here token number) rest) ≡ store_in (map (handed_at n) rest) token number →
        option_map (store_by n) (or_else (if same then Some row else None) (first_in (store_here token number) rest))
        ≡ (if same then Some (store_by n row) else store_in (map (handed_at n) rest) token number)
    at true row is = refl
    at false row is = is
store_mapped n token number (Object own ctype fixed zeroed ∷ rest) = store_mapped n token number rest
store_mapped n token number (Link own first ∷ rest) = store_mapped n token number rest
store_mapped n token number (Function own result ∷ rest) = store_mapped n token number rest
store_mapped n token number (Parameter own ctype ∷ rest) = store_mapped n token number rest

pub store_is : (n : Numbering) (context : Context) (p : Program) (token number : ℕ) (found : Option StoreRow) → StandsFor n context p →
    first_in (store_here token number) context.handed ≡ found → option_map (store_by n) found ≡ store_in p.handed token number
store_is n context p token number found stands is =
    ap (option_map (store_by n)) (sym is)
    ∙ store_mapped n token number context.handed ∙ sym (ap (λ (handed : List Handed). store_in handed token number) stands.handed)

-- its type is one of the context
here_typed : (types signatures token number : ℕ) (row : HandedRow) → is_known types signatures row ≡ true →
    IfSome (store_here token number row) (λ (row : StoreRow). row.ctype < types)
here_typed types signatures token number (Expression own ctype stands value) is = tt
here_typed types signatures token number (Store object offset ctype own) is = at (nat_eq object token && nat_eq own number)
  where
    at : (same : Bool) →
        IfSome (if same then Some (record { object = object; offset = offset; ctype = ctype; number = own }) else None) (λ (row : StoreRow). row.ctype < types)
    at true = signature_below ctype types is
    at false = tt
here_typed types signatures token number (Object own ctype fixed zeroed) is = tt
here_typed types signatures token number (Link own first) is = tt
here_typed types signatures token number (Function own result) is = tt
here_typed types signatures token number (Parameter own ctype) is = tt

pub store_typed : (types signatures token number : ℕ) (handed : List HandedRow) → are_known types signatures handed ≡ true →
    IfSome (first_in (store_here token number) handed) (λ (row : StoreRow). row.ctype < types)
store_typed types signatures token number handed is =
    first_has (store_here token number) (λ (row : StoreRow). row.ctype < types) types signatures (here_typed types signatures token number) handed is
