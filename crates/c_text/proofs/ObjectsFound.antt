-- What is found of an object by its row is what the program says that a context stands for.
use Rattle.std.proofs.Common.{◌≡◌, ℕ, ◌<◌, Bool, true, false, ◌||◌, List, [], ◌∷◌, map, Option, None, Some, option_map, nat_eq, refl, sym, ap, ◌∙◌, if◌then◌else◌}
use Rattle.std.specs.Prelude.{IfSome}
use Rattle.typing.specs.Outcomes.{Handed}
use Rattle.expressions.specs.declared.handed_row.HandedRow.{HandedRow}
use Rattle.expressions.specs.declared.handed_row.HandedRow.TheVariants.{Expression, Store, Object, Link, Function, Parameter}
use Rattle.expressions.specs.Context.{Context}
use Rattle.expressions.specs.Numbers.{Numbering, handed_at}
use Rattle.c_machine.specs.Program.{Program, object_in}
use Rattle.c_text.specs.declared.object_row.ObjectRow.{ObjectRow}
use Rattle.c_text.specs.FirstRows.{or_else, first_in}
use Rattle.c_text.specs.Objects.{object_here, object_by}
use Rattle.c_text.specs.Rows.{is_known, are_known}
use Rattle.c_text.specs.Stands.{StandsFor}
use Rattle.c_text.proofs.FirstRows.{first_has}
use Rattle.c_text.proofs.NamesStand.{signature_below}

object_mapped : (n : Numbering) (token : ℕ) (handed : List HandedRow) →
    option_map (object_by n) (first_in (object_here token) handed) ≡ object_in (map (handed_at n) handed) token
object_mapped n token [] = refl
object_mapped n token (Expression own ctype stands value ∷ rest) = object_mapped n token rest
object_mapped n token (Store object offset ctype own ∷ rest) = object_mapped n token rest
object_mapped n token (Object own ctype fixed zeroed ∷ rest) =
    at (nat_eq own token) (record { token = own; ctype = ctype; fixed = fixed; zeroed = zeroed }) (object_mapped n token rest)
  where
    at : (same : Bool) (row : ObjectRow) → option_map (object_by n) (first_in (object_here token) rest) ≡ object_in (map (handed_at n) rest) token →
        option_map (object_by n) (or_else (if same then Some row else None) (first_in (object_here token) rest))
        ≡ (if same then Some (object_by n row) else object_in (map (handed_at n) rest) token)
    at true row is = refl
    at false row is = is
object_mapped n token (Link own first ∷ rest) = object_mapped n token rest
object_mapped n token (Function own result ∷ rest) = object_mapped n token rest
object_mapped n token (Parameter own ctype ∷ rest) = object_mapped n token rest

pub object_is : (n : Numbering) (context : Context) (p : Program) (token : ℕ) (found : Option ObjectRow) → StandsFor n context p →
    first_in (object_here token) context.handed ≡ found → option_map (object_by n) found ≡ object_in p.handed token
object_is n context p token found stands is =
    ap (option_map (object_by n)) (sym is)
    ∙ object_mapped n token context.handed ∙ sym (ap (λ (handed : List Handed). object_in handed token) stands.handed)

-- its type is one of the context
here_typed : (types signatures token : ℕ) (row : HandedRow) → is_known types signatures row ≡ true →
    IfSome (object_here token row) (λ (row : ObjectRow). row.ctype < types)
here_typed types signatures token (Expression own ctype stands value) is = tt
here_typed types signatures token (Store object offset ctype own) is = tt
here_typed types signatures token (Object own ctype fixed zeroed) is = at (nat_eq own token)
  where
    at : (same : Bool) →
        IfSome (if same then Some (record { token = own; ctype = ctype; fixed = fixed; zeroed = zeroed }) else None) (λ (row : ObjectRow). row.ctype < types)
    at true = signature_below ctype types is
    at false = tt
here_typed types signatures token (Link own first) is = tt
here_typed types signatures token (Function own result) is = tt
here_typed types signatures token (Parameter own ctype) is = tt

pub object_typed : (types signatures token : ℕ) (handed : List HandedRow) → are_known types signatures handed ≡ true →
    IfSome (first_in (object_here token) handed) (λ (row : ObjectRow). row.ctype < types)
object_typed types signatures token handed is =
    first_has (object_here token) (λ (row : ObjectRow). row.ctype < types) types signatures (here_typed types signatures token) handed is

-- without linkage its row says whether it lives as long as the program runs
pub fixed_is_static : (linked fixed : Bool) → linked ≡ false → fixed ≡ (linked || fixed)
fixed_is_static true fixed is = absurd cc
fixed_is_static false fixed is = refl
