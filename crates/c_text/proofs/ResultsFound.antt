-- The result of a function is what the program says that a context stands for.
use Rattle.std.proofs.Common.{◌≡◌, ℕ, ◌<◌, Bool, true, false, List, [], ◌∷◌, map, Option, None, Some, nat_eq, refl, sym, ap, ◌∙◌, if◌then◌else◌}
use Rattle.std.specs.Prelude.{IfSome}
use Rattle.std.specs.Option.{option_map_or}
use Rattle.cbase.specs.declared.ctype.CType.TheVariants.{Void as VoidType}
use Rattle.typing.specs.Outcomes.{Handed}
use Rattle.expressions.specs.declared.handed_row.HandedRow.{HandedRow}
use Rattle.expressions.specs.declared.handed_row.HandedRow.TheVariants.{Expression, Store, Object, Link, Function, Parameter}
use Rattle.expressions.specs.Context.{Context}
use Rattle.expressions.specs.Numbers.{Numbering, handed_at}
use Rattle.c_machine.specs.Program.{Program, result_in}
use Rattle.c_text.specs.FirstRows.{or_else, first_in}
use Rattle.c_text.specs.Results.{result_here}
use Rattle.c_text.specs.Rows.{is_known, are_known}
use Rattle.c_text.specs.Stands.{StandsFor}
use Rattle.c_text.proofs.FirstRows.{first_has}
use Rattle.c_text.proofs.NamesStand.{signature_below}

result_mapped : (n : Numbering) (token : ℕ) (handed : List HandedRow) →
    option_map_or n.ctype (first_in (result_here token) handed) VoidType ≡ result_in (map (handed_at n) handed) token
result_mapped n token [] = refl
result_mapped n token (Expression own ctype stands value ∷ rest) = result_mapped n token rest
result_mapped n token (Store object offset ctype own ∷ rest) = result_mapped n token rest
result_mapped n token (Object own ctype fixed zeroed ∷ rest) = result_mapped n token rest
result_mapped n token (Link own first ∷ rest) = result_mapped n token rest
result_mapped n token (Function own result ∷ rest) = at (nat_eq own token) (result_mapped n token rest)
  where
    at : (same : Bool) → option_map_or n.ctype (first_in (result_here token) rest) VoidType ≡ result_in (map (handed_at n) rest) token →
        option_map_or n.ctype (or_else (if same then Some result else None) (first_in (result_here token) rest)) VoidType
        ≡ (if same then n.ctype result else result_in (map (handed_at n) rest) token)
    at true is = refl
    at false is = is
result_mapped n token (Parameter own ctype ∷ rest) = result_mapped n token rest

pub result_is : (n : Numbering) (context : Context) (p : Program) (token : ℕ) (found : Option ℕ) → StandsFor n context p →
    first_in (result_here token) context.handed ≡ found → option_map_or n.ctype found VoidType ≡ result_in p.handed token
result_is n context p token found stands is =
    ap (λ (found : Option ℕ). option_map_or n.ctype found VoidType) (sym is)
    ∙ result_mapped n token context.handed ∙ sym (ap (λ (handed : List Handed). result_in handed token) stands.handed)

-- its type is one of the context
here_typed : (types signatures token : ℕ) (row : HandedRow) → is_known types signatures row ≡ true →
    IfSome (result_here token row) (λ (ctype : ℕ). ctype < types)
here_typed types signatures token (Expression own ctype stands value) is = tt
here_typed types signatures token (Store object offset ctype own) is = tt
here_typed types signatures token (Object own ctype fixed zeroed) is = tt
here_typed types signatures token (Link own first) is = tt
here_typed types signatures token (Function own result) is = at (nat_eq own token)
  where
    at : (same : Bool) → IfSome (if same then Some result else None) (λ (ctype : ℕ). ctype < types)
    at true = signature_below result types is
    at false = tt
here_typed types signatures token (Parameter own ctype) is = tt

pub result_typed : (types signatures token : ℕ) (handed : List HandedRow) → are_known types signatures handed ≡ true →
    IfSome (first_in (result_here token) handed) (λ (ctype : ℕ). ctype < types)
result_typed types signatures token handed is =
    first_has (result_here token) (λ (ctype : ℕ). ctype < types) types signatures (here_typed types signatures token) handed is
