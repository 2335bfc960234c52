-- What is found of an expression by its row is what the program says that a context stands for.
use Rattle.std.proofs.Common.{◌≡◌, ℕ, ◌<◌, Bool, true, false, ◌&&◌, List, [], ◌∷◌, length, map, Option, None, Some, option_map, nat_eq, nat_lt, refl, sym, ap, ◌∙◌, if◌then◌else◌}
use Rattle.std.specs.Prelude.{option_and_then, IfSome}
use Rattle.std.specs.Option.{option_map_or}
use Rattle.cbase.specs.declared.ctype.CType.TheVariants.{Void as VoidType}
use Rattle.cbase.specs.declared.tree.expr.Expr.{Expr}
use Rattle.typing.specs.ctypes.Table.{type_at}
use Rattle.typing.specs.Initialisers.{row_of, row_here as handed_here, or_else as or_handed}
use Rattle.typing.specs.Outcomes.{ExpressionRow as Row}
use Rattle.expressions.specs.declared.handed_row.HandedRow.{HandedRow}
use Rattle.expressions.specs.declared.handed_row.HandedRow.TheVariants.{Expression, Store, Object, Link, Function, Parameter}
use Rattle.expressions.specs.Context.{Context}
use Rattle.expressions.specs.Numbers.{Numbering, entity_at, handed_at}
use Rattle.expressions.proofs.Growth.{agrees_at}
use Rattle.c_machine.specs.Program.{Program, type_of, entity_of, constant_of}
use Rattle.c_text.specs.declared.expression_row.ExpressionRow.{ExpressionRow}
use Rattle.c_text.specs.Rows.{row_here, row_in, or_else, stands_known, is_known, are_known}
use Rattle.c_text.specs.Stands.{StandsFor}
use Rattle.c_text.proofs.NamesStand.{signature_below}

pub or_none : (found : Option ExpressionRow) → or_else found None ≡ found
or_none None = refl
or_none (Some row) = refl

pub or_or : (one other third : Option ExpressionRow) → or_else (or_else one other) third ≡ or_else one (or_else other third)
or_or None other third = refl
or_or (Some row) other third = refl

-- a row as a numbering reads it
abbrev row_by : Numbering → ExpressionRow → Row
row_by n row = record { number = row.number; ctype = n.ctype row.ctype; stands = option_map (entity_at n) row.stands; value = row.value }

or_else-mapped : (n : Numbering) (one other : Option ExpressionRow) →
    or_handed (option_map (row_by n) one) (option_map (row_by n) other) ≡ option_map (row_by n) (or_else one other)
or_else-mapped n None other = refl
or_else-mapped n (Some row) other = refl

here-mapped : (n : Numbering) (number : ℕ) (row : HandedRow) → handed_here number (handed_at n row) ≡ option_map (row_by n) (row_here number row)
here-mapped n number (Expression own ctype stands value) = at (nat_eq number own) (record { number = own; ctype = ctype; stands = stands; value = value })
  where
    at : (same : Bool) (row : ExpressionRow) → (if same then Some (row_by n row) else None) ≡ option_map (row_by n) (if same then Some row else None)
    at true row = refl
    at false row = refl
here-mapped n number (Store object offset ctype own) = refl
here-mapped n number (Object token ctype fixed zeroed) = refl
here-mapped n number (Link token first) = refl
here-mapped n number (Function token result) = refl
here-mapped n number (Parameter token ctype) = refl

row_of-mapped : (n : Numbering) (number : ℕ) (handed : List HandedRow) →
    row_of number (map (handed_at n) handed) ≡ option_map (row_by n) (row_in number handed)
row_of-mapped n number [] = refl
row_of-mapped n number (row ∷ rest) =
    ap (λ (found : Option Row). or_handed found (handed_here number (handed_at n row))) (row_of-mapped n number rest)
    ∙ ap (λ (found : Option Row). or_handed (option_map (row_by n) (row_in number rest)) found) (here-mapped n number row)
    ∙ or_else-mapped n (row_in number rest) (row_here number row)

-- the row of an expression in the program
row_is : (n : Numbering) (context : Context) (p : Program) (expr : Expr) (number : ℕ) (found : Option ExpressionRow) → StandsFor n context p →
    expr.number ≡ number → row_in number context.handed ≡ found → row_of expr.number p.handed ≡ option_map (row_by n) found
row_is n context p expr number found stands same is =
    ap (λ (k : ℕ). row_of k p.handed) same
    ∙ ap (row_of number) stands.handed
    ∙ row_of-mapped n number context.handed
    ∙ ap (option_map (row_by n)) is

pub constant_is : (n : Numbering) (context : Context) (p : Program) (expr : Expr) (number : ℕ) (found : Option ExpressionRow) → StandsFor n context p →
    expr.number ≡ number → row_in number context.handed ≡ found → option_and_then (λ (row : ExpressionRow). row.value) found ≡ constant_of p expr
constant_is n context p expr number found stands same is =
    at found ∙ ap (option_and_then (λ (row : Row). row.value)) (sym (row_is n context p expr number found stands same is))
  where
    at : (found : Option ExpressionRow) →
        option_and_then (λ (row : ExpressionRow). row.value) found ≡ option_and_then (λ (row : Row). row.value) (option_map (row_by n) found)
    at None = refl
    at (Some row) = refl

pub entity_is : (n : Numbering) (context : Context) (p : Program) (expr : Expr) (number : ℕ) (found : Option ExpressionRow) → StandsFor n context p →
    expr.number ≡ number → row_in number context.handed ≡ found →
    option_map (entity_at n) (option_and_then (λ (row : ExpressionRow). row.stands) found) ≡ entity_of p expr
entity_is n context p expr number found stands same is =
    at found ∙ ap (option_and_then (λ (row : Row). row.stands)) (sym (row_is n context p expr number found stands same is))
  where
    at : (found : Option ExpressionRow) →
        option_map (entity_at n) (option_and_then (λ (row : ExpressionRow). row.stands) found) ≡ option_and_then (λ (row : Row). row.stands) (option_map (row_by n) found)
    at None = refl
    at (Some row) = refl

-- what a row that is found names is of the context
abbrev pub IsTyped : ℕ → Option ExpressionRow → Type 0
IsTyped types found = IfSome found (λ (row : ExpressionRow). row.ctype < types)

abbrev pub IsKnown : ℕ → Option ExpressionRow → Type 0
IsKnown signatures found = IfSome found (λ (row : ExpressionRow). stands_known signatures row.stands ≡ true)

both : (one other : Bool) → one && other ≡ true → (one ≡ true) × (other ≡ true)
both true true is = (refl, refl)
both true false is = absurd cc
both false other is = absurd cc

here_known : (types signatures number : ℕ) (row : HandedRow) → is_known types signatures row ≡ true →
    IsTyped types (row_here number row) × IsKnown signatures (row_here number row)
here_known types signatures number (Expression own ctype stands value) is = at (nat_eq number own)
  where
    at : (same : Bool) → IsTyped types (if same then Some (record { number = own; ctype = ctype; stands = stands; value = value }) else None)
        × IsKnown signatures (if same then Some (record { number = own; ctype = ctype; stands = stands; value = value }) else None)
    at true = (signature_below ctype types (both (nat_lt ctype types) (stands_known signatures stands) is).0, (both (nat_lt ctype types) (stands_known signatures stands) is).1)
    at false = (tt, tt)
here_known types signatures number (Store object offset ctype own) is = (tt, tt)
here_known types signatures number (Object token ctype fixed zeroed) is = (tt, tt)
here_known types signatures number (Link token first) is = (tt, tt)
here_known types signatures number (Function token result) is = (tt, tt)
here_known types signatures number (Parameter token ctype) is = (tt, tt)

or_else_known : (types signatures : ℕ) (one other : Option ExpressionRow) → IsTyped types one × IsKnown signatures one →
    IsTyped types other × IsKnown signatures other → IsTyped types (or_else one other) × IsKnown signatures (or_else one other)
or_else_known types signatures None other is there = there
or_else_known types signatures (Some row) other is there = is

pub in_known : (types signatures number : ℕ) (handed : List HandedRow) → are_known types signatures handed ≡ true →
    IsTyped types (row_in number handed) × IsKnown signatures (row_in number handed)
in_known types signatures number [] is = (tt, tt)
in_known types signatures number (row ∷ rest) is =
    let parts = both (is_known types signatures row) (are_known types signatures rest) is in
    or_else_known types signatures (row_in number rest) (row_here number row) (in_known types signatures number rest parts.1)
    (here_known types signatures number row parts.0)

-- the type of an expression in the program
pub ctype_is : (n : Numbering) (context : Context) (p : Program) (expr : Expr) (number : ℕ) (row : ExpressionRow) → StandsFor n context p →
    expr.number ≡ number → row_in number context.handed ≡ Some row → n.ctype row.ctype ≡ type_of p expr
ctype_is n context p expr number row stands same is =
    ap (λ (found : Option Row). option_map_or (λ (row : Row). row.ctype) found VoidType) (sym (row_is n context p expr number (Some row) stands same is))

pub type_is : (n : Numbering) (context : Context) (p : Program) (expr : Expr) (number : ℕ) (row : ExpressionRow) → StandsFor n context p →
    expr.number ≡ number → row.ctype < length context.types → row_in number context.handed ≡ Some row → type_at context.types row.ctype ≡ type_of p expr
type_is n context p expr number row stands same below is =
    sym (agrees_at n context row.ctype stands.agrees below) ∙ ctype_is n context p expr number row stands same is

pub no_type : (n : Numbering) (context : Context) (p : Program) (expr : Expr) (number : ℕ) → StandsFor n context p →
    expr.number ≡ number → row_in number context.handed ≡ None → VoidType ≡ type_of p expr
no_type n context p expr number stands same is =
    ap (λ (found : Option Row). option_map_or (λ (row : Row). row.ctype) found VoidType) (sym (row_is n context p expr number None stands same is))
