-- The parameters of a function are those that its program says that a context stands for.
use Rattle.std.proofs.Common.{◌≡◌, ℕ, ◌+◌, Bool, true, false, List, [], ◌∷◌, map, drop, Option, None, Some, option_map, nat_eq, refl, sym, ap, ◌∙◌, if◌then◌else◌}
use Rattle.std.specs.Option.{option_map_or}
use Rattle.std.proofs.lemmas.List.{drop-map}
use Rattle.typing.specs.Outcomes.{Handed}
use Rattle.expressions.specs.declared.handed_row.HandedRow.{HandedRow}
use Rattle.expressions.specs.declared.handed_row.HandedRow.TheVariants.{Expression, Store, Object, Link, Function, Parameter}
use Rattle.expressions.specs.Context.{Context}
use Rattle.expressions.specs.Numbers.{Numbering, handed_at}
use Rattle.c_machine.specs.Program.{Program, parameters_in, leading_parameters}
use Rattle.c_text.specs.FirstRows.{or_else}
use Rattle.c_text.specs.Functions.{function_here, behind_here, behind_in}
use Rattle.c_text.specs.Stands.{StandsFor}
use Rattle.c_text.proofs.FirstRows.{or_mapped, or_or}

-- one more row
here_behind : (handed : List HandedRow) (token behind : ℕ) (row : HandedRow) →
    option_map (λ (k : ℕ). drop k handed) (function_here token behind row) ≡ behind_here token (drop behind handed) row
here_behind handed token behind (Expression own ctype stands value) = refl
here_behind handed token behind (Store object offset ctype own) = refl
here_behind handed token behind (Object own ctype fixed zeroed) = refl
here_behind handed token behind (Link own first) = refl
here_behind handed token behind (Function own result) = at (nat_eq own token)
  where
    at : (same : Bool) → option_map (λ (k : ℕ). drop k handed) (if same then Some behind else None)
        ≡ option_map (λ (k : ℕ). drop behind handed) (if same then Some 0 else None)
    at true = refl
    at false = refl
here_behind handed token behind (Parameter own ctype) = refl

pub one_more : (handed : List HandedRow) (token at : ℕ) (row : HandedRow) (before after : Option ℕ) →
    after ≡ or_else before (function_here token (at + 1) row) → drop at handed ≡ row ∷ drop (at + 1) handed →
    or_else (option_map (λ (k : ℕ). drop k handed) after) (behind_in token (drop (at + 1) handed))
    ≡ or_else (option_map (λ (k : ℕ). drop k handed) before) (behind_in token (drop at handed))
one_more handed token at row before after is front =
    ap (λ (found : Option ℕ). or_else (option_map (λ (k : ℕ). drop k handed) found) (behind_in token (drop (at + 1) handed))) is
    ∙ ap (λ (found : Option (List HandedRow)). or_else found (behind_in token (drop (at + 1) handed)))
    (sym (or_mapped (λ (k : ℕ). drop k handed) before (function_here token (at + 1) row)))
    ∙ or_or (option_map (λ (k : ℕ). drop k handed) before) (option_map (λ (k : ℕ). drop k handed) (function_here token (at + 1) row))
    (behind_in token (drop (at + 1) handed))
    ∙ ap (λ (found : Option (List HandedRow)). or_else (option_map (λ (k : ℕ). drop k handed) before) (or_else found (behind_in token (drop (at + 1) handed))))
    (here_behind handed token (at + 1) row)
    ∙ ap (λ (rows : List HandedRow). or_else (option_map (λ (k : ℕ). drop k handed) before) (behind_in token rows)) (sym front)

-- the rows behind that of a function begin with its parameters
parameters_mapped : (n : Numbering) (token : ℕ) (handed : List HandedRow) →
    option_map_or (λ (rows : List HandedRow). leading_parameters (map (handed_at n) rows)) (behind_in token handed) []
    ≡ parameters_in (map (handed_at n) handed) token
parameters_mapped n token [] = refl
parameters_mapped n token (Expression own ctype stands value ∷ rest) = parameters_mapped n token rest
parameters_mapped n token (Store object offset ctype own ∷ rest) = parameters_mapped n token rest
parameters_mapped n token (Object own ctype fixed zeroed ∷ rest) = parameters_mapped n token rest
parameters_mapped n token (Link own first ∷ rest) = parameters_mapped n token rest
parameters_mapped n token (Function own result ∷ rest) = at (nat_eq own token) (parameters_mapped n token rest)
  where
    at : (same : Bool) →
        option_map_or (λ (rows : List HandedRow). leading_parameters (map (handed_at n) rows)) (behind_in token rest) []
        ≡ parameters_in (map (handed_at n) rest) token →
        option_map_or (λ (rows : List HandedRow). leading_parameters (map (handed_at n) rows))
        (or_else (option_map (λ (k : ℕ). rest) (if same then Some 0 else None)) (behind_in token rest)) []
        ≡ (if same then leading_parameters (map (handed_at n) rest) else parameters_in (map (handed_at n) rest) token)
    at true is = refl
    at false is = is
parameters_mapped n token (Parameter own ctype ∷ rest) = parameters_mapped n token rest

pub no_parameters : (n : Numbering) (context : Context) (p : Program) (token : ℕ) → StandsFor n context p →
    behind_in token context.handed ≡ None → parameters_in p.handed token ≡ []
no_parameters n context p token stands is =
    ap (λ (handed : List Handed). parameters_in handed token) stands.handed
    ∙ sym (parameters_mapped n token context.handed)
    ∙ ap (λ (found : Option (List HandedRow)). option_map_or (λ (rows : List HandedRow). leading_parameters (map (handed_at n) rows)) found []) is

pub parameters_are : (n : Numbering) (context : Context) (p : Program) (token behind : ℕ) → StandsFor n context p →
    behind_in token context.handed ≡ Some (drop behind context.handed) → parameters_in p.handed token ≡ leading_parameters (drop behind p.handed)
parameters_are n context p token behind stands is =
    ap (λ (handed : List Handed). parameters_in handed token) stands.handed
    ∙ sym (parameters_mapped n token context.handed)
    ∙ ap (λ (found : Option (List HandedRow)). option_map_or (λ (rows : List HandedRow). leading_parameters (map (handed_at n) rows)) found []) is
    ∙ ap leading_parameters (sym (drop-map (handed_at n) behind context.handed) ∙ ap (drop behind) (sym stands.handed))
