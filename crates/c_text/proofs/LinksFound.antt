-- What is found of a name that has linkage is what the program says that a context stands for.
use Rattle.std.proofs.Common.{◌≡◌, ℕ, Bool, true, false, ◌||◌, List, [], ◌∷◌, map, Option, None, Some, is_some, nat_eq, refl, sym, ap, ◌∙◌, if◌then◌else◌}
use Rattle.std.specs.Option.{option_map_or}
use Rattle.typing.specs.Outcomes.{Handed}
use Rattle.expressions.specs.declared.handed_row.HandedRow.{HandedRow}
use Rattle.expressions.specs.declared.handed_row.HandedRow.TheVariants.{Expression, Store, Object, Link, Function, Parameter}
use Rattle.expressions.specs.Context.{Context}
use Rattle.expressions.specs.Numbers.{Numbering, handed_at}
use Rattle.c_machine.specs.Program.{Program, first_in as token_in, first_token, is_linked_in}
use Rattle.c_text.specs.FirstRows.{or_else, first_in}
use Rattle.c_text.specs.Links.{link_here}
use Rattle.c_text.specs.Stands.{StandsFor}

token_mapped : (n : Numbering) (token : ℕ) (handed : List HandedRow) →
    option_map_or (λ (first : ℕ). first) (first_in (link_here token) handed) token ≡ token_in (map (handed_at n) handed) token
token_mapped n token [] = refl
token_mapped n token (Expression own ctype stands value ∷ rest) = token_mapped n token rest
token_mapped n token (Store object offset ctype own ∷ rest) = token_mapped n token rest
token_mapped n token (Object own ctype fixed zeroed ∷ rest) = token_mapped n token rest
token_mapped n token (Link own first ∷ rest) = at (nat_eq own token) (token_mapped n token rest)
  where
    at : (same : Bool) → option_map_or (λ (first : ℕ). first) (first_in (link_here token) rest) token ≡ token_in (map (handed_at n) rest) token →
        option_map_or (λ (first : ℕ). first) (or_else (if same then Some first else None) (first_in (link_here token) rest)) token
        ≡ (if same then first else token_in (map (handed_at n) rest) token)
    at true is = refl
    at false is = is
token_mapped n token (Function own result ∷ rest) = token_mapped n token rest
token_mapped n token (Parameter own ctype ∷ rest) = token_mapped n token rest

pub token_is : (n : Numbering) (context : Context) (p : Program) (token : ℕ) (found : Option ℕ) → StandsFor n context p →
    first_in (link_here token) context.handed ≡ found → option_map_or (λ (first : ℕ). first) found token ≡ first_token p token
token_is n context p token found stands is =
    ap (λ (found : Option ℕ). option_map_or (λ (first : ℕ). first) found token) (sym is)
    ∙ token_mapped n token context.handed ∙ sym (ap (λ (handed : List Handed). token_in handed token) stands.handed)

-- whether it is there
linked_mapped : (n : Numbering) (token : ℕ) (handed : List HandedRow) →
    is_some (first_in (link_here token) handed) ≡ is_linked_in (map (handed_at n) handed) token
linked_mapped n token [] = refl
linked_mapped n token (Expression own ctype stands value ∷ rest) = linked_mapped n token rest
linked_mapped n token (Store object offset ctype own ∷ rest) = linked_mapped n token rest
linked_mapped n token (Object own ctype fixed zeroed ∷ rest) = linked_mapped n token rest
linked_mapped n token (Link own first ∷ rest) = at (nat_eq own token) (linked_mapped n token rest)
  where
    at : (same : Bool) → is_some (first_in (link_here token) rest) ≡ is_linked_in (map (handed_at n) rest) token →
        is_some (or_else (if same then Some first else None) (first_in (link_here token) rest)) ≡ (same || is_linked_in (map (handed_at n) rest) token)
    at true is = refl
    at false is = is
linked_mapped n token (Function own result ∷ rest) = linked_mapped n token rest
linked_mapped n token (Parameter own ctype ∷ rest) = linked_mapped n token rest

pub linked_is : (n : Numbering) (context : Context) (p : Program) (token : ℕ) (found : Option ℕ) → StandsFor n context p →
    first_in (link_here token) context.handed ≡ found → is_some found ≡ is_linked_in p.handed token
linked_is n context p token found stands is =
    ap is_some (sym is) ∙ linked_mapped n token context.handed ∙ sym (ap (λ (handed : List Handed). is_linked_in handed token) stands.handed)
