-- One object more behind others, by its name.
use Rattle.std.proofs.Common.{◌≡◌, ℕ, Bool, true, false, List, [], ◌∷◌, ◌++◌, Option, None, Some, nat_eq, refl, sym, ap, ◌∙◌, subst, if◌then◌else◌}
use Rattle.std.proofs.lemmas.Bool.{eqb-true}
use Rattle.std.specs.Map.{lookup}
use Rattle.c_machine.specs.State.{is_named}
use Rattle.simulation.specs.Names.{Name, variable_in}
use Rattle.lowering.specs.ByToken.{AreByToken}

passed : (front : List Name) (name : Name) (token : ℕ) → is_named name.token token ≡ false → variable_in (front ++ name ∷ []) token ≡ variable_in front token
passed [] name token other = ap (λ (found : Bool). if found then Some name.variable else None) other
passed (first ∷ rest) name token other = ap (λ (found : Option ℕ). if is_named first.token token then Some first.variable else found) (passed rest name token other)

in_front : (front : List Name) (name : Name) (token variable : ℕ) → variable_in front token ≡ Some variable → variable_in (front ++ name ∷ []) token ≡ Some variable
in_front [] name token variable found = absurd cc
in_front (first ∷ rest) name token variable found = at (is_named first.token token) (variable_in rest token) (variable_in (rest ++ name ∷ []) token) (in_front rest name token variable) found
  where
    at : (here : Bool) (found more : Option ℕ) → (found ≡ Some variable → more ≡ Some variable) →
        (if here then Some first.variable else found) ≡ Some variable → (if here then Some first.variable else more) ≡ Some variable
    at true found more onward is = is
    at false found more onward is = onward is

at_last : (front : List Name) (name : Name) (token : ℕ) → variable_in front token ≡ None → is_named name.token token ≡ true →
    variable_in (front ++ name ∷ []) token ≡ Some name.variable
at_last [] name token none own = ap (λ (found : Bool). if found then Some name.variable else None) own
at_last (first ∷ rest) name token none own = at (is_named first.token token) (variable_in rest token) (variable_in (rest ++ name ∷ []) token) (λ none. at_last rest name token none own) none
  where
    at : (here : Bool) (found more : Option ℕ) → (found ≡ None → more ≡ Some name.variable) →
        (if here then Some first.variable else found) ≡ None → (if here then Some first.variable else more) ≡ Some name.variable
    at true found more onward is = absurd cc
    at false found more onward is = onward is

-- an object without a name
pub nameless : (name : Name) (entries : List (ℕ × ℕ)) → name.token ≡ None → (front : List Name) → AreByToken front entries → AreByToken (front ++ name ∷ []) entries
nameless name entries none front are token = are token ∙ sym (passed front name token (ap (λ (own : Option ℕ). is_named own token) none))

-- one whose name is there already
pub stays : (name : Name) (entries : List (ℕ × ℕ)) (own there : ℕ) → name.token ≡ Some own → lookup (nat_eq own) entries ≡ Some there →
    (front : List Name) → AreByToken front entries → AreByToken (front ++ name ∷ []) entries
stays name entries own there named found front are token = at (nat_eq own token) refl
  where
    at : (same : Bool) → nat_eq own token ≡ same → lookup (nat_eq token) entries ≡ variable_in (front ++ name ∷ []) token
    at false other = are token ∙ sym (passed front name token (ap (λ (own : Option ℕ). is_named own token) named ∙ other))
    at true same =
        subst (λ (token : ℕ). lookup (nat_eq token) entries ≡ variable_in (front ++ name ∷ []) token) (eqb-true own token same)
        (found ∙ sym (in_front front name own there (sym (are own) ∙ found)))

-- one whose name is new
pub comes : (name : Name) (entries : List (ℕ × ℕ)) (more : List (ℕ × ℕ)) (own : ℕ) → name.token ≡ Some own → lookup (nat_eq own) entries ≡ None →
    ((token : ℕ) → lookup (nat_eq token) more ≡ (if nat_eq own token then Some name.variable else lookup (nat_eq token) entries)) →
    (front : List Name) → AreByToken front entries → AreByToken (front ++ name ∷ []) more
comes name entries more own named none put front are token = put token ∙ at (nat_eq own token) refl
  where
    at : (same : Bool) → nat_eq own token ≡ same → (if same then Some name.variable else lookup (nat_eq token) entries) ≡ variable_in (front ++ name ∷ []) token
    at false other = are token ∙ sym (passed front name token (ap (λ (own : Option ℕ). is_named own token) named ∙ other))
    at true same =
        let here : is_named name.token token ≡ true = ap (λ (own : Option ℕ). is_named own token) named ∙ same in
        sym (at_last front name token (sym (are token) ∙ subst (λ (token : ℕ). lookup (nat_eq token) entries ≡ None) (eqb-true own token same) none) here)
