-- The names that may be typedefs' stay right for the scopes.
use Rattle.std.proofs.Common.{◌≡◌, ℕ, zero, suc, Bool, true, false, refl, ap, sym, subst, ◌∙◌, List, [], ◌∷◌, get_or, Option, None, Some, is_some, Result, Ok, Err, OnOk, OnErr}
use Rattle.std.specs.Str.{bytes_eq}
use Rattle.std.proofs.lemmas.Slice.Eq.{bytes_eq-Decides}
use Rattle.cgrammar.specs.NameTables.{value_in, with_value}
use Rattle.cgrammar.specs.Scope.{Names, says_typedef, is_typedef_name, first_answer, found, declared, declared_around, left, entered}
use Rattle.cgrammar.specs.Typedefs.{HasTypedefs, IsAmong}
use Rattle.cgrammar.proofs.Bounded.{get-entered}
use Rattle.cgrammar.proofs.NameTables.{put_same, put_other}

-- a name that is put is among them, and each that was
put_among : (name other : List ℕ) (typedefs : Names) → IsAmong other typedefs → IsAmong other (with_value name true typedefs)
put_among name other typedefs among = step (bytes_eq other name) refl
  where
    step : (same : Bool) → bytes_eq other name ≡ same → IsAmong other (with_value name true typedefs)
    step true is =
        let P : List ℕ → Type 0 = λ n. IsAmong n (with_value name true typedefs) in
        subst P (sym ((bytes_eq-Decides other name).0 is)) (ap is_some (put_same name true typedefs))
    step false is = ap is_some (put_other name other true typedefs is) ∙ among

pub put_kept : (name : List ℕ) (typedefs : Names) (scopes : List Names) → HasTypedefs scopes typedefs → HasTypedefs scopes (with_value name true typedefs)
put_kept name typedefs scopes known other at has = put_among name other typedefs (known other at has)

-- what a scope says after it declares a name
said : (name other : List ℕ) (typedef : Bool) (names typedefs : Names) → (typedef ≡ true → IsAmong name typedefs)
    → (value_in other names ≡ Some true → IsAmong other typedefs) → value_in other (with_value name typedef names) ≡ Some true → IsAmong other typedefs
said name other typedef names typedefs noted known has = step (bytes_eq other name) refl
  where
    step : (same : Bool) → bytes_eq other name ≡ same → IsAmong other typedefs
    step true is =
        let P : List ℕ → Type 0 = λ n. value_in n (with_value name typedef names) ≡ Some true in
        let says : value_in name (with_value name typedef names) ≡ Some true = subst P ((bytes_eq-Decides other name).0 is) has in
        let both : Some typedef ≡ Some true = sym (put_same name typedef names) ∙ says in
        let Q : List ℕ → Type 0 = λ n. IsAmong n typedefs in
        subst Q (sym ((bytes_eq-Decides other name).0 is)) (noted cc)
    step false is = known (sym (put_other name other typedef names is) ∙ has)

after_declared : (name : List ℕ) (typedef : Bool) (scopes : List Names) (typedefs : Names) → (typedef ≡ true → IsAmong name typedefs)
    → HasTypedefs scopes typedefs → HasTypedefs (declared name typedef scopes) typedefs
after_declared name typedef [] typedefs noted known other at has = known other at has
after_declared name typedef (names ∷ []) typedefs noted known other zero has = said name other typedef names typedefs noted (known other 0) has
after_declared name typedef (names ∷ []) typedefs noted known other (suc at) has = known other (suc at) has
after_declared name typedef (outer ∷ (next ∷ inner)) typedefs noted known other zero has = known other 0 has
after_declared name typedef (outer ∷ (next ∷ inner)) typedefs noted known other (suc at) has =
    after_declared name typedef (next ∷ inner) typedefs noted (λ n place. known n (suc place)) other at has

after_around : (name : List ℕ) (typedef : Bool) (scopes : List Names) (typedefs : Names) → (typedef ≡ true → IsAmong name typedefs)
    → HasTypedefs scopes typedefs → HasTypedefs (declared_around name typedef scopes) typedefs
after_around name typedef [] typedefs noted known other at has = known other at has
after_around name typedef (only ∷ []) typedefs noted known other at has = known other at has
after_around name typedef (around ∷ (innermost ∷ [])) typedefs noted known other zero has = said name other typedef around typedefs noted (known other 0) has
after_around name typedef (around ∷ (innermost ∷ [])) typedefs noted known other (suc at) has = known other (suc at) has
after_around name typedef (outer ∷ (next ∷ (inner ∷ others))) typedefs noted known other zero has = known other 0 has
after_around name typedef (outer ∷ (next ∷ (inner ∷ others))) typedefs noted known other (suc at) has =
    after_around name typedef (next ∷ (inner ∷ others)) typedefs noted (λ n place. known n (suc place)) other at has

pub put_declared : (name : List ℕ) (typedef : Bool) (typedefs : Names) (scopes : List Names) → HasTypedefs scopes typedefs
    → HasTypedefs (declared name typedef scopes) (with_value name true typedefs)
put_declared name typedef typedefs scopes known =
    after_declared name typedef scopes (with_value name true typedefs) (λ is. ap is_some (put_same name true typedefs)) (put_kept name typedefs scopes known)

pub put_around : (name : List ℕ) (typedef : Bool) (typedefs : Names) (scopes : List Names) → HasTypedefs scopes typedefs
    → HasTypedefs (declared_around name typedef scopes) (with_value name true typedefs)
put_around name typedef typedefs scopes known =
    after_around name typedef scopes (with_value name true typedefs) (λ is. ap is_some (put_same name true typedefs)) (put_kept name typedefs scopes known)

pub other_declared : (name : List ℕ) (typedef : Bool) (typedefs : Names) (scopes : List Names) → typedef ≡ false → HasTypedefs scopes typedefs
    → HasTypedefs (declared name typedef scopes) typedefs
other_declared name typedef typedefs scopes is known = after_declared name typedef scopes typedefs (λ so. absurd (cc (so, is))) known

pub other_around : (name : List ℕ) (typedef : Bool) (typedefs : Names) (scopes : List Names) → typedef ≡ false → HasTypedefs scopes typedefs
    → HasTypedefs (declared_around name typedef scopes) typedefs
other_around name typedef typedefs scopes is known = after_around name typedef scopes typedefs (λ so. absurd (cc (so, is))) known

-- in one more scope, and outside the innermost one
pub known_entered : (scopes : List Names) (typedefs : Names) → HasTypedefs scopes typedefs → HasTypedefs (entered scopes) typedefs
known_entered scopes typedefs known name at has = known name at (ap (value_in name) (sym (get-entered scopes at)) ∙ has)

pub known_left : (scopes : List Names) (typedefs : Names) → HasTypedefs scopes typedefs → HasTypedefs (left scopes) typedefs
known_left [] typedefs known name at has = known name at has
known_left (only ∷ []) typedefs known name at has = absurd cc
known_left (outer ∷ (next ∷ inner)) typedefs known name zero has = known name 0 has
known_left (outer ∷ (next ∷ inner)) typedefs known name (suc at) has = known_left (next ∷ inner) typedefs (λ n place. known n (suc place)) name at has

-- a name that is not among them is no typedef's
silent : (name : List ℕ) (scopes : List Names) → ((at : ℕ) → value_in name (get_or scopes at []) ≡ Some true → ⊥) → is_typedef_name scopes name ≡ false
silent name [] none = refl
silent name (outer ∷ inner) none = step (found name inner) (silent name inner (λ at. none (suc at))) (value_in name outer) (none 0)
  where
    step : (answer : Option Bool) → says_typedef answer ≡ false → (here : Option Bool) → (here ≡ Some true → ⊥) → says_typedef (first_answer answer here) ≡ false
    step (Some typedef) is here never = is
    step None is None never = refl
    step None is (Some true) never = absurd (never refl)
    step None is (Some false) never = refl

pub unknown_typedef : (name : List ℕ) (scopes : List Names) (typedefs : Names) → HasTypedefs scopes typedefs → is_some (value_in name typedefs) ≡ false
    → false ≡ is_typedef_name scopes name
unknown_typedef name scopes typedefs known none = sym (silent name scopes (λ at has. cc (known name at has, none)))

-- what holds of the scopes before a declaration and behind it holds of those that are left, whether memory was wanting or not
pub holds_after : {T E : Type 0} (P : List Names → Type 0) (r : Result T E) (old next new : List Names) → OnOk r (new ≡ next) → OnErr r (new ≡ old) → P old → P next → P new
holds_after P (Ok value) old next new ok err before after = subst P (sym ok) after
holds_after P (Err error) old next new ok err before after = subst P (sym err) before
