-- Looking up and declaring names.
use Rattle.std.proofs.Common.{◌≡◌, ℕ, zero, suc, ◌≤◌, is_some, ◌-◌, ◌<◌, Bool, true, false, refl, ap, sym, ◌∙◌, List, [], ◌∷◌, ◌++◌, length, take, Option, None, Some, Result, Ok, Err, OnErr}
use Rattle.std.specs.Str.{bytes_eq}
use Rattle.std.proofs.Math.Seq.{take-suc}
use Rattle.std.proofs.Common.{get_or, set, arith}
use Rattle.cgrammar.specs.NameTables.{value_in, with_value}
use Rattle.cgrammar.specs.Scope.{Names, first_answer, found, declared, declared_around, left, entered}
use Rattle.cgrammar.proofs.NameTables.{put_same, put_other}

-- one more scope inside the others
pub found-push : (name : List ℕ) (scopes : List Names) (names : Names) → found name (scopes ++ names ∷ []) ≡ first_answer (value_in name names) (found name scopes)
found-push name [] names = step (value_in name names)
  where
    step : (answer : Option Bool) → first_answer None answer ≡ first_answer answer None
    step None = refl
    step (Some answer) = refl
found-push name (outer ∷ scopes) names = ap (λ (o : Option Bool). first_answer o (value_in name outer)) (found-push name scopes names) ∙ step (value_in name names)
  where
    step : (answer : Option Bool) → first_answer (first_answer answer (found name scopes)) (value_in name outer) ≡ first_answer answer (first_answer (found name scopes) (value_in name outer))
    step None = refl
    step (Some answer) = refl

-- what the last scope says, where those inside it say nothing
pub found-take : (name : List ℕ) (scopes : List Names) (left : ℕ) (names : Names) → left < length scopes → names ≡ get_or scopes left names → found name (take (suc left) scopes) ≡ first_answer (value_in name names) (found name (take left scopes))
found-take name scopes left names inside is =
    ap (found name) (take-suc scopes left names inside) ∙ (found-push name (take left scopes) (get_or scopes left names) ∙ ap (λ (n : Names). first_answer (value_in name n) (found name (take left scopes))) (sym is))

-- declaring in the last scope is declaring
pub declared-last : (name : List ℕ) (typedef : Bool) (scopes : List Names) (last : ℕ) (names : Names) → suc last ≡ length scopes → names ≡ get_or scopes last names → set scopes last (with_value name typedef names) ≡ declared name typedef scopes
declared-last name typedef [] last names few is = absurd (omega (arith, few))
declared-last name typedef (only ∷ []) zero names few is = ap (λ (n : Names). with_value name typedef n ∷ []) is
declared-last name typedef (only ∷ []) (suc last) names few is = absurd (omega (arith, few))
declared-last name typedef (outer ∷ (next ∷ scopes)) zero names few is = absurd (omega (arith, few))
declared-last name typedef (outer ∷ (next ∷ scopes)) (suc last) names few is =
    let rest : suc last ≡ length (next ∷ scopes) = omega (arith, few) in
    ap (λ (n : List Names). outer ∷ n) (declared-last name typedef (next ∷ scopes) last names rest is)

-- declaring in the last scope but one is declaring around the innermost
pub declared-around : (name : List ℕ) (typedef : Bool) (scopes : List Names) (around : ℕ) (names : Names) → suc (suc around) ≡ length scopes → names ≡ get_or scopes around names → set scopes around (with_value name typedef names) ≡ declared_around name typedef scopes
declared-around name typedef [] around names few is = absurd (omega (arith, few))
declared-around name typedef (only ∷ []) around names few is = absurd (omega (arith, few))
declared-around name typedef (outer ∷ (inner ∷ [])) zero names few is = ap (λ (n : Names). with_value name typedef n ∷ (inner ∷ [])) is
declared-around name typedef (outer ∷ (inner ∷ [])) (suc around) names few is = absurd (omega (arith, few))
declared-around name typedef (outer ∷ (next ∷ (inner ∷ scopes))) zero names few is = absurd (omega (arith, few))
declared-around name typedef (outer ∷ (next ∷ (inner ∷ scopes))) (suc around) names few is =
    let rest : suc (suc around) ≡ length (next ∷ (inner ∷ scopes)) = omega (arith, few) in
    ap (λ (n : List Names). outer ∷ n) (declared-around name typedef (next ∷ (inner ∷ scopes)) around names rest is)

-- nothing is declared around fewer than two scopes
pub declared-around_few : (name : List ℕ) (typedef : Bool) (scopes : List Names) → length scopes < 2 → declared_around name typedef scopes ≡ scopes
declared-around_few name typedef [] few = refl
declared-around_few name typedef (only ∷ []) few = refl
declared-around_few name typedef (outer ∷ (next ∷ scopes)) few = absurd (omega (arith, few))

-- one turn of a search from the innermost scope outwards
pub found-step : (name : List ℕ) (scopes : List Names) (left : ℕ) (names : Names) → 0 < left → left ≤ length scopes → names ≡ get_or scopes (left - 1) names → found name scopes ≡ found name (take left scopes) → found name scopes ≡ first_answer (value_in name names) (found name (take (left - 1) scopes))
found-step name scopes zero names some few is front = absurd (omega (arith, some))
found-step name scopes (suc left) names some few is front =
    let less : suc left - 1 ≡ left = omega arith in
    let here : names ≡ get_or scopes left names = is ∙ ap (λ (n : ℕ). get_or scopes n names) less in
    front ∙ (found-take name scopes left names (omega (arith, few)) here ∙ ap (λ (n : ℕ). first_answer (value_in name names) (found name (take n scopes))) (sym less))

pub answer-none : (answer other : Option Bool) → is_some answer ≡ false → first_answer answer other ≡ other
answer-none None other is = refl
answer-none (Some answer) other is = cc is

pub answer-some : (answer other : Option Bool) → is_some answer ≡ true → first_answer answer other ≡ answer
answer-some None other is = cc is
answer-some (Some answer) other is = refl

pub err-holds : {T E P : Type 0} (r : Result T E) → P → OnErr r P
err-holds (Ok value) p = tt
err-holds (Err error) p = p

pub left_take : (scopes : List Names) → take (length scopes - 1) scopes ≡ left scopes
left_take [] = refl
left_take (only ∷ []) = refl
left_take (outer ∷ (next ∷ inner)) =
    let less : length (outer ∷ (next ∷ inner)) - 1 ≡ suc (length (next ∷ inner) - 1) = omega arith in
    ap (λ (n : ℕ). take n (outer ∷ (next ∷ inner))) less ∙ ap (λ (n : List Names). outer ∷ n) (left_take (next ∷ inner))

-- what is declared is found, and other names are found as before
pub found_same : (name : List ℕ) (typedef : Bool) (scopes : List Names) → 0 < length scopes → found name (declared name typedef scopes) ≡ Some typedef
found_same name typedef [] some = absurd (omega (arith, some))
found_same name typedef (names ∷ []) some = put_same name typedef names
found_same name typedef (outer ∷ (next ∷ inner)) some = ap (λ (o : Option Bool). first_answer o (value_in name outer)) (found_same name typedef (next ∷ inner) (omega arith))

pub found_other : (name other : List ℕ) (typedef : Bool) (scopes : List Names) → bytes_eq other name ≡ false → found other (declared name typedef scopes) ≡ found other scopes
found_other name other typedef [] apart = refl
found_other name other typedef (names ∷ []) apart = put_other name other typedef names apart
found_other name other typedef (outer ∷ (next ∷ inner)) apart = ap (λ (o : Option Bool). first_answer o (value_in other outer)) (found_other name other typedef (next ∷ inner) apart)

pub found_entered : (name : List ℕ) (scopes : List Names) → found name (entered scopes) ≡ found name scopes
found_entered name scopes = found-push name scopes []

pub left_entered : (scopes : List Names) → left (entered scopes) ≡ scopes
left_entered [] = refl
left_entered (only ∷ []) = refl
left_entered (outer ∷ (next ∷ inner)) = ap (λ (n : List Names). outer ∷ n) (left_entered (next ∷ inner))
