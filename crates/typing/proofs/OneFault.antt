-- Of what is broken at an expression one thing is named.
use Rattle.std.proofs.Common.{◌≡◌, List, [], ◌∷◌, ◌++◌, sym, ap, ◌∙◌, subst}
use Rattle.std.specs.List.{AllByRecursion}
use Rattle.typing.specs.ctypes.Broken.{ComesBefore}
use Rattle.typing.specs.declared.fault.Fault.{Fault}
use Rattle.typing.specs.Faults.{IsFirst}
use Rattle.typing.specs.Outcomes.{Outcome, Passes, Refused, Handed, IsSettled}

in_middle : {A : Type 0} (P : A → Type 0) (front : List A) (x : A) (back : List A) → AllByRecursion P (front ++ x ∷ back) → P x
in_middle P [] x back all = all.0
in_middle P (y ∷ front) x back all = in_middle P front x back all.1

first_of_both : (front others : List Fault) (a b : Fault) (back rest : List Fault) → front ++ a ∷ back ≡ others ++ b ∷ rest
    → AllByRecursion (λ other. ComesBefore other.broken a.broken → ⊥) front → AllByRecursion (λ other. ComesBefore a.broken other.broken) back
    → AllByRecursion (λ other. ComesBefore other.broken b.broken → ⊥) others → AllByRecursion (λ other. ComesBefore b.broken other.broken) rest
    → a ≡ b
first_of_both [] [] a b back rest e later behind further last = cc e
first_of_both [] (c ∷ others) a b back rest e later behind further last =
    let head : a ≡ c = cc e in
    let tail : back ≡ others ++ b ∷ rest = cc e in
    let all : AllByRecursion (λ (other : Fault). ComesBefore a.broken other.broken) (others ++ b ∷ rest) = subst (λ (xs : List Fault). AllByRecursion (λ other. ComesBefore a.broken other.broken) xs) tail behind in
    let comes : ComesBefore a.broken b.broken = in_middle (λ (other : Fault). ComesBefore a.broken other.broken) others b rest all in
    absurd (further.0 (subst (λ (f : Fault). ComesBefore f.broken b.broken) head comes))
first_of_both (c ∷ front) [] a b back rest e later behind further last =
    let head : b ≡ c = cc e in
    let tail : rest ≡ front ++ a ∷ back = cc e in
    let all : AllByRecursion (λ (other : Fault). ComesBefore b.broken other.broken) (front ++ a ∷ back) = subst (λ (xs : List Fault). AllByRecursion (λ other. ComesBefore b.broken other.broken) xs) tail last in
    let comes : ComesBefore b.broken a.broken = in_middle (λ (other : Fault). ComesBefore b.broken other.broken) front a back all in
    absurd (later.0 (subst (λ (f : Fault). ComesBefore f.broken a.broken) head comes))
first_of_both (c ∷ front) (d ∷ others) a b back rest e later behind further last =
    let tail : front ++ a ∷ back ≡ others ++ b ∷ rest = cc e in
    first_of_both front others a b back rest tail later.1 behind further.1 last

pub one_first : (faults : List Fault) (a b : Fault) → IsFirst faults a → IsFirst faults b → a ≡ b
one_first faults a b is also =
    first_of_both is.front also.front a b is.back also.back (sym is.whole ∙ also.whole) is.later is.behind also.later also.behind

none_inside : (front : List Fault) (a : Fault) (back : List Fault) → [] ≡ front ++ a ∷ back → ⊥
none_inside [] a back e = cc e
none_inside (b ∷ front) a back e = cc e

pub none_first : (faults : List Fault) (a : Fault) → faults ≡ [] → IsFirst faults a → ⊥
none_first faults a e is = none_inside is.front a is.back (sym e ∙ is.whole)

pub one_settled : {A : Type 0} (faults : List Fault) (value : A) (handed : List Handed) (first second : Outcome A)
    → IsSettled faults value handed first → IsSettled faults value handed second → first ≡ second
one_settled faults value handed (Passes a h) (Passes b k) is also = λ i. Passes ((is.1 ∙ sym also.1) i) ((is.2 ∙ sym also.2) i)
one_settled faults value handed (Passes a h) (Refused b) is also = absurd (none_first faults b is.0 also)
one_settled faults value handed (Refused a) (Passes b k) is also = absurd (none_first faults a also.0 is)
one_settled faults value handed (Refused a) (Refused b) is also = ap Refused (one_first faults a b is also)

-- the same where what is asked is the same
pub settled_alike : {A : Type 0} (faults others : List Fault) (value other : A) (handed further : List Handed) (first second : Outcome A)
    → faults ≡ others → value ≡ other → handed ≡ further
    → IsSettled faults value handed first → IsSettled others other further second → first ≡ second
settled_alike {A} faults others value other handed further first second f v h is also =
    one_settled faults value handed first second is
    (subst (λ (xs : List Fault). IsSettled xs value handed second) (sym f)
    (subst (λ (x : A). IsSettled others x handed second) (sym v)
    (subst (λ (hs : List Handed). IsSettled others other hs second) (sym h) also)))
