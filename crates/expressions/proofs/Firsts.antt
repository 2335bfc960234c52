-- Of what is asked in two parts the first that is broken is that of the parts that comes before the other.
use Rattle.std.proofs.Common.{◌≡◌, true, false, List, [], ◌∷◌, ◌++◌, sym, ap, ◌∙◌, subst, arith}
use Rattle.std.proofs.lemmas.List.{append_assoc}
use Rattle.std.specs.List.{AllByRecursion}
use Rattle.typing.specs.declared.ctypes.found.Broken.{Broken}
use Rattle.typing.specs.declared.ctypes.found.Broken.TheVariants.{Construct, Rule}
use Rattle.typing.specs.ctypes.Broken.{ComesBefore}
use Rattle.typing.specs.declared.fault.Fault.{Fault}
use Rattle.typing.specs.Faults.{comes_before, IsFirst}
use Rattle.typing.proofs.Least.{comes, comes_not, comes_far, before_all}

comes_itself : (one : Broken) → ComesBefore one one
comes_itself (Construct a) = omega arith
comes_itself (Rule a) = omega arith

module _ (P : Fault → Type 0) where
  all_behind : (front back : List Fault) → AllByRecursion P front → AllByRecursion P back → AllByRecursion P (front ++ back)
  all_behind [] back all further = further
  all_behind (one ∷ front) back all further = (all.0, all_behind front back all.1 further)

-- what comes behind one thing is not before another that comes before that
none_before : (one other : Fault) (faults : List Fault) → (ComesBefore one.broken other.broken → ⊥) → AllByRecursion (λ next. ComesBefore one.broken next.broken) faults
    → AllByRecursion (λ next. ComesBefore next.broken other.broken → ⊥) faults
none_before one other [] not all = tt
none_before one other (next ∷ faults) not all =
    (λ before. not (comes_far one.broken next.broken other.broken all.0 before), none_before one other faults not all.1)

-- what is named comes before all that is broken
before_each : (one first : Fault) (faults : List Fault) → ComesBefore one.broken first.broken → IsFirst faults first → AllByRecursion (λ next. ComesBefore one.broken next.broken) faults
before_each one first faults before is =
    subst (AllByRecursion (λ next. ComesBefore one.broken next.broken)) (sym is.whole) (before_all one first is.front is.back before is.later is.behind)

pub first_in_front : (faults others : List Fault) (one other : Fault) → comes_before one.broken other.broken ≡ true → IsFirst faults one → IsFirst others other
    → IsFirst (faults ++ others) one
first_in_front faults others one other test is also = record {
  front = is.front;
  back = is.back ++ others;
  whole = ap (λ (all : List Fault). all ++ others) is.whole ∙ append_assoc is.front (one ∷ is.back) others;
  later = is.later;
  behind = all_behind (λ next. ComesBefore one.broken next.broken) is.back others is.behind (before_each one other others (comes one.broken other.broken test) also);
}

pub first_behind : (faults others : List Fault) (one other : Fault) → comes_before one.broken other.broken ≡ false → IsFirst faults one → IsFirst others other
    → IsFirst (faults ++ others) other
first_behind faults others one other test is also = record {
  front = faults ++ also.front;
  back = also.back;
  whole = ap (λ (all : List Fault). faults ++ all) also.whole ∙ sym (append_assoc faults also.front (other ∷ also.back));
  later = all_behind (λ next. ComesBefore next.broken other.broken → ⊥) faults also.front
      (none_before one other faults (comes_not one.broken other.broken test) (before_each one one faults (comes_itself one.broken) is))
      also.later;
  behind = also.behind;
}

-- one thing alone
pub first_alone : (faults : List Fault) (one : Fault) → faults ≡ one ∷ [] → IsFirst faults one
first_alone faults one is = record { front = []; back = []; whole = is; later = tt; behind = tt }
