-- Of things that are broken one is named; of two at one place it is the least.
use Rattle.std.proofs.Common.{◌≡◌, ℕ, ◌≤◌, Bool, true, false, List, [], ◌∷◌, ◌++◌, Some, None, nat_le, refl, ap, sym, subst, arith}
use Rattle.std.proofs.lemmas.Bool.Decides.{nat_tests}
use Rattle.std.specs.List.{AllByRecursion}
use Rattle.std.specs.Prelude.{if◌then◌else◌}
use Rattle.cbase.specs.declared.place.Place.{Place}
use Rattle.typing.specs.declared.ctypes.found.Broken.{Broken}
use Rattle.typing.specs.declared.ctypes.found.Broken.TheVariants.{Construct, Rule}
use Rattle.typing.specs.ctypes.Broken.{ComesBefore}
use Rattle.typing.specs.declared.fault.Fault.{Fault}
use Rattle.typing.specs.Faults.{fault, comes_before, IsFirst}
use Rattle.typing.specs.Laws.{OneIsNamed, TheLeastIsNamed}

at_most : (a b : ℕ) → nat_le a b ≡ true → a ≤ b
at_most a b test = grind (arith, nat_tests)

above : (a b : ℕ) → nat_le a b ≡ false → b ≤ a
above a b test = grind (arith, nat_tests)

not_at_most : (a b : ℕ) → nat_le a b ≡ false → a ≤ b → ⊥
not_at_most a b test below = grind (arith, nat_tests)

-- what the test tells: one comes before the other, or it does not, and the other before it
pub comes : (one other : Broken) → comes_before one other ≡ true → ComesBefore one other
comes (Construct a) (Construct b) test = at_most a b test
comes (Construct a) (Rule b) test = tt
comes (Rule a) (Construct b) test = cc test
comes (Rule a) (Rule b) test = at_most a b test

pub comes_not : (one other : Broken) → comes_before one other ≡ false → ComesBefore one other → ⊥
comes_not (Construct a) (Construct b) test before = not_at_most a b test before
comes_not (Construct a) (Rule b) test before = cc test
comes_not (Rule a) (Construct b) test before = before
comes_not (Rule a) (Rule b) test before = not_at_most a b test before

other_comes : (one other : Broken) → comes_before one other ≡ false → ComesBefore other one
other_comes (Construct a) (Construct b) test = above a b test
other_comes (Construct a) (Rule b) test = cc test
other_comes (Rule a) (Construct b) test = tt
other_comes (Rule a) (Rule b) test = above a b test

of_two : (place : Place) (one other : Broken) (test : Bool) → comes_before one other ≡ test
    → IsFirst (fault place one ∷ fault place other ∷ []) (fault place (if test then one else other))
of_two place one other true is = record { front = []; back = fault place other ∷ []; whole = refl; later = tt; behind = (comes one other is, tt) }
of_two place one other false is = record { front = fault place one ∷ []; back = []; whole = refl; later = (comes_not one other is, tt); behind = tt }

pub the_least : TheLeastIsNamed
the_least place None None = refl
the_least place None (Some other) = record { front = []; back = []; whole = refl; later = tt; behind = tt }
the_least place (Some one) None = record { front = []; back = []; whole = refl; later = tt; behind = tt }
the_least place (Some one) (Some other) = of_two place one other (comes_before one other) refl

-- what does not come before another one has it before itself
either : (one other : Broken) (test : Bool) → comes_before one other ≡ test → (ComesBefore one other → ⊥) → ComesBefore other one
either one other true is not = absurd (not (comes one other is))
either one other false is not = other_comes one other is

-- of three in a row
pub comes_far : (one middle last : Broken) → ComesBefore one middle → ComesBefore middle last → ComesBefore one last
comes_far (Construct a) (Construct b) (Construct c) near far = omega arith
comes_far (Construct a) (Construct b) (Rule c) near far = tt
comes_far (Construct a) (Rule b) (Construct c) near far = absurd far
comes_far (Construct a) (Rule b) (Rule c) near far = tt
comes_far (Rule a) (Construct b) last near far = absurd near
comes_far (Rule a) (Rule b) (Construct c) near far = absurd far
comes_far (Rule a) (Rule b) (Rule c) near far = omega arith

-- what comes before the one that is named comes before all
abbrev IsBefore : Fault → Fault → Type 0
IsBefore one other = ComesBefore one.broken other.broken

before_back : (one first : Fault) (back : List Fault) → IsBefore one first → AllByRecursion (IsBefore first) back → AllByRecursion (IsBefore one) back
before_back one first [] comes all = tt
before_back one first (next ∷ back) comes all = (comes_far one.broken first.broken next.broken comes all.0, before_back one first back comes all.1)

pub before_all : (one first : Fault) (front back : List Fault) → IsBefore one first
    → AllByRecursion (λ other. ComesBefore other.broken first.broken → ⊥) front → AllByRecursion (IsBefore first) back
    → AllByRecursion (IsBefore one) (front ++ first ∷ back)
before_all one first [] back comes later behind = (comes, before_back one first back comes behind)
before_all one first (next ∷ front) back comes later behind = (
  comes_far one.broken first.broken next.broken comes (either next.broken first.broken (comes_before next.broken first.broken) refl later.0),
  before_all one first front back comes later.1 behind,
)

with_one_more : (one first : Fault) (faults : List Fault) (test : Bool) → comes_before one.broken first.broken ≡ test → IsFirst faults first
    → (named : Fault) × IsFirst (one ∷ faults) named
with_one_more one first faults true test is = (
  one,
  record {
    front = [];
    back = faults;
    whole = refl;
    later = tt;
    behind = subst (AllByRecursion (IsBefore one)) (sym is.whole) (before_all one first is.front is.back (comes one.broken first.broken test) is.later is.behind);
  },
)
with_one_more one first faults false test is = (
  first,
  record { front = one ∷ is.front; back = is.back; whole = ap (λ (all : List Fault). one ∷ all) is.whole; later = (comes_not one.broken first.broken test, is.later); behind = is.behind },
)

pub one_is_named : OneIsNamed
one_is_named one [] = (one, record { front = []; back = []; whole = refl; later = tt; behind = tt })
one_is_named one (next ∷ others) =
    let rest : (first : Fault) × IsFirst (next ∷ others) first = one_is_named next others in
    with_one_more one rest.0 (next ∷ others) (comes_before one.broken rest.0.broken) refl rest.1
