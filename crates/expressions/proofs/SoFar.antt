-- Where things are asked one behind the other in a loop: the first that is broken so far, of those in front of the rest.
use Rattle.std.proofs.Common.{◌≡◌, List, [], ◌++◌, append_assoc, append-nil, Option, None, refl, sym, ap, ◌∙◌, subst}
use Rattle.typing.specs.declared.fault.Fault.{Fault}
use Rattle.expressions.specs.Settled.{IsFirstOf}

pub record FirstSoFar (faults rest : List Fault) (first : Option Fault) : Type 0 where
  pub front : List Fault
  pub whole : faults ≡ front ++ rest
  pub found : IsFirstOf front first

-- nothing is asked yet
pub none_so_far : (faults : List Fault) → FirstSoFar faults faults None
none_so_far faults = record { front = []; whole = refl; found = refl }

-- what is asked next
pub one_further : (faults rest here others : List Fault) (first one result : Option Fault) → FirstSoFar faults rest first → rest ≡ here ++ others → IsFirstOf here one
    → ((some more : List Fault) → IsFirstOf some first → IsFirstOf more one → IsFirstOf (some ++ more) result)
    → FirstSoFar faults others result
one_further faults rest here others first one result before is found joins = record {
  front = before.front ++ here;
  whole = before.whole ∙ (ap (λ (xs : List Fault). before.front ++ xs) is ∙ sym (append_assoc before.front here others));
  found = joins before.front here before.found found;
}

-- all is asked
pub all_so_far : (faults rest : List Fault) (first : Option Fault) → FirstSoFar faults rest first → rest ≡ [] → IsFirstOf faults first
all_so_far faults rest first before is =
    let same : faults ≡ before.front = before.whole ∙ (ap (λ (xs : List Fault). before.front ++ xs) is ∙ append-nil before.front) in
    subst (λ (xs : List Fault). IsFirstOf xs first) (sym same) before.found
