-- Parts of the walk that stand one behind the other, each with one outcome: so has what is made of them.
use Rattle.std.proofs.Common.{◌≡◌, List, [], sym, ap, ◌∙◌, subst}
use Rattle.typing.specs.declared.fault.Fault.{Fault}
use Rattle.typing.specs.Faults.{IsFirst}
use Rattle.typing.specs.Outcomes.{Outcome, Handed, Passes, Refused}
use Rattle.typing.proofs.OneFault.{one_first, none_first}

-- the same is found, and the same is declared behind it
abbrev pub Same : {E A : Type 0} → Outcome A → Outcome A → E → E → Type 0
Same first second after other = (first ≡ second) × (after ≡ other)

-- where what is found is made alike of what is found below
pub via : {E A B : Type 0} (make : E → Outcome A → Outcome B) {inner below : Outcome A} {after other : E} {first second : Outcome B}
    → first ≡ make after inner → second ≡ make other below → Same inner below after other → Same first second after other
via make e f same = (e ∙ ((λ i. make (same.1 i) (same.0 i)) ∙ sym f), same.1)

-- whatever else is found of a part is the same
abbrev pub OneOf : {E A : Type 0} → (Outcome A → E → Type 0) → Outcome A → E → Type 0
OneOf {E} {A} found first after = (second : Outcome A) (other : E) → found second other → Same first second after other

-- an outcome that is given
abbrev pub Given : {E A : Type 0} → Outcome A → E → Outcome A → E → Type 0
Given made end outcome after = (outcome ≡ made) × (end ≡ after)

pub one_given : {E A : Type 0} (made : Outcome A) (end : E) → OneOf (Given made end) made end
one_given made end second other is = (sym is.0, is.1)

-- what is made of what is found of a part
abbrev pub Made : {E A B : Type 0} → (Outcome A → Outcome B) → (Outcome A → E → Type 0) → Outcome B → E → Type 0
Made {E} {A} {B} make found outcome after = (inner : Outcome A) × found inner after × (outcome ≡ make inner)

pub one_made : {E A B : Type 0} (make : Outcome A → Outcome B) (found : Outcome A → E → Type 0) (inner : Outcome A) (after : E)
    → OneOf found inner after → OneOf (Made make found) (make inner) after
one_made make found inner after one second other is =
    let same : Same inner is.0 after other = one is.0 other is.1 in
    (ap make same.0 ∙ sym is.2, same.1)

-- what follows a part where it passes, and what is refused in it
abbrev pub Rest : {E A B : Type 0} → (A → List Handed → E → Outcome B → E → Type 0) → Outcome A → E → Outcome B → E → Type 0
Rest rest (Passes told handed) middle outcome after = rest told handed middle outcome after
Rest rest (Refused first) middle outcome after = (outcome ≡ Refused first) × (middle ≡ after)

abbrev pub Both : {E A B : Type 0} → (Outcome A → E → Type 0) → (A → List Handed → E → Outcome B → E → Type 0) → Outcome B → E → Type 0
Both {E} {A} {B} found rest outcome after = (first : Outcome A) × (middle : E) × found first middle × Rest rest first middle outcome after

rest_alike : {E A B : Type 0} (rest : A → List Handed → E → Outcome B → E → Type 0) (first second : Outcome A) (middle other : E) (outcome : Outcome B) (after : E)
    → Same first second middle other → Rest rest second other outcome after → Rest rest first middle outcome after
rest_alike {E} {A} {B} rest first second middle other outcome after same is =
    subst (λ (f : Outcome A). Rest rest f middle outcome after) (sym same.0)
    (subst (λ (env : E). Rest rest second env outcome after) (sym same.1) is)

pub one_refused : {E A B : Type 0} (found : Outcome A → E → Type 0) (rest : A → List Handed → E → Outcome B → E → Type 0) (broken : Fault) (after : E)
    → OneOf found (Refused broken) after → OneOf (Both found rest) (Refused broken) after
one_refused found rest broken after one second other is =
    let same : Same (Refused broken) is.0 after is.1 = one is.0 is.1 is.2 in
    let behind : Rest rest (Refused broken) after second other = rest_alike rest (Refused broken) is.0 after is.1 second other same is.3 in
    (sym behind.0, behind.1)

pub one_both : {E A B : Type 0} (found : Outcome A → E → Type 0) (rest : A → List Handed → E → Outcome B → E → Type 0)
    (told : A) (handed : List Handed) (middle : E) (outcome : Outcome B) (after : E)
    → OneOf found (Passes told handed) middle → OneOf (rest told handed middle) outcome after → OneOf (Both found rest) outcome after
one_both found rest told handed middle outcome after one more second other is =
    let same : Same (Passes told handed) is.0 middle is.1 = one is.0 is.1 is.2 in
    more second other (rest_alike rest (Passes told handed) is.0 middle is.1 second other same is.3)

-- what is found of a part, and what is declared behind it made of what is declared inside it
abbrev pub Inside : {E A : Type 0} → (E → E) → (Outcome A → E → Type 0) → Outcome A → E → Type 0
Inside {E} {A} move found outcome after = (inside : E) × found outcome inside × (move inside ≡ after)

pub one_inside : {E A : Type 0} (move : E → E) (found : Outcome A → E → Type 0) (outcome : Outcome A) (inside : E)
    → OneOf found outcome inside → OneOf (Inside move found) outcome (move inside)
one_inside move found outcome inside one second other is =
    let same : Same outcome second inside is.0 = one second is.0 is.1 in
    (same.0, ap move same.1 ∙ is.2)

-- what is found where nothing is walked any more
abbrev pub Here : {E A : Type 0} → (Outcome A → Type 0) → E → Outcome A → E → Type 0
Here judged env outcome after = judged outcome × (env ≡ after)

pub one_here : {E A : Type 0} (judged : Outcome A → Type 0) (env : E) (first : Outcome A)
    → ((second : Outcome A) → judged second → first ≡ second) → OneOf (Here judged env) first env
one_here judged env first one second other is = (one second is.0, is.1)

-- what is found by an answer that has one value
abbrev pub Asked : {E A B : Type 0} → (B → Type 0) → (B → Outcome A → E → Type 0) → Outcome A → E → Type 0
Asked {E} {A} {B} asked rest outcome after = (answer : B) × asked answer × rest answer outcome after

pub one_asked : {E A B : Type 0} (asked : B → Type 0) (rest : B → Outcome A → E → Type 0) (answer : B) (first : Outcome A) (after : E)
    → ((other : B) → asked other → answer ≡ other) → OneOf (rest answer) first after → OneOf (Asked asked rest) first after
one_asked asked rest answer first after one more second other is =
    more second other (subst (λ (b : _). rest b second other) (sym (one is.0 is.1)) is.2)

-- what follows where nothing is broken, and what is refused where something is
pub data Judged {E A : Type 0} (faults : List Fault) (middle : E) (rest : Outcome A → E → Type 0) (outcome : Outcome A) (after : E) : Type 0 where
  Sound : faults ≡ [] → rest outcome after → Judged faults middle rest outcome after
  Broken : (first : Fault) → IsFirst faults first → outcome ≡ Refused first → middle ≡ after → Judged faults middle rest outcome after

pub one_sound : {E A : Type 0} (faults : List Fault) (middle : E) (rest : Outcome A → E → Type 0) (first : Outcome A) (after : E)
    → faults ≡ [] → OneOf rest first after → OneOf (Judged faults middle rest) first after
one_sound faults middle rest first after e one second other (Sound f is) = one second other is
one_sound faults middle rest first after e one second other (Broken broken is made same) = absurd (none_first faults broken e is)

pub one_broken : {E A : Type 0} (faults : List Fault) (middle : E) (rest : Outcome A → E → Type 0) (first : Fault)
    → IsFirst faults first → OneOf (Judged faults middle rest) (Refused first) middle
one_broken faults middle rest first is second other (Sound e also) = absurd (none_first faults first e is)
one_broken faults middle rest first is second other (Broken broken also made same) = (ap Refused (one_first faults first broken is also) ∙ sym made, same)

-- what is said of a part and of what is made of it, by names for both, and back
pub named_so : {A B : Type 0} (make : A → B) (said : A → B → Type 0) {whole part : A} {made : B} → whole ≡ part → make part ≡ made → said part made → said whole (make whole)
named_so {A} {B} make said {part = part} e f is = subst (λ (x : A). said x (make x)) (sym e) (subst (λ (y : B). said part y) (sym f) is)

pub so_named : {A B : Type 0} (make : A → B) (said : A → B → Type 0) {whole part : A} {made : B} → whole ≡ part → make part ≡ made → said whole (make whole) → said part made
so_named {A} {B} make said {part = part} e f is = subst (λ (y : B). said part y) f (subst (λ (x : A). said x (make x)) e is)
