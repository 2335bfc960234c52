-- The kinds of several posts, in one ascending list.
use Rattle.std.proofs.Common.{◌≡◌, ℕ, Bool, true, false, List, [], ◌∷◌, nat_eq, ◌⊎◌, inl, inr, refl, sym, ◌∙◌, subst, eqb-true, ltb-true, ltb-false, lt-ltb, eq-eqb, arith}
use Rattle.std.specs.Prelude.{Contains, nat_lt, if◌then◌else◌}
use Rattle.std.specs.List.{list_all}
use Rattle.std.proofs.lemmas.Bool.{false≢true}
use Rattle.graph.specs.WellFormed.{are_ascending}
use Rattle.graph.proofs.Tests.{and_left, and_right, and_both}
use Rattle.changes.specs.Posted.{Posted}
use Rattle.heap_steps.proofs.Listed.{Contains-first, Contains-later, Contains-cases, Contains-none}
use Rattle.transfer.specs.Together.{with_kind, with_kinds, kinds_with}

-- One kind more.

contains_new : (kind : ℕ) (kinds : List ℕ) → Contains (with_kind kind kinds) kind
contains_new kind [] = Contains-first kind []
contains_new kind (first ∷ rest) = by_tests (nat_lt kind first) (nat_eq kind first) refl (contains_new kind rest)
  where
    by_tests : (a b : Bool) → nat_eq kind first ≡ b → Contains (with_kind kind rest) kind → Contains (if a then kind ∷ first ∷ rest else (if b then first ∷ rest else first ∷ with_kind kind rest)) kind
    by_tests true b same later = Contains-first kind (first ∷ rest)
    by_tests false true same later = subst (λ (k : ℕ). Contains (first ∷ rest) k) (sym (eqb-true _ _ same)) (Contains-first first rest)
    by_tests false false same later = Contains-later first kind (with_kind kind rest) later

contains_old : (kind : ℕ) (kinds : List ℕ) (other : ℕ) → Contains kinds other → Contains (with_kind kind kinds) other
contains_old kind [] other there = absurd (Contains-none other there)
contains_old kind (first ∷ rest) other there = by_tests (nat_lt kind first) (nat_eq kind first) (Contains-cases first other rest there) (λ later. contains_old kind rest other later)
  where
    by_tests : (a b : Bool) → (first ≡ other) ⊎ Contains rest other → (Contains rest other → Contains (with_kind kind rest) other) →
        Contains (if a then kind ∷ first ∷ rest else (if b then first ∷ rest else first ∷ with_kind kind rest)) other
    by_tests true b cases later = Contains-later kind other (first ∷ rest) there
    by_tests false true cases later = there
    by_tests false false (inl same) later = subst (λ (k : ℕ). Contains (first ∷ with_kind kind rest) k) same (Contains-first first (with_kind kind rest))
    by_tests false false (inr within) later = Contains-later first other (with_kind kind rest) (later within)

contains_from : (kind : ℕ) (kinds : List ℕ) (other : ℕ) → Contains (with_kind kind kinds) other → (kind ≡ other) ⊎ Contains kinds other
contains_from kind [] other there = Contains-cases kind other [] there
contains_from kind (first ∷ rest) other there = by_tests (nat_lt kind first) (nat_eq kind first) there (λ later. contains_from kind rest other later)
  where
    further : (kind ≡ other) ⊎ Contains rest other → (kind ≡ other) ⊎ Contains (first ∷ rest) other
    further (inl same) = inl same
    further (inr within) = inr (Contains-later first other rest within)

    by_first : (first ≡ other) ⊎ Contains (with_kind kind rest) other → (Contains (with_kind kind rest) other → (kind ≡ other) ⊎ Contains rest other) → (kind ≡ other) ⊎ Contains (first ∷ rest) other
    by_first (inl same) later = inr (subst (λ (k : ℕ). Contains (first ∷ rest) k) same (Contains-first first rest))
    by_first (inr within) later = further (later within)

    by_tests : (a b : Bool) → Contains (if a then kind ∷ first ∷ rest else (if b then first ∷ rest else first ∷ with_kind kind rest)) other →
        (Contains (with_kind kind rest) other → (kind ≡ other) ⊎ Contains rest other) → (kind ≡ other) ⊎ Contains (first ∷ rest) other
    by_tests true b there' later = Contains-cases kind other (first ∷ rest) there'
    by_tests false true there' later = inr there'
    by_tests false false there' later = by_first (Contains-cases first other (with_kind kind rest) there') later

all_with : (test : ℕ → Bool) (kind : ℕ) (kinds : List ℕ) → test kind ≡ true → list_all test kinds ≡ true → list_all test (with_kind kind kinds) ≡ true
all_with test kind [] passes all = and_both (test kind) true passes refl
all_with test kind (first ∷ rest) passes all = by_tests (nat_lt kind first) (nat_eq kind first) (all_with test kind rest passes (and_right (test first) (list_all test rest) all))
  where
    by_tests : (a b : Bool) → list_all test (with_kind kind rest) ≡ true → list_all test (if a then kind ∷ first ∷ rest else (if b then first ∷ rest else first ∷ with_kind kind rest)) ≡ true
    by_tests true b later = and_both (test kind) (list_all test (first ∷ rest)) passes all
    by_tests false true later = all
    by_tests false false later = and_both (test first) (list_all test (with_kind kind rest)) (and_left (test first) (list_all test rest) all) later

all_above : (kind first : ℕ) (rest : List ℕ) → nat_lt kind first ≡ true → list_all (nat_lt first) rest ≡ true → list_all (nat_lt kind) rest ≡ true
all_above kind first [] less all = refl
all_above kind first (next ∷ rest) less all =
    and_both (nat_lt kind next) (list_all (nat_lt kind) rest)
    (lt-ltb kind next (let one = ltb-true kind first less in let two = ltb-true first next (and_left (nat_lt first next) (list_all (nat_lt first) rest) all) in omega arith))
    (all_above kind first rest less (and_right (nat_lt first next) (list_all (nat_lt first) rest) all))

above : (kind first : ℕ) → nat_lt kind first ≡ false → nat_eq kind first ≡ false → nat_lt first kind ≡ true
above kind first not_less differ = by_test (nat_lt first kind) refl
  where
    by_test : (b : Bool) → nat_lt first kind ≡ b → nat_lt first kind ≡ true
    by_test true is = is
    by_test false is = absurd (false≢true (sym differ ∙ eq-eqb kind first (let low = ltb-false kind first not_less in let high = ltb-false first kind is in omega arith)))

ascending_with : (kind : ℕ) (kinds : List ℕ) → are_ascending kinds ≡ true → are_ascending (with_kind kind kinds) ≡ true
ascending_with kind [] ascend = refl
ascending_with kind (first ∷ rest) ascend = by_tests (nat_lt kind first) refl (nat_eq kind first) refl (ascending_with kind rest behind)
  where
    higher : list_all (nat_lt first) rest ≡ true
    higher = and_left (list_all (nat_lt first) rest) (are_ascending rest) ascend

    behind : are_ascending rest ≡ true
    behind = and_right (list_all (nat_lt first) rest) (are_ascending rest) ascend

    by_tests : (a : Bool) → nat_lt kind first ≡ a → (b : Bool) → nat_eq kind first ≡ b → are_ascending (with_kind kind rest) ≡ true →
        are_ascending (if a then kind ∷ first ∷ rest else (if b then first ∷ rest else first ∷ with_kind kind rest)) ≡ true
    by_tests true less b same later =
        and_both (list_all (nat_lt kind) (first ∷ rest)) (are_ascending (first ∷ rest)) (and_both (nat_lt kind first) (list_all (nat_lt kind) rest) less (all_above kind first rest less higher)) ascend
    by_tests false less true same later = ascend
    by_tests false less false same later = and_both (list_all (nat_lt first) (with_kind kind rest)) (are_ascending (with_kind kind rest)) (all_with (nat_lt first) kind rest (above kind first less same) higher) later

-- Several more.

others_in : (known kinds : List ℕ) (kind : ℕ) → Contains kinds kind → Contains (with_kinds known kinds) kind
others_in [] kinds kind there = there
others_in (first ∷ rest) kinds kind there = others_in rest (with_kind first kinds) kind (contains_old first kinds kind there)

known_in : (known kinds : List ℕ) (kind : ℕ) → Contains known kind → Contains (with_kinds known kinds) kind
known_in [] kinds kind there = absurd (Contains-none kind there)
known_in (first ∷ rest) kinds kind there = by_cases (Contains-cases first kind rest there) (λ later. known_in rest (with_kind first kinds) kind later)
  where
    by_cases : (first ≡ kind) ⊎ Contains rest kind → (Contains rest kind → Contains (with_kinds rest (with_kind first kinds)) kind) → Contains (with_kinds rest (with_kind first kinds)) kind
    by_cases (inl same) later = others_in rest (with_kind first kinds) kind (subst (λ (k : ℕ). Contains (with_kind first kinds) k) same (contains_new first kinds))
    by_cases (inr within) later = later within

either_in : (known kinds : List ℕ) (kind : ℕ) → Contains (with_kinds known kinds) kind → Contains known kind ⊎ Contains kinds kind
either_in [] kinds kind there = inr there
either_in (first ∷ rest) kinds kind there = by_cases (either_in rest (with_kind first kinds) kind there)
  where
    by_new : (first ≡ kind) ⊎ Contains kinds kind → Contains (first ∷ rest) kind ⊎ Contains kinds kind
    by_new (inl same) = inl (subst (λ (k : ℕ). Contains (first ∷ rest) k) same (Contains-first first rest))
    by_new (inr old) = inr old

    by_cases : Contains rest kind ⊎ Contains (with_kind first kinds) kind → Contains (first ∷ rest) kind ⊎ Contains kinds kind
    by_cases (inl within) = inl (Contains-later first kind rest within)
    by_cases (inr within) = by_new (contains_from first kinds kind within)

ascending_more : (known kinds : List ℕ) → are_ascending kinds ≡ true → are_ascending (with_kinds known kinds) ≡ true
ascending_more [] kinds ascend = ascend
ascending_more (first ∷ rest) kinds ascend = ascending_more rest (with_kind first kinds) (ascending_with first kinds ascend)

-- Those of posts.

pub known_with : (known : List ℕ) (posts : List Posted) (kind : ℕ) → Contains known kind → Contains (kinds_with known posts) kind
known_with known [] kind there = there
known_with known (first ∷ rest) kind there = known_with (with_kinds known first.kinds) rest kind (known_in known first.kinds kind there)

pub kind_with : (known : List ℕ) (posts : List Posted) (posted : Posted) (kind : ℕ) → Contains posts posted → Contains posted.kinds kind → Contains (kinds_with known posts) kind
kind_with known [] posted kind among there = absurd (Contains-none posted among)
kind_with known (first ∷ rest) posted kind among there = by_cases (Contains-cases first posted rest among) (λ later. kind_with (with_kinds known first.kinds) rest posted kind later there)
  where
    by_cases : (first ≡ posted) ⊎ Contains rest posted → (Contains rest posted → Contains (kinds_with (with_kinds known first.kinds) rest) kind) → Contains (kinds_with (with_kinds known first.kinds) rest) kind
    by_cases (inl same) later = known_with (with_kinds known first.kinds) rest kind (others_in known first.kinds kind (subst (λ (p : Posted). Contains p.kinds kind) (sym same) there))
    by_cases (inr within) later = later within

-- a post that has a kind
pub record HasKind (posts : List Posted) (kind : ℕ) : Type 0 where
  pub posted : Posted
  pub among : Contains posts posted
  pub has : Contains posted.kinds kind

pub from_one : (known : List ℕ) (posts : List Posted) (kind : ℕ) → Contains (kinds_with known posts) kind → Contains known kind ⊎ HasKind posts kind
from_one known [] kind there = inl there
from_one known (first ∷ rest) kind there = by_cases (from_one (with_kinds known first.kinds) rest kind there)
  where
    by_known : Contains known kind ⊎ Contains first.kinds kind → Contains known kind ⊎ HasKind (first ∷ rest) kind
    by_known (inl old) = inl old
    by_known (inr new) = inr (record { posted = first; among = Contains-first first rest; has = new })

    by_cases : Contains (with_kinds known first.kinds) kind ⊎ HasKind rest kind → Contains known kind ⊎ HasKind (first ∷ rest) kind
    by_cases (inl within) = by_known (either_in known first.kinds kind within)
    by_cases (inr has) = inr (record { posted = has.posted; among = Contains-later first has.posted rest has.among; has = has.has })

pub ascending_together : (known : List ℕ) (posts : List Posted) → are_ascending known ≡ true → ((posted : Posted) → Contains posts posted → are_ascending posted.kinds ≡ true) → are_ascending (kinds_with known posts) ≡ true
ascending_together known [] ascend each = ascend
ascending_together known (first ∷ rest) ascend each =
    ascending_together (with_kinds known first.kinds) rest (ascending_more known first.kinds (each first (Contains-first first rest))) (λ posted among. each posted (Contains-later first posted rest among))
