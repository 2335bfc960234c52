-- What is noted of points: that it is so, and what it tells where no edge is open.
use Rattle.std.proofs.Common.{◌≡◌, ◌≢◌, ℕ, zero, suc, ◌+◌, ◌<◌, ◌⊎◌, inl, inr, List, length, get_or, refl, sym, ap, subst, ◌∙◌, true, false, not, nat_eq, Some, arith}
use Rattle.std.specs.Prelude.{All, Contains, slice_get, slice_set, slice_index}
use Rattle.std.proofs.lemmas.Bool.{cases_eq, eqb-true, and_parts, and_cases, not-true, not-false, eqb-false}
use Rattle.std.proofs.lemmas.List.{get_or-set_same, get_or-set_other, length-set}
use Rattle.std.proofs.lemmas.List.Elements.{All-contains}
use Rattle.std.proofs.lemmas.Option.{slice_get_within}
use Rattle.flow.specs.declared.flow_graph.Flow.{Flow}
use Rattle.flow.specs.declared.flow_graph.FlowEdge.{FlowEdge}
use Rattle.flow.specs.declared.flow_graph.FlowFunction.{FlowFunction}
use Rattle.flow.specs.Valid.{Reached, Here, Along, AreSeparate}
use Rattle.flow.specs.Owning.{IsReachedFrom, AreOwned, is_open}

-- a number that is not 0 is one more than another
above_zero : (number : ℕ) → number ≢ 0 → (less : ℕ) × (number ≡ suc less)
above_zero zero differs = absurd (differs refl)
above_zero (suc less) differs = (less, refl)

-- two functions with one entry
pub shared_entry : (flow : Flow) (count : ℕ) (owners : List ℕ) (function : FlowFunction) → AreOwned flow count owners →
    slice_get flow.functions count ≡ Some function → slice_index owners function.entry ≢ 0 → AreSeparate flow → ⊥
shared_entry flow count owners function are stands noted separate =
    let owner = above_zero (slice_index owners function.entry) noted in
    let from = are.reached function.entry owner.0 owner.1 in
    let less : owner.0 < count = are.below function.entry owner.0 owner.1 in
    let same : owner.0 ≡ count = separate.points owner.0 count function.entry from.function function from.stands stands from.reached Here in
    omega arith

-- what a list has at a place after one item is changed
set_cases : (owners : List ℕ) (at new point : ℕ) → at < length owners →
    ((point ≡ at) × (slice_index (slice_set owners at new) point ≡ new))
    ⊎ ((point ≢ at) × (slice_index (slice_set owners at new) point ≡ slice_index owners point))
set_cases owners at new point below = by_place (cases_eq point at)
  where
    by_place : (point ≡ at) ⊎ (point ≡ at → ⊥) →
        ((point ≡ at) × (slice_index (slice_set owners at new) point ≡ new))
        ⊎ ((point ≢ at) × (slice_index (slice_set owners at new) point ≡ slice_index owners point))
    by_place (inl same) = inl (same, ap (λ (k : ℕ). get_or (slice_set owners at new) k 0) same ∙ get_or-set_same owners at new 0 below)
    by_place (inr differs) = inr (differs, get_or-set_other owners at point new 0 differs)

-- nothing is noted at a place that is an entry only where the entry's function comes later
keeps_entries : (flow : Flow) (count : ℕ) (owners : List ℕ) (at new : ℕ) → AreOwned flow count owners → at < length owners → slice_index owners at ≡ 0 →
    (number : ℕ) (function : FlowFunction) → number < count → slice_get flow.functions number ≡ Some function →
    slice_index (slice_set owners at new) function.entry ≡ suc number
keeps_entries flow count owners at new are below free number function less stands = by_place (set_cases owners at new function.entry below)
  where
    noted : slice_index owners function.entry ≡ suc number
    noted = are.entries number function less stands

    by_place : ((function.entry ≡ at) × (slice_index (slice_set owners at new) function.entry ≡ new))
        ⊎ ((function.entry ≢ at) × (slice_index (slice_set owners at new) function.entry ≡ slice_index owners function.entry)) →
        slice_index (slice_set owners at new) function.entry ≡ suc number
    by_place (inl (same, is)) =
        let there : slice_index owners function.entry ≡ 0 = ap (λ (k : ℕ). slice_index owners k) same ∙ free in
        absurd (omega (arith, sym noted ∙ there))
    by_place (inr (differs, is)) = is ∙ noted

-- a place that was free gets a note that is so
owned_more : (flow : Flow) (count more : ℕ) (owners : List ℕ) (at new : ℕ) → AreOwned flow count owners → at < length owners →
    ((number : ℕ) → number < count → number < more) →
    ((number : ℕ) → new ≡ suc number → IsReachedFrom flow number at × (number < more)) →
    ((number : ℕ) (function : FlowFunction) → number < more → slice_get flow.functions number ≡ Some function →
    slice_index (slice_set owners at new) function.entry ≡ suc number) →
    AreOwned flow more (slice_set owners at new)
owned_more flow count more owners at new are below wider is_so entries = record {
  points = length-set owners at new ∙ are.points;
  reached = λ point number is. reached point number is (set_cases owners at new point below);
  below = λ point number is. less point number is (set_cases owners at new point below);
  entries = entries;
}
  where
    reached : (point number : ℕ) → slice_index (slice_set owners at new) point ≡ suc number →
        ((point ≡ at) × (slice_index (slice_set owners at new) point ≡ new))
        ⊎ ((point ≢ at) × (slice_index (slice_set owners at new) point ≡ slice_index owners point)) → IsReachedFrom flow number point
    reached point number is (inl (same, here)) = subst (λ (k : ℕ). IsReachedFrom flow number k) (sym same) (is_so number (sym here ∙ is)).0
    reached point number is (inr (differs, there)) = are.reached point number (sym there ∙ is)

    less : (point number : ℕ) → slice_index (slice_set owners at new) point ≡ suc number →
        ((point ≡ at) × (slice_index (slice_set owners at new) point ≡ new))
        ⊎ ((point ≢ at) × (slice_index (slice_set owners at new) point ≡ slice_index owners point)) → number < more
    less point number is (inl (same, here)) = (is_so number (sym here ∙ is)).1
    less point number is (inr (differs, there)) = wider number (are.below point number (sym there ∙ is))

-- the entry of one function more
pub entry_more : (flow : Flow) (count : ℕ) (owners : List ℕ) (function : FlowFunction) → AreOwned flow count owners →
    slice_get flow.functions count ≡ Some function → function.entry < length owners → slice_index owners function.entry ≡ 0 →
    AreOwned flow (count + 1) (slice_set owners function.entry (count + 1))
entry_more flow count owners function are stands below free =
    owned_more flow count (count + 1) owners function.entry (count + 1) are below (λ number less. omega arith) is_so entries
  where
    is_so : (number : ℕ) → count + 1 ≡ suc number → IsReachedFrom flow number function.entry × (number < count + 1)
    is_so number is =
        let same : number ≡ count = omega arith in
        (record { function = function; stands = ap (λ (k : ℕ). slice_get flow.functions k) same ∙ stands; reached = Here }, omega arith)

    by_number : (number : ℕ) (other : FlowFunction) → number < count + 1 → slice_get flow.functions number ≡ Some other →
        (number ≡ count) ⊎ (number ≡ count → ⊥) → slice_index (slice_set owners function.entry (count + 1)) other.entry ≡ suc number
    by_number number other less there (inl same) =
        let found : Some function ≡ Some other = sym stands ∙ (ap (λ (k : ℕ). slice_get flow.functions k) (sym same) ∙ there) in
        let one : function ≡ other = cc in
        ap (λ (f : FlowFunction). slice_index (slice_set owners function.entry (count + 1)) f.entry) (sym one)
        ∙ (get_or-set_same owners function.entry (count + 1) 0 below ∙ omega arith)
    by_number number other less there (inr differs) =
        keeps_entries flow count owners function.entry (count + 1) are below free number other (omega arith) there

    entries : (number : ℕ) (other : FlowFunction) → number < count + 1 → slice_get flow.functions number ≡ Some other →
        slice_index (slice_set owners function.entry (count + 1)) other.entry ≡ suc number
    entries number other less there = by_number number other less there (cases_eq number count)

-- the end of an edge
pub end_more : (flow : Flow) (count : ℕ) (owners : List ℕ) (edge : FlowEdge) → AreOwned flow count owners → Contains flow.edges edge →
    edge.to < length owners → slice_index owners edge.to ≡ 0 →
    AreOwned flow count (slice_set owners edge.to (slice_index owners edge.from))
end_more flow count owners edge are stands below free =
    owned_more flow count count owners edge.to (slice_index owners edge.from) are below (λ number less. less) is_so
    (keeps_entries flow count owners edge.to (slice_index owners edge.from) are below free)
  where
    is_so : (number : ℕ) → slice_index owners edge.from ≡ suc number → IsReachedFrom flow number edge.to × (number < count)
    is_so number is =
        let from = are.reached edge.from number is in (
          record { function = from.function; stands = from.stands; reached = Along edge.from edge from.reached stands refl },
          are.below edge.from number is,
        )

-- an open edge whose end is noted joins what is reached from two entries
pub two_owners : (flow : Flow) (count : ℕ) (owners : List ℕ) (edge : FlowEdge) → AreOwned flow count owners → Contains flow.edges edge →
    is_open owners edge ≡ true → slice_index owners edge.to ≢ 0 → AreSeparate flow → ⊥
two_owners flow count owners edge are stands leads_on noted separate =
    let parts = and_parts (not (nat_eq (slice_index owners edge.from) 0)) (not (nat_eq (slice_index owners edge.from) (slice_index owners edge.to))) leads_on in
    let left = above_zero (slice_index owners edge.from) (eqb-false _ _ (not-true _ parts.0)) in
    let right = above_zero (slice_index owners edge.to) noted in
    let one = are.reached edge.from left.0 left.1 in
    let other = are.reached edge.to right.0 right.1 in
    let same : left.0 ≡ right.0 = separate.points left.0 right.0 edge.to one.function other.function one.stands other.stands
    (Along edge.from edge one.reached stands refl) other.reached in
    eqb-false _ _ (not-true _ parts.1) (left.1 ∙ (ap suc same ∙ sym right.1))

-- where no edge is open, it is noted of each point that is reached
pub noted_along : (flow : Flow) (owners : List ℕ) (number : ℕ) (function : FlowFunction) → AreOwned flow (length flow.functions) owners →
    All (λ edge. is_open owners edge ≡ false) flow.edges → number < length flow.functions → slice_get flow.functions number ≡ Some function →
    (point : ℕ) → Reached flow function.entry point → slice_index owners point ≡ suc number
noted_along flow owners number function are closed below stands point Here = are.entries number function below stands
noted_along flow owners number function are closed below stands point (Along middle edge reached there from) =
    let before : slice_index owners edge.from ≡ suc number =
    ap (λ (k : ℕ). slice_index owners k) from ∙ noted_along flow owners number function are closed below stands middle reached in
    by_test before (and_cases _ _ (All-contains (λ one. is_open owners one ≡ false) flow.edges edge closed there))
  where
    by_test : slice_index owners edge.from ≡ suc number →
        (not (nat_eq (slice_index owners edge.from) 0) ≡ false) ⊎ (not (nat_eq (slice_index owners edge.from) (slice_index owners edge.to)) ≡ false) →
        slice_index owners edge.to ≡ suc number
    by_test before (inl free) = absurd (omega (arith, sym before ∙ eqb-true _ _ (not-false _ free)))
    by_test before (inr same) = sym (eqb-true _ _ (not-false _ same)) ∙ before

-- another note at an exit than its function joins it to the entry of another
pub other_exit : (flow : Flow) (count : ℕ) (owners : List ℕ) (number : ℕ) (function : FlowFunction) → AreOwned flow count owners →
    slice_get flow.functions number ≡ Some function →
    ((slice_index owners function.exit ≢ 0 → slice_index owners function.exit ≡ number + 1) → ⊥) → AreSeparate flow → ⊥
other_exit flow count owners number function are stands other separate = by_note (cases_eq (slice_index owners function.exit) 0)
  where
    by_note : (slice_index owners function.exit ≡ 0) ⊎ (slice_index owners function.exit ≡ 0 → ⊥) → ⊥
    by_note (inl free) = other (λ noted. absurd (noted free))
    by_note (inr noted) =
        let owner = above_zero (slice_index owners function.exit) noted in
        let from = are.reached function.exit owner.0 owner.1 in
        let same : owner.0 ≡ number = separate.exits owner.0 number from.function function from.stands stands from.reached in
        let is : slice_index owners function.exit ≡ number + 1 = omega (arith, owner.1) in
        other (λ there. is)

-- what is noted at exits and at all that is reached tells that functions are separate
pub separate_told : (flow : Flow) (owners : List ℕ) → AreOwned flow (length flow.functions) owners →
    All (λ edge. is_open owners edge ≡ false) flow.edges →
    ((number : ℕ) (function : FlowFunction) → slice_get flow.functions number ≡ Some function →
    slice_index owners function.exit ≢ 0 → slice_index owners function.exit ≡ suc number) → AreSeparate flow
separate_told flow owners are closed exits = record {
  points = λ one other point function second stands there from to.
      let left : slice_index owners point ≡ suc one = noted one function stands point from in
      let right : slice_index owners point ≡ suc other = noted other second there point to in
      omega arith;
  exits = λ one other function second stands there from.
      let left : slice_index owners second.exit ≡ suc one = noted one function stands second.exit from in
      let right : slice_index owners second.exit ≡ suc other = exits other second there (λ free. absurd (omega (arith, sym left ∙ free))) in
      omega arith;
}
  where
    noted : (number : ℕ) (function : FlowFunction) → slice_get flow.functions number ≡ Some function → (point : ℕ) →
        Reached flow function.entry point → slice_index owners point ≡ suc number
    noted number function stands point from =
        noted_along flow owners number function are closed (slice_get_within flow.functions number function stands) stands point from

-- the exit of one function more
pub exits_more : (functions : List FlowFunction) (owners : List ℕ) (count : ℕ) (item : FlowFunction) → slice_get functions count ≡ Some item →
    (slice_index owners item.exit ≢ 0 → slice_index owners item.exit ≡ count + 1) →
    ((number : ℕ) (function : FlowFunction) → number < count → slice_get functions number ≡ Some function →
    slice_index owners function.exit ≢ 0 → slice_index owners function.exit ≡ suc number) →
    (number : ℕ) (function : FlowFunction) → number < count + 1 → slice_get functions number ≡ Some function →
    slice_index owners function.exit ≢ 0 → slice_index owners function.exit ≡ suc number
exits_more functions owners count item here own earlier number function less there noted = by_number (cases_eq number count)
  where
    by_number : (number ≡ count) ⊎ (number ≡ count → ⊥) → slice_index owners function.exit ≡ suc number
    by_number (inl same) =
        let found : Some item ≡ Some function = sym here ∙ (ap (λ (k : ℕ). slice_get functions k) (sym same) ∙ there) in
        let one : item ≡ function = cc in
        let at : slice_index owners item.exit ≡ slice_index owners function.exit = ap (λ (f : FlowFunction). slice_index owners f.exit) one in
        let is = own (λ free. noted (sym at ∙ free)) in
        omega arith
    by_number (inr differs) = earlier number function (omega arith) there noted
