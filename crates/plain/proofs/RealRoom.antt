-- Graphs of the analysis have room for what an instruction makes.
use Rattle.std.proofs.Common.{◌≡◌, ℕ, zero, suc, ◌+◌, ◌^◌, ◌<◌, ◌≤◌, Bool, true, false, ◌&&◌, ◌||◌, not, List, [], ◌∷◌, length, nat_eq, nat_lt, refl, sym, ◌∙◌, ap, subst, eqb-true, eq-eqb, ltb-true, ltb-false, lt-ltb, cond, arith, Option, None, Some}
use Rattle.std.specs.Prelude.{slice_get, sum_by}
use Rattle.std.specs.List.{list_all, list_any}
use Rattle.std.specs.Option.{option_map_or}
use Rattle.std.proofs.lemmas.Bool.{false≢true}
use Rattle.std.proofs.lemmas.List.Sums.{sum_by-cons}
use Rattle.std.proofs.lemmas.Option.{slice_get_within}
use Rattle.graph.specs.declared.object.Shape.{Shape}
use Rattle.graph.specs.declared.object.Shape.TheVariants.{Region, Segment}
use Rattle.graph.specs.declared.parts.KeyedObject.{KeyedObject}
use Rattle.graph.specs.declared.parts.Parts.{Parts}
use Rattle.graph.specs.Nodes.{is_region}
use Rattle.graph.specs.WellFormed.{nodes, nodes_of}
use Rattle.graph.proofs.Tests.{and_left, and_right, and_both}
use Rattle.block_steps.specs.Blocks.{has_room}
use Rattle.heap_steps.specs.Regions.{AreRegions}
use Rattle.flow.specs.declared.flow_graph.Flow.{Flow}
use Rattle.flow.specs.declared.flow_graph.Standing.{Standing}
use Rattle.flow.specs.declared.flow_graph.Variable.{Variable}
use Rattle.flow.specs.declared.instruction.Instr.{Instr}
use Rattle.flow.specs.declared.instruction.Instr.TheVariants.{Number, Address, Move, Read, Write, Shift, ShiftBy, Compute, Convert, IfSame, IfDifferent, Allocate, AllocateNone, Release, Fill, Copy, Enter, Leave, Finish, Input, Call, Return, Close}
use Rattle.flow.specs.Standing.{stands_at}
use Rattle.flow.specs.Valid.{are_distinct, is_local, has_scope}
use Rattle.driver.specs.Driven.{IsPlaced}
use Rattle.plain.proofs.RealSteps.{makes}

-- Numbers below a bound, of which none stands twice, are no more than the bound.

abbrev removed : ℕ → List ℕ → List ℕ
removed gone [] = []
removed gone (first ∷ rest) = cond (nat_eq gone first) rest (first ∷ removed gone rest)

not_true : (b : Bool) → not b ≡ true → b ≡ false
not_true true is = absurd (false≢true is)
not_true false is = refl

one_less : (gone : ℕ) (numbers : List ℕ) → length numbers ≤ suc (length (removed gone numbers))
one_less gone [] = omega arith
one_less gone (first ∷ rest) = by_hit (nat_eq gone first) (one_less gone rest)
  where
    by_hit : (hit : Bool) → length rest ≤ suc (length (removed gone rest)) → length (first ∷ rest) ≤ suc (length (cond hit rest (first ∷ removed gone rest)))
    by_hit true later = omega arith
    by_hit false later = omega arith

none_more : (one gone : ℕ) (numbers : List ℕ) → list_any (nat_eq one) numbers ≡ false → list_any (nat_eq one) (removed gone numbers) ≡ false
none_more one gone [] none = refl
none_more one gone (first ∷ rest) none = by_test (nat_eq one first) refl none (nat_eq gone first) (none_more one gone rest)
  where
    by_test : (same : Bool) → nat_eq one first ≡ same → (same || list_any (nat_eq one) rest) ≡ false → (hit : Bool) →
        (list_any (nat_eq one) rest ≡ false → list_any (nat_eq one) (removed gone rest) ≡ false) → list_any (nat_eq one) (cond hit rest (first ∷ removed gone rest)) ≡ false
    by_test true same none hit later = absurd (false≢true (sym none))
    by_test false same none true later = none
    by_test false same none false later = subst (λ (b : Bool). (b || list_any (nat_eq one) (removed gone rest)) ≡ false) (sym same) (later none)

still_distinct : (gone : ℕ) (numbers : List ℕ) → are_distinct numbers ≡ true → are_distinct (removed gone numbers) ≡ true
still_distinct gone [] distinct = refl
still_distinct gone (first ∷ rest) distinct =
    by_hit (nat_eq gone first)
    (none_more first gone rest (not_true (list_any (nat_eq first) rest) (and_left (not (list_any (nat_eq first) rest)) (are_distinct rest) distinct)))
    (and_right (not (list_any (nat_eq first) rest)) (are_distinct rest) distinct)
    (still_distinct gone rest (and_right (not (list_any (nat_eq first) rest)) (are_distinct rest) distinct))
  where
    by_hit : (hit : Bool) → list_any (nat_eq first) (removed gone rest) ≡ false → are_distinct rest ≡ true → are_distinct (removed gone rest) ≡ true → are_distinct (cond hit rest (first ∷ removed gone rest)) ≡ true
    by_hit true none all later = all
    by_hit false none all later = subst (λ (b : Bool). (not b && are_distinct (removed gone rest)) ≡ true) (sym none) later

lower : (one high : ℕ) → one < suc high → nat_eq high one ≡ false → nat_lt one high ≡ true
lower one high less other = by_lt (nat_lt one high) refl
  where
    by_lt : (b : Bool) → nat_lt one high ≡ b → nat_lt one high ≡ true
    by_lt true is = is
    by_lt false is =
        let least : high ≤ one = ltb-false one high is in
        let same : high ≡ one = omega arith in
        absurd (false≢true (sym other ∙ eq-eqb high one same))

all_below : (bound : ℕ) (numbers : List ℕ) → list_any (nat_eq bound) numbers ≡ false → list_all (λ number. nat_lt number (suc bound)) numbers ≡ true → list_all (λ number. nat_lt number bound) numbers ≡ true
all_below bound [] none all = refl
all_below bound (first ∷ rest) none all =
    by_test (nat_eq bound first) refl none
    (λ others. all_below bound rest others (and_right (nat_lt first (suc bound)) (list_all (λ number. nat_lt number (suc bound)) rest) all))
  where
    by_test : (same : Bool) → nat_eq bound first ≡ same → (same || list_any (nat_eq bound) rest) ≡ false → (list_any (nat_eq bound) rest ≡ false → list_all (λ number. nat_lt number bound) rest ≡ true) →
        (nat_lt first bound && list_all (λ number. nat_lt number bound) rest) ≡ true
    by_test true same none later = absurd (false≢true (sym none))
    by_test false same none later =
        and_both (nat_lt first bound) (list_all (λ number. nat_lt number bound) rest)
        (lower first bound (ltb-true first (suc bound) (and_left (nat_lt first (suc bound)) (list_all (λ number. nat_lt number (suc bound)) rest) all)) same) (later none)

removed_below : (bound : ℕ) (numbers : List ℕ) → are_distinct numbers ≡ true → list_all (λ number. nat_lt number (suc bound)) numbers ≡ true → list_all (λ number. nat_lt number bound) (removed bound numbers) ≡ true
removed_below bound [] distinct all = refl
removed_below bound (first ∷ rest) distinct all =
    by_hit (nat_eq bound first) refl (removed_below bound rest (and_right (not (list_any (nat_eq first) rest)) (are_distinct rest) distinct) later)
  where
    later : list_all (λ number. nat_lt number (suc bound)) rest ≡ true
    later = and_right (nat_lt first (suc bound)) (list_all (λ number. nat_lt number (suc bound)) rest) all

    none : list_any (nat_eq first) rest ≡ false
    none = not_true (list_any (nat_eq first) rest) (and_left (not (list_any (nat_eq first) rest)) (are_distinct rest) distinct)

    by_hit : (hit : Bool) → nat_eq bound first ≡ hit → list_all (λ number. nat_lt number bound) (removed bound rest) ≡ true →
        list_all (λ number. nat_lt number bound) (cond hit rest (first ∷ removed bound rest)) ≡ true
    by_hit true same before = all_below bound rest (ap (λ (n : ℕ). list_any (nat_eq n) rest) (eqb-true bound first same) ∙ none) later
    by_hit false same before =
        and_both (nat_lt first bound) (list_all (λ number. nat_lt number bound) (removed bound rest))
        (lower first bound (ltb-true first (suc bound) (and_left (nat_lt first (suc bound)) (list_all (λ number. nat_lt number (suc bound)) rest) all)) same) before

few_distinct : (bound : ℕ) (numbers : List ℕ) → are_distinct numbers ≡ true → list_all (λ number. nat_lt number bound) numbers ≡ true → length numbers ≤ bound
few_distinct zero [] distinct all = omega arith
few_distinct zero (first ∷ rest) distinct all = let less : first < 0 = ltb-true first 0 (and_left (nat_lt first 0) (list_all (λ number. nat_lt number 0) rest) all) in absurd (omega arith)
few_distinct (suc bound) numbers distinct all =
    let less = one_less bound numbers in
    let before = few_distinct bound (removed bound numbers) (still_distinct bound numbers distinct) (removed_below bound numbers distinct all) in
    omega arith

-- Variables that begin to stand are variables.

local_below : (flow : Flow) (variable : ℕ) → is_local flow variable ≡ true → nat_lt variable (length flow.variables) ≡ true
local_below flow variable local = by_found (slice_get flow.variables variable) refl local
  where
    by_found : (found : Option Variable) → slice_get flow.variables variable ≡ found → option_map_or (λ (one : Variable). not one.fixed) found false ≡ true → nat_lt variable (length flow.variables) ≡ true
    by_found None is local = absurd (false≢true local)
    by_found (Some one) is local = lt-ltb variable (length flow.variables) (slice_get_within flow.variables variable one is)

locals_below : (flow : Flow) (standing : Standing) (variables : List ℕ) → list_all (λ variable. is_local flow variable && not (list_any (nat_eq variable) standing.variables)) variables ≡ true →
    list_all (λ variable. nat_lt variable (length flow.variables)) variables ≡ true
locals_below flow standing [] all = refl
locals_below flow standing (first ∷ rest) all =
    let here = and_left (is_local flow first && not (list_any (nat_eq first) standing.variables)) (list_all (λ variable. is_local flow variable && not (list_any (nat_eq variable) standing.variables)) rest) all in
    and_both (nat_lt first (length flow.variables)) (list_all (λ variable. nat_lt variable (length flow.variables)) rest)
    (local_below flow first (and_left (is_local flow first) (not (list_any (nat_eq first) standing.variables)) here))
    (locals_below flow standing rest (and_right (is_local flow first && not (list_any (nat_eq first) standing.variables)) (list_all (λ variable. is_local flow variable && not (list_any (nat_eq variable) standing.variables)) rest) all))

makes_few : (flow : Flow) (standing : Standing) (instr : Instr) → length flow.variables < 33554432 → has_scope flow standing instr ≡ true → makes instr < 33554432
makes_few flow standing (Number into number size) few scope = omega arith
makes_few flow standing (Address into variable) few scope = omega arith
makes_few flow standing (Move into from) few scope = omega arith
makes_few flow standing (Read into at size pointer) few scope = omega arith
makes_few flow standing (Write at from size) few scope = omega arith
makes_few flow standing (Shift into at by) few scope = omega arith
makes_few flow standing (ShiftBy into at by scale) few scope = omega arith
makes_few flow standing (Compute into op one other size signed) few scope = omega arith
makes_few flow standing (Convert into from size signed) few scope = omega arith
makes_few flow standing (IfSame one other) few scope = omega arith
makes_few flow standing (IfDifferent one other) few scope = omega arith
makes_few flow standing (Allocate into bytes zeroed) few scope = omega arith
makes_few flow standing (AllocateNone into) few scope = omega arith
makes_few flow standing (Release at) few scope = omega arith
makes_few flow standing (Fill at from count) few scope = omega arith
makes_few flow standing (Copy to from count disjoint) few scope = omega arith
makes_few flow standing (Enter variables) few scope =
    let within = few_distinct (length flow.variables) variables
    (and_left (are_distinct variables) (list_all (λ variable. is_local flow variable && not (list_any (nat_eq variable) standing.variables)) variables) scope)
    (locals_below flow standing variables (and_right (are_distinct variables) (list_all (λ variable. is_local flow variable && not (list_any (nat_eq variable) standing.variables)) variables) scope)) in
    omega arith
makes_few flow standing (Leave variables) few scope = omega arith
makes_few flow standing (Finish registers) few scope = omega arith
makes_few flow standing (Input into size signed truth) few scope = omega arith
makes_few flow standing (Call function arguments into) few scope = omega arith
makes_few flow standing (Return from) few scope = omega arith
makes_few flow standing Close few scope = omega arith

-- A graph of regions has one node each.

region_node : (shape : Shape) → is_region shape ≡ true → nodes_of shape ≡ 1
region_node Region is = refl
region_node (Segment twofold head next prev back least next_value prev_value node) is = absurd (false≢true is)

region_nodes : (objects : List KeyedObject) → list_all (λ (entry : KeyedObject). is_region entry.object.shape) objects ≡ true →
    sum_by (λ (entry : KeyedObject). nodes_of entry.object.shape) objects ≡ length objects
region_nodes [] all = refl
region_nodes (first ∷ rest) all =
    let sum = sum_by-cons (λ (entry : KeyedObject). nodes_of entry.object.shape) first rest in
    let one : nodes_of first.object.shape ≡ 1 = region_node first.object.shape (and_left (is_region first.object.shape) (list_all (λ (entry : KeyedObject). is_region entry.object.shape) rest) all) in
    let later = region_nodes rest (and_right (is_region first.object.shape) (list_all (λ (entry : KeyedObject). is_region entry.object.shape) rest) all) in
    omega arith

pub room_there : (flow : Flow) (point : ℕ) (instr : Instr) (parts : Parts) → length flow.variables < 33554432 → IsPlaced flow point parts → AreRegions parts.objects → has_scope flow (stands_at flow point) instr ≡ true →
    has_room parts (makes instr) ≡ true
room_there flow point instr parts few placed regions scope =
    let less : length parts.objects < 1000000000 = ltb-true (length parts.objects) 1000000000 placed.small in
    let count : nodes parts ≡ length parts.objects = region_nodes parts.objects regions in
    let made : makes instr < 33554432 = makes_few flow (stands_at flow point) instr few scope in
    lt-ltb (nodes parts + makes instr) (2 ^ 30) (omega arith)
