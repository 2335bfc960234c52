-- What the calls of the start ask for is there.
use Rattle.std.proofs.Common.{◌≡◌, ℕ, suc, ◌+◌, ◌-◌, ◌<◌, ◌≤◌, Bool, true, false, List, [], ◌∷◌, map, length, take, drop, Option, Some, None, refl, sym, ◌∙◌, ap, subst, length-append, arith}
use Rattle.std.specs.Prelude.{Result, Ok, Err, IfOk, IsTrue, All, slice_index_or, if◌then◌else◌}
use Rattle.std.specs.List.{list_all}
use Rattle.std.proofs.lemmas.List.Elements.{All-head, All-tail}
use Rattle.cbase.specs.declared.stop.Stop.{Stop}
use Rattle.graph.specs.declared.object.Object.{Object}
use Rattle.graph.specs.declared.parts.KeyedValue.{KeyedValue}
use Rattle.graph.specs.declared.parts.Parts.{Parts}
use Rattle.graph.specs.Maps.{object_at, storage_of}
use Rattle.graph.specs.Whole.{IsGraph, no_parts}
use Rattle.graph.proofs.Tests.{and_both}
use Rattle.flow.specs.declared.flow_graph.Flow.{Flow}
use Rattle.flow.specs.declared.flow_graph.Initial.{Initial}
use Rattle.flow.specs.declared.flow_graph.Variable.{Variable}
use Rattle.flow.specs.InRange.{entry_of}
use Rattle.flow.specs.Machine.{size_in}
use Rattle.flow.specs.Runs.{parameters_of}
use Rattle.flow.specs.Valid.{IsFlow, is_initial, is_object_size}
use Rattle.block_steps.specs.Entering.{MayEnter}
use Rattle.heap_steps.specs.Regions.{AreRegions}
use Rattle.transfer.specs.Fitting.{FitsAt}
use Rattle.transfer.specs.Start.{AreNamed, MayStand, with_static, with_statics, initial_value, object_found, with_scalar, with_initial, with_initials, static_graph, IsStartGraph}
use Rattle.transfer.proofs.InitialWritten.{named_after, may_stand}
use Rattle.transfer.proofs.StartSound.{statics_are_named, few_variables, static_graph_named, parameters_may_enter, start_fits, start_regions}

-- The loop over scalars.

take_whole : {A : Type 0} (items : List A) → take (length items) items ≡ items
take_whole [] = refl
take_whole (first ∷ rest) = ap (λ (xs : List _). first ∷ xs) (take_whole rest)

rest_is : {A : Type 0} (first : A) (rest : List A) (count : ℕ) → length (first ∷ rest) ≡ count → take (count - 1) rest ≡ rest
rest_is first rest count is = ap (λ (n : ℕ). take n rest) (let all : suc (length rest) ≡ count = is in let same : count - 1 ≡ length rest = omega arith in same) ∙ take_whole rest

pub may_next : (flow : Flow) (left : List Initial) (parts : Parts) (other : Initial) → 1 ≤ length left → AreNamed flow parts → All (λ scalar. IsTrue (is_initial flow scalar)) left → MayStand parts (slice_index_or left 0 other)
may_next flow [] parts other some are right = absurd (omega arith)
may_next flow (first ∷ rest) parts other some are right = may_stand flow parts are first (All-head (λ scalar. IsTrue (is_initial flow scalar)) first rest right)

pub initials_next : (left all : List Initial) (start parts after : Parts) (other : Initial) (count : ℕ) → 1 ≤ length left → length left ≡ count → with_initials all start ≡ with_initials left parts →
    after ≡ with_initial (slice_index_or left 0 other) parts → with_initials all start ≡ with_initials (take (count - 1) (drop 1 left)) after
initials_next [] all start parts after other count some is same after_is = absurd (omega arith)
initials_next (first ∷ rest) all start parts after other count some is same after_is =
    same ∙ ap (with_initials rest) (sym after_is) ∙ ap (λ (xs : List Initial). with_initials xs after) (sym (rest_is first rest count is))

pub named_next : (flow : Flow) (left : List Initial) (parts after : Parts) (other : Initial) → 1 ≤ length left → AreNamed flow parts → All (λ scalar. IsTrue (is_initial flow scalar)) left →
    after ≡ with_initial (slice_index_or left 0 other) parts → AreNamed flow after
named_next flow [] parts after other some are right after_is = absurd (omega arith)
named_next flow (first ∷ rest) parts after other some are right after_is =
    subst (AreNamed flow) (sym after_is) (named_after flow parts are first (All-head (λ scalar. IsTrue (is_initial flow scalar)) first rest right))

pub right_next : (flow : Flow) (left : List Initial) (count : ℕ) → 1 ≤ length left → length left ≡ count → All (λ scalar. IsTrue (is_initial flow scalar)) left → All (λ scalar. IsTrue (is_initial flow scalar)) (take (count - 1) (drop 1 left))
right_next flow [] count some is right = absurd (omega arith)
right_next flow (first ∷ rest) count some is right =
    subst (All (λ scalar. IsTrue (is_initial flow scalar))) (sym (rest_is first rest count is)) (All-tail (λ scalar. IsTrue (is_initial flow scalar)) first rest right)

values_more : (scalar : Initial) (parts : Parts) → length (with_initial scalar parts).values ≤ length parts.values + 1
values_more scalar parts = by_found (storage_of parts.variables scalar.variable)
  where
    by_object : (key : ℕ) (found : Option Object) → length (with_scalar (Some key) found scalar (initial_value parts scalar.size scalar.word) parts).values ≤ length parts.values + 1
    by_object key None = omega arith
    by_object key (Some object) = let long = length-append parts.values (record { key = length parts.values; value = initial_value parts scalar.size scalar.word } ∷ []) in omega arith

    by_found : (found : Option ℕ) → length (with_scalar found (object_found parts found) scalar (initial_value parts scalar.size scalar.word) parts).values ≤ length parts.values + 1
    by_found None = omega arith
    by_found (Some key) = by_object key (object_at parts.objects key)

pub few_next : (left : List Initial) (parts after : Parts) (other : Initial) (count : ℕ) → 1 ≤ length left → length left ≡ count → length parts.values + length left < 4294967296 → after ≡ with_initial (slice_index_or left 0 other) parts →
    length after.values + length (take (count - 1) (drop 1 left)) < 4294967296
few_next [] parts after other count some is few after_is = absurd (omega arith)
few_next (first ∷ rest) parts after other count some is few after_is =
    let more = values_more first parts in
    let long : length (take (count - 1) rest) ≡ length rest = ap length (rest_is first rest count is) in
    let now : length after.values ≡ length (with_initial first parts).values = ap (λ (p : Parts). length p.values) after_is in
    let all : length parts.values + suc (length rest) < 4294967296 = few in omega arith

-- The static variables.

all_test : (p : Variable → Bool) (items : List Variable) → All (λ item. IsTrue (p item)) items → list_all p items ≡ true
all_test p [] all = refl
all_test p (first ∷ rest) all = and_both (p first) (list_all p rest) (All-head (λ item. IsTrue (p item)) first rest all) (all_test p rest (All-tail (λ item. IsTrue (p item)) first rest all))

pub variables_small : (flow : Flow) (given : List Variable) → IsFlow flow → given ≡ flow.variables → list_all (λ variable. is_object_size variable.size) given ≡ true
variables_small flow given valid same =
    ap (list_all (λ (variable : Variable). is_object_size variable.size)) same ∙ all_test (λ (variable : Variable). is_object_size variable.size) flow.variables valid.variable_sizes

pub statics_values : (number : ℕ) (variables : List Variable) (parts : Parts) → (with_statics number variables parts).values ≡ parts.values
statics_values number [] parts = refl
statics_values number (variable ∷ rest) parts = statics_values (number + 1) rest (if variable.fixed then with_static number variable.size parts else parts) ∙ by_kind variable.fixed
  where
    by_kind : (b : Bool) → (if b then with_static number variable.size parts else parts).values ≡ parts.values
    by_kind true = refl
    by_kind false = refl

pub values_few : (flow : Flow) (given : List Variable) (start parts : Parts) → start ≡ no_parts → parts ≡ with_statics 0 given start → length flow.initial < 4294967295 → length parts.values + length flow.initial < 4294967296
values_few flow given start parts start_is is few =
    let none : length parts.values ≡ 0 = ap (λ (p : Parts). length p.values) is ∙ ap (λ (vs : List KeyedValue). length vs) (statics_values 0 given start) ∙ ap (λ (p : Parts). length p.values) start_is in omega arith

pub statics_ready : (flow : Flow) (given : List Variable) (start parts : Parts) → IsFlow flow → length flow.variables < 33554432 → given ≡ flow.variables → start ≡ no_parts → parts ≡ with_statics 0 given start → AreNamed flow parts
statics_ready flow given start parts valid few same start_is is =
    subst (AreNamed flow) (sym (is ∙ ap (λ (vs : List Variable). with_statics 0 vs start) same ∙ ap (with_statics 0 flow.variables) start_is)) (statics_are_named flow valid (few_variables flow few))

pub static_ready : (flow : Flow) (parts : Parts) → IsFlow flow → length flow.variables < 33554432 → parts ≡ static_graph flow → IsGraph parts
static_ready flow parts valid few is = subst IsGraph (sym is) (static_graph_named flow valid few).graph

-- Main's parameters.

pub parameters_ready : (flow : Flow) (parts : Parts) (given sizes : List ℕ) → IsFlow flow → length flow.variables < 33554432 → parts ≡ static_graph flow → given ≡ parameters_of flow flow.main → sizes ≡ map (size_in flow) given →
    MayEnter parts given sizes
parameters_ready flow parts given sizes valid few is given_is sizes_are =
    subst (λ (ns : List ℕ). MayEnter parts given ns) (sym sizes_are)
    (subst (λ (vs : List ℕ). MayEnter parts vs (map (size_in flow) vs)) (sym given_is) (parameters_may_enter flow valid parts (subst (AreNamed flow) (sym is) (static_graph_named flow valid few))))

pub started : (flow : Flow) (result : Result Parts Stop) → IsFlow flow → IfOk result (λ graph. IsStartGraph flow graph) → IfOk result (λ graph. FitsAt flow (entry_of flow flow.main) graph)
started flow (Ok parts) valid start = subst (FitsAt flow (entry_of flow flow.main)) (sym start.is) (start_fits flow valid (subst IsGraph start.is start.graph))
started flow (Err error) valid start = tt

pub started_regions : (flow : Flow) (result : Result Parts Stop) → IsFlow flow → IfOk result (λ graph. IsStartGraph flow graph) → IfOk result (λ graph. AreRegions graph.objects)
started_regions flow (Ok parts) valid start = subst (λ (p : Parts). AreRegions p.objects) (sym start.is) (start_regions flow valid (subst IsGraph start.is start.graph))
started_regions flow (Err error) valid start = tt
