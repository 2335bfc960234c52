-- The start graph has an object for each variable and each parameter of main at most, and no pair.
use Rattle.std.proofs.Common.{◌≡◌, ℕ, suc, ◌+◌, ◌≤◌, Bool, true, false, List, [], ◌∷◌, map, length, Option, None, Some, refl, ◌∙◌, ap, length-append, arith}
use Rattle.std.specs.Prelude.{if◌then◌else◌}
use Rattle.bytes_core.specs.declared.block.BlockKind.TheVariants.{Static}
use Rattle.graph.specs.declared.object.Object.{Object}
use Rattle.graph.specs.declared.parts.Parts.{Parts}
use Rattle.graph.specs.declared.value.Value.{Value}
use Rattle.graph.specs.Maps.{storage_of}
use Rattle.graph.specs.Whole.{no_parts}
use Rattle.changes.specs.Parts.{with_value}
use Rattle.changes.specs.Ranges.{written_object}
use Rattle.reinterpret.specs.Writing.{edge_at}
use Rattle.block_steps.specs.Blocks.{new_object}
use Rattle.flow.specs.declared.flow_graph.Flow.{Flow}
use Rattle.flow.specs.declared.flow_graph.Initial.{Initial}
use Rattle.flow.specs.declared.flow_graph.Variable.{Variable}
use Rattle.flow.specs.Machine.{size_in}
use Rattle.flow.specs.Runs.{parameters_of}
use Rattle.transfer.specs.Start.{with_static, with_statics, initial_value, with_scalar, object_found, with_initial, with_initials, static_graph, start_graph}
use Rattle.plain.proofs.PostSizes.{object_long}
use Rattle.plain.proofs.BlockSizes.{entered_few}

statics_long : (number : ℕ) (variables : List Variable) (parts : Parts) → length (with_statics number variables parts).objects ≤ length parts.objects + length variables
statics_long number [] parts = omega arith
statics_long number (variable ∷ rest) parts = by_kind variable.fixed (λ parts. statics_long (number + 1) rest parts)
  where
    by_kind : (b : Bool) → ((parts : Parts) → length (with_statics (number + 1) rest parts).objects ≤ length parts.objects + length rest) →
        length (with_statics (number + 1) rest (if b then with_static number variable.size parts else parts)).objects ≤ length parts.objects + suc (length rest)
    by_kind true onward =
        let later = onward (with_static number variable.size parts) in
        let long = length-append parts.objects (record { key = length parts.objects; object = new_object Static variable.size true } ∷ []) in omega arith
    by_kind false onward = let later = onward parts in omega arith

statics_pairs : (number : ℕ) (variables : List Variable) (parts : Parts) → (with_statics number variables parts).unequal ≡ parts.unequal
statics_pairs number [] parts = refl
statics_pairs number (variable ∷ rest) parts = by_kind variable.fixed (λ parts. statics_pairs (number + 1) rest parts)
  where
    by_kind : (b : Bool) → ((parts : Parts) → (with_statics (number + 1) rest parts).unequal ≡ parts.unequal) → (with_statics (number + 1) rest (if b then with_static number variable.size parts else parts)).unequal ≡ parts.unequal
    by_kind true onward = onward (with_static number variable.size parts)
    by_kind false onward = onward parts

scalar_long : (key : Option ℕ) (found : Option Object) (scalar : Initial) (value : Value) (parts : Parts) → length (with_scalar key found scalar value parts).objects ≡ length parts.objects
scalar_long None found scalar value parts = refl
scalar_long (Some key) None scalar value parts = refl
scalar_long (Some key) (Some object) scalar value parts = object_long key (written_object object (edge_at scalar.at scalar.size (length parts.values)) value) (with_value value parts)

scalar_pairs : (key : Option ℕ) (found : Option Object) (scalar : Initial) (value : Value) (parts : Parts) → (with_scalar key found scalar value parts).unequal ≡ parts.unequal
scalar_pairs None found scalar value parts = refl
scalar_pairs (Some key) None scalar value parts = refl
scalar_pairs (Some key) (Some object) scalar value parts = refl

initials_long : (initial : List Initial) (parts : Parts) → length (with_initials initial parts).objects ≡ length parts.objects
initials_long [] parts = refl
initials_long (first ∷ rest) parts =
    initials_long rest (with_initial first parts)
    ∙ scalar_long (storage_of parts.variables first.variable) (object_found parts (storage_of parts.variables first.variable)) first (initial_value parts first.size first.word) parts

initials_pairs : (initial : List Initial) (parts : Parts) → (with_initials initial parts).unequal ≡ parts.unequal
initials_pairs [] parts = refl
initials_pairs (first ∷ rest) parts =
    initials_pairs rest (with_initial first parts)
    ∙ scalar_pairs (storage_of parts.variables first.variable) (object_found parts (storage_of parts.variables first.variable)) first (initial_value parts first.size first.word) parts

pub start_few : (flow : Flow) → (length (start_graph flow).objects ≤ length flow.variables + length (parameters_of flow flow.main)) × (length (start_graph flow).unequal ≡ 0)
start_few flow =
    let statics : Parts = with_statics 0 flow.variables no_parts in
    let most : length statics.objects ≤ 0 + length flow.variables = statics_long 0 flow.variables no_parts in
    let same : length (static_graph flow).objects ≡ length statics.objects = initials_long flow.initial statics in
    let few = entered_few (parameters_of flow flow.main) (map (size_in flow) (parameters_of flow flow.main)) (static_graph flow) in
    let long : length (start_graph flow).objects ≤ length (static_graph flow).objects + length (parameters_of flow flow.main) = few.0 in
    (omega arith, few.1 ∙ ap length (initials_pairs flow.initial statics ∙ statics_pairs 0 flow.variables no_parts))
