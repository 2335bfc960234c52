-- Variables for one object after the other.
use Rattle.std.proofs.Common.{◌≡◌, Bool, true, false, ◌&&◌, List, [], ◌∷◌, ◌++◌, map, refl, ap, ◌∙◌, append_assoc, append-nil}
use Rattle.std.specs.List.{list_all}
use Rattle.c_machine.specs.declared.object.Object.{Object}
use Rattle.flow.specs.declared.flow_graph.Variable.{Variable}
use Rattle.flow.specs.Valid.{is_object_size}
use Rattle.lowering.specs.Placing.{Made, with_objects}

and_assoc : (one other third : Bool) → (one && (other && true)) && third ≡ one && (other && third)
and_assoc true true third = refl
and_assoc true false third = refl
and_assoc false other third = refl

pub one_more : (fixed : Bool) (object : Object) (objects : List Object) (made : Made) →
    with_objects fixed objects (with_objects fixed (object ∷ []) made) ≡ with_objects fixed (object ∷ objects) made
one_more fixed object objects made =
    let variable : Variable = record { size = object.bytes; fixed = fixed } in
    let rest : List Variable = map (λ (object : Object). record { size = object.bytes; fixed = fixed }) objects in
    let fits : Bool = is_object_size object.bytes in
    let others : Bool = list_all (λ (object : Object). is_object_size object.bytes) objects in
    ap (λ (variables : List Variable). record made { variables = variables; is_graph = (made.is_graph && (fits && true)) && others }) (append_assoc made.variables (variable ∷ []) rest)
    ∙ ap (λ (is_graph : Bool). record made { variables = made.variables ++ variable ∷ rest; is_graph = is_graph }) (and_assoc made.is_graph fits others)

and_true : (holds : Bool) → holds && true ≡ holds
and_true true = refl
and_true false = refl

pub none_left : (fixed : Bool) (made : Made) → with_objects fixed [] made ≡ made
none_left fixed made =
    ap (λ (variables : List Variable). record made { variables = variables; is_graph = made.is_graph && true }) (append-nil made.variables)
    ∙ ap (λ (is_graph : Bool). record made { is_graph = is_graph }) (and_true made.is_graph)
