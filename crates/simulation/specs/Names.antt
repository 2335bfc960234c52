-- The objects of blocks by their names, and the variables that stand for them in the graph.
use Rattle.std.specs.Prelude.{◌≡◌, ℕ, Bool, true, not, ◌&&◌, List, [], ◌∷◌, map, Option, None, Some, nat_eq, if◌then◌else◌}
use Rattle.std.specs.List.{flat_map}
use Rattle.c_machine.specs.State.{is_named}
use Rattle.c_machine.specs.declared.object.Object.{Object}
use Rattle.flow.specs.declared.flow_graph.Flow.{Flow}
use Rattle.flow.specs.Machine.{size_in}

-- an object of a block: how many tokens stand before its name, if it has one, and the number of its variable
pub record Name : Type 0 where
  pub token : Option ℕ
  pub variable : ℕ

abbrev pub names_of : List (List Name) → List Name
names_of scopes = flat_map (λ scope. scope) scopes

abbrev pub variables_of : List Name → List ℕ
variables_of names = map (λ name. name.variable) names

-- the variable of the first object of that name
abbrev pub variable_in : List Name → ℕ → Option ℕ
variable_in [] token = None
variable_in (name ∷ names) token = if is_named name.token token then Some name.variable else variable_in names token

-- whether a variable is none of these
abbrev pub is_other : ℕ → List Name → Bool
is_other variable [] = true
is_other variable (name ∷ names) = not (nat_eq name.variable variable) && is_other variable names

-- whether variables are distinct, and none of these names
abbrev pub are_new : List Name → List Name → Bool
are_new [] others = true
are_new (name ∷ names) others = is_other name.variable others && are_new names (name ∷ others)

-- objects are made as the variables of these names
abbrev pub AreMade : Flow → List Object → List Name → Type 0
AreMade flow [] [] = Unit {0}
AreMade flow [] (name ∷ names) = ⊥
AreMade flow (object ∷ objects) [] = ⊥
AreMade flow (object ∷ objects) (name ∷ names) = (object.token ≡ name.token) × (size_in flow name.variable ≡ object.bytes) × AreMade flow objects names
