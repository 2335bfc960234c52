-- What a graph says of a point at which the rest of a run of the source begins: the registers of its operands and the variables of its blocks stand there.
use Rattle.std.specs.Prelude.{◌≡◌, ℕ, Bool, true, ◌&&◌, List, [], ◌∷◌, map, nat_eq}
use Rattle.std.specs.List.{list_any}
use Rattle.flow.specs.declared.flow_graph.Flow.{Flow}
use Rattle.flow.specs.declared.flow_graph.Width.{Width}
use Rattle.flow.specs.Standing.{stands_at}
use Rattle.simulation.specs.Names.{Name, names_of}
use Rattle.simulation.specs.Slots.{Slot, are_in}

abbrev pub registers_in : List Width → List ℕ
registers_in widths = map (λ width. width.register) widths

-- whether each of these names is that of a variable among some
abbrev pub are_named : List ℕ → List Name → Bool
are_named variables [] = true
are_named variables (name ∷ names) = list_any (nat_eq name.variable) variables && are_named variables names

pub record HasStanding (flow : Flow) (scopes : List (List Name)) (slots : List Slot) (point : ℕ) : Type 0 where
  pub registers : are_in (registers_in (stands_at flow point).registers) slots ≡ true
  pub variables : are_named (stands_at flow point).variables (names_of scopes) ≡ true
