-- Two graphs of one variable of four bytes: in one it holds any number, in the other one the number 5.
use Rattle.std.specs.Prelude.{true, [], ◌∷◌}
use Rattle.bytes_core.specs.declared.block.BlockKind.TheVariants.{Local}
use Rattle.graph.specs.declared.object.Object.{Object}
use Rattle.graph.specs.declared.object.Shape.TheVariants.{Region}
use Rattle.graph.specs.declared.parts.Parts.{Parts}
use Rattle.graph.specs.declared.value.Value.{Value}
use Rattle.graph.specs.declared.value.Value.TheVariants.{Const, Number}
use Rattle.cover.specs.Covers.{Covers}

-- four bytes that hold a value
abbrev pub holder : Object
holder = record { size = 4; kind = Local; live = true; shape = Region; edges = record { at = 0; size = 4; value = 0 } ∷ []; plane = 1 ∷ 1 ∷ 1 ∷ 1 ∷ [] }

abbrev pub of_one : Value → Parts
of_one value = record {
  objects = record { key = 0; object = holder } ∷ [];
  values = record { key = 0; value = value } ∷ [];
  variables = record { variable = 0; object = 0 } ∷ [];
  registers = [];
  ports = [];
  unequal = [];
}

abbrev pub any_number : Parts
any_number = of_one (Number 4)

abbrev pub five : Parts
five = of_one (Const 5 4)

-- the first covers the second one, and not the other way round
pub record IsExample : Type 0 where
  pub covered : Covers any_number five
  pub apart : Covers five any_number → ⊥
