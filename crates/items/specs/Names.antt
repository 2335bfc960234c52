-- What is found of a name, without what is told of it.
use Rattle.std.specs.Prelude.{ℕ}
use Rattle.expressions.specs.declared.found.Found.{Found}
use Rattle.expressions.specs.declared.found.Found.TheVariants.{Passes, Refused}

abbrev pub found_alone : Found ℕ → Found (Unit {0})
found_alone (Passes told) = Passes tt
found_alone (Refused first) = Refused first
