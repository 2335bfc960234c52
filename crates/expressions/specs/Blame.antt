-- Where what is broken at an expression stands.
use Rattle.std.specs.Prelude.{nat_eq, if◌then◌else◌}
use Rattle.cbase.specs.declared.place.Place.{Place}
use Rattle.typing.specs.declared.ctypes.found.Broken.{Broken}
use Rattle.typing.specs.declared.ctypes.found.Broken.TheVariants.{Construct, Rule}
use Rattle.expressions.specs.declared.nodes.finishing.Blame.{Blame}

abbrev pub blamed : Blame → Broken → Place
blamed blame (Construct number) = blame.mark
blamed blame (Rule number) = if nat_eq number blame.rule then blame.part else blame.mark
