-- A way to a member as code gives it, and what one step on it does.
use Rattle.std.specs.Prelude.{ℕ, List, Result, Ok, Err}
use Rattle.cbase.specs.declared.abi.Abi.{Abi}
use Rattle.cbase.specs.declared.place.Place.{Place}
use Rattle.cbase.specs.declared.structs.StructDef.{StructDef}
use Rattle.typing.specs.declared.fault.Fault.{Fault}
use Rattle.typing.specs.Forms.{Step}
use Rattle.typing.specs.Paths.{Way, Offset, Stops, Leads}
use Rattle.expressions.specs.declared.nodes.offsets.Reached.{Reached}
use Rattle.expressions.specs.Numbers.{Numbering}

abbrev pub way_of : Result ℕ Fault → Way
way_of (Ok offset) = Offset offset
way_of (Err stop) = Stops stop

-- the rest of a way leads there from what is reached
abbrev pub LeadsOn : Abi → List StructDef → Place → Numbering → List Step → List ℕ → Reached → Way → Type 0
LeadsOn abi structs word n path indices reached way = Leads abi structs word (n.ctype reached.ctype) reached.offset path indices way

-- a step: wherever the rest of the way leads from what it reaches, there the whole one leads; or that is where the way stops
abbrev pub IsStep : (Reached → Way → Type 0) → (Way → Type 0) → Result Reached Fault → Type 0
IsStep Onward Leading (Ok reached) = (way : Way) → Onward reached way → Leading way
IsStep Onward Leading (Err stop) = Leading (Stops stop)
