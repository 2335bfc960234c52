-- Objects that live as long as the program runs, in order of the text.
use Rattle.std.specs.Prelude.{List, [], ◌∷◌, nat_lt, if◌then◌else◌}
use Rattle.typing.specs.Outcomes.{ObjectRow}
use Rattle.c_machine.specs.Program.{Program}
use Rattle.c_machine.specs.Trees.{object_of}
use Rattle.c_text.specs.Kept.{sized}
use Rattle.c_text.specs.declared.fixed_object.FixedObject.{FixedObject}

abbrev pub fixed_by : Program → ObjectRow → FixedObject
fixed_by p row = record { token = row.token; object = sized (object_of p row) }

-- an object before those of names that stand behind its own in the text
abbrev pub put_fixed : FixedObject → List FixedObject → List FixedObject
put_fixed own [] = own ∷ []
put_fixed own (next ∷ rest) = if nat_lt next.token own.token then next ∷ put_fixed own rest else own ∷ next ∷ rest
