-- The parameters of a function that is called, by where their types stand.
use Rattle.std.specs.Prelude.{◌≡◌, ℕ, suc, ◌<◌, List, [], ◌∷◌, drop, length, map, Option, None, Some, is_some, if◌then◌else◌}
use Rattle.cbase.specs.declared.ctype.CType.{CType}
use Rattle.expressions.specs.declared.handed_row.HandedRow.{HandedRow}
use Rattle.expressions.specs.declared.handed_row.HandedRow.TheVariants.{Parameter}
use Rattle.expressions.specs.Context.{Context}
use Rattle.expressions.specs.Numbers.{Numbering}
use Rattle.c_machine.specs.Program.{Program, leading_parameters}
use Rattle.c_text.specs.declared.parameters.Parameters.{Parameters}
use Rattle.c_text.specs.declared.parameters.Parameters.TheVariants.{OfSignature, OfRows}

-- the number of the type of a parameter, if a row is that of one
abbrev pub parameter_type : HandedRow → Option ℕ
parameter_type (Parameter own ctype) = Some ctype
parameter_type other = None

-- how many rows of parameters stand in front of all others
abbrev pub leading : List HandedRow → ℕ
leading [] = 0
leading (row ∷ rest) = if is_some (parameter_type row) then suc (leading rest) else 0

-- the context has them
abbrev pub AreParameters : Context → Parameters → Type 0
AreParameters context (OfSignature signature) = signature < length context.environment.signatures
AreParameters context (OfRows start count) = count ≡ leading (drop start context.handed)

-- their types
abbrev pub types_by : Numbering → Program → Parameters → List CType
types_by n p (OfSignature signature) = map n.ctype (n.signature signature).parameters
types_by n p (OfRows start count) = map (λ row. row.ctype) (leading_parameters (drop start p.handed))
