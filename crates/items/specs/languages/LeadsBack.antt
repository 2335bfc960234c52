-- Numberings that have a number for every type, those among them that no context has met.
use Rattle.std.specs.Prelude.{◌≡◌}
use Rattle.cbase.specs.declared.ctype.CType.{CType}
use Rattle.expressions.specs.Numbers.{Numbering}

-- the number of a type is read as that type again
abbrev pub LeadsBack : Numbering → Type 0
LeadsBack n = (t : CType) → n.ctype (n.number t) ≡ t
