-- The tables of operators, of suffixes and of types as the code keeps them.
use denote.Ref.{Bor}
use Rattle.std.specs.Prelude.{ℕ, List, map}
use Rattle.cbase.specs.declared.tree.spec.BasicType.{BasicType}

-- a text as the code keeps it
abbrev pub text_read : Bor (List ℕ) → List ℕ
text_read text = text.now

-- a row of the table of basic types as the code keeps it
abbrev pub basic_read : Bor (List (Bor (List ℕ))) × BasicType → List (List ℕ) × BasicType
basic_read row = (map text_read row.0.now, row.1)
