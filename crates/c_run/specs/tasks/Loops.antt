-- Loops that are blocks of their own (C11 6.8.5p5).
use Rattle.std.specs.Prelude.{Bool, true, false}
use Rattle.c_machine.specs.Text.{Clause, For}

-- whether a statement is a `for`
abbrev pub is_for : {E S I : Type 0} → Clause E S I → Bool
is_for (For first test semicolon next close body) = true
is_for other = false
