-- What `safe` means.
use Rattle.std.specs.Prelude.{ℕ, false, List}
use Rattle.cbase.specs.declared.abi.Abi.TheVariants.{Lp64}
use Rattle.ctokens.specs.declared.token.Tokens.{Tokens}
use Rattle.c_machine.specs.Program.{Program}
use Rattle.c_machine.specs.Run.{IsSound}
use Rattle.c_machine.specs.Trees.{text_of}
use Rattle.verdicts.specs.Program.{HoldsProgram}

-- the bytes hold a program, and no choices lead a run of it to a fault, however long it is
abbrev pub MeansSafe : List ℕ → List ℕ → Type 0
MeansSafe file bytes = (t : Tokens) × (p : Program) × HoldsProgram file bytes Lp64 false t p × IsSound (text_of p)
