-- The program that a context stands for, by a numbering: what is handed on of it, read by types.
use Rattle.std.specs.Prelude.{◌≡◌, map}
use Rattle.expressions.specs.Context.{Context, Agrees}
use Rattle.expressions.specs.Numbers.{Numbering, handed_at}
use Rattle.c_machine.specs.Program.{Program}

pub record StandsFor (n : Numbering) (context : Context) (p : Program) : Type 0 where
  pub agrees : Agrees n context
  pub structs : p.structs ≡ context.structs
  pub handed : p.handed ≡ map (handed_at n) context.handed
