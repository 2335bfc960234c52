-- What the lowering reads of a program: what typing hands on of it, its functions, and how many levels of moves are enough.
use Rattle.std.specs.Prelude.{◌≡◌, ℕ, List}
use Rattle.expressions.specs.Context.{Context}
use Rattle.expressions.specs.Numbers.{Numbering}
use Rattle.c_machine.specs.Program.{Program, FunctionItem, functions_in}
use Rattle.c_machine.specs.Trees.{text_of}
use Rattle.c_text.specs.Stands.{StandsFor}

pub record Source : Type 0 where
  pub context : Context
  pub functions : List FunctionItem
  pub levels : ℕ

-- a program that a context stands for
abbrev pub Reads : Context → Program → Type 0
Reads context p = (n : Numbering) × StandsFor n context p

-- and one that has these functions, too, and in which so many levels are enough
pub record IsSource (source : Source) (p : Program) : Type 0 where
  pub reads : Reads source.context p
  pub functions : source.functions ≡ functions_in p.items
  pub levels : source.levels ≡ (text_of p).enough
