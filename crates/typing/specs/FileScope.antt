-- What typing asks of the place where an item of the file stands (C11 6.9), beside what it asks of the places of its parts.
use Rattle.std.specs.Prelude.{ℕ, List, Option}
use Rattle.cbase.specs.declared.ctype.CType.{CType}
use Rattle.typing.specs.Entities.{Linked, Definition}
use Rattle.typing.specs.Language.{Language}

pub record FileScope (l : Language) : Type 0 where
  -- what the text so far has for what has linkage under a name; and that it has so much from here on
  pub definition : List ℕ → l.Environment → Definition
  pub definition_set : List ℕ → Definition → l.Environment → l.Environment
  -- how many tokens stand before the name that first declared it, which is what its name stands for says of it, too
  pub first_token : List ℕ → l.Environment → ℕ
  -- what has linkage is declared in the scope around the innermost one: a function, whose parameters have that (C11 6.2.1p4)
  pub declared_around : List ℕ → ℕ → Linked → l.Environment → l.Environment
  -- a parameter of the innermost scope is one of `main`: by its name, how many tokens stand before that, and its type
  pub main_parameter : List ℕ → ℕ → CType → l.Environment → l.Environment
  -- in the body of a function of that result, or outside of functions
  pub result_set : Option CType → l.Environment → l.Environment
