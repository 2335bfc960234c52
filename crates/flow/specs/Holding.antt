-- Registers and variables that stand, in ascending order of their numbers.
use Rattle.std.specs.Prelude.{ℕ, List, [], ◌∷◌, nat_eq, nat_lt, Option, None, Some, if◌then◌else◌, not, filter}
use Rattle.std.specs.List.{list_any}
use Rattle.bytes_core.specs.declared.word.Word.{Word}
use Rattle.flow.specs.declared.flow_graph.Width.{Width}

-- a register, the size of what it holds, and what it holds
pub record Held : Type 0 where
  pub register : ℕ
  pub size : ℕ
  pub word : Word

-- a variable and the number of its block
pub record Owned : Type 0 where
  pub variable : ℕ
  pub block : ℕ

-- the width of what a register holds
abbrev pub width : Held → Width
width held = record { register = held.register; size = held.size }

-- what a register holds, if it holds something
abbrev pub held_by : List Held → ℕ → Option Held
held_by [] register = None
held_by (first ∷ rest) register = if nat_eq first.register register then Some first else held_by rest register

-- the size of what a register holds, if it holds something
abbrev pub size_of : List Width → ℕ → Option ℕ
size_of [] register = None
size_of (first ∷ rest) register = if nat_eq first.register register then Some first.size else size_of rest register

-- a register gets something, in place of what it held
abbrev pub put : Held → List Held → List Held
put new [] = new ∷ []
put new (first ∷ rest) =
    if nat_lt new.register first.register then new ∷ first ∷ rest
    else (if nat_eq first.register new.register then new ∷ rest else first ∷ put new rest)

abbrev pub put_width : Width → List Width → List Width
put_width new [] = new ∷ []
put_width new (first ∷ rest) =
    if nat_lt new.register first.register then new ∷ first ∷ rest
    else (if nat_eq first.register new.register then new ∷ rest else first ∷ put_width new rest)

-- registers that are emptied hold nothing
abbrev pub emptied : List ℕ → List Held → List Held
emptied gone held = filter (λ one. not (list_any (nat_eq one.register) gone)) held

abbrev pub emptied_widths : List ℕ → List Width → List Width
emptied_widths gone widths = filter (λ one. not (list_any (nat_eq one.register) gone)) widths

-- the block of a variable, if it stands
abbrev pub block_of : List Owned → ℕ → Option ℕ
block_of [] variable = None
block_of (first ∷ rest) variable = if nat_eq first.variable variable then Some first.block else block_of rest variable

-- a variable begins to stand
abbrev pub put_owned : Owned → List Owned → List Owned
put_owned new [] = new ∷ []
put_owned new (first ∷ rest) = if nat_lt new.variable first.variable then new ∷ first ∷ rest else first ∷ put_owned new rest

abbrev pub put_variable : ℕ → List ℕ → List ℕ
put_variable new [] = new ∷ []
put_variable new (first ∷ rest) = if nat_lt new first then new ∷ first ∷ rest else first ∷ put_variable new rest

-- variables that are left stand no more
abbrev pub left : List ℕ → List Owned → List Owned
left gone owned = filter (λ one. not (list_any (nat_eq one.variable) gone)) owned

abbrev pub left_variables : List ℕ → List ℕ → List ℕ
left_variables gone variables = filter (λ one. not (list_any (nat_eq one) gone)) variables
