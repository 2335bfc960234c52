-- What is found of a part of a tree: it passes, or what is refused in it first.
use Rattle.std.specs.Prelude.{◌≡◌, ℕ, Bool, List, [], ◌++◌, Option}
use Rattle.cbase.specs.declared.ctype.CType.{CType}
use Rattle.typing.specs.Entities.{Entity}
use Rattle.typing.specs.declared.fault.Fault.{Fault}
use Rattle.typing.specs.Faults.{IsFirst}

-- what is handed on of an expression: its number; its own type, before an array becomes a pointer, where the name that is
-- called has the type of the call; what its name stands for, where it is one; its value, where it is an integer constant
-- expression, as the bits of its type
pub record ExpressionRow : Type 0 where
  pub number : ℕ
  pub ctype : CType
  pub stands : Option Entity
  pub value : Option ℕ

-- a store of an initialiser (C11 6.7.9): into the object before whose name so many tokens stand, so many bytes behind its front, as a value of that
-- type, the expression of that number
pub record Store : Type 0 where
  pub object : ℕ
  pub offset : ℕ
  pub ctype : CType
  pub number : ℕ

-- what is handed on of an object that a declaration makes: how many tokens stand before its name; its type; whether it lives as long as the
-- program runs (C11 6.2.4p3); and whether its initialiser stands in braces, which set to zero what they do not name (C11 6.7.9p19, p21)
pub record ObjectRow : Type 0 where
  pub token : ℕ
  pub ctype : CType
  pub fixed : Bool
  pub zeroed : Bool

-- what is handed on of a declaration outside of functions that gives an object linkage: how many tokens stand before its name there, and before
-- the name that declared it first, by which it is one object in the whole text (C11 6.2.2p2)
pub record LinkRow : Type 0 where
  pub token : ℕ
  pub first : ℕ

-- what is handed on of a definition of a function (C11 6.9.1): how many tokens stand before its name; its result
pub record FunctionRow : Type 0 where
  pub token : ℕ
  pub result : CType

-- and of a parameter of it: how many tokens stand before its name, where it has one; its type
pub record ParameterRow : Type 0 where
  pub token : Option ℕ
  pub ctype : CType

pub data Handed : Type 0 where
  ExpressionHanded : ExpressionRow → Handed
  StoreHanded : Store → Handed
  ObjectHanded : ObjectRow → Handed
  LinkHanded : LinkRow → Handed
  FunctionHanded : FunctionRow → Handed
  ParameterHanded : ParameterRow → Handed

-- a part that passes is told of, and the expressions in it are handed on in the order of their numbers, each store behind those of its value, and
-- each object behind the stores of its initialiser. A function that is defined stands in front of its parameters, and these in front of what is
-- handed on of its body
pub data Outcome (A : Type 0) : Type 0 where
  Passes : A → List Handed → Outcome A
  Refused : Fault → Outcome A

-- what is found at a node where so much is broken: where nothing is, this
abbrev pub IsSettled : {A : Type 0} → List Fault → A → List Handed → Outcome A → Type 0
IsSettled faults value handed (Passes found told) = (faults ≡ []) × (found ≡ value) × (told ≡ handed)
IsSettled faults value handed (Refused first) = IsFirst faults first

-- what is found behind a part that passes, with what is handed on of that in front
abbrev pub with_front : {A : Type 0} → List Handed → Outcome A → Outcome A
with_front handed (Passes found further) = Passes found (handed ++ further)
with_front handed (Refused first) = Refused first
