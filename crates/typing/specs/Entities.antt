-- What names and tags stand for (C11 6.2.3), as far as typing asks.
use Rattle.std.specs.Prelude.{ℕ, Bool, List, Option}
use Rattle.cbase.specs.declared.ctype.CType.{CType}

-- an object: its type, and none where that is an array whose size is not known; how many tokens stand before the name that
-- declares it; whether it needs no definition or the text has one (C11 6.9p5); whether it is a parameter of `main`; whether it lives as long
-- as the program runs (C11 6.2.4p3)
pub record ObjectEntity : Type 0 where
  pub ctype : Option CType
  pub token : ℕ
  pub defined : Bool
  pub of_main : Bool
  pub fixed : Bool

-- a function: its result and its parameters; whether the text has a body for it; whether it is built in
pub record FunctionEntity : Type 0 where
  pub result : CType
  pub params : List CType
  pub defined : Bool
  pub built_in : Bool

-- a typedef of an array whose size is left out has no type that can be written down
pub data Entity : Type 0 where
  ObjectIs : ObjectEntity → Entity
  FunctionIs : FunctionEntity → Entity
  -- the bits of an int (C11 6.7.2.2p3)
  EnumeratorIs : ℕ → Entity
  TypedefIs : Option CType → Entity

-- the struct of a number, or an enum, whose type is int
pub data Tag : Type 0 where
  StructTag : ℕ → Tag
  EnumTag : Tag

-- what the innermost scope alone says of a tag: the struct of a number, whose members are listed or not, or an enum, whose constants are. They are so from the
-- `{` in front of the first one on
pub data TagHere : Type 0 where
  StructHere : ℕ → Bool → TagHere
  EnumHere : Bool → TagHere

-- the type that a declaration gives: a whole one, or an array of items of a type, whose size is not known (C11 6.7.6.2p4)
pub data DeclaredType : Type 0 where
  WholeType : CType → DeclaredType
  ItemsOf : CType → DeclaredType

-- what has linkage under a name (C11 6.2.2p2), with the type that all its declarations so far give: an object, or a function with its result
-- and its parameters. A function that is built in has its own type, declared or not
pub data Linked : Type 0 where
  ObjectLinked : DeclaredType → Linked
  FunctionLinked : CType → List CType → Linked

-- what the text so far has for what has linkage under a name: declarations alone, a tentative definition (C11 6.9.2p2), or a body or an
-- initialiser (C11 6.9p5)
pub data Definition : Type 0 where
  NotDefined : Definition
  Tentative : Definition
  Defined : Definition

-- what the innermost scope alone says of a name: something of its own, which has no linkage, a typedef among it, or what has linkage
pub data NameHere : Type 0 where
  OwnHere : NameHere
  TypedefHere : DeclaredType → NameHere
  LinkedHere : NameHere
