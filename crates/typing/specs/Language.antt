-- What typing asks of the place where a part of a text stands.
--
-- An environment says what is declared at a place: names and tags by scope, and structs by their numbers; and where the place lies: in the
-- body of a loop or in none, in a function of some result or in none, and where `main` may be called or may not.
use Rattle.std.specs.Prelude.{ℕ, Bool, List, Option}
use Rattle.cbase.specs.declared.abi.Abi.{Abi}
use Rattle.cbase.specs.declared.ctype.CType.{CType}
use Rattle.cbase.specs.declared.structs.Field.{Field}
use Rattle.cbase.specs.declared.structs.StructDef.{StructDef}
use Rattle.typing.specs.Entities.{Entity, DeclaredType, Linked, NameHere, Tag, TagHere}

pub record Language : Type 1 where
  pub abi : Abi
  pub Environment : Type 0
  -- what a name and a tag stand for by the innermost scope that declares them (C11 6.2.1p4)
  pub entity : List ℕ → Environment → Option Entity
  pub tag : List ℕ → Environment → Option Tag
  pub structs : Environment → List StructDef
  -- a tag that is not visible is declared in the innermost scope: it is a struct without members (C11 6.7.2.3p8), or an enum
  pub struct_declared : List ℕ → Environment → Environment
  pub enum_declared : List ℕ → Environment → Environment
  -- inside one more scope, and outside the innermost one
  pub entered : Environment → Environment
  pub left : Environment → Environment
  -- what the innermost scope alone says of a tag
  pub tag_here : List ℕ → Environment → Option TagHere
  -- a struct without members behind the others, whose members are listed from here on, and whose tag, where it has one, is declared in the innermost scope; the
  -- same of a struct of that number, whose tag that scope has; and a struct whose members are these now (C11 6.7.2.1p8)
  pub struct_opened : Option (List ℕ) → Environment → Environment
  pub struct_listed : List ℕ → ℕ → Environment → Environment
  pub struct_completed : ℕ → List Field → Environment → Environment
  -- an enum whose constants are listed from here on, whose tag, where it has one, is declared in the innermost scope
  pub enum_listed : Option (List ℕ) → Environment → Environment
  -- whether the innermost scope allows no constant of that name; and a constant of an enum in it, by its name and the bits of an int
  pub is_declared_here : List ℕ → Environment → Bool
  pub constant_declared : List ℕ → ℕ → Environment → Environment
  -- whether the place lies in the body of a loop (C11 6.8.6.2p1, 6.8.6.3p1); and as one that does, or does not
  pub in_loop : Environment → Bool
  pub loop_set : Bool → Environment → Environment
  -- the result type of the function whose body the place lies in; none outside of functions. The body of a function begins in the scope of
  -- its parameters, in no loop, and is walked there as the statements of a block, which enter no scope of their own (C11 6.2.1p4)
  pub result : Environment → Option CType
  -- what the innermost scope alone says of a name, and what has linkage under it in the whole text so far
  pub name_here : List ℕ → Environment → Option NameHere
  pub linked : List ℕ → Environment → Option Linked
  -- the type that visible declarations give an object that has linkage under a name, where that is a whole one (C11 6.2.7p4)
  pub visible_type : List ℕ → Environment → Option CType
  -- a name is declared in the innermost scope: an object without linkage, or one of that scope again, whose type is known now, by how many tokens stand
  -- before its name, whether it lives as long as the program runs, and its type; a typedef; and what has linkage, declared by the name behind so
  -- many tokens, which is that in the whole text from here on (C11 6.2.2). Where no declaration that is visible gives the size of an array, it is one of
  -- these items in its scope
  pub object_declared : List ℕ → ℕ → Bool → DeclaredType → Environment → Environment
  pub typedef_declared : List ℕ → DeclaredType → Environment → Environment
  pub linked_declared : List ℕ → ℕ → Option CType → Linked → Environment → Environment
  -- whether `main` may not be called there, so that it returns once in a run
  pub strict : Environment → Bool
