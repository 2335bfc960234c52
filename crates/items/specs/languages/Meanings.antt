-- What identifiers stand for that are no tags, members and labels (C11 6.2.3), and what the scopes of a text say of them.
use Rattle.std.specs.Prelude.{ℕ, Bool, false, List, Option, None, Some, option_map, option_and_then}
use Rattle.cbase.specs.declared.ctype.CType.{CType}
use Rattle.typing.specs.environment.Names.{Entries, value_in}
use Rattle.typing.specs.Entities.{Entity, ObjectIs, FunctionIs, EnumeratorIs, TypedefIs, FunctionEntity, Tag, StructTag, EnumTag, TagHere, StructHere, EnumHere, DeclaredType, WholeType, ItemsOf, Linked, ObjectLinked, FunctionLinked, Definition, NotDefined, NameHere, OwnHere, TypedefHere, LinkedHere}

-- an object: its type; how many tokens stand before the name that declared it first; whether it needs no definition elsewhere, or the text has
-- one (6.9p5); whether it is a parameter of `main`; whether it lives as long as the program runs (6.2.4p3)
pub record Object : Type 0 where
  pub ctype : DeclaredType
  pub token : ℕ
  pub defined : Bool
  pub of_main : Bool
  pub fixed : Bool

-- a constant of an enum has the bits of an int (6.7.2.2p3)
pub data Meaning : Type 0 where
  AnObject : Object → Meaning
  AFunction : FunctionEntity → Meaning
  AConstant : ℕ → Meaning
  ATypedef : DeclaredType → Meaning

-- what a scope says of a name that it declares: it stands for something that has no linkage (6.2.2p6), or for what has linkage under it. Where no declaration
-- that is visible there gives the size of an array, that is not known there (6.2.7p4), but the type of its items
pub data Binding : Type 0 where
  Own : Meaning → Binding
  WithLinkage : Option CType → Binding

-- what has linkage under a name, one thing in the whole text (6.2.2p2): with the type that all its declarations so far give, and what the text so far
-- has for it
pub record Link : Type 0 where
  pub meaning : Meaning
  pub definition : Definition

-- what has linkage as a scope sees it
abbrev pub shown : Option CType → Meaning → Meaning
shown None meaning = meaning
shown (Some item) (AnObject object) = AnObject (record object { ctype = ItemsOf item })
shown (Some item) (AFunction function) = AFunction function
shown (Some item) (AConstant bits) = AConstant bits
shown (Some item) (ATypedef t) = ATypedef t

-- what a name stands for that a scope declares so: what has linkage is the same in every scope, but for a size that is not known
abbrev pub meaning_of : List ℕ → Entries Link → Option Binding → Option Meaning
meaning_of name links None = None
meaning_of name links (Some (Own meaning)) = Some meaning
meaning_of name links (Some (WithLinkage items)) = option_map (λ link. shown items link.meaning) (value_in name links)

-- an array whose size is not known has no type that can be written down (6.7.6.2p4)
abbrev pub written : DeclaredType → Option CType
written (WholeType t) = Some t
written (ItemsOf item) = None

-- what typing asks of it
abbrev pub entity_of : Meaning → Entity
entity_of (AnObject object) =
    ObjectIs (record { ctype = written object.ctype; token = object.token; defined = object.defined; of_main = object.of_main; fixed = object.fixed })
entity_of (AFunction function) = FunctionIs function
entity_of (AConstant bits) = EnumeratorIs bits
entity_of (ATypedef t) = TypedefIs (written t)

-- what the innermost scope says of a name, where it declares it
abbrev pub here_by : Binding → NameHere
here_by (Own (ATypedef t)) = TypedefHere t
here_by (Own (AnObject object)) = OwnHere
here_by (Own (AFunction function)) = OwnHere
here_by (Own (AConstant bits)) = OwnHere
here_by (WithLinkage items) = LinkedHere

-- objects and functions have linkage, and nothing else (6.2.2p6)
abbrev pub linked_by : Meaning → Option Linked
linked_by (AnObject object) = Some (ObjectLinked object.ctype)
linked_by (AFunction function) = Some (FunctionLinked function.result function.params)
linked_by (AConstant bits) = None
linked_by (ATypedef t) = None

-- the type that visible declarations give an object with linkage, where that is a whole one
abbrev pub whole_type : Meaning → Option CType
whole_type (AnObject object) = written object.ctype
whole_type (AFunction function) = None
whole_type (AConstant bits) = None
whole_type (ATypedef t) = None

abbrev pub visible_in : List ℕ → Entries Link → Option Binding → Option CType
visible_in name links None = None
visible_in name links (Some (Own meaning)) = None
visible_in name links (Some (WithLinkage (Some item))) = None
visible_in name links (Some (WithLinkage None)) = option_and_then (λ link. whole_type link.meaning) (value_in name links)

-- what a tag stands for in an inner scope (6.7.2.3)
abbrev pub tag_of : TagHere → Tag
tag_of (StructHere number listed) = StructTag number
tag_of (EnumHere listed) = EnumTag

-- what a new declaration of what has linkage keeps of those before it: by how many tokens it was declared first, where it is an object; whether it
-- is built in, where it is a function; and what the text so far has for it
abbrev pub token_in : Meaning → ℕ → ℕ
token_in (AnObject object) token = object.token
token_in (AFunction function) token = token
token_in (AConstant bits) token = token
token_in (ATypedef t) token = token

abbrev pub first_token : Option Link → ℕ → ℕ
first_token None token = token
first_token (Some link) token = token_in link.meaning token

abbrev pub is_built_in : Meaning → Bool
is_built_in (AFunction function) = function.built_in
is_built_in (AnObject object) = false
is_built_in (AConstant bits) = false
is_built_in (ATypedef t) = false

abbrev pub built_in_before : Option Link → Bool
built_in_before None = false
built_in_before (Some link) = is_built_in link.meaning

abbrev pub definition_before : Option Link → Definition
definition_before None = NotDefined
definition_before (Some link) = link.definition
