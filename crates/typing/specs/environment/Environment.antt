-- What is declared at a place of a text: names and tags, which are two name spaces (C11 6.2.3), by scope; what has linkage under
-- a name; and the signatures of functions, each at its number. And what statements ask of the place: whether it lies in the body
-- of a loop, what the function around it gives back, which names the whole text defines, and whether `main` may not be called.
use Rattle.std.specs.Prelude.{ℕ, Bool, false, List, [], ◌∷◌, ◌++◌, Option, None, Some, option_map, option_and_then, is_some}
use Rattle.typing.specs.declared.environment.entity.DeclaredType.TheVariants.{Whole, UnsizedArray}
use Rattle.typing.specs.declared.environment.entity.Entity.{Entity}
use Rattle.typing.specs.declared.environment.entity.Entity.TheVariants.{Object, Typedef, Enumerator, Function}
use Rattle.typing.specs.declared.environment.entity.Definition.{Definition}
use Rattle.typing.specs.declared.environment.entity.Linked.{Linked}
use Rattle.typing.specs.declared.environment.entity.Binding.{Binding}
use Rattle.typing.specs.declared.environment.entity.Binding.TheVariants.{Own, WithLinkage}
use Rattle.typing.specs.declared.environment.entity.Signature.{Signature}
use Rattle.typing.specs.declared.environment.entity.Tag.{Tag}
use Rattle.typing.specs.declared.environment.entity.TagForm.{TagForm}
use Rattle.typing.specs.declared.environment.entity.TagForm.TheVariants.{Declared, Mentioned}
use Rattle.typing.specs.declared.environment.environment.Environment.{Environment}
use Rattle.typing.specs.environment.Names.{Entries, value_in, with_value}
use Rattle.typing.specs.environment.Scopes.{found, found_here, declared, declared_around, entered, left}

-- outside all scopes, in a text of which no definition is known
abbrev pub nothing_declared : Environment
nothing_declared =
    record { names = []; tags = []; linked = []; signatures = []; in_loop = false; result = None; definitions = []; strict = false }

-- what has linkage as a scope sees it: where no visible declaration gives the size of an array of those items, it is not known there (C11 6.2.7p4)
abbrev pub shown : Option ℕ → Entity → Entity
shown None entity = entity
shown (Some item) (Object ctype token lifetime defined) = Object (UnsizedArray item) token lifetime defined
shown (Some item) (Typedef ctype) = Typedef ctype
shown (Some item) (Enumerator bits) = Enumerator bits
shown (Some item) (Function signature defined built_in) = Function signature defined built_in

-- what a name that is bound so stands for
abbrev pub resolved : List ℕ → Entries Linked → Option Binding → Option Entity
resolved name linked None = None
resolved name linked (Some (Own entity)) = Some entity
resolved name linked (Some (WithLinkage items)) = option_map (λ meaning. shown items meaning.entity) (value_in name linked)

-- the type that visible declarations give an object with linkage, where that is a whole one
abbrev pub whole_type : Entity → Option ℕ
whole_type (Object (Whole number) token lifetime defined) = Some number
whole_type (Object (UnsizedArray item) token lifetime defined) = None
whole_type (Typedef ctype) = None
whole_type (Enumerator bits) = None
whole_type (Function signature defined built_in) = None

abbrev pub visible_in : List ℕ → Entries Linked → Option Binding → Option ℕ
visible_in name linked None = None
visible_in name linked (Some (Own entity)) = None
visible_in name linked (Some (WithLinkage (Some item))) = None
visible_in name linked (Some (WithLinkage None)) = option_and_then (λ meaning. whole_type meaning.entity) (value_in name linked)

abbrev pub visible_type : List ℕ → Environment → Option ℕ
visible_type name env = visible_in name env.linked (found name env.names)

-- what a name stands for (C11 6.2.1p4)
abbrev pub name_found : List ℕ → Environment → Option Entity
name_found name env = resolved name env.linked (found name env.names)

-- what it stands for by a declaration of the innermost scope (C11 6.7p3)
abbrev pub name_found_here : List ℕ → Environment → Option Entity
name_found_here name env = resolved name env.linked (found_here name env.names)

-- what a tag stands for: where it is declared, by a declaration of the innermost scope, and where it is mentioned, by the one that
-- is visible (C11 6.7.2.3p4-9)
abbrev pub tag_found : TagForm → List ℕ → Environment → Option Tag
tag_found Declared tag env = found_here tag env.tags
tag_found Mentioned tag env = found tag env.tags

-- a scope has names and tags
abbrev pub scope_entered : Environment → Environment
scope_entered env = record env { names = entered env.names; tags = entered env.tags }

abbrev pub scope_left : Environment → Environment
scope_left env = record env { names = left env.names; tags = left env.tags }

-- a name, and a tag, is declared in the innermost scope
abbrev pub name_bound : List ℕ → Binding → Environment → Environment
name_bound name binding env = record env { names = declared name binding env.names }

-- a name is declared in the scope around the innermost one
abbrev pub name_bound_around : List ℕ → Binding → Environment → Environment
name_bound_around name binding env = record env { names = declared_around name binding env.names }

abbrev pub tag_declared : List ℕ → Tag → Environment → Environment
tag_declared tag meaning env = record env { tags = declared tag meaning env.tags }

-- what has linkage under a name is that from here on, in the whole text
abbrev pub name_linked : List ℕ → Linked → Environment → Environment
name_linked name meaning env = record env { linked = with_value name meaning env.linked }

-- the text so far has so much for what has linkage under a name; where nothing has, nothing changes
abbrev pub definition_of_linked : List ℕ → Definition → Option Linked → Environment → Environment
definition_of_linked name definition None env = env
definition_of_linked name definition (Some meaning) env = name_linked name (record meaning { definition = definition }) env

abbrev pub definition_set : List ℕ → Definition → Environment → Environment
definition_set name definition env = definition_of_linked name definition (value_in name env.linked) env

-- a signature has the number of those before it
abbrev pub signature_added : Signature → Environment → Environment
signature_added signature env = record env { signatures = env.signatures ++ signature ∷ [] }

-- inside or outside of the body of a loop (C11 6.8.6.2p1, 6.8.6.3p1)
abbrev pub loop_set : Bool → Environment → Environment
loop_set in_loop env = record env { in_loop = in_loop }

-- in the body of a function whose result has the type of that number, or outside of functions (C11 6.8.6.4)
abbrev pub function_set : Option ℕ → Environment → Environment
function_set result env = record env { result = result }

-- the whole text has a definition of a name that has linkage, before the place or behind it (C11 6.9p5)
abbrev pub name_defined : List ℕ → Environment → Environment
name_defined name env = record env { definitions = with_value name tt env.definitions }

-- whether it has one
abbrev pub is_defined : List ℕ → Environment → Bool
is_defined name env = is_some (value_in name env.definitions)

-- `main` may not be called from here on, or it may
abbrev pub strict_set : Bool → Environment → Environment
strict_set strict env = record env { strict = strict }
