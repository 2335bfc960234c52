-- Identifiers with linkage (C11 6.2.2): one name stands for one object or function in the whole text, in whatever scopes it is
-- declared.
use Rattle.std.specs.Prelude.{◌≡◌, ℕ, Bool, true, false, List, Option, Some}
use Rattle.cbase.specs.declared.tree.decl.Storage.{Storage}
use Rattle.cbase.specs.declared.tree.decl.Storage.TheVariants.{Plain, Typedef, Extern, Static}
use Rattle.typing.specs.declared.environment.entity.Entity.{Entity}
use Rattle.typing.specs.declared.environment.entity.Linked.{Linked}
use Rattle.typing.specs.declared.environment.entity.Binding.TheVariants.{Own, WithLinkage}
use Rattle.typing.specs.declared.environment.environment.Environment.{Environment}
use Rattle.typing.specs.declared.environment.linkage.Standing.{Standing}
use Rattle.typing.specs.declared.environment.linkage.Standing.TheVariants.{File, Block}
use Rattle.typing.specs.declared.environment.linkage.Kind.{Kind}
use Rattle.typing.specs.declared.environment.linkage.Kind.TheVariants.{Object, Function}
use Rattle.typing.specs.environment.Scopes.{found}
use Rattle.typing.specs.environment.Environment.{shown, name_found, name_bound, name_bound_around, name_linked, scope_left}

-- the declaration gives its name linkage
pub data HasLinkage : Standing → Storage → Kind → Type 0 where
  -- outside of functions, by `static` (p3)
  Internal : (kind : Kind) → HasLinkage File Static kind
  -- by `extern`, wherever it stands (p4)
  External : (standing : Standing) (kind : Kind) → HasLinkage standing Extern kind
  -- a function without such a word, as if by `extern` (p5)
  PlainFunction : (standing : Standing) → HasLinkage standing Plain Function
  -- an object without such a word, outside of functions (p5)
  PlainObject : HasLinkage File Plain Object
  -- a function that a block declares by `static`, which 6.7.1p7 forbids: whether linkage is internal is not asked
  BlockFunction : HasLinkage Block Static Function

-- whether it does, as a table
abbrev pub has_linkage : Standing → Storage → Kind → Bool
has_linkage standing Typedef kind = false
has_linkage standing Extern kind = true
has_linkage standing Plain Function = true
has_linkage standing Static Function = true
has_linkage File Plain Object = true
has_linkage File Static Object = true
has_linkage Block Plain Object = false
has_linkage Block Static Object = false

-- a declaration of a name that has linkage, in whose scope the size of an array of those items is not known, if there are any; and of one that has none
abbrev pub linked_declared : List ℕ → Option ℕ → Linked → Environment → Environment
linked_declared name items meaning env = name_bound name (WithLinkage items) (name_linked name meaning env)

-- one whose declaration stands in the scope around the innermost one
abbrev pub linked_declared_around : List ℕ → Option ℕ → Linked → Environment → Environment
linked_declared_around name items meaning env = name_bound_around name (WithLinkage items) (name_linked name meaning env)

abbrev pub own_declared : List ℕ → Entity → Environment → Environment
own_declared name entity env = name_bound name (Own entity) env

-- the name is in scope as one with linkage, of which the size of an array of those items is not known, if there are any
abbrev pub IsLinked : List ℕ → Option ℕ → Environment → Type 0
IsLinked name items env = found name env.names ≡ Some (WithLinkage items)

-- wherever it is so in scope, the name stands for what its last declaration says, in whatever scope that one stands, but for a size that is not known
abbrev pub LastIsFound : Type 0
LastIsFound = (name : List ℕ) (items : Option ℕ) (meaning : Linked) (env : Environment) → IsLinked name items env
    → name_found name (name_linked name meaning env) ≡ Some (shown items meaning.entity)

-- at two places between which no name with linkage is declared, it stands for one thing, in whatever scopes these lie
abbrev pub IsOneThing : Type 0
IsOneThing = (name : List ℕ) (items : Option ℕ) (one other : Environment) → one.linked ≡ other.linked → IsLinked name items one → IsLinked name items other
    → name_found name one ≡ name_found name other

-- a scope that is left takes nothing from what has linkage
abbrev pub OutlivesScopes : Type 0
OutlivesScopes = (env : Environment) → (scope_left env).linked ≡ env.linked
