-- Where types have numbers, from 0 on: every number of a type in an environment is below their count, and every number of a
-- signature is that of one.
use Rattle.std.specs.Prelude.{ℕ, ◌<◌, List, length, IfSome}
use Rattle.std.specs.List.{All}
use Rattle.typing.specs.declared.environment.entity.DeclaredType.{DeclaredType}
use Rattle.typing.specs.declared.environment.entity.DeclaredType.TheVariants.{Whole, UnsizedArray}
use Rattle.typing.specs.declared.environment.entity.Entity.{Entity}
use Rattle.typing.specs.declared.environment.entity.Entity.TheVariants.{Object, Typedef, Enumerator, Function}
use Rattle.typing.specs.declared.environment.entity.Binding.{Binding}
use Rattle.typing.specs.declared.environment.entity.Binding.TheVariants.{Own, WithLinkage}
use Rattle.typing.specs.declared.environment.entity.Linked.{Linked}
use Rattle.typing.specs.declared.environment.entity.Signature.{Signature}
use Rattle.typing.specs.declared.environment.environment.Environment.{Environment}
use Rattle.typing.specs.environment.Names.{Entries}
use Rattle.typing.specs.environment.Scopes.{Scopes}

-- the number of the type, or of the type of an item
abbrev pub DeclaredBelow : ℕ → DeclaredType → Type 0
DeclaredBelow count (Whole number) = number < count
DeclaredBelow count (UnsizedArray number) = number < count

-- the result and the parameters
abbrev pub SignatureBelow : ℕ → Signature → Type 0
SignatureBelow count signature = (signature.result < count) × All (λ number. number < count) signature.parameters

-- what a name stands for, where these are the signatures: an enumerator has no type that is asked for
abbrev pub EntityBelow : ℕ → List Signature → Entity → Type 0
EntityBelow count signatures (Object ctype token lifetime defined) = DeclaredBelow count ctype
EntityBelow count signatures (Typedef ctype) = DeclaredBelow count ctype
EntityBelow count signatures (Enumerator bits) = Unit {0}
EntityBelow count signatures (Function signature defined built_in) = signature < length signatures

-- what a scope says of a name: of one with linkage it may say the type of its items
abbrev pub BindingBelow : ℕ → List Signature → Binding → Type 0
BindingBelow count signatures (Own entity) = EntityBelow count signatures entity
BindingBelow count signatures (WithLinkage items) = IfSome items (λ item. item < count)

abbrev pub LinkedBelow : ℕ → List Signature → Linked → Type 0
LinkedBelow count signatures meaning = EntityBelow count signatures meaning.entity

-- all values of some names, of one scope and of all
abbrev pub EachValue : {A : Type 0} → (A → Type 0) → Entries A → Type 0
EachValue P entries = All (λ entry. P entry.1) entries

abbrev pub EachMeaning : {A : Type 0} → (A → Type 0) → Scopes A → Type 0
EachMeaning P scopes = All (EachValue P) scopes

-- all numbers of an environment: tags have none of a type
pub record AreBelow (count : ℕ) (env : Environment) : Type 0 where
  pub signatures : All (SignatureBelow count) env.signatures
  pub names : EachMeaning (BindingBelow count env.signatures) env.names
  pub linked : EachValue (LinkedBelow count env.signatures) env.linked
  pub result : IfSome env.result (λ number. number < count)
