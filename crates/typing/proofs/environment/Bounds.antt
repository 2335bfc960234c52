-- The numbers of types and of signatures in an environment stay below their counts.
use Rattle.std.proofs.Common.{◌≡◌, ℕ, zero, suc, ◌<◌, ◌≤◌, Bool, true, false, refl, subst, arith, List, [], ◌∷◌, ◌++◌, length, length-append, slice_get, Option, None, Some}
use Rattle.std.specs.Prelude.{if◌then◌else◌, option_map, option_and_then, IfSome}
use Rattle.std.specs.List.{All}
use Rattle.std.specs.Str.{bytes_eq}
use Rattle.std.proofs.lemmas.Option.{IfSome_then}
use Rattle.std.proofs.lemmas.List.Elements.{All-nil, All-cons, All-head, All-tail, All-push, All-weaker}
use Rattle.typing.specs.declared.environment.entity.DeclaredType.{DeclaredType}
use Rattle.typing.specs.declared.environment.entity.DeclaredType.TheVariants.{Whole, UnsizedArray}
use Rattle.typing.specs.declared.environment.entity.Entity.{Entity}
use Rattle.typing.specs.declared.environment.entity.Entity.TheVariants.{Object, Typedef, Enumerator, Function}
use Rattle.typing.specs.declared.environment.entity.Binding.{Binding}
use Rattle.typing.specs.declared.environment.entity.Binding.TheVariants.{Own, WithLinkage}
use Rattle.typing.specs.declared.environment.entity.Definition.{Definition}
use Rattle.typing.specs.declared.environment.entity.Linked.{Linked}
use Rattle.typing.specs.declared.environment.entity.Signature.{Signature}
use Rattle.typing.specs.declared.environment.entity.Tag.{Tag}
use Rattle.typing.specs.declared.environment.environment.Environment.{Environment}
use Rattle.typing.specs.environment.Names.{Entries, value_in, with_value}
use Rattle.typing.specs.environment.Scopes.{Scopes, first_answer, found, found_here, declared, declared_around, entered, left}
use Rattle.typing.specs.environment.Environment.{nothing_declared, shown, resolved, whole_type, visible_in, visible_type, name_found, name_found_here, scope_entered, scope_left, name_bound, name_bound_around, tag_declared, name_linked, definition_of_linked, definition_set, signature_added, loop_set, function_set, name_defined, strict_set}
use Rattle.typing.specs.environment.Bounds.{DeclaredBelow, SignatureBelow, EntityBelow, BindingBelow, LinkedBelow, EachValue, EachMeaning, AreBelow}

-- what holds of all values of some names

module _ {A : Type 0} (P : A → Type 0) where
  value_of_each : (name : List ℕ) (value : A) (entries : Entries A) → EachValue P entries → value_in name entries ≡ Some value → P value
  value_of_each name value [] all is = cc is
  value_of_each name value (entry ∷ entries) all is =
      step (bytes_eq name entry.0) (value_of_each name value entries (All-tail (λ (e : List ℕ × A). P e.1) entry entries all)) is
    where
      step : (test : Bool) → (value_in name entries ≡ Some value → P value) → (if test then Some entry.1 else value_in name entries) ≡ Some value → P value
      step true further i =
          let same : entry.1 ≡ value = cc i in
          subst P same (All-head (λ (e : List ℕ × A). P e.1) entry entries all)
      step false further i = further i

  each_with : (name : List ℕ) (value : A) (entries : Entries A) → EachValue P entries → P value → EachValue P (with_value name value entries)
  each_with name value [] all here = All-cons (λ (e : List ℕ × A). P e.1) (name, value) [] here (All-nil (λ (e : List ℕ × A). P e.1))
  each_with name value (entry ∷ entries) all here =
      step (bytes_eq name entry.0) (each_with name value entries (All-tail (λ (e : List ℕ × A). P e.1) entry entries all) here)
    where
      step : (test : Bool) → EachValue P (with_value name value entries)
          → EachValue P (if test then (entry.0, value) ∷ entries else entry ∷ with_value name value entries)
      step true further = All-cons (λ (e : List ℕ × A). P e.1) (entry.0, value) entries here (All-tail (λ (e : List ℕ × A). P e.1) entry entries all)
      step false further =
          All-cons (λ (e : List ℕ × A). P e.1) entry (with_value name value entries) (All-head (λ (e : List ℕ × A). P e.1) entry entries all) further

  meaning_of_each : (name : List ℕ) (value : A) (scopes : Scopes A) → EachMeaning P scopes → found name scopes ≡ Some value → P value
  meaning_of_each name value [] all is = cc is
  meaning_of_each name value (scope ∷ outer) all is =
      step (meaning_of_each name value outer (All-tail (EachValue P) scope outer all)) (value_in name scope) refl is
    where
      step : (found name outer ≡ Some value → P value) → (o : Option A) → value_in name scope ≡ o → first_answer o (found name outer) ≡ Some value → P value
      step further None at i = further i
      step further (Some other) at i =
          let same : other ≡ value = cc i in
          subst P same (value_of_each name other scope (All-head (EachValue P) scope outer all) at)

  meaning_here_of_each : (name : List ℕ) (value : A) (scopes : Scopes A) → EachMeaning P scopes → found_here name scopes ≡ Some value → P value
  meaning_here_of_each name value [] all is = cc is
  meaning_here_of_each name value (scope ∷ outer) all is = value_of_each name value scope (All-head (EachValue P) scope outer all) is

  each_declared : (name : List ℕ) (value : A) (scopes : Scopes A) → EachMeaning P scopes → P value → EachMeaning P (declared name value scopes)
  each_declared name value [] all here = all
  each_declared name value (scope ∷ outer) all here =
      All-cons (EachValue P) (with_value name value scope) outer (each_with name value scope (All-head (EachValue P) scope outer all) here) (All-tail (EachValue P) scope outer all)

  each_around : (name : List ℕ) (value : A) (scopes : Scopes A) → EachMeaning P scopes → P value → EachMeaning P (declared_around name value scopes)
  each_around name value [] all here = all
  each_around name value (scope ∷ outer) all here =
      All-cons (EachValue P) scope (declared name value outer) (All-head (EachValue P) scope outer all) (each_declared name value outer (All-tail (EachValue P) scope outer all) here)

  each_entered : (scopes : Scopes A) → EachMeaning P scopes → EachMeaning P (entered scopes)
  each_entered scopes all = All-cons (EachValue P) [] scopes (All-nil (λ (e : List ℕ × A). P e.1)) all

  each_left : (scopes : Scopes A) → EachMeaning P scopes → EachMeaning P (left scopes)
  each_left [] all = all
  each_left (scope ∷ outer) all = All-tail (EachValue P) scope outer all

module _ {A : Type 0} (P Q : A → Type 0) (weaker : (value : A) → P value → Q value) where
  each_weaker : (entries : Entries A) → EachValue P entries → EachValue Q entries
  each_weaker entries all = All-weaker (λ (e : List ℕ × A). P e.1) (λ (e : List ℕ × A). Q e.1) (λ e. weaker e.1) entries all

  each_meaning_weaker : (scopes : Scopes A) → EachMeaning P scopes → EachMeaning Q scopes
  each_meaning_weaker scopes all = All-weaker (EachValue P) (EachValue Q) each_weaker scopes all

-- larger counts

below_more : (count more : ℕ) → count ≤ more → (number : ℕ) → number < count → number < more
below_more count more grows number below = omega (arith, grows, below)

declared_grows : (count more : ℕ) → count ≤ more → (ctype : DeclaredType) → DeclaredBelow count ctype → DeclaredBelow more ctype
declared_grows count more grows (Whole number) below = below_more count more grows number below
declared_grows count more grows (UnsizedArray number) below = below_more count more grows number below

pub signature_grows : (count more : ℕ) → count ≤ more → (signature : Signature) → SignatureBelow count signature → SignatureBelow more signature
signature_grows count more grows signature below = (
  below_more count more grows signature.result below.0,
  All-weaker (λ number. number < count) (λ number. number < more) (below_more count more grows) signature.parameters below.1,
)

pub entity_grows : (count more : ℕ) (signatures others : List Signature) → count ≤ more → length signatures ≤ length others
    → (entity : Entity) → EntityBelow count signatures entity → EntityBelow more others entity
entity_grows count more signatures others grows longer (Object ctype token lifetime defined) below = declared_grows count more grows ctype below
entity_grows count more signatures others grows longer (Typedef ctype) below = declared_grows count more grows ctype below
entity_grows count more signatures others grows longer (Enumerator bits) below = tt
entity_grows count more signatures others grows longer (Function signature defined built_in) below =
    below_more (length signatures) (length others) longer signature below

binding_grows : (count more : ℕ) (signatures others : List Signature) → count ≤ more → length signatures ≤ length others
    → (binding : Binding) → BindingBelow count signatures binding → BindingBelow more others binding
binding_grows count more signatures others grows longer (Own entity) below = entity_grows count more signatures others grows longer entity below
binding_grows count more signatures others grows longer (WithLinkage items) below = IfSome_then items below (below_more count more grows)

pub bounds_grow : (count more : ℕ) (env : Environment) → count ≤ more → AreBelow count env → AreBelow more env
bounds_grow count more env grows below =
    let signatures : List Signature = env.signatures in
    let same : length signatures ≤ length signatures = omega arith in
    record {
      signatures = All-weaker (SignatureBelow count) (SignatureBelow more) (signature_grows count more grows) signatures below.signatures;
      names =
          each_meaning_weaker (BindingBelow count signatures) (BindingBelow more signatures)
          (binding_grows count more signatures signatures grows same) env.names below.names;
      linked =
          each_weaker (LinkedBelow count signatures) (LinkedBelow more signatures)
          (λ linked. entity_grows count more signatures signatures grows same linked.entity) env.linked below.linked;
      result = IfSome_then env.result below.result (below_more count more grows);
    }

-- what is found

shown_below : (count : ℕ) (signatures : List Signature) (items : Option ℕ) (entity : Entity) → IfSome items (λ item. item < count) → EntityBelow count signatures entity
    → EntityBelow count signatures (shown items entity)
shown_below count signatures None entity hidden below = below
shown_below count signatures (Some item) (Object ctype token lifetime defined) hidden below = hidden
shown_below count signatures (Some item) (Typedef ctype) hidden below = below
shown_below count signatures (Some item) (Enumerator bits) hidden below = below
shown_below count signatures (Some item) (Function signature defined built_in) hidden below = below

resolved_below : (count : ℕ) (name : List ℕ) (env : Environment) (binding : Option Binding) (entity : Entity) → AreBelow count env
    → ((own : Binding) → binding ≡ Some own → BindingBelow count env.signatures own) → resolved name env.linked binding ≡ Some entity
    → EntityBelow count env.signatures entity
resolved_below count name env None entity below binds is = cc is
resolved_below count name env (Some (Own own)) entity below binds is =
    let same : own ≡ entity = cc is in
    subst (EntityBelow count env.signatures) same (binds (Own own) refl)
resolved_below count name env (Some (WithLinkage items)) entity below binds is = step (value_in name env.linked) refl is
  where
    step : (o : Option Linked) → value_in name env.linked ≡ o → option_map (λ meaning. shown items meaning.entity) o ≡ Some entity → EntityBelow count env.signatures entity
    step None at i = cc i
    step (Some meaning) at i =
        let same : shown items meaning.entity ≡ entity = cc i in
        subst (EntityBelow count env.signatures) same
        (shown_below count env.signatures items meaning.entity (binds (WithLinkage items) refl) (value_of_each (LinkedBelow count env.signatures) name meaning env.linked below.linked at))

pub found_is_below : (count : ℕ) (name : List ℕ) (env : Environment) (entity : Entity) → AreBelow count env → name_found name env ≡ Some entity → EntityBelow count env.signatures entity
found_is_below count name env entity below is =
    resolved_below count name env (found name env.names) entity below
    (λ own at. meaning_of_each (BindingBelow count env.signatures) name own env.names below.names at) is

pub found_here_is_below : (count : ℕ) (name : List ℕ) (env : Environment) (entity : Entity) → AreBelow count env → name_found_here name env ≡ Some entity → EntityBelow count env.signatures entity
found_here_is_below count name env entity below is =
    resolved_below count name env (found_here name env.names) entity below
    (λ own at. meaning_here_of_each (BindingBelow count env.signatures) name own env.names below.names at) is

pub binding_here_is_below : (count : ℕ) (name : List ℕ) (env : Environment) (binding : Binding) → AreBelow count env → found_here name env.names ≡ Some binding
    → BindingBelow count env.signatures binding
binding_here_is_below count name env binding below is = meaning_here_of_each (BindingBelow count env.signatures) name binding env.names below.names is

pub linked_is_below : (count : ℕ) (name : List ℕ) (env : Environment) (meaning : Linked) → AreBelow count env → value_in name env.linked ≡ Some meaning → EntityBelow count env.signatures meaning.entity
linked_is_below count name env meaning below is = value_of_each (LinkedBelow count env.signatures) name meaning env.linked below.linked is

-- the type that is visible
whole_below : (count : ℕ) (signatures : List Signature) (entity : Entity) → EntityBelow count signatures entity → IfSome (whole_type entity) (λ number. number < count)
whole_below count signatures (Object (Whole number) token lifetime defined) below = below
whole_below count signatures (Object (UnsizedArray item) token lifetime defined) below = tt
whole_below count signatures (Typedef ctype) below = tt
whole_below count signatures (Enumerator bits) below = tt
whole_below count signatures (Function signature defined built_in) below = tt

visible_in_below : (count : ℕ) (name : List ℕ) (env : Environment) (binding : Option Binding) → AreBelow count env → IfSome (visible_in name env.linked binding) (λ number. number < count)
visible_in_below count name env None below = tt
visible_in_below count name env (Some (Own entity)) below = tt
visible_in_below count name env (Some (WithLinkage (Some item))) below = tt
visible_in_below count name env (Some (WithLinkage None)) below = step (value_in name env.linked) refl
  where
    step : (o : Option Linked) → value_in name env.linked ≡ o → IfSome (option_and_then (λ meaning. whole_type meaning.entity) o) (λ number. number < count)
    step None at = tt
    step (Some meaning) at = whole_below count env.signatures meaning.entity (linked_is_below count name env meaning below at)

pub visible_is_below : (count : ℕ) (name : List ℕ) (env : Environment) → AreBelow count env → IfSome (visible_type name env) (λ number. number < count)
visible_is_below count name env below = visible_in_below count name env (found name env.names) below

item_of_all : {A : Type 0} (P : A → Type 0) (items : List A) (number : ℕ) (item : A) → All P items → slice_get items number ≡ Some item → P item
item_of_all P [] number item all is = cc is
item_of_all {A} P (first ∷ items) zero item all is =
    let same : first ≡ item = cc is in
    subst P same (All-head P first items all)
item_of_all P (first ∷ items) (suc number) item all is = item_of_all P items number item (All-tail P first items all) is

pub signature_is_below : (count number : ℕ) (env : Environment) (signature : Signature) → AreBelow count env → slice_get env.signatures number ≡ Some signature → SignatureBelow count signature
signature_is_below count number env signature below is = item_of_all (SignatureBelow count) env.signatures number signature below.signatures is

pub result_is_below : (count number : ℕ) (env : Environment) → AreBelow count env → env.result ≡ Some number → number < count
result_is_below count number env below is = subst (λ (o : Option ℕ). IfSome o (λ n. n < count)) is below.result

-- what each step keeps

pub nothing_below : (count : ℕ) → AreBelow count nothing_declared
nothing_below count = record {
  signatures = All-nil (SignatureBelow count);
  names = All-nil (EachValue (BindingBelow count []));
  linked = All-nil (λ (e : List ℕ × Linked). LinkedBelow count [] e.1);
  result = tt;
}

pub entered_below : (count : ℕ) (env : Environment) → AreBelow count env → AreBelow count (scope_entered env)
entered_below count env below = record {
  signatures = below.signatures;
  names = each_entered (BindingBelow count env.signatures) env.names below.names;
  linked = below.linked;
  result = below.result;
}

pub left_below : (count : ℕ) (env : Environment) → AreBelow count env → AreBelow count (scope_left env)
left_below count env below = record {
  signatures = below.signatures;
  names = each_left (BindingBelow count env.signatures) env.names below.names;
  linked = below.linked;
  result = below.result;
}

pub tagged_below : (count : ℕ) (name : List ℕ) (tag : Tag) (env : Environment) → AreBelow count env → AreBelow count (tag_declared name tag env)
tagged_below count name tag env below = record {
  signatures = below.signatures;
  names = below.names;
  linked = below.linked;
  result = below.result;
}

pub bound_below : (count : ℕ) (name : List ℕ) (binding : Binding) (env : Environment) → AreBelow count env → BindingBelow count env.signatures binding → AreBelow count (name_bound name binding env)
bound_below count name binding env below here = record {
  signatures = below.signatures;
  names = each_declared (BindingBelow count env.signatures) name binding env.names below.names here;
  linked = below.linked;
  result = below.result;
}

pub bound_around_below : (count : ℕ) (name : List ℕ) (binding : Binding) (env : Environment) → AreBelow count env → BindingBelow count env.signatures binding → AreBelow count (name_bound_around name binding env)
bound_around_below count name binding env below here = record {
  signatures = below.signatures;
  names = each_around (BindingBelow count env.signatures) name binding env.names below.names here;
  linked = below.linked;
  result = below.result;
}

pub linked_below : (count : ℕ) (name : List ℕ) (meaning : Linked) (env : Environment) → AreBelow count env → EntityBelow count env.signatures meaning.entity → AreBelow count (name_linked name meaning env)
linked_below count name meaning env below here = record {
  signatures = below.signatures;
  names = below.names;
  linked = each_with (LinkedBelow count env.signatures) name meaning env.linked below.linked here;
  result = below.result;
}

pub added_below : (count : ℕ) (signature : Signature) (env : Environment) → AreBelow count env → SignatureBelow count signature → AreBelow count (signature_added signature env)
added_below count signature env below here =
    let signatures : List Signature = env.signatures in
    let others : List Signature = env.signatures ++ signature ∷ [] in
    let same : count ≤ count = omega arith in
    let longer : length signatures ≤ length others = omega (arith, length-append signatures (signature ∷ [])) in
    record {
      signatures = All-push (SignatureBelow count) signatures signature below.signatures here;
      names =
          each_meaning_weaker (BindingBelow count signatures) (BindingBelow count others)
          (binding_grows count count signatures others same longer) env.names below.names;
      linked =
          each_weaker (LinkedBelow count signatures) (LinkedBelow count others)
          (λ linked. entity_grows count count signatures others same longer linked.entity) env.linked below.linked;
      result = below.result;
    }

pub function_below : (count : ℕ) (result : Option ℕ) (env : Environment) → AreBelow count env → IfSome result (λ number. number < count) → AreBelow count (function_set result env)
function_below count result env below here = record {
  signatures = below.signatures;
  names = below.names;
  linked = below.linked;
  result = here;
}

pub loop_below : (count : ℕ) (in_loop : Bool) (env : Environment) → AreBelow count env → AreBelow count (loop_set in_loop env)
loop_below count in_loop env below = record {
  signatures = below.signatures;
  names = below.names;
  linked = below.linked;
  result = below.result;
}

pub defined_below : (count : ℕ) (name : List ℕ) (env : Environment) → AreBelow count env → AreBelow count (name_defined name env)
defined_below count name env below = record {
  signatures = below.signatures;
  names = below.names;
  linked = below.linked;
  result = below.result;
}

pub definition_below : (count : ℕ) (name : List ℕ) (definition : Definition) (env : Environment) → AreBelow count env → AreBelow count (definition_set name definition env)
definition_below count name definition env below = step (value_in name env.linked) refl
  where
    step : (linked : Option Linked) → value_in name env.linked ≡ linked → AreBelow count (definition_of_linked name definition linked env)
    step None is = below
    step (Some meaning) is = linked_below count name (record meaning { definition = definition }) env below (linked_is_below count name env meaning below is)

pub strict_below : (count : ℕ) (strict : Bool) (env : Environment) → AreBelow count env → AreBelow count (strict_set strict env)
strict_below count strict env below = record {
  signatures = below.signatures;
  names = below.names;
  linked = below.linked;
  result = below.result;
}
