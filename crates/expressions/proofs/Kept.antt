-- The numbers in an environment stay below where what it says of a name changes, and those of what is found are below.
use Rattle.std.proofs.Common.{◌≡◌, ◌<◌, ℕ, List, length, subst, ap, sym, Option, None, Some}
use Rattle.std.specs.Prelude.{Result, Ok, Err, OnOk, OnErr, IfSome}
use Rattle.typing.specs.declared.environment.entity.Binding.{Binding}
use Rattle.typing.specs.declared.environment.entity.Binding.TheVariants.{Own, WithLinkage}
use Rattle.typing.specs.declared.environment.entity.Linked.{Linked}
use Rattle.typing.specs.declared.environment.entity.Entity.{Entity}
use Rattle.typing.specs.declared.environment.environment.Environment.{Environment}
use Rattle.typing.specs.declared.environment.entity.Signature.{Signature}
use Rattle.typing.specs.environment.Bounds.{AreBelow, EntityBelow, BindingBelow, LinkedBelow, SignatureBelow}
use Rattle.typing.specs.environment.Environment.{name_found, visible_type, name_bound, name_bound_around, name_defined, resolved, signature_added}
use Rattle.typing.specs.environment.Names.{value_in}
use Rattle.typing.specs.environment.Scopes.{found_here}
use Rattle.typing.proofs.environment.Bounds.{binding_here_is_below, visible_is_below, bound_below, bound_around_below, defined_below, found_is_below, found_here_is_below, linked_is_below, result_is_below, added_below}
use Rattle.expressions.specs.Context.{Context}

pub found_below : (count : ℕ) (name : List ℕ) (env : Environment) → AreBelow count env → (found : Option Entity) → found ≡ name_found name env
    → IfSome found (EntityBelow count env.signatures)
found_below count name env below None is = tt
found_below count name env below (Some entity) is =
    let found : name_found name env ≡ Some entity = cc is in
    found_is_below count name env entity below found

pub found_below_now : {view now : Context} → view ≡ now → (name : List ℕ) → AreBelow (length view.types) view.environment → (found : Option Entity)
    → found ≡ name_found name view.environment → IfSome found (EntityBelow (length now.types) now.environment.signatures)
found_below_now {view} same name below found is =
    subst (λ (context : Context). IfSome found (EntityBelow (length context.types) context.environment.signatures)) same
    (found_below (length view.types) name view.environment below found is)

-- what a call leaves, where it may want memory

pub declared_below : {T E : Type 0} (count : ℕ) (name : List ℕ) (entity : Entity) (old new : Environment) (result : Result T E)
    → OnOk result (new ≡ name_bound name (Own entity) old) → OnErr result (new ≡ old) → AreBelow count old → EntityBelow count old.signatures entity → AreBelow count new
declared_below count name entity old new (Ok done) binds stays below here =
    let same : new ≡ name_bound name (Own entity) old = binds in
    rw same (bound_below count name (Own entity) old below here)
declared_below count name entity old new (Err error) binds stays below here =
    let same : new ≡ old = stays in
    rw same below

pub bound_below_behind : {T E : Type 0} (count : ℕ) (name : List ℕ) (binding : Binding) (old new : Environment) (result : Result T E)
    → OnOk result (new ≡ name_bound name binding old) → OnErr result (new ≡ old) → AreBelow count old → BindingBelow count old.signatures binding → AreBelow count new
bound_below_behind count name binding old new (Ok done) binds stays below here =
    let same : new ≡ name_bound name binding old = binds in
    rw same (bound_below count name binding old below here)
bound_below_behind count name binding old new (Err error) binds stays below here =
    let same : new ≡ old = stays in
    rw same below

pub around_below_behind : {T E : Type 0} (count : ℕ) (name : List ℕ) (binding : Binding) (old new : Environment) (result : Result T E)
    → OnOk result (new ≡ name_bound_around name binding old) → OnErr result (new ≡ old) → AreBelow count old → BindingBelow count old.signatures binding → AreBelow count new
around_below_behind count name binding old new (Ok done) binds stays below here =
    let same : new ≡ name_bound_around name binding old = binds in
    rw same (bound_around_below count name binding old below here)
around_below_behind count name binding old new (Err error) binds stays below here =
    let same : new ≡ old = stays in
    rw same below

pub added_below_behind : {T E : Type 0} (count : ℕ) (signature : Signature) (old new : Environment) (result : Result T E)
    → OnOk result (new ≡ signature_added signature old) → OnErr result (new ≡ old) → AreBelow count old → SignatureBelow count signature → AreBelow count new
added_below_behind count signature old new (Ok done) adds stays below here =
    let same : new ≡ signature_added signature old = adds in
    rw same (added_below count signature old below here)
added_below_behind count signature old new (Err error) adds stays below here =
    let same : new ≡ old = stays in
    rw same below

pub defined_below_behind : {T E : Type 0} (count : ℕ) (name : List ℕ) (old new : Environment) (result : Result T E)
    → OnOk result (new ≡ name_defined name old) → OnErr result (new ≡ old) → AreBelow count old → AreBelow count new
defined_below_behind count name old new (Ok done) defines stays below =
    let same : new ≡ name_defined name old = defines in
    rw same (defined_below count name old below)
defined_below_behind count name old new (Err error) defines stays below =
    let same : new ≡ old = stays in
    rw same below

-- the result type of a function, what a scope says of a name, and what has linkage under one

result_below : (count : ℕ) (env : Environment) → AreBelow count env → (found : Option ℕ) → found ≡ env.result → IfSome found (λ number. number < count)
result_below count env below None is = tt
result_below count env below (Some number) is = result_is_below count number env below (sym is)

pub result_below_now : {view now : Context} → view ≡ now → AreBelow (length view.types) view.environment → (found : Option ℕ)
    → found ≡ view.environment.result → IfSome found (λ number. number < length now.types)
result_below_now {view} same below found is =
    subst (λ (context : Context). IfSome found (λ number. number < length context.types)) same (result_below (length view.types) view.environment below found is)

binding_below : (count : ℕ) (name : List ℕ) (env : Environment) → AreBelow count env → (found : Option Binding) → found ≡ found_here name env.names
    → IfSome found (BindingBelow count env.signatures)
binding_below count name env below None is = tt
binding_below count name env below (Some (WithLinkage items)) is = binding_here_is_below count name env (WithLinkage items) below (sym is)
binding_below count name env below (Some (Own entity)) is = found_here_is_below count name env entity below (ap (resolved name env.linked) (sym is))

pub binding_below_now : {view now : Context} → view ≡ now → (name : List ℕ) → AreBelow (length view.types) view.environment → (found : Option Binding)
    → found ≡ found_here name view.environment.names → IfSome found (BindingBelow (length now.types) now.environment.signatures)
binding_below_now {view} same name below found is =
    subst (λ (context : Context). IfSome found (BindingBelow (length context.types) context.environment.signatures)) same
    (binding_below (length view.types) name view.environment below found is)

linked_below : (count : ℕ) (name : List ℕ) (env : Environment) → AreBelow count env → (found : Option Linked) → found ≡ value_in name env.linked
    → IfSome found (LinkedBelow count env.signatures)
linked_below count name env below None is = tt
linked_below count name env below (Some meaning) is = linked_is_below count name env meaning below (sym is)

pub linked_below_now : {view now : Context} → view ≡ now → (name : List ℕ) → AreBelow (length view.types) view.environment → (found : Option Linked)
    → found ≡ value_in name view.environment.linked → IfSome found (LinkedBelow (length now.types) now.environment.signatures)
linked_below_now {view} same name below found is =
    subst (λ (context : Context). IfSome found (LinkedBelow (length context.types) context.environment.signatures)) same
    (linked_below (length view.types) name view.environment below found is)

-- the type that visible declarations give
visible_below : (count : ℕ) (name : List ℕ) (env : Environment) → AreBelow count env → (found : Option ℕ) → found ≡ visible_type name env → IfSome found (λ number. number < count)
visible_below count name env below found is = subst (λ (o : Option ℕ). IfSome o (λ number. number < count)) (sym is) (visible_is_below count name env below)

pub visible_below_now : {view now : Context} → view ≡ now → (name : List ℕ) → AreBelow (length view.types) view.environment → (found : Option ℕ)
    → found ≡ visible_type name view.environment → IfSome found (λ number. number < length now.types)
visible_below_now {view} same name below found is =
    subst (λ (context : Context). IfSome found (λ number. number < length context.types)) same (visible_below (length view.types) name view.environment below found is)
