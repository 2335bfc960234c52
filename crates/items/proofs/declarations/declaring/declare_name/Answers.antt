-- A name is declared by its storage word.
use Rattle.std.proofs.Common.{◌≡◌, ℕ, List, ap, sym, subst, ◌∙◌, length, true, false, Result, Ok, Err, OnOk}
use Rattle.cbase.specs.declared.abi.Abi.{Abi}
use Rattle.cbase.specs.declared.no_memory.NoMemory.{NoMemory}
use Rattle.cbase.specs.declared.tree.decl.Storage.{Storage}
use Rattle.cbase.specs.declared.tree.decl.Storage.TheVariants.{Plain, Typedef, Extern, Static}
use Rattle.typing.specs.declared.environment.entity.DeclaredType.{DeclaredType}
use Rattle.typing.specs.environment.Bounds.{DeclaredBelow}
use Rattle.typing.specs.environment.Environment.{visible_type}
use Rattle.typing.specs.environment.Names.{value_in}
use Rattle.typing.specs.Declarations.{given, name_declared}
use Rattle.expressions.specs.Context.{Context, declared, Agrees}
use Rattle.expressions.specs.Language.{language}
use Rattle.expressions.specs.Numbers.{Numbering, declared_type_at}
use Rattle.items.specs.declarations.Given.{bound, composite_by_now, seen_in}
use Rattle.items.proofs.declarations.Bound.{linked_bound, object_bound, typedef_bound}
use Rattle.items.proofs.declarations.declaring.declare_name.Goals as goal

-- what is left by a storage word
abbrev Left : List ℕ → ℕ → DeclaredType → Context → Context → Result (Unit {0}) NoMemory → Storage → Type 0
Left name token t old new r storage = OnOk r (new ≡ record old { environment = bound name token storage t old.environment })

abbrev Means : List ℕ → ℕ → DeclaredType → Context → Context → Result (Unit {0}) NoMemory → Storage → Type 0
Means name token t old new r storage = (n : Numbering) (abi : Abi) → Agrees n old
    → OnOk r (declared new ≡ name_declared (language abi n) name token (given storage (declared_type_at n t)) (declared old))

plain : (name : List ℕ) (token : ℕ) (t : DeclaredType) (old new : Context) (r : Result (Unit {0}) NoMemory) → DeclaredBelow (length old.types) t → Left name token t old new r Plain → Means name token t old new r Plain
plain name token t old new (Ok told) below left n abi agrees = ap declared left ∙ object_bound n old name token false t (declared old) agrees below
plain name token t old new (Err error) below left n abi agrees = tt

static : (name : List ℕ) (token : ℕ) (t : DeclaredType) (old new : Context) (r : Result (Unit {0}) NoMemory) → DeclaredBelow (length old.types) t → Left name token t old new r Static → Means name token t old new r Static
static name token t old new (Ok told) below left n abi agrees = ap declared left ∙ object_bound n old name token true t (declared old) agrees below
static name token t old new (Err error) below left n abi agrees = tt

typedef : (name : List ℕ) (token : ℕ) (t : DeclaredType) (old new : Context) (r : Result (Unit {0}) NoMemory) → DeclaredBelow (length old.types) t → Left name token t old new r Typedef → Means name token t old new r Typedef
typedef name token t old new (Ok told) below left n abi agrees = ap declared left ∙ typedef_bound n old name t (declared old) agrees below
typedef name token t old new (Err error) below left n abi agrees = tt

linked : (name : List ℕ) (token : ℕ) (t : DeclaredType) (old new : Context) (r : Result (Unit {0}) NoMemory) → DeclaredBelow (length old.types) (composite_by_now (value_in name old.environment.linked) t)
    → DeclaredBelow (length old.types) (seen_in (visible_type name old.environment) t) → Left name token t old new r Extern → Means name token t old new r Extern
linked name token t old new (Ok told) below seen left n abi agrees = ap declared left ∙ linked_bound n old name token t (declared old) agrees below seen
linked name token t old new (Err error) below seen left n abi agrees = tt

pub returns-in-Plain-clause-declared : goal.returns-in-Plain-clause-declared
returns-in-Plain-clause-declared c = subst (λ (s : Storage). Means c.args.name.now c.args.token c.args.ctype c.args.context.now c.declare_object.new.context c.declare_object.result s) (sym c.in-Plain.is)
    (plain c.args.name.now c.args.token c.args.ctype c.args.context.now c.declare_object.new.context c.declare_object.result c.requires c.declare_object.ensures)

pub returns-in-Static-clause-declared : goal.returns-in-Static-clause-declared
returns-in-Static-clause-declared c = subst (λ (s : Storage). Means c.args.name.now c.args.token c.args.ctype c.args.context.now c.declare_object-in-Static.new.context c.declare_object-in-Static.result s) (sym c.in-Static.is)
    (static c.args.name.now c.args.token c.args.ctype c.args.context.now c.declare_object-in-Static.new.context c.declare_object-in-Static.result c.requires c.declare_object-in-Static.ensures)

pub returns-in-Typedef-clause-declared : goal.returns-in-Typedef-clause-declared
returns-in-Typedef-clause-declared c = subst (λ (s : Storage). Means c.args.name.now c.args.token c.args.ctype c.args.context.now c.declare.new.self c.declare.result s) (sym c.in-Typedef.is)
    (typedef c.args.name.now c.args.token c.args.ctype c.args.context.now c.declare.new.self c.declare.result c.requires c.declare.ensures.ok)

pub returns-in-Extern-clause-declared : goal.returns-in-Extern-clause-declared
returns-in-Extern-clause-declared c = subst (λ (s : Storage). Means c.args.name.now c.args.token c.args.ctype c.args.context.now c.declare_linked.new.context c.declare_linked.result s) (sym c.in-Extern.is)
    (linked c.args.name.now c.args.token c.args.ctype c.args.context.now c.declare_linked.new.context c.declare_linked.result c.declare_linked.ensures.below c.declare_linked.ensures.seen c.declare_linked.ensures.bound)
