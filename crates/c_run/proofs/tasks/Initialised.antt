-- Initialisers, and what their values set.
use Rattle.std.proofs.Common.{◌≡◌, Bool, true, false, ◌&&◌, ℕ, List, [], ◌∷◌, ◌++◌, map, Option, None, Some, option_map, refl, sym, ap, ◌∙◌, subst, if◌then◌else◌}
use Rattle.cbase.specs.declared.place.Place.{Place}
use Rattle.cbase.specs.declared.tree.expr.Expr.{Expr}
use Rattle.cbase.specs.declared.tree.expr.ExprForm.TheViews.{out-InitPart}
use Rattle.cbase.specs.declared.tree.init.Init.{Init}
use Rattle.cbase.specs.declared.tree.init.InitPart.{InitPart}
use Rattle.c_machine.specs.declared.kind.Kind.{Kind}
use Rattle.c_machine.specs.declared.kind.Kind.TheVariants.{Integer, Pointer, Array, Struct, Void}
use Rattle.c_machine.specs.declared.object.Object.{Object}
use Rattle.c_machine.specs.declared.task.Task.TheVariants.{AddressOf, Convert, CopyStruct, Initialise, Store as StoreTask, Unknown, ValueOf}
use Rattle.c_machine.specs.Blocks.{declared_by, set, set_by, zeroed}
use Rattle.c_machine.specs.Expressions.{value_kind}
use Rattle.c_machine.specs.Program.{Program}
use Rattle.c_machine.specs.Text.{Store as Stored}
use Rattle.c_machine.specs.Trees.{text_of}
use Rattle.c_text.specs.declared.store.Store.{Store}
use Rattle.c_text.specs.Kept.{is_sized, kept, kept_object, kept_store}
use Rattle.c_run.specs.declared.tasks.room.Room.{Room}
use Rattle.c_run.specs.tasks.Room.{are_kept, is_there, kinds_in, MakesRoom}
use Rattle.c_run.specs.tasks.Structs.{struct_bytes}
use Rattle.c_run.proofs.tasks.KeptKinds.{is_kept}
use Rattle.c_run.proofs.tasks.MakingRoom.{Tasks, Running, lacks_one, lacks_second}

-- a name with an initialiser, by what is told of the object that it declares
abbrev pub initialised : Program → Place → Init → Object → Tasks
initialised p place init object = zeroed (text_of p) place object ((text_of p).initialiser init) ++ Initialise place init ∷ []

pub none_declared : (p : Program) (place : Place) (init : Init) (found : Option Object) → Some None ≡ kept_object found →
    declared_by (text_of p) place found (Some init) ≡ []
none_declared p place init None is = refl
none_declared p place init (Some object) is = at (is_sized object) is
  where
    at : (fits : Bool) → Some None ≡ option_map Some (if fits then Some object else None) → declared_by (text_of p) place (Some object) (Some init) ≡ []
    at true is = absurd cc
    at false is = absurd cc

pub one_declared : (p : Program) (place : Place) (init : Init) (room : Room) (before after : Running) (found : Option Object) (object : Object) →
    Some (Some object) ≡ kept_object found → (is_sized object ≡ true → MakesRoom (initialised p place init object) room before after) →
    MakesRoom (declared_by (text_of p) place found (Some init)) room before after
one_declared p place init room before after None object is made = absurd cc
one_declared p place init room before after (Some own) object is made = at (is_sized own) refl is
  where
    at : (fits : Bool) → is_sized own ≡ fits → Some (Some object) ≡ option_map Some (if fits then Some own else None) →
        MakesRoom (initialised p place init own) room before after
    at true fits is =
        let same : object ≡ own = cc in
        subst (λ (object : Object). MakesRoom (initialised p place init object) room before after) same (made (ap is_sized same ∙ fits))
    at false fits is = absurd cc

pub large_declared : (p : Program) (place : Place) (init : Init) (room : Room) (before after : Running) (found : Option Object) → None ≡ kept_object found →
    ((object : Object) → is_sized object ≡ false → MakesRoom (initialised p place init object) room before after) →
    MakesRoom (declared_by (text_of p) place found (Some init)) room before after
large_declared p place init room before after None is made = absurd cc
large_declared p place init room before after (Some own) is made = at (is_sized own) refl is
  where
    at : (fits : Bool) → is_sized own ≡ fits → None ≡ option_map Some (if fits then Some own else None) →
        MakesRoom (initialised p place init own) room before after
    at true fits is = absurd cc
    at false fits is = made own fits

-- the parts of an initialiser in braces
abbrev pub parts_tasks : Place → List InitPart → Tasks
parts_tasks place parts = map (λ (part : InitPart). Initialise place (out-InitPart part).init) parts

abbrev inits_tasks : Place → List Init → Tasks
inits_tasks place inits = map (Initialise place) inits

pub parts_are : (place : Place) (parts : List InitPart) → inits_tasks place (map (λ (part : InitPart). (out-InitPart part).init) parts) ≡ parts_tasks place parts
parts_are place [] = refl
parts_are place (part ∷ parts) = ap (λ (tasks : Tasks). Initialise place (out-InitPart part).init ∷ tasks) (parts_are place parts)

pub parts_kept : (place : Place) (parts : List InitPart) → are_kept (kinds_in (parts_tasks place parts)) ≡ true
parts_kept place [] = refl
parts_kept place (part ∷ parts) = parts_kept place parts

-- a value, by what is told of its store
abbrev store_told : Stored → Kind → Option Store
store_told stored kind = Some (record { offset = stored.offset; kind = kind })

pub set_unknown : (p : Program) (place after : Place) (value : Expr) (found : Option Stored) → Some None ≡ kept_store found →
    set (text_of p) place value after found ≡ Unknown ∷ []
set_unknown p place after value None is = refl
set_unknown p place after value (Some stored) is = at (kept stored.kind) is
  where
    at : (kind : Option Kind) → Some None ≡ option_map (store_told stored) kind →
        set (text_of p) place value after (Some stored) ≡ Unknown ∷ []
    at None is = absurd cc
    at (Some kind) is = absurd cc

pub set_some : (p : Program) (place after : Place) (value : Expr) (room : Room) (before behind : Running) (found : Option Stored) (store : Store) →
    Some (Some store) ≡ kept_store found →
    ((kind : Kind) → Some store.kind ≡ kept kind → MakesRoom (set (text_of p) place value after (Some (record { offset = store.offset; kind = kind }))) room before behind) →
    MakesRoom (set (text_of p) place value after found) room before behind
set_some p place after value room before behind None store is made = absurd cc
set_some p place after value room before behind (Some stored) store is made = at (kept stored.kind) refl is
  where
    at : (kind : Option Kind) → kept stored.kind ≡ kind →
        Some (Some store) ≡ option_map (store_told stored) kind →
        MakesRoom (set (text_of p) place value after (Some stored)) room before behind
    at None own is = absurd cc
    at (Some kind) own is =
        let same : store ≡ record { offset = stored.offset; kind = kind } = cc in
        subst (λ (offset : ℕ). MakesRoom (set (text_of p) place value after (Some (record { offset = offset; kind = stored.kind }))) room before behind)
        (ap (λ (store : Store). store.offset) same)
        (made stored.kind (ap (λ (store : Store). Some store.kind) same ∙ sym own))

set_by_lacks : (p : Program) (place after : Place) (value : Expr) (offset : ℕ) (kind : Kind) → None ≡ kept kind →
    are_kept (kinds_in (set (text_of p) place value after (Some (record { offset = offset; kind = kind })))) ≡ false
set_by_lacks p place after value offset (Struct bytes) is = lacks_one (Struct bytes) [] is
set_by_lacks p place after value offset (Integer of) is = lacks_second (value_kind (text_of p) value) (Integer of) (Integer of ∷ []) is
set_by_lacks p place after value offset (Pointer bytes) is = lacks_second (value_kind (text_of p) value) (Pointer bytes) (Pointer bytes ∷ []) is
set_by_lacks p place after value offset (Array bytes) is = lacks_second (value_kind (text_of p) value) (Array bytes) (Array bytes ∷ []) is
set_by_lacks p place after value offset Void is = lacks_second (value_kind (text_of p) value) Void (Void ∷ []) is

pub set_lacks : (p : Program) (place after : Place) (value : Expr) (found : Option Stored) → None ≡ kept_store found →
    are_kept (kinds_in (set (text_of p) place value after found)) ≡ false
set_lacks p place after value None is = absurd cc
set_lacks p place after value (Some stored) is = set_by_lacks p place after value stored.offset stored.kind (at (kept stored.kind) is)
  where
    at : (kind : Option Kind) → None ≡ option_map (store_told stored) kind → None ≡ kind
    at None is = refl
    at (Some kind) is = absurd cc

-- a struct is copied, and any other value is stored
pub set_copies : (p : Program) (place : Place) (value : Expr) (own kind : Kind) (bytes : ℕ) → Some kind ≡ kept own → Some bytes ≡ struct_bytes kind →
    (set_by (text_of p) place own value ≡ AddressOf value ∷ CopyStruct place bytes ∷ []) × (are_kept (Struct bytes ∷ []) ≡ true)
set_copies p place value own kind bytes is of =
    let same : own ≡ Struct bytes = is_kept own kind is ∙ struct_of kind bytes of in
    let fits : is_there (kept own) ≡ true = ap is_there (sym is) in
    (ap (λ (kind : Kind). set_by (text_of p) place kind value) same, at (is_there (kept (Struct bytes))) (sym (ap (λ (kind : Kind). is_there (kept kind)) same) ∙ fits))
  where
    struct_of : (kind : Kind) (bytes : ℕ) → Some bytes ≡ struct_bytes kind → kind ≡ Struct bytes
    struct_of (Struct own) bytes is = cc
    struct_of (Integer of) bytes is = absurd cc
    struct_of (Pointer size) bytes is = absurd cc
    struct_of (Array size) bytes is = absurd cc
    struct_of Void bytes is = absurd cc

    at : (fits : Bool) → fits ≡ true → fits && true ≡ true
    at true is = refl
    at false is = is

pub set_stores : (p : Program) (place : Place) (value : Expr) (own kind : Kind) → Some kind ≡ kept own → None ≡ struct_bytes kind →
    set_by (text_of p) place own value ≡ ValueOf value ∷ Convert (value_kind (text_of p) value) own ∷ StoreTask place own ∷ []
set_stores p place value own kind is none = no_struct own (none ∙ ap struct_bytes (sym (is_kept own kind is)))
  where
    no_struct : (own : Kind) → None ≡ struct_bytes own →
        set_by (text_of p) place own value ≡ ValueOf value ∷ Convert (value_kind (text_of p) value) own ∷ StoreTask place own ∷ []
    no_struct (Struct bytes) none = absurd cc
    no_struct (Integer of) none = refl
    no_struct (Pointer bytes) none = refl
    no_struct (Array bytes) none = refl
    no_struct Void none = refl
