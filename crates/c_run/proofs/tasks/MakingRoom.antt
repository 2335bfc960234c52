-- Room is made with the types that are kept.
use Rattle.std.proofs.Common.{◌≡◌, ℕ, Bool, true, false, ◌&&◌, List, [], ◌∷◌, Option, None, Some, Result, Ok, Err, IfOk, refl, sym, ap, ◌∙◌, subst}
use Rattle.cbase.specs.declared.tree.expr.Expr.{Expr}
use Rattle.cbase.specs.declared.tree.expr.ExprForm.{ExprForm}
use Rattle.cbase.specs.declared.tree.expr.ExprForm.TheViews.{out-ExprForm}
use Rattle.cbase.specs.declared.tree.init.Init.{Init}
use Rattle.cbase.specs.declared.tree.stmt.Stmt.{Stmt}
use Rattle.typing.specs.Forms.{Form as Layer}
use Rattle.cbase.specs.declared.place.Place.{Place}
use Rattle.c_machine.specs.declared.kind.Kind.{Kind}
use Rattle.c_machine.specs.declared.kind.Kind.TheVariants.{Integer, Pointer, Array, Struct, Void}
use Rattle.c_machine.specs.declared.task.Task.TheVariants.{AddressOf, Convert, CopyStruct, Store, ValueOf}
use Rattle.c_machine.specs.declared.task.Task.{Task}
use Rattle.c_machine.specs.Expressions.{address_parts, address_tasks, assign_parts, value_kind}
use Rattle.c_machine.specs.Program.{Program}
use Rattle.c_machine.specs.State.{State, doing}
use Rattle.c_machine.specs.Text.{Text}
use Rattle.c_machine.specs.Trees.{text_of, form_of}
use Rattle.c_run.specs.declared.tasks.room.Room.{Room}
use Rattle.c_run.specs.declared.tasks.room.Room.TheVariants.{Made}
use Rattle.c_run.specs.tasks.Room.{are_kept, is_there, kinds_in, MakesRoom}
use Rattle.c_run.specs.tasks.Structs.{struct_bytes}
use Rattle.c_run.proofs.tasks.KeptKinds.{is_kept}
use Rattle.c_text.specs.Kept.{kept}

there : (own kind : Kind) → Some kind ≡ kept own → is_there (kept own) ≡ true
there own kind is = sym (ap is_there is)

one_there : (own : Kind) → is_there (kept own) ≡ true → are_kept (own ∷ []) ≡ true
one_there own is = ap (λ (fits : Bool). fits && true) is

pub two_there : (one other : Kind) → is_there (kept one) ≡ true → is_there (kept other) ≡ true → are_kept (one ∷ other ∷ []) ≡ true
two_there one other is also =
    ap (λ (fits : Bool). fits && are_kept (other ∷ [])) is ∙ one_there other also

pub three_there : (one other : Kind) → is_there (kept one) ≡ true → is_there (kept other) ≡ true → are_kept (one ∷ other ∷ other ∷ []) ≡ true
three_there one other is also =
    ap (λ (fits : Bool). fits && are_kept (other ∷ other ∷ [])) is ∙ two_there other other also also

-- what is to be done in a program, and its states
abbrev pub Tasks : Type 0
Tasks = List (Task Expr Stmt Init)

abbrev pub Running : Type 0
Running = State Expr Stmt Init

-- room that speaks of one type, and of two
pub speaks_of_one : (tasks : Kind → Tasks) (own kind : Kind) (before after : Running) →
    Some kind ≡ kept own → kinds_in (tasks own) ≡ own ∷ [] → after ≡ doing (tasks kind) before → MakesRoom (tasks own) Made before after
speaks_of_one tasks own kind before after is kinds made = (
  made ∙ ap (λ (kind : Kind). doing (tasks kind) before) (sym (is_kept own kind is)),
  ap are_kept kinds ∙ one_there own (there own kind is),
)

pub speaks_of_two : (tasks : Kind → Kind → Tasks) (one other kind next : Kind) (before after : Running) →
    Some kind ≡ kept one → Some next ≡ kept other → (is_there (kept one) ≡ true → is_there (kept other) ≡ true → are_kept (kinds_in (tasks one other)) ≡ true)
    → after ≡ doing (tasks kind next) before → MakesRoom (tasks one other) Made before after
speaks_of_two tasks one other kind next before after is there-is kinds made = (
  made
      ∙ ap (λ (kind : Kind). doing (tasks kind next) before) (sym (is_kept one kind is))
      ∙ ap (λ (next : Kind). doing (tasks one next) before) (sym (is_kept other next there-is)),
  kinds (there one kind is) (there other next there-is),
)

pub room_with_one : (tasks : Kind → Tasks) (own kind : Kind) (room : Room) (before after : Running) →
    Some kind ≡ kept own → (are_kept (kind ∷ []) ≡ true → MakesRoom (tasks kind) room before after) → MakesRoom (tasks own) room before after
room_with_one tasks own kind room before after is made =
    let same : own ≡ kind = is_kept own kind is in
    subst (λ (kind : Kind). MakesRoom (tasks kind) room before after) (sym same)
    (made (ap (λ (kind : Kind). are_kept (kind ∷ [])) (sym same) ∙ one_there own (there own kind is)))

pub room_with_two : (tasks : Kind → Kind → Tasks) (one other kind next : Kind) (room : Room) (before after : Running) →
    Some kind ≡ kept one → Some next ≡ kept other → (are_kept (kind ∷ next ∷ []) ≡ true → MakesRoom (tasks kind next) room before after)
    → MakesRoom (tasks one other) room before after
room_with_two tasks one other kind next room before after is there-is made =
    room_with_one (λ (kind : Kind). tasks kind other) one kind room before after is
    (λ first. room_with_one (tasks kind) other next room before after there-is
    (λ second. made (ap (λ (fits : Bool). is_there (kept kind) && fits) second ∙ first)))

pub on_ok : {A E : Type 0} (P Q : A → Type 0) (result : Result A E) → ((value : A) → P value → Q value) → IfOk result P → IfOk result Q
on_ok P Q (Ok value) onward is = onward value is
on_ok P Q (Err error) onward is = tt

-- the same room for the same things
pub same_room : (tasks other : Tasks) (room : Room) (before after : Running) → tasks ≡ other → MakesRoom other room before after → MakesRoom tasks room before after
same_room tasks other room before after is made = subst (λ (tasks : Tasks). MakesRoom tasks room before after) (sym is) made

-- an assignment by the type of its left side
pub copies : (t : Text) (place : Place) (left right : t.Expr) (own kind : Kind) (bytes : ℕ) → Some kind ≡ kept own → Some bytes ≡ struct_bytes kind →
    (assign_parts t place left right own ≡ AddressOf left ∷ AddressOf right ∷ CopyStruct place bytes ∷ []) × (are_kept (Struct bytes ∷ []) ≡ true)
copies t place left right own kind bytes is of =
    let same : own ≡ kind = is_kept own kind is in
    let struct : kind ≡ Struct bytes = struct_of kind bytes of in
    (ap (assign_parts t place left right) (same ∙ struct), ap (λ (kind : Kind). are_kept (kind ∷ [])) (sym (same ∙ struct)) ∙ one_there own (there own kind is))
  where
    struct_of : (kind : Kind) (bytes : ℕ) → Some bytes ≡ struct_bytes kind → kind ≡ Struct bytes
    struct_of (Struct own) bytes is = cc
    struct_of (Integer of) bytes is = absurd cc
    struct_of (Pointer size) bytes is = absurd cc
    struct_of (Array size) bytes is = absurd cc
    struct_of Void bytes is = absurd cc

pub stores : (t : Text) (place : Place) (left right : t.Expr) (own kind : Kind) → Some kind ≡ kept own → None ≡ struct_bytes kind →
    assign_parts t place left right own ≡ AddressOf left ∷ ValueOf right ∷ Convert (value_kind t right) own ∷ Store (t.place left) own ∷ []
stores t place left right own kind is none = no_struct own (none ∙ ap struct_bytes (sym (is_kept own kind is)))
  where
    no_struct : (own : Kind) → None ≡ struct_bytes own →
        assign_parts t place left right own ≡ AddressOf left ∷ ValueOf right ∷ Convert (value_kind t right) own ∷ Store (t.place left) own ∷ []
    no_struct (Struct bytes) none = absurd cc
    no_struct (Integer of) none = refl
    no_struct (Pointer bytes) none = refl
    no_struct (Array bytes) none = refl
    no_struct Void none = refl

-- no room, where the one type or one of two is not kept
pub lacks_one : (own : Kind) (rest : List Kind) → None ≡ kept own → are_kept (own ∷ rest) ≡ false
lacks_one own rest is = ap (λ (found : Option Kind). is_there found && are_kept rest) (sym is)

pub then_false : (fits : Bool) → fits && false ≡ false
then_false true = refl
then_false false = refl

pub lacks_second : (one other : Kind) (rest : List Kind) → None ≡ kept other → are_kept (one ∷ other ∷ rest) ≡ false
lacks_second one other rest is =
    ap (λ (fits : Bool). is_there (kept one) && fits) (lacks_one other rest is) ∙ then_false (is_there (kept one))

-- the address of an expression of a form
pub address_of_form : (p : Program) (expr : Expr) (form : ExprForm) (layer : Layer) (room : Room) (before after : State Expr Stmt Init) →
    expr.form ≡ form → out-ExprForm form ≡ layer → MakesRoom (address_parts (text_of p) expr (form_of p expr layer)) room before after
    → MakesRoom (address_tasks (text_of p) expr) room before after
address_of_form p expr form layer room before after is out made =
    subst (λ (layer : Layer). MakesRoom (address_parts (text_of p) expr (form_of p expr layer)) room before after) (sym (ap out-ExprForm is ∙ out)) made

pub assigns_none : (t : Text) (place : Place) (left right : t.Expr) (own : Kind) → None ≡ kept own → are_kept (kinds_in (assign_parts t place left right own)) ≡ false
assigns_none t place left right (Struct bytes) is = lacks_one (Struct bytes) [] is
assigns_none t place left right (Integer of) is = lacks_second (value_kind t right) (Integer of) (Integer of ∷ []) is
assigns_none t place left right (Pointer bytes) is = lacks_second (value_kind t right) (Pointer bytes) (Pointer bytes ∷ []) is
assigns_none t place left right (Array bytes) is = lacks_second (value_kind t right) (Array bytes) (Array bytes ∷ []) is
assigns_none t place left right Void is = lacks_second (value_kind t right) Void (Void ∷ []) is
