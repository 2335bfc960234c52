-- Room for things to do that stand one behind the other.
use Rattle.std.proofs.Common.{◌≡◌, ℕ, zero, suc, get_or, Bool, true, false, ◌&&◌, List, [], ◌∷◌, ◌++◌, map, subst, Option, None, Some, if◌then◌else◌, refl, sym, ap, ◌∙◌, append_assoc}
use Rattle.std.specs.Prelude.{nat_le, option_map, Result, Ok, Err, IfOk}
use Rattle.std.specs.List.{list_all}
use Rattle.cbase.specs.declared.tree.expr.Expr.{Expr}
use Rattle.cbase.specs.declared.tree.init.Init.{Init}
use Rattle.cbase.specs.declared.tree.stmt.Stmt.{Stmt}
use Rattle.c_machine.specs.declared.kind.Kind.{Kind}
use Rattle.c_machine.specs.declared.kind.Kind.TheVariants.{Struct}
use Rattle.c_machine.specs.declared.object.Object.{Object}
use Rattle.c_machine.specs.declared.task.Task.{Task}
use Rattle.c_machine.specs.State.{State, doing}
use Rattle.c_run.specs.declared.tasks.room.Room.{Room}
use Rattle.c_run.specs.declared.tasks.room.Room.TheVariants.{Made, NotKept}
use Rattle.c_run.specs.tasks.Room.{MakesRoom, are_kept, is_there, kinds_in, kinds_of}
use Rattle.c_text.specs.Kept.{is_sized, kept, kept_objects}

-- what is to be done in a program, and its states
abbrev pub Tasks : Type 0
Tasks = List (Task Expr Stmt Init)

abbrev pub Running : Type 0
Running = State Expr Stmt Init

-- the types of which things to do speak, one behind the other
and_assoc : (a b c : Bool) → (a && (b && c)) ≡ ((a && b) && c)
and_assoc true b c = refl
and_assoc false b c = refl

and_false : (a : Bool) → (a && false) ≡ false
and_false true = refl
and_false false = refl

kept_behind : (ks more : List Kind) → are_kept (ks ++ more) ≡ (are_kept ks && are_kept more)
kept_behind [] more = refl
kept_behind (k ∷ ks) more = ap (λ (are : Bool). is_there (kept k) && are) (kept_behind ks more) ∙ and_assoc (is_there (kept k)) (are_kept ks) (are_kept more)

kinds_behind : (front back : Tasks) → kinds_in (front ++ back) ≡ kinds_in front ++ kinds_in back
kinds_behind [] back = refl
kinds_behind (task ∷ front) back = ap (λ (kinds : List Kind). kinds_of task ++ kinds) (kinds_behind front back) ∙ sym (append_assoc (kinds_of task) (kinds_in front) (kinds_in back))

pub both_kept : (front back : Tasks) → are_kept (kinds_in (front ++ back)) ≡ (are_kept (kinds_in front) && are_kept (kinds_in back))
both_kept front back = ap are_kept (kinds_behind front back) ∙ kept_behind (kinds_in front) (kinds_in back)

-- things to do in front of others are all of them
pub done_behind : (front back : Tasks) (state : Running) → doing front (doing back state) ≡ doing (front ++ back) state
done_behind front back state = ap (λ (tasks : Tasks). record state { tasks = tasks }) (sym (append_assoc front back state.tasks))

-- room in front of other room
pub in_front : (front back : Tasks) (room : Room) (before mid after : Running) → MakesRoom front room mid after → MakesRoom back Made before mid → MakesRoom (front ++ back) room before after
in_front front back Made before mid after made behind = (
  made.0 ∙ ap (doing front) behind.0 ∙ done_behind front back before,
  both_kept front back ∙ ap (λ (are : Bool). are && are_kept (kinds_in back)) made.1 ∙ behind.1,
)
in_front front back NotKept before mid after not behind = both_kept front back ∙ ap (λ (are : Bool). are && are_kept (kinds_in back)) not

-- no room behind
pub not_behind : (front back : Tasks) (before mid after : Running) → MakesRoom back NotKept before mid → MakesRoom (front ++ back) NotKept before after
not_behind front back before mid after not = both_kept front back ∙ ap (λ (are : Bool). are_kept (kinds_in front) && are) not ∙ and_false (are_kept (kinds_in front))

-- things to do that speak of no type
pub none_spoken : {A : Type 0} (task : A → Task Expr Stmt Init) (items : List A) → ((item : A) → kinds_of (task item) ≡ []) → are_kept (kinds_in (map task items)) ≡ true
none_spoken task [] none = refl
none_spoken task (item ∷ items) none = ap (λ (kinds : List Kind). are_kept (kinds ++ kinds_in (map task items))) (none item) ∙ none_spoken task items none

-- objects whose sizes are kept
sized : (bytes : ℕ) → is_there (kept (Struct bytes)) ≡ nat_le bytes 65536
sized bytes = by_cases (nat_le bytes 65536)
  where
    by_cases : (fits : Bool) → is_there (option_map Struct (if fits then Some bytes else None)) ≡ fits
    by_cases true = refl
    by_cases false = refl

pub objects_kept : (task : Object → Task Expr Stmt Init) (objects : List Object) → ((object : Object) → kinds_of (task object) ≡ Struct object.bytes ∷ []) → are_kept (kinds_in (map task objects)) ≡ list_all is_sized objects
objects_kept task [] speaks = refl
objects_kept task (object ∷ objects) speaks =
    ap (λ (kinds : List Kind). are_kept (kinds ++ kinds_in (map task objects))) (speaks object)
    ∙ ap (λ (fits : Bool). fits && are_kept (kinds_in (map task objects))) (sized object.bytes)
    ∙ ap (λ (fit : Bool). is_sized object && fit) (objects_kept task objects speaks)

-- objects that are told, and objects that are not
told_by : (fit : Bool) (objects found : List Object) → Some found ≡ (if fit then Some objects else None) → (found ≡ objects) × (fit ≡ true)
told_by true objects found is = (cc, refl)
told_by false objects found is = absurd cc

pub objects_told : {V : Type 0} (items : V → List Object) (answer : Option V) (value : V) (objects : List Object) → answer ≡ Some value → option_map items answer ≡ kept_objects objects
    → (items value ≡ objects) × (list_all is_sized objects ≡ true)
objects_told items answer value objects is told = told_by (list_all is_sized objects) objects (items value) (sym (ap (option_map items) is) ∙ told)

not_told_by : (fit : Bool) (objects : List Object) → None ≡ (if fit then Some objects else None) → fit ≡ false
not_told_by true objects is = absurd cc
not_told_by false objects is = refl

pub objects_not_told : {V : Type 0} (items : V → List Object) (answer : Option V) (objects : List Object) → answer ≡ None → option_map items answer ≡ kept_objects objects → list_all is_sized objects ≡ false
objects_not_told items answer objects is told = not_told_by (list_all is_sized objects) objects (sym (ap (option_map items) is) ∙ told)

-- an answer in other words
pub same_room : (tasks other : Tasks) (room : Room) (before after : Running) → tasks ≡ other → MakesRoom tasks room before after → MakesRoom other room before after
same_room tasks other room before after is made = subst (λ (these : Tasks). MakesRoom these room before after) is made

pub that_room : (tasks : Tasks) (room other : Room) (before after : Running) → room ≡ other → MakesRoom tasks room before after → MakesRoom tasks other before after
that_room tasks room other before after is made = subst (λ (this : Room). MakesRoom tasks this before after) is made

-- the statements of a body and its end speak of no type
pub body_kept : (task : Stmt → Task Expr Stmt Init) (body : List Stmt) (end : Task Expr Stmt Init) → ((stmt : Stmt) → kinds_of (task stmt) ≡ []) → kinds_of end ≡ [] → are_kept (kinds_in (map task body ++ end ∷ [])) ≡ true
body_kept task body end none nothing =
    both_kept (map task body) (end ∷ []) ∙ ap (λ (are : Bool). are && are_kept (kinds_in (end ∷ []))) (none_spoken task body none) ∙ ap (λ (kinds : List Kind). are_kept (kinds ++ [])) nothing

-- what a value says, where there is one
pub on_ok : {A E : Type 0} (P Q : A → Type 0) (result : Result A E) → ((value : A) → P value → Q value) → IfOk result P → IfOk result Q
on_ok P Q (Ok value) onward is = onward value is
on_ok P Q (Err error) onward is = tt

-- an item of a list, where it stands for itself where there is none
pub get_or_twice : {A : Type 0} (items : List A) (k : ℕ) (none : A) → get_or items k none ≡ get_or items k (get_or items k none)
get_or_twice [] k none = refl
get_or_twice (item ∷ items) zero none = refl
get_or_twice (item ∷ items) (suc k) none = get_or_twice items k none
