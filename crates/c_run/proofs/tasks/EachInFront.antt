-- What items make room for, from the last to the first.
use Rattle.std.proofs.Common.{◌≡◌, ℕ, zero, suc, ◌+◌, ◌-◌, ◌<◌, ◌≤◌, List, [], ◌∷◌, ◌++◌, false, length, map, drop, get_or, sym, ap, ◌∙◌, arith, add-one, drop-cons}
use Rattle.std.specs.List.{flat_map}
use Rattle.cbase.specs.declared.tree.expr.Expr.{Expr}
use Rattle.cbase.specs.declared.tree.init.Init.{Init}
use Rattle.cbase.specs.declared.tree.stmt.Stmt.{Stmt}
use Rattle.c_machine.specs.declared.task.Task.{Task}
use Rattle.c_machine.specs.State.{doing}
use Rattle.c_run.specs.declared.tasks.room.Room.{Room}
use Rattle.c_run.specs.declared.tasks.room.Room.TheVariants.{Made}
use Rattle.c_run.specs.tasks.Room.{are_kept, kinds_in, MakesRoom}
use Rattle.c_run.proofs.tasks.MakingRoom.{Tasks, Running, same_room}
use Rattle.c_run.proofs.tasks.RoomBehind.{in_front, lacks_behind}

-- the first of those behind so many
pub item_at : {A : Type 0} (items : List A) (k : ℕ) (item : A) → k < length items → item ≡ get_or items k item → drop k items ≡ item ∷ drop (k + 1) items
item_at items k item inside is =
    drop-cons items k item inside
    ∙ ap (λ (n : ℕ). get_or items k item ∷ drop n items) (sym (add-one k))
    ∙ ap (λ one. one ∷ drop (k + 1) items) (sym is)

sub_one : (left : ℕ) → 0 < left → left - 1 + 1 ≡ left
sub_one left some = grind (arith, some)

pub item_in_front : {A : Type 0} (f : A → Tasks) (items : List A) (left : ℕ) (item : A) (room : Room) (before between after : Running) → 0 < left →
    left ≤ length items → item ≡ get_or items (left - 1) item → MakesRoom (flat_map f (drop left items)) Made before between →
    MakesRoom (f item) room between after → MakesRoom (flat_map f (drop (left - 1) items)) room before after
item_in_front f items left item room before between after some inside is rest first =
    same_room _ (f item ++ flat_map f (drop left items)) room before after
    (ap (flat_map f) (item_at items (left - 1) item (grind (arith, some, inside)) is)
    ∙ ap (λ (k : ℕ). f item ++ flat_map f (drop k items)) (sub_one left some))
    (in_front (f item) (flat_map f (drop left items)) room before between after rest first)

-- one thing to do for each
pub item_done : {A : Type 0} (f : A → Task Expr Stmt Init) (items : List A) (left : ℕ) (item : A) (before between after : Running) → 0 < left →
    left ≤ length items → item ≡ get_or items (left - 1) item → between ≡ doing (map f (drop left items)) before → after ≡ doing (f item ∷ []) between →
    after ≡ doing (map f (drop (left - 1) items)) before
item_done f items left item before between after some inside is rest first =
    first
    ∙ ap (doing (f item ∷ [])) rest
    ∙ ap (λ (k : ℕ). doing (f item ∷ map f (drop k items)) before) (sym (sub_one left some))
    ∙ ap (λ rows. doing (map f rows) before) (sym (item_at items (left - 1) item (grind (arith, some, inside)) is))

-- where one has no room, all have none
pub lacks_item : {A : Type 0} (f : A → Tasks) (items : List A) (k : ℕ) → are_kept (kinds_in (flat_map f (drop k items))) ≡ false →
    are_kept (kinds_in (flat_map f items)) ≡ false
lacks_item f items zero is = is
lacks_item f [] (suc k) is = is
lacks_item f (item ∷ items) (suc k) is = lacks_behind (f item) (flat_map f items) (lacks_item f items k is)
