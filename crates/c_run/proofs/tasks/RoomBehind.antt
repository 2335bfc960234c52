-- Room for things in front of others.
use Rattle.std.proofs.Common.{◌≡◌, Bool, true, false, ◌&&◌, List, [], ◌∷◌, ◌++◌, append_assoc, refl, sym, ap, ◌∙◌}
use Rattle.c_machine.specs.declared.kind.Kind.{Kind}
use Rattle.c_machine.specs.State.{doing}
use Rattle.c_run.specs.declared.tasks.room.Room.{Room}
use Rattle.c_run.specs.declared.tasks.room.Room.TheVariants.{Made, NotKept}
use Rattle.c_run.specs.tasks.Room.{are_kept, is_there, kinds_in, kinds_of, MakesRoom}
use Rattle.c_run.proofs.tasks.MakingRoom.{Tasks, Running, then_false}
use Rattle.c_text.specs.Kept.{kept}

and_behind : (one two three : Bool) → one && (two && three) ≡ (one && two) && three
and_behind true two three = refl
and_behind false two three = refl

kept_behind : (one two : List Kind) → are_kept (one ++ two) ≡ are_kept one && are_kept two
kept_behind [] two = refl
kept_behind (kind ∷ one) two =
    ap (λ (fits : Bool). is_there (kept kind) && fits) (kept_behind one two) ∙ and_behind (is_there (kept kind)) (are_kept one) (are_kept two)

kinds_behind : (one two : Tasks) → kinds_in (one ++ two) ≡ kinds_in one ++ kinds_in two
kinds_behind [] two = refl
kinds_behind (task ∷ one) two =
    ap (λ (kinds : List Kind). kinds_of task ++ kinds) (kinds_behind one two) ∙ sym (append_assoc (kinds_of task) (kinds_in one) (kinds_in two))

are_kept_behind : (one two : Tasks) → are_kept (kinds_in (one ++ two)) ≡ are_kept (kinds_in one) && are_kept (kinds_in two)
are_kept_behind one two = ap are_kept (kinds_behind one two) ∙ kept_behind (kinds_in one) (kinds_in two)

-- in front of what there is room for
pub in_front : (one two : Tasks) (room : Room) (before between after : Running) → MakesRoom two Made before between → MakesRoom one room between after →
    MakesRoom (one ++ two) room before after
in_front one two Made before between after rest first = (
  first.0 ∙ ap (doing one) rest.0 ∙ ap (λ (tasks : Tasks). record before { tasks = tasks }) (sym (append_assoc one two before.tasks)),
  are_kept_behind one two ∙ ap (λ (fits : Bool). fits && are_kept (kinds_in two)) first.1 ∙ rest.1,
)
in_front one two NotKept before between after rest first =
    are_kept_behind one two ∙ ap (λ (fits : Bool). fits && are_kept (kinds_in two)) first

-- no room, where what stands behind has none
pub lacks_behind : (one two : Tasks) → are_kept (kinds_in two) ≡ false → are_kept (kinds_in (one ++ two)) ≡ false
lacks_behind one two is =
    are_kept_behind one two ∙ ap (λ (fits : Bool). are_kept (kinds_in one) && fits) is ∙ then_false (are_kept (kinds_in one))
