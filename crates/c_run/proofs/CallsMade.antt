-- Functions that are called, part by part.
use Rattle.std.proofs.Common.{◌≡◌, ℕ, ◌-◌, Bool, false, ◌&&◌, List, [], ◌∷◌, ◌++◌, map, length, drop, length-drop, Option, Some, slice_get, refl, sym, ap, subst, ◌∙◌}
use Rattle.std.specs.List.{list_all}
use Rattle.std.proofs.lemmas.List.{length-map}
use Rattle.choices.specs.declared.choice.Choice.{Choice}
use Rattle.c_machine.specs.declared.kind.Kind.{Kind}
use Rattle.c_machine.specs.declared.kind.Kind.TheVariants.{Struct}
use Rattle.c_machine.specs.declared.object.Object.{Object}
use Rattle.c_machine.specs.declared.task.Task.{Task}
use Rattle.c_machine.specs.declared.task.Task.TheVariants.{CallDefined, EndOfBody, Execute, OpenBlock, MakeParameter}
use Rattle.c_machine.specs.Blocks.{entered}
use Rattle.c_machine.specs.Calls.{function_tasks}
use Rattle.c_machine.specs.State.{StateIn, Went, doing}
use Rattle.c_machine.specs.Text.{Function, Parameter, Text}
use Rattle.c_steps.specs.Leaving.{in_call}
use Rattle.c_run.specs.declared.tasks.room.Room.{Room}
use Rattle.c_run.specs.declared.tasks.room.Room.TheVariants.{Made, NotKept}
use Rattle.c_run.specs.declared.stepped.Stepped.{Stepped}
use Rattle.c_run.specs.declared.stepped.Stepped.TheVariants.{Came, NotKept as NoAnswer}
use Rattle.c_run.specs.Stepped.{IsCallOf, IsStepOf, stepped_by}
use Rattle.c_run.specs.tasks.Room.{MakesRoom, are_kept, kinds_in, kinds_of}
use Rattle.c_text.specs.Kept.{is_sized}
use Rattle.c_run.proofs.DefinedFunctions.{each_object}
use Rattle.c_run.proofs.Rooms.{Tasks, both_kept, objects_kept}
use Rattle.cbase.specs.declared.tree.expr.Expr.{Expr}
use Rattle.cbase.specs.declared.tree.init.Init.{Init}
use Rattle.cbase.specs.declared.tree.stmt.Stmt.{Stmt}

-- a block with the objects of parameters, in front of the rest
pub opened : (make : Object → Task Expr Stmt Init) (params : List Parameter) (objects : List Object) (inner : Tasks) →
    objects ≡ map (λ (param : Parameter). param.object) params →
    (OpenBlock ∷ map make objects) ++ inner ≡ OpenBlock ∷ (map (λ (param : Parameter). make param.object) params ++ inner)
opened make params objects inner are =
    ap (λ (tasks : Tasks). OpenBlock ∷ (tasks ++ inner)) (ap (map make) are ∙ sym (each_object make params))

pub lacks_objects : (make : Object → Task Expr Stmt Init) (params : List Parameter) (objects : List Object) (inner : Tasks) →
    ((object : Object) → kinds_of (make object) ≡ Struct object.bytes ∷ []) → objects ≡ map (λ (param : Parameter). param.object) params →
    list_all is_sized objects ≡ false → are_kept (kinds_in (OpenBlock ∷ (map (λ (param : Parameter). make param.object) params ++ inner))) ≡ false
lacks_objects make params objects inner speaks are not =
    ap (λ (tasks : Tasks). are_kept (kinds_in tasks)) (sym (opened make params objects inner are))
    ∙ both_kept (OpenBlock ∷ map make objects) inner
    ∙ ap (λ (fit : Bool). fit && are_kept (kinds_in inner)) (objects_kept make objects speaks ∙ not)

-- the types of which a function speaks, however many operands are held around its call
same_kinds : {E S I : Type 0} (front one other : List (Task E S I)) → kinds_in one ≡ kinds_in other → kinds_in (front ++ one) ≡ kinds_in (front ++ other)
same_kinds [] one other is = is
same_kinds (task ∷ front) one other is = ap (λ (kinds : List Kind). kinds_of task ++ kinds) (same_kinds front one other is)

kinds_held : (t : Text) (function : Function t.Stmt) (held : ℕ) → kinds_in (function_tasks t function 0) ≡ kinds_in (function_tasks t function held)
kinds_held t function held =
    same_kinds (map (λ param. MakeParameter param.object) function.params) _ _
    (same_kinds (entered t function.body) _ _
    (same_kinds (map Execute function.body) (EndOfBody function.is_main function.result function.close 0 ∷ [])
    (EndOfBody function.is_main function.result function.close held ∷ []) refl))

-- so many parameters
pub many_params : (params : List Parameter) (objects : List Object) (count : ℕ) → count ≡ length objects → objects ≡ map (λ (param : Parameter). param.object) params →
    count ≡ length params
many_params params objects count is are = is ∙ ap (λ (l : List Object). length l) are ∙ length-map params (λ (param : Parameter). param.object)

-- the function has begun, and what is to be done in it is put there
pub calls_so : (t : Text) (function : Function t.Stmt) (room : Room) (before middle after : StateIn t) (count held : ℕ) (choices : List Choice) →
    count ≡ length function.params → held ≡ length before.operands - count → middle ≡ in_call count before →
    MakesRoom (function_tasks t function held) room middle after → IsCallOf t (Some function) (stepped_by room) before choices after choices
calls_so t function Made before middle after count held choices many is entered made = (
  ap (λ (state : StateIn t). Went state choices)
      (made.0
      ∙ ap (doing (function_tasks t function held)) entered
      ∙ ap (λ (k : ℕ). doing (function_tasks t function k) (in_call count before)) (is ∙ sym (length-drop count before.operands))
      ∙ ap (λ (k : ℕ). doing (function_tasks t function (length (drop k before.operands))) (in_call k before)) many),
  ap are_kept (kinds_held t function held) ∙ made.1,
)
calls_so t function NotKept before middle after count held choices many is entered not = ap are_kept (kinds_held t function held) ∙ not

-- it is the function of a number
pub is_call : (t : Text) (number : ℕ) (found : Option (Function t.Stmt)) (stepped : Stepped) (before after : StateIn t) (choices rest : List Choice) →
    slice_get t.functions number ≡ found → IsCallOf t found stepped before choices after rest → IsStepOf t (CallDefined number) stepped before choices after rest
is_call t number found (Came outcome) before after choices rest is done =
    subst (λ (function : Option (Function t.Stmt)). IsCallOf t function (Came outcome) before choices after rest) (sym is) done
is_call t number found NoAnswer before after choices rest is done =
    subst (λ (function : Option (Function t.Stmt)). IsCallOf t function NoAnswer before choices after rest) (sym is) done
