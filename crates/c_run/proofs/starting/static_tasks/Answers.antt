-- The objects whose sizes are all kept, and then their initialisers.
use Rattle.std.proofs.Common.{List, length, map, refl, ap, ◌∙◌, Bool, ◌&&◌}
use Rattle.cbase.specs.declared.tree.init.Init.{Init}
use Rattle.c_machine.specs.declared.object.Object.{Object}
use Rattle.c_machine.specs.declared.task.Task.TheVariants.{Initialise, MakeStatic}
use Rattle.c_machine.specs.State.{doing}
use Rattle.c_machine.specs.Text.{Set}
use Rattle.c_machine.specs.Trees.{text_of}
use Rattle.c_run.specs.tasks.Room.{are_kept, kinds_in}
use Rattle.c_run.proofs.Rooms.{Tasks, both_kept, in_front, none_spoken, objects_kept, objects_told, objects_not_told}
use Rattle.c_run.specs.declared.tasks.room.Room.TheVariants.{Made}
use Rattle.c_run.proofs.starting.static_tasks.Goals as goal

abbrev initialised : List (Set Init) → Tasks
initialised sets = map (λ set. Initialise set.place set.init) sets

pub returns-in-None : goal.returns-in-None
returns-in-None c = λ n p stands given.
    both_kept (map MakeStatic (text_of p).statics) (initialised (text_of p).sets)
    ∙ ap (λ (fit : Bool). fit && are_kept (kinds_in (initialised (text_of p).sets))) (objects_kept MakeStatic (text_of p).statics (λ object. refl)
    ∙ objects_not_told _ c.in_ok-static_objects.field-0 (text_of p).statics c.in-None.is (c.in_ok-static_objects.ensures n p stands))

pub returns-in_ok-make_statics-in-Some : goal.returns-in_ok-make_statics-in-Some
returns-in_ok-make_statics-in-Some c = λ n p stands given.
    let told = objects_told _ c.in_ok-static_objects.field-0 c.in-Some.objects (text_of p).statics c.in-Some.is (c.in_ok-static_objects.ensures n p stands) in (
      in_front (map MakeStatic (text_of p).statics) (initialised (text_of p).sets) Made c.args.state.now c.initialise_each.new.state c.make_statics.new.state
          (c.in_ok-make_statics-in-Some.ensures ∙ ap (λ (objects : List Object). doing (map MakeStatic objects) c.initialise_each.new.state) (c.as_slice-made.ensures.value ∙ told.0), objects_kept MakeStatic (text_of p).statics (λ object. refl) ∙ told.1)
          (c.in_ok-initialise_each-in-Some.ensures ∙ ap (λ (sets : List (Set Init)). doing (initialised sets) c.args.state.now) given, none_spoken (λ set. Initialise set.place set.init) (text_of p).sets (λ set. refl)),
      ap (λ (objects : List Object). length objects) (c.as_slice-made.ensures.value ∙ told.0),
    )
