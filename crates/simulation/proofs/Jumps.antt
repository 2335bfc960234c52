-- `break` and `continue`.
use Rattle.std.proofs.Common.{◌≡◌, ℕ, suc, ◌+◌, List, [], ◌∷◌, ◌++◌, length, Bool, true, false, refl, sym, ap, subst, ◌∙◌, append_assoc, Some, None, Option, option_map, if◌then◌else◌}
use Rattle.std.specs.List.{flat_map}
use Rattle.cbase.specs.declared.place.Place.{Place}
use Rattle.bytes_core.specs.declared.block.Block.{Block}
use Rattle.bytes_core.specs.declared.word.Word.{Word}
use Rattle.bytes_core.specs.Fault.{memory_lost}
use Rattle.bytes_core.specs.Loss.{is_lost}
use Rattle.choices.specs.declared.choice.Choice.{Choice}
use Rattle.c_machine.specs.declared.task.Task.TheVariants.{Again, LeaveBlock, BreakAt, ContinueAt}
use Rattle.c_machine.specs.Text.{Text}
use Rattle.c_machine.specs.State.{TaskIn, Scope, Frame, Went, blocks_of, objects_of, roots}
use Rattle.c_machine.specs.Statements.{LoopLeft, loop_left, after_break, after_continue, oldest}
use Rattle.flow.specs.declared.instruction.Instr.TheVariants as i
use Rattle.flow.specs.declared.flow_graph.Flow.{Flow}
use Rattle.flow.specs.Holding.{Held, emptied}
use Rattle.flow.specs.Machine as graph
use Rattle.flow.specs.Valid.{IsFlow}
use Rattle.simulation.specs.Edges.{One}
use Rattle.simulation.specs.Names.{Name}
use Rattle.simulation.specs.Running.{Setting, Running}
use Rattle.simulation.specs.Slots.{Slot, is_whole, are_free, are_in, Holds}
use Rattle.simulation.specs.Worlds.{World, Side, AreAlike, source, state}
use Rattle.simulation.proofs.Losses.{lost_alike}
use Rattle.simulation.proofs.Meeting.{Meets, Good, source_alone, meets_fault, both_along, goes_before, count_of_all}
use Rattle.std.proofs.lemmas.Option.{same_Some, none-some}
use Rattle.c_machine.specs.State.{led_to}
use Rattle.c_machine.specs.declared.task.Task.{Task}
use Rattle.c_machine.specs.Statements.{one_more}
use Rattle.c_machine.specs.Step.{leave_loop}
use Rattle.simulation.proofs.Dropping.{parted, holds-unheld, holds-all_popped, oldest_behind}
use Rattle.simulation.proofs.Losses.{lost_behind}

-- the innermost loop is that of the function that runs
abbrev further : {E S I : Type 0} → List (Task E S I) → LoopLeft E S I → LoopLeft E S I
further rest left = record left { rest = left.rest ++ rest }

loop_left-append : {E S I : Type 0} (tasks rest : List (Task E S I)) (left : LoopLeft E S I) → loop_left tasks ≡ Some left → loop_left (tasks ++ rest) ≡ Some (further rest left)
loop_left-append [] rest left found = absurd (none-some left found)
loop_left-append (Again stmt held ∷ tasks) rest left found = ap (λ one. Some (further rest one)) (same_Some (record { blocks = 0; loop = stmt; held = held; rest = tasks }) left found)
loop_left-append (LeaveBlock place ∷ tasks) rest left found = by_found (loop_left tasks) refl found (loop_left-append tasks rest)
  where
    by_found : (one : _) → loop_left tasks ≡ one → option_map one_more one ≡ Some left → ((inner : _) → loop_left tasks ≡ Some inner → loop_left (tasks ++ rest) ≡ Some (further rest inner)) →
        option_map one_more (loop_left (tasks ++ rest)) ≡ Some (further rest left)
    by_found None is found' more = absurd (none-some left found')
    by_found (Some inner) is found' more =
        ap (option_map one_more) (more inner is) ∙ ap (λ one. Some (further rest one)) (same_Some (one_more inner) left found')
loop_left-append (other ∷ tasks) rest left found = loop_left-append tasks rest left found

module _ (t : Text) (flow : Flow) (setting : Setting) (valid : IsFlow flow) where
  abbrev Rest : ℕ → Running → List (List Name) → List (TaskIn t) → List Slot → ℕ → Type 0
  Rest n running scopes tasks slots point = Good t flow setting valid n running scopes tasks slots point

  -- what the source goes on with
  jump_step : (onward : LoopLeft t.Expr t.Stmt t.Init → List (TaskIn t)) (left : LoopLeft t.Expr t.Stmt t.Init) (tasks behind : List (TaskIn t)) (word : Place) (dropped operands : List Word)
      (w : World t) (memory : List Block) (choices : List Choice) → loop_left tasks ≡ Some left → onward (record left { rest = left.rest ++ w.rest }) ≡ behind ++ w.rest →
      oldest left.held (dropped ++ (operands ++ w.below)) ≡ operands ++ w.below →
      leave_loop (loop_left (tasks ++ w.rest)) onward
      (record { tasks = tasks ++ w.rest; operands = (dropped ++ operands) ++ w.below; frame = w.frame; callers = w.callers; statics = w.statics; memory = memory }) choices
      ≡ Went (source t behind operands w memory) choices
  jump_step onward left tasks behind word dropped operands w memory choices found after oldest_is =
      ap (λ (one : Option (LoopLeft t.Expr t.Stmt t.Init)). leave_loop one onward
      (record { tasks = tasks ++ w.rest; operands = (dropped ++ operands) ++ w.below; frame = w.frame; callers = w.callers; statics = w.statics; memory = memory }) choices)
      (loop_left-append tasks w.rest left found)
      ∙ (ap (λ (all : List (TaskIn t)). Went (record { tasks = all; operands = oldest left.held ((dropped ++ operands) ++ w.below); frame = w.frame; callers = w.callers; statics = w.statics; memory = memory }) choices) after
      ∙ ap (λ (all : List Word). Went (record { tasks = behind ++ w.rest; operands = all; frame = w.frame; callers = w.callers; statics = w.statics; memory = memory }) choices)
      (ap (oldest left.held) (append_assoc dropped operands w.below) ∙ oldest_is))

  -- what the graph finds lost at the word the source finds as it leaves the block
  block_lost : (n : ℕ) (running : Running) (names : List Name) (scopes : List (List Name)) (behind : List (TaskIn t)) (slots : List Slot) (word : Place) (to : ℕ) (operands : List Word) (registers : List Held)
      (frame : Frame) (callers : List Frame) (statics' : Scope) (rest : List (TaskIn t)) (below : List Word) (v : Side) (memory : List Block) (choices : List Choice) (lost : Bool) →
      is_lost memory (graph.roots (state to registers v memory)) ≡ lost → is_whole slots ≡ true → Holds memory registers slots operands →
      AreAlike t setting running (names ∷ scopes) (record { frame = frame; callers = callers; statics = statics'; rest = rest; below = below }) v →
      Meets t flow setting valid n (Went (source t (LeaveBlock word ∷ behind) operands (record { frame = frame; callers = callers; statics = statics'; rest = rest; below = below }) memory) choices)
      (graph.Went (state to registers v memory) choices) →
      Meets t flow setting valid n (Went (source t (LeaveBlock word ∷ behind) operands (record { frame = frame; callers = callers; statics = statics'; rest = rest; below = below }) memory) choices)
      (graph.unless_barred (if lost then graph.Faulted memory_lost word else graph.Went (state to registers v memory) choices) graph.Ended)
  block_lost n running names scopes behind slots word to operands registers frame callers statics' rest below v memory choices false is whole holds alike meets = meets
  block_lost n running names scopes behind slots word to operands registers [] callers statics' rest below v memory choices true is whole holds alike meets = absurd alike.frame
  block_lost n running names scopes behind slots word to operands registers (scope ∷ frame) callers statics' rest below v memory choices true is whole holds alike meets =
      let w : World t = record { frame = scope ∷ frame; callers = callers; statics = statics'; rest = rest; below = below } in
      let before : is_lost memory (roots (source t behind operands w memory)) ≡ true = lost_alike t setting running (names ∷ scopes) behind operands registers slots w v memory to whole holds alike ∙ is in
      let after = lost_behind memory scope (objects_of frame) (blocks_of (flat_map objects_of callers) ++ (blocks_of statics' ++ led_to (operands ++ below))) before in
      source_alone t flow setting valid n _ choices _ (rw after (meets_fault t flow setting valid n memory_lost word))

  pub breaks : (n : ℕ) (running : Running) (scopes : List (List Name)) (tasks : List (TaskIn t)) (slots : List Slot) (point : ℕ) (word : Place) (left : LoopLeft t.Expr t.Stmt t.Init) (dropped : List Slot) (behind : List (TaskIn t)) →
      loop_left tasks ≡ Some left → left.held ≡ length slots + running.base →
      ((rest : List (TaskIn t)) → after_break t word (record left { rest = left.rest ++ rest }) ≡ behind ++ rest) → are_in [] dropped ≡ true →
      Rest n running scopes behind slots point →
      Rest n running scopes (BreakAt word ∷ tasks) (dropped ++ slots) point
  breaks n running scopes tasks slots point word left dropped behind found held after unheld good operands registers w v memory choices holds alike goes =
      let parts = parted memory registers dropped slots operands holds.stands in
      subst (λ (all : List Word). Holds memory registers (dropped ++ slots) all →
      Meets t flow setting valid n (Went (source t (BreakAt word ∷ tasks) all w memory) choices) (graph.Went (state point registers v memory) choices)) (sym parts.2)
      (λ holds'.
      let behind_holds : Holds memory registers slots parts.1 = holds-unheld memory registers dropped slots parts.0 parts.1 unheld parts.3 holds' in
      source_alone t flow setting valid n _ choices _
      (rw (jump_step (after_break t word) left tasks behind word parts.0 parts.1 w memory choices found (after w.rest)
      (oldest_behind left.held parts.0 (parts.1 ++ w.below) (held ∙ sym (count_of_all t flow setting valid running scopes memory registers slots parts.1 w v behind_holds.stands alike))))
      (good parts.1 registers w v memory choices behind_holds alike goes))) holds

  pub breaks_finish : (n : ℕ) (running : Running) (scopes : List (List Name)) (tasks : List (TaskIn t)) (slots : List Slot) (point : ℕ) (word : Place) (left : LoopLeft t.Expr t.Stmt t.Init) (dropped : List Slot) (behind : List (TaskIn t)) (names : List Name) (gone : List ℕ) (to : ℕ) →
      loop_left tasks ≡ Some left → left.held ≡ length slots + running.base →
      ((rest : List (TaskIn t)) → after_break t word (record left { rest = left.rest ++ rest }) ≡ LeaveBlock word ∷ (behind ++ rest)) → is_whole slots ≡ true →
      are_free gone slots ≡ true → are_in gone dropped ≡ true → One flow point (i.Finish gone) to word →
      ((m : ℕ) → suc m ≡ n → Rest m running (names ∷ scopes) (LeaveBlock word ∷ behind) slots to) →
      Rest n running (names ∷ scopes) (BreakAt word ∷ tasks) (dropped ++ slots) point
  breaks_finish n running scopes tasks slots point word left dropped behind names gone to found held after whole free is_gone edge good operands registers w v memory choices holds alike goes =
      let parts = parted memory registers dropped slots operands holds.stands in
      subst (λ (all : List Word). Holds memory registers (dropped ++ slots) all →
      Meets t flow setting valid n (Went (source t (BreakAt word ∷ tasks) all w memory) choices) (graph.Went (state point registers v memory) choices)) (sym parts.2)
      (λ holds'.
      let behind_holds : Holds memory (emptied gone registers) slots parts.1 = holds-all_popped memory gone registers dropped slots parts.0 parts.1 free is_gone parts.3 holds' in
      both_along t flow setting valid n _ choices point registers v memory (i.Finish gone) to word edge
      (λ m is. rw (jump_step (after_break t word) left tasks (LeaveBlock word ∷ behind) word parts.0 parts.1 w memory choices found (after w.rest)
      (oldest_behind left.held parts.0 (parts.1 ++ w.below) (held ∙ sym (count_of_all t flow setting valid running (names ∷ scopes) memory (emptied gone registers) slots parts.1 w v behind_holds.stands alike))))
      (block_lost m running names scopes behind slots word to parts.1 (emptied gone registers) w.frame w.callers w.statics w.rest w.below v memory choices
      (is_lost memory (graph.roots (state to (emptied gone registers) v memory))) refl whole behind_holds alike
      (good m is parts.1 (emptied gone registers) w v memory choices behind_holds alike (goes_before t flow setting valid n m running w v is goes))))) holds

  pub continues : (n : ℕ) (running : Running) (scopes : List (List Name)) (tasks : List (TaskIn t)) (slots : List Slot) (point : ℕ) (word : Place) (left : LoopLeft t.Expr t.Stmt t.Init) (dropped : List Slot) (behind : List (TaskIn t)) →
      loop_left tasks ≡ Some left → left.held ≡ length slots + running.base →
      ((rest : List (TaskIn t)) → after_continue word (record left { rest = left.rest ++ rest }) ≡ behind ++ rest) → are_in [] dropped ≡ true →
      Rest n running scopes behind slots point →
      Rest n running scopes (ContinueAt word ∷ tasks) (dropped ++ slots) point
  continues n running scopes tasks slots point word left dropped behind found held after unheld good operands registers w v memory choices holds alike goes =
      let parts = parted memory registers dropped slots operands holds.stands in
      subst (λ (all : List Word). Holds memory registers (dropped ++ slots) all →
      Meets t flow setting valid n (Went (source t (ContinueAt word ∷ tasks) all w memory) choices) (graph.Went (state point registers v memory) choices)) (sym parts.2)
      (λ holds'.
      let behind_holds : Holds memory registers slots parts.1 = holds-unheld memory registers dropped slots parts.0 parts.1 unheld parts.3 holds' in
      source_alone t flow setting valid n _ choices _
      (rw (jump_step (after_continue word) left tasks behind word parts.0 parts.1 w memory choices found (after w.rest)
      (oldest_behind left.held parts.0 (parts.1 ++ w.below) (held ∙ sym (count_of_all t flow setting valid running scopes memory registers slots parts.1 w v behind_holds.stands alike))))
      (good parts.1 registers w v memory choices behind_holds alike goes))) holds

  pub continues_finish : (n : ℕ) (running : Running) (scopes : List (List Name)) (tasks : List (TaskIn t)) (slots : List Slot) (point : ℕ) (word : Place) (left : LoopLeft t.Expr t.Stmt t.Init) (dropped : List Slot) (behind : List (TaskIn t)) (names : List Name) (gone : List ℕ) (to : ℕ) →
      loop_left tasks ≡ Some left → left.held ≡ length slots + running.base →
      ((rest : List (TaskIn t)) → after_continue word (record left { rest = left.rest ++ rest }) ≡ LeaveBlock word ∷ (behind ++ rest)) → is_whole slots ≡ true →
      are_free gone slots ≡ true → are_in gone dropped ≡ true → One flow point (i.Finish gone) to word →
      ((m : ℕ) → suc m ≡ n → Rest m running (names ∷ scopes) (LeaveBlock word ∷ behind) slots to) →
      Rest n running (names ∷ scopes) (ContinueAt word ∷ tasks) (dropped ++ slots) point
  continues_finish n running scopes tasks slots point word left dropped behind names gone to found held after whole free is_gone edge good operands registers w v memory choices holds alike goes =
      let parts = parted memory registers dropped slots operands holds.stands in
      subst (λ (all : List Word). Holds memory registers (dropped ++ slots) all →
      Meets t flow setting valid n (Went (source t (ContinueAt word ∷ tasks) all w memory) choices) (graph.Went (state point registers v memory) choices)) (sym parts.2)
      (λ holds'.
      let behind_holds : Holds memory (emptied gone registers) slots parts.1 = holds-all_popped memory gone registers dropped slots parts.0 parts.1 free is_gone parts.3 holds' in
      both_along t flow setting valid n _ choices point registers v memory (i.Finish gone) to word edge
      (λ m is. rw (jump_step (after_continue word) left tasks (LeaveBlock word ∷ behind) word parts.0 parts.1 w memory choices found (after w.rest)
      (oldest_behind left.held parts.0 (parts.1 ++ w.below) (held ∙ sym (count_of_all t flow setting valid running (names ∷ scopes) memory (emptied gone registers) slots parts.1 w v behind_holds.stands alike))))
      (block_lost m running names scopes behind slots word to parts.1 (emptied gone registers) w.frame w.callers w.statics w.rest w.below v memory choices
      (is_lost memory (graph.roots (state to (emptied gone registers) v memory))) refl whole behind_holds alike
      (good m is parts.1 (emptied gone registers) w v memory choices behind_holds alike (goes_before t flow setting valid n m running w v is goes))))) holds
