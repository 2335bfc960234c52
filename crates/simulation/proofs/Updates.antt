-- `+=` and its like, `++` and `--`.
use Rattle.std.proofs.Common.{◌≡◌, ℕ, suc, List, [], ◌∷◌, Bool, true, false, not, refl, sym, ap, subst, ◌∙◌, Some, None, Option, option_map}
use Rattle.cbase.specs.declared.place.Place.{Place}
use Rattle.cbase.specs.declared.tree.operators.BinaryOp.{BinaryOp}
use Rattle.bytes_core.specs.declared.block.Block.{Block}
use Rattle.bytes_core.specs.declared.word.Word.{Word}
use Rattle.bytes_core.specs.declared.word.Word.TheVariants.{Plain}
use Rattle.bytes_core.specs.Access.{access_fault, loaded, stored}
use Rattle.bytes_core.specs.Value.{moved}
use Rattle.choices.specs.declared.choice.Choice.{Choice}
use Rattle.typing.specs.ctypes.Integers.{int}
use Rattle.c_machine.specs.declared.kind.Kind.{Kind}
use Rattle.c_machine.specs.declared.kind.Kind.TheVariants.{Integer}
use Rattle.c_machine.specs.declared.task.Task.TheVariants.{Update, CountBy}
use Rattle.c_machine.specs.Text.{Text}
use Rattle.c_machine.specs.State.{TaskIn, StateIn, OutcomeIn, Went, Ended, with_operand, with_memory, unless_fault}
use Rattle.c_machine.specs.Step.{step, updated, stored_result, counting, counted}
use Rattle.c_machine.specs.Words.{as_kind, operated, kind_after, scalar_bytes, is_pointer}
use Rattle.flow.specs.declared.instruction.Instr.TheVariants as i
use Rattle.flow.specs.declared.flow_graph.Flow.{Flow}
use Rattle.flow.specs.Holding.{Held, held_by, put, emptied}
use Rattle.flow.specs.Machine as graph
use Rattle.flow.specs.Valid.{IsFlow}
use Rattle.simulation.specs.Edges.{One}
use Rattle.simulation.specs.Names.{Name}
use Rattle.simulation.specs.Running.{Setting, Running}
use Rattle.simulation.specs.Slots.{Slot, InRegister, Gone, Suits, is_free, is_whole, IsPlainWhere, Holds}
use Rattle.simulation.specs.Turning.{Calculates, CalculatesWith}
use Rattle.simulation.specs.Worlds.{World, Side, source, state}
use Rattle.simulation.proofs.Holding.{holds-put, holds-popped, holds-both_popped, holds-memory, holds-gone, first_of, second_of, none_of, holds-kept, exchanged, put_below, loaded_plain}
use Rattle.simulation.proofs.Meeting.{suits_of, Meets, Good, meets_fault, meets_over, knowing, both_along, graph_along, goes_before}
use Rattle.simulation.proofs.Registers.{held-put_same, held-put_other, free_first}
use Rattle.simulation.proofs.Turning.{pair_free, other_way, calculates, calculates_with}

module _ (t : Text) (flow : Flow) (setting : Setting) (valid : IsFlow flow) where
  abbrev Rest : ℕ → Running → List (List Name) → List (TaskIn t) → List Slot → ℕ → Type 0
  Rest n running scopes tasks slots point = Good t flow setting valid n running scopes tasks slots point

  -- what a calculation comes to is stored
  abbrev stored_as : ℕ → Word → (Word → Word) → StateIn t → List Choice → Option Word → OutcomeIn t
  stored_as bytes at value state choices None = Ended
  stored_as bytes at value state choices (Some new) = Went (with_operand (value new) (with_memory (stored state.memory at bytes new) state)) choices

  calculated_or : (n : ℕ) (found : Option Word) (from kind : Kind) (bytes : ℕ) (address : Word) (value : Word → Word) (after : StateIn t) (choices : List Choice) (other : graph.Outcome)
      (result : Option Word) → option_map (as_kind after.memory from kind) found ≡ result → Meets t flow setting valid n (stored_as bytes address value after choices result) other →
      Meets t flow setting valid n (stored_result from kind bytes address found value after choices) other
  calculated_or n None from kind bytes address value after choices other result is meets =
      subst (λ (one : Option Word). Meets t flow setting valid n (stored_as bytes address value after choices one) other) (sym is) meets
  calculated_or n (Some word) from kind bytes address value after choices other result is meets =
      subst (λ (one : Option Word). Meets t flow setting valid n (stored_as bytes address value after choices one) other) (sym is) meets

  update_step : (op : BinaryOp) (place : Place) (kind right : Kind) (bytes : ℕ) (tasks : List (TaskIn t)) (word address : Word) (operands : List Word) (w : World t) (memory : List Block) (choices : List Choice) →
      scalar_bytes kind ≡ Some bytes →
      step t (source t (Update op place kind right ∷ tasks) (word ∷ address ∷ operands) w memory) choices
      ≡ unless_fault (access_fault memory address bytes) place
      (stored_result (kind_after op kind right) kind bytes address (operated memory op kind right (loaded memory address bytes (is_pointer kind)) word)
      (counted false (loaded memory address bytes (is_pointer kind))) (source t tasks operands w memory) choices)
  update_step op place kind right bytes tasks word address operands w memory choices is_bytes =
      ap (λ (found : Option ℕ). updated op place kind found right address word (counted false) (source t tasks operands w memory) choices) is_bytes

  count_step : (up after : Bool) (place : Place) (kind : Kind) (bytes : ℕ) (tasks : List (TaskIn t)) (address : Word) (operands : List Word) (w : World t) (memory : List Block) (choices : List Choice) →
      scalar_bytes kind ≡ Some bytes →
      step t (source t (CountBy up after place kind ∷ tasks) (address ∷ operands) w memory) choices
      ≡ unless_fault (access_fault memory address bytes) place
      (stored_result (kind_after (counting up) kind (Integer int)) kind bytes address (operated memory (counting up) kind (Integer int) (loaded memory address bytes (is_pointer kind)) (Plain 1))
      (counted after (loaded memory address bytes (is_pointer kind))) (source t tasks operands w memory) choices)
  count_step up after place kind bytes tasks address operands w memory choices is_bytes =
      ap (λ (found : Option ℕ). updated (counting up) place kind found (Integer int) address (Plain 1) (counted after) (source t tasks operands w memory) choices) is_bytes

  fault_or_known : (n : ℕ) (fault : Option ℕ) (place : Place) (one : OutcomeIn t) (next : graph.State) (choices : List Choice) →
      (fault ≡ None → Meets t flow setting valid n one (graph.Went next choices)) →
      Meets t flow setting valid n (unless_fault fault place one) (graph.unless_barred (graph.unless_fault fault place (graph.Went next choices)) graph.Ended)
  fault_or_known n None place one next choices each = each refl
  fault_or_known n (Some kind) place one next choices each = meets_fault t flow setting valid n kind place

  -- the address is kept for the write, and the value is read
  reads_again : (n : ℕ) (one : StateIn t) (after : OutcomeIn t) (choices : List Choice) (point : ℕ) (registers : List Held) (v : Side) (memory : List Block)
      (at size : ℕ) (address : Word) (at' read old bytes : ℕ) (pointer : Bool) (behind : ℕ) (place place' : Place) (slots : List Slot) (words : List Word) (plain : Bool) →
      held_by registers at ≡ Some (record { register = at; size = size; word = address }) → IsPlainWhere plain address →
      is_free at' slots ≡ true → One flow point (i.Move at' at) read place' → is_free old slots ≡ true → One flow read (i.Read old at' bytes pointer) behind place →
      Holds memory registers slots words → step t one choices ≡ unless_fault (access_fault memory address bytes) place after →
      ((m : ℕ) → suc m ≡ n → (registers' : List Held) → access_fault memory address bytes ≡ None →
      Holds memory registers' (InRegister old bytes (not pointer) ∷ slots) (loaded memory address bytes pointer ∷ words) →
      Meets t flow setting valid m after (graph.Went (state behind registers' v memory) choices)) →
      Meets t flow setting valid n (Went one choices) (graph.Went (state point registers v memory) choices)
  reads_again n one after choices point registers v memory at size address at' read old bytes pointer behind place place' slots words plain at_is is_plain free move free' read' holds stepped each =
      let new : Held = record { register = at'; size = size; word = address } in
      let kept = holds-put memory at' size address plain registers slots words free is_plain holds in
      both_along t flow setting valid n one choices point registers v memory (i.Move at' at) read place' move
      (λ m is. rw (at_is, stepped)
      (graph_along t flow setting valid m _ choices read (put new registers) v memory (i.Read old at' bytes pointer) behind place read'
      (rw (held-put_same new registers)
      (fault_or_known m (access_fault memory address bytes) place after _ choices
      (λ fine. each m is (put (record { register = old; size = bytes; word = loaded memory address bytes pointer }) (emptied (at' ∷ []) (put new registers))) fine
      (holds-put memory old bytes (loaded memory address bytes pointer) (not pointer) (emptied (at' ∷ []) (put new registers)) slots words free' (loaded_plain memory address bytes pointer)
      (holds-popped memory (at' ∷ []) (put new registers) (InRegister at' size plain) slots address words (none_of at' slots free) (first_of at' []) kept)))))))

  -- the new value is written
  writes : (n : ℕ) (one : OutcomeIn t) (choices : List Choice) (from : ℕ) (registers : List Held) (v : Side) (memory : List Block) (at size : ℕ) (plain : Bool) (address : Word)
      (new size' : ℕ) (plain' : Bool) (result : Word) (bytes to : ℕ) (place : Place) (slots : List Slot) (words : List Word) →
      is_whole slots ≡ true → is_free at slots ≡ true → is_free new (InRegister at size plain ∷ slots) ≡ true → One flow from (i.Write at new bytes) to place →
      access_fault memory address bytes ≡ None → Holds memory registers (InRegister new size' plain' ∷ InRegister at size plain ∷ slots) (result ∷ address ∷ words) →
      ((registers' : List Held) → Holds (stored memory address bytes result) registers' slots words →
      Meets t flow setting valid n one (graph.Went (state to registers' v (stored memory address bytes result)) choices)) →
      Meets t flow setting valid n one (graph.Went (state from registers v memory) choices)
  writes n one choices from registers v memory at size plain address new size' plain' result bytes to place slots words whole free free' write fine holds each =
      let not_at = free_first new at size plain slots free' in
      graph_along t flow setting valid n one choices from registers v memory (i.Write at new bytes) to place write
      (rw (holds.stands.2.0, holds.stands.0, fine)
      (each (emptied (at ∷ new ∷ []) registers)
      (holds-memory memory (stored memory address bytes result) (emptied (at ∷ new ∷ []) registers) slots words whole
      (holds-both_popped memory (at ∷ new ∷ []) registers (InRegister new size' plain') (InRegister at size plain) slots result address words (pair_free at new slots free not_at.1)
      (second_of new at []) (first_of at (new ∷ [])) holds))))

  writes_kept : (n : ℕ) (one : OutcomeIn t) (choices : List Choice) (from : ℕ) (registers : List Held) (v : Side) (memory : List Block) (at size : ℕ) (plain : Bool) (address : Word)
      (new size' : ℕ) (plain' : Bool) (result : Word) (bytes kept written to : ℕ) (place place' : Place) (slots : List Slot) (words : List Word) →
      is_whole slots ≡ true → is_free at slots ≡ true → is_free new (InRegister at size plain ∷ slots) ≡ true →
      is_free kept (InRegister new size' plain' ∷ InRegister at size plain ∷ slots) ≡ true → One flow from (i.Move kept new) written place' → One flow written (i.Write at new bytes) to place →
      access_fault memory address bytes ≡ None → Holds memory registers (InRegister new size' plain' ∷ InRegister at size plain ∷ slots) (result ∷ address ∷ words) →
      ((registers' : List Held) → Holds (stored memory address bytes result) registers' (InRegister kept size' plain' ∷ slots) (result ∷ words) →
      Meets t flow setting valid n one (graph.Went (state to registers' v (stored memory address bytes result)) choices)) →
      Meets t flow setting valid n one (graph.Went (state from registers v memory) choices)
  writes_kept n one choices from registers v memory at size plain address new size' plain' result bytes kept written to place place' slots words whole free free' free'' move write fine holds each =
      let moved : Held = record { register = kept; size = size'; word = result } in
      let not_at = free_first new at size plain slots free' in
      let not_new = free_first kept new size' plain' (InRegister at size plain ∷ slots) free'' in
      let not_at' = free_first kept at size plain slots not_new.1 in
      let at_is = held-put_other moved registers at (λ same. not_at'.0 (sym same)) ∙ holds.stands.2.0 in
      let new_is = held-put_other moved registers new (λ same. not_new.0 (sym same)) ∙ holds.stands.0 in
      graph_along t flow setting valid n one choices from registers v memory (i.Move kept new) written place' move
      (rw holds.stands.0
      (graph_along t flow setting valid n one choices written (put moved registers) v memory (i.Write at new bytes) to place write
      (rw (at_is, new_is, fine)
      (each (emptied (at ∷ new ∷ []) (put moved registers))
      (holds-memory memory (stored memory address bytes result) (emptied (at ∷ new ∷ []) (put moved registers)) (InRegister kept size' plain' ∷ slots) (result ∷ words) whole
      (holds-kept memory at new kept size' size plain plain' result address registers slots words (pair_free at new slots free not_at.1) free'' holds))))))

  pub updates : (n : ℕ) (running : Running) (scopes : List (List Name)) (tasks : List (TaskIn t)) (slots : List Slot) (point : ℕ) (op : BinaryOp) (place place' : Place) (kind right : Kind) (bytes at from size size' at' old read behind to' new size'' to : ℕ) (plain plain' plain'' : Bool) (calculated : List Block → Word → Word → Option Word) →
      scalar_bytes kind ≡ Some bytes → is_whole slots ≡ true → is_free at slots ≡ true → is_free from (InRegister at size' plain ∷ slots) ≡ true →
      is_free at' (InRegister from size plain' ∷ InRegister at size' plain ∷ slots) ≡ true → One flow point (i.Move at' at) read place' →
      is_free old (InRegister from size plain' ∷ InRegister at size' plain ∷ slots) ≡ true → One flow read (i.Read old at' bytes (is_pointer kind)) behind place →
      Calculates flow (InRegister at size' plain ∷ slots) behind old bytes (not (is_pointer kind)) from size plain' calculated to' new size'' plain'' →
      ((memory : List Block) (word word' : Word) → Suits bytes (not (is_pointer kind)) word → Suits size plain' word' →
      option_map (as_kind memory (kind_after op kind right) kind) (operated memory op kind right word word') ≡ calculated memory word word') →
      is_free new (InRegister at size' plain ∷ slots) ≡ true → One flow to' (i.Write at new bytes) to place →
      ((m : ℕ) → suc m ≡ n → Rest m running scopes tasks (Gone ∷ slots) to) →
      Rest n running scopes (Update op place kind right ∷ tasks) (InRegister from size plain' ∷ InRegister at size' plain ∷ slots) point
  updates n running scopes tasks slots point op place place' kind right bytes at from size size' at' old read behind to' new size'' to plain plain' plain'' calculated is_bytes whole at_free from_free at_free' move old_free read' calculates' same new_free write good [] registers w v memory choices holds alike goes =
      absurd holds.stands
  updates n running scopes tasks slots point op place place' kind right bytes at from size size' at' old read behind to' new size'' to plain plain' plain'' calculated is_bytes whole at_free from_free at_free' move old_free read' calculates' same new_free write good (word ∷ []) registers w v memory choices holds alike goes =
      absurd holds.stands.2
  updates n running scopes tasks slots point op place place' kind right bytes at from size size' at' old read behind to' new size'' to plain plain' plain'' calculated is_bytes whole at_free from_free at_free' move old_free read' calculates' same new_free write good (word ∷ address ∷ operands) registers w v memory choices holds alike goes =
      let old_word : Word = loaded memory address bytes (is_pointer kind) in
      reads_again n _ _ choices point registers v memory at size' address at' read old bytes (is_pointer kind) behind place place'
      (InRegister from size plain' ∷ InRegister at size' plain ∷ slots) (word ∷ address ∷ operands) plain holds.stands.2.0 holds.stands.2.1 at_free' move old_free read' holds
      (update_step op place kind right bytes tasks word address operands w memory choices is_bytes)
      (λ m is registers2 fine after. knowing t flow setting valid m _ (state behind registers2 v memory) choices
      (λ known. calculated_or m (operated memory op kind right old_word word) (kind_after op kind right) kind bytes address (counted false old_word) (source t tasks operands w memory) choices
      _ (calculated memory old_word word)
      (same memory old_word word (suits_of flow behind registers2 v memory old bytes (not (is_pointer kind)) old_word known after.stands.0 after.stands.1)
      (suits_of flow behind registers2 v memory from size plain' word known after.stands.2.0 after.stands.2.1))
      (calculates t flow setting valid m (stored_as bytes address (counted false old_word) (source t tasks operands w memory) choices) choices (InRegister at size' plain ∷ slots) (address ∷ operands) memory v
      calculates' registers2 old_word word
      (exchanged memory registers2 (InRegister old bytes (not (is_pointer kind))) (InRegister from size plain') (InRegister at size' plain ∷ slots) old_word word (address ∷ operands) after)
      (meets_over t flow setting valid m Ended graph.Ended tt tt)
      (λ result registers3 is' holds3.
      writes m _ choices to' registers3 v memory at size' plain address new size'' plain'' result bytes to place slots operands whole at_free new_free write fine holds3
      (λ registers4 holds4. good m is (result ∷ operands) registers4 w v (stored memory address bytes result) choices
      (holds-gone (stored memory address bytes result) registers4 slots result operands holds4) alike (goes_before t flow setting valid n m running w v is goes))))))

  pub updates_kept : (n : ℕ) (running : Running) (scopes : List (List Name)) (tasks : List (TaskIn t)) (slots : List Slot) (point : ℕ) (op : BinaryOp) (place place' place'' : Place) (kind right : Kind) (bytes at from size size' at' old read behind to' new size'' kept written to : ℕ) (plain plain' plain'' : Bool) (calculated : List Block → Word → Word → Option Word) →
      scalar_bytes kind ≡ Some bytes → is_whole slots ≡ true → is_free at slots ≡ true → is_free from (InRegister at size' plain ∷ slots) ≡ true →
      is_free at' (InRegister from size plain' ∷ InRegister at size' plain ∷ slots) ≡ true → One flow point (i.Move at' at) read place' →
      is_free old (InRegister from size plain' ∷ InRegister at size' plain ∷ slots) ≡ true → One flow read (i.Read old at' bytes (is_pointer kind)) behind place →
      Calculates flow (InRegister at size' plain ∷ slots) behind old bytes (not (is_pointer kind)) from size plain' calculated to' new size'' plain'' →
      ((memory : List Block) (word word' : Word) → Suits bytes (not (is_pointer kind)) word → Suits size plain' word' →
      option_map (as_kind memory (kind_after op kind right) kind) (operated memory op kind right word word') ≡ calculated memory word word') →
      is_free new (InRegister at size' plain ∷ slots) ≡ true → is_free kept (InRegister new size'' plain'' ∷ InRegister at size' plain ∷ slots) ≡ true →
      One flow to' (i.Move kept new) written place'' → One flow written (i.Write at new bytes) to place →
      ((m : ℕ) → suc m ≡ n → Rest m running scopes tasks (InRegister kept size'' plain'' ∷ slots) to) →
      Rest n running scopes (Update op place kind right ∷ tasks) (InRegister from size plain' ∷ InRegister at size' plain ∷ slots) point
  updates_kept n running scopes tasks slots point op place place' place'' kind right bytes at from size size' at' old read behind to' new size'' kept written to plain plain' plain'' calculated is_bytes whole at_free from_free at_free' move old_free read' calculates' same new_free kept_free move' write good [] registers w v memory choices holds alike goes =
      absurd holds.stands
  updates_kept n running scopes tasks slots point op place place' place'' kind right bytes at from size size' at' old read behind to' new size'' kept written to plain plain' plain'' calculated is_bytes whole at_free from_free at_free' move old_free read' calculates' same new_free kept_free move' write good (word ∷ []) registers w v memory choices holds alike goes =
      absurd holds.stands.2
  updates_kept n running scopes tasks slots point op place place' place'' kind right bytes at from size size' at' old read behind to' new size'' kept written to plain plain' plain'' calculated is_bytes whole at_free from_free at_free' move old_free read' calculates' same new_free kept_free move' write good (word ∷ address ∷ operands) registers w v memory choices holds alike goes =
      let old_word : Word = loaded memory address bytes (is_pointer kind) in
      reads_again n _ _ choices point registers v memory at size' address at' read old bytes (is_pointer kind) behind place place'
      (InRegister from size plain' ∷ InRegister at size' plain ∷ slots) (word ∷ address ∷ operands) plain holds.stands.2.0 holds.stands.2.1 at_free' move old_free read' holds
      (update_step op place kind right bytes tasks word address operands w memory choices is_bytes)
      (λ m is registers2 fine after. knowing t flow setting valid m _ (state behind registers2 v memory) choices
      (λ known. calculated_or m (operated memory op kind right old_word word) (kind_after op kind right) kind bytes address (counted false old_word) (source t tasks operands w memory) choices
      _ (calculated memory old_word word)
      (same memory old_word word (suits_of flow behind registers2 v memory old bytes (not (is_pointer kind)) old_word known after.stands.0 after.stands.1)
      (suits_of flow behind registers2 v memory from size plain' word known after.stands.2.0 after.stands.2.1))
      (calculates t flow setting valid m (stored_as bytes address (counted false old_word) (source t tasks operands w memory) choices) choices (InRegister at size' plain ∷ slots) (address ∷ operands) memory v
      calculates' registers2 old_word word
      (exchanged memory registers2 (InRegister old bytes (not (is_pointer kind))) (InRegister from size plain') (InRegister at size' plain ∷ slots) old_word word (address ∷ operands) after)
      (meets_over t flow setting valid m Ended graph.Ended tt tt)
      (λ result registers3 is' holds3.
      writes_kept m _ choices to' registers3 v memory at size' plain address new size'' plain'' result bytes kept written to place place'' slots operands
      whole at_free new_free kept_free move' write fine holds3
      (λ registers4 holds4. good m is (result ∷ operands) registers4 w v (stored memory address bytes result) choices holds4 alike (goes_before t flow setting valid n m running w v is goes))))))

  pub counts : (n : ℕ) (running : Running) (scopes : List (List Name)) (tasks : List (TaskIn t)) (slots : List Slot) (point : ℕ) (up after : Bool) (place place' : Place) (kind : Kind) (bytes at size at' old read behind to' new size'' to : ℕ) (plain plain'' : Bool) (calculated : List Block → Word → Option Word) →
      scalar_bytes kind ≡ Some bytes → is_whole slots ≡ true → is_free at slots ≡ true → is_free at' (InRegister at size plain ∷ slots) ≡ true →
      One flow point (i.Move at' at) read place' → is_free old (InRegister at size plain ∷ slots) ≡ true →
      One flow read (i.Read old at' bytes (is_pointer kind)) behind place →
      CalculatesWith flow (InRegister at size plain ∷ slots) behind old bytes (not (is_pointer kind)) calculated to' new size'' plain'' →
      ((memory : List Block) (word : Word) → Suits bytes (not (is_pointer kind)) word →
      option_map (as_kind memory (kind_after (counting up) kind (Integer int)) kind) (operated memory (counting up) kind (Integer int) word (Plain 1)) ≡ calculated memory word) →
      is_free new (InRegister at size plain ∷ slots) ≡ true → One flow to' (i.Write at new bytes) to place →
      ((m : ℕ) → suc m ≡ n → Rest m running scopes tasks (Gone ∷ slots) to) →
      Rest n running scopes (CountBy up after place kind ∷ tasks) (InRegister at size plain ∷ slots) point
  counts n running scopes tasks slots point up after place place' kind bytes at size at' old read behind to' new size'' to plain plain'' calculated is_bytes whole at_free at_free' move old_free read' calculates' same new_free write good [] registers w v memory choices holds alike goes =
      absurd holds.stands
  counts n running scopes tasks slots point up after place place' kind bytes at size at' old read behind to' new size'' to plain plain'' calculated is_bytes whole at_free at_free' move old_free read' calculates' same new_free write good (address ∷ operands) registers w v memory choices holds alike goes =
      let old_word : Word = loaded memory address bytes (is_pointer kind) in
      reads_again n _ _ choices point registers v memory at size address at' read old bytes (is_pointer kind) behind place place'
      (InRegister at size plain ∷ slots) (address ∷ operands) plain holds.stands.0 holds.stands.1 at_free' move old_free read' holds
      (count_step up after place kind bytes tasks address operands w memory choices is_bytes)
      (λ m is registers2 fine behind'. knowing t flow setting valid m _ (state behind registers2 v memory) choices
      (λ known. calculated_or m (operated memory (counting up) kind (Integer int) old_word (Plain 1)) (kind_after (counting up) kind (Integer int)) kind bytes address (counted after old_word)
      (source t tasks operands w memory) choices _ (calculated memory old_word)
      (same memory old_word (suits_of flow behind registers2 v memory old bytes (not (is_pointer kind)) old_word known behind'.stands.0 behind'.stands.1))
      (calculates_with t flow setting valid m (stored_as bytes address (counted after old_word) (source t tasks operands w memory) choices) choices (InRegister at size plain ∷ slots) (address ∷ operands) memory v
      calculates' registers2 old_word behind' (meets_over t flow setting valid m Ended graph.Ended tt tt)
      (λ result registers3 is' holds3.
      writes m _ choices to' registers3 v memory at size plain address new size'' plain'' result bytes to place slots operands whole at_free new_free write fine holds3
      (λ registers4 holds4. good m is (counted after old_word result ∷ operands) registers4 w v (stored memory address bytes result) choices
      (holds-gone (stored memory address bytes result) registers4 slots (counted after old_word result) operands holds4) alike (goes_before t flow setting valid n m running w v is goes))))))

  pub counts_new : (n : ℕ) (running : Running) (scopes : List (List Name)) (tasks : List (TaskIn t)) (slots : List Slot) (point : ℕ) (up : Bool) (place place' place'' : Place) (kind : Kind) (bytes at size at' old read behind to' new size'' kept written to : ℕ) (plain plain'' : Bool) (calculated : List Block → Word → Option Word) →
      scalar_bytes kind ≡ Some bytes → is_whole slots ≡ true → is_free at slots ≡ true → is_free at' (InRegister at size plain ∷ slots) ≡ true →
      One flow point (i.Move at' at) read place' → is_free old (InRegister at size plain ∷ slots) ≡ true →
      One flow read (i.Read old at' bytes (is_pointer kind)) behind place →
      CalculatesWith flow (InRegister at size plain ∷ slots) behind old bytes (not (is_pointer kind)) calculated to' new size'' plain'' →
      ((memory : List Block) (word : Word) → Suits bytes (not (is_pointer kind)) word →
      option_map (as_kind memory (kind_after (counting up) kind (Integer int)) kind) (operated memory (counting up) kind (Integer int) word (Plain 1)) ≡ calculated memory word) →
      is_free new (InRegister at size plain ∷ slots) ≡ true → is_free kept (InRegister new size'' plain'' ∷ InRegister at size plain ∷ slots) ≡ true →
      One flow to' (i.Move kept new) written place'' → One flow written (i.Write at new bytes) to place →
      ((m : ℕ) → suc m ≡ n → Rest m running scopes tasks (InRegister kept size'' plain'' ∷ slots) to) →
      Rest n running scopes (CountBy up false place kind ∷ tasks) (InRegister at size plain ∷ slots) point
  counts_new n running scopes tasks slots point up place place' place'' kind bytes at size at' old read behind to' new size'' kept written to plain plain'' calculated is_bytes whole at_free at_free' move old_free read' calculates' same new_free kept_free move' write good [] registers w v memory choices holds alike goes =
      absurd holds.stands
  counts_new n running scopes tasks slots point up place place' place'' kind bytes at size at' old read behind to' new size'' kept written to plain plain'' calculated is_bytes whole at_free at_free' move old_free read' calculates' same new_free kept_free move' write good (address ∷ operands) registers w v memory choices holds alike goes =
      let old_word : Word = loaded memory address bytes (is_pointer kind) in
      reads_again n _ _ choices point registers v memory at size address at' read old bytes (is_pointer kind) behind place place'
      (InRegister at size plain ∷ slots) (address ∷ operands) plain holds.stands.0 holds.stands.1 at_free' move old_free read' holds
      (count_step up false place kind bytes tasks address operands w memory choices is_bytes)
      (λ m is registers2 fine behind'. knowing t flow setting valid m _ (state behind registers2 v memory) choices
      (λ known. calculated_or m (operated memory (counting up) kind (Integer int) old_word (Plain 1)) (kind_after (counting up) kind (Integer int)) kind bytes address (counted false old_word)
      (source t tasks operands w memory) choices _ (calculated memory old_word)
      (same memory old_word (suits_of flow behind registers2 v memory old bytes (not (is_pointer kind)) old_word known behind'.stands.0 behind'.stands.1))
      (calculates_with t flow setting valid m (stored_as bytes address (counted false old_word) (source t tasks operands w memory) choices) choices (InRegister at size plain ∷ slots) (address ∷ operands) memory v
      calculates' registers2 old_word behind' (meets_over t flow setting valid m Ended graph.Ended tt tt)
      (λ result registers3 is' holds3.
      writes_kept m _ choices to' registers3 v memory at size plain address new size'' plain'' result bytes kept written to place place'' slots operands
      whole at_free new_free kept_free move' write fine holds3
      (λ registers4 holds4. good m is (result ∷ operands) registers4 w v (stored memory address bytes result) choices holds4 alike (goes_before t flow setting valid n m running w v is goes))))))

  pub counts_old : (n : ℕ) (running : Running) (scopes : List (List Name)) (tasks : List (TaskIn t)) (slots : List Slot) (point : ℕ) (up : Bool) (place place' place'' : Place) (kind : Kind) (bytes at size at' old read behind to' new size'' kept moved to : ℕ) (plain plain'' : Bool) (calculated : List Block → Word → Option Word) →
      scalar_bytes kind ≡ Some bytes → is_whole slots ≡ true → is_free at slots ≡ true → is_free at' (InRegister at size plain ∷ slots) ≡ true →
      One flow point (i.Move at' at) read place' → is_free old (InRegister at size plain ∷ slots) ≡ true →
      One flow read (i.Read old at' bytes (is_pointer kind)) behind place →
      is_free kept (InRegister old bytes (not (is_pointer kind)) ∷ InRegister at size plain ∷ slots) ≡ true → One flow behind (i.Move kept old) moved place'' →
      CalculatesWith flow (InRegister at size plain ∷ InRegister kept bytes (not (is_pointer kind)) ∷ slots) moved old bytes (not (is_pointer kind)) calculated to' new size'' plain'' →
      ((memory : List Block) (word : Word) → Suits bytes (not (is_pointer kind)) word →
      option_map (as_kind memory (kind_after (counting up) kind (Integer int)) kind) (operated memory (counting up) kind (Integer int) word (Plain 1)) ≡ calculated memory word) →
      is_free new (InRegister at size plain ∷ InRegister kept bytes (not (is_pointer kind)) ∷ slots) ≡ true → One flow to' (i.Write at new bytes) to place →
      ((m : ℕ) → suc m ≡ n → Rest m running scopes tasks (InRegister kept bytes (not (is_pointer kind)) ∷ slots) to) →
      Rest n running scopes (CountBy up true place kind ∷ tasks) (InRegister at size plain ∷ slots) point
  counts_old n running scopes tasks slots point up place place' place'' kind bytes at size at' old read behind to' new size'' kept moved to plain plain'' calculated is_bytes whole at_free at_free' move old_free read' kept_free move' calculates' same new_free write good [] registers w v memory choices holds alike goes =
      absurd holds.stands
  counts_old n running scopes tasks slots point up place place' place'' kind bytes at size at' old read behind to' new size'' kept moved to plain plain'' calculated is_bytes whole at_free at_free' move old_free read' kept_free move' calculates' same new_free write good (address ∷ operands) registers w v memory choices holds alike goes =
      let old_word : Word = loaded memory address bytes (is_pointer kind) in
      let kept_parts = free_first kept old bytes (not (is_pointer kind)) (InRegister at size plain ∷ slots) kept_free in
      reads_again n _ _ choices point registers v memory at size address at' read old bytes (is_pointer kind) behind place place'
      (InRegister at size plain ∷ slots) (address ∷ operands) plain holds.stands.0 holds.stands.1 at_free' move old_free read' holds
      (count_step up true place kind bytes tasks address operands w memory choices is_bytes)
      (λ m is registers2 fine behind'. knowing t flow setting valid m _ (state behind registers2 v memory) choices
      (λ known. calculated_or m (operated memory (counting up) kind (Integer int) old_word (Plain 1)) (kind_after (counting up) kind (Integer int)) kind bytes address (counted true old_word)
      (source t tasks operands w memory) choices _ (calculated memory old_word)
      (same memory old_word (suits_of flow behind registers2 v memory old bytes (not (is_pointer kind)) old_word known behind'.stands.0 behind'.stands.1))
      (graph_along t flow setting valid m _ choices behind registers2 v memory (i.Move kept old) moved place'' move'
      (rw behind'.stands.0
      (calculates_with t flow setting valid m (stored_as bytes address (counted true old_word) (source t tasks operands w memory) choices) choices
      (InRegister at size plain ∷ InRegister kept bytes (not (is_pointer kind)) ∷ slots) (address ∷ old_word ∷ operands) memory v calculates'
      (put (record { register = kept; size = bytes; word = old_word }) registers2) old_word
      (put_below memory kept bytes (not (is_pointer kind)) old_word registers2 (InRegister old bytes (not (is_pointer kind))) (InRegister at size plain) slots old_word address operands kept_free behind'.stands.1 behind')
      (meets_over t flow setting valid m Ended graph.Ended tt tt)
      (λ result registers4 is' holds4.
      writes m _ choices to' registers4 v memory at size plain address new size'' plain'' result bytes to place (InRegister kept bytes (not (is_pointer kind)) ∷ slots) (old_word ∷ operands)
      whole (other_way kept at size bytes plain (not (is_pointer kind)) slots kept_parts.1 at_free) new_free write fine holds4
      (λ registers5 holds5. good m is (old_word ∷ operands) registers5 w v (stored memory address bytes result) choices holds5 alike (goes_before t flow setting valid n m running w v is goes))))))))
