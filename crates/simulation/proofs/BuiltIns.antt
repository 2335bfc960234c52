-- Functions that are built in.
use Rattle.std.proofs.Common.{◌≡◌, ℕ, suc, ◌*◌, ◌%◌, ◌^◌, List, [], ◌∷◌, length, Bool, true, false, not, ◌&&◌, ◌||◌, refl, sym, ◌∙◌, nat_eq, nat_lt, if◌then◌else◌, pos}
use Rattle.std.specs.List.{list_all}
use Rattle.cbase.specs.declared.place.Place.{Place}
use Rattle.bytes_core.specs.declared.block.Block.{Block}
use Rattle.bytes_core.specs.declared.block.BlockKind.TheVariants as storage
use Rattle.bytes_core.specs.declared.word.Word.{Word}
use Rattle.bytes_core.specs.declared.word.Word.TheVariants.{Plain, To}
use Rattle.bytes_core.specs.Access.{range_fault, filled}
use Rattle.bytes_core.specs.Copying.{copy_fault, copied}
use Rattle.bytes_core.specs.Placement.{new_block, is_new_block, placed}
use Rattle.bytes_core.specs.Release.{free_fault, freed}
use Rattle.bytes_core.specs.Value.{address_number}
use Rattle.choices.specs.declared.choice.Choice.{Choice}
use Rattle.choices.specs.declared.choice.Choice.TheVariants as choice
use Rattle.c_machine.specs.declared.built_in.BuiltIn.TheVariants.{Malloc, Calloc, Free, Memset, EndsRun, Assume, Expect, GivesInput}
use Rattle.c_machine.specs.declared.kind.Kind.{Kind}
use Rattle.c_machine.specs.declared.task.Task.TheVariants.{RunBuiltIn, EndRun, Unknown}
use Rattle.c_machine.specs.Text.{Text}
use Rattle.c_machine.specs.State.{TaskIn, StateIn, OutcomeIn, Went, Waits, Ended, Stuck, with_operand}
use Rattle.c_machine.specs.Choosing.{allocated, received, count_of}
use Rattle.c_machine.specs.Step.{step, assumed, copy_step}
use Rattle.flow.specs.declared.instruction.Instr.TheVariants as i
use Rattle.flow.specs.declared.flow_graph.Flow.{Flow}
use Rattle.flow.specs.Holding.{Held, put, emptied}
use Rattle.flow.specs.Machine as graph
use Rattle.flow.specs.Valid.{IsFlow}
use Rattle.simulation.specs.Edges.{One, Two, NoEdge}
use Rattle.simulation.specs.Lowered.{copying}
use Rattle.simulation.specs.Names.{Name}
use Rattle.simulation.specs.Running.{Setting, Running}
use Rattle.simulation.specs.Slots.{Slot, InRegister, KnownAs, Truth, Gone, is_free, is_whole, are_free, is_in, Holds}
use Rattle.simulation.specs.Worlds.{World, Side, source, state}
use Rattle.simulation.proofs.Holding.{holds-put, holds-popped, holds-both_popped, holds-memory, holds-gone, first_of, second_of, none_of, holds-known, holds-dropped, holds-kept_address}
use Rattle.simulation.proofs.Meeting.{Meets, Good, source_alone, meets_over, both_along, both_two, graph_along, graph_ends, fault_or, unbarred, placed_or, goes_before}
use Rattle.simulation.proofs.Registers.{held-put_same, held-put_other, free_first}
use Rattle.simulation.proofs.Turning.{pair_free}

module _ (t : Text) (flow : Flow) (setting : Setting) (valid : IsFlow flow) where
  abbrev Rest : ℕ → Running → List (List Name) → List (TaskIn t) → List Slot → ℕ → Type 0
  Rest n running scopes tasks slots point = Good t flow setting valid n running scopes tasks slots point

  placed_else : (n : ℕ) (test : Bool) (one : OutcomeIn t) (next : graph.State) (choices : List Choice) (later : graph.Outcome) → Meets t flow setting valid n one (graph.Went next choices) →
      Meets t flow setting valid n (if test then one else Ended) (graph.unless_barred (if test then graph.Went next choices else graph.Ended) later)
  placed_else n true one next choices later meets = meets
  placed_else n false one next choices later meets = meets_over t flow setting valid n Ended graph.Ended tt tt

  -- an allocation gives a block or null
  allocates : (n bytes into to to' : ℕ) (zeroed : Bool) (tasks : List (TaskIn t)) (operands : List Word) (point : ℕ) (registers : List Held) (w : World t) (v : Side) (memory : List Block) (choices : List Choice) →
      ((word : Word) (memory' : List Block) (choices' : List Choice) → Meets t flow setting valid n (Went (source t tasks (word ∷ operands) w memory') choices')
      (graph.Went (state to (put (record { register = into; size = 8; word = word }) registers) v memory') choices')) →
      ((word : Word) (memory' : List Block) (choices' : List Choice) → Meets t flow setting valid n (Went (source t tasks (word ∷ operands) w memory') choices')
      (graph.Went (state to' (put (record { register = into; size = 8; word = word }) registers) v memory') choices')) →
      Meets t flow setting valid n (allocated bytes zeroed (source t tasks operands w memory) choices)
      (graph.unless_barred (graph.allocated into bytes zeroed (graph.at to (state point registers v memory)) choices)
      (graph.unless_barred (graph.allocated_none into (graph.at to' (state point registers v memory)) choices) graph.Ended))
  allocates n bytes into to to' zeroed tasks operands point registers w v memory [] each each' = meets_over t flow setting valid n Waits graph.Waits tt tt
  allocates n bytes into to to' zeroed tasks operands point registers w v memory (choice.None ∷ choices) each each' = each' (Plain 0) memory choices
  allocates n bytes into to to' zeroed tasks operands point registers w v memory (choice.Input number ∷ choices) each each' = meets_over t flow setting valid n Ended graph.Ended tt tt
  allocates n bytes into to to' zeroed tasks operands point registers w v memory (choice.Block base contents ∷ choices) each each' =
      placed_else n (is_new_block memory storage.Heap bytes base contents && (not zeroed || list_all (nat_eq 0) contents)) _ _ choices _
      (each (To (length memory) (pos 0)) (placed memory (new_block storage.Heap base contents)) choices)

  -- the step of a copy is that of its function
  copy_stepped : (disjoint : Bool) (place : Place) (result : Kind) (tasks : List (TaskIn t)) (count from to : Word) (operands : List Word) (w : World t) (memory : List Block) (choices : List Choice) →
      step t (source t (RunBuiltIn (copying disjoint) place result ∷ tasks) (count ∷ from ∷ to ∷ operands) w memory) choices
      ≡ copy_step disjoint place (source t tasks (count ∷ from ∷ to ∷ operands) w memory) choices
  copy_stepped true place result tasks count from to operands w memory choices = refl
  copy_stepped false place result tasks count from to operands w memory choices = refl

  assumes_or : (n : ℕ) (same : Bool) (after : StateIn t) (choices : List Choice) (next : graph.State) (choices' : List Choice) →
      Meets t flow setting valid n (Went (with_operand (Plain 0) after) choices) (graph.Went next choices') →
      Meets t flow setting valid n (assumed (not same) after choices) (graph.unless_barred (if same then graph.Barred else graph.Went next choices') graph.Ended)
  assumes_or n true after choices next choices' meets = meets_over t flow setting valid n Ended graph.Ended tt tt
  assumes_or n false after choices next choices' meets = meets

  -- an input
  pub receives : (n : ℕ) (kind : Kind) (into size : ℕ) (truth : Bool) → count_of kind ≡ (if truth then 2 else 256 ^ size) →
      (tasks : List (TaskIn t)) (operands : List Word) (point : ℕ) (registers : List Held) (w : World t) (v : Side) (memory : List Block) (choices : List Choice) →
      ((number : ℕ) (choices' : List Choice) → Meets t flow setting valid n (Went (source t tasks (Plain number ∷ operands) w memory) choices')
      (graph.Went (state point (put (record { register = into; size = size; word = Plain number }) registers) v memory) choices')) →
      Meets t flow setting valid n (received kind (source t tasks operands w memory) choices) (graph.received into size truth (state point registers v memory) choices)
  receives n kind into size truth counted' tasks operands point registers w v memory [] each = meets_over t flow setting valid n Waits graph.Waits tt tt
  receives n kind into size truth counted' tasks operands point registers w v memory (choice.None ∷ choices) each = meets_over t flow setting valid n Ended graph.Ended tt tt
  receives n kind into size truth counted' tasks operands point registers w v memory (choice.Block base contents ∷ choices) each = meets_over t flow setting valid n Ended graph.Ended tt tt
  receives n kind into size truth counted' tasks operands point registers w v memory (choice.Input number ∷ choices) each =
      rw counted' (placed_or t flow setting valid n (nat_lt number (if truth then 2 else 256 ^ size)) _ _ (each number choices))

  pub mallocs : (n : ℕ) (running : Running) (scopes : List (List Name)) (tasks : List (TaskIn t)) (slots : List Slot) (point : ℕ) (place place' place'' : Place) (result : Kind) (bytes into to to' : ℕ) →
      is_whole slots ≡ true → is_free into slots ≡ true → Two flow point (i.Allocate into bytes false) to place' (i.AllocateNone into) to' place'' →
      ((m : ℕ) → suc m ≡ n → Rest m running scopes tasks (InRegister into 8 false ∷ slots) to) →
      ((m : ℕ) → suc m ≡ n → Rest m running scopes tasks (InRegister into 8 false ∷ slots) to') →
      Rest n running scopes (RunBuiltIn Malloc place result ∷ tasks) (KnownAs bytes ∷ slots) point
  mallocs n running scopes tasks slots point place place' place'' result bytes into to to' whole free edges good good' [] registers w v memory choices holds alike goes =
      absurd holds.stands
  mallocs n running scopes tasks slots point place place' place'' result bytes into to to' whole free edges good good' (word ∷ operands) registers w v memory choices holds alike goes =
      let before : Holds memory registers slots operands = holds-dropped memory registers (KnownAs bytes) slots word operands refl holds in
      both_two t flow setting valid n _ choices point registers v memory (i.Allocate into bytes false) to place' (i.AllocateNone into) to' place'' edges
      (λ m is. rw (holds.stands.0)
      (allocates m bytes into to to' false tasks operands point registers w v memory choices
      (λ given memory' choices'. good m is (given ∷ operands) (put (record { register = into; size = 8; word = given }) registers) w v memory' choices'
      (holds-put memory' into 8 given false registers slots operands free tt (holds-memory memory memory' registers slots operands whole before)) alike (goes_before t flow setting valid n m running w v is goes))
      (λ given memory' choices'. good' m is (given ∷ operands) (put (record { register = into; size = 8; word = given }) registers) w v memory' choices'
      (holds-put memory' into 8 given false registers slots operands free tt (holds-memory memory memory' registers slots operands whole before)) alike (goes_before t flow setting valid n m running w v is goes))))

  pub callocs : (n : ℕ) (running : Running) (scopes : List (List Name)) (tasks : List (TaskIn t)) (slots : List Slot) (point : ℕ) (place place' place'' : Place) (result : Kind) (size count bytes into to to' : ℕ) →
      count * size ≡ bytes → is_whole slots ≡ true → is_free into slots ≡ true → Two flow point (i.Allocate into bytes true) to place' (i.AllocateNone into) to' place'' →
      ((m : ℕ) → suc m ≡ n → Rest m running scopes tasks (InRegister into 8 false ∷ slots) to) →
      ((m : ℕ) → suc m ≡ n → Rest m running scopes tasks (InRegister into 8 false ∷ slots) to') →
      Rest n running scopes (RunBuiltIn Calloc place result ∷ tasks) (KnownAs size ∷ KnownAs count ∷ slots) point
  callocs n running scopes tasks slots point place place' place'' result size count bytes into to to' product whole free edges good good' [] registers w v memory choices holds alike goes =
      absurd holds.stands
  callocs n running scopes tasks slots point place place' place'' result size count bytes into to to' product whole free edges good good' (word ∷ []) registers w v memory choices holds alike goes =
      absurd holds.stands.1
  callocs n running scopes tasks slots point place place' place'' result size count bytes into to to' product whole free edges good good' (word ∷ word' ∷ operands) registers w v memory choices holds alike goes =
      let before : Holds memory registers slots operands = holds-dropped memory registers (KnownAs count) slots word' operands refl (holds-dropped memory registers (KnownAs size) (KnownAs count ∷ slots) word (word' ∷ operands) refl holds) in
      both_two t flow setting valid n _ choices point registers v memory (i.Allocate into bytes true) to place' (i.AllocateNone into) to' place'' edges
      (λ m is. rw (holds.stands.0, holds.stands.1.0, product)
      (allocates m bytes into to to' true tasks operands point registers w v memory choices
      (λ given memory' choices'. good m is (given ∷ operands) (put (record { register = into; size = 8; word = given }) registers) w v memory' choices'
      (holds-put memory' into 8 given false registers slots operands free tt (holds-memory memory memory' registers slots operands whole before)) alike (goes_before t flow setting valid n m running w v is goes))
      (λ given memory' choices'. good' m is (given ∷ operands) (put (record { register = into; size = 8; word = given }) registers) w v memory' choices'
      (holds-put memory' into 8 given false registers slots operands free tt (holds-memory memory memory' registers slots operands whole before)) alike (goes_before t flow setting valid n m running w v is goes))))

  pub frees : (n : ℕ) (running : Running) (scopes : List (List Name)) (tasks : List (TaskIn t)) (slots : List Slot) (point : ℕ) (place : Place) (result : Kind) (at size to : ℕ) (plain : Bool) →
      is_whole slots ≡ true → is_free at slots ≡ true → One flow point (i.Release at) to place →
      ((m : ℕ) → suc m ≡ n → Rest m running scopes tasks (KnownAs 0 ∷ slots) to) →
      Rest n running scopes (RunBuiltIn Free place result ∷ tasks) (InRegister at size plain ∷ slots) point
  frees n running scopes tasks slots point place result at size to plain whole free edge good [] registers w v memory choices holds alike goes = absurd holds.stands
  frees n running scopes tasks slots point place result at size to plain whole free edge good (word ∷ operands) registers w v memory choices holds alike goes =
      both_along t flow setting valid n _ choices point registers v memory (i.Release at) to place edge
      (λ m is. rw holds.stands.0
      (fault_or t flow setting valid m (free_fault memory word) place _ _ choices
      (good m is (Plain 0 ∷ operands) (emptied (at ∷ []) registers) w v (freed memory word) choices
      (holds-known (freed memory word) (emptied (at ∷ []) registers) slots 0 operands
      (holds-memory memory (freed memory word) (emptied (at ∷ []) registers) slots operands whole
      (holds-popped memory (at ∷ []) registers (InRegister at size plain) slots word operands (none_of at slots free) (first_of at []) holds))) alike (goes_before t flow setting valid n m running w v is goes))))

  pub fills : (n : ℕ) (running : Running) (scopes : List (List Name)) (tasks : List (TaskIn t)) (slots : List Slot) (point : ℕ) (place : Place) (result : Kind) (length' from size' at size to : ℕ) (plain' plain : Bool) →
      is_whole slots ≡ true → are_free (at ∷ from ∷ []) slots ≡ true → One flow point (i.Fill at from length') to place →
      ((m : ℕ) → suc m ≡ n → Rest m running scopes tasks (Gone ∷ slots) to) →
      Rest n running scopes (RunBuiltIn Memset place result ∷ tasks) (KnownAs length' ∷ InRegister from size' plain' ∷ InRegister at size plain ∷ slots) point
  fills n running scopes tasks slots point place result length' from size' at size to plain' plain whole free edge good [] registers w v memory choices holds alike goes =
      absurd holds.stands
  fills n running scopes tasks slots point place result length' from size' at size to plain' plain whole free edge good (count ∷ []) registers w v memory choices holds alike goes =
      absurd holds.stands.1
  fills n running scopes tasks slots point place result length' from size' at size to plain' plain whole free edge good (count ∷ byte ∷ []) registers w v memory choices holds alike goes =
      absurd holds.stands.1.2
  fills n running scopes tasks slots point place result length' from size' at size to plain' plain whole free edge good (count ∷ byte ∷ address ∷ operands) registers w v memory choices holds alike goes =
      both_along t flow setting valid n _ choices point registers v memory (i.Fill at from length') to place edge
      (λ m is. rw (holds.stands.0, holds.stands.1.2.0, holds.stands.1.0)
      (fault_or t flow setting valid m (range_fault memory address length') place _ _ choices
      (good m is (address ∷ operands) (emptied (at ∷ from ∷ []) registers) w v (filled memory address (address_number memory byte % 256) length') choices
      (holds-gone (filled memory address (address_number memory byte % 256) length') (emptied (at ∷ from ∷ []) registers) slots address operands
      (holds-memory memory (filled memory address (address_number memory byte % 256) length') (emptied (at ∷ from ∷ []) registers) slots operands whole
      (holds-both_popped memory (at ∷ from ∷ []) registers (InRegister from size' plain') (InRegister at size plain) slots byte address operands free
      (second_of from at []) (first_of at (from ∷ [])) (holds-dropped memory registers (KnownAs length') (InRegister from size' plain' ∷ InRegister at size plain ∷ slots) count (byte ∷ address ∷ operands) refl holds)))) alike (goes_before t flow setting valid n m running w v is goes))))

  pub fills_kept : (n : ℕ) (running : Running) (scopes : List (List Name)) (tasks : List (TaskIn t)) (slots : List Slot) (point : ℕ) (place place' : Place) (result : Kind) (length' from size' at size kept middle to : ℕ) (plain' plain : Bool) →
      is_whole slots ≡ true → are_free (at ∷ from ∷ []) slots ≡ true → is_free kept (InRegister from size' plain' ∷ InRegister at size plain ∷ slots) ≡ true →
      One flow point (i.Move kept at) middle place' → One flow middle (i.Fill at from length') to place →
      ((m : ℕ) → suc m ≡ n → Rest m running scopes tasks (InRegister kept size plain ∷ slots) to) →
      Rest n running scopes (RunBuiltIn Memset place result ∷ tasks) (KnownAs length' ∷ InRegister from size' plain' ∷ InRegister at size plain ∷ slots) point
  fills_kept n running scopes tasks slots point place place' result length' from size' at size kept middle to plain' plain whole free free' move edge good [] registers w v memory choices holds alike goes =
      absurd holds.stands
  fills_kept n running scopes tasks slots point place place' result length' from size' at size kept middle to plain' plain whole free free' move edge good (count ∷ []) registers w v memory choices holds alike goes =
      absurd holds.stands.1
  fills_kept n running scopes tasks slots point place place' result length' from size' at size kept middle to plain' plain whole free free' move edge good (count ∷ byte ∷ []) registers w v memory choices holds alike goes =
      absurd holds.stands.1.2
  fills_kept n running scopes tasks slots point place place' result length' from size' at size kept middle to plain' plain whole free free' move edge good (count ∷ byte ∷ address ∷ operands) registers w v memory choices holds alike goes =
      let new : Held = record { register = kept; size = size; word = address } in
      let before : Holds memory registers (InRegister from size' plain' ∷ InRegister at size plain ∷ slots) (byte ∷ address ∷ operands) =
      holds-dropped memory registers (KnownAs length') (InRegister from size' plain' ∷ InRegister at size plain ∷ slots) count (byte ∷ address ∷ operands) refl holds in
      let not_from = free_first kept from size' plain' (InRegister at size plain ∷ slots) free' in
      let not_at = free_first kept at size plain slots not_from.1 in
      let at_is = held-put_other new registers at (λ same. not_at.0 (sym same)) ∙ before.stands.2.0 in
      let from_is = held-put_other new registers from (λ same. not_from.0 (sym same)) ∙ before.stands.0 in
      graph_along t flow setting valid n _ choices point registers v memory (i.Move kept at) middle place' move
      (rw before.stands.2.0
      (both_along t flow setting valid n _ choices middle (put new registers) v memory (i.Fill at from length') to place edge
      (λ m is. rw (holds.stands.0, at_is, from_is)
      (fault_or t flow setting valid m (range_fault memory address length') place _ _ choices
      (good m is (address ∷ operands) (emptied (at ∷ from ∷ []) (put new registers)) w v (filled memory address (address_number memory byte % 256) length') choices
      (holds-memory memory (filled memory address (address_number memory byte % 256) length') (emptied (at ∷ from ∷ []) (put new registers)) (InRegister kept size plain ∷ slots) (address ∷ operands) whole
      (holds-kept_address memory at from kept size size' plain plain' address byte registers slots operands free free' before)) alike (goes_before t flow setting valid n m running w v is goes))))))

  pub copies : (n : ℕ) (running : Running) (scopes : List (List Name)) (tasks : List (TaskIn t)) (slots : List Slot) (point : ℕ) (disjoint : Bool) (place : Place) (result : Kind) (length' from size' at size to : ℕ) (plain' plain : Bool) →
      is_whole slots ≡ true → are_free (at ∷ from ∷ []) slots ≡ true → One flow point (i.Copy at from length' disjoint) to place →
      ((m : ℕ) → suc m ≡ n → Rest m running scopes tasks (Gone ∷ slots) to) →
      Rest n running scopes (RunBuiltIn (copying disjoint) place result ∷ tasks) (KnownAs length' ∷ InRegister from size' plain' ∷ InRegister at size plain ∷ slots) point
  copies n running scopes tasks slots point disjoint place result length' from size' at size to plain' plain whole free edge good [] registers w v memory choices holds alike goes =
      absurd holds.stands
  copies n running scopes tasks slots point disjoint place result length' from size' at size to plain' plain whole free edge good (count ∷ []) registers w v memory choices holds alike goes =
      absurd holds.stands.1
  copies n running scopes tasks slots point disjoint place result length' from size' at size to plain' plain whole free edge good (count ∷ byte ∷ []) registers w v memory choices holds alike goes =
      absurd holds.stands.1.2
  copies n running scopes tasks slots point disjoint place result length' from size' at size to plain' plain whole free edge good (count ∷ byte ∷ address ∷ operands) registers w v memory choices holds alike goes =
      both_along t flow setting valid n _ choices point registers v memory (i.Copy at from length' disjoint) to place edge
      (λ m is. rw (copy_stepped disjoint place result tasks count byte address operands w memory choices, holds.stands.0, holds.stands.1.2.0, holds.stands.1.0)
      (fault_or t flow setting valid m (copy_fault memory address byte length' disjoint) place _ _ choices
      (good m is (address ∷ operands) (emptied (at ∷ from ∷ []) registers) w v (copied memory address byte length') choices
      (holds-gone (copied memory address byte length') (emptied (at ∷ from ∷ []) registers) slots address operands
      (holds-memory memory (copied memory address byte length') (emptied (at ∷ from ∷ []) registers) slots operands whole
      (holds-both_popped memory (at ∷ from ∷ []) registers (InRegister from size' plain') (InRegister at size plain) slots byte address operands free
      (second_of from at []) (first_of at (from ∷ [])) (holds-dropped memory registers (KnownAs length') (InRegister from size' plain' ∷ InRegister at size plain ∷ slots) count (byte ∷ address ∷ operands) refl holds)))) alike (goes_before t flow setting valid n m running w v is goes))))

  pub copies_kept : (n : ℕ) (running : Running) (scopes : List (List Name)) (tasks : List (TaskIn t)) (slots : List Slot) (point : ℕ) (disjoint : Bool) (place place' : Place) (result : Kind) (length' from size' at size kept middle to : ℕ) (plain' plain : Bool) →
      is_whole slots ≡ true → are_free (at ∷ from ∷ []) slots ≡ true → is_free kept (InRegister from size' plain' ∷ InRegister at size plain ∷ slots) ≡ true →
      One flow point (i.Move kept at) middle place' → One flow middle (i.Copy at from length' disjoint) to place →
      ((m : ℕ) → suc m ≡ n → Rest m running scopes tasks (InRegister kept size plain ∷ slots) to) →
      Rest n running scopes (RunBuiltIn (copying disjoint) place result ∷ tasks) (KnownAs length' ∷ InRegister from size' plain' ∷ InRegister at size plain ∷ slots) point
  copies_kept n running scopes tasks slots point disjoint place place' result length' from size' at size kept middle to plain' plain whole free free' move edge good [] registers w v memory choices holds alike goes =
      absurd holds.stands
  copies_kept n running scopes tasks slots point disjoint place place' result length' from size' at size kept middle to plain' plain whole free free' move edge good (count ∷ []) registers w v memory choices holds alike goes =
      absurd holds.stands.1
  copies_kept n running scopes tasks slots point disjoint place place' result length' from size' at size kept middle to plain' plain whole free free' move edge good (count ∷ byte ∷ []) registers w v memory choices holds alike goes =
      absurd holds.stands.1.2
  copies_kept n running scopes tasks slots point disjoint place place' result length' from size' at size kept middle to plain' plain whole free free' move edge good (count ∷ byte ∷ address ∷ operands) registers w v memory choices holds alike goes =
      let new : Held = record { register = kept; size = size; word = address } in
      let before : Holds memory registers (InRegister from size' plain' ∷ InRegister at size plain ∷ slots) (byte ∷ address ∷ operands) =
      holds-dropped memory registers (KnownAs length') (InRegister from size' plain' ∷ InRegister at size plain ∷ slots) count (byte ∷ address ∷ operands) refl holds in
      let not_from = free_first kept from size' plain' (InRegister at size plain ∷ slots) free' in
      let not_at = free_first kept at size plain slots not_from.1 in
      let at_is = held-put_other new registers at (λ same. not_at.0 (sym same)) ∙ before.stands.2.0 in
      let from_is = held-put_other new registers from (λ same. not_from.0 (sym same)) ∙ before.stands.0 in
      graph_along t flow setting valid n _ choices point registers v memory (i.Move kept at) middle place' move
      (rw before.stands.2.0
      (both_along t flow setting valid n _ choices middle (put new registers) v memory (i.Copy at from length' disjoint) to place edge
      (λ m is. rw (copy_stepped disjoint place result tasks count byte address operands w memory choices, holds.stands.0, at_is, from_is)
      (fault_or t flow setting valid m (copy_fault memory address byte length' disjoint) place _ _ choices
      (good m is (address ∷ operands) (emptied (at ∷ from ∷ []) (put new registers)) w v (copied memory address byte length') choices
      (holds-memory memory (copied memory address byte length') (emptied (at ∷ from ∷ []) (put new registers)) (InRegister kept size plain ∷ slots) (address ∷ operands) whole
      (holds-kept_address memory at from kept size size' plain plain' address byte registers slots operands free free' before)) alike (goes_before t flow setting valid n m running w v is goes))))))

  pub assumes : (n : ℕ) (running : Running) (scopes : List (List Name)) (tasks : List (TaskIn t)) (slots : List Slot) (point : ℕ) (place place' place'' : Place) (result : Kind) (register size naught size' middle to : ℕ) (plain : Bool) →
      One flow point (i.Number naught 0 size') middle place' → is_free naught (InRegister register size plain ∷ slots) ≡ true → is_free register slots ≡ true →
      One flow middle (i.IfDifferent register naught) to place'' → ((m : ℕ) → suc m ≡ n → Rest m running scopes tasks (KnownAs 0 ∷ slots) to) →
      Rest n running scopes (RunBuiltIn Assume place result ∷ tasks) (InRegister register size plain ∷ slots) point
  assumes n running scopes tasks slots point place place' place'' result register size naught size' middle to plain number free free' edge good [] registers w v memory choices holds alike goes =
      absurd holds.stands
  assumes n running scopes tasks slots point place place' place'' result register size naught size' middle to plain number free free' edge good (word ∷ operands) registers w v memory choices holds alike goes =
      let new : Held = record { register = naught; size = size'; word = Plain 0 } in
      let not_zero = free_first naught register size plain slots free in
      let register_is = held-put_other new registers register (λ same. not_zero.0 (sym same)) ∙ holds.stands.0 in
      let after : Holds memory (emptied (register ∷ naught ∷ []) (put new registers)) slots operands =
      holds-both_popped memory (register ∷ naught ∷ []) (put new registers) (InRegister naught size' true) (InRegister register size plain) slots (Plain 0) word operands
      (pair_free register naught slots free' not_zero.1) (second_of naught register []) (first_of register (naught ∷ []))
      (holds-put memory naught size' (Plain 0) true registers (InRegister register size plain ∷ slots) (word ∷ operands) free tt holds) in
      graph_along t flow setting valid n _ choices point registers v memory (i.Number naught 0 size') middle place' number
      (both_along t flow setting valid n _ choices middle (put new registers) v memory (i.IfDifferent register naught) to place'' edge
      (λ m is. rw (register_is, held-put_same new registers)
      (assumes_or m (nat_eq (address_number memory word) 0) (source t tasks operands w memory) choices _ choices
      (good m is (Plain 0 ∷ operands) (emptied (register ∷ naught ∷ []) (put new registers)) w v memory choices
      (holds-known memory (emptied (register ∷ naught ∷ []) (put new registers)) slots 0 operands after) alike (goes_before t flow setting valid n m running w v is goes)))))

  pub assumes_truth : (n : ℕ) (running : Running) (scopes : List (List Name)) (tasks : List (TaskIn t)) (slots : List Slot) (point : ℕ) (place : Place) (result : Kind) →
      Rest n running scopes tasks (KnownAs 0 ∷ slots) point →
      Rest n running scopes (RunBuiltIn Assume place result ∷ tasks) (Truth true ∷ slots) point
  assumes_truth n running scopes tasks slots point place result good [] registers w v memory choices holds alike goes = absurd holds.stands
  assumes_truth n running scopes tasks slots point place result good (word ∷ operands) registers w v memory choices holds alike goes =
      source_alone t flow setting valid n _ choices _
      (rw holds.stands.0
      (good (Plain 0 ∷ operands) registers w v memory choices (holds-known memory registers slots 0 operands (holds-dropped memory registers (Truth true) slots word operands refl holds)) alike goes))

  pub assumes_not : (n : ℕ) (running : Running) (scopes : List (List Name)) (tasks : List (TaskIn t)) (slots : List Slot) (point : ℕ) (place : Place) (result : Kind) →
      NoEdge flow point →
      Rest n running scopes (RunBuiltIn Assume place result ∷ tasks) (Truth false ∷ slots) point
  assumes_not n running scopes tasks slots point place result nowhere [] registers w v memory choices holds alike goes = absurd holds.stands
  assumes_not n running scopes tasks slots point place result nowhere (word ∷ operands) registers w v memory choices holds alike goes =
      source_alone t flow setting valid n _ choices _ (rw holds.stands.0 (graph_ends t flow setting valid n _ choices point registers v memory nowhere (meets_over t flow setting valid n Ended graph.Ended tt tt)))

  pub expects : (n : ℕ) (running : Running) (scopes : List (List Name)) (tasks : List (TaskIn t)) (slots : List Slot) (point : ℕ) (place : Place) (result : Kind) (slot : Slot) →
      is_in [] slot ≡ true → Rest n running scopes tasks slots point →
      Rest n running scopes (RunBuiltIn Expect place result ∷ tasks) (slot ∷ slots) point
  expects n running scopes tasks slots point place result slot unheld good [] registers w v memory choices holds alike goes = absurd holds.stands
  expects n running scopes tasks slots point place result slot unheld good (word ∷ operands) registers w v memory choices holds alike goes =
      source_alone t flow setting valid n _ choices _ (good operands registers w v memory choices (holds-dropped memory registers slot slots word operands unheld holds) alike goes)

  pub inputs : (n : ℕ) (running : Running) (scopes : List (List Name)) (tasks : List (TaskIn t)) (slots : List Slot) (point : ℕ) (place place' : Place) (result : Kind) (into size to : ℕ) (signed truth : Bool) →
      count_of result ≡ (if truth then 2 else 256 ^ size) → is_free into slots ≡ true → One flow point (i.Input into size signed truth) to place' →
      ((m : ℕ) → suc m ≡ n → Rest m running scopes tasks (InRegister into size true ∷ slots) to) →
      Rest n running scopes (RunBuiltIn GivesInput place result ∷ tasks) slots point
  inputs n running scopes tasks slots point place place' result into size to signed truth counted' free edge good operands registers w v memory choices holds alike goes =
      both_along t flow setting valid n _ choices point registers v memory (i.Input into size signed truth) to place' edge
      (λ m is. unbarred t flow setting valid m _ _
      (receives m result into size truth counted' tasks operands to registers w v memory choices
      (λ number choices'. good m is (Plain number ∷ operands) (put (record { register = into; size = size; word = Plain number }) registers) w v memory choices'
      (holds-put memory into size (Plain number) true registers slots operands free tt holds) alike (goes_before t flow setting valid n m running w v is goes))))

  pub ends_runs : (n : ℕ) (running : Running) (scopes : List (List Name)) (tasks : List (TaskIn t)) (slots : List Slot) (point : ℕ) (place : Place) (result : Kind) →
      NoEdge flow point →
      Rest n running scopes (RunBuiltIn EndsRun place result ∷ tasks) slots point
  ends_runs n running scopes tasks slots point place result nowhere operands registers w v memory choices holds alike goes =
      source_alone t flow setting valid n _ choices _ (graph_ends t flow setting valid n _ choices point registers v memory nowhere (meets_over t flow setting valid n Ended graph.Ended tt tt))

  pub fails_assertion : (n : ℕ) (running : Running) (scopes : List (List Name)) (tasks : List (TaskIn t)) (slots : List Slot) (point : ℕ) →
      NoEdge flow point →
      Rest n running scopes (EndRun ∷ tasks) slots point
  fails_assertion n running scopes tasks slots point nowhere operands registers w v memory choices holds alike goes =
      source_alone t flow setting valid n _ choices _ (graph_ends t flow setting valid n _ choices point registers v memory nowhere (meets_over t flow setting valid n Ended graph.Ended tt tt))

  pub is_nothing : (n : ℕ) (running : Running) (scopes : List (List Name)) (tasks : List (TaskIn t)) (slots : List Slot) (point : ℕ) →
      NoEdge flow point →
      Rest n running scopes (Unknown ∷ tasks) slots point
  is_nothing n running scopes tasks slots point nowhere operands registers w v memory choices holds alike goes =
      source_alone t flow setting valid n _ choices _ (graph_ends t flow setting valid n _ choices point registers v memory nowhere (meets_over t flow setting valid n Stuck graph.Ended tt tt))
