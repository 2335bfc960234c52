-- Stores, copies of structs, and fills with 0.
use Rattle.std.proofs.Common.{◌≡◌, ℕ, suc, List, [], ◌∷◌, Bool, true, false, sym, ◌∙◌, Some}
use Rattle.cbase.specs.declared.place.Place.{Place}
use Rattle.bytes_core.specs.declared.word.Word.TheVariants.{Plain}
use Rattle.bytes_core.specs.Access.{access_fault, range_fault, stored, filled}
use Rattle.bytes_core.specs.Copying.{copy_fault, copied}
use Rattle.c_machine.specs.declared.kind.Kind.{Kind}
use Rattle.c_machine.specs.declared.task.Task.TheVariants.{Store, CopyStruct, Zero}
use Rattle.c_machine.specs.Text.{Text}
use Rattle.c_machine.specs.State.{TaskIn}
use Rattle.c_machine.specs.Words.{scalar_bytes}
use Rattle.flow.specs.declared.instruction.Instr.TheVariants as i
use Rattle.flow.specs.declared.flow_graph.Flow.{Flow}
use Rattle.flow.specs.Holding.{Held, put, emptied}
use Rattle.flow.specs.Valid.{IsFlow}
use Rattle.simulation.specs.Edges.{One}
use Rattle.simulation.specs.Names.{Name}
use Rattle.simulation.specs.Running.{Setting, Running}
use Rattle.simulation.specs.Slots.{Slot, InRegister, KnownAs, Gone, is_free, is_whole, are_free, Holds}
use Rattle.simulation.proofs.Holding.{holds-put, holds-both_popped, holds-memory, holds-gone, first_of, second_of, holds-kept, holds-known}
use Rattle.simulation.proofs.Meeting.{Good, both_along, graph_along, fault_or, goes_before}
use Rattle.simulation.proofs.Registers.{held-put_same, held-put_other, free_first}
use Rattle.simulation.proofs.Turning.{pair_free}

module _ (t : Text) (flow : Flow) (setting : Setting) (valid : IsFlow flow) where
  abbrev Rest : ℕ → Running → List (List Name) → List (TaskIn t) → List Slot → ℕ → Type 0
  Rest n running scopes tasks slots point = Good t flow setting valid n running scopes tasks slots point

  pub stores : (n : ℕ) (running : Running) (scopes : List (List Name)) (tasks : List (TaskIn t)) (slots : List Slot) (point : ℕ) (kind : Kind) (place : Place) (bytes at from size size' to : ℕ) (plain plain' : Bool) →
      scalar_bytes kind ≡ Some bytes → is_whole slots ≡ true → are_free (at ∷ from ∷ []) slots ≡ true → One flow point (i.Write at from bytes) to place →
      ((m : ℕ) → suc m ≡ n → Rest m running scopes tasks (Gone ∷ slots) to) →
      Rest n running scopes (Store place kind ∷ tasks) (InRegister from size plain' ∷ InRegister at size' plain ∷ slots) point
  stores n running scopes tasks slots point kind place bytes at from size size' to plain plain' is_bytes whole free edge good [] registers w v memory choices holds alike goes =
      absurd holds.stands
  stores n running scopes tasks slots point kind place bytes at from size size' to plain plain' is_bytes whole free edge good (word ∷ []) registers w v memory choices holds alike goes =
      absurd holds.stands.2
  stores n running scopes tasks slots point kind place bytes at from size size' to plain plain' is_bytes whole free edge good (word ∷ address ∷ operands) registers w v memory choices holds alike goes =
      both_along t flow setting valid n _ choices point registers v memory (i.Write at from bytes) to place edge
      (λ m is. rw (is_bytes, holds.stands.2.0, holds.stands.0)
      (fault_or t flow setting valid m (access_fault memory address bytes) place _ _ choices
      (good m is (word ∷ operands) (emptied (at ∷ from ∷ []) registers) w v (stored memory address bytes word) choices
      (holds-gone (stored memory address bytes word) (emptied (at ∷ from ∷ []) registers) slots word operands
      (holds-memory memory (stored memory address bytes word) (emptied (at ∷ from ∷ []) registers) slots operands whole
      (holds-both_popped memory (at ∷ from ∷ []) registers (InRegister from size plain') (InRegister at size' plain) slots word address operands free
      (second_of from at []) (first_of at (from ∷ [])) holds))) alike (goes_before t flow setting valid n m running w v is goes))))

  pub stores_kept : (n : ℕ) (running : Running) (scopes : List (List Name)) (tasks : List (TaskIn t)) (slots : List Slot) (point : ℕ) (kind : Kind) (place place' : Place) (bytes at from kept size size' middle to : ℕ) (plain plain' : Bool) →
      scalar_bytes kind ≡ Some bytes → is_whole slots ≡ true → are_free (at ∷ from ∷ []) slots ≡ true →
      is_free kept (InRegister from size plain' ∷ InRegister at size' plain ∷ slots) ≡ true → One flow point (i.Move kept from) middle place' →
      One flow middle (i.Write at from bytes) to place → ((m : ℕ) → suc m ≡ n → Rest m running scopes tasks (InRegister kept size plain' ∷ slots) to) →
      Rest n running scopes (Store place kind ∷ tasks) (InRegister from size plain' ∷ InRegister at size' plain ∷ slots) point
  stores_kept n running scopes tasks slots point kind place place' bytes at from kept size size' middle to plain plain' is_bytes whole free free' move edge good [] registers w v memory choices holds alike goes =
      absurd holds.stands
  stores_kept n running scopes tasks slots point kind place place' bytes at from kept size size' middle to plain plain' is_bytes whole free free' move edge good (word ∷ []) registers w v memory choices holds alike goes =
      absurd holds.stands.2
  stores_kept n running scopes tasks slots point kind place place' bytes at from kept size size' middle to plain plain' is_bytes whole free free' move edge good (word ∷ address ∷ operands) registers w v memory choices holds alike goes =
      let new : Held = record { register = kept; size = size; word = word } in
      let not_from = free_first kept from size plain' (InRegister at size' plain ∷ slots) free' in
      let not_at = free_first kept at size' plain slots not_from.1 in
      let at_is = held-put_other new registers at (λ same. not_at.0 (sym same)) ∙ holds.stands.2.0 in
      let from_is = held-put_other new registers from (λ same. not_from.0 (sym same)) ∙ holds.stands.0 in
      graph_along t flow setting valid n _ choices point registers v memory (i.Move kept from) middle place' move
      (rw holds.stands.0
      (both_along t flow setting valid n _ choices middle (put new registers) v memory (i.Write at from bytes) to place edge
      (λ m is. rw (is_bytes, at_is, from_is)
      (fault_or t flow setting valid m (access_fault memory address bytes) place _ _ choices
      (good m is (word ∷ operands) (emptied (at ∷ from ∷ []) (put new registers)) w v (stored memory address bytes word) choices
      (holds-memory memory (stored memory address bytes word) (emptied (at ∷ from ∷ []) (put new registers)) (InRegister kept size plain' ∷ slots) (word ∷ operands) whole
      (holds-kept memory at from kept size size' plain plain' word address registers slots operands free free' holds)) alike (goes_before t flow setting valid n m running w v is goes))))))

  pub copies_struct : (n : ℕ) (running : Running) (scopes : List (List Name)) (tasks : List (TaskIn t)) (slots : List Slot) (point : ℕ) (place : Place) (bytes at from size size' to : ℕ) (plain plain' : Bool) →
      is_whole slots ≡ true → are_free (at ∷ from ∷ []) slots ≡ true → One flow point (i.Copy at from bytes false) to place →
      ((m : ℕ) → suc m ≡ n → Rest m running scopes tasks (KnownAs 0 ∷ slots) to) →
      Rest n running scopes (CopyStruct place bytes ∷ tasks) (InRegister from size plain' ∷ InRegister at size' plain ∷ slots) point
  copies_struct n running scopes tasks slots point place bytes at from size size' to plain plain' whole free edge good [] registers w v memory choices holds alike goes =
      absurd holds.stands
  copies_struct n running scopes tasks slots point place bytes at from size size' to plain plain' whole free edge good (word ∷ []) registers w v memory choices holds alike goes =
      absurd holds.stands.2
  copies_struct n running scopes tasks slots point place bytes at from size size' to plain plain' whole free edge good (word ∷ address ∷ operands) registers w v memory choices holds alike goes =
      both_along t flow setting valid n _ choices point registers v memory (i.Copy at from bytes false) to place edge
      (λ m is. rw (holds.stands.2.0, holds.stands.0)
      (fault_or t flow setting valid m (copy_fault memory address word bytes false) place _ _ choices
      (good m is (Plain 0 ∷ operands) (emptied (at ∷ from ∷ []) registers) w v (copied memory address word bytes) choices
      (holds-known (copied memory address word bytes) (emptied (at ∷ from ∷ []) registers) slots 0 operands
      (holds-memory memory (copied memory address word bytes) (emptied (at ∷ from ∷ []) registers) slots operands whole
      (holds-both_popped memory (at ∷ from ∷ []) registers (InRegister from size plain') (InRegister at size' plain) slots word address operands free
      (second_of from at []) (first_of at (from ∷ [])) holds))) alike (goes_before t flow setting valid n m running w v is goes))))

  pub zeroes : (n : ℕ) (running : Running) (scopes : List (List Name)) (tasks : List (TaskIn t)) (slots : List Slot) (point : ℕ) (place place' : Place) (bytes at size naught size' middle to : ℕ) (plain : Bool) →
      is_whole slots ≡ true → is_free at slots ≡ true → is_free naught (InRegister at size plain ∷ slots) ≡ true → One flow point (i.Number naught 0 size') middle place' →
      One flow middle (i.Fill at naught bytes) to place → ((m : ℕ) → suc m ≡ n → Rest m running scopes tasks slots to) →
      Rest n running scopes (Zero place bytes ∷ tasks) (InRegister at size plain ∷ slots) point
  zeroes n running scopes tasks slots point place place' bytes at size naught size' middle to plain whole free free' number edge good [] registers w v memory choices holds alike goes =
      absurd holds.stands
  zeroes n running scopes tasks slots point place place' bytes at size naught size' middle to plain whole free free' number edge good (address ∷ operands) registers w v memory choices holds alike goes =
      let new : Held = record { register = naught; size = size'; word = Plain 0 } in
      let not_at = free_first naught at size plain slots free' in
      let at_is = held-put_other new registers at (λ same. not_at.0 (sym same)) ∙ holds.stands.0 in
      let after : Holds memory (emptied (at ∷ naught ∷ []) (put new registers)) slots operands =
      holds-both_popped memory (at ∷ naught ∷ []) (put new registers) (InRegister naught size' true) (InRegister at size plain) slots (Plain 0) address operands
      (pair_free at naught slots free not_at.1) (second_of naught at []) (first_of at (naught ∷ []))
      (holds-put memory naught size' (Plain 0) true registers (InRegister at size plain ∷ slots) (address ∷ operands) free' tt holds) in
      graph_along t flow setting valid n _ choices point registers v memory (i.Number naught 0 size') middle place' number
      (both_along t flow setting valid n _ choices middle (put new registers) v memory (i.Fill at naught bytes) to place edge
      (λ m is. rw (at_is, held-put_same new registers)
      (fault_or t flow setting valid m (range_fault memory address bytes) place _ _ choices
      (good m is operands (emptied (at ∷ naught ∷ []) (put new registers)) w v (filled memory address 0 bytes) choices
      (holds-memory memory (filled memory address 0 bytes) (emptied (at ∷ naught ∷ []) (put new registers)) slots operands whole after) alike (goes_before t flow setting valid n m running w v is goes)))))
