-- Addresses of objects, and values that are loaded.
use Rattle.std.proofs.Common.{◌≡◌, ℕ, suc, ◌<◌, ◌%◌, ◌^◌, List, [], ◌∷◌, ◌++◌, Bool, true, false, not, refl, ap, ◌∙◌, arith, Some, None, Option, if◌then◌else◌, pos, ℤ}
use Rattle.cbase.specs.declared.place.Place.{Place}
use Rattle.bytes_core.specs.declared.word.Word.{Word}
use Rattle.bytes_core.specs.declared.word.Word.TheVariants.{Plain, To}
use Rattle.bytes_core.specs.Access.{access_fault, loaded}
use Rattle.bytes_core.specs.Value.{moved}
use Rattle.c_machine.specs.declared.kind.Kind.{Kind}
use Rattle.c_machine.specs.declared.task.Task.TheVariants.{ObjectAt, Shift, Load}
use Rattle.c_machine.specs.Text.{Text}
use Rattle.c_machine.specs.State.{TaskIn, Scope, block_in, is_named, objects_of}
use Rattle.c_machine.specs.Words.{scalar_bytes, is_pointer}
use Rattle.flow.specs.declared.instruction.Instr.TheVariants as i
use Rattle.flow.specs.declared.flow_graph.Flow.{Flow}
use Rattle.flow.specs.Holding.{put, emptied}
use Rattle.flow.specs.Machine as graph
use Rattle.flow.specs.Valid.{IsFlow}
use Rattle.simulation.specs.Edges.{One}
use Rattle.simulation.specs.Names.{Name, names_of, variable_in, is_other}
use Rattle.simulation.specs.Running.{Setting, Running}
use Rattle.simulation.specs.Slots.{Slot, InRegister, KnownAs, Suits, is_free, IsPlainWhere}
use Rattle.simulation.specs.Worlds.{state}
use Rattle.simulation.proofs.Holding.{holds-put, holds-popped, first_of, none_of, holds-known, holds-dropped, loaded_plain}
use Rattle.simulation.proofs.Meeting.{suits_of, Good, source_alone, knowing, both_along, fault_or, goes_before}
use Rattle.simulation.proofs.Scopes.{names-flat, object_found, object_missed, other_missed}
use Rattle.std.specs.Prelude.{negsuc, ◌+ℤ◌, ◌-◌}
use Rattle.std.specs.Int.{w64, cast_signed}
use Rattle.std.proofs.lemmas.Int.{ints, to_z_pos}
use Rattle.std.proofs.Math.Facts.{to_z-neg}
use Rattle.bytes_core.specs.Value.{wrapped}
use Rattle.flow.specs.Memories.{IsOffset}

-- the block of an object, in the frame or else outside
block_in-append : (one other : Scope) (token : ℕ) → block_in (one ++ other) token ≡ graph.or_else (block_in one token) (block_in other token)
block_in-append [] other token = refl
block_in-append (variable ∷ one) other token = by_name (is_named variable.token token) (block_in-append one other token)
  where
    by_name : (here : Bool) → block_in (one ++ other) token ≡ graph.or_else (block_in one token) (block_in other token) →
        (if here then Some variable.block else block_in (one ++ other) token) ≡ graph.or_else (if here then Some variable.block else block_in one token) (block_in other token)
    by_name true more = refl
    by_name false more = more

-- an address that is moved is no number, and a number that is moved is one
moved_plain : (plain : Bool) (word : Word) (by : ℤ) → IsPlainWhere plain word → IsPlainWhere plain (moved word by)
moved_plain true (Plain number) by is = tt
moved_plain true (To block offset) by is = absurd is
moved_plain false word by is = tt

-- what is moved by nothing stays as it is
offset_back : (offset : ℤ) → IsOffset offset → cast_signed w64 (wrapped offset) ≡ offset
offset_back (pos n) small = ap (cast_signed w64) (let e : n % 2 ^ 64 ≡ n = omega arith in e) ∙ to_z_pos w64 n small
offset_back (negsuc k) small = ap (cast_signed w64) (let e : 2 ^ 64 - suc (k % 2 ^ 64) ≡ 2 ^ 64 - suc k = omega arith in e) ∙ to_z-neg w64 k small

moved_none : (word : Word) (plain : Bool) → Suits 8 plain word → moved word (pos 0) ≡ word
moved_none (Plain number) plain suits =
    let same : pos number +ℤ pos 0 ≡ pos number = omega (arith, ints) in
    let small : number < 256 ^ 8 = suits.0 in
    ap (λ (z : ℤ). Plain (wrapped z)) same ∙ ap Plain (let e : number % 2 ^ 64 ≡ number = omega arith in e)
moved_none (To block offset) plain suits =
    let same : offset +ℤ pos 0 ≡ offset = omega (arith, ints) in
    ap (λ (z : ℤ). To block (cast_signed w64 (wrapped z))) same ∙ ap (To block) (offset_back offset suits.1)

module _ (t : Text) (flow : Flow) (setting : Setting) (valid : IsFlow flow) where
  abbrev Rest : ℕ → Running → List (List Name) → List (TaskIn t) → List Slot → ℕ → Type 0
  Rest n running scopes tasks slots point = Good t flow setting valid n running scopes tasks slots point

  pub objects : (n : ℕ) (running : Running) (scopes : List (List Name)) (tasks : List (TaskIn t)) (slots : List Slot) (point : ℕ) (token variable into to : ℕ) (place : Place) →
      variable_in (names_of scopes) token ≡ Some variable → One flow point (i.Address into variable) to place → is_free into slots ≡ true →
      ((m : ℕ) → suc m ≡ n → Rest m running scopes tasks (InRegister into 8 false ∷ slots) to) →
      Rest n running scopes (ObjectAt token ∷ tasks) slots point
  objects n running scopes tasks slots point token variable into to place named edge free good operands registers w v memory choices holds alike goes =
      let found = object_found v.variables (names_of scopes) (objects_of w.frame) token variable (names-flat v.variables scopes w.frame alike.frame) named in
      let is_there : block_in (objects_of w.frame ++ w.statics) token ≡ Some found.0 =
      block_in-append (objects_of w.frame) w.statics token ∙ ap (λ (one : Option ℕ). graph.or_else one (block_in w.statics token)) found.1 in
      both_along t flow setting valid n _ choices point registers v memory (i.Address into variable) to place edge
      (λ m is. rw (is_there, found.2)
      (good m is (To found.0 (pos 0) ∷ operands) (put (record { register = into; size = 8; word = To found.0 (pos 0) }) registers) w v memory choices
      (holds-put memory into 8 (To found.0 (pos 0)) false registers slots operands free tt holds) alike (goes_before t flow setting valid n m running w v is goes)))

  pub statics : (n : ℕ) (running : Running) (scopes : List (List Name)) (tasks : List (TaskIn t)) (slots : List Slot) (point : ℕ) (token variable into to : ℕ) (place : Place) →
      variable_in (names_of scopes) token ≡ None → variable_in setting.statics token ≡ Some variable → is_other variable (names_of scopes) ≡ true →
      One flow point (i.Address into variable) to place → is_free into slots ≡ true →
      ((m : ℕ) → suc m ≡ n → Rest m running scopes tasks (InRegister into 8 false ∷ slots) to) →
      Rest n running scopes (ObjectAt token ∷ tasks) slots point
  statics n running scopes tasks slots point token variable into to place missed named other edge free good operands registers w v memory choices holds alike goes =
      let found = object_found v.statics setting.statics w.statics token variable alike.fixed named in
      let is_there : block_in (objects_of w.frame ++ w.statics) token ≡ Some found.0 =
      block_in-append (objects_of w.frame) w.statics token
      ∙ (ap (λ (one : Option ℕ). graph.or_else one (block_in w.statics token))
      (object_missed v.variables (names_of scopes) (objects_of w.frame) token (names-flat v.variables scopes w.frame alike.frame) missed) ∙ found.1) in
      both_along t flow setting valid n _ choices point registers v memory (i.Address into variable) to place edge
      (λ m is. rw (is_there, other_missed v.variables (names_of scopes) (objects_of w.frame) variable alike.owned other, found.2)
      (good m is (To found.0 (pos 0) ∷ operands) (put (record { register = into; size = 8; word = To found.0 (pos 0) }) registers) w v memory choices
      (holds-put memory into 8 (To found.0 (pos 0)) false registers slots operands free tt holds) alike (goes_before t flow setting valid n m running w v is goes)))

  pub shifts : (n : ℕ) (running : Running) (scopes : List (List Name)) (tasks : List (TaskIn t)) (slots : List Slot) (point : ℕ) (bytes at size into to : ℕ) (plain : Bool) (place : Place) →
      One flow point (i.Shift into at (pos bytes)) to place → is_free into slots ≡ true → is_free at slots ≡ true →
      ((m : ℕ) → suc m ≡ n → Rest m running scopes tasks (InRegister into 8 plain ∷ slots) to) →
      Rest n running scopes (Shift bytes ∷ tasks) (InRegister at size plain ∷ slots) point
  shifts n running scopes tasks slots point bytes at size into to plain place edge free free' good [] registers w v memory choices holds alike goes = absurd holds.stands
  shifts n running scopes tasks slots point bytes at size into to plain place edge free free' good (word ∷ operands) registers w v memory choices holds alike goes =
      both_along t flow setting valid n _ choices point registers v memory (i.Shift into at (pos bytes)) to place edge
      (λ m is. rw holds.stands.0
      (good m is (moved word (pos bytes) ∷ operands) (put (record { register = into; size = 8; word = moved word (pos bytes) }) (emptied (at ∷ []) registers)) w v memory choices
      (holds-put memory into 8 (moved word (pos bytes)) plain (emptied (at ∷ []) registers) slots operands free (moved_plain plain word (pos bytes) holds.stands.1)
      (holds-popped memory (at ∷ []) registers (InRegister at size plain) slots word operands (none_of at slots free') (first_of at []) holds)) alike (goes_before t flow setting valid n m running w v is goes)))

  pub shifts_nothing : (n : ℕ) (running : Running) (scopes : List (List Name)) (tasks : List (TaskIn t)) (slots : List Slot) (point : ℕ) (register : ℕ) (plain : Bool) →
      Rest n running scopes tasks (InRegister register 8 plain ∷ slots) point →
      Rest n running scopes (Shift 0 ∷ tasks) (InRegister register 8 plain ∷ slots) point
  shifts_nothing n running scopes tasks slots point register plain good [] registers w v memory choices holds alike goes = absurd holds.stands
  shifts_nothing n running scopes tasks slots point register plain good (word ∷ operands) registers w v memory choices holds alike goes =
      knowing t flow setting valid n _ (state point registers v memory) choices
      (λ is. source_alone t flow setting valid n _ choices _
      (rw (moved_none word plain (suits_of flow point registers v memory register 8 plain word is holds.stands.0 holds.stands.1))
      (good (word ∷ operands) registers w v memory choices holds alike goes)))

  pub shifts_known : (n : ℕ) (running : Running) (scopes : List (List Name)) (tasks : List (TaskIn t)) (slots : List Slot) (point : ℕ) (bytes bits bits' : ℕ) →
      moved (Plain bits) (pos bytes) ≡ Plain bits' → Rest n running scopes tasks (KnownAs bits' ∷ slots) point →
      Rest n running scopes (Shift bytes ∷ tasks) (KnownAs bits ∷ slots) point
  shifts_known n running scopes tasks slots point bytes bits bits' same good [] registers w v memory choices holds alike goes = absurd holds.stands
  shifts_known n running scopes tasks slots point bytes bits bits' same good (word ∷ operands) registers w v memory choices holds alike goes =
      source_alone t flow setting valid n _ choices _
      (rw (holds.stands.0, same)
      (good (Plain bits' ∷ operands) registers w v memory choices
      (holds-known memory registers slots bits' operands (holds-dropped memory registers (KnownAs bits) slots word operands refl holds)) alike goes))

  pub loads : (n : ℕ) (running : Running) (scopes : List (List Name)) (tasks : List (TaskIn t)) (slots : List Slot) (point : ℕ) (kind : Kind) (place : Place) (plain : Bool) (bytes at size into to : ℕ) →
      scalar_bytes kind ≡ Some bytes → One flow point (i.Read into at bytes (is_pointer kind)) to place → is_free into slots ≡ true → is_free at slots ≡ true →
      ((m : ℕ) → suc m ≡ n → Rest m running scopes tasks (InRegister into bytes (not (is_pointer kind)) ∷ slots) to) →
      Rest n running scopes (Load place kind ∷ tasks) (InRegister at size plain ∷ slots) point
  loads n running scopes tasks slots point kind place plain bytes at size into to is_bytes edge free free' good [] registers w v memory choices holds alike goes =
      absurd holds.stands
  loads n running scopes tasks slots point kind place plain bytes at size into to is_bytes edge free free' good (word ∷ operands) registers w v memory choices holds alike goes =
      both_along t flow setting valid n _ choices point registers v memory (i.Read into at bytes (is_pointer kind)) to place edge
      (λ m is. rw (is_bytes, holds.stands.0)
      (fault_or t flow setting valid m (access_fault memory word bytes) place _ _ choices
      (good m is (loaded memory word bytes (is_pointer kind) ∷ operands)
      (put (record { register = into; size = bytes; word = loaded memory word bytes (is_pointer kind) }) (emptied (at ∷ []) registers)) w v memory choices
      (holds-put memory into bytes (loaded memory word bytes (is_pointer kind)) (not (is_pointer kind)) (emptied (at ∷ []) registers) slots operands free
      (loaded_plain memory word bytes (is_pointer kind))
      (holds-popped memory (at ∷ []) registers (InRegister at size plain) slots word operands (none_of at slots free') (first_of at []) holds)) alike (goes_before t flow setting valid n m running w v is goes))))

  pub loads_nothing : (n : ℕ) (running : Running) (scopes : List (List Name)) (tasks : List (TaskIn t)) (slots : List Slot) (point : ℕ) (kind : Kind) (place : Place) (slot : Slot) →
      scalar_bytes kind ≡ None → Rest n running scopes tasks (slot ∷ slots) point →
      Rest n running scopes (Load place kind ∷ tasks) (slot ∷ slots) point
  loads_nothing n running scopes tasks slots point kind place slot none good [] registers w v memory choices holds alike goes = absurd holds.stands
  loads_nothing n running scopes tasks slots point kind place slot none good (word ∷ operands) registers w v memory choices holds alike goes =
      source_alone t flow setting valid n _ choices _ (rw none (good (word ∷ operands) registers w v memory choices holds alike goes))
