-- The initialisers of static objects, as the machine works them out and stores them, leave the memory with which the graph begins.
use Rattle.std.proofs.Common.{◌≡◌, ◌≢◌, ℕ, zero, suc, ◌+◌, ◌*◌, ◌^◌, ◌%◌, ◌<◌, ◌≤◌, min, Bool, true, false, ◌&&◌, List, [], ◌∷◌, ◌++◌, map, length, take, set, refl, sym, ap, subst, ◌∙◌, arith, append-nil, ⊎_elim, pos, Option, None, Some, nat_le, slice_get, if◌then◌else◌}
use Rattle.std.specs.Int.{w64, cast_signed}
use Rattle.std.specs.Option.{option_map_or}
use Rattle.std.proofs.lemmas.Bool.{and_parts, leb-true, le-leb, cases_eq}
use Rattle.std.proofs.lemmas.Int.{to_z_pos}
use Rattle.std.proofs.lemmas.List.{length-take}
use Rattle.std.proofs.lemmas.Option.{same_Some, none-some}
use Rattle.cbase.specs.declared.place.Place.{Place}
use Rattle.bytes_core.specs.declared.block.Block.{Block}
use Rattle.bytes_core.specs.declared.word.Word.{Word}
use Rattle.bytes_core.specs.declared.word.Word.TheVariants.{Plain, To}
use Rattle.bytes_core.specs.Access.{access_fault, block_fault, stored, overwritten, with_bytes}
use Rattle.bytes_core.specs.Fault.{memory_lost}
use Rattle.bytes_core.specs.Loss.{is_lost}
use Rattle.bytes_core.specs.Release.{is_heap}
use Rattle.bytes_core.specs.Value.{word_bytes, moved}
use Rattle.bytes_core.proofs.Chains.{lost_by_chains}
use Rattle.bytes_core.proofs.Written.{slice_get-set_same, slice_get-set_other, length-word_bytes}
use Rattle.choices.specs.declared.choice.Choice.{Choice}
use Rattle.c_machine.specs.declared.kind.Kind.{Kind}
use Rattle.c_machine.specs.declared.kind.Kind.TheVariants.{Integer, Pointer}
use Rattle.c_machine.specs.declared.object.Object.{Object}
use Rattle.c_machine.specs.declared.task.Task.TheVariants.{ValueOf, ObjectAt, Shift, Convert, Store, Finish, Initialise}
use Rattle.c_machine.specs.Blocks.{set as set_tasks, set_by, initialiser_parts}
use Rattle.c_machine.specs.Run.{done_within}
use Rattle.c_machine.specs.State.{TaskIn, StateIn, OutcomeIn, Scope, Went, Faulted, block_in, roots, unless_fault}
use Rattle.c_machine.specs.Step.{step, object_at, store_step}
use Rattle.c_machine.specs.Text.{Initialiser, Value as ValueInit, Braces, Set, Store as Stored, Text}
use Rattle.c_machine.specs.Words.{scalar_bytes, decayed}
use Rattle.flow.specs.declared.flow_graph.Initial.{Initial}
use Rattle.flow.specs.Holding.{Owned, block_of}
use Rattle.flow.specs.Runs.{with_initial, with_initials}
use Rattle.flow.specs.Runs as runs
use Rattle.simulation.specs.Names.{Name, variable_in}
use Rattle.lowering.specs.Known.{known_word, word_as}
use Rattle.lowering.specs.Initials.{initial_word, has_offset, bytes_of, scalar_by, set_initial, joined, joined_all, initials_by, initials_within, initials_of, latest}
use Rattle.lowering.proofs.KnownStatics.{Leads, known_leads, word_led}
use Rattle.lowering.proofs.KnownWords.{AllWeigh, Weighing, first_step, known_worked, Comes, word_worked}
use Rattle.lowering.proofs.LatestInitials.{HasRoom, HaveRoom, latest_writes, length_overwritten}
use Rattle.lowering.proofs.StartSteps.{before_main, Takes, takes_none, takes_both, takes_less, lasts_on}
use Rattle.lowering.proofs.StaticsMade.{IsBlockOf, NoHeap}

-- an address is moved from the front of an object
moved_from_front : (block offset : ℕ) → offset < 2 ^ 63 → moved (To block (pos 0)) (pos offset) ≡ To block (pos offset)
moved_from_front block offset small =
    ap (λ (n : ℕ). To block (cast_signed w64 (n % 2 ^ 64))) (let e : 0 + offset ≡ offset = omega arith in e)
    ∙ (ap (λ (n : ℕ). To block (cast_signed w64 n)) (let e : offset % 2 ^ 64 ≡ offset = omega arith in e)
    ∙ ap (To block) (to_z_pos w64 offset small))

-- nothing is lost where there is no heap
false_unless : (test : Bool) → (test ≡ true → ⊥) → test ≡ false
false_unless true never = absurd (never refl)
false_unless false never = refl

not_lost : (memory : List Block) (roots' : List ℕ) → NoHeap memory → is_lost memory roots' ≡ false
not_lost memory roots' none =
    false_unless (is_lost memory roots') (λ lost.
    let found = (lost_by_chains memory roots').0 lost in
    let heap = found.2.allocated in
    let other = none found.0 found.1 found.2.stands in
    absurd (cc))

-- the parts of what is there
joined_parts : {A : Type 0} (one other : Option (List A)) (all : List A) → joined one other ≡ Some all → (first : List A) × (second : List A) × (one ≡ Some first) × (other ≡ Some second) × (first ++ second ≡ all)
joined_parts (Some first) (Some second) all is = (first, second, refl, refl, same_Some (first ++ second) all is)
joined_parts (Some first) None all is = absurd (none-some all is)
joined_parts None (Some second) all is = absurd (none-some all is)
joined_parts None None all is = absurd (none-some all is)

some_if : {A : Type 0} (test : Bool) (one other : A) → (if test then Some one else None) ≡ Some other → (test ≡ true) × (one ≡ other)
some_if true one other is = (refl, same_Some one other is)
some_if false one other is = absurd (none-some other is)

written_behind : (owned : List Owned) (one other : List Initial) (memory : List Block) → with_initials owned (one ++ other) memory ≡ with_initials owned other (with_initials owned one memory)
written_behind owned [] other memory = refl
written_behind owned (first ∷ one) other memory = written_behind owned one other (with_initial owned first memory)

-- of a scalar as it is set
record ScalarParts (t : Text) (variable' bytes' : Option ℕ) (word' : Option Word) (at : ℕ) (scalars : List Initial) : Type 0 where
  variable : ℕ
  bytes : ℕ
  word : Word
  is_variable : variable' ≡ Some variable
  is_bytes : bytes' ≡ Some bytes
  is_word : word' ≡ Some word
  fits : at + bytes ≤ bytes_of t variable
  are : record { variable = variable; at = at; size = bytes; word = initial_word word } ∷ [] ≡ scalars

scalar_parts : (t : Text) (variable' bytes' : Option ℕ) (word' : Option Word) (at : ℕ) (scalars : List Initial) → scalar_by t variable' at bytes' word' ≡ Some scalars →
    ScalarParts t variable' bytes' word' at scalars
scalar_parts t (Some variable) (Some bytes) (Some word) at scalars is =
    let both = some_if (nat_le (at + bytes) (bytes_of t variable) && has_offset word) (record { variable = variable; at = at; size = bytes; word = initial_word word } ∷ []) scalars is in
    record {
      variable = variable;
      bytes = bytes;
      word = word;
      is_variable = refl;
      is_bytes = refl;
      is_word = refl;
      fits = leb-true (at + bytes) (bytes_of t variable) (and_parts (nat_le (at + bytes) (bytes_of t variable)) (has_offset word) both.0).0;
      are = both.1;
    }
scalar_parts t variable' bytes' word' at scalars is = absurd (none-some scalars is)

-- a scalar is worked out and stored
set_scalar : (t : Text) (place : Place) (kind : Kind) (value : t.Expr) (bytes : ℕ) → scalar_bytes kind ≡ Some bytes →
    set_by t place kind value ≡ ValueOf value ∷ Convert (decayed (t.kind value)) kind ∷ Store place kind ∷ []
set_scalar t place (Integer of) value bytes is = refl
set_scalar t place (Pointer size) value bytes is = refl
set_scalar t place kind value bytes is = absurd (none-some bytes is)

-- a name leads to its static object: in the source, in the graph and among the objects
pub record IsStood (t : Text) (statics : Scope) (owned : List Owned) (token variable : ℕ) : Type 0 where
  pub object : Object
  pub is : slice_get t.statics variable ≡ Some object
  pub small : object.bytes ≤ 65536
  pub here : block_in statics token ≡ Some variable
  pub there : block_of owned variable ≡ Some variable

module _ (t : Text) (statics : Scope) (owned : List Owned) (names : List Name) (stood : (token variable : ℕ) → variable_in names token ≡ Some variable → IsStood t statics owned token variable)
    (weighing : Weighing t) where
  abbrev At : List (TaskIn t) → List Word → List Block → StateIn t
  At tasks operands memory = before_main t statics tasks operands memory

  -- a memory in which each static object has its block
  pub record IsReady (memory : List Block) : Type 0 where
    pub blocks : (variable : ℕ) (object : Object) → slice_get t.statics variable ≡ Some object → IsBlockOf memory variable object.bytes
    pub none : NoHeap memory

  -- a scalar of a static object, which lies in it
  pub record IsWithin (scalar : Initial) : Type 0 where
    pub object : Object
    pub is : slice_get t.statics scalar.variable ≡ Some object
    pub there : block_of owned scalar.variable ≡ Some scalar.variable
    pub room : scalar.at + scalar.size ≤ object.bytes

  abbrev pub AreWithin : List Initial → Type 0
  AreWithin [] = Unit {0}
  AreWithin (scalar ∷ scalars) = IsWithin scalar × AreWithin scalars

  within_both : (one other : List Initial) → AreWithin one → AreWithin other → AreWithin (one ++ other)
  within_both [] other are are' = are'
  within_both (scalar ∷ one) other are are' = (are.0, within_both one other are.1 are')

  abbrev written_of : Initial → Word
  written_of scalar = runs.initial_word owned scalar.word

  has_room : (memory : List Block) (scalar : Initial) → IsReady memory → IsWithin scalar → HasRoom owned memory scalar
  has_room memory scalar ready within =
      let block = ready.blocks scalar.variable within.object within.is in
      let count : length (take scalar.size (word_bytes (written_of scalar))) ≡ min scalar.size (length (word_bytes (written_of scalar))) = length-take scalar.size (word_bytes (written_of scalar)) in
      record {
        number = scalar.variable;
        block = block.block;
        owned = within.there;
        stands = block.stands;
        room = (let size = block.size in let room = within.room in let few = length-word_bytes (written_of scalar) in omega (arith, count, size, room, few));
      }

  pub have_room : (memory : List Block) (scalars : List Initial) → IsReady memory → AreWithin scalars → HaveRoom owned memory scalars
  have_room memory [] ready are = tt
  have_room memory (scalar ∷ scalars) ready are = (has_room memory scalar ready are.0, have_room memory scalars ready are.1)

  -- a store to a block keeps that
  block_kept : (memory : List Block) (number : ℕ) (old new : Block) (variable bytes : ℕ) → slice_get memory number ≡ Some old → new.live ≡ old.live → length new.bytes ≡ length old.bytes →
      IsBlockOf memory variable bytes → IsBlockOf (set memory number new) variable bytes
  block_kept memory number old new variable bytes stands live size block =
      ⊎_elim
      (λ (same : variable ≡ number).
      let is : old ≡ block.block = same_Some old block.block (sym stands ∙ (ap (slice_get memory) (sym same) ∙ block.stands)) in
      record {
        block = new;
        stands = subst (λ (n : ℕ). slice_get (set memory number new) n ≡ Some new) (sym same) (slice_get-set_same memory number old new stands);
        live = live ∙ (ap (λ (b : Block). b.live) is ∙ block.live);
        size = size ∙ (ap (λ (b : Block). length b.bytes) is ∙ block.size);
      })
      (λ (differ : variable ≢ number). record { block = block.block; stands = slice_get-set_other memory number variable new differ ∙ block.stands; live = block.live; size = block.size })
      (cases_eq variable number)

  none_kept : (memory : List Block) (number : ℕ) (old new : Block) → slice_get memory number ≡ Some old → new.kind ≡ old.kind → NoHeap memory → NoHeap (set memory number new)
  none_kept memory number old new stands kind none at found stands' =
      ⊎_elim
      (λ (same : at ≡ number).
      let is : new ≡ found = same_Some new found (sym (slice_get-set_same memory number old new stands) ∙ (ap (slice_get (set memory number new)) (sym same) ∙ stands')) in
      subst (λ (b : Block). is_heap b.kind ≡ false) is (ap is_heap kind ∙ none number old stands))
      (λ (differ : at ≢ number). none at found (sym (slice_get-set_other memory number at new differ) ∙ stands'))
      (cases_eq at number)

  initial_stored : (memory : List Block) (scalar : Initial) → IsWithin scalar → with_initial owned scalar memory ≡ stored memory (To scalar.variable (pos scalar.at)) scalar.size (written_of scalar)
  initial_stored memory scalar within =
      ap (λ (found : Option ℕ). option_map_or (λ block. stored memory (To block (pos scalar.at)) scalar.size (written_of scalar)) found memory) within.there

  ready_one : (memory : List Block) (scalar : Initial) → IsReady memory → IsWithin scalar → IsReady (with_initial owned scalar memory)
  unfolding has_room
  ready_one memory scalar ready within =
      let has = has_room memory scalar ready within in
      let old : Block = has.block in
      let new : Block = record old { bytes = overwritten old.bytes scalar.at (take scalar.size (word_bytes (written_of scalar))) } in
      let is : with_initial owned scalar memory ≡ set memory scalar.variable new =
      initial_stored memory scalar within
      ∙ ap (λ (found : Option Block). with_bytes memory scalar.variable found scalar.at (take scalar.size (word_bytes (written_of scalar)))) has.stands in
      subst IsReady (sym is) (record {
        blocks = λ variable object is'. block_kept memory scalar.variable old new variable object.bytes has.stands refl
            (length_overwritten old.bytes scalar.at (take scalar.size (word_bytes (written_of scalar))) has.room) (ready.blocks variable object is');
        none = none_kept memory scalar.variable old new has.stands refl ready.none;
      })

  ready_all : (memory : List Block) (scalars : List Initial) → IsReady memory → AreWithin scalars → IsReady (with_initials owned scalars memory)
  ready_all memory [] ready are = ready
  ready_all memory (scalar ∷ scalars) ready are = ready_all (with_initial owned scalar memory) scalars (ready_one memory scalar ready are.0) are.1

  -- what tasks do to each memory that is ready, in so many steps
  pub record AreWorkedOut (steps : ℕ) (tasks : List (TaskIn t)) (scalars : List Initial) : Type 0 where
    pub within : AreWithin scalars
    pub takes : (rest : List (TaskIn t)) (memory : List Block) → IsReady memory → Takes t steps (At (tasks ++ rest) [] memory) (At rest [] (with_initials owned scalars memory))

  none_worked : AreWorkedOut 0 [] []
  none_worked = record { within = tt; takes = λ rest memory ready. takes_none t (At rest [] memory) }

  less_worked : (steps more : ℕ) (tasks : List (TaskIn t)) (scalars : List Initial) → steps ≤ more → AreWorkedOut steps tasks scalars → AreWorkedOut more tasks scalars
  less_worked steps more tasks scalars less worked = record {
    within = worked.within;
    takes = λ rest memory ready. takes_less t steps more (At (tasks ++ rest) [] memory) (At rest [] (with_initials owned scalars memory)) less (worked.takes rest memory ready);
  }

  both_worked : (steps others : ℕ) (task : TaskIn t) (tasks : List (TaskIn t)) (one other all : List Initial) → AreWorkedOut steps (task ∷ []) one → AreWorkedOut others tasks other → one ++ other ≡ all →
      AreWorkedOut (steps + others) (task ∷ tasks) all
  both_worked steps others task tasks one other all first second is = subst (AreWorkedOut (steps + others) (task ∷ tasks)) is (record {
    within = within_both one other first.within second.within;
    takes = λ rest memory ready.
        subst (λ (after : List Block). Takes t (steps + others) (At (task ∷ (tasks ++ rest)) [] memory) (At rest [] after)) (sym (written_behind owned one other memory))
        (takes_both t steps others (At (task ∷ (tasks ++ rest)) [] memory) (At (tasks ++ rest) [] (with_initials owned one memory)) (At rest [] (with_initials owned other (with_initials owned one memory)))
        (first.takes (tasks ++ rest) memory ready)
        (second.takes rest (with_initials owned one memory) (ready_all memory one ready first.within)));
  })

  -- one value
  stands : (token variable : ℕ) → variable_in names token ≡ Some variable → block_in statics token ≡ Some variable
  stands token variable is = (stood token variable is).here

  abbrev KnownLeads : Word → Type 0
  KnownLeads word = Leads t names (λ variable. block_of owned variable ≡ Some variable) (λ token variable is. (stood token variable is).there) word

  leads_back : (word : Word) → KnownLeads word → runs.initial_word owned (initial_word word) ≡ word
  leads_back (Plain number) leads = refl
  leads_back (To block offset) leads = ap (λ (found : Option ℕ). option_map_or (λ at. To at offset) found (Plain 0)) leads

  no_fault : (memory : List Block) (variable at bytes size : ℕ) → IsBlockOf memory variable size → at + bytes ≤ size → access_fault memory (To variable (pos at)) bytes ≡ None
  no_fault memory variable at bytes size block room =
      ap (λ (found : Option Block). block_fault found (pos at) bytes) block.stands
      ∙ rw (block.live, block.size, le-leb (at + bytes) size room) refl

  -- one scalar: its address, its value, its conversion, the store and the end of the full expression
  module _ (place after : Place) (value : t.Expr) (stored' : Stored) (variable bytes : ℕ) (word : Word) (is_variable : variable_in names (t.token place) ≡ Some variable)
      (is_bytes : scalar_bytes stored'.kind ≡ Some bytes) (is_word : word_as t (known_word t.enough t names) value stored'.kind ≡ Some word) (fits : stored'.offset + bytes ≤ bytes_of t variable) where
    abbrev scalar : Initial
    scalar = record { variable = variable; at = stored'.offset; size = bytes; word = initial_word word }

    room_there : stored'.offset + bytes ≤ (stood (t.token place) variable is_variable).object.bytes
    room_there =
        subst (λ (n : ℕ). stored'.offset + bytes ≤ n) (ap (λ (found : Option Object). option_map_or (λ object. object.bytes) found 0) (stood (t.token place) variable is_variable).is) fits

    within_there : IsWithin scalar
    within_there = record {
      object = (stood (t.token place) variable is_variable).object;
      is = (stood (t.token place) variable is_variable).is;
      there = (stood (t.token place) variable is_variable).there;
      room = room_there;
    }

    small : stored'.offset < 2 ^ 63
    small = let room = room_there in let most = (stood (t.token place) variable is_variable).small in omega arith

    led : KnownLeads word
    led =
        word_led t names (λ v. block_of owned v ≡ Some v) (λ token v is. (stood token v is).there) (known_word t.enough t names)
        (known_leads t names (λ v. block_of owned v ≡ Some v) (λ token v is. (stood token v is).there) t.enough) value stored'.kind word is_word

    abbrev memory_after : List Block → List Block
    memory_after memory = stored memory (To variable (pos stored'.offset)) bytes word

    same_memory : (memory : List Block) → with_initial owned scalar memory ≡ memory_after memory
    same_memory memory = initial_stored memory scalar within_there ∙ ap (λ (w : Word). stored memory (To variable (pos stored'.offset)) bytes w) (leads_back word led)

    comes : Comes t statics names stands weighing.expr weighing.nothing weighing.one_more (known_word t.enough t names)
        (known_worked t statics names stands weighing.expr weighing.nothing weighing.one_more t.enough) value stored'.kind word
    comes =
        word_worked t statics names stands weighing.expr weighing.nothing weighing.one_more (known_word t.enough t names)
        (known_worked t statics names stands weighing.expr weighing.nothing weighing.one_more t.enough) value stored'.kind word is_word

    goes_first : (task : TaskIn t) (tasks : List (TaskIn t)) (operands : List Word) (memory : List Block) (next other : StateIn t) (steps : ℕ) →
        ((choices : List Choice) → step t (At (task ∷ tasks) operands memory) choices ≡ Went next choices) → Takes t steps next other → Takes t (suc steps) (At (task ∷ tasks) operands memory) other
    goes_first = first_step t statics names stands weighing.expr weighing.nothing weighing.one_more

    scalar_takes : (rest : List (TaskIn t)) (memory : List Block) → IsReady memory →
        Takes t (9 + 4 * comes.count) (At (ObjectAt (t.token place) ∷ Shift stored'.offset ∷ ValueOf value ∷ Convert (decayed (t.kind value)) stored'.kind ∷ Store place stored'.kind ∷ Finish after ∷ rest) [] memory)
        (At rest [] (with_initials owned (scalar ∷ []) memory))
    scalar_takes rest memory ready =
        let object = stood (t.token place) variable is_variable in
        let kind : Kind = stored'.kind in
        let offset : ℕ = stored'.offset in
        let at : Word = To variable (pos offset) in
        let end : StateIn t = At rest [] (with_initials owned (scalar ∷ []) memory) in
        let last : List (TaskIn t) = Finish after ∷ rest in
        let storing : List (TaskIn t) = Store place kind ∷ last in
        let valuing : List (TaskIn t) = ValueOf value ∷ Convert (decayed (t.kind value)) kind ∷ storing in
        let count : ℕ = comes.count in
        let none : NoHeap (memory_after memory) = subst NoHeap (same_memory memory) (ready_one memory scalar ready within_there).none in
        let block : IsBlockOf memory variable object.object.bytes = ready.blocks variable object.object object.is in
        takes_less t (suc (suc (5 + 4 * count + suc (suc 0)))) (9 + 4 * count) (At (ObjectAt (t.token place) ∷ Shift offset ∷ valuing) [] memory) end (omega arith)
        (goes_first (ObjectAt (t.token place)) (Shift offset ∷ valuing) [] memory (At (Shift offset ∷ valuing) (To variable (pos 0) ∷ []) memory) end (suc (5 + 4 * count + suc (suc 0)))
        (λ choices. ap (λ (found : Option ℕ). object_at found (At (Shift offset ∷ valuing) [] memory) choices) object.here)
        (goes_first (Shift offset) valuing (To variable (pos 0) ∷ []) memory (At valuing (at ∷ []) memory) end (5 + 4 * count + suc (suc 0))
        (λ choices. ap (λ (w : Word). Went (At valuing (w ∷ []) memory) choices) (moved_from_front variable offset small))
        (takes_both t (5 + 4 * count) (suc (suc 0)) (At valuing (at ∷ []) memory) (At storing (word ∷ at ∷ []) memory) end
        (comes.takes storing (at ∷ []) memory)
        (goes_first (Store place kind) last (word ∷ at ∷ []) memory (At last (word ∷ []) (memory_after memory)) end (suc 0)
        (λ choices. ap (λ (b : Option ℕ). store_step place b at word (At last [] memory) choices) is_bytes
        ∙ ap (λ (fault : Option ℕ). unless_fault fault place (Went (At last (word ∷ []) (memory_after memory)) choices)) (no_fault memory variable offset bytes object.object.bytes block room_there))
        (goes_first (Finish after) rest (word ∷ []) (memory_after memory) (At rest [] (memory_after memory)) end 0
        (λ choices. ap (λ (lost : Bool). if lost then Faulted memory_lost after else Went (At rest [] (memory_after memory)) choices)
        (not_lost (memory_after memory) (roots (At rest [] (memory_after memory))) none))
        (subst (λ (m : List Block). Takes t 0 (At rest [] (memory_after memory)) (At rest [] m)) (sym (same_memory memory)) (takes_none t (At rest [] (memory_after memory)))))))))

    scalar_worked : AreWorkedOut (9 + 4 * comes.count) (set_tasks t place value after (Some stored')) (scalar ∷ [])
    scalar_worked = record {
      within = (within_there, tt);
      takes = λ rest memory ready.
          subst (λ (tasks : List (TaskIn t)). Takes t (9 + 4 * comes.count) (At (ObjectAt (t.token place) ∷ Shift stored'.offset ∷ ((tasks ++ Finish after ∷ []) ++ rest)) [] memory)
          (At rest [] (with_initials owned (scalar ∷ []) memory)))
          (sym (set_scalar t place stored'.kind value bytes is_bytes)) (scalar_takes rest memory ready);
    }

  set_worked : (place after : Place) (value : t.Expr) (store : Option Stored) (scalars : List Initial) → set_initial t names place value store ≡ Some scalars →
      (count : ℕ) × weighing.expr value (suc count) × AreWorkedOut (9 + 4 * count) (set_tasks t place value after store) scalars
  set_worked place after value None scalars is = absurd (none-some scalars is)
  set_worked place after value (Some stored') scalars is =
      let parts = scalar_parts t (variable_in names (t.token place)) (scalar_bytes stored'.kind) (word_as t (known_word t.enough t names) value stored'.kind) stored'.offset scalars is in
      let one = comes place after value stored' parts.variable parts.bytes parts.word parts.is_variable parts.is_bytes parts.is_word parts.fits in (
        one.count,
        one.weighs,
        subst (AreWorkedOut (9 + 4 * one.count) (set_tasks t place value after (Some stored'))) parts.are
            (scalar_worked place after value stored' parts.variable parts.bytes parts.word parts.is_variable parts.is_bytes parts.is_word parts.fits),
      )

  -- an initialiser, in eight steps for each of its parts
  abbrev InitWorked : Place → t.Init → List Initial → Type 0
  InitWorked place init scalars = (count : ℕ) × weighing.init init count × AreWorkedOut (8 * count) (Initialise place init ∷ []) scalars

  -- parts in braces
  parts_worked : (place : Place) (each : t.Init → Option (List Initial)) → ((init : t.Init) (scalars : List Initial) → each init ≡ Some scalars → InitWorked place init scalars) →
      (parts : List t.Init) (scalars : List Initial) → joined_all each parts ≡ Some scalars → (count : ℕ) × AllWeigh weighing.init parts count × AreWorkedOut (8 * count) (map (Initialise place) parts) scalars
  parts_worked place each known [] scalars is = (0, refl, subst (AreWorkedOut 0 []) (same_Some [] scalars is) none_worked)
  parts_worked place each known (part ∷ parts) scalars is =
      let found = joined_parts (each part) (joined_all each parts) scalars is in
      let one = known part found.0 found.2 in
      let others = parts_worked place each known parts found.1 found.3 in (
        one.0 + others.0,
        (one.0, others.0, one.1, others.1, refl),
        less_worked (8 * one.0 + 8 * others.0) (8 * (one.0 + others.0)) (Initialise place part ∷ map (Initialise place) parts) scalars (omega arith)
            (both_worked (8 * one.0) (8 * others.0) (Initialise place part) (map (Initialise place) parts) found.0 found.1 scalars one.2 others.2 found.4),
      )

  unfolds : (steps : ℕ) (place : Place) (init : t.Init) (form : Initialiser t.Expr t.Init) (scalars : List Initial) → t.initialiser init ≡ form → AreWorkedOut steps (initialiser_parts t place form) scalars →
      AreWorkedOut (suc steps) (Initialise place init ∷ []) scalars
  unfolds steps place init form scalars is worked = record {
    within = worked.within;
    takes = λ rest memory ready.
        first_step t statics names stands weighing.expr weighing.nothing weighing.one_more (Initialise place init) rest [] memory (At (initialiser_parts t place (t.initialiser init) ++ rest) [] memory)
        (At rest [] (with_initials owned scalars memory)) steps (λ choices. refl)
        (subst (λ (f : Initialiser t.Expr t.Init). Takes t steps (At (initialiser_parts t place f ++ rest) [] memory) (At rest [] (with_initials owned scalars memory))) (sym is) (worked.takes rest memory ready));
  }

  form_worked : (levels : ℕ) → ((place : Place) (init : t.Init) (scalars : List Initial) → initials_within levels t names place init ≡ Some scalars → InitWorked place init scalars) →
      (place : Place) (init : t.Init) (form : Initialiser t.Expr t.Init) (scalars : List Initial) → t.initialiser init ≡ form → initials_by t names (initials_within levels t names place) place form ≡ Some scalars →
      InitWorked place init scalars
  form_worked levels deeper place init (ValueInit value after) scalars form is =
      let one = set_worked place after value (t.store place value) scalars is in (
        suc (suc one.0),
        weighing.value init value after (suc one.0) form one.1,
        less_worked (suc (9 + 4 * one.0)) (8 * suc (suc one.0)) (Initialise place init ∷ []) scalars (omega arith) (unfolds (9 + 4 * one.0) place init (ValueInit value after) scalars form one.2),
      )
  form_worked levels deeper place init (Braces parts) scalars form is =
      let all = parts_worked place (initials_within levels t names place) (deeper place) parts scalars is in (
        suc all.0,
        weighing.braces init parts all.0 form all.1,
        less_worked (suc (8 * all.0)) (8 * suc all.0) (Initialise place init ∷ []) scalars (omega arith) (unfolds (8 * all.0) place init (Braces parts) scalars form all.2),
      )

  init_worked : (levels : ℕ) (place : Place) (init : t.Init) (scalars : List Initial) → initials_within levels t names place init ≡ Some scalars → InitWorked place init scalars
  init_worked zero place init scalars is = absurd (none-some scalars is)
  init_worked (suc levels) place init scalars is = form_worked levels (init_worked levels) place init (t.initialiser init) scalars refl is

  abbrev sets_tasks : List (Set t.Init) → List (TaskIn t)
  sets_tasks sets = map (λ set. Initialise set.place set.init) sets

  sets_worked : (sets : List (Set t.Init)) (scalars : List Initial) → joined_all (λ set. initials_within t.enough t names set.place set.init) sets ≡ Some scalars →
      (count : ℕ) × AllWeigh (λ (set : Set t.Init). weighing.init set.init) sets count × AreWorkedOut (8 * count) (sets_tasks sets) scalars
  sets_worked [] scalars is = (0, refl, subst (AreWorkedOut 0 []) (same_Some [] scalars is) none_worked)
  sets_worked (set ∷ sets) scalars is =
      let found = joined_parts (initials_within t.enough t names set.place set.init) (joined_all (λ s. initials_within t.enough t names s.place s.init) sets) scalars is in
      let one = init_worked t.enough set.place set.init found.0 found.2 in
      let others = sets_worked sets found.1 found.3 in (
        one.0 + others.0,
        (one.0, others.0, one.1, others.1, refl),
        less_worked (8 * one.0 + 8 * others.0) (8 * (one.0 + others.0)) (Initialise set.place set.init ∷ sets_tasks sets) scalars (omega arith)
            (both_worked (8 * one.0) (8 * others.0) (Initialise set.place set.init) (sets_tasks sets) found.0 found.1 scalars one.2 others.2 found.4),
      )

  -- all of them: in eight steps for each part the machine comes to the memory of the graph
  pub all_written : (scalars : List Initial) → initials_of t names ≡ Some scalars → (memory : List Block) → IsReady memory → (steps : ℕ) (choices : List Choice) →
      ((count : ℕ) → AllWeigh (λ (set : Set t.Init). weighing.init set.init) t.sets count → 8 * count ≤ steps) →
      done_within steps t (At (sets_tasks t.sets) [] memory) choices ≡ Went (At [] [] (with_initials owned (latest scalars) memory)) choices
  all_written scalars is memory ready steps choices few =
      let all = sets_worked t.sets scalars is in
      let end : OutcomeIn t = Went (At [] [] (with_initials owned scalars memory)) choices in
      let takes : (more : ℕ) × (more ≤ 8 * all.0 + 0) × (done_within more t (At (sets_tasks t.sets) [] memory) choices ≡ end) =
      subst (λ (tasks : List (TaskIn t)). (more : ℕ) × (more ≤ 8 * all.0 + 0) × (done_within more t (At tasks [] memory) choices ≡ end)) (append-nil (sets_tasks t.sets)) (all.2.takes [] memory ready 0 choices) in
      let less = few all.0 all.1 in
      let most = takes.1 in
      lasts_on t takes.0 steps (omega arith) (At (sets_tasks t.sets) [] memory) choices (λ stuck. let there = takes.2 in absurd (cc))
      ∙ (takes.2 ∙ ap (λ (m : List Block). Went (At [] [] m) choices) (sym (latest_writes owned scalars memory (have_room memory scalars ready all.2.within))))
