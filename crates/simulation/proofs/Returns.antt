-- `return`, and the end of a body.
use Rattle.std.proofs.Common.{◌≡◌, ℕ, suc, ◌^◌, List, [], ◌∷◌, ◌++◌, length, Bool, true, false, not, refl, sym, ap, subst, ◌∙◌, append-nil, inl, inr, Some, None, Option, nat_eq, if◌then◌else◌}
use Rattle.std.specs.List.{list_any, flat_map}
use Rattle.cbase.specs.declared.place.Place.{Place}
use Rattle.bytes_core.specs.declared.block.Block.{Block}
use Rattle.bytes_core.specs.declared.word.Word.{Word}
use Rattle.bytes_core.specs.declared.word.Word.TheVariants.{Plain}
use Rattle.bytes_core.specs.Fault.{memory_lost}
use Rattle.bytes_core.specs.Loss.{is_lost}
use Rattle.choices.specs.declared.choice.Choice.{Choice}
use Rattle.c_machine.specs.declared.kind.Kind.{Kind}
use Rattle.c_machine.specs.declared.kind.Kind.TheVariants.{Integer, Pointer, Array, Struct, Void}
use Rattle.c_machine.specs.declared.task.Task.TheVariants.{GiveBack, LeaveFunction, EndOfBody}
use Rattle.c_machine.specs.Text.{Text}
use Rattle.c_machine.specs.State.{TaskIn, StateIn, Scope, Frame, Went, Ended, Faulted, blocks_of, objects_of, roots}
use Rattle.c_machine.specs.Choosing.{received, count_of}
use Rattle.c_machine.specs.Statements.{BodyLeft, body_left, oldest}
use Rattle.c_machine.specs.Step.{step, without_objects}
use Rattle.c_machine.specs.Words.{as_kind, scalar_bytes}
use Rattle.flow.specs.declared.instruction.Instr.TheVariants as i
use Rattle.flow.specs.declared.flow_graph.Flow.{Flow}
use Rattle.flow.specs.Holding.{Held, Owned, put, emptied, left as left_variables}
use Rattle.flow.specs.Machine as graph
use Rattle.flow.specs.Valid.{IsFlow}
use Rattle.simulation.specs.Edges.{One}
use Rattle.simulation.specs.Names.{Name, names_of, variables_of, are_new}
use Rattle.simulation.specs.Running.{Setting, Running, Result, GivesNothing, Gives, given_slot}
use Rattle.simulation.specs.Slots.{Slot, InRegister, KnownAs, Suits, is_free, is_whole, are_in, Stands, Holds}
use Rattle.simulation.specs.Turning.{Turns}
use Rattle.simulation.specs.Worlds.{World, Side, AreAlike, source, state}
use Rattle.simulation.proofs.Holding.{stands-behind, holds-put, holds-memory, holds-known}
use Rattle.simulation.proofs.Losses.{lost_alike}
use Rattle.simulation.proofs.Meeting.{suits_of, Meets, Good, source_alone, meets_fault, meets_over, knowing, both_along, graph_along, lost_or, unbarred, goes_before}
use Rattle.simulation.proofs.Scopes.{names-flat, without_same}
use Rattle.simulation.proofs.Turning.{turns}
use Rattle.std.proofs.lemmas.Option.{same_Some, none-some}
use Rattle.c_machine.specs.State.{led_to, doing}
use Rattle.c_machine.specs.declared.task.Task.{Task}
use Rattle.c_machine.specs.Step.{give_back, end_of_body, returned}
use Rattle.simulation.proofs.BuiltIns.{receives}
use Rattle.simulation.proofs.Dropping.{holds-none, holds-no_more, holds-alone, oldest_behind}
use Rattle.simulation.proofs.Losses.{lost_behind}
use Rattle.std.proofs.lemmas.Bool.{both_ways, or_left, or_parts, eq-eqb, false≢true}
use Rattle.simulation.proofs.Meeting.{Continues}
use Rattle.bytes_core.specs.Fault.{block_never_freed}
use Rattle.simulation.specs.Worlds.{AreOwned, IsOwned, IsOutermost}
use Rattle.std.specs.Prelude.{cond}

-- the innermost body is that of the function that runs
body_left-append : {E S I : Type 0} (tasks rest : List (Task E S I)) (left : BodyLeft E S I) → body_left tasks ≡ Some left → body_left (tasks ++ rest) ≡ Some (record left { rest = left.rest ++ rest })
body_left-append [] rest left found = absurd (none-some left found)
body_left-append {E = E} {S = S} {I = I} (EndOfBody is_main result close held ∷ tasks) rest left found =
    let here : BodyLeft E S I = record { result = result; held = held; rest = tasks } in
    ap (λ (one : BodyLeft E S I). Some (record one { rest = one.rest ++ rest })) (same_Some here left found)
body_left-append (other ∷ tasks) rest left found = body_left-append tasks rest left found

-- a value that is moved stands in both registers
holds-moved : (memory : List Block) (into size : ℕ) (plain : Bool) (word : Word) (registers : List Held) (from : ℕ) (slots : List Slot) (words : List Word) →
    is_free into (InRegister from size plain ∷ slots) ≡ true → Holds memory registers (InRegister from size plain ∷ slots) (word ∷ words) →
    Holds memory (put (record { register = into; size = size; word = word }) registers) (InRegister into size plain ∷ InRegister from size plain ∷ slots) (word ∷ word ∷ words)
holds-moved memory into size plain word registers from slots words free holds =
    holds-put memory into size word plain registers (InRegister from size plain ∷ slots) (word ∷ words) free holds.stands.1 holds

-- what a function gives stands in a register or is known
whole_given : (gives : Result) (from : Option ℕ) (slot : Slot) → given_slot gives from ≡ Some slot → is_whole (slot ∷ []) ≡ true
whole_given GivesNothing None slot is = subst (λ one. is_whole (one ∷ []) ≡ true) (same_Some (KnownAs 0) slot is) refl
whole_given GivesNothing (Some from) slot is = absurd (none-some slot is)
whole_given (Gives size plain) None slot is = absurd (none-some slot is)
whole_given (Gives size plain) (Some from) slot is = subst (λ one. is_whole (one ∷ []) ≡ true) (same_Some (InRegister from size plain) slot is) refl

-- no variable is left
owned_none : (names : List Name) (scope : Scope) (one : Owned) → list_any (nat_eq one.variable) (variables_of names) ≡ false → IsOwned one names scope → ⊥
owned_none [] scope one stays is = is
owned_none (name ∷ names) [] one stays is = is
owned_none (name ∷ names) (object ∷ scope) one stays (inl same) =
    both_ways (list_any (nat_eq one.variable) (variables_of (name ∷ names))) stays
    (or_left (nat_eq one.variable name.variable) (list_any (nat_eq one.variable) (variables_of names)) (eq-eqb one.variable name.variable same.0))
owned_none (name ∷ names) (object ∷ scope) one stays (inr is) =
    owned_none names scope one (or_parts (nat_eq one.variable name.variable) (list_any (nat_eq one.variable) (variables_of names)) stays).1 is

left_none : (names : List Name) (scope : Scope) (owned : List Owned) → AreOwned owned names scope → AreOwned (left_variables (variables_of names) owned) [] []
left_none names scope [] are = tt
left_none names scope (one ∷ owned) are = by_test (list_any (nat_eq one.variable) (variables_of names)) refl (left_none names scope owned are.1)
  where
    by_test : (goes : Bool) → list_any (nat_eq one.variable) (variables_of names) ≡ goes → AreOwned (left_variables (variables_of names) owned) [] [] →
        AreOwned (cond (not goes) (one ∷ left_variables (variables_of names) owned) (left_variables (variables_of names) owned)) [] []
    by_test false is more = absurd (owned_none names scope one is are.0)
    by_test true is more = more

module _ (t : Text) (flow : Flow) (setting : Setting) (valid : IsFlow flow) where
  abbrev Rest : ℕ → Running → List (List Name) → List (TaskIn t) → List Slot → ℕ → Type 0
  Rest n running scopes tasks slots point = Good t flow setting valid n running scopes tasks slots point

  -- what the source goes on with
  gives_step : (tasks : List (TaskIn t)) (word : Place) (from : Kind) (left : BodyLeft t.Expr t.Stmt t.Init) (base : ℕ) (value : Word) (operands : List Word) (w : World t) (memory : List Block)
      (choices : List Choice) → body_left tasks ≡ Some left → left.held ≡ base → left.rest ≡ [] → length w.below ≡ base →
      step t (source t (GiveBack word from ∷ tasks) (value ∷ operands) w memory) choices
      ≡ Went (source t (LeaveFunction word ∷ []) (as_kind memory from left.result value ∷ []) w memory) choices
  gives_step tasks word from left base value operands w memory choices found held none below =
      ap (λ (one : Option (BodyLeft t.Expr t.Stmt t.Init)). give_back one word from value
      (record { tasks = tasks ++ w.rest; operands = operands ++ w.below; frame = w.frame; callers = w.callers; statics = w.statics; memory = memory }) choices) (body_left-append tasks w.rest left found)
      ∙ (ap (λ (rest : List (TaskIn t)). Went (record {
        tasks = LeaveFunction word ∷ (rest ++ w.rest);
        operands = as_kind memory from left.result value ∷ oldest left.held (operands ++ w.below);
        frame = w.frame;
        callers = w.callers;
        statics = w.statics;
        memory = memory;
      }) choices) none
      ∙ ap (λ (words : List Word). Went (record {
        tasks = LeaveFunction word ∷ w.rest;
        operands = as_kind memory from left.result value ∷ words;
        frame = w.frame;
        callers = w.callers;
        statics = w.statics;
        memory = memory;
      }) choices) (oldest_behind left.held operands w.below (held ∙ sym below)))

  -- what the graph finds lost at the word the source finds as it leaves the function
  function_lost : (n : ℕ) (running : Running) (scopes : List (List Name)) (slots : List Slot) (word : Place) (to : ℕ) (value : Word) (registers : List Held) (w : World t) (v : Side) (memory : List Block)
      (choices : List Choice) (lost : Bool) → is_lost memory (graph.roots (state to registers v memory)) ≡ lost → is_whole slots ≡ true → Holds memory registers slots (value ∷ []) →
      AreAlike t setting running scopes w v →
      Meets t flow setting valid n (Went (source t (LeaveFunction word ∷ []) (value ∷ []) w memory) choices) (graph.Went (state to registers v memory) choices) →
      Meets t flow setting valid n (Went (source t (LeaveFunction word ∷ []) (value ∷ []) w memory) choices)
      (graph.unless_barred (if lost then graph.Faulted memory_lost word else graph.Went (state to registers v memory) choices) graph.Ended)
  function_lost n running scopes slots word to value registers w v memory choices false is whole holds alike meets = meets
  function_lost n running scopes slots word to value registers w v memory choices true is whole holds alike meets =
      let rest : List ℕ = blocks_of (flat_map objects_of w.callers) ++ (blocks_of w.statics ++ led_to (value ∷ w.below)) in
      let before : is_lost memory (roots (source t [] (value ∷ []) w memory)) ≡ true = lost_alike t setting running scopes [] (value ∷ []) registers slots w v memory to whole holds alike ∙ is in
      let same : is_lost memory (blocks_of (objects_of w.frame ++ []) ++ rest) ≡ true =
      ap (λ (objects : Scope). is_lost memory (blocks_of objects ++ rest)) (append-nil (objects_of w.frame)) ∙ before in
      let after = lost_behind memory (objects_of w.frame) [] rest same in
      source_alone t flow setting valid n _ choices _ (rw after (meets_fault t flow setting valid n memory_lost word))

  -- the step at the `}` of a body
  ended_step : (result : Kind) (bytes : ℕ) (close : Place) (at : StateIn t) (choices : List Choice) → scalar_bytes result ≡ Some bytes →
      end_of_body false result close at choices ≡ received result (doing (LeaveFunction close ∷ []) at) choices
  ended_step (Integer of) bytes close at choices is = refl
  ended_step (Pointer items) bytes close at choices is = refl
  ended_step (Array items) bytes close at choices is = refl
  ended_step (Struct items) bytes close at choices is = refl
  ended_step Void bytes close at choices is = absurd (none-some bytes is)

  -- all blocks of a function are left at once
  function_left : (n : ℕ) (running : Running) (scopes : List (List Name)) (slot : Slot) (from : Option ℕ) (word : Word) (point to : ℕ) (place : Place) (registers : List Held) (w : World t) (v : Side)
      (memory : List Block) (choices : List Choice) → is_whole (slot ∷ []) ≡ true → Holds memory registers (slot ∷ []) (word ∷ []) → AreAlike t setting running scopes w v →
      ((memory' : List Block) (v' : Side) → Meets t flow setting valid n
      (returned t.strict w.callers place (record { tasks = w.rest; operands = word ∷ w.below; frame = []; callers = w.callers; statics = w.statics; memory = memory' }) choices)
      (graph.Went (state to registers (record v' { callers = v.callers; statics = v.statics; outer = v.outer }) memory') choices)) →
      Meets t flow setting valid n (step t (source t (LeaveFunction place ∷ []) (word ∷ []) w memory) choices)
      (graph.unless_barred (graph.unless_lost place (graph.at to (graph.after_scope (variables_of (names_of scopes)) (state point registers v memory))) choices) graph.Ended)
  function_left n running scopes slot from word point to place registers w v memory choices whole holds alike each =
      let memory' : List Block = without_objects (blocks_of (objects_of w.frame)) memory in
      let w' : World t = record w { frame = [] } in
      let v' : Side = record v { variables = left_variables (variables_of (names_of scopes)) v.variables } in
      let alike' : AreAlike t setting running [] w' v' = record {
        frame = tt;
        owned = left_none (names_of scopes) (objects_of w.frame) v.variables alike.owned;
        fixed = alike.fixed;
        others = alike.others;
        held = alike.held;
        outermost = alike.outermost;
      } in
      let holds' : Holds memory' registers (slot ∷ []) (word ∷ []) = holds-memory memory memory' registers (slot ∷ []) (word ∷ []) whole holds in
      rw (without_same v.variables (names_of scopes) (objects_of w.frame) memory (names-flat v.variables scopes w.frame alike.frame))
      (lost_or t flow setting valid n (is_lost memory' (roots (source t [] (word ∷ []) w' memory'))) (is_lost memory' (graph.roots (state to registers v' memory'))) place _ _ choices
      (lost_alike t setting running [] [] (word ∷ []) registers (slot ∷ []) w' v' memory' to whole holds' alike')
      (each memory' v'))

  run_over : (n : ℕ) (strict : Bool) → strict ≡ false → (place : Place) (at : StateIn t) (choices : List Choice) → Meets t flow setting valid n (returned strict [] place at choices) graph.Ended
  run_over n false is place at choices = meets_over t flow setting valid n Ended graph.Ended tt tt
  run_over n true is place at choices = absurd (false≢true (sym is))

  looks : (n : ℕ) (strict : Bool) → strict ≡ true → (place : Place) (at : StateIn t) (choices : List Choice) (other : graph.Outcome) →
      Meets t flow setting valid n (if is_lost at.memory [] then Faulted block_never_freed place else Ended) other → Meets t flow setting valid n (returned strict [] place at choices) other
  looks n true is place at choices other meets = meets
  looks n false is place at choices other meets = absurd (false≢true is)

  -- the caller goes on, or the run is over
  goes_back : (n : ℕ) (running : Running) (slot : Slot) (from : Option ℕ) (word : Word) (registers : List Held) (point : ℕ) (frames : List Frame) (callers : List graph.Caller) (statics' : Scope)
      (rest : List (TaskIn t)) (below : List Word) (v : Side) (memory memory' : List Block) (choices : List Choice) (place : Place) → given_slot running.gives from ≡ Some slot →
      Holds memory' registers (slot ∷ []) (word ∷ []) → running.closes ≡ false → IsOutermost running.closes t.strict frames callers →
      Continues t flow setting valid n running.gives frames callers statics' rest below v.statics v.outer →
      Meets t flow setting valid n (returned t.strict frames place (record { tasks = rest; operands = word ∷ below; frame = []; callers = frames; statics = statics'; memory = memory }) choices)
      (graph.unless_barred (graph.returned (graph.result_of from registers) callers
      (record { point = point; frame = record { variables = v.variables; registers = registers }; callers = callers; statics = v.statics; memory = memory; outer = v.outer }) choices) graph.Ended)
  goes_back n running slot from word registers point [] [] statics' rest below v memory memory' choices place given holds closes outermost goes =
      run_over n t.strict (sym outermost ∙ closes) place (record { tasks = rest; operands = word ∷ below; frame = []; callers = []; statics = statics'; memory = memory }) choices
  goes_back n running slot from word registers point [] (caller ∷ callers) statics' rest below v memory memory' choices place given holds closes outermost goes = absurd outermost
  goes_back n running slot from word registers point (frame ∷ frames) [] statics' rest below v memory memory' choices place given holds closes outermost goes = absurd outermost
  goes_back n running slot from word registers point (frame ∷ frames) (caller ∷ callers) statics' rest below v memory memory' choices place given holds closes outermost goes =
      by_result running.gives from given goes
    where
      by_result : (gives : Result) (from : Option ℕ) → given_slot gives from ≡ Some slot → Continues t flow setting valid n gives (frame ∷ frames) (caller ∷ callers) statics' rest below v.statics v.outer →
          Meets t flow setting valid n (Went (record { tasks = rest; operands = word ∷ below; frame = frame; callers = frames; statics = statics'; memory = memory }) choices)
          (graph.Went (record { point = caller.point; frame = graph.with_result (graph.result_of from registers) caller.into caller.frame; callers = callers; statics = v.statics; memory = memory; outer = v.outer }) choices)
      by_result GivesNothing None given' goes' =
          let stands : Stands memory' registers (KnownAs 0 ∷ []) (word ∷ []) = subst (λ (one : Slot). Stands memory' registers (one ∷ []) (word ∷ [])) (sym (same_Some (KnownAs 0) slot given')) holds.stands in
          rw stands.0 (goes' memory choices)
      by_result GivesNothing (Some register) given' goes' = absurd (none-some slot given')
      by_result (Gives size plain) None given' goes' = absurd (none-some slot given')
      by_result (Gives size plain) (Some register) given' goes' =
          let stands : Stands memory' registers (InRegister register size plain ∷ []) (word ∷ []) =
          subst (λ (one : Slot). Stands memory' registers (one ∷ []) (word ∷ [])) (sym (same_Some (InRegister register size plain) slot given')) holds.stands in
          rw stands.0 (goes' register word memory choices stands.1)

  never_freed : (n : ℕ) (lost : Bool) (place : Place) (next : graph.State) (choices : List Choice) → Meets t flow setting valid n Ended (graph.Went next choices) →
      Meets t flow setting valid n (if lost then Faulted block_never_freed place else Ended) (graph.unless_barred (if lost then graph.Faulted block_never_freed place else graph.Went next choices) graph.Ended)
  never_freed n true place next choices meets = meets_fault t flow setting valid n block_never_freed place
  never_freed n false place next choices meets = meets

  -- main looks for blocks that were never freed, and the run is over
  closes_run : (n : ℕ) (running : Running) (from : Option ℕ) (word : Word) (registers : List Held) (frames : List Frame) (callers : List graph.Caller) (statics' : Scope)
      (rest : List (TaskIn t)) (below : List Word) (v : Side) (memory : List Block) (choices : List Choice) (place : Place) (closing exit to : ℕ) (place' : Place) → running.closes ≡ true →
      One flow closing i.Close exit place → One flow exit (i.Return from) to place' → IsOutermost running.closes t.strict frames callers →
      Meets t flow setting valid n (returned t.strict frames place (record { tasks = rest; operands = word ∷ below; frame = []; callers = frames; statics = statics'; memory = memory }) choices)
      (graph.Went (state closing registers (record v { callers = callers }) memory) choices)
  closes_run n running from word registers (frame ∷ frames) [] statics' rest below v memory choices place closing exit to place' closes close back outermost = absurd outermost
  closes_run n running from word registers [] (caller ∷ callers) statics' rest below v memory choices place closing exit to place' closes close back outermost = absurd outermost
  closes_run n running from word registers (frame ∷ frames) (caller ∷ callers) statics' rest below v memory choices place closing exit to place' closes close back outermost =
      absurd (false≢true (sym outermost ∙ closes))
  closes_run n running from word registers [] [] statics' rest below v memory choices place closing exit to place' closes close back outermost =
      looks n t.strict (sym outermost ∙ closes) place (record { tasks = rest; operands = word ∷ below; frame = []; callers = []; statics = statics'; memory = memory }) choices _
      (graph_along t flow setting valid n (if is_lost memory [] then Faulted block_never_freed place else Ended) choices closing registers (record v { callers = [] }) memory i.Close exit place close
      (never_freed n (is_lost memory []) place _ choices
      (graph_along t flow setting valid n _ choices exit registers (record v { callers = [] }) memory (i.Return from) to place' back (meets_over t flow setting valid n Ended graph.Ended tt tt))))

  pub gives_back : (n : ℕ) (running : Running) (scopes : List (List Name)) (tasks : List (TaskIn t)) (slots : List Slot) (point : ℕ) (word place' : Place) (from : Kind) (left : BodyLeft t.Expr t.Stmt t.Init) (register size middle register' size' result middle' to : ℕ) (plain plain' : Bool) (turn : List Block → Word → Word) (gone : List ℕ) →
      body_left tasks ≡ Some left → left.held ≡ running.base → left.rest ≡ [] → is_free register slots ≡ true →
      Turns flow slots point register size plain turn middle register' size' plain' →
      ((memory : List Block) (word : Word) → Suits size plain word → as_kind memory from left.result word ≡ turn memory word) →
      is_free result (InRegister register' size' plain' ∷ slots) ≡ true → One flow middle (i.Move result register') middle' place' →
      One flow middle' (i.Finish gone) to word → list_any (nat_eq result) gone ≡ false → are_in gone (InRegister register' size' plain' ∷ slots) ≡ true →
      ((m : ℕ) → suc m ≡ n → Rest m running scopes (LeaveFunction word ∷ []) (InRegister result size' plain' ∷ []) to) →
      Rest n running scopes (GiveBack word from ∷ tasks) (InRegister register size plain ∷ slots) point
  gives_back n running scopes tasks slots point word place' from left register size middle register' size' result middle' to plain plain' turn gone found held none free turns' same result_free move edge stays is_gone good [] registers w v memory choices holds alike goes =
      absurd holds.stands
  gives_back n running scopes tasks slots point word place' from left register size middle register' size' result middle' to plain plain' turn gone found held none free turns' same result_free move edge stays is_gone good (word' ∷ operands) registers w v memory choices holds alike goes =
      knowing t flow setting valid n _ (state point registers v memory) choices
      (λ known.
      let suited = suits_of flow point registers v memory register size plain word' known holds.stands.0 holds.stands.1 in
      turns t flow setting valid n _ choices slots operands memory v turns' registers word' holds
      (λ registers1 holds1.
      let value : Word = turn memory word' in
      let new : Held = record { register = result; size = size'; word = value } in
      let after : Holds memory (emptied gone (put new registers1)) (InRegister result size' plain' ∷ []) (value ∷ []) =
      holds-alone memory gone (put new registers1) result size' plain' (InRegister register' size' plain' ∷ slots) value (value ∷ operands) stays is_gone
      (holds-moved memory result size' plain' value registers1 register' slots operands result_free holds1) in
      graph_along t flow setting valid n _ choices middle registers1 v memory (i.Move result register') middle' place' move
      (rw holds1.stands.0
      (both_along t flow setting valid n _ choices middle' (put new registers1) v memory (i.Finish gone) to word edge
      (λ m is. rw (gives_step tasks word from left running.base word' operands w memory choices found held none alike.held, same memory word' suited)
      (function_lost m running scopes (InRegister result size' plain' ∷ []) word to value (emptied gone (put new registers1)) w v memory choices
      (is_lost memory (graph.roots (state to (emptied gone (put new registers1)) v memory))) refl refl after alike
      (good m is (value ∷ []) (emptied gone (put new registers1)) w v memory choices after alike (goes_before t flow setting valid n m running w v is goes))))))))

  pub gives_no_value : (n : ℕ) (running : Running) (scopes : List (List Name)) (tasks : List (TaskIn t)) (slots : List Slot) (point : ℕ) (word : Place) (from : Kind) (left : BodyLeft t.Expr t.Stmt t.Init) (slot : Slot) →
      body_left tasks ≡ Some left → left.held ≡ running.base → left.rest ≡ [] → left.result ≡ Void → are_in [] (slot ∷ slots) ≡ true →
      Rest n running scopes (LeaveFunction word ∷ []) (KnownAs 0 ∷ []) point →
      Rest n running scopes (GiveBack word from ∷ tasks) (slot ∷ slots) point
  gives_no_value n running scopes tasks slots point word from left slot found held none void unheld good [] registers w v memory choices holds alike goes =
      absurd holds.stands
  gives_no_value n running scopes tasks slots point word from left slot found held none void unheld good (word' ∷ operands) registers w v memory choices holds alike goes =
      source_alone t flow setting valid n _ choices _
      (rw (gives_step tasks word from left running.base word' operands w memory choices found held none alike.held, void)
      (good (Plain 0 ∷ []) registers w v memory choices (holds-known memory registers [] 0 [] (holds-none memory registers (slot ∷ slots) (word' ∷ operands) unheld holds)) alike goes))

  pub gives_no_value_finish : (n : ℕ) (running : Running) (scopes : List (List Name)) (tasks : List (TaskIn t)) (slots : List Slot) (point : ℕ) (word : Place) (from : Kind) (left : BodyLeft t.Expr t.Stmt t.Init) (slot : Slot) (gone : List ℕ) (to : ℕ) →
      body_left tasks ≡ Some left → left.held ≡ running.base → left.rest ≡ [] → left.result ≡ Void → One flow point (i.Finish gone) to word →
      are_in gone (slot ∷ slots) ≡ true → ((m : ℕ) → suc m ≡ n → Rest m running scopes (LeaveFunction word ∷ []) (KnownAs 0 ∷ []) to) →
      Rest n running scopes (GiveBack word from ∷ tasks) (slot ∷ slots) point
  gives_no_value_finish n running scopes tasks slots point word from left slot gone to found held none void edge is_gone good [] registers w v memory choices holds alike goes =
      absurd holds.stands
  gives_no_value_finish n running scopes tasks slots point word from left slot gone to found held none void edge is_gone good (word' ∷ operands) registers w v memory choices holds alike goes =
      let after : Holds memory (emptied gone registers) (KnownAs 0 ∷ []) (Plain 0 ∷ []) =
      holds-known memory (emptied gone registers) [] 0 [] (holds-no_more memory gone registers (slot ∷ slots) (word' ∷ operands) is_gone holds) in
      both_along t flow setting valid n _ choices point registers v memory (i.Finish gone) to word edge
      (λ m is. rw (gives_step tasks word from left running.base word' operands w memory choices found held none alike.held, void)
      (function_lost m running scopes (KnownAs 0 ∷ []) word to (Plain 0) (emptied gone registers) w v memory choices
      (is_lost memory (graph.roots (state to (emptied gone registers) v memory))) refl refl after alike
      (good m is (Plain 0 ∷ []) (emptied gone registers) w v memory choices after alike (goes_before t flow setting valid n m running w v is goes))))

  pub ends_main : (n : ℕ) (running : Running) (scopes : List (List Name)) (tasks : List (TaskIn t)) (slots : List Slot) (point : ℕ) (result : Kind) (close : Place) (held : ℕ) →
      Rest n running scopes (LeaveFunction close ∷ tasks) (KnownAs 0 ∷ slots) point →
      Rest n running scopes (EndOfBody true result close held ∷ tasks) slots point
  ends_main n running scopes tasks slots point result close held good operands registers w v memory choices holds alike goes =
      source_alone t flow setting valid n _ choices _ (good (Plain 0 ∷ operands) registers w v memory choices (holds-known memory registers slots 0 operands holds) alike goes)

  pub ends_void : (n : ℕ) (running : Running) (scopes : List (List Name)) (tasks : List (TaskIn t)) (slots : List Slot) (point : ℕ) (close : Place) (held : ℕ) →
      Rest n running scopes (LeaveFunction close ∷ tasks) (KnownAs 0 ∷ slots) point →
      Rest n running scopes (EndOfBody false Void close held ∷ tasks) slots point
  ends_void n running scopes tasks slots point close held good operands registers w v memory choices holds alike goes =
      source_alone t flow setting valid n _ choices _ (good (Plain 0 ∷ operands) registers w v memory choices (holds-known memory registers slots 0 operands holds) alike goes)

  pub ends_with_input : (n : ℕ) (running : Running) (scopes : List (List Name)) (tasks : List (TaskIn t)) (slots : List Slot) (point : ℕ) (result : Kind) (close place : Place) (held bytes into size to : ℕ) (signed truth : Bool) →
      scalar_bytes result ≡ Some bytes → count_of result ≡ (if truth then 2 else 256 ^ size) → is_free into slots ≡ true →
      One flow point (i.Input into size signed truth) to place →
      ((m : ℕ) → suc m ≡ n → Rest m running scopes (LeaveFunction close ∷ tasks) (InRegister into size true ∷ slots) to) →
      Rest n running scopes (EndOfBody false result close held ∷ tasks) slots point
  ends_with_input n running scopes tasks slots point result close place held bytes into size to signed truth is_bytes counted' free edge good operands registers w v memory choices holds alike goes =
      both_along t flow setting valid n _ choices point registers v memory (i.Input into size signed truth) to place edge
      (λ m is. unbarred t flow setting valid m _ _
      (rw (ended_step result bytes close (record { tasks = tasks ++ w.rest; operands = operands ++ w.below; frame = w.frame; callers = w.callers; statics = w.statics; memory = memory }) choices is_bytes)
      (receives t flow setting valid m result into size truth counted' (LeaveFunction close ∷ tasks) operands to registers w v memory choices
      (λ number choices'. good m is (Plain number ∷ operands) (put (record { register = into; size = size; word = Plain number }) registers) w v memory choices'
      (holds-put memory into size (Plain number) true registers slots operands free tt holds) alike (goes_before t flow setting valid n m running w v is goes)))))

  pub returns : (n : ℕ) (running : Running) (scopes : List (List Name)) (point : ℕ) (slot : Slot) (from : Option ℕ) (place place' : Place) (exit to : ℕ) →
      running.closes ≡ false → given_slot running.gives from ≡ Some slot → are_new (names_of scopes) [] ≡ true →
      One flow point (i.Leave (variables_of (names_of scopes))) exit place → One flow exit (i.Return from) to place' →
      Rest n running scopes (LeaveFunction place ∷ []) (slot ∷ []) point
  returns n running scopes point slot from place place' exit to closed given new leave back [] registers w v memory choices holds alike goes = absurd holds.stands
  returns n running scopes point slot from place place' exit to closed given new leave back (word ∷ (other ∷ operands)) registers w v memory choices holds alike goes =
      absurd (stands-behind memory registers slot [] word (other ∷ operands) holds.stands)
  returns n running scopes point slot from place place' exit to closed given new leave back (word ∷ []) registers w v memory choices holds alike goes =
      both_along t flow setting valid n _ choices point registers v memory (i.Leave (variables_of (names_of scopes))) exit place leave
      (λ m is. function_left m running scopes slot from word point exit place registers w v memory choices (whole_given running.gives from slot given) holds alike
      (λ memory' v'. graph_along t flow setting valid m _ choices exit registers (record v' { callers = v.callers; statics = v.statics; outer = v.outer }) memory' (i.Return from) to place' back
      (goes_back m running slot from word registers exit w.callers v.callers w.statics w.rest w.below (record v' { callers = v.callers; statics = v.statics; outer = v.outer }) memory' memory choices place given holds closed alike.outermost (goes_before t flow setting valid n m running w v is goes))))

  pub closes : (n : ℕ) (running : Running) (scopes : List (List Name)) (point : ℕ) (slot : Slot) (from : Option ℕ) (place place' : Place) (closing exit to : ℕ) →
      running.closes ≡ true → given_slot running.gives from ≡ Some slot → are_new (names_of scopes) [] ≡ true →
      One flow point (i.Leave (variables_of (names_of scopes))) closing place → One flow closing i.Close exit place → One flow exit (i.Return from) to place' →
      Rest n running scopes (LeaveFunction place ∷ []) (slot ∷ []) point
  closes n running scopes point slot from place place' closing exit to closed given new leave close back [] registers w v memory choices holds alike goes =
      absurd holds.stands
  closes n running scopes point slot from place place' closing exit to closed given new leave close back (word ∷ (other ∷ operands)) registers w v memory choices holds alike goes =
      absurd (stands-behind memory registers slot [] word (other ∷ operands) holds.stands)
  closes n running scopes point slot from place place' closing exit to closed given new leave close back (word ∷ []) registers w v memory choices holds alike goes =
      both_along t flow setting valid n _ choices point registers v memory (i.Leave (variables_of (names_of scopes))) closing place leave
      (λ m is. function_left m running scopes slot from word point closing place registers w v memory choices (whole_given running.gives from slot given) holds alike
      (λ memory' v'. closes_run m running from word registers w.callers v.callers w.statics w.rest w.below (record v' { callers = v.callers; statics = v.statics; outer = v.outer }) memory' choices place closing exit to place' closed close back alike.outermost))
