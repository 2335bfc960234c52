-- Conversions and operators.
use Rattle.std.proofs.Common.{◌≡◌, ℕ, List, [], ◌∷◌, Bool, true, false, refl, Some, None, Option, nat_eq, if◌then◌else◌}
use Rattle.cbase.specs.declared.place.Place.{Place}
use Rattle.cbase.specs.declared.tree.operators.BinaryOp.{BinaryOp}
use Rattle.cbase.specs.declared.tree.operators.UnaryOp.{UnaryOp}
use Rattle.bytes_core.specs.declared.block.Block.{Block}
use Rattle.bytes_core.specs.declared.word.Word.{Word}
use Rattle.bytes_core.specs.declared.word.Word.TheVariants.{Plain}
use Rattle.bytes_core.specs.Value.{address_number, is_same_address}
use Rattle.choices.specs.declared.choice.Choice.{Choice}
use Rattle.c_machine.specs.declared.kind.Kind.{Kind}
use Rattle.c_machine.specs.declared.kind.Kind.TheVariants.{Void}
use Rattle.c_machine.specs.declared.task.Task.TheVariants.{Convert, Apply, Operate}
use Rattle.c_machine.specs.Text.{Text}
use Rattle.c_machine.specs.State.{TaskIn, StateIn, Went, Ended, Stuck, with_operand}
use Rattle.c_machine.specs.Step.{or_ended, or_stuck}
use Rattle.c_machine.specs.Words.{as_kind, applied, operated}
use Rattle.flow.specs.declared.instruction.Instr.TheVariants as i
use Rattle.flow.specs.declared.flow_graph.Flow.{Flow}
use Rattle.flow.specs.Holding.{emptied}
use Rattle.flow.specs.Machine as graph
use Rattle.flow.specs.Valid.{IsFlow}
use Rattle.simulation.specs.Edges.{One, Two, NoEdge}
use Rattle.simulation.specs.Names.{Name}
use Rattle.simulation.specs.Running.{Setting, Running}
use Rattle.simulation.specs.Slots.{Slot, InRegister, KnownAs, Suits, is_free, is_in, Holds}
use Rattle.simulation.specs.Turning.{Turns, Calculates, CalculatesWith}
use Rattle.simulation.specs.Worlds.{source, state}
use Rattle.simulation.proofs.Holding.{stands-behind, holds-both_popped, first_of, second_of, holds-known, exchanged, holds-dropped}
use Rattle.simulation.proofs.Meeting.{suits_of, Meets, Good, source_alone, meets_over, knowing, graph_two, graph_ends}
use Rattle.simulation.proofs.Registers.{free_first}
use Rattle.simulation.proofs.Turning.{turned_free, pair_free, other_way, tests_value, turns, calculates, calculates_with}

module _ (t : Text) (flow : Flow) (setting : Setting) (valid : IsFlow flow) where
  abbrev Rest : ℕ → Running → List (List Name) → List (TaskIn t) → List Slot → ℕ → Type 0
  Rest n running scopes tasks slots point = Good t flow setting valid n running scopes tasks slots point

  by_same : (n : ℕ) (same : Bool) (bits bits' : ℕ) (after : StateIn t) (choices : List Choice) (one other : graph.State) (choices' : List Choice) →
      Meets t flow setting valid n (Went (with_operand (Plain bits) after) choices) (graph.Went one choices') →
      Meets t flow setting valid n (Went (with_operand (Plain bits') after) choices) (graph.Went other choices') →
      Meets t flow setting valid n (or_ended (Some (if same then Plain bits else Plain bits')) after choices)
      (graph.unless_barred (if same then graph.Went one choices' else graph.Barred) (graph.unless_barred (if same then graph.Barred else graph.Went other choices') graph.Ended))
  by_same n true bits bits' after choices one other choices' if_same if_other = if_same
  by_same n false bits bits' after choices one other choices' if_same if_other = if_other

  pub converts : (n : ℕ) (running : Running) (scopes : List (List Name)) (tasks : List (TaskIn t)) (slots : List Slot) (point : ℕ) (from to : Kind) (register size : ℕ) (plain : Bool) →
      ((memory : List Block) (word : Word) → Suits size plain word → as_kind memory from to word ≡ word) →
      Rest n running scopes tasks (InRegister register size plain ∷ slots) point →
      Rest n running scopes (Convert from to ∷ tasks) (InRegister register size plain ∷ slots) point
  converts n running scopes tasks slots point from to register size plain same good [] registers w v memory choices holds alike goes = absurd holds.stands
  converts n running scopes tasks slots point from to register size plain same good (word ∷ operands) registers w v memory choices holds alike goes =
      knowing t flow setting valid n _ (state point registers v memory) choices
      (λ is. source_alone t flow setting valid n _ choices _ (rw (same memory word (suits_of flow point registers v memory register size plain word is holds.stands.0 holds.stands.1)) (good (word ∷ operands) registers w v memory choices holds alike goes)))

  pub converts_by : (n : ℕ) (running : Running) (scopes : List (List Name)) (tasks : List (TaskIn t)) (slots : List Slot) (point : ℕ) (from kind : Kind) (register size into size' to : ℕ) (plain plain' : Bool) (turn : List Block → Word → Word) →
      Turns flow slots point register size plain turn to into size' plain' →
      ((memory : List Block) (word : Word) → Suits size plain word → as_kind memory from kind word ≡ turn memory word) →
      Rest n running scopes tasks (InRegister into size' plain' ∷ slots) to →
      Rest n running scopes (Convert from kind ∷ tasks) (InRegister register size plain ∷ slots) point
  converts_by n running scopes tasks slots point from kind register size into size' to plain plain' turn turns' same good [] registers w v memory choices holds alike goes =
      absurd holds.stands
  converts_by n running scopes tasks slots point from kind register size into size' to plain plain' turn turns' same good (word ∷ operands) registers w v memory choices holds alike goes =
      knowing t flow setting valid n _ (state point registers v memory) choices
      (λ is. source_alone t flow setting valid n _ choices _
      (rw (same memory word (suits_of flow point registers v memory register size plain word is holds.stands.0 holds.stands.1))
      (turns t flow setting valid n _ choices slots operands memory v turns' registers word holds
      (λ registers' holds'. good (turn memory word ∷ operands) registers' w v memory choices holds' alike goes))))

  pub converts_asking : (n : ℕ) (running : Running) (scopes : List (List Name)) (tasks : List (TaskIn t)) (slots : List Slot) (point : ℕ) (from kind : Kind) (register size size' test middle off on : ℕ) (plain : Bool) (place place' place'' : Place) →
      One flow point (i.Number test 0 size') middle place → is_free test (InRegister register size plain ∷ slots) ≡ true → is_free register slots ≡ true →
      Two flow middle (i.IfSame register test) off place' (i.IfDifferent register test) on place'' →
      ((memory : List Block) (word : Word) → Suits size plain word → as_kind memory from kind word ≡ Plain (if nat_eq (address_number memory word) 0 then 0 else 1)) →
      Rest n running scopes tasks (KnownAs 0 ∷ slots) off → Rest n running scopes tasks (KnownAs 1 ∷ slots) on →
      Rest n running scopes (Convert from kind ∷ tasks) (InRegister register size plain ∷ slots) point
  converts_asking n running scopes tasks slots point from kind register size size' test middle off on plain place place' place'' edge free free' two same good good' [] registers w v memory choices holds alike goes =
      absurd holds.stands
  converts_asking n running scopes tasks slots point from kind register size size' test middle off on plain place place' place'' edge free free' two same good good' (word ∷ operands) registers w v memory choices holds alike goes =
      knowing t flow setting valid n _ (state point registers v memory) choices
      (λ known. source_alone t flow setting valid n _ choices _
      (rw (same memory word (suits_of flow point registers v memory register size plain word known holds.stands.0 holds.stands.1))
      (tests_value t flow setting valid n _ choices point registers v memory register size size' test middle off on plain place place' place'' word slots operands edge free free' two holds
      (λ registers' is holds'. rw is (good (Plain 0 ∷ operands) registers' w v memory choices (holds-known memory registers' slots 0 operands holds') alike goes))
      (λ registers' is holds'. rw is (good' (Plain 1 ∷ operands) registers' w v memory choices (holds-known memory registers' slots 1 operands holds') alike goes)))))

  pub converts_away : (n : ℕ) (running : Running) (scopes : List (List Name)) (tasks : List (TaskIn t)) (slots : List Slot) (point : ℕ) (from : Kind) (slot : Slot) →
      is_in [] slot ≡ true → Rest n running scopes tasks (KnownAs 0 ∷ slots) point →
      Rest n running scopes (Convert from Void ∷ tasks) (slot ∷ slots) point
  converts_away n running scopes tasks slots point from slot unheld good [] registers w v memory choices holds alike goes = absurd holds.stands
  converts_away n running scopes tasks slots point from slot unheld good (word ∷ operands) registers w v memory choices holds alike goes =
      source_alone t flow setting valid n _ choices _
      (good (Plain 0 ∷ operands) registers w v memory choices (holds-known memory registers slots 0 operands (holds-dropped memory registers slot slots word operands unheld holds)) alike goes)

  pub converts_known : (n : ℕ) (running : Running) (scopes : List (List Name)) (tasks : List (TaskIn t)) (slots : List Slot) (point : ℕ) (from to : Kind) (bits bits' : ℕ) →
      ((memory : List Block) → as_kind memory from to (Plain bits) ≡ Plain bits') → Rest n running scopes tasks (KnownAs bits' ∷ slots) point →
      Rest n running scopes (Convert from to ∷ tasks) (KnownAs bits ∷ slots) point
  converts_known n running scopes tasks slots point from to bits bits' same good [] registers w v memory choices holds alike goes = absurd holds.stands
  converts_known n running scopes tasks slots point from to bits bits' same good (word ∷ operands) registers w v memory choices holds alike goes =
      source_alone t flow setting valid n _ choices _
      (rw (holds.stands.0, same memory)
      (good (Plain bits' ∷ operands) registers w v memory choices
      (holds-known memory registers slots bits' operands (holds-dropped memory registers (KnownAs bits) slots word operands refl holds)) alike goes))

  pub applies_by : (n : ℕ) (running : Running) (scopes : List (List Name)) (tasks : List (TaskIn t)) (slots : List Slot) (point : ℕ) (op : UnaryOp) (kind : Kind) (register size into size' to : ℕ) (plain plain' : Bool) (turn : List Block → Word → Word) →
      Turns flow slots point register size plain turn to into size' plain' →
      ((memory : List Block) (word : Word) → Suits size plain word → applied memory op kind word ≡ Some (turn memory word)) →
      Rest n running scopes tasks (InRegister into size' plain' ∷ slots) to →
      Rest n running scopes (Apply op kind ∷ tasks) (InRegister register size plain ∷ slots) point
  applies_by n running scopes tasks slots point op kind register size into size' to plain plain' turn turns' same good [] registers w v memory choices holds alike goes =
      absurd holds.stands
  applies_by n running scopes tasks slots point op kind register size into size' to plain plain' turn turns' same good (word ∷ operands) registers w v memory choices holds alike goes =
      knowing t flow setting valid n _ (state point registers v memory) choices
      (λ is. source_alone t flow setting valid n _ choices _
      (rw (same memory word (suits_of flow point registers v memory register size plain word is holds.stands.0 holds.stands.1))
      (turns t flow setting valid n _ choices slots operands memory v turns' registers word holds
      (λ registers' holds'. good (turn memory word ∷ operands) registers' w v memory choices holds' alike goes))))

  pub applies : (n : ℕ) (running : Running) (scopes : List (List Name)) (tasks : List (TaskIn t)) (slots : List Slot) (point : ℕ) (op : UnaryOp) (kind : Kind) (register size into size' to : ℕ) (plain plain' : Bool) (calculated : List Block → Word → Option Word) →
      CalculatesWith flow slots point register size plain calculated to into size' plain' →
      ((memory : List Block) (word : Word) → Suits size plain word → applied memory op kind word ≡ calculated memory word) →
      Rest n running scopes tasks (InRegister into size' plain' ∷ slots) to →
      Rest n running scopes (Apply op kind ∷ tasks) (InRegister register size plain ∷ slots) point
  applies n running scopes tasks slots point op kind register size into size' to plain plain' calculated calculates' same good [] registers w v memory choices holds alike goes =
      absurd holds.stands
  applies n running scopes tasks slots point op kind register size into size' to plain plain' calculated calculates' same good (word ∷ operands) registers w v memory choices holds alike goes =
      knowing t flow setting valid n _ (state point registers v memory) choices
      (λ is. source_alone t flow setting valid n _ choices _
      (rw (same memory word (suits_of flow point registers v memory register size plain word is holds.stands.0 holds.stands.1))
      (calculates_with t flow setting valid n (λ found. or_stuck found (source t tasks operands w memory) choices) choices slots operands memory v calculates' registers word holds
      (meets_over t flow setting valid n Stuck graph.Ended tt tt)
      (λ result registers' is' holds'. good (result ∷ operands) registers' w v memory choices holds' alike goes))))

  pub applies_known : (n : ℕ) (running : Running) (scopes : List (List Name)) (tasks : List (TaskIn t)) (slots : List Slot) (point : ℕ) (op : UnaryOp) (kind : Kind) (bits bits' : ℕ) →
      ((memory : List Block) → applied memory op kind (Plain bits) ≡ Some (Plain bits')) → Rest n running scopes tasks (KnownAs bits' ∷ slots) point →
      Rest n running scopes (Apply op kind ∷ tasks) (KnownAs bits ∷ slots) point
  applies_known n running scopes tasks slots point op kind bits bits' same good [] registers w v memory choices holds alike goes = absurd holds.stands
  applies_known n running scopes tasks slots point op kind bits bits' same good (word ∷ operands) registers w v memory choices holds alike goes =
      source_alone t flow setting valid n _ choices _
      (rw (holds.stands.0, same memory)
      (good (Plain bits' ∷ operands) registers w v memory choices
      (holds-known memory registers slots bits' operands (holds-dropped memory registers (KnownAs bits) slots word operands refl holds)) alike goes))

  pub operates : (n : ℕ) (running : Running) (scopes : List (List Name)) (tasks : List (TaskIn t)) (slots : List Slot) (point : ℕ) (op : BinaryOp) (left right : Kind) (one size other size' into size'' to : ℕ) (plain plain' plain'' : Bool) (calculated : List Block → Word → Word → Option Word) →
      Calculates flow slots point one size plain other size' plain' calculated to into size'' plain'' →
      ((memory : List Block) (first second : Word) → Suits size plain first → Suits size' plain' second → operated memory op left right first second ≡ calculated memory first second) →
      Rest n running scopes tasks (InRegister into size'' plain'' ∷ slots) to →
      Rest n running scopes (Operate op left right ∷ tasks) (InRegister other size' plain' ∷ InRegister one size plain ∷ slots) point
  operates n running scopes tasks slots point op left right one size other size' into size'' to plain plain' plain'' calculated calculates' same good [] registers w v memory choices holds alike goes =
      absurd holds.stands
  operates n running scopes tasks slots point op left right one size other size' into size'' to plain plain' plain'' calculated calculates' same good (word ∷ []) registers w v memory choices holds alike goes =
      absurd holds.stands.2
  operates n running scopes tasks slots point op left right one size other size' into size'' to plain plain' plain'' calculated calculates' same good (second ∷ first ∷ operands) registers w v memory choices holds alike goes =
      knowing t flow setting valid n _ (state point registers v memory) choices
      (λ is. source_alone t flow setting valid n _ choices _
      (rw (same memory first second (suits_of flow point registers v memory one size plain first is holds.stands.2.0 holds.stands.2.1)
      (suits_of flow point registers v memory other size' plain' second is holds.stands.0 holds.stands.1))
      (calculates t flow setting valid n (λ found. or_ended found (source t tasks operands w memory) choices) choices slots operands memory v calculates' registers first second holds
      (meets_over t flow setting valid n Ended graph.Ended tt tt)
      (λ result registers' is' holds'. good (result ∷ operands) registers' w v memory choices holds' alike goes))))

  pub compares : (n : ℕ) (running : Running) (scopes : List (List Name)) (tasks : List (TaskIn t)) (slots : List Slot) (point : ℕ) (op : BinaryOp) (left right : Kind) (one size other size' middle one' size1 middle' other' size2 same differs bits bits' : ℕ) (plain plain' plain1 plain2 : Bool) (first second : List Block → Word → Word) (place place' : Place) →
      is_free one (InRegister other size' plain' ∷ slots) ≡ true → is_free other slots ≡ true →
      Turns flow (InRegister other size' plain' ∷ slots) point one size plain first middle one' size1 plain1 →
      Turns flow (InRegister one' size1 plain1 ∷ slots) middle other size' plain' second middle' other' size2 plain2 →
      Two flow middle' (i.IfSame one' other') same place (i.IfDifferent one' other') differs place' →
      ((memory : List Block) (word word' : Word) → Suits size plain word → Suits size' plain' word' →
      operated memory op left right word word' ≡ Some (if is_same_address memory (first memory word) (second memory word') then Plain bits else Plain bits')) →
      Rest n running scopes tasks (KnownAs bits ∷ slots) same → Rest n running scopes tasks (KnownAs bits' ∷ slots) differs →
      Rest n running scopes (Operate op left right ∷ tasks) (InRegister other size' plain' ∷ InRegister one size plain ∷ slots) point
  compares n running scopes tasks slots point op left right one size other size' middle one' size1 middle' other' size2 same differs bits bits' plain plain' plain1 plain2 first second place place' free free' turns' turns'' two same' good good' [] registers w v memory choices holds alike goes =
      absurd holds.stands
  compares n running scopes tasks slots point op left right one size other size' middle one' size1 middle' other' size2 same differs bits bits' plain plain' plain1 plain2 first second place place' free free' turns' turns'' two same' good good' (word ∷ []) registers w v memory choices holds alike goes =
      absurd holds.stands.2
  compares n running scopes tasks slots point op left right one size other size' middle one' size1 middle' other' size2 same differs bits bits' plain plain' plain1 plain2 first second place place' free free' turns' turns'' two same' good good' (right_word ∷ left_word ∷ operands) registers w v memory choices holds alike goes =
      let one_free = turned_free flow (InRegister other size' plain' ∷ slots) turns' free in
      let one_free' = free_first one' other size' plain' slots one_free in
      let other_free = turned_free flow (InRegister one' size1 plain1 ∷ slots) turns'' (other_way one' other size' size1 plain' plain1 slots one_free free') in
      let other_free' = free_first other' one' size1 plain1 slots other_free in
      knowing t flow setting valid n _ (state point registers v memory) choices
      (λ is. source_alone t flow setting valid n _ choices _
      (rw (same' memory left_word right_word (suits_of flow point registers v memory one size plain left_word is holds.stands.2.0 holds.stands.2.1)
      (suits_of flow point registers v memory other size' plain' right_word is holds.stands.0 holds.stands.1))
      (turns t flow setting valid n _ choices (InRegister other size' plain' ∷ slots) (right_word ∷ operands) memory v turns' registers left_word
      (exchanged memory registers (InRegister other size' plain') (InRegister one size plain) slots right_word left_word operands holds)
      (λ registers1 holds1.
      turns t flow setting valid n _ choices (InRegister one' size1 plain1 ∷ slots) (first memory left_word ∷ operands) memory v turns'' registers1 right_word
      (exchanged memory registers1 (InRegister one' size1 plain1) (InRegister other size' plain') slots (first memory left_word) right_word operands holds1)
      (λ registers2 holds2.
      let after : Holds memory (emptied (one' ∷ other' ∷ []) registers2) slots operands =
      holds-both_popped memory (one' ∷ other' ∷ []) registers2 (InRegister other' size2 plain2) (InRegister one' size1 plain1) slots (second memory right_word) (first memory left_word) operands
      (pair_free one' other' slots one_free'.1 other_free'.1) (second_of other' one' []) (first_of one' (other' ∷ [])) holds2 in
      graph_two t flow setting valid n _ choices middle' registers2 v memory (i.IfSame one' other') same place (i.IfDifferent one' other') differs place' two
      (rw (holds2.stands.2.0, holds2.stands.0)
      (by_same n (nat_eq (address_number memory (first memory left_word)) (address_number memory (second memory right_word))) bits bits' (source t tasks operands w memory) choices _ _ choices
      (good (Plain bits ∷ operands) (emptied (one' ∷ other' ∷ []) registers2) w v memory choices (holds-known memory (emptied (one' ∷ other' ∷ []) registers2) slots bits operands after) alike goes)
      (good' (Plain bits' ∷ operands) (emptied (one' ∷ other' ∷ []) registers2) w v memory choices (holds-known memory (emptied (one' ∷ other' ∷ []) registers2) slots bits' operands after) alike goes))))))))

  pub operates_known : (n : ℕ) (running : Running) (scopes : List (List Name)) (tasks : List (TaskIn t)) (slots : List Slot) (point : ℕ) (op : BinaryOp) (left right : Kind) (bits bits' bits'' : ℕ) →
      ((memory : List Block) → operated memory op left right (Plain bits) (Plain bits') ≡ Some (Plain bits'')) →
      Rest n running scopes tasks (KnownAs bits'' ∷ slots) point →
      Rest n running scopes (Operate op left right ∷ tasks) (KnownAs bits' ∷ KnownAs bits ∷ slots) point
  operates_known n running scopes tasks slots point op left right bits bits' bits'' same good [] registers w v memory choices holds alike goes = absurd holds.stands
  operates_known n running scopes tasks slots point op left right bits bits' bits'' same good (word ∷ []) registers w v memory choices holds alike goes =
      absurd holds.stands.1
  operates_known n running scopes tasks slots point op left right bits bits' bits'' same good (second ∷ first ∷ operands) registers w v memory choices holds alike goes =
      source_alone t flow setting valid n _ choices _
      (rw (holds.stands.0, holds.stands.1.0, same memory)
      (good (Plain bits'' ∷ operands) registers w v memory choices
      (holds-known memory registers slots bits'' operands
      (holds-dropped memory registers (KnownAs bits) slots first operands refl (holds-dropped memory registers (KnownAs bits') (KnownAs bits ∷ slots) second (first ∷ operands) refl holds))) alike goes))

  pub operates_never : (n : ℕ) (running : Running) (scopes : List (List Name)) (tasks : List (TaskIn t)) (slots : List Slot) (point : ℕ) (op : BinaryOp) (left right : Kind) (slot slot' : Slot) →
      ((memory : List Block) (first second : Word) → operated memory op left right first second ≡ None) → NoEdge flow point →
      Rest n running scopes (Operate op left right ∷ tasks) (slot' ∷ slot ∷ slots) point
  operates_never n running scopes tasks slots point op left right slot slot' none nowhere [] registers w v memory choices holds alike goes = absurd holds.stands
  operates_never n running scopes tasks slots point op left right slot slot' none nowhere (word ∷ []) registers w v memory choices holds alike goes =
      absurd (stands-behind memory registers slot' (slot ∷ slots) word [] holds.stands)
  operates_never n running scopes tasks slots point op left right slot slot' none nowhere (second ∷ first ∷ operands) registers w v memory choices holds alike goes =
      source_alone t flow setting valid n _ choices _ (rw (none memory first second) (graph_ends t flow setting valid n _ choices point registers v memory nowhere (meets_over t flow setting valid n Ended graph.Ended tt tt)))
