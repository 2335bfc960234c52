-- Where in the graph the rest of a run of the source begins: what is still to be done, with its operands in their slots, from a point on.
--
-- There is a rule for each thing that is to be done, and some for what the graph does alone. What is spoken of is the function that runs alone: its blocks,
-- what it has to do up to its end, and the operands that its own unfinished expressions hold. The first operand of a list was computed last.
use Rattle.std.specs.Prelude.{◌≡◌, ℕ, ◌+◌, ◌*◌, ◌^◌, Bool, true, false, not, List, [], ◌∷◌, ◌++◌, map, length, nat_eq, if◌then◌else◌, Option, None, Some, option_map, pos, slice_get}
use Rattle.std.specs.List.{list_any}
use Rattle.cbase.specs.declared.place.Place.{Place}
use Rattle.cbase.specs.declared.tree.operators.BinaryOp.{BinaryOp}
use Rattle.cbase.specs.declared.tree.operators.UnaryOp.{UnaryOp}
use Rattle.bytes_core.specs.declared.block.Block.{Block}
use Rattle.bytes_core.specs.declared.word.Word.{Word}
use Rattle.bytes_core.specs.declared.word.Word.TheVariants.{Plain}
use Rattle.bytes_core.specs.Value.{address_number, is_same_address, moved}
use Rattle.typing.specs.ctypes.Integers.{int}
use Rattle.c_machine.specs.declared.built_in.BuiltIn.{BuiltIn}
use Rattle.c_machine.specs.declared.built_in.BuiltIn.TheVariants.{Malloc, Calloc, Free, Memset, Memcpy, Memmove, EndsRun, Assume, Expect, GivesInput}
use Rattle.c_machine.specs.declared.kind.Kind.{Kind}
use Rattle.c_machine.specs.declared.kind.Kind.TheVariants.{Integer, Void}
use Rattle.c_machine.specs.declared.object.Object.{Object}
use Rattle.c_machine.specs.declared.task.Task.TheVariants.{ValueOf, AddressOf, Push, ObjectAt, Shift, Load, Convert, Apply, Operate, Answer, AndThen, OrElse, Pick, Drop, Store, Update, CountBy, CopyStruct, RunBuiltIn, CallDefined, EndRun, Finish, Keep, Execute, Branch, Test, Again, OpenBlock, MakeObject, LeaveBlock, Zero, Initialise, BreakAt, ContinueAt, GiveBack, LeaveFunction, EndOfBody, Unknown}
use Rattle.c_machine.specs.Text.{Clause, Eval, For, Continue, Function, Text}
use Rattle.c_machine.specs.State.{TaskIn}
use Rattle.c_machine.specs.Blocks.{initialiser_tasks}
use Rattle.c_machine.specs.Choosing.{count_of}
use Rattle.c_machine.specs.Expressions.{value_kind, value_tasks, address_tasks}
use Rattle.c_machine.specs.Statements.{statement_tasks, test_tasks, again_tasks, branch_tasks, branch_place, LoopLeft, loop_left, after_break, after_continue, BodyLeft, body_left}
use Rattle.c_machine.specs.Step.{counting}
use Rattle.c_machine.specs.Words.{scalar_bytes, is_pointer, as_kind, told, applied, operated, kind_after}
use Rattle.flow.specs.declared.instruction.Instr.TheVariants as i
use Rattle.flow.specs.declared.flow_graph.Flow.{Flow}
use Rattle.simulation.specs.Edges.{One, Two, NoEdge}
use Rattle.simulation.specs.Names.{Name, names_of, variables_of, variable_in, is_other, are_new, AreMade}
use Rattle.simulation.specs.Running.{Setting, Running, Argument, registers_of, slots_of, AreTaken, result_slot, is_free_result, given_slot}
use Rattle.simulation.specs.Slots.{Slot, InRegister, KnownAs, Truth, Gone, Suits, is_free, is_whole, are_free, is_in, are_in}
use Rattle.simulation.specs.Standing.{HasStanding}
use Rattle.simulation.specs.Turning.{Turns, Calculates, CalculatesWith}

-- where a run goes on
pub record Stop (t : Text) : Type 0 where
  pub scopes : List (List Name)
  pub tasks : List (TaskIn t)
  pub slots : List Slot
  pub point : ℕ

pub data IsIn (t : Text) : Stop t → List (Stop t) → Type 0 where
  First : {stop : Stop t} {stops : List (Stop t)} → IsIn t stop (stop ∷ stops)
  Behind : {stop other : Stop t} {stops : List (Stop t)} → IsIn t stop stops → IsIn t stop (other ∷ stops)

-- `memcpy` asks that its ranges share no byte, and `memmove` does not
abbrev pub copying : Bool → BuiltIn
copying true = Memcpy
copying false = Memmove

-- a statement for which a turn of its loop does nothing: `;` and `continue`
abbrev pub is_idle : {E S I : Type 0} → Clause E S I → Bool
is_idle (Eval None) = true
is_idle Continue = true
is_idle other = false

-- A run may go on at a stop of `now`; at one of `later` it may when both machines have made a step.
pub data Lowered (t : Text) (flow : Flow) (setting : Setting) (running : Running) : List (Stop t) → List (Stop t) → List (List Name) → List (TaskIn t) → List Slot → ℕ → Type 0 where
  Ends : {now later : List (Stop t)} {scopes : List (List Name)} {tasks : List (TaskIn t)} {slots : List Slot} {point : ℕ}
      → IsIn t (record { scopes = scopes; tasks = tasks; slots = slots; point = point }) now
      → Lowered t flow setting running now later scopes tasks slots point
  Loop : {now later : List (Stop t)} {scopes : List (List Name)} {tasks : List (TaskIn t)} {slots : List Slot} {point : ℕ}
      → Lowered t flow setting running now (record { scopes = scopes; tasks = tasks; slots = slots; point = point } ∷ later) scopes tasks slots point
      → Lowered t flow setting running now later scopes tasks slots point
  -- what stands at a point may be used there
  WhereStands : {now later : List (Stop t)} {scopes : List (List Name)} {tasks : List (TaskIn t)} {slots : List Slot} {point : ℕ}
      → (HasStanding flow scopes slots point → Lowered t flow setting running now later scopes tasks slots point)
      → Lowered t flow setting running now later scopes tasks slots point
  -- trees make room for their parts
  Values : {now later : List (Stop t)} {scopes : List (List Name)} {tasks : List (TaskIn t)} {slots : List Slot} {point : ℕ}
      (expr : t.Expr)
      → Lowered t flow setting running now later scopes (value_tasks t expr ++ tasks) slots point
      → Lowered t flow setting running now later scopes (ValueOf expr ∷ tasks) slots point
  Addresses : {now later : List (Stop t)} {scopes : List (List Name)} {tasks : List (TaskIn t)} {slots : List Slot} {point : ℕ}
      (expr : t.Expr)
      → Lowered t flow setting running now later scopes (address_tasks t expr ++ tasks) slots point
      → Lowered t flow setting running now later scopes (AddressOf expr ∷ tasks) slots point
  Executes : {now later : List (Stop t)} {scopes : List (List Name)} {tasks : List (TaskIn t)} {slots : List Slot} {point : ℕ}
      (stmt : t.Stmt)
      → Lowered t flow setting running now later scopes (statement_tasks t stmt (length slots + running.base) ++ tasks) slots point
      → Lowered t flow setting running now later scopes (Execute stmt ∷ tasks) slots point
  -- where the graph goes along an edge that makes no object
  ExecutesAlong : {now later : List (Stop t)} {scopes : List (List Name)} {tasks : List (TaskIn t)} {slots : List Slot} {point : ℕ}
      (stmt : t.Stmt) (to : ℕ) (place : Place)
      → One flow point (i.Enter []) to place
      → Lowered t flow setting running (later ++ now) [] scopes (statement_tasks t stmt (length slots + running.base) ++ tasks) slots to
      → Lowered t flow setting running now later scopes (Execute stmt ∷ tasks) slots point
  Tests : {now later : List (Stop t)} {scopes : List (List Name)} {tasks : List (TaskIn t)} {slots : List Slot} {point : ℕ}
      (stmt : t.Stmt)
      → Lowered t flow setting running now later scopes (test_tasks t stmt (length slots + running.base) ++ tasks) slots point
      → Lowered t flow setting running now later scopes (Test stmt ∷ tasks) slots point
  Repeats : {now later : List (Stop t)} {scopes : List (List Name)} {tasks : List (TaskIn t)} {slots : List Slot} {point : ℕ}
      (stmt : t.Stmt) (held : ℕ)
      → Lowered t flow setting running now later scopes (again_tasks t stmt ++ tasks) slots point
      → Lowered t flow setting running now later scopes (Again stmt held ∷ tasks) slots point
  Initialises : {now later : List (Stop t)} {scopes : List (List Name)} {tasks : List (TaskIn t)} {slots : List Slot} {point : ℕ}
      (place : Place) (init : t.Init)
      → Lowered t flow setting running now later scopes (initialiser_tasks t place init ++ tasks) slots point
      → Lowered t flow setting running now later scopes (Initialise place init ∷ tasks) slots point
  -- numbers, in registers and known; a number is put over what is let go of, or into a register in which no operand stands
  Numbers : {now later : List (Stop t)} {scopes : List (List Name)} {tasks : List (TaskIn t)} {slots : List Slot} {point : ℕ}
      (bits into size to : ℕ) (place : Place)
      → One flow point (i.Number into bits size) to place → is_free into slots ≡ true
      → Lowered t flow setting running (later ++ now) [] scopes tasks (InRegister into size true ∷ slots) to
      → Lowered t flow setting running now later scopes (Push bits ∷ tasks) slots point
  IsKnown : {now later : List (Stop t)} {scopes : List (List Name)} {tasks : List (TaskIn t)} {slots : List Slot} {point : ℕ}
      (bits : ℕ)
      → Lowered t flow setting running now later scopes tasks (KnownAs bits ∷ slots) point
      → Lowered t flow setting running now later scopes (Push bits ∷ tasks) slots point
  Makes : {now later : List (Stop t)} {scopes : List (List Name)} {tasks : List (TaskIn t)} {slots : List Slot} {point : ℕ}
      (bits into size to : ℕ) (place : Place)
      → One flow point (i.Number into bits size) to place → is_free into slots ≡ true
      → Lowered t flow setting running now later scopes tasks (InRegister into size true ∷ slots) to
      → Lowered t flow setting running now later scopes tasks (KnownAs bits ∷ slots) point
  Puts : {now later : List (Stop t)} {scopes : List (List Name)} {tasks : List (TaskIn t)} {slots : List Slot} {point : ℕ}
      (register bits size to : ℕ) (place : Place)
      → One flow point (i.Number register bits size) to place → is_free register slots ≡ true
      → Lowered t flow setting running now later scopes tasks slots to
      → Lowered t flow setting running now later scopes tasks slots point
  -- that a register holds a number is forgotten
  MayLead : {now later : List (Stop t)} {scopes : List (List Name)} {tasks : List (TaskIn t)} {slots : List Slot} {point : ℕ}
      (register size : ℕ)
      → Lowered t flow setting running now later scopes tasks (InRegister register size false ∷ slots) point
      → Lowered t flow setting running now later scopes tasks (InRegister register size true ∷ slots) point
  Forgets : {now later : List (Stop t)} {scopes : List (List Name)} {tasks : List (TaskIn t)} {slots : List Slot} {point : ℕ}
      (register size size' bits to : ℕ) (plain : Bool) (place : Place)
      → One flow point (i.Number register bits size') to place → is_free register slots ≡ true
      → Lowered t flow setting running now later scopes tasks (Gone ∷ slots) to
      → Lowered t flow setting running now later scopes tasks (InRegister register size plain ∷ slots) point
  LetsGo : {now later : List (Stop t)} {scopes : List (List Name)} {tasks : List (TaskIn t)} {slots : List Slot} {point : ℕ}
      (slot : Slot)
      → is_in [] slot ≡ true
      → Lowered t flow setting running now later scopes tasks (Gone ∷ slots) point
      → Lowered t flow setting running now later scopes tasks (slot ∷ slots) point
  Drops : {now later : List (Stop t)} {scopes : List (List Name)} {tasks : List (TaskIn t)} {slots : List Slot} {point : ℕ}
      (slot : Slot)
      → is_in [] slot ≡ true
      → Lowered t flow setting running now later scopes tasks slots point
      → Lowered t flow setting running now later scopes (Drop ∷ tasks) (slot ∷ slots) point
  -- addresses
  Objects : {now later : List (Stop t)} {scopes : List (List Name)} {tasks : List (TaskIn t)} {slots : List Slot} {point : ℕ}
      (token variable into to : ℕ) (place : Place)
      → variable_in (names_of scopes) token ≡ Some variable → One flow point (i.Address into variable) to place → is_free into slots ≡ true
      → Lowered t flow setting running (later ++ now) [] scopes tasks (InRegister into 8 false ∷ slots) to
      → Lowered t flow setting running now later scopes (ObjectAt token ∷ tasks) slots point
  Statics : {now later : List (Stop t)} {scopes : List (List Name)} {tasks : List (TaskIn t)} {slots : List Slot} {point : ℕ}
      (token variable into to : ℕ) (place : Place)
      → variable_in (names_of scopes) token ≡ None → variable_in setting.statics token ≡ Some variable → is_other variable (names_of scopes) ≡ true
      → One flow point (i.Address into variable) to place → is_free into slots ≡ true
      → Lowered t flow setting running (later ++ now) [] scopes tasks (InRegister into 8 false ∷ slots) to
      → Lowered t flow setting running now later scopes (ObjectAt token ∷ tasks) slots point
  Shifts : {now later : List (Stop t)} {scopes : List (List Name)} {tasks : List (TaskIn t)} {slots : List Slot} {point : ℕ}
      (bytes at size into to : ℕ) (plain : Bool) (place : Place)
      → One flow point (i.Shift into at (pos bytes)) to place → is_free into slots ≡ true → is_free at slots ≡ true
      → Lowered t flow setting running (later ++ now) [] scopes tasks (InRegister into 8 plain ∷ slots) to
      → Lowered t flow setting running now later scopes (Shift bytes ∷ tasks) (InRegister at size plain ∷ slots) point
  ShiftsNothing : {now later : List (Stop t)} {scopes : List (List Name)} {tasks : List (TaskIn t)} {slots : List Slot} {point : ℕ}
      (register : ℕ) (plain : Bool)
      → Lowered t flow setting running now later scopes tasks (InRegister register 8 plain ∷ slots) point
      → Lowered t flow setting running now later scopes (Shift 0 ∷ tasks) (InRegister register 8 plain ∷ slots) point
  ShiftsKnown : {now later : List (Stop t)} {scopes : List (List Name)} {tasks : List (TaskIn t)} {slots : List Slot} {point : ℕ}
      (bytes bits bits' : ℕ)
      → moved (Plain bits) (pos bytes) ≡ Plain bits'
      → Lowered t flow setting running now later scopes tasks (KnownAs bits' ∷ slots) point
      → Lowered t flow setting running now later scopes (Shift bytes ∷ tasks) (KnownAs bits ∷ slots) point
  -- loads; arrays and structs are not loaded
  Loads : {now later : List (Stop t)} {scopes : List (List Name)} {tasks : List (TaskIn t)} {slots : List Slot} {point : ℕ}
      (kind : Kind) (place : Place) (plain : Bool) (bytes at size into to : ℕ)
      → scalar_bytes kind ≡ Some bytes → One flow point (i.Read into at bytes (is_pointer kind)) to place → is_free into slots ≡ true → is_free at slots ≡ true
      → Lowered t flow setting running (later ++ now) [] scopes tasks (InRegister into bytes (not (is_pointer kind)) ∷ slots) to
      → Lowered t flow setting running now later scopes (Load place kind ∷ tasks) (InRegister at size plain ∷ slots) point
  LoadsNothing : {now later : List (Stop t)} {scopes : List (List Name)} {tasks : List (TaskIn t)} {slots : List Slot} {point : ℕ}
      (kind : Kind) (place : Place) (slot : Slot)
      → scalar_bytes kind ≡ None
      → Lowered t flow setting running now later scopes tasks (slot ∷ slots) point
      → Lowered t flow setting running now later scopes (Load place kind ∷ tasks) (slot ∷ slots) point
  -- conversions: a value stays as it is, it is converted, it is let go of, or it is known
  Converts : {now later : List (Stop t)} {scopes : List (List Name)} {tasks : List (TaskIn t)} {slots : List Slot} {point : ℕ}
      (from to : Kind) (register size : ℕ) (plain : Bool)
      → ((memory : List Block) (word : Word) → Suits size plain word → as_kind memory from to word ≡ word)
      → Lowered t flow setting running now later scopes tasks (InRegister register size plain ∷ slots) point
      → Lowered t flow setting running now later scopes (Convert from to ∷ tasks) (InRegister register size plain ∷ slots) point
  ConvertsBy : {now later : List (Stop t)} {scopes : List (List Name)} {tasks : List (TaskIn t)} {slots : List Slot} {point : ℕ}
      (from kind : Kind) (register size into size' to : ℕ) (plain plain' : Bool) (turn : List Block → Word → Word)
      → Turns flow slots point register size plain turn to into size' plain'
      → ((memory : List Block) (word : Word) → Suits size plain word → as_kind memory from kind word ≡ turn memory word)
      → Lowered t flow setting running now later scopes tasks (InRegister into size' plain' ∷ slots) to
      → Lowered t flow setting running now later scopes (Convert from kind ∷ tasks) (InRegister register size plain ∷ slots) point
  ConvertsAsking : {now later : List (Stop t)} {scopes : List (List Name)} {tasks : List (TaskIn t)} {slots : List Slot} {point : ℕ}
      (from kind : Kind) (register size size' test middle off on : ℕ) (plain : Bool) (place place' place'' : Place)
      → One flow point (i.Number test 0 size') middle place → is_free test (InRegister register size plain ∷ slots) ≡ true → is_free register slots ≡ true
      → Two flow middle (i.IfSame register test) off place' (i.IfDifferent register test) on place''
      → ((memory : List Block) (word : Word) → Suits size plain word → as_kind memory from kind word ≡ Plain (if nat_eq (address_number memory word) 0 then 0 else 1))
      → Lowered t flow setting running now later scopes tasks (KnownAs 0 ∷ slots) off
      → Lowered t flow setting running now later scopes tasks (KnownAs 1 ∷ slots) on
      → Lowered t flow setting running now later scopes (Convert from kind ∷ tasks) (InRegister register size plain ∷ slots) point
  ConvertsAway : {now later : List (Stop t)} {scopes : List (List Name)} {tasks : List (TaskIn t)} {slots : List Slot} {point : ℕ}
      (from : Kind) (slot : Slot)
      → is_in [] slot ≡ true
      → Lowered t flow setting running now later scopes tasks (KnownAs 0 ∷ slots) point
      → Lowered t flow setting running now later scopes (Convert from Void ∷ tasks) (slot ∷ slots) point
  ConvertsKnown : {now later : List (Stop t)} {scopes : List (List Name)} {tasks : List (TaskIn t)} {slots : List Slot} {point : ℕ}
      (from to : Kind) (bits bits' : ℕ)
      → ((memory : List Block) → as_kind memory from to (Plain bits) ≡ Plain bits')
      → Lowered t flow setting running now later scopes tasks (KnownAs bits' ∷ slots) point
      → Lowered t flow setting running now later scopes (Convert from to ∷ tasks) (KnownAs bits ∷ slots) point
  -- operators on one value: a conversion, an operation with a number, or what is known
  AppliesBy : {now later : List (Stop t)} {scopes : List (List Name)} {tasks : List (TaskIn t)} {slots : List Slot} {point : ℕ}
      (op : UnaryOp) (kind : Kind) (register size into size' to : ℕ) (plain plain' : Bool) (turn : List Block → Word → Word)
      → Turns flow slots point register size plain turn to into size' plain'
      → ((memory : List Block) (word : Word) → Suits size plain word → applied memory op kind word ≡ Some (turn memory word))
      → Lowered t flow setting running now later scopes tasks (InRegister into size' plain' ∷ slots) to
      → Lowered t flow setting running now later scopes (Apply op kind ∷ tasks) (InRegister register size plain ∷ slots) point
  Applies : {now later : List (Stop t)} {scopes : List (List Name)} {tasks : List (TaskIn t)} {slots : List Slot} {point : ℕ}
      (op : UnaryOp) (kind : Kind) (register size into size' to : ℕ) (plain plain' : Bool) (calculated : List Block → Word → Option Word)
      → CalculatesWith flow slots point register size plain calculated to into size' plain'
      → ((memory : List Block) (word : Word) → Suits size plain word → applied memory op kind word ≡ calculated memory word)
      → Lowered t flow setting running now later scopes tasks (InRegister into size' plain' ∷ slots) to
      → Lowered t flow setting running now later scopes (Apply op kind ∷ tasks) (InRegister register size plain ∷ slots) point
  AppliesKnown : {now later : List (Stop t)} {scopes : List (List Name)} {tasks : List (TaskIn t)} {slots : List Slot} {point : ℕ}
      (op : UnaryOp) (kind : Kind) (bits bits' : ℕ)
      → ((memory : List Block) → applied memory op kind (Plain bits) ≡ Some (Plain bits'))
      → Lowered t flow setting running now later scopes tasks (KnownAs bits' ∷ slots) point
      → Lowered t flow setting running now later scopes (Apply op kind ∷ tasks) (KnownAs bits ∷ slots) point
  -- operators on two values; where there is no value the run ends
  Operates : {now later : List (Stop t)} {scopes : List (List Name)} {tasks : List (TaskIn t)} {slots : List Slot} {point : ℕ}
      (op : BinaryOp) (left right : Kind) (one size other size' into size'' to : ℕ) (plain plain' plain'' : Bool) (calculated : List Block → Word → Word → Option Word)
      → Calculates flow slots point one size plain other size' plain' calculated to into size'' plain''
      → ((memory : List Block) (first second : Word) → Suits size plain first → Suits size' plain' second → operated memory op left right first second ≡ calculated memory first second)
      → Lowered t flow setting running now later scopes tasks (InRegister into size'' plain'' ∷ slots) to
      → Lowered t flow setting running now later scopes (Operate op left right ∷ tasks) (InRegister other size' plain' ∷ InRegister one size plain ∷ slots) point
  Compares : {now later : List (Stop t)} {scopes : List (List Name)} {tasks : List (TaskIn t)} {slots : List Slot} {point : ℕ}
      (op : BinaryOp) (left right : Kind) (one size other size' middle one' size1 middle' other' size2 same differs bits bits' : ℕ) (plain plain' plain1 plain2 : Bool) (first second : List Block → Word → Word) (place place' : Place)
      → is_free one (InRegister other size' plain' ∷ slots) ≡ true → is_free other slots ≡ true
      → Turns flow (InRegister other size' plain' ∷ slots) point one size plain first middle one' size1 plain1
      → Turns flow (InRegister one' size1 plain1 ∷ slots) middle other size' plain' second middle' other' size2 plain2
      → Two flow middle' (i.IfSame one' other') same place (i.IfDifferent one' other') differs place'
      → ((memory : List Block) (word word' : Word) → Suits size plain word → Suits size' plain' word' →
      operated memory op left right word word' ≡ Some (if is_same_address memory (first memory word) (second memory word') then Plain bits else Plain bits'))
      → Lowered t flow setting running now later scopes tasks (KnownAs bits ∷ slots) same
      → Lowered t flow setting running now later scopes tasks (KnownAs bits' ∷ slots) differs
      → Lowered t flow setting running now later scopes (Operate op left right ∷ tasks) (InRegister other size' plain' ∷ InRegister one size plain ∷ slots) point
  OperatesKnown : {now later : List (Stop t)} {scopes : List (List Name)} {tasks : List (TaskIn t)} {slots : List Slot} {point : ℕ}
      (op : BinaryOp) (left right : Kind) (bits bits' bits'' : ℕ)
      → ((memory : List Block) → operated memory op left right (Plain bits) (Plain bits') ≡ Some (Plain bits''))
      → Lowered t flow setting running now later scopes tasks (KnownAs bits'' ∷ slots) point
      → Lowered t flow setting running now later scopes (Operate op left right ∷ tasks) (KnownAs bits' ∷ KnownAs bits ∷ slots) point
  OperatesNever : {now later : List (Stop t)} {scopes : List (List Name)} {tasks : List (TaskIn t)} {slots : List Slot} {point : ℕ}
      (op : BinaryOp) (left right : Kind) (slot slot' : Slot)
      → ((memory : List Block) (first second : Word) → operated memory op left right first second ≡ None) → NoEdge flow point
      → Lowered t flow setting running now later scopes (Operate op left right ∷ tasks) (slot' ∷ slot ∷ slots) point
  -- whether a value is true, and what that decides
  Asks : {now later : List (Stop t)} {scopes : List (List Name)} {tasks : List (TaskIn t)} {slots : List Slot} {point : ℕ}
      (register size size' test middle off on : ℕ) (plain : Bool) (place place' place'' : Place)
      → One flow point (i.Number test 0 size') middle place → is_free test (InRegister register size plain ∷ slots) ≡ true → is_free register slots ≡ true
      → Two flow middle (i.IfSame register test) off place' (i.IfDifferent register test) on place''
      → Lowered t flow setting running now later scopes tasks (Truth false ∷ slots) off
      → Lowered t flow setting running now later scopes tasks (Truth true ∷ slots) on
      → Lowered t flow setting running now later scopes tasks (InRegister register size plain ∷ slots) point
  IsTrues : {now later : List (Stop t)} {scopes : List (List Name)} {tasks : List (TaskIn t)} {slots : List Slot} {point : ℕ}
      (bits : ℕ)
      → Lowered t flow setting running now later scopes tasks (Truth (not (nat_eq bits 0)) ∷ slots) point
      → Lowered t flow setting running now later scopes tasks (KnownAs bits ∷ slots) point
  Answers : {now later : List (Stop t)} {scopes : List (List Name)} {tasks : List (TaskIn t)} {slots : List Slot} {point : ℕ}
      (asked truth : Bool) (bits : ℕ)
      → told asked truth ≡ Plain bits
      → Lowered t flow setting running now later scopes tasks (KnownAs bits ∷ slots) point
      → Lowered t flow setting running now later scopes (Answer asked ∷ tasks) (Truth truth ∷ slots) point
  AndsOn : {now later : List (Stop t)} {scopes : List (List Name)} {tasks : List (TaskIn t)} {slots : List Slot} {point : ℕ}
      (right : t.Expr)
      → Lowered t flow setting running now later scopes (ValueOf right ∷ Answer true ∷ tasks) slots point
      → Lowered t flow setting running now later scopes (AndThen right ∷ tasks) (Truth true ∷ slots) point
  AndsOff : {now later : List (Stop t)} {scopes : List (List Name)} {tasks : List (TaskIn t)} {slots : List Slot} {point : ℕ}
      (right : t.Expr)
      → Lowered t flow setting running now later scopes tasks (KnownAs 0 ∷ slots) point
      → Lowered t flow setting running now later scopes (AndThen right ∷ tasks) (Truth false ∷ slots) point
  OrsOn : {now later : List (Stop t)} {scopes : List (List Name)} {tasks : List (TaskIn t)} {slots : List Slot} {point : ℕ}
      (right : t.Expr)
      → Lowered t flow setting running now later scopes tasks (KnownAs 1 ∷ slots) point
      → Lowered t flow setting running now later scopes (OrElse right ∷ tasks) (Truth true ∷ slots) point
  OrsOff : {now later : List (Stop t)} {scopes : List (List Name)} {tasks : List (TaskIn t)} {slots : List Slot} {point : ℕ}
      (right : t.Expr)
      → Lowered t flow setting running now later scopes (ValueOf right ∷ Answer true ∷ tasks) slots point
      → Lowered t flow setting running now later scopes (OrElse right ∷ tasks) (Truth false ∷ slots) point
  PicksOne : {now later : List (Stop t)} {scopes : List (List Name)} {tasks : List (TaskIn t)} {slots : List Slot} {point : ℕ}
      (kind : Kind) (one other : t.Expr)
      → Lowered t flow setting running now later scopes (ValueOf one ∷ Convert (value_kind t one) kind ∷ tasks) slots point
      → Lowered t flow setting running now later scopes (Pick kind one other ∷ tasks) (Truth true ∷ slots) point
  PicksOther : {now later : List (Stop t)} {scopes : List (List Name)} {tasks : List (TaskIn t)} {slots : List Slot} {point : ℕ}
      (kind : Kind) (one other : t.Expr)
      → Lowered t flow setting running now later scopes (ValueOf other ∷ Convert (value_kind t other) kind ∷ tasks) slots point
      → Lowered t flow setting running now later scopes (Pick kind one other ∷ tasks) (Truth false ∷ slots) point
  -- stores, whose value is let go of or kept
  Stores : {now later : List (Stop t)} {scopes : List (List Name)} {tasks : List (TaskIn t)} {slots : List Slot} {point : ℕ}
      (kind : Kind) (place : Place) (bytes at from size size' to : ℕ) (plain plain' : Bool)
      → scalar_bytes kind ≡ Some bytes → is_whole slots ≡ true → are_free (at ∷ from ∷ []) slots ≡ true → One flow point (i.Write at from bytes) to place
      → Lowered t flow setting running (later ++ now) [] scopes tasks (Gone ∷ slots) to
      → Lowered t flow setting running now later scopes (Store place kind ∷ tasks) (InRegister from size plain' ∷ InRegister at size' plain ∷ slots) point
  StoresKept : {now later : List (Stop t)} {scopes : List (List Name)} {tasks : List (TaskIn t)} {slots : List Slot} {point : ℕ}
      (kind : Kind) (place place' : Place) (bytes at from kept size size' middle to : ℕ) (plain plain' : Bool)
      → scalar_bytes kind ≡ Some bytes → is_whole slots ≡ true → are_free (at ∷ from ∷ []) slots ≡ true
      → is_free kept (InRegister from size plain' ∷ InRegister at size' plain ∷ slots) ≡ true → One flow point (i.Move kept from) middle place'
      → One flow middle (i.Write at from bytes) to place
      → Lowered t flow setting running (later ++ now) [] scopes tasks (InRegister kept size plain' ∷ slots) to
      → Lowered t flow setting running now later scopes (Store place kind ∷ tasks) (InRegister from size plain' ∷ InRegister at size' plain ∷ slots) point
  CopiesStruct : {now later : List (Stop t)} {scopes : List (List Name)} {tasks : List (TaskIn t)} {slots : List Slot} {point : ℕ}
      (place : Place) (bytes at from size size' to : ℕ) (plain plain' : Bool)
      → is_whole slots ≡ true → are_free (at ∷ from ∷ []) slots ≡ true → One flow point (i.Copy at from bytes false) to place
      → Lowered t flow setting running (later ++ now) [] scopes tasks (KnownAs 0 ∷ slots) to
      → Lowered t flow setting running now later scopes (CopyStruct place bytes ∷ tasks) (InRegister from size plain' ∷ InRegister at size' plain ∷ slots) point
  Zeroes : {now later : List (Stop t)} {scopes : List (List Name)} {tasks : List (TaskIn t)} {slots : List Slot} {point : ℕ}
      (place place' : Place) (bytes at size naught size' middle to : ℕ) (plain : Bool)
      → is_whole slots ≡ true → is_free at slots ≡ true → is_free naught (InRegister at size plain ∷ slots) ≡ true
      → One flow point (i.Number naught 0 size') middle place' → One flow middle (i.Fill at naught bytes) to place
      → Lowered t flow setting running (later ++ now) [] scopes tasks slots to
      → Lowered t flow setting running now later scopes (Zero place bytes ∷ tasks) (InRegister at size plain ∷ slots) point
  -- `+=` and its like, `++` and `--`: the address is read and written; what is kept is the new value, or the old one as it was read
  Updates : {now later : List (Stop t)} {scopes : List (List Name)} {tasks : List (TaskIn t)} {slots : List Slot} {point : ℕ}
      (op : BinaryOp) (place place' : Place) (kind right : Kind) (bytes at from size size' at' old read behind to' new size'' to : ℕ) (plain plain' plain'' : Bool) (calculated : List Block → Word → Word → Option Word)
      → scalar_bytes kind ≡ Some bytes → is_whole slots ≡ true → is_free at slots ≡ true → is_free from (InRegister at size' plain ∷ slots) ≡ true
      → is_free at' (InRegister from size plain' ∷ InRegister at size' plain ∷ slots) ≡ true → One flow point (i.Move at' at) read place'
      → is_free old (InRegister from size plain' ∷ InRegister at size' plain ∷ slots) ≡ true → One flow read (i.Read old at' bytes (is_pointer kind)) behind place
      → Calculates flow (InRegister at size' plain ∷ slots) behind old bytes (not (is_pointer kind)) from size plain' calculated to' new size'' plain''
      → ((memory : List Block) (word word' : Word) → Suits bytes (not (is_pointer kind)) word → Suits size plain' word' →
      option_map (as_kind memory (kind_after op kind right) kind) (operated memory op kind right word word') ≡ calculated memory word word')
      → is_free new (InRegister at size' plain ∷ slots) ≡ true → One flow to' (i.Write at new bytes) to place
      → Lowered t flow setting running (later ++ now) [] scopes tasks (Gone ∷ slots) to
      → Lowered t flow setting running now later scopes (Update op place kind right ∷ tasks) (InRegister from size plain' ∷ InRegister at size' plain ∷ slots) point
  UpdatesKept : {now later : List (Stop t)} {scopes : List (List Name)} {tasks : List (TaskIn t)} {slots : List Slot} {point : ℕ}
      (op : BinaryOp) (place place' place'' : Place) (kind right : Kind) (bytes at from size size' at' old read behind to' new size'' kept written to : ℕ) (plain plain' plain'' : Bool) (calculated : List Block → Word → Word → Option Word)
      → scalar_bytes kind ≡ Some bytes → is_whole slots ≡ true → is_free at slots ≡ true → is_free from (InRegister at size' plain ∷ slots) ≡ true
      → is_free at' (InRegister from size plain' ∷ InRegister at size' plain ∷ slots) ≡ true → One flow point (i.Move at' at) read place'
      → is_free old (InRegister from size plain' ∷ InRegister at size' plain ∷ slots) ≡ true → One flow read (i.Read old at' bytes (is_pointer kind)) behind place
      → Calculates flow (InRegister at size' plain ∷ slots) behind old bytes (not (is_pointer kind)) from size plain' calculated to' new size'' plain''
      → ((memory : List Block) (word word' : Word) → Suits bytes (not (is_pointer kind)) word → Suits size plain' word' →
      option_map (as_kind memory (kind_after op kind right) kind) (operated memory op kind right word word') ≡ calculated memory word word')
      → is_free new (InRegister at size' plain ∷ slots) ≡ true → is_free kept (InRegister new size'' plain'' ∷ InRegister at size' plain ∷ slots) ≡ true
      → One flow to' (i.Move kept new) written place'' → One flow written (i.Write at new bytes) to place
      → Lowered t flow setting running (later ++ now) [] scopes tasks (InRegister kept size'' plain'' ∷ slots) to
      → Lowered t flow setting running now later scopes (Update op place kind right ∷ tasks) (InRegister from size plain' ∷ InRegister at size' plain ∷ slots) point
  Counts : {now later : List (Stop t)} {scopes : List (List Name)} {tasks : List (TaskIn t)} {slots : List Slot} {point : ℕ}
      (up after : Bool) (place place' : Place) (kind : Kind) (bytes at size at' old read behind to' new size'' to : ℕ) (plain plain'' : Bool) (calculated : List Block → Word → Option Word)
      → scalar_bytes kind ≡ Some bytes → is_whole slots ≡ true → is_free at slots ≡ true → is_free at' (InRegister at size plain ∷ slots) ≡ true
      → One flow point (i.Move at' at) read place' → is_free old (InRegister at size plain ∷ slots) ≡ true
      → One flow read (i.Read old at' bytes (is_pointer kind)) behind place
      → CalculatesWith flow (InRegister at size plain ∷ slots) behind old bytes (not (is_pointer kind)) calculated to' new size'' plain''
      → ((memory : List Block) (word : Word) → Suits bytes (not (is_pointer kind)) word →
      option_map (as_kind memory (kind_after (counting up) kind (Integer int)) kind) (operated memory (counting up) kind (Integer int) word (Plain 1)) ≡ calculated memory word)
      → is_free new (InRegister at size plain ∷ slots) ≡ true → One flow to' (i.Write at new bytes) to place
      → Lowered t flow setting running (later ++ now) [] scopes tasks (Gone ∷ slots) to
      → Lowered t flow setting running now later scopes (CountBy up after place kind ∷ tasks) (InRegister at size plain ∷ slots) point
  CountsNew : {now later : List (Stop t)} {scopes : List (List Name)} {tasks : List (TaskIn t)} {slots : List Slot} {point : ℕ}
      (up : Bool) (place place' place'' : Place) (kind : Kind) (bytes at size at' old read behind to' new size'' kept written to : ℕ) (plain plain'' : Bool) (calculated : List Block → Word → Option Word)
      → scalar_bytes kind ≡ Some bytes → is_whole slots ≡ true → is_free at slots ≡ true → is_free at' (InRegister at size plain ∷ slots) ≡ true
      → One flow point (i.Move at' at) read place' → is_free old (InRegister at size plain ∷ slots) ≡ true
      → One flow read (i.Read old at' bytes (is_pointer kind)) behind place
      → CalculatesWith flow (InRegister at size plain ∷ slots) behind old bytes (not (is_pointer kind)) calculated to' new size'' plain''
      → ((memory : List Block) (word : Word) → Suits bytes (not (is_pointer kind)) word →
      option_map (as_kind memory (kind_after (counting up) kind (Integer int)) kind) (operated memory (counting up) kind (Integer int) word (Plain 1)) ≡ calculated memory word)
      → is_free new (InRegister at size plain ∷ slots) ≡ true → is_free kept (InRegister new size'' plain'' ∷ InRegister at size plain ∷ slots) ≡ true
      → One flow to' (i.Move kept new) written place'' → One flow written (i.Write at new bytes) to place
      → Lowered t flow setting running (later ++ now) [] scopes tasks (InRegister kept size'' plain'' ∷ slots) to
      → Lowered t flow setting running now later scopes (CountBy up false place kind ∷ tasks) (InRegister at size plain ∷ slots) point
  CountsOld : {now later : List (Stop t)} {scopes : List (List Name)} {tasks : List (TaskIn t)} {slots : List Slot} {point : ℕ}
      (up : Bool) (place place' place'' : Place) (kind : Kind) (bytes at size at' old read behind to' new size'' kept moved to : ℕ) (plain plain'' : Bool) (calculated : List Block → Word → Option Word)
      → scalar_bytes kind ≡ Some bytes → is_whole slots ≡ true → is_free at slots ≡ true → is_free at' (InRegister at size plain ∷ slots) ≡ true
      → One flow point (i.Move at' at) read place' → is_free old (InRegister at size plain ∷ slots) ≡ true
      → One flow read (i.Read old at' bytes (is_pointer kind)) behind place
      → is_free kept (InRegister old bytes (not (is_pointer kind)) ∷ InRegister at size plain ∷ slots) ≡ true → One flow behind (i.Move kept old) moved place''
      → CalculatesWith flow (InRegister at size plain ∷ InRegister kept bytes (not (is_pointer kind)) ∷ slots) moved old bytes (not (is_pointer kind)) calculated to' new size'' plain''
      → ((memory : List Block) (word : Word) → Suits bytes (not (is_pointer kind)) word →
      option_map (as_kind memory (kind_after (counting up) kind (Integer int)) kind) (operated memory (counting up) kind (Integer int) word (Plain 1)) ≡ calculated memory word)
      → is_free new (InRegister at size plain ∷ InRegister kept bytes (not (is_pointer kind)) ∷ slots) ≡ true → One flow to' (i.Write at new bytes) to place
      → Lowered t flow setting running (later ++ now) [] scopes tasks (InRegister kept bytes (not (is_pointer kind)) ∷ slots) to
      → Lowered t flow setting running now later scopes (CountBy up true place kind ∷ tasks) (InRegister at size plain ∷ slots) point
  -- built-in functions; the sizes of allocations, fills and copies are known
  Mallocs : {now later : List (Stop t)} {scopes : List (List Name)} {tasks : List (TaskIn t)} {slots : List Slot} {point : ℕ}
      (place place' place'' : Place) (result : Kind) (bytes into to to' : ℕ)
      → is_whole slots ≡ true → is_free into slots ≡ true → Two flow point (i.Allocate into bytes false) to place' (i.AllocateNone into) to' place''
      → Lowered t flow setting running (later ++ now) [] scopes tasks (InRegister into 8 false ∷ slots) to
      → Lowered t flow setting running (later ++ now) [] scopes tasks (InRegister into 8 false ∷ slots) to'
      → Lowered t flow setting running now later scopes (RunBuiltIn Malloc place result ∷ tasks) (KnownAs bytes ∷ slots) point
  Callocs : {now later : List (Stop t)} {scopes : List (List Name)} {tasks : List (TaskIn t)} {slots : List Slot} {point : ℕ}
      (place place' place'' : Place) (result : Kind) (size count bytes into to to' : ℕ)
      → count * size ≡ bytes → is_whole slots ≡ true → is_free into slots ≡ true → Two flow point (i.Allocate into bytes true) to place' (i.AllocateNone into) to' place''
      → Lowered t flow setting running (later ++ now) [] scopes tasks (InRegister into 8 false ∷ slots) to
      → Lowered t flow setting running (later ++ now) [] scopes tasks (InRegister into 8 false ∷ slots) to'
      → Lowered t flow setting running now later scopes (RunBuiltIn Calloc place result ∷ tasks) (KnownAs size ∷ KnownAs count ∷ slots) point
  Frees : {now later : List (Stop t)} {scopes : List (List Name)} {tasks : List (TaskIn t)} {slots : List Slot} {point : ℕ}
      (place : Place) (result : Kind) (at size to : ℕ) (plain : Bool)
      → is_whole slots ≡ true → is_free at slots ≡ true → One flow point (i.Release at) to place
      → Lowered t flow setting running (later ++ now) [] scopes tasks (KnownAs 0 ∷ slots) to
      → Lowered t flow setting running now later scopes (RunBuiltIn Free place result ∷ tasks) (InRegister at size plain ∷ slots) point
  Fills : {now later : List (Stop t)} {scopes : List (List Name)} {tasks : List (TaskIn t)} {slots : List Slot} {point : ℕ}
      (place : Place) (result : Kind) (length' from size' at size to : ℕ) (plain' plain : Bool)
      → is_whole slots ≡ true → are_free (at ∷ from ∷ []) slots ≡ true → One flow point (i.Fill at from length') to place
      → Lowered t flow setting running (later ++ now) [] scopes tasks (Gone ∷ slots) to
      → Lowered t flow setting running now later scopes (RunBuiltIn Memset place result ∷ tasks) (KnownAs length' ∷ InRegister from size' plain' ∷ InRegister at size plain ∷ slots) point
  FillsKept : {now later : List (Stop t)} {scopes : List (List Name)} {tasks : List (TaskIn t)} {slots : List Slot} {point : ℕ}
      (place place' : Place) (result : Kind) (length' from size' at size kept middle to : ℕ) (plain' plain : Bool)
      → is_whole slots ≡ true → are_free (at ∷ from ∷ []) slots ≡ true → is_free kept (InRegister from size' plain' ∷ InRegister at size plain ∷ slots) ≡ true
      → One flow point (i.Move kept at) middle place' → One flow middle (i.Fill at from length') to place
      → Lowered t flow setting running (later ++ now) [] scopes tasks (InRegister kept size plain ∷ slots) to
      → Lowered t flow setting running now later scopes (RunBuiltIn Memset place result ∷ tasks) (KnownAs length' ∷ InRegister from size' plain' ∷ InRegister at size plain ∷ slots) point
  Copies : {now later : List (Stop t)} {scopes : List (List Name)} {tasks : List (TaskIn t)} {slots : List Slot} {point : ℕ}
      (disjoint : Bool) (place : Place) (result : Kind) (length' from size' at size to : ℕ) (plain' plain : Bool)
      → is_whole slots ≡ true → are_free (at ∷ from ∷ []) slots ≡ true → One flow point (i.Copy at from length' disjoint) to place
      → Lowered t flow setting running (later ++ now) [] scopes tasks (Gone ∷ slots) to
      → Lowered t flow setting running now later scopes (RunBuiltIn (copying disjoint) place result ∷ tasks) (KnownAs length' ∷ InRegister from size' plain' ∷ InRegister at size plain ∷ slots) point
  CopiesKept : {now later : List (Stop t)} {scopes : List (List Name)} {tasks : List (TaskIn t)} {slots : List Slot} {point : ℕ}
      (disjoint : Bool) (place place' : Place) (result : Kind) (length' from size' at size kept middle to : ℕ) (plain' plain : Bool)
      → is_whole slots ≡ true → are_free (at ∷ from ∷ []) slots ≡ true → is_free kept (InRegister from size' plain' ∷ InRegister at size plain ∷ slots) ≡ true
      → One flow point (i.Move kept at) middle place' → One flow middle (i.Copy at from length' disjoint) to place
      → Lowered t flow setting running (later ++ now) [] scopes tasks (InRegister kept size plain ∷ slots) to
      → Lowered t flow setting running now later scopes (RunBuiltIn (copying disjoint) place result ∷ tasks) (KnownAs length' ∷ InRegister from size' plain' ∷ InRegister at size plain ∷ slots) point
  Assumes : {now later : List (Stop t)} {scopes : List (List Name)} {tasks : List (TaskIn t)} {slots : List Slot} {point : ℕ}
      (place place' place'' : Place) (result : Kind) (register size naught size' middle to : ℕ) (plain : Bool)
      → One flow point (i.Number naught 0 size') middle place' → is_free naught (InRegister register size plain ∷ slots) ≡ true → is_free register slots ≡ true
      → One flow middle (i.IfDifferent register naught) to place''
      → Lowered t flow setting running (later ++ now) [] scopes tasks (KnownAs 0 ∷ slots) to
      → Lowered t flow setting running now later scopes (RunBuiltIn Assume place result ∷ tasks) (InRegister register size plain ∷ slots) point
  AssumesTruth : {now later : List (Stop t)} {scopes : List (List Name)} {tasks : List (TaskIn t)} {slots : List Slot} {point : ℕ}
      (place : Place) (result : Kind)
      → Lowered t flow setting running now later scopes tasks (KnownAs 0 ∷ slots) point
      → Lowered t flow setting running now later scopes (RunBuiltIn Assume place result ∷ tasks) (Truth true ∷ slots) point
  AssumesNot : {now later : List (Stop t)} {scopes : List (List Name)} {tasks : List (TaskIn t)} {slots : List Slot} {point : ℕ}
      (place : Place) (result : Kind)
      → NoEdge flow point
      → Lowered t flow setting running now later scopes (RunBuiltIn Assume place result ∷ tasks) (Truth false ∷ slots) point
  Expects : {now later : List (Stop t)} {scopes : List (List Name)} {tasks : List (TaskIn t)} {slots : List Slot} {point : ℕ}
      (place : Place) (result : Kind) (slot : Slot)
      → is_in [] slot ≡ true
      → Lowered t flow setting running now later scopes tasks slots point
      → Lowered t flow setting running now later scopes (RunBuiltIn Expect place result ∷ tasks) (slot ∷ slots) point
  Inputs : {now later : List (Stop t)} {scopes : List (List Name)} {tasks : List (TaskIn t)} {slots : List Slot} {point : ℕ}
      (place place' : Place) (result : Kind) (into size to : ℕ) (signed truth : Bool)
      → count_of result ≡ (if truth then 2 else 256 ^ size) → is_free into slots ≡ true → One flow point (i.Input into size signed truth) to place'
      → Lowered t flow setting running (later ++ now) [] scopes tasks (InRegister into size true ∷ slots) to
      → Lowered t flow setting running now later scopes (RunBuiltIn GivesInput place result ∷ tasks) slots point
  -- the run ends, or goes on for ever at nothing; no edge leads on
  EndsRuns : {now later : List (Stop t)} {scopes : List (List Name)} {tasks : List (TaskIn t)} {slots : List Slot} {point : ℕ}
      (place : Place) (result : Kind)
      → NoEdge flow point
      → Lowered t flow setting running now later scopes (RunBuiltIn EndsRun place result ∷ tasks) slots point
  FailsAssertion : {now later : List (Stop t)} {scopes : List (List Name)} {tasks : List (TaskIn t)} {slots : List Slot} {point : ℕ}
      → NoEdge flow point
      → Lowered t flow setting running now later scopes (EndRun ∷ tasks) slots point
  IsNothing : {now later : List (Stop t)} {scopes : List (List Name)} {tasks : List (TaskIn t)} {slots : List Slot} {point : ℕ}
      → NoEdge flow point
      → Lowered t flow setting running now later scopes (Unknown ∷ tasks) slots point
  Idles : {now later : List (Stop t)} {scopes : List (List Name)} {tasks : List (TaskIn t)} {slots : List Slot} {point : ℕ}
      (stmt body : t.Stmt) (first : t.Stmt) (semicolon close : Place)
      → t.clause stmt ≡ For first None semicolon None close body → is_idle (t.clause body) ≡ true → NoEdge flow point
      → Lowered t flow setting running now later scopes (Test stmt ∷ tasks) slots point
  -- calls of functions that the program defines
  Calls : {now later : List (Stop t)} {scopes : List (List Name)} {tasks : List (TaskIn t)} {slots : List Slot} {point : ℕ}
      (number there : ℕ) (function : Function t.Stmt) (arguments : List Argument) (into : Option ℕ) (to : ℕ) (place : Place)
      → slice_get t.functions number ≡ Some function → setting.called number ≡ Some there → AreTaken arguments function.params
      → are_free (registers_of arguments) slots ≡ true → is_whole slots ≡ true → is_free_result into slots ≡ true
      → One flow point (i.Call there (registers_of arguments) into) to place
      → Lowered t flow setting running (later ++ now) [] scopes tasks (result_slot (setting.gives number) into ∷ slots) to
      → Lowered t flow setting running now later scopes (CallDefined number ∷ tasks) (slots_of arguments ++ slots) point
  -- ends of full expressions, and of conditions
  Finishes : {now later : List (Stop t)} {scopes : List (List Name)} {tasks : List (TaskIn t)} {slots : List Slot} {point : ℕ}
      (slot : Slot) (place : Place) (gone : List ℕ) (to : ℕ)
      → One flow point (i.Finish gone) to place → are_free gone slots ≡ true → is_in gone slot ≡ true → is_whole slots ≡ true
      → Lowered t flow setting running (later ++ now) [] scopes tasks slots to
      → Lowered t flow setting running now later scopes (Finish place ∷ tasks) (slot ∷ slots) point
  Keeps : {now later : List (Stop t)} {scopes : List (List Name)} {tasks : List (TaskIn t)} {slots : List Slot} {point : ℕ}
      (place : Place) (gone : List ℕ) (to : ℕ)
      → One flow point (i.Finish gone) to place → are_free gone slots ≡ true → is_whole slots ≡ true
      → Lowered t flow setting running (later ++ now) [] scopes tasks slots to
      → Lowered t flow setting running now later scopes (Keep place ∷ tasks) slots point
  Branches : {now later : List (Stop t)} {scopes : List (List Name)} {tasks : List (TaskIn t)} {slots : List Slot} {point : ℕ}
      (stmt : t.Stmt) (truth : Bool) (gone : List ℕ) (to : ℕ)
      → One flow point (i.Finish gone) to (branch_place t stmt) → are_free gone slots ≡ true → is_whole slots ≡ true
      → Lowered t flow setting running (later ++ now) [] scopes (branch_tasks t stmt (length slots + running.base) truth ++ tasks) slots to
      → Lowered t flow setting running now later scopes (Branch stmt ∷ tasks) (Truth truth ∷ slots) point
  -- blocks; the outermost block of a function makes its objects beside the parameters
  Enters : {now later : List (Stop t)} {scopes : List (List Name)} {tasks : List (TaskIn t)} {slots : List Slot} {point : ℕ}
      (objects : List Object) (names : List Name) (to : ℕ) (place : Place)
      → is_whole slots ≡ true → AreMade flow objects names → are_new names (names_of scopes) ≡ true → One flow point (i.Enter (variables_of names)) to place
      → Lowered t flow setting running (later ++ now) [] (names ∷ scopes) tasks slots to
      → Lowered t flow setting running now later scopes (OpenBlock ∷ (map MakeObject objects ++ tasks)) slots point
  Widens : {now later : List (Stop t)} {scopes : List (List Name)} {tasks : List (TaskIn t)} {slots : List Slot} {point : ℕ}
      (objects : List Object) (before names : List Name) (to : ℕ) (place : Place)
      → is_whole slots ≡ true → AreMade flow objects names → are_new names (before ++ names_of scopes) ≡ true → One flow point (i.Enter (variables_of names)) to place
      → Lowered t flow setting running now later ((before ++ names) ∷ scopes) tasks slots to
      → Lowered t flow setting running now later (before ∷ scopes) (map MakeObject objects ++ tasks) slots point
  Passes : {now later : List (Stop t)} {scopes : List (List Name)} {tasks : List (TaskIn t)} {slots : List Slot} {point : ℕ}
      (to : ℕ) (place : Place)
      → One flow point (i.Enter []) to place
      → Lowered t flow setting running now later scopes tasks slots to
      → Lowered t flow setting running now later scopes tasks slots point
  Leaves : {now later : List (Stop t)} {scopes : List (List Name)} {tasks : List (TaskIn t)} {slots : List Slot} {point : ℕ}
      (names : List Name) (to : ℕ) (place : Place)
      → is_whole slots ≡ true → are_new names (names_of scopes) ≡ true → One flow point (i.Leave (variables_of names)) to place
      → Lowered t flow setting running (later ++ now) [] scopes tasks slots to
      → Lowered t flow setting running now later (names ∷ scopes) (LeaveBlock place ∷ tasks) slots point
  -- `break` and `continue`: what is held is let go of at the word, where registers hold it; what the graph finds lost there is found where the first block is left
  Breaks : {now later : List (Stop t)} {scopes : List (List Name)} {tasks : List (TaskIn t)} {slots : List Slot} {point : ℕ}
      (word : Place) (left : LoopLeft t.Expr t.Stmt t.Init) (dropped : List Slot) (behind : List (TaskIn t))
      → loop_left tasks ≡ Some left → left.held ≡ length slots + running.base
      → ((rest : List (TaskIn t)) → after_break t word (record left { rest = left.rest ++ rest }) ≡ behind ++ rest) → are_in [] dropped ≡ true
      → Lowered t flow setting running now later scopes behind slots point
      → Lowered t flow setting running now later scopes (BreakAt word ∷ tasks) (dropped ++ slots) point
  BreaksFinish : {now later : List (Stop t)} {scopes : List (List Name)} {tasks : List (TaskIn t)} {slots : List Slot} {point : ℕ}
      (word : Place) (left : LoopLeft t.Expr t.Stmt t.Init) (dropped : List Slot) (behind : List (TaskIn t)) (names : List Name) (gone : List ℕ) (to : ℕ)
      → loop_left tasks ≡ Some left → left.held ≡ length slots + running.base
      → ((rest : List (TaskIn t)) → after_break t word (record left { rest = left.rest ++ rest }) ≡ LeaveBlock word ∷ (behind ++ rest)) → is_whole slots ≡ true
      → are_free gone slots ≡ true → are_in gone dropped ≡ true → One flow point (i.Finish gone) to word
      → Lowered t flow setting running (later ++ now) [] (names ∷ scopes) (LeaveBlock word ∷ behind) slots to
      → Lowered t flow setting running now later (names ∷ scopes) (BreakAt word ∷ tasks) (dropped ++ slots) point
  Continues : {now later : List (Stop t)} {scopes : List (List Name)} {tasks : List (TaskIn t)} {slots : List Slot} {point : ℕ}
      (word : Place) (left : LoopLeft t.Expr t.Stmt t.Init) (dropped : List Slot) (behind : List (TaskIn t))
      → loop_left tasks ≡ Some left → left.held ≡ length slots + running.base
      → ((rest : List (TaskIn t)) → after_continue word (record left { rest = left.rest ++ rest }) ≡ behind ++ rest) → are_in [] dropped ≡ true
      → Lowered t flow setting running now later scopes behind slots point
      → Lowered t flow setting running now later scopes (ContinueAt word ∷ tasks) (dropped ++ slots) point
  ContinuesFinish : {now later : List (Stop t)} {scopes : List (List Name)} {tasks : List (TaskIn t)} {slots : List Slot} {point : ℕ}
      (word : Place) (left : LoopLeft t.Expr t.Stmt t.Init) (dropped : List Slot) (behind : List (TaskIn t)) (names : List Name) (gone : List ℕ) (to : ℕ)
      → loop_left tasks ≡ Some left → left.held ≡ length slots + running.base
      → ((rest : List (TaskIn t)) → after_continue word (record left { rest = left.rest ++ rest }) ≡ LeaveBlock word ∷ (behind ++ rest)) → is_whole slots ≡ true
      → are_free gone slots ≡ true → are_in gone dropped ≡ true → One flow point (i.Finish gone) to word
      → Lowered t flow setting running (later ++ now) [] (names ∷ scopes) (LeaveBlock word ∷ behind) slots to
      → Lowered t flow setting running now later (names ∷ scopes) (ContinueAt word ∷ tasks) (dropped ++ slots) point
  -- `return`: the value is converted and moved, and what is held is let go of; then the function is left
  GivesBack : {now later : List (Stop t)} {scopes : List (List Name)} {tasks : List (TaskIn t)} {slots : List Slot} {point : ℕ}
      (word place' : Place) (from : Kind) (left : BodyLeft t.Expr t.Stmt t.Init) (register size middle register' size' result middle' to : ℕ) (plain plain' : Bool) (turn : List Block → Word → Word) (gone : List ℕ)
      → body_left tasks ≡ Some left → left.held ≡ running.base → left.rest ≡ [] → is_free register slots ≡ true
      → Turns flow slots point register size plain turn middle register' size' plain'
      → ((memory : List Block) (word : Word) → Suits size plain word → as_kind memory from left.result word ≡ turn memory word)
      → is_free result (InRegister register' size' plain' ∷ slots) ≡ true → One flow middle (i.Move result register') middle' place'
      → One flow middle' (i.Finish gone) to word → list_any (nat_eq result) gone ≡ false → are_in gone (InRegister register' size' plain' ∷ slots) ≡ true
      → Lowered t flow setting running (later ++ now) [] scopes (LeaveFunction word ∷ []) (InRegister result size' plain' ∷ []) to
      → Lowered t flow setting running now later scopes (GiveBack word from ∷ tasks) (InRegister register size plain ∷ slots) point
  GivesNoValue : {now later : List (Stop t)} {scopes : List (List Name)} {tasks : List (TaskIn t)} {slots : List Slot} {point : ℕ}
      (word : Place) (from : Kind) (left : BodyLeft t.Expr t.Stmt t.Init) (slot : Slot)
      → body_left tasks ≡ Some left → left.held ≡ running.base → left.rest ≡ [] → left.result ≡ Void → are_in [] (slot ∷ slots) ≡ true
      → Lowered t flow setting running now later scopes (LeaveFunction word ∷ []) (KnownAs 0 ∷ []) point
      → Lowered t flow setting running now later scopes (GiveBack word from ∷ tasks) (slot ∷ slots) point
  GivesNoValueFinish : {now later : List (Stop t)} {scopes : List (List Name)} {tasks : List (TaskIn t)} {slots : List Slot} {point : ℕ}
      (word : Place) (from : Kind) (left : BodyLeft t.Expr t.Stmt t.Init) (slot : Slot) (gone : List ℕ) (to : ℕ)
      → body_left tasks ≡ Some left → left.held ≡ running.base → left.rest ≡ [] → left.result ≡ Void → One flow point (i.Finish gone) to word
      → are_in gone (slot ∷ slots) ≡ true
      → Lowered t flow setting running (later ++ now) [] scopes (LeaveFunction word ∷ []) (KnownAs 0 ∷ []) to
      → Lowered t flow setting running now later scopes (GiveBack word from ∷ tasks) (slot ∷ slots) point
  -- the `}` of a body
  EndsMain : {now later : List (Stop t)} {scopes : List (List Name)} {tasks : List (TaskIn t)} {slots : List Slot} {point : ℕ}
      (result : Kind) (close : Place) (held : ℕ)
      → Lowered t flow setting running now later scopes (LeaveFunction close ∷ tasks) (KnownAs 0 ∷ slots) point
      → Lowered t flow setting running now later scopes (EndOfBody true result close held ∷ tasks) slots point
  EndsVoid : {now later : List (Stop t)} {scopes : List (List Name)} {tasks : List (TaskIn t)} {slots : List Slot} {point : ℕ}
      (close : Place) (held : ℕ)
      → Lowered t flow setting running now later scopes (LeaveFunction close ∷ tasks) (KnownAs 0 ∷ slots) point
      → Lowered t flow setting running now later scopes (EndOfBody false Void close held ∷ tasks) slots point
  EndsWithInput : {now later : List (Stop t)} {scopes : List (List Name)} {tasks : List (TaskIn t)} {slots : List Slot} {point : ℕ}
      (result : Kind) (close place : Place) (held bytes into size to : ℕ) (signed truth : Bool)
      → scalar_bytes result ≡ Some bytes → count_of result ≡ (if truth then 2 else 256 ^ size) → is_free into slots ≡ true
      → One flow point (i.Input into size signed truth) to place
      → Lowered t flow setting running (later ++ now) [] scopes (LeaveFunction close ∷ tasks) (InRegister into size true ∷ slots) to
      → Lowered t flow setting running now later scopes (EndOfBody false result close held ∷ tasks) slots point
  Returns : {now later : List (Stop t)} {scopes : List (List Name)} {point : ℕ}
      (slot : Slot) (from : Option ℕ) (place place' : Place) (exit to : ℕ)
      → running.closes ≡ false → given_slot running.gives from ≡ Some slot → are_new (names_of scopes) [] ≡ true
      → One flow point (i.Leave (variables_of (names_of scopes))) exit place → One flow exit (i.Return from) to place'
      → Lowered t flow setting running now later scopes (LeaveFunction place ∷ []) (slot ∷ []) point
  Closes : {now later : List (Stop t)} {scopes : List (List Name)} {point : ℕ}
      (slot : Slot) (from : Option ℕ) (place place' : Place) (closing exit to : ℕ)
      → running.closes ≡ true → given_slot running.gives from ≡ Some slot → are_new (names_of scopes) [] ≡ true
      → One flow point (i.Leave (variables_of (names_of scopes))) closing place → One flow closing i.Close exit place → One flow exit (i.Return from) to place'
      → Lowered t flow setting running now later scopes (LeaveFunction place ∷ []) (slot ∷ []) point
