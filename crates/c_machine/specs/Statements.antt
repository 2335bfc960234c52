-- What statements do (C11 6.8), and how blocks are left.
use Rattle.std.specs.Prelude.{ℕ, suc, ◌-◌, Bool, true, false, List, [], ◌∷◌, ◌++◌, length, drop, replicate, Option, None, Some, option_map}
use Rattle.std.specs.List.{flat_map}
use Rattle.cbase.specs.declared.place.Place.{Place}
use Rattle.bytes_core.specs.declared.word.Word.{Word}
use Rattle.c_machine.specs.declared.kind.Kind.TheVariants.{Void}
use Rattle.c_machine.specs.declared.kind.Kind.{Kind}
use Rattle.c_machine.specs.Text.{Clause, Declare, Eval, Block, If, While, Do, For, Break, Continue, Return, Text}
use Rattle.c_machine.specs.declared.task.Task.{Task}
use Rattle.c_machine.specs.declared.task.Task.TheVariants.{ValueOf, Push, Finish, Execute, Branch, Test, Again, OpenBlock, LeaveBlock, BreakAt, ContinueAt, GiveBack, EndOfBody, Unknown}
use Rattle.c_machine.specs.State.{TaskIn}
use Rattle.c_machine.specs.Blocks.{objects_in, in_block, declared_tasks}
use Rattle.c_machine.specs.Expressions.{value_kind}

-- `return` with a value or without one (6.8.6.4)
abbrev pub return_tasks : (t : Text) → Place → Option t.Expr → List (TaskIn t)
return_tasks t word None = Push 0 ∷ GiveBack word Void ∷ []
return_tasks t word (Some expr) = ValueOf expr ∷ GiveBack word (value_kind t expr) ∷ []

-- an expression statement is a full expression, and its place is the `;` (6.8.3)
abbrev pub eval_tasks : (t : Text) → Option t.Expr → Place → List (TaskIn t)
eval_tasks t None after = []
eval_tasks t (Some expr) after = ValueOf expr ∷ Finish after ∷ []

-- what a statement does, where unfinished expressions around it hold so many operands. A `for` is a block of its own, which is left at its word; a branch
-- and the body of a loop are none
abbrev pub clause_tasks : (t : Text) → t.Stmt → ℕ → Clause t.Expr t.Stmt t.Init → List (TaskIn t)
clause_tasks t stmt held (Declare names) = flat_map (declared_tasks t) names
clause_tasks t stmt held (Eval expr) = eval_tasks t expr (t.last stmt)
clause_tasks t stmt held (Block body) = in_block t body (t.last stmt)
clause_tasks t stmt held (If test close one other) = ValueOf test ∷ Branch stmt ∷ []
clause_tasks t stmt held (While test close body) = Test stmt ∷ []
clause_tasks t stmt held (Do body test close) = Execute body ∷ Again stmt held ∷ []
clause_tasks t stmt held (For first test semicolon next close body) =
    OpenBlock ∷ (objects_in t first ++ Execute first ∷ Test stmt ∷ LeaveBlock (t.first stmt) ∷ [])
clause_tasks t stmt held Break = BreakAt (t.first stmt) ∷ []
clause_tasks t stmt held Continue = ContinueAt (t.first stmt) ∷ []
clause_tasks t stmt held (Return expr) = return_tasks t (t.first stmt) expr

abbrev pub statement_tasks : (t : Text) → t.Stmt → ℕ → List (TaskIn t)
statement_tasks t stmt held = clause_tasks t stmt held (t.clause stmt)

-- a turn of a loop, and its condition; a `for` without one goes on (6.8.5.3p2)
abbrev pub turn : (t : Text) → t.Stmt → ℕ → t.Stmt → List (TaskIn t)
turn t stmt held body = Execute body ∷ Again stmt held ∷ []

abbrev pub test_or_turn : (t : Text) → t.Stmt → ℕ → Option t.Expr → t.Stmt → List (TaskIn t)
test_or_turn t stmt held None body = turn t stmt held body
test_or_turn t stmt held (Some test) body = ValueOf test ∷ Branch stmt ∷ []

abbrev pub test_parts : (t : Text) → t.Stmt → ℕ → Clause t.Expr t.Stmt t.Init → List (TaskIn t)
test_parts t stmt held (While test close body) = ValueOf test ∷ Branch stmt ∷ []
test_parts t stmt held (Do body test close) = ValueOf test ∷ Branch stmt ∷ []
test_parts t stmt held (For first test semicolon next close body) = test_or_turn t stmt held test body
test_parts t stmt held other = Unknown ∷ []

abbrev pub test_tasks : (t : Text) → t.Stmt → ℕ → List (TaskIn t)
test_tasks t stmt held = test_parts t stmt held (t.clause stmt)

-- behind the body of a loop: in a `for` what is done after each turn, a full expression that ends at the `)`; then the condition
abbrev pub again_parts : (t : Text) → t.Stmt → Clause t.Expr t.Stmt t.Init → List (TaskIn t)
again_parts t stmt (For first test semicolon next close body) = eval_tasks t next close ++ Test stmt ∷ []
again_parts t stmt other = Test stmt ∷ []

abbrev pub again_tasks : (t : Text) → t.Stmt → List (TaskIn t)
again_tasks t stmt = again_parts t stmt (t.clause stmt)

-- behind the condition: where that ends, and what is done where it holds or does not
abbrev pub branch_end : (t : Text) → Clause t.Expr t.Stmt t.Init → Place → Place
branch_end t (If test close one other) place = close
branch_end t (While test close body) place = close
branch_end t (Do body test close) place = close
branch_end t (For first test semicolon next close body) place = semicolon
branch_end t other place = place

abbrev pub branch_place : (t : Text) → t.Stmt → Place
branch_place t stmt = branch_end t (t.clause stmt) (t.last stmt)

abbrev pub other_branch : (t : Text) → Option t.Stmt → List (TaskIn t)
other_branch t None = []
other_branch t (Some stmt) = Execute stmt ∷ []

abbrev pub branch_parts : (t : Text) → t.Stmt → ℕ → Clause t.Expr t.Stmt t.Init → Bool → List (TaskIn t)
branch_parts t stmt held (If test close one other) true = Execute one ∷ []
branch_parts t stmt held (If test close one other) false = other_branch t other
branch_parts t stmt held (While test close body) true = turn t stmt held body
branch_parts t stmt held (While test close body) false = []
branch_parts t stmt held (Do body test close) true = turn t stmt held body
branch_parts t stmt held (Do body test close) false = []
branch_parts t stmt held (For first test semicolon next close body) true = turn t stmt held body
branch_parts t stmt held (For first test semicolon next close body) false = []
branch_parts t stmt held other holds = Unknown ∷ []

abbrev pub branch_tasks : (t : Text) → t.Stmt → ℕ → Bool → List (TaskIn t)
branch_tasks t stmt held holds = branch_parts t stmt held (t.clause stmt) holds

-- what stands behind the body of the innermost loop: how many blocks are left up to there, the loop, how many operands the unfinished expressions
-- around it hold, and what is to be done behind it. A condition and the parts of a `for` lie in no body of their loop
pub record LoopLeft (E S I : Type 0) : Type 0 where
  pub blocks : ℕ
  pub loop : S
  pub held : ℕ
  pub rest : List (Task E S I)

abbrev pub one_more : {E S I : Type 0} → LoopLeft E S I → LoopLeft E S I
one_more left = record left { blocks = suc left.blocks }

abbrev pub loop_left : {E S I : Type 0} → List (Task E S I) → Option (LoopLeft E S I)
loop_left [] = None
loop_left (Again stmt held ∷ rest) = Some (record { blocks = 0; loop = stmt; held = held; rest = rest })
loop_left (LeaveBlock place ∷ rest) = option_map one_more (loop_left rest)
loop_left (other ∷ rest) = loop_left rest

-- the blocks are left one by one from the inside, all at the word
abbrev pub leaves : {E S I : Type 0} → ℕ → Place → List (Task E S I)
leaves count word = replicate count (LeaveBlock word)

-- a `break` leaves the block of a `for`, too
abbrev pub behind_for : {E S I : Type 0} → Place → List (Task E S I) → List (Task E S I)
behind_for word (LeaveBlock place ∷ rest) = LeaveBlock word ∷ rest
behind_for word rest = rest

abbrev pub behind_loop : (t : Text) → Place → Clause t.Expr t.Stmt t.Init → List (TaskIn t) → List (TaskIn t)
behind_loop t word (For first test semicolon next close body) rest = behind_for word rest
behind_loop t word other rest = rest

abbrev pub after_break : (t : Text) → Place → LoopLeft t.Expr t.Stmt t.Init → List (TaskIn t)
after_break t word left = leaves left.blocks word ++ behind_loop t word (t.clause left.loop) left.rest

abbrev pub after_continue : {E S I : Type 0} → Place → LoopLeft E S I → List (Task E S I)
after_continue word left = leaves left.blocks word ++ Again left.loop left.held ∷ left.rest

-- what stands behind the body of the function: the kind of its result, how many operands the unfinished expressions around the call hold, and what is
-- to be done behind it
pub record BodyLeft (E S I : Type 0) : Type 0 where
  pub result : Kind
  pub held : ℕ
  pub rest : List (Task E S I)

abbrev pub body_left : {E S I : Type 0} → List (Task E S I) → Option (BodyLeft E S I)
body_left [] = None
body_left (EndOfBody is_main result close held ∷ rest) = Some (record { result = result; held = held; rest = rest })
body_left (other ∷ rest) = body_left rest

-- so many operands, those that were computed first
abbrev pub oldest : ℕ → List Word → List Word
oldest held operands = drop (length operands - held) operands
