-- The small interpreter of the form table: it numbers points and registers in the order of the text.
--
-- A form is told the point where it begins and the point to which it leads, and the register that gets its value. It takes points and registers of its own
-- first, and a new point between two moves. A statement without an edge takes none: what stands before it leads on to where it leads.
use Rattle.std.specs.Prelude.{ℕ, zero, suc, ◌+◌, ◌-◌, max, Bool, true, false, not, ◌&&◌, List, [], ◌∷◌, ◌++◌, map, length, take, filter, nat_eq, Option, None, Some, slice_get, if◌then◌else◌}
use Rattle.std.specs.List.{flat_map, list_all, list_any}
use Rattle.std.specs.Option.{option_map_or}
use Rattle.cbase.specs.declared.abi.Abi.TheVariants.{Lp64}
use Rattle.cbase.specs.declared.place.Place.{Place}
use Rattle.cbase.specs.declared.tree.operators.BinaryOp.{BinaryOp}
use Rattle.cbase.specs.declared.tree.operators.BinaryOp.TheVariants.{Both, Either, Equal, NotEqual}
use Rattle.cbase.specs.declared.tree.operators.UnaryOp.TheVariants.{Not}
use Rattle.c_machine.specs.declared.kind.Kind.{Kind}
use Rattle.c_machine.specs.declared.kind.Kind.TheVariants.{Struct}
use Rattle.c_machine.specs.declared.object.Object.{Object}
use Rattle.c_machine.specs.Text.{Form, Unary, Binary, Choose, Inner, Declared, Initialiser, Value, Braces, Clause, Declare, Eval, Block, If, While, Do, For, Break, Continue, Return, Store, Text}
use Rattle.c_machine.specs.Blocks.{are_empty, names_in}
use Rattle.c_machine.specs.Expressions.{value_kind}
use Rattle.c_machine.specs.Words.{scalar_bytes}
use Rattle.flow.specs.declared.instruction.Instr.{Instr}
use Rattle.flow.specs.declared.instruction.Instr.TheVariants as i
use Rattle.flow.specs.declared.flow_graph.Flow.{Flow}
use Rattle.flow.specs.declared.flow_graph.FlowEdge.{FlowEdge}
use Rattle.flow.specs.declared.flow_graph.Standing.{Standing}
use Rattle.flow.specs.declared.flow_graph.Variable.{Variable}
use Rattle.flow.specs.declared.flow_graph.Width.{Width}
use Rattle.flow.specs.Holding.{put_width, emptied_widths}
use Rattle.flow.specs.Standing.{stands_after}
use Rattle.flow.specs.Valid.{is_object_size}
use Rattle.simulation.specs.Names.{Name, names_of, variables_of, variable_in}
use Rattle.lowering.specs.Kinds.{width, is_void, conversion, Sides, sides}
use Rattle.lowering.specs.declared.conversion.Conversion.{Conversion}
use Rattle.lowering.specs.LetGo.{AsValue, AsPlace, AsWork, AsTest, left_of, left_as}
use Rattle.lowering.specs.Moves.{Move, MoveOf, Emits, Pairs, Parts, Evaluates, Converts, Answers, Tells, Locates, Works, Asks, Does, Clears, Initialises, Stops, Fails, Line, resizes, adapts, stands_in, pads, run_of}
use Rattle.lowering.specs.Table.{object_moves, shifts, shifted_in, copies, value_line, place_line, work_line, converted_line, last_of, kind_of_last, kind_made, is_made}

-- what is made so far, and whether there is a graph
pub record Made : Type 0 where
  pub points : ℕ
  pub registers : ℕ
  pub edges : List FlowEdge
  pub stands : List Standing
  pub variables : List Variable
  pub heads : List ℕ
  pub is_graph : Bool

-- a loop around: where its next turn begins and where it ends, how many blocks stand there, and the registers around it
pub record Loop : Type 0 where
  pub again : ℕ
  pub behind : ℕ
  pub inner : ℕ
  pub outer : ℕ
  pub registers : List Width

-- what stands around a form: the objects of the blocks, the static ones, the loop; and of the function its exit, the kind of its result and the register for
-- that, and whether blocks are looked for that were never freed
pub record Around : Type 0 where
  pub scopes : List (List Name)
  pub statics : List Name
  pub loop : Option Loop
  pub exit : ℕ
  pub kind : Kind
  pub result : ℕ
  pub closes : Bool

-- the variable of a name
abbrev pub variable_of : Around → ℕ → Option ℕ
variable_of around token = variable_in (names_of around.scopes ++ around.statics) token

-- edges, points and registers more
abbrev pub emit : Made → ℕ → Instr → ℕ → Place → Made
emit made from instr to place = record made { edges = made.edges ++ record { from = from; to = to; instr = instr; place = place } ∷ [] }

abbrev pub with_point : Standing → Made → Made
with_point standing made = record made { points = suc made.points; stands = made.stands ++ standing ∷ [] }

abbrev pub with_registers : ℕ → Made → Made
with_registers count made = record made { registers = made.registers + count }

abbrev pub failed : Made → Made
failed made = record made { is_graph = false }

-- what stands at a point
abbrev pub stands_at : Made → ℕ → Standing
stands_at made point = option_map_or (λ standing. standing) (slice_get made.stands point) (record { variables = []; registers = [] })

-- A head of a loop: registers that are taken from there on are none of those that stand there.
abbrev pub behind_widths : List Width → ℕ
behind_widths [] = 0
behind_widths (one ∷ rest) = max (suc one.register) (behind_widths rest)

abbrev pub with_head : ℕ → Made → Made
with_head point made = record made { registers = max made.registers (behind_widths (stands_at made point).registers); heads = made.heads ++ point ∷ [] }

-- What stands behind a move: an expression adds its register, and those that hold what it let go of; a statement leaves what stood before it.
abbrev pub with_width : ℕ → ℕ → Standing → Standing
with_width register size standing = record standing { registers = put_width (record { register = register; size = size }) standing.registers }

abbrev pub with_spares : ℕ → ℕ → Standing → Standing
with_spares spare zero standing = standing
with_spares spare (suc count) standing = with_spares (suc spare) count (with_width spare 8 standing)

abbrev pub with_value : ℕ → Kind → Standing → Standing
with_value register kind standing = if is_void kind then standing else with_width register (width kind) standing

-- no function is called where this graph is asked for sizes
abbrev pub without_calls : Flow
without_calls = record { points = 0; edges = []; functions = []; variables = []; initial = []; heads = []; main = 0; stands = []; abi = Lp64; strict = false }

abbrev pub after : (t : Text) → Move t → Standing → Standing
after t (Emits instr place) standing = stands_after without_calls instr standing
after t (Pairs one other place) standing = stands_after without_calls one standing
after t (Parts one off other on place) standing = stands_after without_calls one standing
after t (Evaluates expr spare into) standing =
    with_width into (width (value_kind t expr)) (with_spares spare (left_of t (AsValue (nat_eq into spare)) expr) standing)
after t (Converts expr kind spare into) standing = with_value into kind (with_spares spare (left_as t (left_of t) expr (nat_eq into spare) kind) standing)
after t (Answers expr spare into size) standing = with_width into size (with_spares spare (left_of t AsTest expr) standing)
after t (Tells register size into place) standing = with_width into 1 (record standing { registers = emptied_widths (register ∷ []) standing.registers })
after t (Locates expr spare into) standing = with_width into 8 (with_spares spare (left_of t (AsPlace (nat_eq into spare)) expr) standing)
after t (Works expr spare) standing = with_spares spare (left_of t AsWork expr) standing
after t (Asks expr spare off on) standing = with_spares spare (left_of t AsTest expr) standing
after t (Does stmt) standing = standing
after t (Clears place object) standing = standing
after t (Initialises place init) standing = standing
after t Stops standing = standing
after t Fails standing = standing

-- Objects of a block get variables.
abbrev pub named_from : ℕ → List Object → List Name
named_from variable [] = []
named_from variable (object ∷ objects) = record { token = object.token; variable = variable } ∷ named_from (suc variable) objects

abbrev pub with_objects : Bool → List Object → Made → Made
with_objects fixed objects made = record made {
  variables = made.variables ++ map (λ object. record { size = object.bytes; fixed = fixed }) objects;
  is_graph = made.is_graph && list_all (λ object. is_object_size object.bytes) objects;
}

abbrev pub objects_of_name : (t : Text) → Declared t.Init → List Object
objects_of_name t name = option_map_or (λ object. object ∷ []) (t.automatic name.place) []

abbrev pub objects_of : (t : Text) → t.Stmt → List Object
objects_of t stmt = flat_map (objects_of_name t) (names_in (t.clause stmt))

abbrev pub objects_in : (t : Text) → List t.Stmt → List Object
objects_in t body = flat_map (objects_of t) body

abbrev pub within : List Name → Around → Around
within names around = record around { scopes = names ∷ around.scopes }

-- Statements without an edge. A `break` or a `continue` has none where it leaves no block and no register.
abbrev pub registers_left : List Width → List Width → List ℕ
registers_left stands kept =
    map (λ one. one.register) (filter (λ one. not (list_any (λ other. nat_eq other.register one.register) kept)) stands)

abbrev pub blocks_left : Around → ℕ → List (List Name)
blocks_left around kept = take (length around.scopes - kept) around.scopes

abbrev pub is_none : {A : Type 0} → List A → Bool
is_none [] = true
is_none (first ∷ rest) = false

abbrev pub leaves_none : Around → Standing → ℕ → Loop → Bool
leaves_none around standing kept loop = is_none (blocks_left around kept) && is_none (registers_left standing.registers loop.registers)

-- no edge, and what follows begins there; no edge, and it leads to a point; or edges
pub data Way : Type 0 where
  Idle : Way
  Leads : ℕ → Way
  Goes : Way

abbrev pub jumps : Bool → ℕ → Way
jumps true to = Leads to
jumps false to = Goes

abbrev pub break_way : Around → Standing → Option Loop → Way
break_way around standing None = Goes
break_way around standing (Some loop) = jumps (leaves_none around standing loop.outer loop) loop.behind

abbrev pub continue_way : Around → Standing → Option Loop → Way
continue_way around standing None = Goes
continue_way around standing (Some loop) = jumps (leaves_none around standing loop.inner loop) loop.again

abbrev pub does_nothing : (t : Text) → Declared t.Init → Bool
does_nothing t name = by_parts (t.automatic name.place) name.init
  where
    by_parts : Option Object → Option t.Init → Bool
    by_parts (Some object) (Some init) = false
    by_parts object init = true

abbrev pub idle_where : Bool → Way
idle_where true = Idle
idle_where false = Goes

abbrev pub way_by : (t : Text) → Around → Standing → Clause t.Expr t.Stmt t.Init → Way
way_by t around standing (Declare names) = idle_where (list_all (does_nothing t) names)
way_by t around standing (Eval None) = Idle
way_by t around standing Break = break_way around standing around.loop
way_by t around standing Continue = continue_way around standing around.loop
way_by t around standing clause = Goes

-- whether an initialiser has no value
abbrev pub has_no_value : (t : Text) → (t.Init → Bool) → Initialiser t.Expr t.Init → Bool
has_no_value t deeper (Value value end) = false
has_no_value t deeper (Braces parts) = list_all deeper parts

abbrev pub is_empty_within : ℕ → (t : Text) → t.Init → Bool
is_empty_within zero t init = false
is_empty_within (suc levels) t init = has_no_value t (is_empty_within levels t) (t.initialiser init)

abbrev pub way_of : (t : Text) → Around → Standing → Move t → Way
way_of t around standing (Does stmt) = way_by t around standing (t.clause stmt)
way_of t around standing (Initialises place init) = idle_where (is_empty_within t.enough t init)
way_of t around standing move = Goes

-- where moves begin: at a point that is there, or at a new one
pub data Begin : Type 0 where
  Here : ℕ → Begin
  New : Begin

abbrev pub begin_by : Way → Begin → Begin
begin_by Idle rest = rest
begin_by (Leads to) rest = Here to
begin_by Goes rest = New

abbrev pub begins : (t : Text) → Around → Standing → List (Move t) → ℕ → Begin
begins t around standing [] to = Here to
begins t around standing (move ∷ moves) to = begin_by (way_of t around standing move) (begins t around standing moves to)

-- how a move is placed: between two points
abbrev pub Go : Text → Type 0
Go t = Made → ℕ → Move t → ℕ → Made

-- moves one behind the other, the last one to the end; a move without an edge is not placed
abbrev pub along_from : (t : Text) → (Made → ℕ → Made) → Go t → Made → ℕ → Move t → Standing → Way → Begin → Made
along_from t rest go made from move standing Idle begin = rest made from
along_from t rest go made from move standing (Leads at) (Here point) = rest made point
along_from t rest go made from move standing (Leads at) New = rest (with_point standing made) made.points
along_from t rest go made from move standing Goes (Here point) = rest (go made from move point) point
along_from t rest go made from move standing Goes New = rest (go (with_point standing made) from move made.points) made.points

abbrev pub along_at : (t : Text) → Around → Go t → Made → ℕ → Standing → List (Move t) → ℕ → Made
along_at t around go made from standing [] to = made
along_at t around go made from standing (move ∷ moves) to =
    along_from t (λ made' point. along_at t around go made' point (after t move standing) moves to) go made from move (after t move standing)
    (way_of t around standing move) (begins t around (after t move standing) moves to)

abbrev pub along : (t : Text) → Around → Go t → Made → ℕ → List (Move t) → ℕ → Made
along t around go made from moves to = along_at t around go made from (stands_at made from) moves to

abbrev pub along_line : (t : Text) → Around → Go t → Made → ℕ → Line t → ℕ → Made
along_line t around go made from line to = along t around go (with_registers line.registers made) from line.moves to

-- Conditions. A value is tested against a 0 of its own size.
abbrev pub zero_test : (t : Text) → Around → Go t → Made → ℕ → t.Expr → ℕ → ℕ → ℕ → Made
zero_test t around go made from expr spare off on =
    along t around go (with_registers 2 made) from
    (Evaluates expr spare made.registers ∷ Emits (i.Number (suc made.registers) 0 (width (value_kind t expr))) (t.place expr)
    ∷ Parts (i.IfSame made.registers (suc made.registers)) off (i.IfDifferent made.registers (suc made.registers)) on (t.place expr) ∷ []) off

-- `==` and `!=`
abbrev pub parts_where : {E S I : Type 0} → ℕ → ℕ → ℕ → ℕ → Place → List (MoveOf E S I)
parts_where one other same differs place = Parts (i.IfSame one other) same (i.IfDifferent one other) differs place ∷ []

abbrev pub equality_moves : (t : Text) → Sides → t.Expr → t.Expr → t.Expr → ℕ → ℕ → ℕ → ℕ → List (Move t)
equality_moves t between expr left right spare r same differs =
    Evaluates left spare r ∷ Evaluates right spare (r + 1)
    ∷ (resizes between.left r (r + 2) (t.place expr) ++ (resizes between.right (r + 1) (r + 3) (t.place expr)
    ++ parts_where (stands_in between.left r (r + 2)) (stands_in between.right (r + 1) (r + 3)) same differs (t.place expr)))

abbrev pub equality : (t : Text) → Around → Go t → Made → ℕ → BinaryOp → t.Expr → t.Expr → t.Expr → ℕ → ℕ → ℕ → Made
equality t around go made from what expr left right spare same differs =
    along t around go (with_registers 4 made) from
    (equality_moves t (sides what (value_kind t left) (value_kind t right)) expr left right spare made.registers same differs) same

-- `&&` and `||`: the second test begins at a point of its own, and the first one may lead to the end of both. Where the second one lets go of more, the first
-- one leads to a point from which registers with 0 are filled on the way: where two ways meet the same registers stand
abbrev pub two_tests : (t : Text) → Around → Go t → Made → ℕ → (ℕ → ℕ → Move t) → Move t → Standing → List (Move t) → ℕ → Made
two_tests t around go made from first second standing [] end =
    go (go (with_point standing made) from (first end made.points) end) made.points second end
two_tests t around go made from first second standing (pad ∷ pads) end =
    go (along t around go (go (with_point standing (with_point standing made)) from (first (suc made.points) made.points) end)
    (suc made.points) (pad ∷ pads) end) made.points second end

abbrev pub both_tests : (t : Text) → Around → Go t → Made → ℕ → t.Expr → t.Expr → t.Expr → ℕ → (ℕ → ℕ → Move t) → Move t → ℕ → Made
both_tests t around go made from expr left right spare first second end =
    two_tests t around go made from first second (with_spares spare (left_of t AsTest left) (stands_at made from))
    (pads spare (left_of t AsTest left) (left_of t AsTest right) (t.place expr)) end

abbrev pub place_test : (t : Text) → Around → Go t → Made → ℕ → t.Expr → ℕ → ℕ → ℕ → Form t.Expr t.Stmt → Made
place_test t around go made from expr spare off on (Unary Not arg) = go made from (Asks arg spare on off) off
place_test t around go made from expr spare off on (Binary Both left right) =
    both_tests t around go made from expr left right spare (λ early between. Asks left spare early between) (Asks right spare off on) off
place_test t around go made from expr spare off on (Binary Either left right) =
    both_tests t around go made from expr left right spare (λ early between. Asks left spare between early) (Asks right spare off on) on
place_test t around go made from expr spare off on (Binary Equal left right) = equality t around go made from Equal expr left right spare on off
place_test t around go made from expr spare off on (Binary NotEqual left right) = equality t around go made from NotEqual expr left right spare off on
place_test t around go made from expr spare off on form = zero_test t around go made from expr spare off on

-- a condition as a number, 1 or 0
abbrev pub place_answer : (t : Text) → Go t → Made → ℕ → t.Expr → ℕ → ℕ → ℕ → Standing → ℕ → Made
place_answer t go made from expr spare into size standing to =
    emit (emit (go (with_point standing (with_point standing made)) from (Asks expr spare made.points (suc made.points)) to)
    (suc made.points) (i.Number into 1 size) to (t.place expr)) made.points (i.Number into 0 size) to (t.place expr)

-- whether a register holds something else than 0: a test, and then 1 or 0
abbrev pub place_told : Made → ℕ → ℕ → ℕ → ℕ → Standing → Standing → Place → ℕ → Made
place_told made from register size into tested standing place to =
    emit (emit (emit (emit (emit (with_point standing (with_point standing (with_point tested (with_registers 1 made))))
    from (i.Number made.registers 0 size) made.points place)
    made.points (i.IfSame register made.registers) (suc made.points) place)
    made.points (i.IfDifferent register made.registers) (suc (suc made.points)) place)
    (suc (suc made.points)) (i.Number into 1 1) to place)
    (suc made.points) (i.Number into 0 1) to place

abbrev pub without_register : ℕ → Standing → Standing
without_register register standing = record standing { registers = emptied_widths (register ∷ []) standing.registers }

-- `?:`: both arms lead to one point, with their value in one register
abbrev pub in_front : Bool → ℕ → ℕ
in_front true count = max 1 count
in_front false count = count

abbrev pub place_arms : (t : Text) → Around → Go t → Made → ℕ → t.Expr → ℕ → Standing → List (Move t) → List (Move t) → ℕ → Made
place_arms t around go made from test spare standing one other to =
    along t around go (along t around go (go (with_point standing (with_point standing made)) from (Asks test spare made.points (suc made.points)) to)
    (suc made.points) one to) made.points other to

abbrev pub arm_moves : (t : Text) → Kind → ℕ → ℕ → ℕ → ℕ → Place → t.Expr → List (Move t)
arm_moves t kind spare into have want place arm = Converts arm kind spare into ∷ pads spare (in_front (nat_eq into spare && not (is_void kind)) have) want place

abbrev pub place_choice : (t : Text) → Around → Go t → Made → ℕ → t.Expr → t.Expr → t.Expr → t.Expr → Kind → ℕ → ℕ → ℕ → ℕ → ℕ → ℕ → Made
place_choice t around go made from expr test one other kind spare into tested left_one left_other to =
    place_arms t around go made from test spare (with_spares spare tested (stands_at made from))
    (arm_moves t kind spare into (max tested left_one) (max tested (max left_one left_other)) (t.place expr) one)
    (arm_moves t kind spare into (max tested left_other) (max tested (max left_one left_other)) (t.place expr) other) to

abbrev pub place_choose : (t : Text) → Around → Go t → Made → ℕ → t.Expr → t.Expr → t.Expr → t.Expr → ℕ → ℕ → ℕ → Made
place_choose t around go made from expr test one other spare into to =
    place_choice t around go made from expr test one other (value_kind t expr) spare into (left_of t AsTest test)
    (left_as t (left_of t) one (nat_eq into spare) (value_kind t expr)) (left_as t (left_of t) other (nat_eq into spare) (value_kind t expr)) to

-- statement expressions: the value of the last expression statement is kept, where it has one
abbrev pub last_moves : (t : Text) → ℕ → ℕ → ℕ → t.Stmt → Clause t.Expr t.Stmt t.Init → List (Move t)
last_moves t spare count into stmt (Eval (Some expr)) =
    (if is_void (value_kind t expr) then Works expr spare else Evaluates expr spare into) ∷ Emits (i.Finish (run_of spare count)) (t.last stmt) ∷ []
last_moves t spare count into stmt clause = Does stmt ∷ []

abbrev pub valued_moves : (t : Text) → ℕ → ℕ → ℕ → List t.Stmt → List (Move t)
valued_moves t spare count into [] = []
valued_moves t spare count into (stmt ∷ body) =
    if are_empty t body then last_moves t spare count into stmt (t.clause stmt) else Does stmt ∷ valued_moves t spare count into body

abbrev pub left_at_end : (t : Text) → Option t.Expr → ℕ
left_at_end t None = 0
left_at_end t (Some expr) = if is_void (value_kind t expr) then left_of t AsWork expr else left_of t (AsValue false) expr

abbrev pub enters : {E S I : Type 0} → List Name → Place → MoveOf E S I
enters names place = Emits (i.Enter (variables_of names)) place

abbrev pub leaves : {E S I : Type 0} → List Name → Place → MoveOf E S I
leaves names place = Emits (i.Leave (variables_of names)) place

abbrev pub place_scope : (t : Text) → (Around → Go t) → Around → Made → ℕ → List Object → (List Name → List (Move t)) → ℕ → Made
place_scope t go around made from objects moves to =
    along t (within (named_from (length made.variables) objects) around) (go (within (named_from (length made.variables) objects) around))
    (with_objects false objects made) from (moves (named_from (length made.variables) objects)) to

abbrev pub place_inner : (t : Text) → (Around → Go t) → Around → Made → ℕ → t.Expr → List t.Stmt → Place → ℕ → ℕ → Made
place_inner t go around made from expr body close into to =
    place_scope t go around (with_registers (left_at_end t (last_of t body)) made) from (objects_in t body)
    (λ names. enters names (t.place expr)
    ∷ (valued_moves t made.registers (left_at_end t (last_of t body)) into body ++ leaves names close ∷ [])) to

-- values, and expressions whose value is not used
abbrev pub place_value_form : (t : Text) → (Around → Go t) → Around → Made → ℕ → t.Expr → ℕ → ℕ → ℕ → Form t.Expr t.Stmt → Made
place_value_form t go around made from expr spare into to (Choose test one other) =
    place_choose t around (go around) made from expr test one other spare into to
place_value_form t go around made from expr spare into to (Inner body close) = place_inner t go around made from expr body close into to
place_value_form t go around made from expr spare into to form =
    along_line t around (go around) made from (value_line t expr spare into made.registers form) to

abbrev pub place_value : (t : Text) → (Around → Go t) → Around → Made → ℕ → t.Expr → ℕ → ℕ → ℕ → Form t.Expr t.Stmt → Made
place_value t go around made from expr spare into to form =
    if is_made t expr form then place_value_form t go around made from expr spare into to form else failed made

abbrev pub place_void : (t : Text) → (Around → Go t) → Around → Made → ℕ → t.Expr → ℕ → ℕ → Form t.Expr t.Stmt → Made
place_void t go around made from expr spare to (Choose test one other) =
    place_choose t around (go around) made from expr test one other spare spare to
place_void t go around made from expr spare to (Inner body close) =
    if is_void (kind_of_last t (last_of t body)) then place_inner t go around made from expr body close spare to else failed made
place_void t go around made from expr spare to form = along_line t around (go around) made from (work_line t expr spare made.registers form) to

abbrev pub place_work : (t : Text) → (Around → Go t) → Around → Made → ℕ → t.Expr → ℕ → ℕ → Form t.Expr t.Stmt → Made
place_work t go around made from expr spare to form =
    if is_void (value_kind t expr)
    then (if is_void (kind_made t expr form) then place_void t go around made from expr spare to form else failed made)
    else along_line t around (go around) made from (work_line t expr spare made.registers form) to

-- Statements. Behind a condition its registers go, once on each side.
abbrev pub place_branch : (t : Text) → (Around → Go t) → Around → Around → Made → ℕ → t.Expr → ℕ → Place → List (Move t) → ℕ → List (Move t) → ℕ → Made
place_branch t go around turning made from test count close one one_to other other_to =
    along t around (go around) (along t turning (go turning)
    (go around (with_registers count (with_point (with_spares made.registers count (stands_at made from))
    (with_point (with_spares made.registers count (stands_at made from)) made))) from (Asks test made.registers made.points (suc made.points)) from)
    (suc made.points) (Emits (i.Finish (run_of made.registers count)) close ∷ one) one_to)
    made.points (Emits (i.Finish (run_of made.registers count)) close ∷ other) other_to

abbrev pub branch : (t : Text) → (Around → Go t) → Around → Around → Made → ℕ → t.Expr → Place → List (Move t) → ℕ → List (Move t) → ℕ → Made
branch t go around turning made from test close one one_to other other_to =
    place_branch t go around turning made from test (left_of t AsTest test) close one one_to other other_to

abbrev pub other_moves : (t : Text) → Option t.Stmt → List (Move t)
other_moves t None = []
other_moves t (Some stmt) = Does stmt ∷ []

-- a full expression whose value is not used
abbrev pub full_moves : (t : Text) → t.Expr → ℕ → ℕ → Place → List (Move t)
full_moves t expr spare count end = Works expr spare ∷ Emits (i.Finish (run_of spare count)) end ∷ []

abbrev pub place_full : (t : Text) → (Around → Go t) → Around → Made → ℕ → t.Expr → Place → ℕ → Made
place_full t go around made from expr end to =
    along t around (go around) (with_registers (left_of t AsWork expr) made) from (full_moves t expr made.registers (left_of t AsWork expr) end) to

-- loops
abbrev pub in_loop : Around → Around → ℕ → ℕ → Standing → Around
in_loop around inside again behind standing = record inside {
  loop = Some (record {
    again = again;
    behind = behind;
    inner = length inside.scopes;
    outer = length around.scopes;
    registers = standing.registers;
  });
}

-- no body is a declaration (6.8.5)
abbrev pub is_declaration : (t : Text) → Clause t.Expr t.Stmt t.Init → Bool
is_declaration t (Declare names) = true
is_declaration t clause = false

abbrev pub unless_declared : (t : Text) → t.Stmt → Made → Made
unless_declared t body made = if is_declaration t (t.clause body) then failed made else made

-- a body that has no edge, and behind which its loop goes on; and one that ends it
abbrev pub passes : (t : Text) → Clause t.Expr t.Stmt t.Init → Bool
passes t (Eval None) = true
passes t Continue = true
passes t clause = false

abbrev pub is_break : (t : Text) → Clause t.Expr t.Stmt t.Init → Bool
is_break t Break = true
is_break t clause = false

-- a `do` whose body is a `break` does nothing: an edge without variables leads to its end, and none to its test
abbrev pub place_do_body : (t : Text) → (Around → Go t) → Around → Made → ℕ → t.Stmt → ℕ → ℕ → Bool → Made
place_do_body t go turning made from body again to true = emit made from (i.Enter []) to (t.first body)
place_do_body t go turning made from body again to false = along t turning (go turning) made from (Does body ∷ []) again

abbrev pub place_do : (t : Text) → (Around → Go t) → Around → Made → ℕ → t.Stmt → t.Expr → Place → ℕ → Standing → Bool → Made
place_do t go around made from body test close to standing true = branch t go around around made from test close [] from [] to
place_do t go around made from body test close to standing false =
    branch t go around around (place_do_body t go (in_loop around around made.points to standing) (with_point standing made) from body made.points to (is_break t (t.clause body)))
    made.points test close [] from [] to

-- a turn of a `for` from its head, and what is done behind it
abbrev pub place_turn : (t : Text) → (Around → Go t) → Around → Around → Made → ℕ → Option t.Expr → Place → t.Stmt → ℕ → ℕ → Made
place_turn t go around turning made head None semicolon body again out = along t turning (go turning) made head (Does body ∷ []) again
place_turn t go around turning made head (Some test) semicolon body again out =
    branch t go around turning made head test semicolon (Does body ∷ []) again [] out

abbrev pub place_next : (t : Text) → (Around → Go t) → Around → Made → ℕ → Option t.Expr → Place → ℕ → Made
place_next t go around made from None close to = made
place_next t go around made from (Some expr) close to = place_full t go around made from expr close to

-- whether what is done behind a turn begins at the head itself
--
-- A `for` without a test and without what is done behind a turn, whose body is a `;`, has no edge: the graph ends at its head, where the program runs on.
abbrev pub is_at_head : (t : Text) → Option t.Expr → Option t.Expr → t.Stmt → Bool
is_at_head t test None body = true
is_at_head t None (Some expr) body = passes t (t.clause body)
is_at_head t (Some test) (Some expr) body = false

abbrev pub place_turns : (t : Text) → (Around → Go t) → Around → Around → Made → ℕ → Option t.Expr → Place → Option t.Expr → Place → t.Stmt → ℕ → ℕ → ℕ → Standing → Made
place_turns t go outside around made head test semicolon next close body again out to standing =
    place_next t go around (place_turn t go around (in_loop outside around again to standing) made head test semicolon body again out) again next close head

-- the points of a `for`: its head, the one where the block is left, and the one where what is done behind a turn begins
abbrev pub place_for : (t : Text) → (Around → Go t) → Around → Around → Made → List Name → ℕ → t.Stmt → t.Stmt → Option t.Expr → Place → Option t.Expr → Place → t.Stmt → Standing → Standing → Bool → ℕ → Made
place_for t go outside around made names from stmt first test semicolon next close body entered standing true to =
    emit (place_turns t go outside around
    (along t around (go around) (with_head made.points (with_point entered (with_point entered made))) from
    (enters names (t.first stmt) ∷ Does first ∷ []) made.points)
    made.points test semicolon next close body made.points (suc made.points) to standing)
    (suc made.points) (i.Leave (variables_of names)) to (t.first stmt)
place_for t go outside around made names from stmt first test semicolon next close body entered standing false to =
    emit (place_turns t go outside around
    (along t around (go around) (with_head made.points (with_point entered (with_point entered (with_point entered made)))) from
    (enters names (t.first stmt) ∷ Does first ∷ []) made.points)
    made.points test semicolon next close body (suc (suc made.points)) (suc made.points) to standing)
    (suc made.points) (i.Leave (variables_of names)) to (t.first stmt)

-- jumps: the registers of unfinished expressions that are left go at the word, and then each block is left
abbrev pub finishes : {E S I : Type 0} → List ℕ → Place → List (MoveOf E S I)
finishes [] word = []
finishes (register ∷ registers) word = Emits (i.Finish (register ∷ registers)) word ∷ []

abbrev pub jump_moves : {E S I : Type 0} → Around → Standing → ℕ → Loop → Place → List (MoveOf E S I)
jump_moves around standing kept loop word =
    finishes (registers_left standing.registers loop.registers) word ++ map (λ names. leaves names word) (blocks_left around kept)

abbrev pub place_break : (t : Text) → (Around → Go t) → Around → Made → ℕ → Place → Option Loop → Made
place_break t go around made from word None = failed made
place_break t go around made from word (Some loop) =
    along t around (go around) made from (jump_moves around (stands_at made from) loop.outer loop word) loop.behind

abbrev pub place_continue : (t : Text) → (Around → Go t) → Around → Made → ℕ → Place → Option Loop → Made
place_continue t go around made from word None = failed made
place_continue t go around made from word (Some loop) =
    along t around (go around) made from (jump_moves around (stands_at made from) loop.inner loop word) loop.again

-- all blocks of a function are left at once
abbrev pub closings : {E S I : Type 0} → Bool → Place → List (MoveOf E S I)
closings true word = Emits i.Close word ∷ []
closings false word = []

abbrev pub function_leaves : {E S I : Type 0} → Around → Place → List (MoveOf E S I)
function_leaves around word = leaves (names_of around.scopes) word ∷ closings around.closes word

abbrev pub registers_of : Standing → List ℕ
registers_of standing = map (λ one. one.register) standing.registers

abbrev pub return_moves : (t : Text) → Around → t.Expr → ℕ → ℕ → ℕ → Conversion → Standing → Place → List (Move t)
return_moves t around expr spare count r change standing word =
    Evaluates expr spare r ∷ (adapts change r (width (value_kind t expr)) (suc r) word
    ++ Emits (i.Move around.result (stands_in change r (suc r))) word
    ∷ Emits (i.Finish (registers_of standing ++ (run_of spare count ++ stands_in change r (suc r) ∷ []))) word ∷ function_leaves around word)

abbrev pub place_return_value : (t : Text) → (Around → Go t) → Around → Made → ℕ → t.Expr → Place → ℕ → Made
place_return_value t go around made from expr word count =
    along t around (go around) (with_registers (count + 2) made) from
    (return_moves t around expr made.registers count (made.registers + count) (conversion (value_kind t expr) around.kind) (stands_at made from) word) around.exit

abbrev pub place_return : (t : Text) → (Around → Go t) → Around → Made → ℕ → Place → Bool → Option t.Expr → Made
place_return t go around made from word true None =
    along t around (go around) made from (finishes (registers_of (stands_at made from)) word ++ function_leaves around word) around.exit
place_return t go around made from word true (Some expr) = failed made
place_return t go around made from word false None = failed made
place_return t go around made from word false (Some expr) =
    place_return_value t go around made from expr word (left_of t (AsValue false) expr)

-- declarations: in front of braces the whole object becomes 0 (6.7.9p19, p21)
abbrev pub zeroed : (t : Text) → Place → Object → Initialiser t.Expr t.Init → List (Move t)
zeroed t place object (Value value end) = []
zeroed t place object (Braces parts) = Clears place object ∷ []

abbrev pub declared_by : (t : Text) → Place → Option Object → Option t.Init → List (Move t)
declared_by t place None init = []
declared_by t place (Some object) None = []
declared_by t place (Some object) (Some init) = zeroed t place object (t.initialiser init) ++ Initialises place init ∷ []

abbrev pub declared_moves : (t : Text) → Declared t.Init → List (Move t)
declared_moves t name = declared_by t name.place (t.automatic name.place) name.init

abbrev pub clear_moves : {E S I : Type 0} → Option ℕ → Place → ℕ → ℕ → List (MoveOf E S I)
clear_moves variable place bytes r =
    object_moves variable place r
    ++ (if is_object_size bytes then Emits (i.Number (suc r) 0 1) place ∷ Emits (i.Fill r (suc r) bytes) place ∷ [] else Fails ∷ [])

-- a value of an initialiser is a full expression (6.7.9p11, p13)
abbrev pub writes : (t : Text) → t.Expr → Kind → ℕ → ℕ → ℕ → Place → Option ℕ → List (Move t)
writes t value kind spare at from place None = Fails ∷ []
writes t value kind spare at from place (Some bytes) = Converts value kind spare from ∷ Emits (i.Write at from bytes) place ∷ []

abbrev pub set_by : (t : Text) → t.Expr → ℕ → ℕ → ℕ → Place → Kind → List (Move t)
set_by t value spare at from place (Struct bytes) = Locates value spare from ∷ copies at from bytes false place
set_by t value spare at from place kind = writes t value kind spare at from place (scalar_bytes kind)

abbrev pub left_by_set : (t : Text) → t.Expr → Kind → ℕ
left_by_set t value (Struct bytes) = left_of t (AsPlace false) value
left_by_set t value kind = left_as t (left_of t) value false kind

abbrev pub set_moves : (t : Text) → Option ℕ → Place → t.Expr → Place → Store → ℕ → ℕ → List (Move t)
set_moves t variable place value end stored spare count =
    object_moves variable place (shifted_in stored.offset (spare + count) (spare + count + 1))
    ++ (shifts (spare + count) (spare + count + 1) stored.offset place
    ++ (set_by t value spare (spare + count + 1) (spare + count + 2) place stored.kind ++ Emits (i.Finish (run_of spare count)) end ∷ []))

abbrev pub place_set : (t : Text) → (Around → Go t) → Around → Made → ℕ → Place → t.Expr → Place → ℕ → Option Store → Made
place_set t go around made from place value end to None = failed made
place_set t go around made from place value end to (Some stored) =
    along t around (go around) (with_registers (left_by_set t value stored.kind + 3) made) from
    (set_moves t (variable_of around (t.token place)) place value end stored made.registers (left_by_set t value stored.kind)) to

abbrev pub place_initialiser : (t : Text) → (Around → Go t) → Around → Made → ℕ → Place → ℕ → Initialiser t.Expr t.Init → Made
place_initialiser t go around made from place to (Value value end) = place_set t go around made from place value end to (t.store place value)
place_initialiser t go around made from place to (Braces parts) =
    if list_all (is_empty_within t.enough t) parts then failed made else along t around (go around) made from (map (Initialises place) parts) to

abbrev pub place_statement : (t : Text) → (Around → Go t) → Around → Made → ℕ → t.Stmt → ℕ → Clause t.Expr t.Stmt t.Init → Made
place_statement t go around made from stmt to (Declare names) = along t around (go around) made from (flat_map (declared_moves t) names) to
place_statement t go around made from stmt to (Eval None) = made
place_statement t go around made from stmt to (Eval (Some expr)) = place_full t go around made from expr (t.last stmt) to
place_statement t go around made from stmt to (Block body) =
    place_scope t go around made from (objects_in t body) (λ names. enters names (t.first stmt) ∷ (map Does body ++ leaves names (t.last stmt) ∷ [])) to
place_statement t go around made from stmt to (If test close one other) =
    branch t go around around made from test close (Does one ∷ []) to (other_moves t other) to
place_statement t go around made from stmt to (While test close body) =
    branch t go around (in_loop around around from to (stands_at made from)) (with_head from made) from test close (Does body ∷ []) from [] to
place_statement t go around made from stmt to (Do body test close) =
    place_do t go around (unless_declared t body (with_head from made)) from body test close to (stands_at made from) (passes t (t.clause body))
place_statement t go around made from stmt to (For first test semicolon next close body) =
    place_for t go around (within (named_from (length made.variables) (objects_of t first)) around) (with_objects false (objects_of t first) (unless_declared t body made))
    (named_from (length made.variables) (objects_of t first)) from stmt first test semicolon next close body
    (after t (enters (named_from (length made.variables) (objects_of t first)) (t.first stmt)) (stands_at made from)) (stands_at made from)
    (is_at_head t test next body) to
place_statement t go around made from stmt to Break = place_break t go around made from (t.first stmt) around.loop
place_statement t go around made from stmt to Continue = place_continue t go around made from (t.first stmt) around.loop
place_statement t go around made from stmt to (Return expr) = place_return t go around made from (t.first stmt) (is_void around.kind) expr

-- moves within so many levels: edges need none
abbrev pub go : ℕ → (t : Text) → Around → Go t
go zero t around made from (Emits instr place) to = emit made from instr to place
go zero t around made from (Pairs one other place) to = emit (emit made from one to place) from other to place
go zero t around made from (Parts one off other on place) to = emit (emit made from one off place) from other on place
go zero t around made from (Tells register size into place) to =
    place_told made from register size into (with_width made.registers size (stands_at made from)) (without_register register (stands_at made from)) place to
go zero t around made from Stops to = made
go zero t around made from Fails to = failed made
go zero t around made from move to = failed made
go (suc levels) t around made from (Emits instr place) to = emit made from instr to place
go (suc levels) t around made from (Pairs one other place) to = emit (emit made from one to place) from other to place
go (suc levels) t around made from (Parts one off other on place) to = emit (emit made from one off place) from other on place
go (suc levels) t around made from (Tells register size into place) to =
    place_told made from register size into (with_width made.registers size (stands_at made from)) (without_register register (stands_at made from)) place to
go (suc levels) t around made from Stops to = made
go (suc levels) t around made from Fails to = failed made
go (suc levels) t around made from (Evaluates expr spare into) to = place_value t (go levels t) around made from expr spare into to (t.form expr)
go (suc levels) t around made from (Converts expr kind spare into) to =
    along_line t around (go levels t around) made from (converted_line t expr spare into made.registers (conversion (value_kind t expr) kind)) to
go (suc levels) t around made from (Answers expr spare into size) to =
    place_answer t (go levels t around) made from expr spare into size (with_spares spare (left_of t AsTest expr) (stands_at made from)) to
go (suc levels) t around made from (Locates expr spare into) to =
    along_line t around (go levels t around) made from (place_line t (variable_of around) expr spare into made.registers (t.form expr)) to
go (suc levels) t around made from (Works expr spare) to = place_work t (go levels t) around made from expr spare to (t.form expr)
go (suc levels) t around made from (Asks expr spare off on) to = place_test t around (go levels t around) made from expr spare off on (t.form expr)
go (suc levels) t around made from (Does stmt) to = place_statement t (go levels t) around made from stmt to (t.clause stmt)
go (suc levels) t around made from (Clears place object) to =
    along t around (go levels t around) (with_registers 2 made) from
    (clear_moves (variable_of around (t.token place)) place object.bytes made.registers) to
go (suc levels) t around made from (Initialises place init) to = place_initialiser t (go levels t) around made from place to (t.initialiser init)
