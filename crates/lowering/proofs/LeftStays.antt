-- What an expression leaves in the spare registers is the same within any more levels, where it is placed with a graph.
use Rattle.std.proofs.Common.{◌≡◌, ◌<◌, ◌≤◌, ℕ, zero, suc, max, List, [], ◌∷◌, ◌++◌, map, length, Bool, true, false, ◌&&◌, nat_eq, refl, sym, ap, ◌∙◌, arith, Option, None, Some, slice_get, if◌then◌else◌}
use Rattle.std.proofs.lemmas.Bool.{false≢true}
use Rattle.cbase.specs.declared.place.Place.{Place}
use Rattle.cbase.specs.declared.tree.operators.BinaryOp.{BinaryOp}
use Rattle.cbase.specs.declared.tree.operators.BinaryOp.TheVariants.{Both, Either, Equal, NotEqual, Comma}
use Rattle.cbase.specs.declared.tree.operators.UnaryOp.TheVariants.{Address, Follow, Plus, Minus, Flip, Not}
use Rattle.typing.specs.ctypes.Integers.{promoted}
use Rattle.c_machine.specs.declared.built_in.BuiltIn.{BuiltIn}
use Rattle.c_machine.specs.declared.built_in.BuiltIn.TheVariants.{Malloc, Calloc, Free, Memset, Memcpy, Memmove, EndsRun, Assume, Expect, GivesInput}
use Rattle.c_machine.specs.declared.kind.Kind.{Kind}
use Rattle.c_machine.specs.declared.kind.Kind.TheVariants.{Integer, Pointer, Array, Struct, Void}
use Rattle.c_machine.specs.Text.{Standing, NothingStands, ObjectStands, ConstantStands, BuiltInStands, BodyStands, Form, Name, Known, Unary, Binary, Assign, Count, Choose, Cast, Index, Member, Call, Inner, AssertFail, Function, Text}
use Rattle.c_machine.specs.Expressions.{value_kind, built_in}
use Rattle.c_machine.specs.Words.{scalar_bytes, decayed, kind_after}
use Rattle.flow.specs.declared.flow_graph.Standing.{Standing as Stood}
use Rattle.lowering.specs.Kinds.{width, is_void, fits, conversion, as_operand, is_plain_operator, made_by, sides}
use Rattle.lowering.specs.declared.conversion.Conversion.{Conversion}
use Rattle.lowering.specs.declared.conversion.Conversion.TheVariants.{Nothing, Resized, Tested, Dropped, Unknown}
use Rattle.flow.specs.declared.instruction.Instr.TheVariants as i
use Rattle.lowering.specs.Known.{size_as}
use Rattle.lowering.specs.LetGo.{Wanted, AsValue, AsPlace, AsWork, AsTest, left_converted, left_as, left_by_load, in_spare_still, stays, left_by_binary, left_by_assign, left_by_arguments, behind_spare, left_by_built_in, left_by_body, left_by_call, left_by_value, left_by_place, left_by_work, left_by_test, leaves_nothing, left_within, left_of}
use Rattle.lowering.specs.Moves.{Move, Emits, Pairs, Parts, Evaluates, Converts, Answers, Tells, Locates, Works, Asks, Does, Clears, Initialises, Stops, Fails, Line, taking, pads}
use Rattle.lowering.specs.Table.{addressed, place_line, load_line, plus_line, unary_line, binary_line, store_line, assign_line, update_moves, update_line, count_line, argument_moves, fill_moves, copy_moves, built_in_line, body_line, registers_from, result_into, are_sized, gives, call_line, value_line, dropped_line, void_line, work_line, converted_line, kind_made, is_made}
use Rattle.lowering.specs.Placing.{Made, Around, with_point, with_registers, failed, stands_at, with_spares, after, Way, Idle, Leads, Goes, way_of, Begin, Here, New, begin_by, begins, Go, along_from, along_at, along, along_line, equality_moves, zero_test, two_tests, place_test, place_answer, place_arms, arm_moves, place_choose, place_value_form, place_value, place_void, place_work, variable_of, go as go_levels}
use Rattle.lowering.proofs.Placings.{IsSound, IsPlacing, point_placing, registers_placing}
use Rattle.lowering.proofs.PlacedForms.{begins_behind, moves_placing, along_placing}
use Rattle.lowering.proofs.Placed.{go_placing}

both : (one other one' other' : ℕ) → one ≡ one' → other ≡ other' → max one other ≡ max one' other'
both one other one' other' is is' = ap (λ (n : ℕ). max n other) is ∙ ap (λ (n : ℕ). max one' n) is'

abbrev makes_edges : Way → Bool
makes_edges Idle = false
makes_edges (Leads to) = false
makes_edges Goes = true

abbrev is_there : Begin → Bool
is_there (Here point) = true
is_there New = false

where_made : (is : Bool) (made : Made) (other : Made) → (if is then made else failed other).is_graph ≡ true → made.is_graph ≡ true
where_made true made other holds = holds
where_made false made other holds = absurd (false≢true holds)

module _ (t : Text) (one other : Wanted → t.Expr → ℕ) where
  -- what is wanted of the expression of a move leaves as much in both ways of counting
  abbrev pub SameFor : Move t → Type 0
  SameFor (Evaluates expr spare into) = (in_spare : Bool) → one (AsValue in_spare) expr ≡ other (AsValue in_spare) expr
  SameFor (Converts expr kind spare into) = (in_spare : Bool) → left_as t one expr in_spare kind ≡ left_as t other expr in_spare kind
  SameFor (Answers expr spare into size) = one AsTest expr ≡ other AsTest expr
  SameFor (Locates expr spare into) = (in_spare : Bool) → one (AsPlace in_spare) expr ≡ other (AsPlace in_spare) expr
  SameFor (Works expr spare) = one AsWork expr ≡ other AsWork expr
  SameFor (Asks expr spare off on) = one AsTest expr ≡ other AsTest expr
  SameFor Fails = ⊥
  SameFor (Emits instr place) = Unit {0}
  SameFor (Pairs instr instr' place) = Unit {0}
  SameFor (Parts instr off instr' on place) = Unit {0}
  SameFor (Tells register size into place) = Unit {0}
  SameFor (Does stmt) = Unit {0}
  SameFor (Clears place object) = Unit {0}
  SameFor (Initialises place init) = Unit {0}
  SameFor Stops = Unit {0}

  abbrev pub AllSame : List (Move t) → Type 0
  AllSame [] = Unit {0}
  AllSame (move ∷ moves) = SameFor move × AllSame moves

  line_where : (is : Bool) (line : Line t) → AllSame (if is then line else taking 0 (Fails ∷ [])).moves → AllSame line.moves
  line_where true line same = same
  line_where false line same = absurd same.0

  -- lines
  abbrev Value : t.Expr → Form t.Expr t.Stmt → Type 0
  Value expr form = (in_spare : Bool) → left_by_value t one expr in_spare form ≡ left_by_value t other expr in_spare form

  load_same : (expr : t.Expr) (spare into r : ℕ) (size : Option ℕ) → AllSame (load_line t expr spare into r size).moves → (in_spare : Bool) → left_by_load t one expr in_spare size ≡ left_by_load t other expr in_spare size
  load_same expr spare into r None same in_spare = same.0 in_spare
  load_same expr spare into r (Some bytes) same in_spare = same.0 false

  plus_same : (expr arg : t.Expr) (spare into r : ℕ) (change : Conversion) → AllSame (plus_line t expr arg spare into r change).moves → (in_spare : Bool) → one (AsValue in_spare) arg ≡ other (AsValue in_spare) arg
  plus_same expr arg spare into r Nothing same in_spare = same.0 in_spare
  plus_same expr arg spare into r (Resized bytes signed) same in_spare = same.0 in_spare
  plus_same expr arg spare into r Tested same in_spare = same.0 in_spare
  plus_same expr arg spare into r Dropped same in_spare = same.0 in_spare
  plus_same expr arg spare into r Unknown same in_spare = same.0 in_spare

  unary_plus : (expr arg : t.Expr) (spare into r : ℕ) (kind : Kind) → AllSame (unary_line t expr Plus arg spare into r kind).moves → (in_spare : Bool) → one (AsValue in_spare) arg ≡ other (AsValue in_spare) arg
  unary_plus expr arg spare into r (Integer of) same in_spare = plus_same expr arg spare into r (as_operand of (promoted of)) same in_spare
  unary_plus expr arg spare into r kind same in_spare = absurd same.0

  unary_minus : (expr arg : t.Expr) (spare into r : ℕ) (kind : Kind) → AllSame (unary_line t expr Minus arg spare into r kind).moves → (in_spare : Bool) → one (AsValue in_spare) arg ≡ other (AsValue in_spare) arg
  unary_minus expr arg spare into r (Integer of) same in_spare = same.0 in_spare
  unary_minus expr arg spare into r kind same in_spare = absurd same.0

  unary_flip : (expr arg : t.Expr) (spare into r : ℕ) (kind : Kind) → AllSame (unary_line t expr Flip arg spare into r kind).moves → (in_spare : Bool) → one (AsValue in_spare) arg ≡ other (AsValue in_spare) arg
  unary_flip expr arg spare into r (Integer of) same in_spare = same.0 in_spare
  unary_flip expr arg spare into r kind same in_spare = absurd same.0

  binary_same : (expr : t.Expr) (op : BinaryOp) (left right : t.Expr) (spare into r : ℕ) → AllSame (binary_line t expr op left right spare into r).moves → (in_spare : Bool) →
      left_by_binary t one expr op left right in_spare ≡ left_by_binary t other expr op left right in_spare
  binary_same expr Both left right spare into r same in_spare = same.0
  binary_same expr Either left right spare into r same in_spare = same.0
  binary_same expr Equal left right spare into r same in_spare = same.0
  binary_same expr NotEqual left right spare into r same in_spare = same.0
  binary_same expr Comma left right spare into r same in_spare =
      both (one AsWork left) (one (AsValue in_spare) right) (other AsWork left) (other (AsValue in_spare) right) same.0 (same.1.0 in_spare)
  binary_same expr op left right spare into r same in_spare =
      both (one (AsValue false) left) (one (AsValue false) right) (other (AsValue false) left) (other (AsValue false) right) (same.0 false) (same.1.0 false)

  store_same : (expr left right : t.Expr) (spare : ℕ) (kept : Option ℕ) (r : ℕ) (kind : Kind) (size : Option ℕ) → AllSame (store_line t expr left right spare kept r kind size).moves →
      max (one (AsPlace false) left) (left_as t one right false kind) ≡ max (other (AsPlace false) left) (left_as t other right false kind)
  store_same expr left right spare kept r kind None same = absurd same.0
  store_same expr left right spare kept r kind (Some bytes) same =
      both (one (AsPlace false) left) (left_as t one right false kind) (other (AsPlace false) left) (left_as t other right false kind) (same.0 false) (same.1.0 false)

  assign_same : (expr left right : t.Expr) (spare : ℕ) (kept : Option ℕ) (r : ℕ) (kind : Kind) → AllSame (assign_line t expr left right spare kept r kind).moves → left_by_assign t one left right kind ≡ left_by_assign t other left right kind
  assign_same expr left right spare kept r (Struct bytes) same =
      both (one (AsPlace false) left) (one (AsPlace false) right) (other (AsPlace false) left) (other (AsPlace false) right) (same.0 false) (same.1.0 false)
  assign_same expr left right spare kept r (Integer of) same = store_same expr left right spare kept r (Integer of) (scalar_bytes (Integer of)) same
  assign_same expr left right spare kept r (Pointer item) same = store_same expr left right spare kept r (Pointer item) (scalar_bytes (Pointer item)) same
  assign_same expr left right spare kept r (Array item) same = absurd same.0
  assign_same expr left right spare kept r Void same = absurd same.0

  update_same : (op : BinaryOp) (expr left right : t.Expr) (spare : ℕ) (kept : Option ℕ) (r : ℕ) (kind : Kind) (size : Option ℕ) → AllSame (update_line t op expr left right spare kept r kind size).moves →
      max (one (AsPlace false) left) (one (AsValue false) right) ≡ max (other (AsPlace false) left) (other (AsValue false) right)
  update_same op expr left right spare kept r kind None same = absurd same.0
  update_same op expr left right spare kept r kind (Some bytes) same =
      let parts = line_where (is_plain_operator op && fits (made_by op kind (value_kind t right)) (kind_after op kind (value_kind t right)))
      (taking 8 (update_moves t op expr left right spare kept r kind bytes (conversion (kind_after op kind (value_kind t right)) kind))) same in
      both (one (AsPlace false) left) (one (AsValue false) right) (other (AsPlace false) left) (other (AsValue false) right) (parts.0 false) (parts.1.0 false)

  count_same : (up after' : Bool) (expr arg : t.Expr) (spare : ℕ) (kept : Option ℕ) (r : ℕ) (kind : Kind) (size : Option ℕ) → AllSame (count_line t up after' expr arg spare kept r kind size).moves →
      one (AsPlace false) arg ≡ other (AsPlace false) arg
  count_same up after' expr arg spare kept r kind None same = absurd same.0
  count_same up after' expr arg spare kept r kind (Some bytes) same = same.0 false

  arguments_same : (args : List t.Expr) (params : List Kind) (spare r : ℕ) (more : List (Move t)) → AllSame (argument_moves t args params spare r ++ more) → left_by_arguments t one args params ≡ left_by_arguments t other args params
  arguments_same [] params spare r more same = refl
  arguments_same (arg ∷ args) [] spare r more same = refl
  arguments_same (arg ∷ args) (param ∷ params) spare r more same =
      both (left_as t one arg false param) (left_by_arguments t one args params) (left_as t other arg false param) (left_by_arguments t other args params) (same.0 false) (arguments_same args params spare (suc r) more same.1)

  fill_same : (at : t.Expr) (kind : Kind) (byte : t.Expr) (kind' : Kind) (spare : ℕ) (kept : Option ℕ) (r : ℕ) (place : Place) (size : Option ℕ) → AllSame (fill_moves t at kind byte kind' spare kept r place size) →
      max (left_as t one at false kind) (left_as t one byte false kind') ≡ max (left_as t other at false kind) (left_as t other byte false kind')
  fill_same at kind byte kind' spare kept r place None same = absurd same.0
  fill_same at kind byte kind' spare kept r place (Some count) same =
      both (left_as t one at false kind) (left_as t one byte false kind') (left_as t other at false kind) (left_as t other byte false kind') (same.0 false) (same.1.0 false)

  copy_same : (to : t.Expr) (kind : Kind) (from : t.Expr) (kind' : Kind) (spare : ℕ) (kept : Option ℕ) (r : ℕ) (disjoint : Bool) (place : Place) (size : Option ℕ) → AllSame (copy_moves t to kind from kind' spare kept r disjoint place size) →
      max (left_as t one to false kind) (left_as t one from false kind') ≡ max (left_as t other to false kind) (left_as t other from false kind')
  copy_same to kind from kind' spare kept r disjoint place None same = absurd same.0
  copy_same to kind from kind' spare kept r disjoint place (Some count) same =
      both (left_as t one to false kind) (left_as t one from false kind') (left_as t other to false kind) (left_as t other from false kind') (same.0 false) (same.1.0 false)

  behind_same : (in_spare : Bool) (count count' : ℕ) → count ≡ count' → behind_spare in_spare (max 1 count) ≡ behind_spare in_spare (max 1 count')
  behind_same in_spare count count' is = ap (λ (n : ℕ). behind_spare in_spare (max 1 n)) is

  -- a list with one element too few, or too many, has no graph
  built_in_same : (what : BuiltIn) (args : List t.Expr) (params : List Kind) (result : Kind) (spare : ℕ) (kept : Option ℕ) (r : ℕ) (place : Place) → AllSame (built_in_line t what args params result spare kept r place).moves →
      (in_spare : Bool) → left_by_built_in t one what args params in_spare ≡ left_by_built_in t other what args params in_spare
  built_in_same Malloc args params result spare kept r place same in_spare = refl
  built_in_same Calloc args params result spare kept r place same in_spare = refl
  built_in_same Free (at ∷ []) (param ∷ []) result spare kept r place same in_spare = ap (λ (n : ℕ). max n 0) (same.0 false)
  built_in_same Free args params result spare kept r place same in_spare = absurd same.0
  built_in_same Memset (at ∷ byte ∷ count ∷ []) (param ∷ param' ∷ param'' ∷ []) result spare kept r place same in_spare = fill_same at param byte param' spare kept r place (size_as t count param'') same
  built_in_same Memset args params result spare kept r place same in_spare = absurd same.0
  built_in_same Memcpy (to ∷ from ∷ count ∷ []) (param ∷ param' ∷ param'' ∷ []) result spare kept r place same in_spare = copy_same to param from param' spare kept r true place (size_as t count param'') same
  built_in_same Memcpy args params result spare kept r place same in_spare = absurd same.0
  built_in_same Memmove (to ∷ from ∷ count ∷ []) (param ∷ param' ∷ param'' ∷ []) result spare kept r place same in_spare = copy_same to param from param' spare kept r false place (size_as t count param'') same
  built_in_same Memmove args params result spare kept r place same in_spare = absurd same.0
  built_in_same EndsRun args params result spare kept r place same in_spare = arguments_same args params spare r (Stops ∷ []) same
  built_in_same Assume (arg ∷ []) (param ∷ []) result spare kept r place same in_spare = ap (λ (n : ℕ). max n 0) (same.0 false)
  built_in_same Assume args params result spare kept r place same in_spare = absurd same.0
  built_in_same Expect (arg ∷ expected ∷ []) (param ∷ param' ∷ []) result spare (Some into) r place same in_spare =
      both (left_as t one arg in_spare param) (behind_spare in_spare (max 1 (left_as t one expected true param'))) (left_as t other arg in_spare param) (behind_spare in_spare (max 1 (left_as t other expected true param')))
      (same.0 in_spare) (behind_same in_spare (left_as t one expected true param') (left_as t other expected true param') (same.1.0 true))
  built_in_same Expect args params result spare kept r place same in_spare = absurd same.0
  built_in_same GivesInput [] [] result spare kept r place same in_spare = refl
  built_in_same GivesInput args params result spare kept r place same in_spare = absurd same.0

  body_same : (args : List t.Expr) (number spare into r : ℕ) (place : Place) (function : Option (Function t.Stmt)) → AllSame (body_line t args number spare into r place function).moves → left_by_body t one args function ≡ left_by_body t other args function
  body_same args number spare into r place None same = refl
  body_same args number spare into r place (Some function) same =
      let ends : List (Move t) = Emits (i.Call number (registers_from r args) (result_into function.result into)) place ∷ [] in
      arguments_same args (map (λ param. param.kind) function.params) spare r ends
      (line_where (are_sized function.params) (taking (length args) (argument_moves t args (map (λ param. param.kind) function.params) spare r ++ ends)) same)

  call_same : (callee : t.Expr) (args : List t.Expr) (spare : ℕ) (kept : Option ℕ) (into r : ℕ) (standing : Standing) → AllSame (call_line t callee args spare kept into r standing).moves →
      (in_spare : Bool) → left_by_call t one args in_spare standing ≡ left_by_call t other args in_spare standing
  call_same callee args spare kept into r (BuiltInStands name params result) same in_spare =
      built_in_same (built_in name) args params result spare kept r (t.place callee)
      (line_where (gives (built_in name) params result) (built_in_line t (built_in name) args params result spare kept r (t.place callee)) same) in_spare
  call_same callee args spare kept into r (BodyStands number) same in_spare = body_same args number spare into r (t.place callee) (slice_get t.functions number) same
  call_same callee args spare kept into r (ObjectStands token) same in_spare = refl
  call_same callee args spare kept into r (ConstantStands bits) same in_spare = refl
  call_same callee args spare kept into r NothingStands same in_spare = refl

  value_same : (expr : t.Expr) (spare into r : ℕ) (form : Form t.Expr t.Stmt) → AllSame (value_line t expr spare into r form).moves → Value expr form
  value_same expr spare into r Name same in_spare = refl
  value_same expr spare into r (Known bits) same in_spare = refl
  value_same expr spare into r (Unary Address arg) same in_spare = same.0 in_spare
  value_same expr spare into r (Unary Follow arg) same in_spare = load_same expr spare into r (scalar_bytes (t.kind expr)) same in_spare
  value_same expr spare into r (Unary Not arg) same in_spare = same.0
  value_same expr spare into r (Unary Plus arg) same in_spare = unary_plus expr arg spare into r (value_kind t arg) same (in_spare_still Plus (value_kind t arg) in_spare)
  value_same expr spare into r (Unary Minus arg) same in_spare = unary_minus expr arg spare into r (value_kind t arg) same (in_spare_still Minus (value_kind t arg) in_spare)
  value_same expr spare into r (Unary Flip arg) same in_spare = unary_flip expr arg spare into r (value_kind t arg) same (in_spare_still Flip (value_kind t arg) in_spare)
  value_same expr spare into r (Binary op left right) same in_spare = binary_same expr op left right spare into r same in_spare
  value_same expr spare into r (Assign None left right) same in_spare = assign_same expr left right spare (Some into) r (t.kind left) same
  value_same expr spare into r (Assign (Some op) left right) same in_spare = update_same op expr left right spare (Some into) r (t.kind left) (scalar_bytes (t.kind left)) same
  value_same expr spare into r (Count up after' arg) same in_spare = count_same up after' expr arg spare (Some into) r (t.kind arg) (scalar_bytes (t.kind arg)) same
  value_same expr spare into r (Choose test left right) same in_spare = absurd same.0
  value_same expr spare into r (Cast arg) same in_spare = same.0 in_spare
  value_same expr spare into r (Index base index) same in_spare = load_same expr spare into r (scalar_bytes (t.kind expr)) same in_spare
  value_same expr spare into r (Member base bytes through) same in_spare = load_same expr spare into r (scalar_bytes (t.kind expr)) same in_spare
  value_same expr spare into r (Call callee args) same in_spare = call_same callee args spare (Some into) into r (t.stands callee) same in_spare
  value_same expr spare into r (Inner body close) same in_spare = refl
  value_same expr spare into r AssertFail same in_spare = refl

  addressed_same : (kind : Kind) (registers : ℕ) (move : Move t) (moves : List (Move t)) → AllSame (addressed kind registers (move ∷ moves)).moves → AllSame (move ∷ moves)
  addressed_same (Integer of) registers move moves same = absurd same.0
  addressed_same (Pointer item) registers move moves same = same
  addressed_same (Array item) registers move moves same = same
  addressed_same (Struct bytes) registers move moves same = same
  addressed_same Void registers move moves same = absurd same.0

  place_same : (variable : ℕ → Option ℕ) (expr : t.Expr) (spare into r : ℕ) (form : Form t.Expr t.Stmt) → AllSame (place_line t variable expr spare into r form).moves → (in_spare : Bool) →
      left_by_place t one in_spare form ≡ left_by_place t other in_spare form
  place_same variable expr spare into r (Unary Follow arg) same in_spare = (addressed_same (value_kind t arg) 0 (Evaluates arg spare into) [] same).0 in_spare
  place_same variable expr spare into r (Index base index) same in_spare =
      let parts = addressed_same _ 4 (Evaluates base spare r) _ same in
      both (one (AsValue false) base) (one (AsValue false) index) (other (AsValue false) base) (other (AsValue false) index) (parts.0 false) (parts.1.0 false)
  place_same variable expr spare into r (Member base bytes false) same in_spare = same.0 (in_spare && nat_eq bytes 0)
  place_same variable expr spare into r (Member base bytes true) same in_spare = (addressed_same (value_kind t base) 1 (Evaluates base spare _) _ same).0 (in_spare && nat_eq bytes 0)
  place_same variable expr spare into r form same in_spare = refl

  -- of an expression without a value a cast is to `void`
  cast_same : (arg : t.Expr) (spare : ℕ) (kind : Kind) → is_void (decayed kind) ≡ true → AllSame (Works arg spare ∷ []) → left_as t one arg false kind ≡ left_as t other arg false kind
  cast_same arg spare Void is same = same.0
  cast_same arg spare (Integer of) is same = absurd (false≢true is)
  cast_same arg spare (Pointer item) is same = absurd (false≢true is)
  cast_same arg spare (Array item) is same = absurd (false≢true is)
  cast_same arg spare (Struct bytes) is same = absurd (false≢true is)

  void_same : (expr : t.Expr) (spare r : ℕ) (form : Form t.Expr t.Stmt) → (leaves_nothing t form ≡ false → is_void (value_kind t expr) ≡ true) → AllSame (void_line t expr spare r form).moves →
      left_by_value t one expr false form ≡ left_by_value t other expr false form
  void_same expr spare r (Assign None left right) void same = assign_same expr left right spare None r (t.kind left) same
  void_same expr spare r (Assign (Some op) left right) void same = update_same op expr left right spare None r (t.kind left) (scalar_bytes (t.kind left)) same
  void_same expr spare r (Count up after' arg) void same = count_same up after' expr arg spare None r (t.kind arg) (scalar_bytes (t.kind arg)) same
  void_same expr spare r (Cast arg) void same = cast_same arg spare (t.kind expr) (void refl) same
  void_same expr spare r (Call callee args) void same = call_same callee args spare None spare r (t.stands callee) same false
  void_same expr spare r AssertFail void same = refl
  void_same expr spare r Name void same = refl
  void_same expr spare r (Known bits) void same = refl
  void_same expr spare r (Unary op arg) void same = absurd same.0
  void_same expr spare r (Binary op left right) void same = absurd same.0
  void_same expr spare r (Choose test left right) void same = absurd same.0
  void_same expr spare r (Index base index) void same = absurd same.0
  void_same expr spare r (Member base bytes through) void same = absurd same.0
  void_same expr spare r (Inner body close) void same = absurd same.0

  dropped_same : (expr : t.Expr) (spare : ℕ) → AllSame (dropped_line t expr spare).moves → max 1 (one (AsValue true) expr) ≡ max 1 (other (AsValue true) expr)
  dropped_same expr spare same = ap (λ (n : ℕ). max 1 n) (same.0 true)

  let_go_same : (expr : t.Expr) (spare r : ℕ) (form : Form t.Expr t.Stmt) (void nothing : Bool) → is_void (value_kind t expr) ≡ void → leaves_nothing t form ≡ nothing →
      AllSame (if void then void_line t expr spare r form else (if nothing then void_line t expr spare r form else dropped_line t expr spare)).moves →
      (if void then left_by_value t one expr false form else (if nothing then left_by_value t one expr false form else max 1 (one (AsValue true) expr)))
      ≡ (if void then left_by_value t other expr false form else (if nothing then left_by_value t other expr false form else max 1 (other (AsValue true) expr)))
  let_go_same expr spare r form true nothing is is' same = void_same expr spare r form (λ none. is) same
  let_go_same expr spare r form false true is is' same = void_same expr spare r form (λ none. absurd (false≢true (sym none ∙ is'))) same
  let_go_same expr spare r form false false is is' same = dropped_same expr spare same

  work_same : (expr : t.Expr) (spare r : ℕ) (form : Form t.Expr t.Stmt) → AllSame (work_line t expr spare r form).moves → left_by_work t one expr form ≡ left_by_work t other expr form
  work_same expr spare r (Binary Comma left right) same = both (one AsWork left) (one AsWork right) (other AsWork left) (other AsWork right) same.0 same.1.0
  work_same expr spare r form same = let_go_same expr spare r form (is_void (value_kind t expr)) (leaves_nothing t form) refl refl same

  converted_same : (expr : t.Expr) (spare into r : ℕ) (change : Conversion) → AllSame (converted_line t expr spare into r change).moves → (in_spare : Bool) → left_converted t one expr in_spare change ≡ left_converted t other expr in_spare change
  converted_same expr spare into r Nothing same in_spare = same.0 in_spare
  converted_same expr spare into r (Resized bytes signed) same in_spare = same.0 false
  converted_same expr spare into r Tested same in_spare = same.0
  converted_same expr spare into r Dropped same in_spare = same.0
  converted_same expr spare into r Unknown same in_spare = absurd same.0

  -- what is placed
  module _ (go : Around → Go t)
      (placing : (around : Around) (made : Made) (from : ℕ) (move : Move t) (to : ℕ) → from < made.points → IsSound made → IsPlacing made from (go around made from move to))
      (same : (around : Around) (made : Made) (from : ℕ) (move : Move t) (to : ℕ) → from < made.points → IsSound made → (go around made from move to).is_graph ≡ true → SameFor move) where
    still_same : (around : Around) (standing : Stood) (move : Move t) → makes_edges (way_of t around standing move) ≡ false → SameFor move
    still_same around standing (Does stmt) is = tt
    still_same around standing (Initialises place init) is = tt
    still_same around standing (Clears place object) is = tt
    still_same around standing (Emits instr place) is = tt
    still_same around standing (Pairs instr instr' place) is = tt
    still_same around standing (Parts instr off instr' on place) is = tt
    still_same around standing (Tells register size into place) is = tt
    still_same around standing Stops is = tt
    still_same around standing Fails is = absurd (false≢true (sym is))
    still_same around standing (Evaluates expr spare into) is = absurd (false≢true (sym is))
    still_same around standing (Converts expr kind spare into) is = absurd (false≢true (sym is))
    still_same around standing (Answers expr spare into size) is = absurd (false≢true (sym is))
    still_same around standing (Locates expr spare into) is = absurd (false≢true (sym is))
    still_same around standing (Works expr spare) is = absurd (false≢true (sym is))
    still_same around standing (Asks expr spare off on) is = absurd (false≢true (sym is))

    here_first : (way : Way) (begin : Begin) (point : ℕ) → begin_by way begin ≡ Here point → makes_edges way ≡ false
    here_first Idle begin point is = refl
    here_first (Leads at) begin point is = refl
    here_first Goes begin point is = absurd (false≢true (ap is_there is))

    -- what is placed one behind the other, also behind what leads to a point that is there
    abbrev Same : Around → Stood → List (Move t) → ℕ → Made → ℕ → Type 0
    Same around standing moves to made from =
        (from < made.points → (along_at t around (go around) made from standing moves to).is_graph ≡ true → AllSame moves)
        × ((point : ℕ) → begins t around standing moves to ≡ Here point → (along_at t around (go around) made from standing moves to).is_graph ≡ true → AllSame moves)

    abbrev rest_of : Around → Stood → List (Move t) → ℕ → Made → ℕ → Made
    rest_of around standing moves to made point = along_at t around (go around) made point standing moves to

    by_way : (around : Around) (made : Made) (from : ℕ) (standing : Stood) (move : Move t) (moves : List (Move t)) (to : ℕ) (way : Way) (begin : Begin) → begins t around standing moves to ≡ begin →
        (makes_edges way ≡ false → SameFor move) → ((made' : Made) (from' : ℕ) → IsSound made' → Same around standing moves to made' from') → IsSound made →
        (from < made.points → (along_from t (rest_of around standing moves to) (go around) made from move standing way begin).is_graph ≡ true → AllSame (move ∷ moves))
        × ((point : ℕ) → begin_by way begin ≡ Here point → (along_from t (rest_of around standing moves to) (go around) made from move standing way begin).is_graph ≡ true → AllSame (move ∷ moves))
    by_way around made from standing move moves to Idle begin is still rest sound =
        (λ inside graph. (still refl, (rest made from sound).0 inside graph), λ point here graph. (still refl, (rest made from sound).1 point (is ∙ here) graph))
    by_way around made from standing move moves to (Leads at) (Here point) is still rest sound =
        (λ inside graph. (still refl, (rest made point sound).1 point is graph), λ point' here graph. (still refl, (rest made point sound).1 point is graph))
    by_way around made from standing move moves to (Leads at) New is still rest sound =
        let one' = point_placing standing made from sound in (
          λ inside graph. (still refl, (rest (with_point standing made) made.points one'.sound).0 (omega arith) graph),
          λ point here graph. (still refl, (rest (with_point standing made) made.points one'.sound).0 (omega arith) graph),
        )
    by_way around made from standing move moves to Goes (Here point) is still rest sound = (
      λ inside graph.
          let one' = placing around made from move point inside sound in
          let behind = (moves_placing t around (go around) (placing around) (go around made from move point) point standing moves to one'.sound).1 point is in
          (same around made from move point inside sound (behind.graph graph), (rest (go around made from move point) point one'.sound).1 point is graph),
      λ point' here graph. absurd (false≢true (ap is_there here)),
    )
    by_way around made from standing move moves to Goes New is still rest sound = (
      λ inside graph.
          let first = point_placing standing made from sound in
          let one' = placing around (with_point standing made) from move made.points (omega arith) first.sound in
          let h = one'.points in
          let behind = (moves_placing t around (go around) (placing around) (go around (with_point standing made) from move made.points) made.points standing moves to one'.sound).0 (omega arith) in (
            same around (with_point standing made) from move made.points (omega arith) first.sound (behind.graph graph),
            (rest (go around (with_point standing made) from move made.points) made.points one'.sound).0 (omega arith) graph,
          ),
      λ point here graph. absurd (false≢true (ap is_there here)),
    )

    moves_same : (around : Around) (made : Made) (from : ℕ) (standing : Stood) (moves : List (Move t)) (to : ℕ) → IsSound made → Same around standing moves to made from
    moves_same around made from standing [] to sound = (λ inside graph. tt, λ point is graph. tt)
    moves_same around made from standing (move ∷ moves) to sound =
        let parts = by_way around made from (after t move standing) move moves to (way_of t around standing move) (begins t around (after t move standing) moves to) refl (still_same around standing move)
        (λ made' from' sound'. moves_same around made' from' (after t move standing) moves to sound') sound in
        (parts.0, λ point is graph. parts.1 point (sym (begins_behind t around (go around) (placing around) standing move moves to) ∙ is) graph)

    along_same : (around : Around) (made : Made) (from : ℕ) (moves : List (Move t)) (to : ℕ) → from < made.points → IsSound made → (along t around (go around) made from moves to).is_graph ≡ true → AllSame moves
    along_same around made from moves to inside sound graph = (moves_same around made from (stands_at made from) moves to sound).0 inside graph

    line_same : (around : Around) (made : Made) (from : ℕ) (line : Line t) (to : ℕ) → from < made.points → IsSound made → (along_line t around (go around) made from line to).is_graph ≡ true → AllSame line.moves
    line_same around made from line to inside sound graph =
        along_same around (with_registers line.registers made) from line.moves to inside (registers_placing line.registers made from sound).sound graph

    -- `?:`
    arms_same : (around : Around) (made : Made) (from : ℕ) (test : t.Expr) (spare : ℕ) (standing : Stood) (moves moves' : List (Move t)) (to : ℕ) → from < made.points → IsSound made →
        (place_arms t around (go around) made from test spare standing moves moves' to).is_graph ≡ true → (one AsTest test ≡ other AsTest test) × AllSame moves × AllSame moves'
    arms_same around made from test spare standing moves moves' to inside sound graph =
        let made1 : Made = with_point standing made in
        let made2 : Made = with_point standing made1 in
        let first = point_placing standing made from sound in
        let second = point_placing standing made1 from first.sound in
        let made3 : Made = go around made2 from (Asks test spare made.points (suc made.points)) to in
        let third = placing around made2 from (Asks test spare made.points (suc made.points)) to (omega arith) second.sound in
        let h = third.points in
        let made4 : Made = along t around (go around) made3 (suc made.points) moves to in
        let fourth = along_placing t around (go around) (placing around) made3 (suc made.points) moves to (omega arith) third.sound in
        let k = fourth.points in
        let last = along_placing t around (go around) (placing around) made4 made.points moves' to (omega arith) fourth.sound in (
          same around made2 from (Asks test spare made.points (suc made.points)) to (omega arith) second.sound (fourth.graph (last.graph graph)),
          along_same around made3 (suc made.points) moves to (omega arith) third.sound (last.graph graph),
          along_same around made4 made.points moves' to (omega arith) fourth.sound graph,
        )

    abbrev ChoiceSame : t.Expr → t.Expr → t.Expr → Kind → Bool → Type 0
    ChoiceSame test left right kind in_spare =
        max (one AsTest test) (max (left_as t one left in_spare kind) (left_as t one right in_spare kind)) ≡ max (other AsTest test) (max (left_as t other left in_spare kind) (left_as t other right in_spare kind))

    choose_same : (around : Around) (made : Made) (from : ℕ) (expr test left right : t.Expr) (spare into to : ℕ) → from < made.points → IsSound made →
        (place_choose t around (go around) made from expr test left right spare into to).is_graph ≡ true → (in_spare : Bool) → ChoiceSame test left right (value_kind t expr) in_spare
    choose_same around made from expr test left right spare into to inside sound graph in_spare =
        let kind : Kind = value_kind t expr in
        let tested : ℕ = left_of t AsTest test in
        let left_one : ℕ = left_as t (left_of t) left (nat_eq into spare) kind in
        let left_other : ℕ = left_as t (left_of t) right (nat_eq into spare) kind in
        let parts = arms_same around made from test spare (with_spares spare tested (stands_at made from))
        (arm_moves t kind spare into (max tested left_one) (max tested (max left_one left_other)) (t.place expr) left)
        (arm_moves t kind spare into (max tested left_other) (max tested (max left_one left_other)) (t.place expr) right) to inside sound graph in
        both (one AsTest test) (max (left_as t one left in_spare kind) (left_as t one right in_spare kind)) (other AsTest test) (max (left_as t other left in_spare kind) (left_as t other right in_spare kind)) parts.0
        (both (left_as t one left in_spare kind) (left_as t one right in_spare kind) (left_as t other left in_spare kind) (left_as t other right in_spare kind) (parts.1.0 in_spare) (parts.2.0 in_spare))

    -- values
    form_same : (around : Around) (made : Made) (from : ℕ) (expr : t.Expr) (spare into to : ℕ) (form : Form t.Expr t.Stmt) → from < made.points → IsSound made →
        (place_value_form t go around made from expr spare into to form).is_graph ≡ true → Value expr form
    form_same around made from expr spare into to (Choose test left right) inside sound graph in_spare = choose_same around made from expr test left right spare into to inside sound graph in_spare
    form_same around made from expr spare into to (Inner body close) inside sound graph in_spare = refl
    form_same around made from expr spare into to form inside sound graph in_spare =
        value_same expr spare into made.registers form (line_same around made from (value_line t expr spare into made.registers form) to inside sound graph) in_spare

    pub value_stays : (around : Around) (made : Made) (from : ℕ) (expr : t.Expr) (spare into to : ℕ) (form : Form t.Expr t.Stmt) → from < made.points → IsSound made →
        (place_value t go around made from expr spare into to form).is_graph ≡ true → Value expr form
    value_stays around made from expr spare into to form inside sound graph =
        form_same around made from expr spare into to form inside sound (where_made (is_made t expr form) (place_value_form t go around made from expr spare into to form) made graph)

    pub place_stays : (around : Around) (made : Made) (from : ℕ) (expr : t.Expr) (spare into to : ℕ) (form : Form t.Expr t.Stmt) → from < made.points → IsSound made →
        (along_line t around (go around) made from (place_line t (variable_of around) expr spare into made.registers form) to).is_graph ≡ true → (in_spare : Bool) → left_by_place t one in_spare form ≡ left_by_place t other in_spare form
    place_stays around made from expr spare into to form inside sound graph in_spare =
        place_same (variable_of around) expr spare into made.registers form (line_same around made from (place_line t (variable_of around) expr spare into made.registers form) to inside sound graph) in_spare

    -- expressions whose value is not used
    when_void : (void : Bool) (one_value one_other other_value other_other : ℕ) → void ≡ true → one_value ≡ other_value → (if void then one_value else one_other) ≡ (if void then other_value else other_other)
    when_void true one_value one_other other_value other_other is equal = equal
    when_void false one_value one_other other_value other_other is equal = absurd (false≢true is)

    done_line : (around : Around) (made : Made) (from : ℕ) (expr : t.Expr) (spare to : ℕ) (form : Form t.Expr t.Stmt) → from < made.points → IsSound made →
        (along_line t around (go around) made from (work_line t expr spare made.registers form) to).is_graph ≡ true → left_by_work t one expr form ≡ left_by_work t other expr form
    done_line around made from expr spare to form inside sound graph =
        work_same expr spare made.registers form (line_same around made from (work_line t expr spare made.registers form) to inside sound graph)

    void_stays : (around : Around) (made : Made) (from : ℕ) (expr : t.Expr) (spare to : ℕ) (form : Form t.Expr t.Stmt) → is_void (value_kind t expr) ≡ true → from < made.points → IsSound made →
        (place_void t go around made from expr spare to form).is_graph ≡ true → left_by_work t one expr form ≡ left_by_work t other expr form
    void_stays around made from expr spare to (Choose test left right) void inside sound graph =
        let kind : Kind = value_kind t expr in
        when_void (is_void (value_kind t expr)) (max (one AsTest test) (max (left_as t one left false kind) (left_as t one right false kind))) (max 1 (one (AsValue true) expr))
        (max (other AsTest test) (max (left_as t other left false kind) (left_as t other right false kind))) (max 1 (other (AsValue true) expr)) void
        (choose_same around made from expr test left right spare spare to inside sound graph false)
    void_stays around made from expr spare to (Inner body close) void inside sound graph =
        when_void (is_void (value_kind t expr)) 0 (max 1 (one (AsValue true) expr)) 0 (max 1 (other (AsValue true) expr)) void refl
    void_stays around made from expr spare to form void inside sound graph = done_line around made from expr spare to form inside sound graph

    pub work_stays : (around : Around) (made : Made) (from : ℕ) (expr : t.Expr) (spare to : ℕ) (form : Form t.Expr t.Stmt) → from < made.points → IsSound made →
        (place_work t go around made from expr spare to form).is_graph ≡ true → left_by_work t one expr form ≡ left_by_work t other expr form
    work_stays around made from expr spare to form inside sound graph = by_kind (is_void (value_kind t expr)) refl graph
      where
        by_kind : (void : Bool) → is_void (value_kind t expr) ≡ void →
            (if void then (if is_void (kind_made t expr form) then place_void t go around made from expr spare to form else failed made)
            else along_line t around (go around) made from (work_line t expr spare made.registers form) to).is_graph ≡ true → left_by_work t one expr form ≡ left_by_work t other expr form
        by_kind true is graph' = void_stays around made from expr spare to form is inside sound (where_made (is_void (kind_made t expr form)) (place_void t go around made from expr spare to form) made graph')
        by_kind false is graph' = done_line around made from expr spare to form inside sound graph'

    -- conversions, conditions
    pub convert_stays : (around : Around) (made : Made) (from : ℕ) (expr : t.Expr) (spare into to : ℕ) (change : Conversion) → from < made.points → IsSound made →
        (along_line t around (go around) made from (converted_line t expr spare into made.registers change) to).is_graph ≡ true → (in_spare : Bool) → left_converted t one expr in_spare change ≡ left_converted t other expr in_spare change
    convert_stays around made from expr spare into to change inside sound graph in_spare =
        converted_same expr spare into made.registers change (line_same around made from (converted_line t expr spare into made.registers change) to inside sound graph) in_spare

    pub answer_stays : (around : Around) (made : Made) (from : ℕ) (expr : t.Expr) (spare into size : ℕ) (standing : Stood) (to : ℕ) → from < made.points → IsSound made →
        (place_answer t (go around) made from expr spare into size standing to).is_graph ≡ true → one AsTest expr ≡ other AsTest expr
    answer_stays around made from expr spare into size standing to inside sound graph =
        let first = point_placing standing made from sound in
        let second = point_placing standing (with_point standing made) from first.sound in
        same around (with_point standing (with_point standing made)) from (Asks expr spare made.points (suc made.points)) to (omega arith) second.sound graph

    tests_same : (around : Around) (made : Made) (from : ℕ) (first : ℕ → ℕ → Move t) (second : Move t) (standing : Stood) (moves : List (Move t)) (end : ℕ) → from < made.points → IsSound made →
        (two_tests t around (go around) made from first second standing moves end).is_graph ≡ true → ((early between : ℕ) × SameFor (first early between)) × SameFor second
    tests_same around made from first second standing [] end inside sound graph =
        let made1 : Made = with_point standing made in
        let one' = point_placing standing made from sound in
        let two = placing around made1 from (first end made.points) end (omega arith) one'.sound in
        let h = two.points in
        let made2 : Made = go around made1 from (first end made.points) end in
        let last = placing around made2 made.points second end (omega arith) two.sound in (
          (end, made.points, same around made1 from (first end made.points) end (omega arith) one'.sound (last.graph graph)),
          same around made2 made.points second end (omega arith) two.sound graph,
        )
    tests_same around made from first second standing (pad ∷ pads') end inside sound graph =
        let made1 : Made = with_point standing made in
        let made2 : Made = with_point standing made1 in
        let one' = point_placing standing made from sound in
        let two = point_placing standing made1 from one'.sound in
        let three = placing around made2 from (first (suc made.points) made.points) end (omega arith) two.sound in
        let h = three.points in
        let made3 : Made = go around made2 from (first (suc made.points) made.points) end in
        let four = along_placing t around (go around) (placing around) made3 (suc made.points) (pad ∷ pads') end (omega arith) three.sound in
        let k = four.points in
        let made4 : Made = along t around (go around) made3 (suc made.points) (pad ∷ pads') end in
        let last = placing around made4 made.points second end (omega arith) four.sound in (
          (suc made.points, made.points, same around made2 from (first (suc made.points) made.points) end (omega arith) two.sound (four.graph (last.graph graph))),
          same around made4 made.points second end (omega arith) four.sound graph,
        )

    equality_same : (around : Around) (made : Made) (from : ℕ) (what : BinaryOp) (expr left right : t.Expr) (spare off on to : ℕ) → from < made.points → IsSound made →
        (along t around (go around) (with_registers 4 made) from (equality_moves t (sides what (value_kind t left) (value_kind t right)) expr left right spare made.registers off on) to).is_graph ≡ true →
        max (one (AsValue false) left) (one (AsValue false) right) ≡ max (other (AsValue false) left) (other (AsValue false) right)
    equality_same around made from what expr left right spare off on to inside sound graph =
        let parts = along_same around (with_registers 4 made) from (equality_moves t (sides what (value_kind t left) (value_kind t right)) expr left right spare made.registers off on) to inside
        (registers_placing 4 made from sound).sound graph in
        both (one (AsValue false) left) (one (AsValue false) right) (other (AsValue false) left) (other (AsValue false) right) (parts.0 false) (parts.1.0 false)

    zero_same : (around : Around) (made : Made) (from : ℕ) (expr : t.Expr) (spare off on : ℕ) → from < made.points → IsSound made →
        (zero_test t around (go around) made from expr spare off on).is_graph ≡ true → one (AsValue false) expr ≡ other (AsValue false) expr
    zero_same around made from expr spare off on inside sound graph =
        let moves : List (Move t) = Evaluates expr spare made.registers ∷ Emits (i.Number (suc made.registers) 0 (width (value_kind t expr))) (t.place expr)
        ∷ Parts (i.IfSame made.registers (suc made.registers)) off (i.IfDifferent made.registers (suc made.registers)) on (t.place expr) ∷ [] in
        (along_same around (with_registers 2 made) from moves off inside (registers_placing 2 made from sound).sound graph).0 false

    pub test_stays : (around : Around) (made : Made) (from : ℕ) (expr : t.Expr) (spare off on : ℕ) (form : Form t.Expr t.Stmt) → from < made.points → IsSound made →
        (place_test t around (go around) made from expr spare off on form).is_graph ≡ true → left_by_test t one expr form ≡ left_by_test t other expr form
    test_stays around made from expr spare off on (Unary Not arg) inside sound graph = same around made from (Asks arg spare on off) off inside sound graph
    test_stays around made from expr spare off on (Binary Both left right) inside sound graph =
        let parts = tests_same around made from (λ early between. Asks left spare early between) (Asks right spare off on) (with_spares spare (left_of t AsTest left) (stands_at made from))
        (pads spare (left_of t AsTest left) (left_of t AsTest right) (t.place expr)) off inside sound graph in
        both (one AsTest left) (one AsTest right) (other AsTest left) (other AsTest right) parts.0.2 parts.1
    test_stays around made from expr spare off on (Binary Either left right) inside sound graph =
        let parts = tests_same around made from (λ early between. Asks left spare between early) (Asks right spare off on) (with_spares spare (left_of t AsTest left) (stands_at made from))
        (pads spare (left_of t AsTest left) (left_of t AsTest right) (t.place expr)) on inside sound graph in
        both (one AsTest left) (one AsTest right) (other AsTest left) (other AsTest right) parts.0.2 parts.1
    test_stays around made from expr spare off on (Binary Equal left right) inside sound graph = equality_same around made from Equal expr left right spare on off on inside sound graph
    test_stays around made from expr spare off on (Binary NotEqual left right) inside sound graph = equality_same around made from NotEqual expr left right spare off on off inside sound graph
    test_stays around made from expr spare off on form inside sound graph =
        zero_same around made from expr spare off on inside sound graph

module _ (t : Text) where
  -- within any more levels
  abbrev pub Stays : ℕ → Type 0
  Stays levels = (more : ℕ) → levels ≤ more → (around : Around) (made : Made) (from : ℕ) (move : Move t) (to : ℕ) → from < made.points → IsSound made → (go_levels levels t around made from move to).is_graph ≡ true →
      SameFor t (left_within levels t) (left_within more t) move

  stays_more : (levels : ℕ) → Stays levels → (more : ℕ) → levels ≤ more → (around : Around) (made : Made) (from : ℕ) (move : Move t) (to : ℕ) → from < made.points → IsSound made →
      (go_levels (suc levels) t around made from move to).is_graph ≡ true → SameFor t (left_within (suc levels) t) (left_within (suc more) t) move
  stays_more levels stays more less around made from (Emits instr place) to inside sound graph = tt
  stays_more levels stays more less around made from (Pairs instr instr' place) to inside sound graph = tt
  stays_more levels stays more less around made from (Parts instr off instr' on place) to inside sound graph = tt
  stays_more levels stays more less around made from (Tells register size into place) to inside sound graph = tt
  stays_more levels stays more less around made from (Does stmt) to inside sound graph = tt
  stays_more levels stays more less around made from (Clears place object) to inside sound graph = tt
  stays_more levels stays more less around made from (Initialises place init) to inside sound graph = tt
  stays_more levels stays more less around made from Stops to inside sound graph = tt
  stays_more levels stays more less around made from Fails to inside sound graph = false≢true graph
  stays_more levels stays more less around made from (Evaluates expr spare into) to inside sound graph =
      value_stays t (left_within levels t) (left_within more t) (go_levels levels t) (go_placing levels t) (stays more less) around made from expr spare into to (t.form expr) inside sound graph
  stays_more levels stays more less around made from (Converts expr kind spare into) to inside sound graph = λ in_spare.
      sym (convert_stays t (left_within levels t) (left_within (suc levels) t) (go_levels levels t) (go_placing levels t) (stays (suc levels) (omega arith)) around made from expr spare into to
      (conversion (value_kind t expr) kind) inside sound graph in_spare)
      ∙ convert_stays t (left_within levels t) (left_within (suc more) t) (go_levels levels t) (go_placing levels t) (stays (suc more) (omega arith)) around made from expr spare into to
      (conversion (value_kind t expr) kind) inside sound graph in_spare
  stays_more levels stays more less around made from (Answers expr spare into size) to inside sound graph =
      let standing : Stood = with_spares spare (left_of t AsTest expr) (stands_at made from) in
      sym (answer_stays t (left_within levels t) (left_within (suc levels) t) (go_levels levels t) (go_placing levels t) (stays (suc levels) (omega arith)) around made from expr spare into size standing to inside sound graph)
      ∙ answer_stays t (left_within levels t) (left_within (suc more) t) (go_levels levels t) (go_placing levels t) (stays (suc more) (omega arith)) around made from expr spare into size standing to inside sound graph
  stays_more levels stays more less around made from (Locates expr spare into) to inside sound graph =
      place_stays t (left_within levels t) (left_within more t) (go_levels levels t) (go_placing levels t) (stays more less) around made from expr spare into to (t.form expr) inside sound graph
  stays_more levels stays more less around made from (Works expr spare) to inside sound graph =
      work_stays t (left_within levels t) (left_within more t) (go_levels levels t) (go_placing levels t) (stays more less) around made from expr spare to (t.form expr) inside sound graph
  stays_more levels stays more less around made from (Asks expr spare off on) to inside sound graph =
      test_stays t (left_within levels t) (left_within more t) (go_levels levels t) (go_placing levels t) (stays more less) around made from expr spare off on (t.form expr) inside sound graph

  stays_none : (more : ℕ) (around : Around) (made : Made) (from : ℕ) (move : Move t) (to : ℕ) → (go_levels zero t around made from move to).is_graph ≡ true → SameFor t (left_within zero t) (left_within more t) move
  stays_none more around made from (Emits instr place) to graph = tt
  stays_none more around made from (Pairs instr instr' place) to graph = tt
  stays_none more around made from (Parts instr off instr' on place) to graph = tt
  stays_none more around made from (Tells register size into place) to graph = tt
  stays_none more around made from (Does stmt) to graph = tt
  stays_none more around made from (Clears place object) to graph = tt
  stays_none more around made from (Initialises place init) to graph = tt
  stays_none more around made from Stops to graph = tt
  stays_none more around made from Fails to graph = false≢true graph
  stays_none more around made from (Evaluates expr spare into) to graph = absurd (false≢true graph)
  stays_none more around made from (Converts expr kind spare into) to graph = absurd (false≢true graph)
  stays_none more around made from (Answers expr spare into size) to graph = absurd (false≢true graph)
  stays_none more around made from (Locates expr spare into) to graph = absurd (false≢true graph)
  stays_none more around made from (Works expr spare) to graph = absurd (false≢true graph)
  stays_none more around made from (Asks expr spare off on) to graph = absurd (false≢true graph)

  pub left_stays : (levels : ℕ) → Stays levels
  left_stays zero more less around made from move to inside sound graph = stays_none more around made from move to graph
  left_stays (suc levels) zero less around made from move to inside sound graph = absurd (omega arith)
  left_stays (suc levels) (suc more) less around made from move to inside sound graph = stays_more levels (left_stays levels) more (omega arith) around made from move to inside sound graph

  -- The count of the whole text, a level in.
  value_enough : (levels enough : ℕ) → suc levels ≤ enough → (around : Around) (made : Made) (from : ℕ) (expr : t.Expr) (spare into to : ℕ) → from < made.points → IsSound made →
      (go_levels (suc levels) t around made from (Evaluates expr spare into) to).is_graph ≡ true → (in_spare : Bool) → left_by_value t (left_within enough t) expr in_spare (t.form expr) ≡ left_within enough t (AsValue in_spare) expr
  value_enough levels zero less around made from expr spare into to inside sound graph in_spare = absurd (omega arith)
  value_enough levels (suc enough) less around made from expr spare into to inside sound graph in_spare =
      sym (value_stays t (left_within levels t) (left_within (suc enough) t) (go_levels levels t) (go_placing levels t) (left_stays levels (suc enough) (omega arith)) around made from expr spare into to (t.form expr) inside sound graph in_spare)
      ∙ value_stays t (left_within levels t) (left_within enough t) (go_levels levels t) (go_placing levels t) (left_stays levels enough (omega arith)) around made from expr spare into to (t.form expr) inside sound graph in_spare

  place_enough : (levels enough : ℕ) → suc levels ≤ enough → (around : Around) (made : Made) (from : ℕ) (expr : t.Expr) (spare into to : ℕ) → from < made.points → IsSound made →
      (go_levels (suc levels) t around made from (Locates expr spare into) to).is_graph ≡ true → (in_spare : Bool) → left_by_place t (left_within enough t) in_spare (t.form expr) ≡ left_within enough t (AsPlace in_spare) expr
  place_enough levels zero less around made from expr spare into to inside sound graph in_spare = absurd (omega arith)
  place_enough levels (suc enough) less around made from expr spare into to inside sound graph in_spare =
      sym (place_stays t (left_within levels t) (left_within (suc enough) t) (go_levels levels t) (go_placing levels t) (left_stays levels (suc enough) (omega arith)) around made from expr spare into to (t.form expr) inside sound graph in_spare)
      ∙ place_stays t (left_within levels t) (left_within enough t) (go_levels levels t) (go_placing levels t) (left_stays levels enough (omega arith)) around made from expr spare into to (t.form expr) inside sound graph in_spare

  work_enough : (levels enough : ℕ) → suc levels ≤ enough → (around : Around) (made : Made) (from : ℕ) (expr : t.Expr) (spare to : ℕ) → from < made.points → IsSound made →
      (go_levels (suc levels) t around made from (Works expr spare) to).is_graph ≡ true → left_by_work t (left_within enough t) expr (t.form expr) ≡ left_within enough t AsWork expr
  work_enough levels zero less around made from expr spare to inside sound graph = absurd (omega arith)
  work_enough levels (suc enough) less around made from expr spare to inside sound graph =
      sym (work_stays t (left_within levels t) (left_within (suc enough) t) (go_levels levels t) (go_placing levels t) (left_stays levels (suc enough) (omega arith)) around made from expr spare to (t.form expr) inside sound graph)
      ∙ work_stays t (left_within levels t) (left_within enough t) (go_levels levels t) (go_placing levels t) (left_stays levels enough (omega arith)) around made from expr spare to (t.form expr) inside sound graph

  test_enough : (levels enough : ℕ) → suc levels ≤ enough → (around : Around) (made : Made) (from : ℕ) (expr : t.Expr) (spare off on to : ℕ) → from < made.points → IsSound made →
      (go_levels (suc levels) t around made from (Asks expr spare off on) to).is_graph ≡ true → left_by_test t (left_within enough t) expr (t.form expr) ≡ left_within enough t AsTest expr
  test_enough levels zero less around made from expr spare off on to inside sound graph = absurd (omega arith)
  test_enough levels (suc enough) less around made from expr spare off on to inside sound graph =
      sym (test_stays t (left_within levels t) (left_within (suc enough) t) (go_levels levels t) (go_placing levels t) (left_stays levels (suc enough) (omega arith)) around made from expr spare off on (t.form expr) inside sound graph)
      ∙ test_stays t (left_within levels t) (left_within enough t) (go_levels levels t) (go_placing levels t) (left_stays levels enough (omega arith)) around made from expr spare off on (t.form expr) inside sound graph

  pub value_left : (levels : ℕ) → suc levels ≤ t.enough → (around : Around) (made : Made) (from : ℕ) (expr : t.Expr) (spare into to : ℕ) → from < made.points → IsSound made →
      (go_levels (suc levels) t around made from (Evaluates expr spare into) to).is_graph ≡ true → (in_spare : Bool) → left_by_value t (left_of t) expr in_spare (t.form expr) ≡ left_of t (AsValue in_spare) expr
  value_left levels less = value_enough levels t.enough less

  pub place_left : (levels : ℕ) → suc levels ≤ t.enough → (around : Around) (made : Made) (from : ℕ) (expr : t.Expr) (spare into to : ℕ) → from < made.points → IsSound made →
      (go_levels (suc levels) t around made from (Locates expr spare into) to).is_graph ≡ true → (in_spare : Bool) → left_by_place t (left_of t) in_spare (t.form expr) ≡ left_of t (AsPlace in_spare) expr
  place_left levels less = place_enough levels t.enough less

  pub work_left : (levels : ℕ) → suc levels ≤ t.enough → (around : Around) (made : Made) (from : ℕ) (expr : t.Expr) (spare to : ℕ) → from < made.points → IsSound made →
      (go_levels (suc levels) t around made from (Works expr spare) to).is_graph ≡ true → left_by_work t (left_of t) expr (t.form expr) ≡ left_of t AsWork expr
  work_left levels less = work_enough levels t.enough less

  pub test_left : (levels : ℕ) → suc levels ≤ t.enough → (around : Around) (made : Made) (from : ℕ) (expr : t.Expr) (spare off on to : ℕ) → from < made.points → IsSound made →
      (go_levels (suc levels) t around made from (Asks expr spare off on) to).is_graph ≡ true → left_by_test t (left_of t) expr (t.form expr) ≡ left_of t AsTest expr
  test_left levels less = test_enough levels t.enough less
