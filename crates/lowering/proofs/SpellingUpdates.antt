-- What is placed for `+=` and its like is what the rest of a run wants: the address is read and written, and the new value is kept where it is used.
use Rattle.std.proofs.Common.{◌≡◌, ◌<◌, ◌≤◌, ◌⊎◌, ℕ, ◌+◌, max, List, [], ◌∷◌, ◌++◌, Bool, true, false, not, ◌&&◌, nat_eq, refl, sym, ap, ◌∙◌, append_assoc, inl, inr, arith, Option, None, Some, option_map, subst, if◌then◌else◌}
use Rattle.std.proofs.lemmas.Bool.{false≢true, and_parts}
use Rattle.std.proofs.lemmas.Option.{none-some, same_Some}
use Rattle.cbase.specs.declared.place.Place.{Place}
use Rattle.cbase.specs.declared.tree.operators.BinaryOp.{BinaryOp}
use Rattle.cbase.specs.declared.tree.operators.BinaryOp.TheVariants.{Left, Right, Equal, NotEqual, Both, Either, Comma}
use Rattle.arithmetic.specs.Conversion.{converted}
use Rattle.bytes_core.specs.declared.block.Block.{Block}
use Rattle.bytes_core.specs.declared.word.Word.{Word}
use Rattle.bytes_core.specs.declared.word.Word.TheVariants.{Plain}
use Rattle.bytes_core.specs.Value.{address_number}
use Rattle.c_machine.specs.declared.kind.Kind.{Kind}
use Rattle.c_machine.specs.declared.kind.Kind.TheVariants.{Integer, Pointer, Array, Struct, Void}
use Rattle.c_machine.specs.declared.task.Task.TheVariants.{ValueOf, AddressOf, Update}
use Rattle.c_machine.specs.Text.{Assign, Text}
use Rattle.c_machine.specs.Expressions.{value_kind}
use Rattle.c_machine.specs.State.{TaskIn}
use Rattle.c_machine.specs.Words.{scalar_bytes, is_pointer, as_kind, operated, kind_after}
use Rattle.flow.specs.declared.flow_graph.Flow.{Flow}
use Rattle.flow.specs.declared.flow_graph.Standing.{Standing as Stood}
use Rattle.flow.specs.declared.instruction.Instr.{Instr}
use Rattle.flow.specs.declared.instruction.Instr.TheVariants as i
use Rattle.simulation.specs.Edges.{One}
use Rattle.simulation.specs.Running.{Setting, Running}
use Rattle.simulation.specs.Slots.{Slot, InRegister, Suits, is_free}
use Rattle.simulation.specs.Turning.{Turns, Stays, Turned, Calculates, Calculated}
use Rattle.simulation.specs.Lowered.{Stop, Updates, UpdatesKept}
use Rattle.lowering.specs.Kinds.{width, is_void, fits, conversion, Sides, sides, is_plain_operator, made_by}
use Rattle.lowering.specs.declared.conversion.Conversion.{Conversion}
use Rattle.lowering.specs.declared.conversion.Conversion.TheVariants.{Nothing, Resized, Tested, Dropped, Unknown as NoConversion}
use Rattle.lowering.specs.LetGo.{AsValue, AsPlace, left_of}
use Rattle.lowering.specs.Moves.{Move, Emits, Evaluates, Locates, Tells, Fails, resizes, adapts, stands_in, operates, combines}
use Rattle.lowering.specs.Table.{keeps, update_moves, update_line}
use Rattle.lowering.specs.Placing.{Made, Around, with_point, with_registers, stands_at, after, along, along_line, go}
use Rattle.lowering.proofs.KindFacts.{IsAsPlain, Means, conversion_means, fitted, let_go, let_go_made}
use Rattle.lowering.proofs.LeftOf.{own_value, own_place}
use Rattle.lowering.proofs.Modes.{IsAround, Rest, Ready, IsAt}
use Rattle.lowering.proofs.Operating.{turn_of, is_turn, IsCombined, NoneCombined, is_computing, combining}
use Rattle.lowering.proofs.Placings.{IsSpelled, spelled_registers}
use Rattle.lowering.proofs.Ready.{AreBelow, below_more, free_below, free_beside, own_target, part_ready, slot_ready, own_free, mid, head_spelled, tail_spelled, fills, one_at, never}
use Rattle.lowering.proofs.Spelling.{unfolds, made_fits, not_void, lets_go, FormIs, WorkFormIs}
use Rattle.lowering.proofs.SpellingOperators.{AreOwn, in_place, AreNew, resizes_new, Spells, begun, edge_then, fails_then, turns_then, both_turn}
use Rattle.lowering.proofs.Told.{told_turns}

-- what a conversion that may end at a `_Bool` makes of a word
abbrev pub adapt_of : Conversion → ℕ → List Block → Word → Word
adapt_of (Resized bytes signed) size = λ memory word. Plain (converted size signed bytes (address_number memory word))
adapt_of Tested size = λ memory word. Plain (if nat_eq (address_number memory word) 0 then 0 else 1)
adapt_of change size = λ memory word. word

abbrev pub adapt_size : Conversion → ℕ → ℕ
adapt_size (Resized bytes signed) size = bytes
adapt_size Tested size = 1
adapt_size change size = size

abbrev pub adapt_plain : Conversion → Bool → Bool
adapt_plain (Resized bytes signed) plain = true
adapt_plain Tested plain = true
adapt_plain change plain = plain

abbrev pub is_adapt : Conversion → Bool
is_adapt Nothing = true
is_adapt (Resized bytes signed) = true
is_adapt Tested = true
is_adapt change = false

-- which is what the machine makes of it
pub adapted : (from to : Kind) (change : Conversion) → Means from to change → is_adapt change ≡ true → (plain : Bool) → IsAsPlain from plain → (memory : List Block) (word : Word) → Suits (width from) plain word →
    as_kind memory from to word ≡ adapt_of change (width from) memory word
adapted from to Nothing means is plain number memory word suits = means.3 plain number memory word suits.2
adapted from to (Resized bytes signed) means is plain number memory word suits = means.2 memory word
adapted from to Tested means is plain number memory word suits = means.3 plain number memory word suits
adapted from to Dropped means is plain number memory word suits = absurd (false≢true is)
adapted from to NoConversion means is plain number memory word suits = absurd (false≢true is)

pub adapted_size : (from to : Kind) (change : Conversion) → Means from to change → is_adapt change ≡ true → adapt_size change (width from) ≡ width to
adapted_size from to Nothing means is = means.0
adapted_size from to (Resized bytes signed) means is = sym means.0
adapted_size from to Tested means is = sym means.1
adapted_size from to Dropped means is = absurd (false≢true is)
adapted_size from to NoConversion means is = absurd (false≢true is)

pub adapted_plain : (from to : Kind) (change : Conversion) → Means from to change → is_adapt change ≡ true → (plain : Bool) → IsAsPlain from plain → IsAsPlain to (adapt_plain change plain)
adapted_plain from to Nothing means is plain number = λ asked. number (means.1 asked)
adapted_plain from to (Resized bytes signed) means is plain number = λ asked. refl
adapted_plain from to Tested means is plain number = λ asked. refl
adapted_plain from to Dropped means is plain number = absurd (false≢true is)
adapted_plain from to NoConversion means is plain number = absurd (false≢true is)

-- what is stored is a value
pub stored_value : (what : BinaryOp) (kind right : Kind) (bytes : ℕ) → scalar_bytes kind ≡ Some bytes → is_void (kind_after what kind right) ≡ false
stored_value Left (Integer of) right bytes is = refl
stored_value Right (Integer of) right bytes is = refl
stored_value what (Integer of) (Integer of') bytes is = refl
stored_value what (Integer of) right bytes is = refl
stored_value Left (Pointer item) right bytes is = refl
stored_value Right (Pointer item) right bytes is = refl
stored_value what (Pointer item) right bytes is = refl
stored_value what (Array item) right bytes is = absurd (none-some bytes is)
stored_value what (Struct size) right bytes is = absurd (none-some bytes is)
stored_value what Void right bytes is = absurd (none-some bytes is)

pub scalar_value : (kind : Kind) (bytes : ℕ) → scalar_bytes kind ≡ Some bytes → is_void kind ≡ false
scalar_value (Integer of) bytes is = refl
scalar_value (Pointer item) bytes is = refl
scalar_value (Array item) bytes is = absurd (none-some bytes is)
scalar_value (Struct size) bytes is = absurd (none-some bytes is)
scalar_value Void bytes is = absurd (none-some bytes is)

pub scalar_width : (kind : Kind) (bytes : ℕ) → scalar_bytes kind ≡ Some bytes → width kind ≡ bytes
scalar_width (Integer of) bytes is = same_Some of.bytes bytes is
scalar_width (Pointer item) bytes is = same_Some 8 bytes is
scalar_width (Array item) bytes is = absurd (none-some bytes is)
scalar_width (Struct size) bytes is = absurd (none-some bytes is)
scalar_width Void bytes is = absurd (none-some bytes is)

pub loaded_plain : (kind : Kind) (bytes : ℕ) → scalar_bytes kind ≡ Some bytes → IsAsPlain kind (not (is_pointer kind))
loaded_plain (Integer of) bytes is = λ number. refl
loaded_plain (Pointer item) bytes is = λ number. absurd (false≢true (sym number))
loaded_plain (Array item) bytes is = absurd (none-some bytes is)
loaded_plain (Struct size) bytes is = absurd (none-some bytes is)
loaded_plain Void bytes is = absurd (none-some bytes is)

pub map_same : (one other : Word → Word) (found : Option Word) → ((word : Word) → found ≡ Some word → one word ≡ other word) → option_map one found ≡ option_map other found
map_same one other None each = refl
map_same one other (Some word) each = ap Some (each word refl)

plain_computes : (what : BinaryOp) → is_plain_operator what ≡ true → is_computing what ≡ true
plain_computes Equal is = absurd (false≢true is)
plain_computes NotEqual is = absurd (false≢true is)
plain_computes Both is = absurd (false≢true is)
plain_computes Either is = absurd (false≢true is)
plain_computes Comma is = absurd (false≢true is)
plain_computes what is = refl

-- what is calculated and converted is what the machine stores
pub calculated_same : (t : Text) (what : BinaryOp) (kind right : Kind) (bytes : ℕ) (change : Conversion) (c : IsCombined t what kind right (sides what kind right)) (plain plain' : Bool) → scalar_bytes kind ≡ Some bytes →
    fits (made_by what kind right) (kind_after what kind right) ≡ true → Means (kind_after what kind right) kind change → is_adapt change ≡ true → IsAsPlain kind plain → IsAsPlain right plain' →
    is_turn (sides what kind right).left ≡ true → is_turn (sides what kind right).right ≡ true → (memory : List Block) (word word' : Word) → Suits bytes plain word → Suits (width right) plain' word' →
    option_map (as_kind memory (kind_after what kind right) kind) (operated memory what kind right word word')
    ≡ option_map (adapt_of change c.size memory) (c.combined memory (turn_of (sides what kind right).left bytes memory word) (turn_of (sides what kind right).right (width right) memory word'))
calculated_same t what kind right bytes change c plain plain' is fit means adapts' is_plain is_plain' turns turns' memory word word' suits suits' =
    let from : Kind = kind_after what kind right in
    let gives = fitted (made_by what kind right) from fit (stored_value what kind right bytes is) in
    let wide : width kind ≡ bytes = scalar_width kind bytes is in
    let sized : c.size ≡ width from = c.wide ∙ gives.0 in
    let found : Option Word = c.combined memory (turn_of (sides what kind right).left bytes memory word) (turn_of (sides what kind right).right (width right) memory word') in
    ap (option_map (as_kind memory from kind))
    (subst (λ (n : ℕ). operated memory what kind right word word' ≡ c.combined memory (turn_of (sides what kind right).left n memory word) (turn_of (sides what kind right).right (width right) memory word')) wide
    (c.same plain plain' is_plain is_plain' turns turns' memory word word' (subst (λ (n : ℕ). Suits n plain word) (sym wide) suits) suits'))
    ∙ map_same (as_kind memory from kind) (adapt_of change c.size memory) found
    (λ result here. adapted from kind change means adapts' c.plain (λ asked. c.plainly (gives.1 asked)) memory result
    (subst (λ (n : ℕ). Suits n c.plain result) sized (c.gives memory (turn_of (sides what kind right).left bytes memory word) (turn_of (sides what kind right).right (width right) memory word') result here))
    ∙ ap (λ (n : ℕ). adapt_of change n memory result) (sym sized))

module _ (t : Text) (flow : Flow) (setting : Setting) (running : Running) where
  abbrev Goes_on : Around → List (Stop t) → List (Stop t) → List (TaskIn t) → List Slot → ℕ → Type 0
  Goes_on around now later tasks slots point = Rest t flow setting running around now later tasks slots point

  -- a conversion that may end at a `_Bool`, and what stands behind it
  pub adapts_then : {A : Type 0} (levels : ℕ) (around : Around) (made : Made) (from : ℕ) (standing : Stood) (change : Conversion) (register size size' into : ℕ) (plain : Bool) (place : Place) (others : List Slot)
      (moves : List (Move t)) (to : ℕ) → AreNew t flow setting running around moves to → AreBelow made.registers others → register < made.registers → is_free into others ≡ true → is_free register others ≡ true → size ≡ size' →
      Spells t flow setting running levels around made from standing (adapts change register size' into place ++ moves) to →
      ((made' : Made) (point : ℕ) (standing' : Stood) → is_adapt change ≡ true →
      Turns flow others from register size plain (adapt_of change size) point (stands_in change register into) (adapt_size change size) (adapt_plain change plain) → Spells t flow setting running levels around made' point standing' moves to → A) → A
  adapts_then levels around made from standing Nothing register size size' into plain place others moves to new below less free free' same spelled cont = cont made from standing refl Stays spelled
  adapts_then levels around made from standing (Resized bytes signed) register size size' into plain place others moves to new below less free free' same spelled cont =
      edge_then t flow setting running levels around made from standing (i.Convert into register bytes signed) place moves to new spelled
      (λ made' point standing' more one spelled'. cont made' point standing' refl (Turned point into bytes signed place one free free') spelled')
  adapts_then levels around made from standing Tested register size size' into plain place others moves to new below less free free' same spelled cont =
      let move : Move t = Tells register size' into place in
      let behind : Stood = after t move standing in
      let spelled' = begun t flow setting running levels around made from move behind moves to new spelled in
      cont (mid t flow setting running levels around made from behind move) made.points behind refl
      (subst (λ (n : ℕ). Turns flow others from register n plain (λ (memory : List Block) (word : Word). Plain (if nat_eq (address_number memory word) 0 then 0 else 1)) made.points into 1 true) (sym same)
      (told_turns levels t flow around (with_point behind made) from register size' into place made.points plain others (head_spelled t flow setting running levels around made from behind move moves to spelled') below less free' free))
      (tail_spelled t flow setting running levels around made from behind move moves to spelled')
  adapts_then levels around made from standing Dropped register size size' into plain place others moves to new below less free free' same spelled cont =
      turns_then t flow setting running levels around made from standing Dropped register size into plain place others moves to new free free' spelled (λ made' point standing' more turns turned spelled'. absurd (false≢true turns))
  adapts_then levels around made from standing NoConversion register size size' into plain place others moves to new below less free free' same spelled cont =
      turns_then t flow setting running levels around made from standing NoConversion register size into plain place others moves to new free free' spelled (λ made' point standing' more turns turned spelled'. absurd (false≢true turns))

  pub adapts_new : (around : Around) (change : Conversion) (register size into : ℕ) (place : Place) (moves : List (Move t)) (to : ℕ) → AreNew t flow setting running around moves to →
      AreNew t flow setting running around (adapts change register size into place ++ moves) to
  adapts_new around Nothing register size into place moves to new = new
  adapts_new around (Resized bytes signed) register size into place moves to new = λ standing. refl
  adapts_new around Tested register size into place moves to new = λ standing. refl
  adapts_new around Dropped register size into place moves to new = λ standing. refl
  adapts_new around NoConversion register size into place moves to new = λ standing. refl

  -- the address of the left side and the value of the right one
  both_sides : (levels : ℕ) → IsAt t flow setting running levels → (around : Around) → IsAround setting around → (made : Made) (from : ℕ) (one other : t.Expr) (moves : List (Move t)) (spare to total : ℕ) →
      AreNew t flow setting running around moves to → left_of t (AsPlace false) one ≤ total → left_of t (AsValue false) other ≤ total →
      IsSpelled flow made from (along t around (go levels t around) (with_registers 8 made) from (Locates one spare made.registers ∷ Evaluates other spare (made.registers + 1) ∷ moves) to) →
      (now later : List (Stop t)) (tasks : List (TaskIn t)) (slots : List Slot) (base : ℕ) → Ready t flow setting running around now later tasks base made.registers slots spare total →
      ((made' : Made) (point : ℕ) (standing : Stood) (plain plain' : Bool) → made.registers + 8 ≤ made'.registers → IsAsPlain (value_kind t other) plain' → Spells t flow setting running levels around made' point standing moves to →
      Goes_on around (later ++ now) [] tasks (InRegister (made.registers + 1) (width (value_kind t other)) plain' ∷ InRegister made.registers 8 plain ∷ slots) point) →
      Goes_on around now later (AddressOf one ∷ ValueOf other ∷ tasks) slots from
  both_sides levels at around good made from one other moves spare to total new within within' spelled now later tasks slots base ready cont =
      let r : ℕ = made.registers in
      let made1 : Made = with_registers 8 made in
      let first_move : Move t = Locates one spare r in
      let standing : Stood = after t first_move (stands_at made1 from) in
      let second_move : Move t = Evaluates other spare (r + 1) in
      let standing' : Stood = after t second_move standing in
      let spelled1 = spelled_registers 8 spelled in
      let first = head_spelled t flow setting running levels around made1 from standing first_move (second_move ∷ moves) to spelled1 in
      let rest = tail_spelled t flow setting running levels around made1 from standing first_move (second_move ∷ moves) to spelled1 in
      let h = fills t flow setting running levels around made1 from standing first_move spelled1.inside spelled1.sound in
      let made2 : Made = mid t flow setting running levels around made1 from standing first_move in
      let rest' = begun t flow setting running levels around made2 made.points second_move standing' moves to new rest in
      let second = head_spelled t flow setting running levels around made2 made.points standing' second_move moves to rest' in
      let end = tail_spelled t flow setting running levels around made2 made.points standing' second_move moves to rest' in
      let h' = fills t flow setting running levels around made2 made.points standing' second_move rest'.inside rest'.sound in
      let free_r = own_free r ready (omega arith) in
      let free_s = own_free (r + 1) ready (omega arith) in
      let room = ready.room in
      let less = own_place t one spare total r room within in
      let less' = own_value t other spare total (r + 1) (omega arith) within' in
      at.place around good (with_point standing made1) from one spare r made.points first now later (ValueOf other ∷ tasks) slots base
      (part_ready (r + 8) (left_of t (AsPlace (nat_eq r spare)) one) ready (omega arith) less) (own_target (r + 8) r ready.own (omega arith) (omega arith) free_r)
      (λ plain. at.value around good (with_point standing' made2) made.points other spare (r + 1) made2.points second (later ++ now) [] tasks (InRegister r 8 plain ∷ slots) base
      (slot_ready made2.registers (left_of t (AsValue (nat_eq (r + 1) spare)) other) r 8 plain ready (omega arith) less' (omega arith) (omega arith))
      (own_target made2.registers (r + 1) ready.own (omega arith) (omega arith) (free_beside (r + 1) r 8 plain slots (λ same. absurd (omega arith)) free_s))
      (λ plain' number. cont (mid t flow setting running levels around made2 made.points standing' second_move) made2.points standing' plain plain' (omega arith) number end))

  -- what is done up to the store
  record IsUpdate (slots : List Slot) (r : ℕ) (what : BinaryOp) (place : Place) (kind right : Kind) (bytes : ℕ) (plain plain' : Bool) (point to new : ℕ) : Type 0 where
    read : ℕ
    behind : ℕ
    moved : One flow point (i.Move (r + 2) r) read place
    loaded : One flow read (i.Read (r + 3) (r + 2) bytes (is_pointer kind)) behind place
    size : ℕ
    plain'' : Bool
    calculated : List Block → Word → Word → Option Word
    calculates : Calculates flow (InRegister r 8 plain ∷ slots) behind (r + 3) bytes (not (is_pointer kind)) (r + 1) (width right) plain' calculated to new size plain''
    same : (memory : List Block) (word word' : Word) → Suits bytes (not (is_pointer kind)) word → Suits (width right) plain' word' →
        option_map (as_kind memory (kind_after what kind right) kind) (operated memory what kind right word word') ≡ calculated memory word word'
    wide : size ≡ bytes
    plainly : IsAsPlain kind plain''
    free : is_free new slots ≡ true
    above : r < new

  operates_behind : (what : BinaryOp) (kind kind' : Kind) (one other one' other' into : ℕ) (place : Place) (moves : List (Move t)) → operates what kind kind' one other one' other' into place ++ moves
      ≡ resizes (sides what kind kind').left one one' place ++ (resizes (sides what kind kind').right other other' place
      ++ (combines what kind kind' (stands_in (sides what kind kind').left one one') (stands_in (sides what kind kind').right other other') into place ++ moves))
  operates_behind what kind kind' one other one' other' into place moves =
      let between : Sides = sides what kind kind' in
      let last : List (Move t) = combines what kind kind' (stands_in between.left one one') (stands_in between.right other other') into place in
      append_assoc (resizes between.left one one' place) (resizes between.right other other' place ++ last) moves
      ∙ ap (λ (list : List (Move t)). resizes between.left one one' place ++ list) (append_assoc (resizes between.right other other' place) last moves)

  updated_by : {A : Type 0} (levels : ℕ) (around : Around) (made : Made) (point : ℕ) (standing : Stood) (what : BinaryOp) (kind right : Kind) (bytes r to : ℕ) (place place' : Place) (plain plain' : Bool) (slots : List Slot)
      (change : Conversion) (last : List (Move t)) → (IsCombined t what kind right (sides what kind right) ⊎ NoneCombined t what kind right) → Means (kind_after what kind right) kind change →
      AreNew t flow setting running around last to → scalar_bytes kind ≡ Some bytes → fits (made_by what kind right) (kind_after what kind right) ≡ true → IsAsPlain right plain' → AreBelow r slots → r + 8 ≤ made.registers →
      Spells t flow setting running levels around made point standing (Emits (i.Move (r + 2) r) place ∷ Emits (i.Read (r + 3) (r + 2) bytes (is_pointer kind)) place
      ∷ (operates what kind right (r + 3) (r + 1) (r + 4) (r + 5) (r + 6) place' ++ (adapts change (r + 6) (width (kind_after what kind right)) (r + 7) place' ++ last))) to →
      ((made' : Made) (to' : ℕ) (standing' : Stood) → IsUpdate slots r what place kind right bytes plain plain' point to' (stands_in change (r + 6) (r + 7)) → Spells t flow setting running levels around made' to' standing' last to → A) → A
  updated_by levels around made point standing what kind right bytes r to place place' plain plain' slots change last (inl c) means new is fit is_plain below room spelled cont =
      let between : Sides = sides what kind right in
      let from : Kind = kind_after what kind right in
      let after_it : List (Move t) = adapts change (r + 6) (width from) (r + 7) place' ++ last in
      let after_new = adapts_new around change (r + 6) (width from) (r + 7) place' last to new in
      let instr : Instr = c.instr (stands_in between.left (r + 3) (r + 4)) (stands_in between.right (r + 1) (r + 5)) (r + 6) in
      let computing : List (Move t) = Emits instr place' ∷ after_it in
      let both : List (Move t) = resizes between.left (r + 3) (r + 4) place' ++ (resizes between.right (r + 1) (r + 5) place' ++ computing) in
      let both_new = resizes_new t flow setting running around between.left (r + 3) (r + 4) place' (resizes between.right (r + 1) (r + 5) place' ++ computing) to
      (resizes_new t flow setting running around between.right (r + 1) (r + 5) place' computing to (λ standing'. refl)) in
      let same : operates what kind right (r + 3) (r + 1) (r + 4) (r + 5) (r + 6) place' ++ after_it ≡ both =
      operates_behind what kind right (r + 3) (r + 1) (r + 4) (r + 5) (r + 6) place' after_it
      ∙ ap (λ (list : List (Move t)). resizes between.left (r + 3) (r + 4) place' ++ (resizes between.right (r + 1) (r + 5) place' ++ (list ++ after_it)))
      (c.moves (stands_in between.left (r + 3) (r + 4)) (stands_in between.right (r + 1) (r + 5)) (r + 6) place') in
      let move : Move t = Emits (i.Move (r + 2) r) place in
      let read : Move t = Emits (i.Read (r + 3) (r + 2) bytes (is_pointer kind)) place in
      let spelled1 = subst (λ (list : List (Move t)). Spells t flow setting running levels around made point standing (move ∷ read ∷ list) to) same spelled in
      let own : (register : ℕ) → r ≤ register → is_free register slots ≡ true = λ register least. free_below r register slots least below in
      let at : Slot = InRegister r 8 plain in
      let beside : (register : ℕ) → r < register → is_free register (at ∷ slots) ≡ true = λ register least. free_beside register r 8 plain slots (λ same. absurd (omega arith)) (own register (omega arith)) in
      let apart : AreOwn (at ∷ slots) (r + 3) (r + 1) (r + 4) (r + 5) = record {
        one_free = beside (r + 3) (omega arith);
        other_free = beside (r + 1) (omega arith);
        one_free' = beside (r + 4) (omega arith);
        other_free' = beside (r + 5) (omega arith);
        sides = λ same. absurd (omega arith);
        left = λ same. absurd (omega arith);
        right = λ same. absurd (omega arith);
        both = λ same. absurd (omega arith);
      } in
      let gives = fitted (made_by what kind right) from fit (stored_value what kind right bytes is) in
      let sized : c.size ≡ width from = c.wide ∙ gives.0 in
      edge_then t flow setting running levels around made point standing (i.Move (r + 2) r) place (read ∷ both) to (λ standing'. refl) spelled1
      (λ made1 point1 standing1 more1 moved spelled2.
      edge_then t flow setting running levels around made1 point1 standing1 (i.Read (r + 3) (r + 2) bytes (is_pointer kind)) place both to both_new spelled2
      (λ made2 point2 standing2 more2 loaded spelled3.
      both_turn t flow setting running levels around made2 point2 standing2 between (r + 3) (r + 1) (r + 4) (r + 5) bytes (width right) (not (is_pointer kind)) plain' place' (at ∷ slots) computing to apart (λ standing'. refl) spelled3
      (λ made3 middle point3 standing3 more3 turns turns' left turned spelled4.
      edge_then t flow setting running levels around made3 point3 standing3 instr place' after_it to after_new spelled4
      (λ made4 point4 standing4 more4 one spelled5.
      adapts_then levels around made4 point4 standing4 change (r + 6) c.size (width from) (r + 7) c.plain place' (at ∷ slots) last to new
      (omega arith, below_more r made4.registers slots (omega arith) below) (omega arith) (beside (r + 7) (omega arith)) (beside (r + 6) (omega arith)) sized spelled5
      (λ made5 point5 standing5 adapts' behind spelled6.
      cont made5 point5 standing5 (record {
        read = point1;
        behind = point2;
        moved = moved;
        loaded = loaded;
        size = adapt_size change c.size;
        plain'' = adapt_plain change c.plain;
        calculated = λ memory first second. option_map (adapt_of change c.size memory) (c.combined memory (turn_of between.left bytes memory first) (turn_of between.right (width right) memory second));
        calculates = Calculated (free_beside (r + 3) (r + 1) (width right) plain' (at ∷ slots) (λ same. absurd (omega arith)) (beside (r + 3) (omega arith))) (beside (r + 1) (omega arith)) left turned
            (c.does flow point3 (stands_in between.left (r + 3) (r + 4)) (stands_in between.right (r + 1) (r + 5)) (r + 6) point4 place' one) (beside (r + 6) (omega arith)) behind;
        same = λ memory word word' suits suits'. calculated_same t what kind right bytes change c (not (is_pointer kind)) plain' is fit means adapts' (loaded_plain kind bytes is) is_plain turns turns' memory word word' suits suits';
        wide = ap (adapt_size change) sized ∙ (adapted_size from kind change means adapts' ∙ scalar_width kind bytes is);
        plainly = adapted_plain from kind change means adapts' c.plain (λ asked. c.plainly (gives.1 asked));
        free = in_place (λ (n : ℕ). is_free n slots ≡ true) change (r + 6) (r + 7) (own (r + 6) (omega arith)) (own (r + 7) (omega arith));
        above = in_place (λ (n : ℕ). r < n) change (r + 6) (r + 7) (omega arith) (omega arith);
      }) spelled6)))))
  updated_by levels around made point standing what kind right bytes r to place place' plain plain' slots change last (inr none) means new is fit is_plain below room spelled cont =
      let between : Sides = sides what kind right in
      let from : Kind = kind_after what kind right in
      let after_it : List (Move t) = adapts change (r + 6) (width from) (r + 7) place' ++ last in
      let after_new = adapts_new around change (r + 6) (width from) (r + 7) place' last to new in
      let failing : List (Move t) = Fails ∷ after_it in
      let both : List (Move t) = resizes between.left (r + 3) (r + 4) place' ++ (resizes between.right (r + 1) (r + 5) place' ++ failing) in
      let both_new = resizes_new t flow setting running around between.left (r + 3) (r + 4) place' (resizes between.right (r + 1) (r + 5) place' ++ failing) to
      (resizes_new t flow setting running around between.right (r + 1) (r + 5) place' failing to (λ standing'. refl)) in
      let same : operates what kind right (r + 3) (r + 1) (r + 4) (r + 5) (r + 6) place' ++ after_it ≡ both =
      operates_behind what kind right (r + 3) (r + 1) (r + 4) (r + 5) (r + 6) place' after_it
      ∙ ap (λ (list : List (Move t)). resizes between.left (r + 3) (r + 4) place' ++ (resizes between.right (r + 1) (r + 5) place' ++ (list ++ after_it)))
      (none (stands_in between.left (r + 3) (r + 4)) (stands_in between.right (r + 1) (r + 5)) (r + 6) place') in
      let move : Move t = Emits (i.Move (r + 2) r) place in
      let read : Move t = Emits (i.Read (r + 3) (r + 2) bytes (is_pointer kind)) place in
      let spelled1 = subst (λ (list : List (Move t)). Spells t flow setting running levels around made point standing (move ∷ read ∷ list) to) same spelled in
      let own : (register : ℕ) → r ≤ register → is_free register slots ≡ true = λ register least. free_below r register slots least below in
      let apart : AreOwn slots (r + 3) (r + 1) (r + 4) (r + 5) = record {
        one_free = own (r + 3) (omega arith);
        other_free = own (r + 1) (omega arith);
        one_free' = own (r + 4) (omega arith);
        other_free' = own (r + 5) (omega arith);
        sides = λ same. absurd (omega arith);
        left = λ same. absurd (omega arith);
        right = λ same. absurd (omega arith);
        both = λ same. absurd (omega arith);
      } in
      edge_then t flow setting running levels around made point standing (i.Move (r + 2) r) place (read ∷ both) to (λ standing'. refl) spelled1
      (λ made1 point1 standing1 more1 moved spelled2.
      edge_then t flow setting running levels around made1 point1 standing1 (i.Read (r + 3) (r + 2) bytes (is_pointer kind)) place both to both_new spelled2
      (λ made2 point2 standing2 more2 loaded spelled3.
      both_turn t flow setting running levels around made2 point2 standing2 between (r + 3) (r + 1) (r + 4) (r + 5) bytes (width right) (not (is_pointer kind)) plain' place' slots failing to apart (λ standing'. refl) spelled3
      (λ made3 middle point3 standing3 more3 turns turns' left turned spelled4. fails_then t flow setting running levels around made3 point3 standing3 after_it to after_new spelled4)))

  -- the store, and the value that is kept
  keeps_new : (around : Around) (kept : Option ℕ) (register at bytes : ℕ) (place place' : Place) (to : ℕ) → AreNew t flow setting running around (keeps kept register place ++ Emits (i.Write at register bytes) place' ∷ []) to
  keeps_new around None register at bytes place place' to = λ standing. refl
  keeps_new around (Some into) register at bytes place place' to = λ standing. refl

  update_parts : (levels : ℕ) → IsAt t flow setting running levels → (around : Around) → IsAround setting around → (made : Made) (from : ℕ) (expr one other : t.Expr) (what : BinaryOp) (kept : Option ℕ) (kind : Kind) (bytes spare to : ℕ) →
      (is : Bool) → (is_plain_operator what && fits (made_by what kind (value_kind t other)) (kind_after what kind (value_kind t other))) ≡ is → scalar_bytes kind ≡ Some bytes →
      IsSpelled flow made from (along_line t around (go levels t around) made from (if is
      then (record { registers = 8; moves = update_moves t what expr one other spare kept made.registers kind bytes (conversion (kind_after what kind (value_kind t other)) kind) })
      else (record { registers = 0; moves = Fails ∷ [] })) to) →
      (now later : List (Stop t)) (tasks : List (TaskIn t)) (slots : List Slot) (base : ℕ) →
      Ready t flow setting running around now later tasks base made.registers slots spare (max (left_of t (AsPlace false) one) (left_of t (AsValue false) other)) →
      ((made' : Made) (point to' new : ℕ) (standing : Stood) (plain plain' : Bool) → IsUpdate slots made.registers what (t.place one) kind (value_kind t other) bytes plain plain' point to' new →
      Spells t flow setting running levels around made' to' standing (keeps kept new (t.place expr) ++ Emits (i.Write made.registers new bytes) (t.place one) ∷ []) to →
      Goes_on around (later ++ now) [] (Update what (t.place one) kind (value_kind t other) ∷ tasks) (InRegister (made.registers + 1) (width (value_kind t other)) plain' ∷ InRegister made.registers 8 plain ∷ slots) point) →
      Goes_on around now later (AddressOf one ∷ ValueOf other ∷ Update what (t.place one) kind (value_kind t other) ∷ tasks) slots from
  update_parts levels at around good made from expr one other what kept kind bytes spare to false holds is spelled now later tasks slots base ready cont =
      never t flow setting running levels around (with_registers 0 made) from to (spelled_registers 0 spelled)
  update_parts levels at around good made from expr one other what kept kind bytes spare to true holds is spelled now later tasks slots base ready cont =
      let r : ℕ = made.registers in
      let right : Kind = value_kind t other in
      let change : Conversion = conversion (kind_after what kind right) kind in
      let both = and_parts (is_plain_operator what) (fits (made_by what kind right) (kind_after what kind right)) holds in
      let new : ℕ = stands_in change (r + 6) (r + 7) in
      let last : List (Move t) = keeps kept new (t.place expr) ++ Emits (i.Write r new bytes) (t.place one) ∷ [] in
      let move : Move t = Emits (i.Move (r + 2) r) (t.place one) in
      let read : Move t = Emits (i.Read (r + 3) (r + 2) bytes (is_pointer kind)) (t.place one) in
      both_sides levels at around good made from one other
      (move ∷ read ∷ (operates what kind right (r + 3) (r + 1) (r + 4) (r + 5) (r + 6) (t.place expr) ++ (adapts change (r + 6) (width (kind_after what kind right)) (r + 7) (t.place expr) ++ last)))
      spare to (max (left_of t (AsPlace false) one) (left_of t (AsValue false) other)) (λ standing. refl) (omega arith) (omega arith) spelled now later (Update what (t.place one) kind right ∷ tasks) slots base ready
      (λ made' point standing plain plain' more number end.
      updated_by levels around made' point standing what kind right bytes r to (t.place one) (t.place expr) plain plain' slots change last (combining t what kind right (plain_computes what both.0))
      (conversion_means (kind_after what kind right) kind) (keeps_new around kept new r bytes (t.place expr) (t.place one) to) is both.1 number ready.below more end
      (λ made'' to' standing' update end'. cont made'' point to' new standing' plain plain' update end'))

  -- an update whose value is not used, and one whose value is kept
  update_work_by : (levels : ℕ) → IsAt t flow setting running levels → (around : Around) → IsAround setting around → (made : Made) (from : ℕ) (expr one other : t.Expr) (what : BinaryOp) (kind : Kind) (size : Option ℕ) (spare to : ℕ) → scalar_bytes kind ≡ size →
      IsSpelled flow made from (along_line t around (go levels t around) made from (update_line t what expr one other spare None made.registers kind size) to) →
      (now later : List (Stop t)) (tasks : List (TaskIn t)) (slots : List Slot) (base : ℕ) →
      Ready t flow setting running around now later tasks base made.registers slots spare (max (left_of t (AsPlace false) one) (left_of t (AsValue false) other)) →
      Goes_on around (later ++ now) [] tasks (let_go kind ∷ slots) to → Goes_on around now later (AddressOf one ∷ ValueOf other ∷ Update what (t.place one) kind (value_kind t other) ∷ tasks) slots from
  update_work_by levels at around good made from expr one other what kind None spare to is spelled now later tasks slots base ready cont =
      never t flow setting running levels around (with_registers 0 made) from to (spelled_registers 0 spelled)
  update_work_by levels at around good made from expr one other what kind (Some bytes) spare to is spelled now later tasks slots base ready cont =
      let r : ℕ = made.registers in
      let right : Kind = value_kind t other in
      let free_r = own_free r ready (omega arith) in
      update_parts levels at around good made from expr one other what None kind bytes spare to (is_plain_operator what && fits (made_by what kind right) (kind_after what kind right)) refl is spelled now later tasks slots base ready
      (λ made' point to' new standing plain plain' update end.
      let above = update.above in
      Updates what (t.place one) (t.place one) kind right bytes r (r + 1) (width right) 8 (r + 2) (r + 3) update.read update.behind to' new update.size to plain plain' update.plain'' update.calculated is ready.whole free_r
      (free_beside (r + 1) r 8 plain slots (λ same. absurd (omega arith)) (own_free (r + 1) ready (omega arith)))
      (free_beside (r + 2) (r + 1) (width right) plain' (InRegister r 8 plain ∷ slots) (λ same. absurd (omega arith)) (free_beside (r + 2) r 8 plain slots (λ same. absurd (omega arith)) (own_free (r + 2) ready (omega arith))))
      update.moved
      (free_beside (r + 3) (r + 1) (width right) plain' (InRegister r 8 plain ∷ slots) (λ same. absurd (omega arith)) (free_beside (r + 3) r 8 plain slots (λ same. absurd (omega arith)) (own_free (r + 3) ready (omega arith))))
      update.loaded update.calculates update.same (free_beside new r 8 plain slots (λ same. absurd (omega arith)) update.free)
      (one_at t flow setting running levels around made' to' to (i.Write r new bytes) (t.place one) end)
      (subst (λ (slot : Slot). Goes_on around (later ++ now) [] tasks (slot ∷ slots) to) (let_go_made kind (scalar_value kind bytes is)) cont))

  update_kept_by : (levels : ℕ) → IsAt t flow setting running levels → (around : Around) → IsAround setting around → (made : Made) (from : ℕ) (expr one other : t.Expr) (what : BinaryOp) (kind : Kind) (size : Option ℕ) (spare into to : ℕ) → scalar_bytes kind ≡ size →
      IsSpelled flow made from (along_line t around (go levels t around) made from (update_line t what expr one other spare (Some into) made.registers kind size) to) →
      (now later : List (Stop t)) (tasks : List (TaskIn t)) (slots : List Slot) (base : ℕ) →
      Ready t flow setting running around now later tasks base made.registers slots spare (max (left_of t (AsPlace false) one) (left_of t (AsValue false) other)) → into < made.registers → is_free into slots ≡ true →
      ((plain : Bool) → IsAsPlain kind plain → Goes_on around (later ++ now) [] tasks (InRegister into (width kind) plain ∷ slots) to) →
      Goes_on around now later (AddressOf one ∷ ValueOf other ∷ Update what (t.place one) kind (value_kind t other) ∷ tasks) slots from
  update_kept_by levels at around good made from expr one other what kind None spare into to is spelled now later tasks slots base ready within free cont =
      never t flow setting running levels around (with_registers 0 made) from to (spelled_registers 0 spelled)
  update_kept_by levels at around good made from expr one other what kind (Some bytes) spare into to is spelled now later tasks slots base ready within free cont =
      let r : ℕ = made.registers in
      let right : Kind = value_kind t other in
      let free_r = own_free r ready (omega arith) in
      update_parts levels at around good made from expr one other what (Some into) kind bytes spare to (is_plain_operator what && fits (made_by what kind right) (kind_after what kind right)) refl is spelled now later tasks slots base ready
      (λ made' point to' new standing plain plain' update end.
      let above = update.above in
      edge_then t flow setting running levels around made' to' standing (i.Move into new) (t.place expr) (Emits (i.Write r new bytes) (t.place one) ∷ []) to (λ standing'. refl) end
      (λ made'' written standing' more keeps' end'.
      UpdatesKept what (t.place one) (t.place one) (t.place expr) kind right bytes r (r + 1) (width right) 8 (r + 2) (r + 3) update.read update.behind to' new update.size into written to plain plain' update.plain'' update.calculated is ready.whole free_r
      (free_beside (r + 1) r 8 plain slots (λ same. absurd (omega arith)) (own_free (r + 1) ready (omega arith)))
      (free_beside (r + 2) (r + 1) (width right) plain' (InRegister r 8 plain ∷ slots) (λ same. absurd (omega arith)) (free_beside (r + 2) r 8 plain slots (λ same. absurd (omega arith)) (own_free (r + 2) ready (omega arith))))
      update.moved
      (free_beside (r + 3) (r + 1) (width right) plain' (InRegister r 8 plain ∷ slots) (λ same. absurd (omega arith)) (free_beside (r + 3) r 8 plain slots (λ same. absurd (omega arith)) (own_free (r + 3) ready (omega arith))))
      update.loaded update.calculates update.same (free_beside new r 8 plain slots (λ same. absurd (omega arith)) update.free)
      (free_beside into new update.size update.plain'' (InRegister r 8 plain ∷ slots) (λ same. absurd (omega arith)) (free_beside into r 8 plain slots (λ same. absurd (omega arith)) free))
      keeps' (one_at t flow setting running levels around made'' written to (i.Write r new bytes) (t.place one) end')
      (subst (λ (n : ℕ). Goes_on around (later ++ now) [] tasks (InRegister into n update.plain'' ∷ slots) to) (scalar_width kind bytes is ∙ sym update.wide) (cont update.plain'' update.plainly))))

  pub update_work : (levels : ℕ) → IsAt t flow setting running levels → (what : BinaryOp) (one other : t.Expr) → WorkFormIs t flow setting running levels (Assign (Some what) one other)
  update_work levels at what one other around good made from expr spare to is void spelled now later tasks slots base ready cont =
      unfolds t flow setting running around now later tasks slots from expr (Assign (Some what) one other) is
      (update_work_by levels at around good made from expr one other what (t.kind one) (scalar_bytes (t.kind one)) spare to refl spelled now later tasks slots base ready
      (lets_go t flow setting running around (later ++ now) [] tasks slots to (value_kind t expr) (t.kind one) void cont))

  pub update_form : (levels : ℕ) → IsAt t flow setting running levels → (what : BinaryOp) (one other : t.Expr) → FormIs t flow setting running levels (Assign (Some what) one other)
  update_form levels at what one other around good made from expr spare into to is shown spelled now later tasks slots base ready target cont =
      let gives = fitted (t.kind one) (value_kind t expr) (made_fits t flow setting running expr (Assign (Some what) one other) shown) (not_void t flow setting running expr (Assign (Some what) one other) shown) in
      unfolds t flow setting running around now later tasks slots from expr (Assign (Some what) one other) is
      (update_kept_by levels at around good made from expr one other what (t.kind one) (scalar_bytes (t.kind one)) spare into to refl spelled now later tasks slots base ready target.within target.free
      (λ plain number. subst (λ (n : ℕ). Goes_on around (later ++ now) [] tasks (InRegister into n plain ∷ slots) to) (sym gives.0) (cont plain (λ asked. number (gives.1 asked)))))
