-- What is placed for `++` and `--` is what the rest of a run wants: a 1 is added or taken away, and the new value or the old one is kept where it is used.
use Rattle.std.proofs.Common.{◌≡◌, ◌≢◌, ◌<◌, ◌≤◌, ◌⊎◌, ℕ, zero, suc, ◌+◌, ◌^◌, List, [], ◌∷◌, ◌++◌, Bool, true, false, not, ◌&&◌, nat_eq, refl, sym, ap, ◌∙◌, inl, inr, arith, Option, None, Some, option_map, subst, if◌then◌else◌}
use Rattle.std.specs.Prelude.{nat_lt}
use Rattle.std.proofs.Common.{ltb-false}
use Rattle.std.proofs.Math.Nat.{mod-eq_of_lt}
use Rattle.std.proofs.lemmas.Bool.{false≢true, eq-eqb}
use Rattle.std.proofs.lemmas.Option.{none-some}
use Rattle.cbase.specs.declared.place.Place.{Place}
use Rattle.typing.specs.declared.ctypes.kind.IntegerType.{IntegerType}
use Rattle.typing.specs.ctypes.Integers.{int, integer, promoted, common}
use Rattle.bytes_core.specs.declared.block.Block.{Block}
use Rattle.bytes_core.specs.declared.word.Word.{Word}
use Rattle.bytes_core.specs.declared.word.Word.TheVariants.{Plain}
use Rattle.c_machine.specs.declared.kind.Kind.{Kind}
use Rattle.c_machine.specs.declared.kind.Kind.TheVariants.{Integer, Pointer, Array, Struct, Void}
use Rattle.c_machine.specs.declared.task.Task.TheVariants.{AddressOf, CountBy}
use Rattle.c_machine.specs.Step.{counting}
use Rattle.c_machine.specs.Text.{Count, Text}
use Rattle.c_machine.specs.Expressions.{value_kind}
use Rattle.c_machine.specs.State.{TaskIn}
use Rattle.c_machine.specs.Words.{scalar_bytes, is_pointer, as_kind, operated, kind_after, is_same}
use Rattle.flow.specs.declared.flow_graph.Flow.{Flow}
use Rattle.flow.specs.declared.flow_graph.Standing.{Standing as Stood}
use Rattle.flow.specs.declared.instruction.Instr.{Instr}
use Rattle.flow.specs.declared.instruction.Instr.TheVariants as i
use Rattle.simulation.specs.Edges.{One}
use Rattle.simulation.specs.Running.{Setting, Running}
use Rattle.simulation.specs.Slots.{Slot, InRegister, Suits, is_free}
use Rattle.simulation.specs.Turning.{CalculatesWith, CalculatedWith}
use Rattle.simulation.specs.Lowered.{Stop, Counts, CountsNew, CountsOld}
use Rattle.lowering.specs.Kinds.{width, fits, conversion, as_operand, Sides, sides, tested, made_by}
use Rattle.lowering.specs.declared.conversion.Conversion.{Conversion}
use Rattle.lowering.specs.declared.conversion.Conversion.TheVariants.{Nothing, Resized, Unknown as NoConversion}
use Rattle.lowering.specs.LetGo.{AsPlace, left_of}
use Rattle.lowering.specs.Moves.{Move, Emits, Locates, Fails, resizes, adapts, stands_in, combines}
use Rattle.lowering.specs.Table.{keeps, one_bytes, one_change, count_line}
use Rattle.lowering.specs.Placing.{Made, Around, with_point, with_registers, stands_at, after, along, along_line, go}
use Rattle.lowering.proofs.ComputedFits.{power_some}
use Rattle.lowering.proofs.KindFacts.{IsAsPlain, Means, conversion_means, fitted, let_go, let_go_made}
use Rattle.lowering.proofs.LeftOf.{own_place}
use Rattle.lowering.proofs.Modes.{IsAround, Rest, Ready, IsAt}
use Rattle.lowering.proofs.Operating.{turn_of, size_by, plain_by, is_turn, operand_whole, IsCombined, NoneCombined, is_computing, combining}
use Rattle.lowering.proofs.Placings.{IsSpelled, spelled_registers}
use Rattle.lowering.proofs.Ready.{AreBelow, below_more, free_beside, own_target, part_ready, own_free, mid, head_spelled, tail_spelled, fills, one_at, never}
use Rattle.lowering.proofs.Spelling.{unfolds, made_fits, not_void, lets_go, FormIs, WorkFormIs}
use Rattle.lowering.proofs.SpellingOperators.{in_place, AreNew, resizes_new, Spells, edge_then, fails_then, turns_then}
use Rattle.lowering.proofs.SpellingUpdates.{adapt_of, adapt_size, adapt_plain, adapted_size, adapted_plain, stored_value, scalar_value, scalar_width, loaded_plain, calculated_same, adapts_then, adapts_new}

-- the type of a sum with a 1 has 4 bytes or more
wide_by : (less less' : Bool) (left : IntegerType) (signed : Bool) → 4 ≤ left.bytes → 4 ≤ (if less then int else (if less' then left else integer left.bytes signed)).bytes
wide_by true less' left signed wide = omega arith
wide_by false true left signed wide = wide
wide_by false false left signed wide = wide

promoted_wide : (of : IntegerType) (less : Bool) → nat_lt of.bytes 4 ≡ less → 4 ≤ (if less then int else of).bytes
promoted_wide of true is = omega arith
promoted_wide of false is = ltb-false of.bytes 4 is

common_wide : (of : IntegerType) → 4 ≤ (common of int).bytes
common_wide of = wide_by (nat_lt (promoted of).bytes 4) (nat_lt 4 (promoted of).bytes) (promoted of) ((promoted of).signed && true) (promoted_wide of (nat_lt of.bytes 4) refl)

one_below : (size : ℕ) → 4 ≤ size → 1 < 256 ^ size
one_below zero wide = absurd (omega arith)
one_below (suc size) wide = let h = power_some size in omega arith

-- a 1 stays a 1
one_by : (to : IntegerType) (tests same : Bool) (change : Conversion) (memory : List Block) → 4 ≤ to.bytes → is_turn (if tests then NoConversion else (if same then Nothing else (if tests then change else Resized to.bytes true))) ≡ true →
    turn_of (if tests then NoConversion else (if same then Nothing else (if tests then change else Resized to.bytes true))) 4 memory (Plain 1) ≡ Plain 1
one_by to true same change memory wide turns = absurd (false≢true turns)
one_by to false true change memory wide turns = refl
one_by to false false change memory wide turns = ap Plain (mod-eq_of_lt (one_below to.bytes wide))

turns_by : (to : IntegerType) (tests same : Bool) (change : Conversion) → tests ≡ false → is_turn (if tests then NoConversion else (if same then Nothing else (if tests then change else Resized to.bytes true))) ≡ true
turns_by to true same change no_test = absurd (false≢true (sym no_test))
turns_by to false true change no_test = refl
turns_by to false false change no_test = refl

abbrev OneStays : Bool → Kind → Type 0
OneStays up kind =
    (one_change kind ≡ (sides (counting up) kind (Integer int)).left)
    × (is_turn (sides (counting up) kind (Integer int)).left ≡ true → (is_turn (sides (counting up) kind (Integer int)).right ≡ true)
    × ((memory : List Block) → turn_of (sides (counting up) kind (Integer int)).right 4 memory (Plain 1) ≡ Plain 1))

int_stays : (of : IntegerType) → is_turn (as_operand of (common of int)) ≡ true →
    (is_turn (as_operand int (common of int)) ≡ true) × ((memory : List Block) → turn_of (as_operand int (common of int)) 4 memory (Plain 1) ≡ Plain 1)
int_stays of turns =
    let to : IntegerType = common of int in
    let both = turns_by to to.truth (is_same int to) (tested 4 to) (operand_whole of to turns) in
    (both, λ memory. one_by to to.truth (is_same int to) (tested 4 to) memory (common_wide of) both)

one_stays : (up : Bool) (kind : Kind) (bytes : ℕ) → scalar_bytes kind ≡ Some bytes → OneStays up kind
one_stays true (Integer of) bytes is = (refl, int_stays of)
one_stays false (Integer of) bytes is = (refl, int_stays of)
one_stays true (Pointer item) bytes is = (refl, λ turns. (refl, λ memory. refl))
one_stays false (Pointer item) bytes is = (refl, λ turns. (refl, λ memory. refl))
one_stays up (Array item) bytes is = absurd (none-some bytes is)
one_stays up (Struct size) bytes is = absurd (none-some bytes is)
one_stays up Void bytes is = absurd (none-some bytes is)

counts_fit : (up : Bool) (kind : Kind) (bytes : ℕ) → scalar_bytes kind ≡ Some bytes → fits (made_by (counting up) kind (Integer int)) (kind_after (counting up) kind (Integer int)) ≡ true
counts_fit true (Integer of) bytes is = eq-eqb (common of int).bytes (common of int).bytes refl
counts_fit false (Integer of) bytes is = eq-eqb (common of int).bytes (common of int).bytes refl
counts_fit true (Pointer item) bytes is = refl
counts_fit false (Pointer item) bytes is = refl
counts_fit up (Array item) bytes is = absurd (none-some bytes is)
counts_fit up (Struct size) bytes is = absurd (none-some bytes is)
counts_fit up Void bytes is = absurd (none-some bytes is)

counting_computes : (up : Bool) → is_computing (counting up) ≡ true
counting_computes true = refl
counting_computes false = refl

module _ (t : Text) (flow : Flow) (setting : Setting) (running : Running) where
  abbrev Goes_on : Around → List (Stop t) → List (Stop t) → List (TaskIn t) → List Slot → ℕ → Type 0
  Goes_on around now later tasks slots point = Rest t flow setting running around now later tasks slots point

  -- the sum, behind what was read
  record IsCount (others : List Slot) (r : ℕ) (up : Bool) (kind : Kind) (bytes behind to new : ℕ) : Type 0 where
    size : ℕ
    plain : Bool
    calculated : List Block → Word → Option Word
    calculates : CalculatesWith flow others behind (r + 2) bytes (not (is_pointer kind)) calculated to new size plain
    same : (memory : List Block) (word : Word) → Suits bytes (not (is_pointer kind)) word →
        option_map (as_kind memory (kind_after (counting up) kind (Integer int)) kind) (operated memory (counting up) kind (Integer int) word (Plain 1)) ≡ calculated memory word
    wide : size ≡ bytes
    plainly : IsAsPlain kind plain
    free : is_free new others ≡ true
    above : r < new

  abbrev counted_moves : Bool → Kind → ℕ → Place → Conversion → List (Move t) → List (Move t)
  counted_moves up kind r place one last =
      resizes one (r + 2) (r + 3) place ++ Emits (i.Number (r + 4) 1 (one_bytes kind)) place
      ∷ (combines (counting up) kind (Integer int) (stands_in one (r + 2) (r + 3)) (r + 4) (r + 5) place ++ last)

  counted_by : {A : Type 0} (levels : ℕ) (around : Around) (made : Made) (point : ℕ) (standing : Stood) (up : Bool) (kind : Kind) (bytes r to : ℕ) (place : Place) (others : List Slot) (change : Conversion) (last : List (Move t)) →
      (IsCombined t (counting up) kind (Integer int) (sides (counting up) kind (Integer int)) ⊎ NoneCombined t (counting up) kind (Integer int)) → Means (kind_after (counting up) kind (Integer int)) kind change →
      AreNew t flow setting running around last to → scalar_bytes kind ≡ Some bytes → ((register : ℕ) → r + 2 ≤ register → is_free register others ≡ true) → AreBelow made.registers others → r + 7 ≤ made.registers →
      Spells t flow setting running levels around made point standing
      (counted_moves up kind r place (sides (counting up) kind (Integer int)).left (adapts change (r + 5) (width (kind_after (counting up) kind (Integer int))) (r + 6) place ++ last)) to →
      ((made' : Made) (to' : ℕ) (standing' : Stood) → IsCount others r up kind bytes point to' (stands_in change (r + 5) (r + 6)) → Spells t flow setting running levels around made' to' standing' last to → A) → A
  counted_by levels around made point standing up kind bytes r to place others change last (inl c) means new is own below room spelled cont =
      let between : Sides = sides (counting up) kind (Integer int) in
      let from : Kind = kind_after (counting up) kind (Integer int) in
      let after_it : List (Move t) = adapts change (r + 5) (width from) (r + 6) place ++ last in
      let after_new = adapts_new t flow setting running around change (r + 5) (width from) (r + 6) place last to new in
      let one : ℕ = stands_in between.left (r + 2) (r + 3) in
      let instr : Instr = c.instr one (r + 4) (r + 5) in
      let number : Move t = Emits (i.Number (r + 4) 1 (one_bytes kind)) place in
      let spelled1 = subst (λ (list : List (Move t)). Spells t flow setting running levels around made point standing (resizes between.left (r + 2) (r + 3) place ++ number ∷ (list ++ after_it)) to) (c.moves one (r + 4) (r + 5) place) spelled in
      let fit = counts_fit up kind bytes is in
      let gives = fitted (made_by (counting up) kind (Integer int)) from fit (stored_value (counting up) kind (Integer int) bytes is) in
      let sized : c.size ≡ width from = c.wide ∙ gives.0 in
      let stays = one_stays up kind bytes is in
      turns_then t flow setting running levels around made point standing between.left (r + 2) bytes (r + 3) (not (is_pointer kind)) place others (number ∷ Emits instr place ∷ after_it) to (λ standing'. refl)
      (own (r + 3) (omega arith)) (own (r + 2) (omega arith)) spelled1
      (λ made1 point1 standing1 more1 turns left spelled2.
      edge_then t flow setting running levels around made1 point1 standing1 (i.Number (r + 4) 1 (one_bytes kind)) place (Emits instr place ∷ after_it) to (λ standing'. refl) spelled2
      (λ made2 point2 standing2 more2 numbered spelled3.
      edge_then t flow setting running levels around made2 point2 standing2 instr place after_it to after_new spelled3
      (λ made3 point3 standing3 more3 computed spelled4.
      adapts_then t flow setting running levels around made3 point3 standing3 change (r + 5) c.size (width from) (r + 6) c.plain place others last to new
      (below_more made.registers made3.registers others (omega arith) below) (omega arith) (own (r + 6) (omega arith)) (own (r + 5) (omega arith)) sized spelled4
      (λ made4 point4 standing4 adapts' behind spelled5.
      cont made4 point4 standing4 (record {
        size = adapt_size change c.size;
        plain = adapt_plain change c.plain;
        calculated = λ memory word. option_map (adapt_of change c.size memory) (c.combined memory (turn_of between.left bytes memory word) (Plain 1));
        calculates = CalculatedWith (r + 4) 1 (one_bytes kind) place (own (r + 2) (omega arith)) left numbered
            (free_beside (r + 4) one (size_by between.left bytes) (plain_by between.left (not (is_pointer kind))) others
            (in_place (λ (n : ℕ). n ≢ r + 4) between.left (r + 2) (r + 3) (λ same. absurd (omega arith)) (λ same. absurd (omega arith))) (own (r + 4) (omega arith)))
            (c.does flow point2 one (r + 4) (r + 5) point3 place computed) (own (r + 5) (omega arith)) behind;
        same = λ memory word suits.
            calculated_same t (counting up) kind (Integer int) bytes change c (not (is_pointer kind)) true is fit means adapts' (loaded_plain kind bytes is) (λ asked. refl) turns (stays.1 turns).0 memory word (Plain 1) suits (omega arith, tt, tt)
            ∙ ap (λ (w : Word). option_map (adapt_of change c.size memory) (c.combined memory (turn_of between.left bytes memory word) w)) ((stays.1 turns).1 memory);
        wide = ap (adapt_size change) sized ∙ (adapted_size from kind change means adapts' ∙ scalar_width kind bytes is);
        plainly = adapted_plain from kind change means adapts' c.plain (λ asked. c.plainly (gives.1 asked));
        free = in_place (λ (n : ℕ). is_free n others ≡ true) change (r + 5) (r + 6) (own (r + 5) (omega arith)) (own (r + 6) (omega arith));
        above = in_place (λ (n : ℕ). r < n) change (r + 5) (r + 6) (omega arith) (omega arith);
      }) spelled5))))
  counted_by levels around made point standing up kind bytes r to place others change last (inr none) means new is own below room spelled cont =
      let between : Sides = sides (counting up) kind (Integer int) in
      let from : Kind = kind_after (counting up) kind (Integer int) in
      let after_it : List (Move t) = adapts change (r + 5) (width from) (r + 6) place ++ last in
      let after_new = adapts_new t flow setting running around change (r + 5) (width from) (r + 6) place last to new in
      let one : ℕ = stands_in between.left (r + 2) (r + 3) in
      let number : Move t = Emits (i.Number (r + 4) 1 (one_bytes kind)) place in
      let spelled1 = subst (λ (list : List (Move t)). Spells t flow setting running levels around made point standing (resizes between.left (r + 2) (r + 3) place ++ number ∷ (list ++ after_it)) to) (none one (r + 4) (r + 5) place) spelled in
      turns_then t flow setting running levels around made point standing between.left (r + 2) bytes (r + 3) (not (is_pointer kind)) place others (number ∷ Fails ∷ after_it) to (λ standing'. refl)
      (own (r + 3) (omega arith)) (own (r + 2) (omega arith)) spelled1
      (λ made1 point1 standing1 more1 turns left spelled2.
      edge_then t flow setting running levels around made1 point1 standing1 (i.Number (r + 4) 1 (one_bytes kind)) place (Fails ∷ after_it) to (λ standing'. refl) spelled2
      (λ made2 point2 standing2 more2 numbered spelled3. fails_then t flow setting running levels around made2 point2 standing2 after_it to after_new spelled3))

  -- the address, what is read from it, and what stands behind that
  record IsRead (r : ℕ) (place : Place) (kind : Kind) (bytes point behind : ℕ) : Type 0 where
    read : ℕ
    moved : One flow point (i.Move (r + 1) r) read place
    loaded : One flow read (i.Read (r + 2) (r + 1) bytes (is_pointer kind)) behind place

  read_parts : (levels : ℕ) → IsAt t flow setting running levels → (around : Around) → IsAround setting around → (made : Made) (from : ℕ) (arg : t.Expr) (kind : Kind) (bytes spare to : ℕ) (moves : List (Move t)) →
      AreNew t flow setting running around moves to →
      IsSpelled flow made from (along t around (go levels t around) (with_registers 7 made) from (Locates arg spare made.registers ∷ Emits (i.Move (made.registers + 1) made.registers) (t.place arg)
      ∷ Emits (i.Read (made.registers + 2) (made.registers + 1) bytes (is_pointer kind)) (t.place arg) ∷ moves) to) →
      (now later : List (Stop t)) (tasks : List (TaskIn t)) (slots : List Slot) (base : ℕ) → Ready t flow setting running around now later tasks base made.registers slots spare (left_of t (AsPlace false) arg) →
      ((made' : Made) (point behind : ℕ) (standing : Stood) (plain : Bool) → made.registers + 7 ≤ made'.registers → IsRead made.registers (t.place arg) kind bytes point behind →
      Spells t flow setting running levels around made' behind standing moves to → Goes_on around (later ++ now) [] tasks (InRegister made.registers 8 plain ∷ slots) point) →
      Goes_on around now later (AddressOf arg ∷ tasks) slots from
  read_parts levels at around good made from arg kind bytes spare to moves new spelled now later tasks slots base ready cont =
      let r : ℕ = made.registers in
      let made1 : Made = with_registers 7 made in
      let first_move : Move t = Locates arg spare r in
      let standing : Stood = after t first_move (stands_at made1 from) in
      let move : Move t = Emits (i.Move (r + 1) r) (t.place arg) in
      let read : Move t = Emits (i.Read (r + 2) (r + 1) bytes (is_pointer kind)) (t.place arg) in
      let spelled1 = spelled_registers 7 spelled in
      let first = head_spelled t flow setting running levels around made1 from standing first_move (move ∷ read ∷ moves) to spelled1 in
      let rest = tail_spelled t flow setting running levels around made1 from standing first_move (move ∷ read ∷ moves) to spelled1 in
      let h = fills t flow setting running levels around made1 from standing first_move spelled1.inside spelled1.sound in
      let free_r = own_free r ready (omega arith) in
      let room = ready.room in
      let less = own_place t arg spare (left_of t (AsPlace false) arg) r room (omega arith) in
      at.place around good (with_point standing made1) from arg spare r made.points first now later tasks slots base
      (part_ready (r + 7) (left_of t (AsPlace (nat_eq r spare)) arg) ready (omega arith) less) (own_target (r + 7) r ready.own (omega arith) (omega arith) free_r)
      (λ plain.
      edge_then t flow setting running levels around (mid t flow setting running levels around made1 from standing first_move) made.points standing (i.Move (r + 1) r) (t.place arg) (read ∷ moves) to (λ standing'. refl) rest
      (λ made' point standing' more moved spelled2.
      edge_then t flow setting running levels around made' point standing' (i.Read (r + 2) (r + 1) bytes (is_pointer kind)) (t.place arg) moves to new spelled2
      (λ made'' point' standing'' more' loaded spelled3. cont made'' made.points point' standing'' plain (omega arith) (record { read = point; moved = moved; loaded = loaded }) spelled3)))

  resized_new : (around : Around) (one : Conversion) (from into : ℕ) (place : Place) (move : Move t) (moves : List (Move t)) (to : ℕ) → AreNew t flow setting running around (move ∷ moves) to →
      AreNew t flow setting running around (resizes one from into place ++ move ∷ moves) to
  resized_new around one from into place move moves to new = resizes_new t flow setting running around one from into place (move ∷ moves) to new

  -- the moves up to the store, with what is kept of the old value and of the new one
  abbrev store_of : ℕ → ℕ → ℕ → Place → List (Move t)
  store_of r new bytes place = Emits (i.Write r new bytes) place ∷ []

  abbrev moves_of : t.Expr → t.Expr → Bool → Kind → ℕ → ℕ → ℕ → Conversion → Option ℕ → Option ℕ → List (Move t)
  moves_of expr arg up kind bytes spare r one old_into new_into =
      Locates arg spare r ∷ Emits (i.Move (r + 1) r) (t.place arg) ∷ Emits (i.Read (r + 2) (r + 1) bytes (is_pointer kind)) (t.place arg)
      ∷ (keeps old_into (r + 2) (t.place expr)
      ++ counted_moves up kind r (t.place expr) one
      (adapts (conversion (kind_after (counting up) kind (Integer int)) kind) (r + 5) (width (kind_after (counting up) kind (Integer int))) (r + 6) (t.place expr)
      ++ (keeps new_into (stands_in (conversion (kind_after (counting up) kind (Integer int)) kind) (r + 5) (r + 6)) (t.place expr)
      ++ store_of r (stands_in (conversion (kind_after (counting up) kind (Integer int)) kind) (r + 5) (r + 6)) bytes (t.place arg))))

  -- one whose value is not used
  count_done : (levels : ℕ) → IsAt t flow setting running levels → (around : Around) → IsAround setting around → (made : Made) (from : ℕ) (expr arg : t.Expr) (up after' : Bool) (kind : Kind) (bytes spare to : ℕ) → scalar_bytes kind ≡ Some bytes →
      IsSpelled flow made from (along_line t around (go levels t around) made from (record { registers = 7; moves = moves_of expr arg up kind bytes spare made.registers (one_change kind) None None }) to) →
      (now later : List (Stop t)) (tasks : List (TaskIn t)) (slots : List Slot) (base : ℕ) → Ready t flow setting running around now later tasks base made.registers slots spare (left_of t (AsPlace false) arg) →
      Goes_on around (later ++ now) [] tasks (let_go kind ∷ slots) to → Goes_on around now later (AddressOf arg ∷ CountBy up after' (t.place arg) kind ∷ tasks) slots from
  count_done levels at around good made from expr arg up after' kind bytes spare to is spelled now later tasks slots base ready cont =
      let r : ℕ = made.registers in
      let from_kind : Kind = kind_after (counting up) kind (Integer int) in
      let change : Conversion = conversion from_kind kind in
      let new : ℕ = stands_in change (r + 5) (r + 6) in
      let left : Conversion = (sides (counting up) kind (Integer int)).left in
      let last : List (Move t) = store_of r new bytes (t.place arg) in
      let here = subst (λ (one : Conversion). IsSpelled flow made from (along_line t around (go levels t around) made from (record { registers = 7; moves = moves_of expr arg up kind bytes spare r one None None }) to))
      (one_stays up kind bytes is).0 spelled in
      let free_r = own_free r ready (omega arith) in
      read_parts levels at around good made from arg kind bytes spare to (counted_moves up kind r (t.place expr) left (adapts change (r + 5) (width from_kind) (r + 6) (t.place expr) ++ last))
      (resized_new around left (r + 2) (r + 3) (t.place expr) (Emits (i.Number (r + 4) 1 (one_bytes kind)) (t.place expr))
      (combines (counting up) kind (Integer int) (stands_in left (r + 2) (r + 3)) (r + 4) (r + 5) (t.place expr) ++ (adapts change (r + 5) (width from_kind) (r + 6) (t.place expr) ++ last)) to (λ standing. refl))
      here now later (CountBy up after' (t.place arg) kind ∷ tasks) slots base ready
      (λ made' point behind standing plain more read end.
      let at_slot : Slot = InRegister r 8 plain in
      counted_by levels around made' behind standing up kind bytes r to (t.place expr) (at_slot ∷ slots) change last (combining t (counting up) kind (Integer int) (counting_computes up)) (conversion_means from_kind kind)
      (λ standing'. refl) is (λ register least. free_beside register r 8 plain slots (λ same. absurd (omega arith)) (own_free register ready (omega arith)))
      (omega arith, below_more r made'.registers slots (omega arith) ready.below) more end
      (λ made'' to' standing' count end'.
      Counts up after' (t.place arg) (t.place arg) kind bytes r 8 (r + 1) (r + 2) read.read behind to' new count.size to plain count.plain count.calculated is ready.whole free_r
      (free_beside (r + 1) r 8 plain slots (λ same. absurd (omega arith)) (own_free (r + 1) ready (omega arith))) read.moved
      (free_beside (r + 2) r 8 plain slots (λ same. absurd (omega arith)) (own_free (r + 2) ready (omega arith))) read.loaded count.calculates count.same count.free
      (one_at t flow setting running levels around made'' to' to (i.Write r new bytes) (t.place arg) end')
      (subst (λ (slot : Slot). Goes_on around (later ++ now) [] tasks (slot ∷ slots) to) (let_go_made kind (scalar_value kind bytes is)) cont)))

  -- one whose new value is kept
  count_new : (levels : ℕ) → IsAt t flow setting running levels → (around : Around) → IsAround setting around → (made : Made) (from : ℕ) (expr arg : t.Expr) (up : Bool) (kind : Kind) (bytes spare into to : ℕ) → scalar_bytes kind ≡ Some bytes →
      IsSpelled flow made from (along_line t around (go levels t around) made from (record { registers = 7; moves = moves_of expr arg up kind bytes spare made.registers (one_change kind) None (Some into) }) to) →
      (now later : List (Stop t)) (tasks : List (TaskIn t)) (slots : List Slot) (base : ℕ) → Ready t flow setting running around now later tasks base made.registers slots spare (left_of t (AsPlace false) arg) →
      into < made.registers → is_free into slots ≡ true → ((plain : Bool) → IsAsPlain kind plain → Goes_on around (later ++ now) [] tasks (InRegister into (width kind) plain ∷ slots) to) →
      Goes_on around now later (AddressOf arg ∷ CountBy up false (t.place arg) kind ∷ tasks) slots from
  count_new levels at around good made from expr arg up kind bytes spare into to is spelled now later tasks slots base ready within free cont =
      let r : ℕ = made.registers in
      let from_kind : Kind = kind_after (counting up) kind (Integer int) in
      let change : Conversion = conversion from_kind kind in
      let new : ℕ = stands_in change (r + 5) (r + 6) in
      let left : Conversion = (sides (counting up) kind (Integer int)).left in
      let store : List (Move t) = store_of r new bytes (t.place arg) in
      let last : List (Move t) = Emits (i.Move into new) (t.place expr) ∷ store in
      let here = subst (λ (one : Conversion). IsSpelled flow made from (along_line t around (go levels t around) made from (record { registers = 7; moves = moves_of expr arg up kind bytes spare r one None (Some into) }) to))
      (one_stays up kind bytes is).0 spelled in
      let free_r = own_free r ready (omega arith) in
      read_parts levels at around good made from arg kind bytes spare to (counted_moves up kind r (t.place expr) left (adapts change (r + 5) (width from_kind) (r + 6) (t.place expr) ++ last))
      (resized_new around left (r + 2) (r + 3) (t.place expr) (Emits (i.Number (r + 4) 1 (one_bytes kind)) (t.place expr))
      (combines (counting up) kind (Integer int) (stands_in left (r + 2) (r + 3)) (r + 4) (r + 5) (t.place expr) ++ (adapts change (r + 5) (width from_kind) (r + 6) (t.place expr) ++ last)) to (λ standing. refl))
      here now later (CountBy up false (t.place arg) kind ∷ tasks) slots base ready
      (λ made' point behind standing plain more read end.
      let at_slot : Slot = InRegister r 8 plain in
      counted_by levels around made' behind standing up kind bytes r to (t.place expr) (at_slot ∷ slots) change last (combining t (counting up) kind (Integer int) (counting_computes up)) (conversion_means from_kind kind)
      (λ standing'. refl) is (λ register least. free_beside register r 8 plain slots (λ same. absurd (omega arith)) (own_free register ready (omega arith)))
      (omega arith, below_more r made'.registers slots (omega arith) ready.below) more end
      (λ made'' to' standing' count end'.
      let above = count.above in
      edge_then t flow setting running levels around made'' to' standing' (i.Move into new) (t.place expr) store to (λ standing''. refl) end'
      (λ made3 written standing3 more' keeps' end''.
      CountsNew up (t.place arg) (t.place arg) (t.place expr) kind bytes r 8 (r + 1) (r + 2) read.read behind to' new count.size into written to plain count.plain count.calculated is ready.whole free_r
      (free_beside (r + 1) r 8 plain slots (λ same. absurd (omega arith)) (own_free (r + 1) ready (omega arith))) read.moved
      (free_beside (r + 2) r 8 plain slots (λ same. absurd (omega arith)) (own_free (r + 2) ready (omega arith))) read.loaded count.calculates count.same count.free
      (free_beside into new count.size count.plain (at_slot ∷ slots) (λ same. absurd (omega arith)) (free_beside into r 8 plain slots (λ same. absurd (omega arith)) free)) keeps'
      (one_at t flow setting running levels around made3 written to (i.Write r new bytes) (t.place arg) end'')
      (subst (λ (n : ℕ). Goes_on around (later ++ now) [] tasks (InRegister into n count.plain ∷ slots) to) (scalar_width kind bytes is ∙ sym count.wide) (cont count.plain count.plainly)))))

  -- and one whose old value is kept
  count_old : (levels : ℕ) → IsAt t flow setting running levels → (around : Around) → IsAround setting around → (made : Made) (from : ℕ) (expr arg : t.Expr) (up : Bool) (kind : Kind) (bytes spare into to : ℕ) → scalar_bytes kind ≡ Some bytes →
      IsSpelled flow made from (along_line t around (go levels t around) made from (record { registers = 7; moves = moves_of expr arg up kind bytes spare made.registers (one_change kind) (Some into) None }) to) →
      (now later : List (Stop t)) (tasks : List (TaskIn t)) (slots : List Slot) (base : ℕ) → Ready t flow setting running around now later tasks base made.registers slots spare (left_of t (AsPlace false) arg) →
      into < made.registers → is_free into slots ≡ true → ((plain : Bool) → IsAsPlain kind plain → Goes_on around (later ++ now) [] tasks (InRegister into (width kind) plain ∷ slots) to) →
      Goes_on around now later (AddressOf arg ∷ CountBy up true (t.place arg) kind ∷ tasks) slots from
  count_old levels at around good made from expr arg up kind bytes spare into to is spelled now later tasks slots base ready within free cont =
      let r : ℕ = made.registers in
      let from_kind : Kind = kind_after (counting up) kind (Integer int) in
      let change : Conversion = conversion from_kind kind in
      let new : ℕ = stands_in change (r + 5) (r + 6) in
      let left : Conversion = (sides (counting up) kind (Integer int)).left in
      let last : List (Move t) = store_of r new bytes (t.place arg) in
      let kept : Slot = InRegister into bytes (not (is_pointer kind)) in
      let here = subst (λ (one : Conversion). IsSpelled flow made from (along_line t around (go levels t around) made from (record { registers = 7; moves = moves_of expr arg up kind bytes spare r one (Some into) None }) to))
      (one_stays up kind bytes is).0 spelled in
      let free_r = own_free r ready (omega arith) in
      let counted : List (Move t) = counted_moves up kind r (t.place expr) left (adapts change (r + 5) (width from_kind) (r + 6) (t.place expr) ++ last) in
      let counted_new = resized_new around left (r + 2) (r + 3) (t.place expr) (Emits (i.Number (r + 4) 1 (one_bytes kind)) (t.place expr))
      (combines (counting up) kind (Integer int) (stands_in left (r + 2) (r + 3)) (r + 4) (r + 5) (t.place expr) ++ (adapts change (r + 5) (width from_kind) (r + 6) (t.place expr) ++ last)) to (λ standing. refl) in
      read_parts levels at around good made from arg kind bytes spare to (Emits (i.Move into (r + 2)) (t.place expr) ∷ counted) (λ standing. refl) here now later (CountBy up true (t.place arg) kind ∷ tasks) slots base ready
      (λ made' point behind standing plain more read end.
      let at_slot : Slot = InRegister r 8 plain in
      edge_then t flow setting running levels around made' behind standing (i.Move into (r + 2)) (t.place expr) counted to counted_new end
      (λ made1 moved standing1 more1 keeps' end1.
      counted_by levels around made1 moved standing1 up kind bytes r to (t.place expr) (at_slot ∷ kept ∷ slots) change last (combining t (counting up) kind (Integer int) (counting_computes up)) (conversion_means from_kind kind)
      (λ standing'. refl) is
      (λ register least. free_beside register r 8 plain (kept ∷ slots) (λ same. absurd (omega arith))
      (free_beside register into bytes (not (is_pointer kind)) slots (λ same. absurd (omega arith)) (own_free register ready (omega arith))))
      (omega arith, (omega arith, below_more r made1.registers slots (omega arith) ready.below)) (omega arith) end1
      (λ made'' to' standing' count end'.
      CountsOld up (t.place arg) (t.place arg) (t.place expr) kind bytes r 8 (r + 1) (r + 2) read.read behind to' new count.size into moved to plain count.plain count.calculated is ready.whole free_r
      (free_beside (r + 1) r 8 plain slots (λ same. absurd (omega arith)) (own_free (r + 1) ready (omega arith))) read.moved
      (free_beside (r + 2) r 8 plain slots (λ same. absurd (omega arith)) (own_free (r + 2) ready (omega arith))) read.loaded
      (free_beside into (r + 2) bytes (not (is_pointer kind)) (at_slot ∷ slots) (λ same. absurd (omega arith)) (free_beside into r 8 plain slots (λ same. absurd (omega arith)) free)) keeps' count.calculates count.same count.free
      (one_at t flow setting running levels around made'' to' to (i.Write r new bytes) (t.place arg) end')
      (subst (λ (n : ℕ). Goes_on around (later ++ now) [] tasks (InRegister into n (not (is_pointer kind)) ∷ slots) to) (scalar_width kind bytes is) (cont (not (is_pointer kind)) (loaded_plain kind bytes is))))))

  -- by whether the value is asked for, and which
  count_work_by : (levels : ℕ) → IsAt t flow setting running levels → (around : Around) → IsAround setting around → (made : Made) (from : ℕ) (expr arg : t.Expr) (up after' : Bool) (kind : Kind) (size : Option ℕ) (spare to : ℕ) → scalar_bytes kind ≡ size →
      IsSpelled flow made from (along_line t around (go levels t around) made from (count_line t up after' expr arg spare None made.registers kind size) to) →
      (now later : List (Stop t)) (tasks : List (TaskIn t)) (slots : List Slot) (base : ℕ) → Ready t flow setting running around now later tasks base made.registers slots spare (left_of t (AsPlace false) arg) →
      Goes_on around (later ++ now) [] tasks (let_go kind ∷ slots) to → Goes_on around now later (AddressOf arg ∷ CountBy up after' (t.place arg) kind ∷ tasks) slots from
  count_work_by levels at around good made from expr arg up after' kind None spare to is spelled now later tasks slots base ready cont =
      never t flow setting running levels around (with_registers 0 made) from to (spelled_registers 0 spelled)
  count_work_by levels at around good made from expr arg up true kind (Some bytes) spare to is spelled now later tasks slots base ready cont =
      count_done levels at around good made from expr arg up true kind bytes spare to is spelled now later tasks slots base ready cont
  count_work_by levels at around good made from expr arg up false kind (Some bytes) spare to is spelled now later tasks slots base ready cont =
      count_done levels at around good made from expr arg up false kind bytes spare to is spelled now later tasks slots base ready cont

  count_kept_by : (levels : ℕ) → IsAt t flow setting running levels → (around : Around) → IsAround setting around → (made : Made) (from : ℕ) (expr arg : t.Expr) (up after' : Bool) (kind : Kind) (size : Option ℕ) (spare into to : ℕ) → scalar_bytes kind ≡ size →
      IsSpelled flow made from (along_line t around (go levels t around) made from (count_line t up after' expr arg spare (Some into) made.registers kind size) to) →
      (now later : List (Stop t)) (tasks : List (TaskIn t)) (slots : List Slot) (base : ℕ) → Ready t flow setting running around now later tasks base made.registers slots spare (left_of t (AsPlace false) arg) →
      into < made.registers → is_free into slots ≡ true → ((plain : Bool) → IsAsPlain kind plain → Goes_on around (later ++ now) [] tasks (InRegister into (width kind) plain ∷ slots) to) →
      Goes_on around now later (AddressOf arg ∷ CountBy up after' (t.place arg) kind ∷ tasks) slots from
  count_kept_by levels at around good made from expr arg up after' kind None spare into to is spelled now later tasks slots base ready within free cont =
      never t flow setting running levels around (with_registers 0 made) from to (spelled_registers 0 spelled)
  count_kept_by levels at around good made from expr arg up true kind (Some bytes) spare into to is spelled now later tasks slots base ready within free cont =
      count_old levels at around good made from expr arg up kind bytes spare into to is spelled now later tasks slots base ready within free cont
  count_kept_by levels at around good made from expr arg up false kind (Some bytes) spare into to is spelled now later tasks slots base ready within free cont =
      count_new levels at around good made from expr arg up kind bytes spare into to is spelled now later tasks slots base ready within free cont

  pub count_work : (levels : ℕ) → IsAt t flow setting running levels → (up after' : Bool) (arg : t.Expr) → WorkFormIs t flow setting running levels (Count up after' arg)
  count_work levels at up after' arg around good made from expr spare to is void spelled now later tasks slots base ready cont =
      unfolds t flow setting running around now later tasks slots from expr (Count up after' arg) is
      (count_work_by levels at around good made from expr arg up after' (t.kind arg) (scalar_bytes (t.kind arg)) spare to refl spelled now later tasks slots base ready
      (lets_go t flow setting running around (later ++ now) [] tasks slots to (value_kind t expr) (t.kind arg) void cont))

  pub count_form : (levels : ℕ) → IsAt t flow setting running levels → (up after' : Bool) (arg : t.Expr) → FormIs t flow setting running levels (Count up after' arg)
  count_form levels at up after' arg around good made from expr spare into to is shown spelled now later tasks slots base ready target cont =
      let gives = fitted (t.kind arg) (value_kind t expr) (made_fits t flow setting running expr (Count up after' arg) shown) (not_void t flow setting running expr (Count up after' arg) shown) in
      unfolds t flow setting running around now later tasks slots from expr (Count up after' arg) is
      (count_kept_by levels at around good made from expr arg up after' (t.kind arg) (scalar_bytes (t.kind arg)) spare into to refl spelled now later tasks slots base ready target.within target.free
      (λ plain number. subst (λ (n : ℕ). Goes_on around (later ++ now) [] tasks (InRegister into n plain ∷ slots) to) (sym gives.0) (cont plain (λ asked. number (gives.1 asked)))))
