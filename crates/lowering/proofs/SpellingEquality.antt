-- What is placed for `==` and `!=` is what the rest of a run wants: both sides behind their conversions, and a test whether they are the same.
use Rattle.std.proofs.Common.{◌≡◌, ◌<◌, ℕ, ◌+◌, ◌^◌, max, List, [], ◌∷◌, ◌++◌, Bool, true, false, not, nat_eq, refl, sym, ap, ◌∙◌, Some, subst, if◌then◌else◌}
use Rattle.std.proofs.lemmas.Bool.{eqb-true, eq-eqb}
use Rattle.std.proofs.lemmas.Bool.Decides.{Decides-int_eq, same_from_decides}
use Rattle.cbase.specs.declared.tree.operators.BinaryOp.{BinaryOp}
use Rattle.cbase.specs.declared.tree.operators.BinaryOp.TheVariants.{Equal, NotEqual}
use Rattle.arithmetic.specs.Comparing.{answer, is_equal}
use Rattle.arithmetic.specs.Conversion.{truth, converted}
use Rattle.arithmetic.specs.Value.{modulus, value, bits}
use Rattle.arithmetic.proofs.Inverse.{residue-small}
use Rattle.typing.specs.declared.ctypes.kind.IntegerType.{IntegerType}
use Rattle.typing.specs.ctypes.Integers.{common}
use Rattle.typing.specs.values.Values.{as_type}
use Rattle.bytes_core.specs.declared.block.Block.{Block}
use Rattle.bytes_core.specs.declared.word.Word.{Word}
use Rattle.bytes_core.specs.declared.word.Word.TheVariants.{Plain}
use Rattle.bytes_core.specs.Value.{address_number, is_same_address}
use Rattle.c_machine.specs.declared.kind.Kind.{Kind}
use Rattle.c_machine.specs.declared.kind.Kind.TheVariants.{Integer, Pointer, Array, Struct, Void}
use Rattle.c_machine.specs.declared.task.Task.TheVariants.{ValueOf, Operate}
use Rattle.c_machine.specs.Text.{Binary, Text}
use Rattle.c_machine.specs.Expressions.{value_kind}
use Rattle.c_machine.specs.State.{TaskIn}
use Rattle.c_machine.specs.Words.{as_address, operated}
use Rattle.flow.specs.declared.flow_graph.Flow.{Flow}
use Rattle.flow.specs.declared.instruction.Instr.TheVariants as i
use Rattle.simulation.specs.Running.{Setting, Running}
use Rattle.simulation.specs.Slots.{Slot, KnownAs, Suits}
use Rattle.simulation.specs.Lowered.{Stop, Compares}
use Rattle.lowering.specs.Kinds.{width, Sides, sides, as_operand}
use Rattle.lowering.specs.LetGo.{AsValue, left_of}
use Rattle.lowering.specs.Moves.{Move, resizes, stands_in}
use Rattle.lowering.specs.Placing.{Made, Around, equality, parts_where, go}
use Rattle.lowering.proofs.ComputedFits.{power_some}
use Rattle.lowering.proofs.KindFacts.{IsAsPlain}
use Rattle.lowering.proofs.Modes.{IsAround, Rest, Ready, IsAt}
use Rattle.lowering.proofs.Operating.{same_size, turn_of, size_by, plain_by, is_turn, operand_as, operand_whole}
use Rattle.lowering.proofs.Placings.{IsSpelled}
use Rattle.lowering.proofs.Ready.{free_beside, own_free, pair_at}
use Rattle.lowering.proofs.Spelling.{unfolds}
use Rattle.lowering.proofs.SpellingConditions.{KnownFormIs}
use Rattle.lowering.proofs.SpellingOperators.{AreNew, resizes_new, both_turn, two_values, own_registers}

-- numbers that fit their size are equal where their values are
equal_same : (size : ℕ) (signed : Bool) (one other : ℕ) → one < 256 ^ size → other < 256 ^ size → is_equal size signed one other ≡ nat_eq one other
equal_same size signed one other small small' =
    let decides = Decides-int_eq (value size signed one) (value size signed other) in
    same_from_decides {P = one ≡ other} (is_equal size signed one other) (nat_eq one other)
    ((λ is. sym (same_size size signed one small) ∙ (ap (λ z. bits size z) (decides.0 is) ∙ same_size size signed other small')), (λ same. decides.1 (ap (value size signed) same)))
    (eqb-true one other, eq-eqb one other)

as_type_small : (of to : IntegerType) (tests : Bool) → to.truth ≡ tests → tests ≡ false → (number : ℕ) → as_type of to number < 256 ^ to.bytes
as_type_small of to tests is whole number =
    subst (λ (b : Bool). (if b then truth of.bytes number else converted of.bytes of.signed to.bytes number) < 256 ^ to.bytes) (sym (is ∙ whole))
    (residue-small (modulus to.bytes) (value of.bytes of.signed number) (power_some to.bytes))

-- 1 where two words are the same, or where they are not
answer_equal : (same : Bool) → Plain (answer same) ≡ (if same then Plain 1 else Plain 0)
answer_equal true = refl
answer_equal false = refl

answer_unequal : (same : Bool) → Plain (answer (not same)) ≡ (if same then Plain 0 else Plain 1)
answer_unequal true = refl
answer_unequal false = refl

-- what both sides are behind their conversions
abbrev SameSides : BinaryOp → Kind → Kind → (Bool → Word) → Type 0
SameSides what kind kind' told =
    (left right : Bool) → IsAsPlain kind left → IsAsPlain kind' right → is_turn (sides what kind kind').left ≡ true → is_turn (sides what kind kind').right ≡ true →
    (memory : List Block) (first second : Word) → Suits (width kind) left first → Suits (width kind') right second →
    operated memory what kind kind' first second ≡ Some (told (is_same_address memory (turn_of (sides what kind kind').left (width kind) memory first) (turn_of (sides what kind kind').right (width kind') memory second)))

ints_same : (left right : IntegerType) (plain plain' : Bool) → IsAsPlain (Integer left) plain → IsAsPlain (Integer right) plain' → is_turn (as_operand left (common left right)) ≡ true → is_turn (as_operand right (common left right)) ≡ true →
    (memory : List Block) (first second : Word) → Suits left.bytes plain first → Suits right.bytes plain' second →
    is_equal (common left right).bytes (common left right).signed (as_type left (common left right) (address_number memory first)) (as_type right (common left right) (address_number memory second))
    ≡ is_same_address memory (turn_of (as_operand left (common left right)) left.bytes memory first) (turn_of (as_operand right (common left right)) right.bytes memory second)
ints_same left right plain plain' is is' turns turns' memory first second suits suits' =
    let to : IntegerType = common left right in
    let whole = operand_whole left to turns in
    equal_same to.bytes to.signed (as_type left to (address_number memory first)) (as_type right to (address_number memory second))
    (as_type_small left to to.truth refl whole (address_number memory first)) (as_type_small right to to.truth refl whole (address_number memory second))
    ∙ (ap (λ (n : ℕ). nat_eq n (as_type right to (address_number memory second))) (sym (operand_as left to turns plain (is refl) memory first suits))
    ∙ ap (λ (n : ℕ). nat_eq (address_number memory (turn_of (as_operand left to) left.bytes memory first)) n) (sym (operand_as right to turns' plain' (is' refl) memory second suits')))

equal_sides : (kind kind' : Kind) → SameSides Equal kind kind' (λ same. if same then Plain 1 else Plain 0)
equal_sides (Integer left) (Integer right) plain plain' is is' turns turns' memory first second suits suits' =
    ap (λ (same : Bool). Some (Plain (answer same))) (ints_same left right plain plain' is is' turns turns' memory first second suits suits')
    ∙ ap Some (answer_equal (is_same_address memory (turn_of (as_operand left (common left right)) left.bytes memory first) (turn_of (as_operand right (common left right)) right.bytes memory second)))
equal_sides (Integer left) (Pointer item') plain plain' is is' turns turns' memory first second suits suits' = ap Some (answer_equal (is_same_address memory (as_address memory (Integer left) first) (as_address memory (Pointer item') second)))
equal_sides (Integer left) (Array item') plain plain' is is' turns turns' memory first second suits suits' = ap Some (answer_equal (is_same_address memory (as_address memory (Integer left) first) (as_address memory (Array item') second)))
equal_sides (Integer left) (Struct size') plain plain' is is' turns turns' memory first second suits suits' = ap Some (answer_equal (is_same_address memory (as_address memory (Integer left) first) (as_address memory (Struct size') second)))
equal_sides (Integer left) Void plain plain' is is' turns turns' memory first second suits suits' = ap Some (answer_equal (is_same_address memory (as_address memory (Integer left) first) (as_address memory Void second)))
equal_sides (Pointer item) (Integer right) plain plain' is is' turns turns' memory first second suits suits' = ap Some (answer_equal (is_same_address memory (as_address memory (Pointer item) first) (as_address memory (Integer right) second)))
equal_sides (Pointer item) (Pointer item') plain plain' is is' turns turns' memory first second suits suits' = ap Some (answer_equal (is_same_address memory (as_address memory (Pointer item) first) (as_address memory (Pointer item') second)))
equal_sides (Pointer item) (Array item') plain plain' is is' turns turns' memory first second suits suits' = ap Some (answer_equal (is_same_address memory (as_address memory (Pointer item) first) (as_address memory (Array item') second)))
equal_sides (Pointer item) (Struct size') plain plain' is is' turns turns' memory first second suits suits' = ap Some (answer_equal (is_same_address memory (as_address memory (Pointer item) first) (as_address memory (Struct size') second)))
equal_sides (Pointer item) Void plain plain' is is' turns turns' memory first second suits suits' = ap Some (answer_equal (is_same_address memory (as_address memory (Pointer item) first) (as_address memory Void second)))
equal_sides (Array item) (Integer right) plain plain' is is' turns turns' memory first second suits suits' = ap Some (answer_equal (is_same_address memory (as_address memory (Array item) first) (as_address memory (Integer right) second)))
equal_sides (Array item) (Pointer item') plain plain' is is' turns turns' memory first second suits suits' = ap Some (answer_equal (is_same_address memory (as_address memory (Array item) first) (as_address memory (Pointer item') second)))
equal_sides (Array item) (Array item') plain plain' is is' turns turns' memory first second suits suits' = ap Some (answer_equal (is_same_address memory (as_address memory (Array item) first) (as_address memory (Array item') second)))
equal_sides (Array item) (Struct size') plain plain' is is' turns turns' memory first second suits suits' = ap Some (answer_equal (is_same_address memory (as_address memory (Array item) first) (as_address memory (Struct size') second)))
equal_sides (Array item) Void plain plain' is is' turns turns' memory first second suits suits' = ap Some (answer_equal (is_same_address memory (as_address memory (Array item) first) (as_address memory Void second)))
equal_sides (Struct size) (Integer right) plain plain' is is' turns turns' memory first second suits suits' = ap Some (answer_equal (is_same_address memory (as_address memory (Struct size) first) (as_address memory (Integer right) second)))
equal_sides (Struct size) (Pointer item') plain plain' is is' turns turns' memory first second suits suits' = ap Some (answer_equal (is_same_address memory (as_address memory (Struct size) first) (as_address memory (Pointer item') second)))
equal_sides (Struct size) (Array item') plain plain' is is' turns turns' memory first second suits suits' = ap Some (answer_equal (is_same_address memory (as_address memory (Struct size) first) (as_address memory (Array item') second)))
equal_sides (Struct size) (Struct size') plain plain' is is' turns turns' memory first second suits suits' = ap Some (answer_equal (is_same_address memory (as_address memory (Struct size) first) (as_address memory (Struct size') second)))
equal_sides (Struct size) Void plain plain' is is' turns turns' memory first second suits suits' = ap Some (answer_equal (is_same_address memory (as_address memory (Struct size) first) (as_address memory Void second)))
equal_sides Void (Integer right) plain plain' is is' turns turns' memory first second suits suits' = ap Some (answer_equal (is_same_address memory (as_address memory Void first) (as_address memory (Integer right) second)))
equal_sides Void (Pointer item') plain plain' is is' turns turns' memory first second suits suits' = ap Some (answer_equal (is_same_address memory (as_address memory Void first) (as_address memory (Pointer item') second)))
equal_sides Void (Array item') plain plain' is is' turns turns' memory first second suits suits' = ap Some (answer_equal (is_same_address memory (as_address memory Void first) (as_address memory (Array item') second)))
equal_sides Void (Struct size') plain plain' is is' turns turns' memory first second suits suits' = ap Some (answer_equal (is_same_address memory (as_address memory Void first) (as_address memory (Struct size') second)))
equal_sides Void Void plain plain' is is' turns turns' memory first second suits suits' = ap Some (answer_equal (is_same_address memory (as_address memory Void first) (as_address memory Void second)))

unequal_sides : (kind kind' : Kind) → SameSides NotEqual kind kind' (λ same. if same then Plain 0 else Plain 1)
unequal_sides (Integer left) (Integer right) plain plain' is is' turns turns' memory first second suits suits' =
    ap (λ (same : Bool). Some (Plain (answer (not same)))) (ints_same left right plain plain' is is' turns turns' memory first second suits suits')
    ∙ ap Some (answer_unequal (is_same_address memory (turn_of (as_operand left (common left right)) left.bytes memory first) (turn_of (as_operand right (common left right)) right.bytes memory second)))
unequal_sides (Integer left) (Pointer item') plain plain' is is' turns turns' memory first second suits suits' = ap Some (answer_unequal (is_same_address memory (as_address memory (Integer left) first) (as_address memory (Pointer item') second)))
unequal_sides (Integer left) (Array item') plain plain' is is' turns turns' memory first second suits suits' = ap Some (answer_unequal (is_same_address memory (as_address memory (Integer left) first) (as_address memory (Array item') second)))
unequal_sides (Integer left) (Struct size') plain plain' is is' turns turns' memory first second suits suits' = ap Some (answer_unequal (is_same_address memory (as_address memory (Integer left) first) (as_address memory (Struct size') second)))
unequal_sides (Integer left) Void plain plain' is is' turns turns' memory first second suits suits' = ap Some (answer_unequal (is_same_address memory (as_address memory (Integer left) first) (as_address memory Void second)))
unequal_sides (Pointer item) (Integer right) plain plain' is is' turns turns' memory first second suits suits' = ap Some (answer_unequal (is_same_address memory (as_address memory (Pointer item) first) (as_address memory (Integer right) second)))
unequal_sides (Pointer item) (Pointer item') plain plain' is is' turns turns' memory first second suits suits' = ap Some (answer_unequal (is_same_address memory (as_address memory (Pointer item) first) (as_address memory (Pointer item') second)))
unequal_sides (Pointer item) (Array item') plain plain' is is' turns turns' memory first second suits suits' = ap Some (answer_unequal (is_same_address memory (as_address memory (Pointer item) first) (as_address memory (Array item') second)))
unequal_sides (Pointer item) (Struct size') plain plain' is is' turns turns' memory first second suits suits' = ap Some (answer_unequal (is_same_address memory (as_address memory (Pointer item) first) (as_address memory (Struct size') second)))
unequal_sides (Pointer item) Void plain plain' is is' turns turns' memory first second suits suits' = ap Some (answer_unequal (is_same_address memory (as_address memory (Pointer item) first) (as_address memory Void second)))
unequal_sides (Array item) (Integer right) plain plain' is is' turns turns' memory first second suits suits' = ap Some (answer_unequal (is_same_address memory (as_address memory (Array item) first) (as_address memory (Integer right) second)))
unequal_sides (Array item) (Pointer item') plain plain' is is' turns turns' memory first second suits suits' = ap Some (answer_unequal (is_same_address memory (as_address memory (Array item) first) (as_address memory (Pointer item') second)))
unequal_sides (Array item) (Array item') plain plain' is is' turns turns' memory first second suits suits' = ap Some (answer_unequal (is_same_address memory (as_address memory (Array item) first) (as_address memory (Array item') second)))
unequal_sides (Array item) (Struct size') plain plain' is is' turns turns' memory first second suits suits' = ap Some (answer_unequal (is_same_address memory (as_address memory (Array item) first) (as_address memory (Struct size') second)))
unequal_sides (Array item) Void plain plain' is is' turns turns' memory first second suits suits' = ap Some (answer_unequal (is_same_address memory (as_address memory (Array item) first) (as_address memory Void second)))
unequal_sides (Struct size) (Integer right) plain plain' is is' turns turns' memory first second suits suits' = ap Some (answer_unequal (is_same_address memory (as_address memory (Struct size) first) (as_address memory (Integer right) second)))
unequal_sides (Struct size) (Pointer item') plain plain' is is' turns turns' memory first second suits suits' = ap Some (answer_unequal (is_same_address memory (as_address memory (Struct size) first) (as_address memory (Pointer item') second)))
unequal_sides (Struct size) (Array item') plain plain' is is' turns turns' memory first second suits suits' = ap Some (answer_unequal (is_same_address memory (as_address memory (Struct size) first) (as_address memory (Array item') second)))
unequal_sides (Struct size) (Struct size') plain plain' is is' turns turns' memory first second suits suits' = ap Some (answer_unequal (is_same_address memory (as_address memory (Struct size) first) (as_address memory (Struct size') second)))
unequal_sides (Struct size) Void plain plain' is is' turns turns' memory first second suits suits' = ap Some (answer_unequal (is_same_address memory (as_address memory (Struct size) first) (as_address memory Void second)))
unequal_sides Void (Integer right) plain plain' is is' turns turns' memory first second suits suits' = ap Some (answer_unequal (is_same_address memory (as_address memory Void first) (as_address memory (Integer right) second)))
unequal_sides Void (Pointer item') plain plain' is is' turns turns' memory first second suits suits' = ap Some (answer_unequal (is_same_address memory (as_address memory Void first) (as_address memory (Pointer item') second)))
unequal_sides Void (Array item') plain plain' is is' turns turns' memory first second suits suits' = ap Some (answer_unequal (is_same_address memory (as_address memory Void first) (as_address memory (Array item') second)))
unequal_sides Void (Struct size') plain plain' is is' turns turns' memory first second suits suits' = ap Some (answer_unequal (is_same_address memory (as_address memory Void first) (as_address memory (Struct size') second)))
unequal_sides Void Void plain plain' is is' turns turns' memory first second suits suits' = ap Some (answer_unequal (is_same_address memory (as_address memory Void first) (as_address memory Void second)))

module _ (t : Text) (flow : Flow) (setting : Setting) (running : Running) where
  abbrev Goes_on : Around → List (Stop t) → List (Stop t) → List (TaskIn t) → List Slot → ℕ → Type 0
  Goes_on around now later tasks slots point = Rest t flow setting running around now later tasks slots point

  -- a test whether two values are the same
  equality_by : (levels : ℕ) → IsAt t flow setting running levels → (around : Around) → IsAround setting around → (made : Made) (from : ℕ) (what : BinaryOp) (expr one other : t.Expr) (spare same differs bits bits' : ℕ) →
      SameSides what (value_kind t one) (value_kind t other) (λ is. if is then Plain bits else Plain bits') →
      IsSpelled flow made from (equality t around (go levels t around) made from what expr one other spare same differs) →
      (now later : List (Stop t)) (tasks : List (TaskIn t)) (slots : List Slot) (base : ℕ) →
      Ready t flow setting running around now later tasks base made.registers slots spare (max (left_of t (AsValue false) one) (left_of t (AsValue false) other)) →
      Goes_on around (later ++ now) [] tasks (KnownAs bits ∷ slots) same → Goes_on around (later ++ now) [] tasks (KnownAs bits' ∷ slots) differs →
      Goes_on around now later (ValueOf one ∷ ValueOf other ∷ Operate what (value_kind t one) (value_kind t other) ∷ tasks) slots from
  equality_by levels at around good made from what expr one other spare same differs bits bits' means spelled now later tasks slots base ready if_same if_other =
      let r : ℕ = made.registers in
      let kind : Kind = value_kind t one in
      let kind' : Kind = value_kind t other in
      let between : Sides = sides what kind kind' in
      let last : List (Move t) = parts_where (stands_in between.left r (r + 2)) (stands_in between.right (r + 1) (r + 3)) same differs (t.place expr) in
      let new : AreNew t flow setting running around last same = λ standing. refl in
      two_values t flow setting running levels at around good made from one other (resizes between.left r (r + 2) (t.place expr) ++ (resizes between.right (r + 1) (r + 3) (t.place expr) ++ last)) spare same
      (resizes_new t flow setting running around between.left r (r + 2) (t.place expr) (resizes between.right (r + 1) (r + 3) (t.place expr) ++ last) same
      (resizes_new t flow setting running around between.right (r + 1) (r + 3) (t.place expr) last same new)) spelled now later (Operate what kind kind' ∷ tasks) slots base ready
      (λ made' point standing plain plain' plainly plainly' end.
      let own = own_registers t flow setting running r slots (λ register least. own_free register ready least) in
      both_turn t flow setting running levels around made' point standing between r (r + 1) (r + 2) (r + 3) (width kind) (width kind') plain plain' (t.place expr) slots last same own new end
      (λ made'' middle point' standing' more turns turns' left right end'.
      Compares what kind kind' r (width kind) (r + 1) (width kind') middle (stands_in between.left r (r + 2)) (size_by between.left (width kind)) point' (stands_in between.right (r + 1) (r + 3)) (size_by between.right (width kind'))
      same differs bits bits' plain plain' (plain_by between.left plain) (plain_by between.right plain') (turn_of between.left (width kind)) (turn_of between.right (width kind')) (t.place expr) (t.place expr)
      (free_beside r (r + 1) (width kind') plain' slots own.sides own.one_free) own.other_free left right
      (pair_at t flow setting running levels around made'' point' same differs same (i.IfSame (stands_in between.left r (r + 2)) (stands_in between.right (r + 1) (r + 3)))
      (i.IfDifferent (stands_in between.left r (r + 2)) (stands_in between.right (r + 1) (r + 3))) (t.place expr) end')
      (λ memory word word' suits suits'. means plain plain' plainly plainly' turns turns' memory word word' suits suits') if_same if_other))

  pub equal_known : (levels : ℕ) → IsAt t flow setting running levels → (one other : t.Expr) → KnownFormIs t flow setting running levels (Binary Equal one other)
  equal_known levels at one other around good made from expr spare off on is spelled now later tasks slots base ready fails holds =
      unfolds t flow setting running around now later tasks slots from expr (Binary Equal one other) is
      (equality_by levels at around good made from Equal expr one other spare on off 1 0 (equal_sides (value_kind t one) (value_kind t other)) spelled now later tasks slots base ready holds fails)

  pub unequal_known : (levels : ℕ) → IsAt t flow setting running levels → (one other : t.Expr) → KnownFormIs t flow setting running levels (Binary NotEqual one other)
  unequal_known levels at one other around good made from expr spare off on is spelled now later tasks slots base ready fails holds =
      unfolds t flow setting running around now later tasks slots from expr (Binary NotEqual one other) is
      (equality_by levels at around good made from NotEqual expr one other spare off on 0 1 (unequal_sides (value_kind t one) (value_kind t other)) spelled now later tasks slots base ready fails holds)
