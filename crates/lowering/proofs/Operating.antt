-- What the operations of the graph make of two values behind their conversions is what the machine makes of them.
use Rattle.std.proofs.Common.{◌≡◌, ◌<◌, ◌⊎◌, ℕ, zero, suc, ◌+◌, ◌^◌, List, [], ◌∷◌, Bool, true, false, refl, sym, ap, ◌∙◌, inl, inr, arith, Option, None, Some, option_map, subst, ◌&&◌, nat_eq, if◌then◌else◌}
use Rattle.std.specs.Prelude.{ℤ, pos, neg_ℤ, ◌*◌, negsuc, ◌+ℤ◌, ◌*ℤ◌}
use Rattle.std.specs.Int.{w64, cast_signed}
use Rattle.std.proofs.Math.Nat.{mod-eq_of_lt}
use Rattle.std.proofs.lemmas.Bool.{false≢true, eqb-true, and_parts}
use Rattle.std.proofs.lemmas.Int.{ints}
use Rattle.std.proofs.lemmas.Option.{none-some, same_Some}
use lib.IntN.{*ℤ-negsuc}
use borrow.Author.Differences.{up, down}
use Rattle.cbase.specs.declared.place.Place.{Place}
use Rattle.cbase.specs.declared.tree.operators.BinaryOp.{BinaryOp}
use Rattle.cbase.specs.declared.tree.operators.BinaryOp.TheVariants.{Mul, Div, Rem, Add, Sub, Left, Right, Less, Greater, LessEqual, GreaterEqual, Equal, NotEqual, And, Xor, Or, Both, Either, Comma}
use Rattle.arithmetic.specs.declared.op.Op.{Op}
use Rattle.arithmetic.specs.declared.op.Op.TheVariants as op
use Rattle.arithmetic.specs.declared.size.Size.TheVariants.{Eight}
use Rattle.arithmetic.specs.Computing.{computed}
use Rattle.arithmetic.specs.Conversion.{converted, truth}
use Rattle.arithmetic.specs.Value.{modulus, value, residue}
use Rattle.arithmetic.proofs.Inverse.{value-multiples}
use Rattle.arithmetic.proofs.Residues.{residue-is, value-is, residue-same, multiples-product}
use Rattle.typing.specs.declared.ctypes.kind.IntegerType.{IntegerType}
use Rattle.typing.specs.ctypes.Integers.{promoted, common}
use Rattle.typing.specs.values.Values.{as_type}
use Rattle.bytes_core.specs.declared.block.Block.{Block}
use Rattle.bytes_core.specs.declared.word.Word.{Word}
use Rattle.bytes_core.specs.declared.word.Word.TheVariants.{Plain, To}
use Rattle.bytes_core.specs.Value.{address_number, wrapped, moved}
use Rattle.c_machine.specs.declared.kind.Kind.{Kind}
use Rattle.c_machine.specs.declared.kind.Kind.TheVariants.{Integer, Pointer}
use Rattle.c_machine.specs.Text.{Text}
use Rattle.c_machine.specs.Words.{is_same, are_alike, operated}
use Rattle.flow.specs.declared.flow_graph.Flow.{Flow}
use Rattle.flow.specs.declared.instruction.Instr.{Instr}
use Rattle.flow.specs.declared.instruction.Instr.TheVariants as i
use Rattle.flow.specs.Machine.{size_after}
use Rattle.simulation.specs.Edges.{One}
use Rattle.simulation.specs.Slots.{Suits}
use Rattle.simulation.specs.Turning.{Combines, Computed, ComputedAround, Moved, MovedAround}
use Rattle.lowering.specs.Kinds.{width, as_count, as_operand, Sides, sides, between_integers, tested, made_by}
use Rattle.lowering.specs.declared.conversion.Conversion.{Conversion}
use Rattle.lowering.specs.declared.conversion.Conversion.TheVariants.{Nothing, Resized, Unknown as NoConversion}
use Rattle.lowering.specs.Moves.{Emits, Fails, combines}
use Rattle.lowering.proofs.ComputedFits.{power_some, computed_fits, moved_suits}
use Rattle.lowering.proofs.KindFacts.{IsAsPlain}

-- an integer keeps its bits in its own size
pub same_size : (size : ℕ) (signed : Bool) (number : ℕ) → number < 256 ^ size → converted size signed size number ≡ number
same_size size signed number small =
    let is = value-is size signed number in
    let whole = residue-is (modulus size) (value size signed number) is.0 number (power_some size) is.1 in
    whole ∙ mod-eq_of_lt small

-- what a conversion in the graph makes of a word, and of how many bytes that is
abbrev pub turn_of : Conversion → ℕ → List Block → Word → Word
turn_of (Resized bytes signed) size = λ memory word. Plain (converted size signed bytes (address_number memory word))
turn_of other size = λ memory word. word

abbrev pub size_by : Conversion → ℕ → ℕ
size_by (Resized bytes signed) size = bytes
size_by other size = size

abbrev pub plain_by : Conversion → Bool → Bool
plain_by (Resized bytes signed) plain = true
plain_by other plain = plain

kept_number : (of to : IntegerType) → is_same of to ≡ true → (memory : List Block) (word : Word) → Suits of.bytes true word →
    address_number memory word ≡ converted of.bytes of.signed to.bytes (address_number memory word)
kept_number of to same memory (Plain number) suits =
    let alike : of.bytes ≡ to.bytes = eqb-true of.bytes to.bytes (and_parts (nat_eq of.bytes to.bytes) (are_alike of.signed to.signed && are_alike of.truth to.truth) same).0 in
    subst (λ (bytes : ℕ). number ≡ converted of.bytes of.signed bytes number) alike (sym (same_size of.bytes of.signed number suits.0))
kept_number of to same memory (To block offset) suits = absurd suits.2

turned_by : (of to : IntegerType) (same tests : Bool) (change : Conversion) → is_same of to ≡ same → to.truth ≡ false → tests ≡ false → (memory : List Block) (word : Word) → Suits of.bytes true word →
    address_number memory (turn_of (if same then Nothing else (if tests then change else Resized to.bytes of.signed)) of.bytes memory word) ≡ as_type of to (address_number memory word)
turned_by of to true tests change same whole not_tests memory word suits =
    kept_number of to same memory word suits
    ∙ sym (ap (λ (b : Bool). if b then truth of.bytes (address_number memory word) else converted of.bytes of.signed to.bytes (address_number memory word)) whole)
turned_by of to false true change same whole not_tests memory word suits = absurd (false≢true (sym not_tests))
turned_by of to false false change same whole not_tests memory word suits =
    sym (ap (λ (b : Bool). if b then truth of.bytes (address_number memory word) else converted of.bytes of.signed to.bytes (address_number memory word)) whole)

turned_as : (of to : IntegerType) → to.truth ≡ false → (plain : Bool) → plain ≡ true → (memory : List Block) (word : Word) → Suits of.bytes plain word →
    address_number memory (turn_of (between_integers of to) of.bytes memory word) ≡ as_type of to (address_number memory word)
turned_as of to whole plain is memory word suits =
    turned_by of to (is_same of to) to.truth (tested of.bytes to) refl whole whole memory word (subst (λ (b : Bool). Suits of.bytes b word) is suits)

-- whether a conversion is none or an edge
abbrev pub is_turn : Conversion → Bool
is_turn Nothing = true
is_turn (Resized bytes signed) = true
is_turn change = false

-- an integer as an operator takes it
operand_by : (of to : IntegerType) (tests : Bool) → to.truth ≡ tests → is_turn (if tests then NoConversion else between_integers of to) ≡ true → (plain : Bool) → plain ≡ true → (memory : List Block) (word : Word) →
    Suits of.bytes plain word → address_number memory (turn_of (if tests then NoConversion else between_integers of to) of.bytes memory word) ≡ as_type of to (address_number memory word)
operand_by of to true whole turns plain is memory word suits = absurd (false≢true turns)
operand_by of to false whole turns plain is memory word suits = turned_as of to whole plain is memory word suits

pub operand_as : (of to : IntegerType) → is_turn (as_operand of to) ≡ true → (plain : Bool) → plain ≡ true → (memory : List Block) (word : Word) → Suits of.bytes plain word →
    address_number memory (turn_of (as_operand of to) of.bytes memory word) ≡ as_type of to (address_number memory word)
operand_as of to turns plain is memory word suits = operand_by of to to.truth refl turns plain is memory word suits

-- it is no `_Bool`, and as wide as its type
operand_no : (of to : IntegerType) (tests : Bool) → to.truth ≡ tests → is_turn (if tests then NoConversion else between_integers of to) ≡ true → to.truth ≡ false
operand_no of to true is turns = absurd (false≢true turns)
operand_no of to false is turns = is

pub operand_whole : (of to : IntegerType) → is_turn (as_operand of to) ≡ true → to.truth ≡ false
operand_whole of to turns = operand_no of to to.truth refl turns

operand_wide : (of to : IntegerType) (tests same : Bool) (change : Conversion) → is_same of to ≡ same → is_turn (if tests then NoConversion else (if same then Nothing else (if tests then change else Resized to.bytes of.signed))) ≡ true →
    size_by (if tests then NoConversion else (if same then Nothing else (if tests then change else Resized to.bytes of.signed))) of.bytes ≡ to.bytes
operand_wide of to true same change is turns = absurd (false≢true turns)
operand_wide of to false true change is turns = eqb-true of.bytes to.bytes (and_parts (nat_eq of.bytes to.bytes) (are_alike of.signed to.signed && are_alike of.truth to.truth) is).0
operand_wide of to false false change is turns = refl

pub operand_size : (of to : IntegerType) → is_turn (as_operand of to) ≡ true → size_by (as_operand of to) of.bytes ≡ to.bytes
operand_size of to turns = operand_wide of to to.truth (is_same of to) (tested of.bytes to) refl turns

-- an address is moved by whole numbers that multiples of 2^64 make one to the same place
wrapped_residue : (z : ℤ) → wrapped z ≡ residue (2 ^ 64) z
wrapped_residue (pos number) = refl
wrapped_residue (negsuc before) = refl

wrapped_same : (a b : ℤ) (j k : ℕ) → a +ℤ pos (j * 2 ^ 64) ≡ b +ℤ pos (k * 2 ^ 64) → wrapped a ≡ wrapped b
wrapped_same a b j k e = wrapped_residue a ∙ (residue-same (2 ^ 64) a b j k (omega arith) e ∙ sym (wrapped_residue b))

moved_same : (word : Word) (a b : ℤ) (j k : ℕ) → a +ℤ pos (j * 2 ^ 64) ≡ b +ℤ pos (k * 2 ^ 64) → moved word a ≡ moved word b
moved_same (Plain number) a b j k e = ap Plain (wrapped_same (pos number +ℤ a) (pos number +ℤ b) j k (omega (arith, ints)))
moved_same (To block offset) a b j k e = ap (λ (n : ℕ). To block (cast_signed w64 n)) (wrapped_same (offset +ℤ a) (offset +ℤ b) j k (omega (arith, ints)))

-- a number of 8 bytes beside a pointer is the value of the integer, but for a multiple of 2^64
counted : (of : IntegerType) (eight : Bool) → nat_eq of.bytes 8 ≡ eight → (memory : List Block) (word : Word) →
    (j : ℕ) × (k : ℕ) × (value 8 true (address_number memory (turn_of (if eight then Nothing else Resized 8 of.signed) of.bytes memory word)) +ℤ pos (j * 2 ^ 64) ≡ value of.bytes of.signed (address_number memory word) +ℤ pos (k * 2 ^ 64))
counted of true is memory word =
    let number : ℕ = address_number memory word in
    let one = value-is 8 true number in
    let other = value-is 8 of.signed number in
    (one.0, other.0, one.1 ∙ (sym other.1 ∙ ap (λ (bytes : ℕ). value bytes of.signed number +ℤ pos (other.0 * 2 ^ 64)) (sym (eqb-true of.bytes 8 is))))
counted of false is memory word = value-multiples Eight true (value of.bytes of.signed (address_number memory word))

moved_times : (at : Word) (of : IntegerType) (memory : List Block) (word : Word) (bytes : ℕ) →
    moved at (value 8 true (address_number memory (turn_of (as_count of) of.bytes memory word)) *ℤ pos bytes) ≡ moved at (value of.bytes of.signed (address_number memory word) *ℤ pos bytes)
moved_times at of memory word bytes =
    let same = counted of (nat_eq of.bytes 8) refl memory word in
    let one : ℤ = value 8 true (address_number memory (turn_of (as_count of) of.bytes memory word)) in
    let other : ℤ = value of.bytes of.signed (address_number memory word) in
    moved_same at (one *ℤ pos bytes) (other *ℤ pos bytes) (same.0 * up (pos bytes) + same.1 * down (pos bytes)) (same.1 * up (pos bytes) + same.0 * down (pos bytes))
    (multiples-product (2 ^ 64) one other (pos bytes) same.0 same.1 same.2)

times_less : (z : ℤ) (bytes : ℕ) → z *ℤ neg_ℤ (pos bytes) ≡ neg_ℤ (z *ℤ pos bytes)
times_less z zero = omega (arith, ints)
times_less z (suc bytes) = *ℤ-negsuc z bytes

moved_back : (at : Word) (of : IntegerType) (memory : List Block) (word : Word) (bytes : ℕ) →
    moved at (value 8 true (address_number memory (turn_of (as_count of) of.bytes memory word)) *ℤ neg_ℤ (pos bytes)) ≡ moved at (neg_ℤ (value of.bytes of.signed (address_number memory word) *ℤ pos bytes))
moved_back at of memory word bytes =
    let same = counted of (nat_eq of.bytes 8) refl memory word in
    let one : ℤ = value 8 true (address_number memory (turn_of (as_count of) of.bytes memory word)) in
    let other : ℤ = value of.bytes of.signed (address_number memory word) in
    let scale : ℤ = neg_ℤ (pos bytes) in
    moved_same at (one *ℤ scale) (other *ℤ scale) (same.0 * up scale + same.1 * down scale) (same.1 * up scale + same.0 * down scale) (multiples-product (2 ^ 64) one other scale same.0 same.1 same.2)
    ∙ ap (λ (z : ℤ). moved at z) (times_less other bytes)

-- One instruction that computes of two registers, behind the conversions of both sides, what an operator makes of two values.
pub record IsCombined (t : Text) (what : BinaryOp) (kind kind' : Kind) (between : Sides) : Type 0 where
  pub instr : ℕ → ℕ → ℕ → Instr
  pub moves : (one other into : ℕ) (place : Place) → combines {E = t.Expr} {S = t.Stmt} {I = t.Init} what kind kind' one other into place ≡ Emits (instr one other into) place ∷ []
  pub combined : List Block → Word → Word → Option Word
  pub size : ℕ
  pub plain : Bool
  pub does : (flow : Flow) (from one other into to : ℕ) (place : Place) → One flow from (instr one other into) to place → Combines flow from one other combined to into size plain
  pub wide : size ≡ width (made_by what kind kind')
  pub plainly : IsAsPlain (made_by what kind kind') plain
  pub gives : (memory : List Block) (first second word : Word) → combined memory first second ≡ Some word → Suits size plain word
  pub same : (left right : Bool) → IsAsPlain kind left → IsAsPlain kind' right → is_turn between.left ≡ true → is_turn between.right ≡ true → (memory : List Block) (first second : Word) →
      Suits (width kind) left first → Suits (width kind') right second →
      operated memory what kind kind' first second ≡ combined memory (turn_of between.left (width kind) memory first) (turn_of between.right (width kind') memory second)

-- a number that is computed
plain_fits : (size : ℕ) (found : Option ℕ) (word : Word) → ((result : ℕ) → found ≡ Some result → result < 256 ^ size) → option_map Plain found ≡ Some word → Suits size true word
plain_fits size None word fits is = absurd (none-some word is)
plain_fits size (Some result) word fits is = subst (λ (w : Word). Suits size true w) (same_Some (Plain result) word is) (fits result refl, tt, tt)

-- of two integers, the left one first or the right one
straight : (t : Text) (what : BinaryOp) (does : Op) (left right left' right' of : IntegerType) →
    ((one other into : ℕ) (place : Place) → combines {E = t.Expr} {S = t.Stmt} {I = t.Init} what (Integer left) (Integer right) one other into place ≡ Emits (i.Compute into does one other of.bytes of.signed) place ∷ []) →
    size_after does of.bytes ≡ width (made_by what (Integer left) (Integer right)) →
    ((memory : List Block) (first second : Word) → operated memory what (Integer left) (Integer right) first second
    ≡ option_map Plain (computed does of.bytes of.signed (as_type left left' (address_number memory first)) (as_type right right' (address_number memory second)))) →
    IsCombined t what (Integer left) (Integer right) (record { left = as_operand left left'; right = as_operand right right' })
straight t what does left right left' right' of moves wide means = record {
  instr = λ one other into. i.Compute into does one other of.bytes of.signed;
  moves = moves;
  combined = λ memory first second. option_map Plain (computed does of.bytes of.signed (address_number memory first) (address_number memory second));
  size = size_after does of.bytes;
  plain = true;
  does = λ flow from one other into to place edge. Computed does of.bytes of.signed to into place edge;
  wide = wide;
  plainly = λ number. refl;
  gives = λ memory first second word is. plain_fits (size_after does of.bytes) (computed does of.bytes of.signed (address_number memory first) (address_number memory second)) word
      (computed_fits does of.bytes of.signed (address_number memory first) (address_number memory second)) is;
  same = λ plain plain' is is' turns turns' memory first second suits suits'. means memory first second
      ∙ (ap (λ (n : ℕ). option_map Plain (computed does of.bytes of.signed n (as_type right right' (address_number memory second)))) (sym (operand_as left left' turns plain (is refl) memory first suits))
      ∙ ap (λ (n : ℕ). option_map Plain (computed does of.bytes of.signed (address_number memory (turn_of (as_operand left left') left.bytes memory first)) n))
      (sym (operand_as right right' turns' plain' (is' refl) memory second suits')));
}

crossed : (t : Text) (what : BinaryOp) (does : Op) (left right left' right' of : IntegerType) →
    ((one other into : ℕ) (place : Place) → combines {E = t.Expr} {S = t.Stmt} {I = t.Init} what (Integer left) (Integer right) one other into place ≡ Emits (i.Compute into does other one of.bytes of.signed) place ∷ []) →
    size_after does of.bytes ≡ width (made_by what (Integer left) (Integer right)) →
    ((memory : List Block) (first second : Word) → operated memory what (Integer left) (Integer right) first second
    ≡ option_map Plain (computed does of.bytes of.signed (as_type right right' (address_number memory second)) (as_type left left' (address_number memory first)))) →
    IsCombined t what (Integer left) (Integer right) (record { left = as_operand left left'; right = as_operand right right' })
crossed t what does left right left' right' of moves wide means = record {
  instr = λ one other into. i.Compute into does other one of.bytes of.signed;
  moves = moves;
  combined = λ memory first second. option_map Plain (computed does of.bytes of.signed (address_number memory second) (address_number memory first));
  size = size_after does of.bytes;
  plain = true;
  does = λ flow from one other into to place edge. ComputedAround does of.bytes of.signed to into place edge;
  wide = wide;
  plainly = λ number. refl;
  gives = λ memory first second word is. plain_fits (size_after does of.bytes) (computed does of.bytes of.signed (address_number memory second) (address_number memory first)) word
      (computed_fits does of.bytes of.signed (address_number memory second) (address_number memory first)) is;
  same = λ plain plain' is is' turns turns' memory first second suits suits'. means memory first second
      ∙ (ap (λ (n : ℕ). option_map Plain (computed does of.bytes of.signed (as_type right right' (address_number memory second)) n)) (sym (operand_as left left' turns plain (is refl) memory first suits))
      ∙ ap (λ (n : ℕ). option_map Plain (computed does of.bytes of.signed n (address_number memory (turn_of (as_operand left left') left.bytes memory first))))
      (sym (operand_as right right' turns' plain' (is' refl) memory second suits')));
}

-- of a pointer and an integer
pointer_plus : (t : Text) (bytes : ℕ) (right : IntegerType) → IsCombined t Add (Pointer bytes) (Integer right) (record { left = Nothing; right = as_count right })
pointer_plus t bytes right = record {
  instr = λ one other into. i.ShiftBy into one other (pos bytes);
  moves = λ one other into place. refl;
  combined = λ memory first second. Some (moved first (value 8 true (address_number memory second) *ℤ pos bytes));
  size = 8;
  plain = false;
  does = λ flow from one other into to place edge. Moved (pos bytes) to into place edge;
  wide = refl;
  plainly = λ number. absurd (false≢true (sym number));
  gives = λ memory first second word is. subst (λ (w : Word). Suits 8 false w) (same_Some (moved first (value 8 true (address_number memory second) *ℤ pos bytes)) word is) (moved_suits first (value 8 true (address_number memory second) *ℤ pos bytes));
  same = λ plain plain' is is' turns turns' memory first second suits suits'. ap Some (sym (moved_times first right memory second bytes));
}

plus_pointer : (t : Text) (left : IntegerType) (bytes : ℕ) → IsCombined t Add (Integer left) (Pointer bytes) (record { left = as_count left; right = Nothing })
plus_pointer t left bytes = record {
  instr = λ one other into. i.ShiftBy into other one (pos bytes);
  moves = λ one other into place. refl;
  combined = λ memory first second. Some (moved second (value 8 true (address_number memory first) *ℤ pos bytes));
  size = 8;
  plain = false;
  does = λ flow from one other into to place edge. MovedAround (pos bytes) to into place edge;
  wide = refl;
  plainly = λ number. absurd (false≢true (sym number));
  gives = λ memory first second word is. subst (λ (w : Word). Suits 8 false w) (same_Some (moved second (value 8 true (address_number memory first) *ℤ pos bytes)) word is) (moved_suits second (value 8 true (address_number memory first) *ℤ pos bytes));
  same = λ plain plain' is is' turns turns' memory first second suits suits'. ap Some (sym (moved_times second left memory first bytes));
}

pointer_minus : (t : Text) (bytes : ℕ) (right : IntegerType) → IsCombined t Sub (Pointer bytes) (Integer right) (record { left = Nothing; right = as_count right })
pointer_minus t bytes right = record {
  instr = λ one other into. i.ShiftBy into one other (neg_ℤ (pos bytes));
  moves = λ one other into place. refl;
  combined = λ memory first second. Some (moved first (value 8 true (address_number memory second) *ℤ neg_ℤ (pos bytes)));
  size = 8;
  plain = false;
  does = λ flow from one other into to place edge. Moved (neg_ℤ (pos bytes)) to into place edge;
  wide = refl;
  plainly = λ number. absurd (false≢true (sym number));
  gives = λ memory first second word is. subst (λ (w : Word). Suits 8 false w) (same_Some (moved first (value 8 true (address_number memory second) *ℤ neg_ℤ (pos bytes))) word is) (moved_suits first (value 8 true (address_number memory second) *ℤ neg_ℤ (pos bytes)));
  same = λ plain plain' is is' turns turns' memory first second suits suits'. ap Some (sym (moved_back first right memory second bytes));
}

-- whether an operator computes what is put into a register: it does not test, and it is no comma
abbrev pub is_computing : BinaryOp → Bool
is_computing Equal = false
is_computing NotEqual = false
is_computing Both = false
is_computing Either = false
is_computing Comma = false
is_computing what = true

of_integers : (t : Text) (what : BinaryOp) (left right : IntegerType) → is_computing what ≡ true → IsCombined t what (Integer left) (Integer right) (sides what (Integer left) (Integer right))
of_integers t Mul left right computing = straight t Mul op.Mul left right (common left right) (common left right) (common left right) (λ one other into place. refl) refl (λ memory first second. refl)
of_integers t Div left right computing = straight t Div op.Div left right (common left right) (common left right) (common left right) (λ one other into place. refl) refl (λ memory first second. refl)
of_integers t Rem left right computing = straight t Rem op.Rem left right (common left right) (common left right) (common left right) (λ one other into place. refl) refl (λ memory first second. refl)
of_integers t Add left right computing = straight t Add op.Add left right (common left right) (common left right) (common left right) (λ one other into place. refl) refl (λ memory first second. refl)
of_integers t Sub left right computing = straight t Sub op.Sub left right (common left right) (common left right) (common left right) (λ one other into place. refl) refl (λ memory first second. refl)
of_integers t Left left right computing = straight t Left op.Left left right (promoted left) (promoted right) (promoted left) (λ one other into place. refl) refl (λ memory first second. refl)
of_integers t Right left right computing = straight t Right op.Right left right (promoted left) (promoted right) (promoted left) (λ one other into place. refl) refl (λ memory first second. refl)
of_integers t Less left right computing = straight t Less op.Less left right (common left right) (common left right) (common left right) (λ one other into place. refl) refl (λ memory first second. refl)
of_integers t LessEqual left right computing = straight t LessEqual op.LessEqual left right (common left right) (common left right) (common left right) (λ one other into place. refl) refl (λ memory first second. refl)
of_integers t Greater left right computing = crossed t Greater op.Less left right (common right left) (common right left) (common right left) (λ one other into place. refl) refl (λ memory first second. refl)
of_integers t GreaterEqual left right computing = crossed t GreaterEqual op.LessEqual left right (common right left) (common right left) (common right left) (λ one other into place. refl) refl (λ memory first second. refl)
of_integers t And left right computing = straight t And op.And left right (common left right) (common left right) (common left right) (λ one other into place. refl) refl (λ memory first second. refl)
of_integers t Xor left right computing = straight t Xor op.Xor left right (common left right) (common left right) (common left right) (λ one other into place. refl) refl (λ memory first second. refl)
of_integers t Or left right computing = straight t Or op.Or left right (common left right) (common left right) (common left right) (λ one other into place. refl) refl (λ memory first second. refl)
of_integers t Equal left right computing = absurd (false≢true computing)
of_integers t NotEqual left right computing = absurd (false≢true computing)
of_integers t Both left right computing = absurd (false≢true computing)
of_integers t Either left right computing = absurd (false≢true computing)
of_integers t Comma left right computing = absurd (false≢true computing)

-- an operator on two values has such an instruction, or there is no graph
abbrev pub NoneCombined : Text → BinaryOp → Kind → Kind → Type 0
NoneCombined t what kind kind' = (one other into : ℕ) (place : Place) → combines {E = t.Expr} {S = t.Stmt} {I = t.Init} what kind kind' one other into place ≡ Fails ∷ []

pub combining : (t : Text) (what : BinaryOp) (kind kind' : Kind) → is_computing what ≡ true → IsCombined t what kind kind' (sides what kind kind') ⊎ NoneCombined t what kind kind'
combining t what (Integer left) (Integer right) computing = inl (of_integers t what left right computing)
combining t Add (Pointer bytes) (Integer right) computing = inl (pointer_plus t bytes right)
combining t Add (Integer left) (Pointer bytes) computing = inl (plus_pointer t left bytes)
combining t Sub (Pointer bytes) (Integer right) computing = inl (pointer_minus t bytes right)
combining t what kind kind' computing = inr (λ one other into place. refl)
