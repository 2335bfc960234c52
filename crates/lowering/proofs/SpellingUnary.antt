-- What is placed for unary `+`, `-` and `~` is what the rest of a run wants.
use Rattle.std.proofs.Common.{◌≡◌, ◌≢◌, ◌<◌, ℕ, zero, suc, ◌+◌, ◌-◌, ◌*◌, ◌/◌, ◌^◌, ◌%◌, List, [], ◌∷◌, ◌++◌, Bool, true, false, ◌&&◌, nat_eq, refl, sym, ap, ◌∙◌, arith, Some, option_map, subst}
use Rattle.std.specs.Prelude.{ℤ, pos, neg_ℤ, ◌+ℤ◌, ◌-ℤ◌}
use Rattle.std.proofs.Math.Nat.{mod-lt, mod-eq_of_lt, div-add-mod'}
use Rattle.std.proofs.lemmas.Bool.{false≢true}
use Rattle.std.proofs.lemmas.Int.{ints}
use Rattle.cbase.specs.declared.tree.operators.UnaryOp.{UnaryOp}
use Rattle.cbase.specs.declared.tree.operators.UnaryOp.TheVariants.{Plus, Minus, Flip}
use Rattle.arithmetic.specs.declared.op.Op.TheVariants as op
use Rattle.arithmetic.specs.Computing.{computed, negated, complemented}
use Rattle.arithmetic.specs.Value.{modulus, value, bits}
use Rattle.arithmetic.proofs.Residues.{value-is, residue-same}
use Rattle.typing.specs.declared.ctypes.kind.IntegerType.{IntegerType}
use Rattle.typing.specs.ctypes.Integers.{promoted}
use Rattle.typing.specs.values.Values.{as_type}
use Rattle.bytes_core.specs.declared.block.Block.{Block}
use Rattle.bytes_core.specs.declared.word.Word.{Word}
use Rattle.bytes_core.specs.declared.word.Word.TheVariants.{Plain, To}
use Rattle.bytes_core.specs.Value.{address_number}
use Rattle.c_machine.specs.declared.kind.Kind.{Kind}
use Rattle.c_machine.specs.declared.kind.Kind.TheVariants.{Integer, Pointer, Array, Struct, Void}
use Rattle.c_machine.specs.declared.task.Task.TheVariants.{ValueOf, Apply}
use Rattle.c_machine.specs.Text.{Unary, Text}
use Rattle.c_machine.specs.Expressions.{value_kind}
use Rattle.c_machine.specs.State.{TaskIn}
use Rattle.c_machine.specs.Words.{applied}
use Rattle.flow.specs.declared.flow_graph.Flow.{Flow}
use Rattle.flow.specs.declared.flow_graph.Standing.{Standing as Stood}
use Rattle.flow.specs.declared.instruction.Instr.TheVariants as i
use Rattle.simulation.specs.Running.{Setting, Running}
use Rattle.simulation.specs.Slots.{Slot, InRegister, Suits, is_free}
use Rattle.simulation.specs.Turning.{Stays, Turned, ComputedAround, CalculatedWith}
use Rattle.simulation.specs.Lowered.{Stop, AppliesBy, Applies}
use Rattle.lowering.specs.Kinds.{width, is_void, fits, as_operand}
use Rattle.lowering.specs.declared.conversion.Conversion.{Conversion}
use Rattle.lowering.specs.declared.conversion.Conversion.TheVariants.{Nothing, Resized, Tested, Dropped, Unknown as NoConversion}
use Rattle.lowering.specs.LetGo.{AsValue, left_of, stays, in_spare_still}
use Rattle.lowering.specs.Moves.{Move, Emits, Evaluates, Fails, Line, taking, resizes, stands_in}
use Rattle.lowering.specs.Table.{plus_line, taken_from, unary_line, kind_by_unary}
use Rattle.lowering.specs.Placing.{Made, Around, with_point, with_registers, stands_at, after, along_line, go}
use Rattle.lowering.proofs.ComputedFits.{power_some}
use Rattle.lowering.proofs.KindFacts.{IsAsPlain, fitted}
use Rattle.lowering.proofs.LeftOf.{own_value}
use Rattle.lowering.proofs.Modes.{IsAround, Rest, Ready, IsAt}
use Rattle.lowering.proofs.Operating.{turn_of, size_by, plain_by, is_turn, operand_as, operand_size}
use Rattle.lowering.proofs.Placings.{IsSpelled, spelled_registers}
use Rattle.lowering.proofs.Ready.{free_beside, IsTarget, own_target, same_target, part_ready, own_free, mid, head_spelled, tail_spelled, one_at, never}
use Rattle.lowering.proofs.Spelling.{Wanted, unfolds, made_fits, not_void, FormIs}
use Rattle.lowering.proofs.SpellingOperators.{same_map, in_place, AreNew, resizes_new, begun, edge_then, turns_then}

-- `-x` is 0 - x, and `~x` is all ones less x
negated_as : (size : ℕ) (signed : Bool) (number : ℕ) → Some (negated size signed number) ≡ computed op.Sub size signed 0 number
negated_as size signed number =
    let naught = value-is size signed 0 in
    let v : ℤ = value size signed number in
    let z : ℤ = value size signed 0 in
    let k : ℕ = naught.0 * modulus size in
    let e : z +ℤ pos k ≡ pos 0 = naught.1 in
    ap Some (sym (residue-same (modulus size) (z -ℤ v) (neg_ℤ v) naught.0 0 (power_some size) (let h : (z -ℤ v) +ℤ pos k ≡ neg_ℤ v +ℤ pos (0 * modulus size) = omega (arith, ints) in h)))

times_sum : (one other m : ℕ) → (one + other) * m ≡ one * m + other * m
times_sum zero other m = omega arith
times_sum (suc one) other m = let h = times_sum one other m in omega arith

complemented_as : (size : ℕ) (signed : Bool) (number : ℕ) → Some (complemented size number) ≡ computed op.Sub size signed (256 ^ size - 1) number
complemented_as size signed number =
    let m : ℕ = 256 ^ size in
    let some : 0 < m = power_some size in
    let ones = value-is size signed (m - 1) in
    let one = value-is size signed number in
    let split = div-add-mod' number m in
    let low : ℕ = number % m in
    let small : low < m = mod-lt number some in
    let z : ℤ = value size signed (m - 1) in
    let v : ℤ = value size signed number in
    let result : ℕ = m - 1 - low in
    let k : ℕ = ones.0 * m in
    let j : ℕ = one.0 * m in
    let q : ℕ = number / m * m in
    let e : z +ℤ pos k ≡ pos (m - 1) = ones.1 in
    let e' : v +ℤ pos j ≡ pos number = one.1 in
    let joined : (z -ℤ v) +ℤ pos (k + q) ≡ pos result +ℤ pos j = omega (arith, ints) in
    let times : (ones.0 + number / m) * m ≡ k + q = times_sum ones.0 (number / m) m in
    let same = residue-same m (z -ℤ v) (pos result) (ones.0 + number / m) one.0 some (ap (λ (n : ℕ). (z -ℤ v) +ℤ pos n) times ∙ joined) in
    ap Some (sym (same ∙ mod-eq_of_lt (let h : result < m = omega arith in h)))

module _ (t : Text) (flow : Flow) (setting : Setting) (running : Running) where
  abbrev Goes_on : Around → List (Stop t) → List (Stop t) → List (TaskIn t) → List Slot → ℕ → Type 0
  Goes_on around now later tasks slots point = Rest t flow setting running around now later tasks slots point

  abbrev Unapplied : Around → List (Stop t) → List (Stop t) → List (TaskIn t) → List Slot → UnaryOp → ℕ → Bool → ℕ → Kind → Type 0
  Unapplied around now later tasks slots what register plain point kind = Goes_on around now later (Apply what kind ∷ tasks) (InRegister register (width kind) plain ∷ slots) point

  -- a number less the value
  taken_by : (levels : ℕ) → IsAt t flow setting running levels → (around : Around) → IsAround setting around → (made : Made) (from : ℕ) (expr arg : t.Expr) (what : UnaryOp) (of : IntegerType) (spare into to bits : ℕ) →
      value_kind t arg ≡ Integer of →
      ((memory : List Block) (word : Word) → applied memory what (Integer of) word
      ≡ option_map Plain (computed op.Sub (promoted of).bytes (promoted of).signed bits (as_type of (promoted of) (address_number memory word)))) →
      IsSpelled flow made from (along_line t around (go levels t around) made from (taken_from t expr arg spare into made.registers bits (as_operand of (promoted of)) (promoted of)) to) →
      (now later : List (Stop t)) (tasks : List (TaskIn t)) (slots : List Slot) (base : ℕ) → Ready t flow setting running around now later tasks base made.registers slots spare (left_of t (AsValue false) arg) →
      is_free into slots ≡ true → Goes_on around (later ++ now) [] tasks (InRegister into (promoted of).bytes true ∷ slots) to →
      Goes_on around now later (ValueOf arg ∷ Apply what (value_kind t arg) ∷ tasks) slots from
  taken_by levels at around good made from expr arg what of spare into to bits is means spelled now later tasks slots base ready free cont =
      let r : ℕ = made.registers in
      let big : IntegerType = promoted of in
      let change : Conversion = as_operand of big in
      let place = t.place expr in
      let made1 : Made = with_registers 3 made in
      let first_move : Move t = Evaluates arg spare r in
      let standing : Stood = after t first_move (stands_at made1 from) in
      let last : List (Move t) = Emits (i.Compute into op.Sub (r + 2) (stands_in change r (r + 1)) big.bytes big.signed) place ∷ [] in
      let number : List (Move t) = Emits (i.Number (r + 2) bits big.bytes) place ∷ last in
      let number_new : AreNew t flow setting running around number to = λ standing'. refl in
      let moves : List (Move t) = resizes change r (r + 1) place ++ number in
      let new = resizes_new t flow setting running around change r (r + 1) place number to number_new in
      let spelled1 = begun t flow setting running levels around made1 from first_move standing moves to new (spelled_registers 3 spelled) in
      let first = head_spelled t flow setting running levels around made1 from standing first_move moves to spelled1 in
      let rest = tail_spelled t flow setting running levels around made1 from standing first_move moves to spelled1 in
      let free_r = own_free r ready (omega arith) in
      let free_s = own_free (r + 1) ready (omega arith) in
      let free_n = own_free (r + 2) ready (omega arith) in
      let room = ready.room in
      let less = own_value t arg spare (left_of t (AsValue false) arg) r room (omega arith) in
      at.value around good (with_point standing made1) from arg spare r made.points first now later (Apply what (value_kind t arg) ∷ tasks) slots base
      (part_ready (r + 3) (left_of t (AsValue (nat_eq r spare)) arg) ready (omega arith) less) (own_target (r + 3) r ready.own (omega arith) (omega arith) free_r)
      (λ plain plainly. subst (λ (kind : Kind). Unapplied around (later ++ now) [] tasks slots what r plain made.points kind) (sym is)
      (turns_then t flow setting running levels around (mid t flow setting running levels around made1 from standing first_move) made.points standing change r of.bytes (r + 1) plain place slots number to number_new free_s free_r rest
      (λ made' point standing' more turned turns spelled'.
      edge_then t flow setting running levels around made' point standing' (i.Number (r + 2) bits big.bytes) place last to (λ standing''. refl) spelled'
      (λ made'' point' standing'' more' one spelled''.
      Applies what (Integer of) r of.bytes into big.bytes to plain true
      (λ memory word. option_map (λ w. w) (option_map Plain (computed op.Sub big.bytes big.signed bits (address_number memory (turn_of change of.bytes memory word)))))
      (CalculatedWith (r + 2) bits big.bytes place free_r turns one
      (free_beside (r + 2) (stands_in change r (r + 1)) (size_by change of.bytes) (plain_by change plain) slots (in_place (λ n. n ≢ r + 2) change r (r + 1) (λ same. absurd (omega arith)) (λ same. absurd (omega arith))) free_n)
      (ComputedAround op.Sub big.bytes big.signed to into place
      (one_at t flow setting running levels around made'' point' to (i.Compute into op.Sub (r + 2) (stands_in change r (r + 1)) big.bytes big.signed) place spelled'')) free Stays)
      (λ memory word suits. means memory word
      ∙ (ap (λ (n : ℕ). option_map Plain (computed op.Sub big.bytes big.signed bits n)) (sym (operand_as of big turned plain (subst (λ (kind : Kind). IsAsPlain kind plain) is plainly refl) memory word suits))
      ∙ same_map (option_map Plain (computed op.Sub big.bytes big.signed bits (address_number memory (turn_of change of.bytes memory word)))))) cont))))

  line_fails : {A : Type 0} (levels : ℕ) (around : Around) (made : Made) (from : ℕ) (line : Line t) (to : ℕ) → line ≡ taking 0 (Fails ∷ []) → IsSpelled flow made from (along_line t around (go levels t around) made from line to) → A
  line_fails levels around made from line to is spelled =
      never t flow setting running levels around (with_registers 0 made) from to
      (spelled_registers 0 (subst (λ (l : Line t). IsSpelled flow made from (along_line t around (go levels t around) made from l to)) is spelled))

  plus_fails : {A : Type 0} (levels : ℕ) (around : Around) (made : Made) (from : ℕ) (expr arg : t.Expr) (spare into to : ℕ) →
      IsSpelled flow made from (along_line t around (go levels t around) made from (record { registers = 1; moves = Evaluates arg spare made.registers ∷ Fails ∷ [] }) to) → A
  plus_fails levels around made from expr arg spare into to spelled =
      let made1 : Made = with_registers 1 made in
      let first_move : Move t = Evaluates arg spare made.registers in
      let standing : Stood = after t first_move (stands_at made1 from) in
      never t flow setting running levels around (mid t flow setting running levels around made1 from standing first_move) made.points to
      (tail_spelled t flow setting running levels around made1 from standing first_move (Fails ∷ []) to (spelled_registers 1 spelled))

  -- a promotion
  plus_by : (levels : ℕ) → IsAt t flow setting running levels → (around : Around) → IsAround setting around → (made : Made) (from : ℕ) (expr arg : t.Expr) (of : IntegerType) (change : Conversion) (spare into to : ℕ) →
      value_kind t arg ≡ Integer of → as_operand of (promoted of) ≡ change →
      IsSpelled flow made from (along_line t around (go levels t around) made from (plus_line t expr arg spare into made.registers change) to) →
      (now later : List (Stop t)) (tasks : List (TaskIn t)) (slots : List Slot) (base : ℕ) →
      Ready t flow setting running around now later tasks base made.registers slots spare (left_of t (AsValue (stays change && nat_eq into spare)) arg) →
      IsTarget made.registers slots base spare (left_of t (AsValue (stays change && nat_eq into spare)) arg) into → Goes_on around (later ++ now) [] tasks (InRegister into (promoted of).bytes true ∷ slots) to →
      Goes_on around now later (ValueOf arg ∷ Apply Plus (value_kind t arg) ∷ tasks) slots from
  plus_by levels at around good made from expr arg of Nothing spare into to is none spelled now later tasks slots base ready target cont =
      let left : ℕ = left_of t (AsValue (nat_eq into spare)) arg in
      let big : IntegerType = promoted of in
      at.value around good (with_registers 0 made) from arg spare into to (spelled_registers 0 spelled) now later (Apply Plus (value_kind t arg) ∷ tasks) slots base
      (part_ready (made.registers + 0) left ready (omega arith) (omega arith)) (same_target (made.registers + 0) left target (omega arith) (omega arith))
      (λ plain plainly. subst (λ (kind : Kind). Unapplied around (later ++ now) [] tasks slots Plus into plain to kind) (sym is)
      (stayed plain (subst (λ (kind : Kind). IsAsPlain kind plain) is plainly refl)))
    where
      value_stays : (memory : List Block) (word : Word) → Suits of.bytes true word → applied memory Plus (Integer of) word ≡ Some word
      value_stays memory (Plain number) suits =
          let e = operand_as of (promoted of) (ap is_turn none) true refl memory (Plain number) suits in
          ap (λ (n : ℕ). Some (Plain n)) (sym e ∙ ap (λ (change : Conversion). address_number memory (turn_of change of.bytes memory (Plain number))) none)
      value_stays memory (To block offset) suits = absurd suits.2

      wide : of.bytes ≡ (promoted of).bytes
      wide = sym (ap (λ (change : Conversion). size_by change of.bytes) none) ∙ operand_size of (promoted of) (ap is_turn none)

      stayed : (plain : Bool) → plain ≡ true → Unapplied around (later ++ now) [] tasks slots Plus into plain to (Integer of)
      stayed true is' = AppliesBy Plus (Integer of) into of.bytes into of.bytes to true true (λ memory word. word) Stays value_stays
          (subst (λ (n : ℕ). Goes_on around (later ++ now) [] tasks (InRegister into n true ∷ slots) to) (sym wide) cont)
      stayed false is' = absurd (false≢true is')
  plus_by levels at around good made from expr arg of (Resized bytes signed) spare into to is none spelled now later tasks slots base ready target cont =
      let r : ℕ = made.registers in
      let big : IntegerType = promoted of in
      let made1 : Made = with_registers 1 made in
      let first_move : Move t = Evaluates arg spare r in
      let standing : Stood = after t first_move (stands_at made1 from) in
      let next : Move t = Emits (i.Convert into r bytes signed) (t.place expr) in
      let spelled1 = spelled_registers 1 spelled in
      let first = head_spelled t flow setting running levels around made1 from standing first_move (next ∷ []) to spelled1 in
      let rest = tail_spelled t flow setting running levels around made1 from standing first_move (next ∷ []) to spelled1 in
      let free_r = own_free r ready (omega arith) in
      let room = ready.room in
      let less = own_value t arg spare (left_of t (AsValue false) arg) r room (omega arith) in
      let wide : bytes ≡ big.bytes = sym (ap (λ (change : Conversion). size_by change of.bytes) none) ∙ operand_size of big (ap is_turn none) in
      at.value around good (with_point standing made1) from arg spare r made.points first now later (Apply Plus (value_kind t arg) ∷ tasks) slots base
      (part_ready (r + 1) (left_of t (AsValue (nat_eq r spare)) arg) ready (omega arith) less) (own_target (r + 1) r ready.own (omega arith) (omega arith) free_r)
      (λ plain plainly. subst (λ (kind : Kind). Unapplied around (later ++ now) [] tasks slots Plus r plain made.points kind) (sym is)
      (AppliesBy Plus (Integer of) r of.bytes into bytes to plain true (turn_of (Resized bytes signed) of.bytes)
      (Turned to into bytes signed (t.place expr)
      (one_at t flow setting running levels around (mid t flow setting running levels around made1 from standing first_move) made.points to (i.Convert into r bytes signed) (t.place expr) rest) target.free free_r)
      (λ memory word suits. ap (λ (n : ℕ). Some (Plain n)) (sym (operand_as of big (ap is_turn none) plain (subst (λ (kind : Kind). IsAsPlain kind plain) is plainly refl) memory word suits)
      ∙ ap (λ (change : Conversion). address_number memory (turn_of change of.bytes memory word)) none))
      (subst (λ (n : ℕ). Goes_on around (later ++ now) [] tasks (InRegister into n true ∷ slots) to) (sym wide) cont)))
  plus_by levels at around good made from expr arg of Tested spare into to is none spelled now later tasks slots base ready target cont = plus_fails levels around made from expr arg spare into to spelled
  plus_by levels at around good made from expr arg of Dropped spare into to is none spelled now later tasks slots base ready target cont = plus_fails levels around made from expr arg spare into to spelled
  plus_by levels at around good made from expr arg of NoConversion spare into to is none spelled now later tasks slots base ready target cont = plus_fails levels around made from expr arg spare into to spelled

  -- by the kind of the operand
  plus_where : (levels : ℕ) → IsAt t flow setting running levels → (around : Around) → IsAround setting around → (made : Made) (from : ℕ) (expr arg : t.Expr) (spare into to : ℕ) (kind : Kind) → value_kind t arg ≡ kind →
      fits (kind_by_unary t Plus kind) (value_kind t expr) ≡ true → is_void (value_kind t expr) ≡ false →
      IsSpelled flow made from (along_line t around (go levels t around) made from (unary_line t expr Plus arg spare into made.registers kind) to) →
      (now later : List (Stop t)) (tasks : List (TaskIn t)) (slots : List Slot) (base : ℕ) →
      Ready t flow setting running around now later tasks base made.registers slots spare (left_of t (AsValue (in_spare_still Plus kind (nat_eq into spare))) arg) →
      IsTarget made.registers slots base spare (left_of t (AsValue (in_spare_still Plus kind (nat_eq into spare))) arg) into → Wanted t flow setting running around now later tasks slots into to (value_kind t expr) →
      Goes_on around now later (ValueOf arg ∷ Apply Plus (value_kind t arg) ∷ tasks) slots from
  plus_where levels at around good made from expr arg spare into to (Integer of) is same void spelled now later tasks slots base ready target cont =
      let gives = fitted (Integer (promoted of)) (value_kind t expr) same void in
      plus_by levels at around good made from expr arg of (as_operand of (promoted of)) spare into to is refl spelled now later tasks slots base ready target
      (subst (λ (n : ℕ). Goes_on around (later ++ now) [] tasks (InRegister into n true ∷ slots) to) (sym gives.0) (cont true (λ asked. refl)))
  plus_where levels at around good made from expr arg spare into to (Pointer item) is same void spelled now later tasks slots base ready target cont = never t flow setting running levels around (with_registers 0 made) from to (spelled_registers 0 spelled)
  plus_where levels at around good made from expr arg spare into to (Array item) is same void spelled now later tasks slots base ready target cont = never t flow setting running levels around (with_registers 0 made) from to (spelled_registers 0 spelled)
  plus_where levels at around good made from expr arg spare into to (Struct bytes) is same void spelled now later tasks slots base ready target cont = never t flow setting running levels around (with_registers 0 made) from to (spelled_registers 0 spelled)
  plus_where levels at around good made from expr arg spare into to Void is same void spelled now later tasks slots base ready target cont = never t flow setting running levels around (with_registers 0 made) from to (spelled_registers 0 spelled)

  -- what is taken from 0, or from all ones
  taken_where : (levels : ℕ) → IsAt t flow setting running levels → (around : Around) → IsAround setting around → (made : Made) (from : ℕ) (expr arg : t.Expr) (what : UnaryOp) (line : Kind → Line t) (bits : IntegerType → ℕ) (spare into to : ℕ) (kind : Kind) →
      value_kind t arg ≡ kind → ((of : IntegerType) → line (Integer of) ≡ taken_from t expr arg spare into made.registers (bits (promoted of)) (as_operand of (promoted of)) (promoted of)) →
      ((item : ℕ) → line (Pointer item) ≡ taking 0 (Fails ∷ [])) → ((item : ℕ) → line (Array item) ≡ taking 0 (Fails ∷ [])) → ((size : ℕ) → line (Struct size) ≡ taking 0 (Fails ∷ [])) → line Void ≡ taking 0 (Fails ∷ []) →
      ((of : IntegerType) (memory : List Block) (word : Word) → applied memory what (Integer of) word
      ≡ option_map Plain (computed op.Sub (promoted of).bytes (promoted of).signed (bits (promoted of)) (as_type of (promoted of) (address_number memory word)))) →
      ((of : IntegerType) → kind ≡ Integer of → fits (Integer (promoted of)) (value_kind t expr) ≡ true) → is_void (value_kind t expr) ≡ false →
      IsSpelled flow made from (along_line t around (go levels t around) made from (line kind) to) →
      (now later : List (Stop t)) (tasks : List (TaskIn t)) (slots : List Slot) (base : ℕ) → Ready t flow setting running around now later tasks base made.registers slots spare (left_of t (AsValue false) arg) →
      is_free into slots ≡ true → Wanted t flow setting running around now later tasks slots into to (value_kind t expr) →
      Goes_on around now later (ValueOf arg ∷ Apply what (value_kind t arg) ∷ tasks) slots from
  taken_where levels at around good made from expr arg what line bits spare into to (Integer of) is whole one two three four means same void spelled now later tasks slots base ready free cont =
      let gives = fitted (Integer (promoted of)) (value_kind t expr) (same of refl) void in
      taken_by levels at around good made from expr arg what of spare into to (bits (promoted of)) is (means of) (subst (λ (l : Line t). IsSpelled flow made from (along_line t around (go levels t around) made from l to)) (whole of) spelled)
      now later tasks slots base ready free
      (subst (λ (n : ℕ). Goes_on around (later ++ now) [] tasks (InRegister into n true ∷ slots) to) (sym gives.0) (cont true (λ asked. refl)))
  taken_where levels at around good made from expr arg what line bits spare into to (Pointer item) is whole one two three four means same void spelled now later tasks slots base ready free cont =
      line_fails levels around made from (line (Pointer item)) to (one item) spelled
  taken_where levels at around good made from expr arg what line bits spare into to (Array item) is whole one two three four means same void spelled now later tasks slots base ready free cont =
      line_fails levels around made from (line (Array item)) to (two item) spelled
  taken_where levels at around good made from expr arg what line bits spare into to (Struct size) is whole one two three four means same void spelled now later tasks slots base ready free cont =
      line_fails levels around made from (line (Struct size)) to (three size) spelled
  taken_where levels at around good made from expr arg what line bits spare into to Void is whole one two three four means same void spelled now later tasks slots base ready free cont =
      line_fails levels around made from (line Void) to four spelled

  pub plus_form : (levels : ℕ) → IsAt t flow setting running levels → (arg : t.Expr) → FormIs t flow setting running levels (Unary Plus arg)
  plus_form levels at arg around good made from expr spare into to is shown spelled now later tasks slots base ready target cont =
      unfolds t flow setting running around now later tasks slots from expr (Unary Plus arg) is
      (plus_where levels at around good made from expr arg spare into to (value_kind t arg) refl (made_fits t flow setting running expr (Unary Plus arg) shown) (not_void t flow setting running expr (Unary Plus arg) shown)
      spelled now later tasks slots base ready target cont)

  pub minus_form : (levels : ℕ) → IsAt t flow setting running levels → (arg : t.Expr) → FormIs t flow setting running levels (Unary Minus arg)
  minus_form levels at arg around good made from expr spare into to is shown spelled now later tasks slots base ready target cont =
      unfolds t flow setting running around now later tasks slots from expr (Unary Minus arg) is
      (taken_where levels at around good made from expr arg Minus (λ kind. unary_line t expr Minus arg spare into made.registers kind) (λ of. 0) spare into to (value_kind t arg) refl
      (λ of. refl) (λ item. refl) (λ item. refl) (λ size. refl) refl
      (λ of memory word. ap (option_map Plain) (negated_as (promoted of).bytes (promoted of).signed (as_type of (promoted of) (address_number memory word))))
      (λ of is'. subst (λ (kind : Kind). fits (kind_by_unary t Minus kind) (value_kind t expr) ≡ true) is' (made_fits t flow setting running expr (Unary Minus arg) shown))
      (not_void t flow setting running expr (Unary Minus arg) shown) spelled now later tasks slots base ready target.free cont)

  pub flip_form : (levels : ℕ) → IsAt t flow setting running levels → (arg : t.Expr) → FormIs t flow setting running levels (Unary Flip arg)
  flip_form levels at arg around good made from expr spare into to is shown spelled now later tasks slots base ready target cont =
      unfolds t flow setting running around now later tasks slots from expr (Unary Flip arg) is
      (taken_where levels at around good made from expr arg Flip (λ kind. unary_line t expr Flip arg spare into made.registers kind) (λ of. 256 ^ of.bytes - 1) spare into to (value_kind t arg) refl
      (λ of. refl) (λ item. refl) (λ item. refl) (λ size. refl) refl
      (λ of memory word. ap (option_map Plain) (complemented_as (promoted of).bytes (promoted of).signed (as_type of (promoted of) (address_number memory word))))
      (λ of is'. subst (λ (kind : Kind). fits (kind_by_unary t Flip kind) (value_kind t expr) ≡ true) is' (made_fits t flow setting running expr (Unary Flip arg) shown))
      (not_void t flow setting running expr (Unary Flip arg) shown) spelled now later tasks slots base ready target.free cont)
