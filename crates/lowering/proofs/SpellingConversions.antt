-- What is placed for conversions is what the rest of a run wants.
use Rattle.std.proofs.Common.{◌≡◌, ℕ, suc, ◌+◌, List, [], ◌∷◌, ◌++◌, Bool, true, false, nat_eq, refl, sym, arith, subst}
use Rattle.std.proofs.lemmas.Bool.{false≢true}
use Rattle.arithmetic.specs.Conversion.{converted}
use Rattle.bytes_core.specs.declared.block.Block.{Block}
use Rattle.bytes_core.specs.declared.word.Word.{Word}
use Rattle.bytes_core.specs.declared.word.Word.TheVariants.{Plain}
use Rattle.bytes_core.specs.Value.{address_number}
use Rattle.c_machine.specs.declared.kind.Kind.{Kind}
use Rattle.c_machine.specs.declared.kind.Kind.TheVariants.{Integer, Pointer, Array, Struct, Void}
use Rattle.c_machine.specs.declared.task.Task.TheVariants.{ValueOf, Convert}
use Rattle.c_machine.specs.Text.{Cast, Text}
use Rattle.c_machine.specs.State.{TaskIn}
use Rattle.c_machine.specs.Expressions.{value_kind}
use Rattle.c_machine.specs.Words.{as_kind, decayed}
use Rattle.flow.specs.declared.flow_graph.Flow.{Flow}
use Rattle.flow.specs.declared.flow_graph.Standing.{Standing as Stood}
use Rattle.flow.specs.declared.instruction.Instr.TheVariants as i
use Rattle.simulation.specs.Running.{Setting, Running}
use Rattle.simulation.specs.Slots.{Slot, InRegister, KnownAs, IsPlainWhere}
use Rattle.simulation.specs.Turning.{Turned}
use Rattle.simulation.specs.Lowered.{Stop, Converts as StaysAs, ConvertsBy, ConvertsAway}
use Rattle.lowering.specs.Kinds.{width, is_void, is_address, conversion}
use Rattle.lowering.specs.declared.conversion.Conversion.{Conversion}
use Rattle.lowering.specs.declared.conversion.Conversion.TheVariants.{Nothing, Resized, Tested, Dropped, Unknown as NoConversion}
use Rattle.lowering.specs.LetGo.{AsValue, AsWork, AsTest, left_of, left_as, left_converted, left_by_value}
use Rattle.lowering.specs.Moves.{Move, Emits, Evaluates}
use Rattle.lowering.specs.Table.{converted_line, void_line}
use Rattle.lowering.specs.Placing.{Made, Around, with_point, with_registers, stands_at, after, along_line, go}
use Rattle.lowering.proofs.KindFacts.{IsAsPlain, Means, conversion_means, slot_made, decayed_slot, let_go, in_let_go}
use Rattle.lowering.proofs.LeftOf.{own_value}
use Rattle.lowering.proofs.Modes.{IsAround, Rest, Ready, IsAt, ConvertIs}
use Rattle.lowering.proofs.Placings.{IsSpelled, spelled_registers}
use Rattle.lowering.proofs.Ready.{slot_of, IsTarget, own_target, same_target, part_ready, own_free, mid, head_spelled, tail_spelled, one_at, never}
use Rattle.lowering.proofs.Spelling.{unfolds, not_void, FormIs}

module _ (t : Text) (flow : Flow) (setting : Setting) (running : Running) where
  abbrev Goes_on : Around → List (Stop t) → List (Stop t) → List (TaskIn t) → List Slot → ℕ → Type 0
  Goes_on around now later tasks slots point = Rest t flow setting running around now later tasks slots point

  -- none, one to other bytes, one to a `_Bool`, and one to `void`
  stays_by : (levels : ℕ) → IsAt t flow setting running levels → (around : Around) → IsAround setting around → (made : Made) (from : ℕ) (expr : t.Expr) (kind : Kind) (spare into to : ℕ) →
      (width (value_kind t expr) ≡ width kind) → (is_address kind ≡ false → is_address (value_kind t expr) ≡ false) → is_void kind ≡ false →
      ((plain : Bool) → IsAsPlain (value_kind t expr) plain → (memory : List Block) (word : Word) → IsPlainWhere plain word → as_kind memory (value_kind t expr) kind word ≡ word) →
      IsSpelled flow made from (along_line t around (go levels t around) made from (converted_line t expr spare into made.registers Nothing) to) →
      (now later : List (Stop t)) (tasks : List (TaskIn t)) (slots : List Slot) (base : ℕ) →
      Ready t flow setting running around now later tasks base made.registers slots spare (left_of t (AsValue (nat_eq into spare)) expr) →
      IsTarget made.registers slots base spare (left_of t (AsValue (nat_eq into spare)) expr) into →
      ((plain : Bool) → IsAsPlain kind plain → Goes_on around (later ++ now) [] tasks (slot_of kind into plain ∷ slots) to) →
      Goes_on around now later (ValueOf expr ∷ Convert (value_kind t expr) kind ∷ tasks) slots from
  stays_by levels at around good made from expr kind spare into to wide plainer not_void' same spelled now later tasks slots base ready target cont =
      let left : ℕ = left_of t (AsValue (nat_eq into spare)) expr in
      at.value around good (with_registers 0 made) from expr spare into to (spelled_registers 0 spelled) now later (Convert (value_kind t expr) kind ∷ tasks) slots base
      (part_ready (made.registers + 0) left ready (omega arith) (omega arith)) (same_target (made.registers + 0) left target (omega arith) (omega arith))
      (λ plain number. StaysAs (value_kind t expr) kind into (width (value_kind t expr)) plain (λ memory word suits. same plain number memory word suits.2)
      (subst (λ (n : ℕ). Goes_on around (later ++ now) [] tasks (InRegister into n plain ∷ slots) to) (sym wide)
      (subst (λ (slot : Slot). Goes_on around (later ++ now) [] tasks (slot ∷ slots) to) (slot_made kind into plain not_void') (cont plain (λ asked. number (plainer asked))))))

  resized_by : (levels : ℕ) → IsAt t flow setting running levels → (around : Around) → IsAround setting around → (made : Made) (from : ℕ) (expr : t.Expr) (kind : Kind) (spare into to bytes : ℕ) (signed : Bool) →
      width kind ≡ bytes → is_void kind ≡ false →
      ((memory : List Block) (word : Word) → as_kind memory (value_kind t expr) kind word ≡ Plain (converted (width (value_kind t expr)) signed bytes (address_number memory word))) →
      IsSpelled flow made from (along_line t around (go levels t around) made from (converted_line t expr spare into made.registers (Resized bytes signed)) to) →
      (now later : List (Stop t)) (tasks : List (TaskIn t)) (slots : List Slot) (base : ℕ) →
      Ready t flow setting running around now later tasks base made.registers slots spare (left_of t (AsValue false) expr) → IsTarget made.registers slots base spare (left_of t (AsValue false) expr) into →
      ((plain : Bool) → IsAsPlain kind plain → Goes_on around (later ++ now) [] tasks (slot_of kind into plain ∷ slots) to) →
      Goes_on around now later (ValueOf expr ∷ Convert (value_kind t expr) kind ∷ tasks) slots from
  resized_by levels at around good made from expr kind spare into to bytes signed wide not_void' same spelled now later tasks slots base ready target cont =
      let r : ℕ = made.registers in
      let made1 : Made = with_registers 1 made in
      let first_move : Move t = Evaluates expr spare r in
      let standing : Stood = after t first_move (stands_at made1 from) in
      let next : Move t = Emits (i.Convert into r bytes signed) (t.place expr) in
      let spelled1 = spelled_registers 1 spelled in
      let first = head_spelled t flow setting running levels around made1 from standing first_move (next ∷ []) to spelled1 in
      let rest = tail_spelled t flow setting running levels around made1 from standing first_move (next ∷ []) to spelled1 in
      let free_r = own_free r ready (omega arith) in
      let room = ready.room in
      let less = own_value t expr spare (left_of t (AsValue false) expr) r room (omega arith) in
      at.value around good (with_point standing made1) from expr spare r made.points first now later (Convert (value_kind t expr) kind ∷ tasks) slots base
      (part_ready (r + 1) (left_of t (AsValue (nat_eq r spare)) expr) ready (omega arith) less) (own_target (r + 1) r ready.own (omega arith) (omega arith) free_r)
      (λ plain number. ConvertsBy (value_kind t expr) kind r (width (value_kind t expr)) into bytes to plain true
      (λ memory word. Plain (converted (width (value_kind t expr)) signed bytes (address_number memory word)))
      (Turned to into bytes signed (t.place expr)
      (one_at t flow setting running levels around (mid t flow setting running levels around made1 from standing first_move) made.points to (i.Convert into r bytes signed) (t.place expr) rest) target.free free_r)
      (λ memory word suits. same memory word)
      (subst (λ (n : ℕ). Goes_on around (later ++ now) [] tasks (InRegister into n true ∷ slots) to) wide
      (subst (λ (slot : Slot). Goes_on around (later ++ now) [] tasks (slot ∷ slots) to) (slot_made kind into true not_void') (cont true (λ asked. refl)))))

  away_by : (levels : ℕ) → IsAt t flow setting running levels → (around : Around) → IsAround setting around → (made : Made) (from : ℕ) (expr : t.Expr) (spare into to : ℕ) →
      IsSpelled flow made from (along_line t around (go levels t around) made from (converted_line t expr spare into made.registers Dropped) to) →
      (now later : List (Stop t)) (tasks : List (TaskIn t)) (slots : List Slot) (base : ℕ) → Ready t flow setting running around now later tasks base made.registers slots spare (left_of t AsWork expr) →
      Goes_on around (later ++ now) [] tasks (KnownAs 0 ∷ slots) to → Goes_on around now later (ValueOf expr ∷ Convert (value_kind t expr) Void ∷ tasks) slots from
  away_by levels at around good made from expr spare into to spelled now later tasks slots base ready cont =
      at.work around good (with_registers 0 made) from expr spare to (spelled_registers 0 spelled) now later (Convert (value_kind t expr) Void ∷ tasks) slots base
      (part_ready (made.registers + 0) (left_of t AsWork expr) ready (omega arith) (omega arith))
      (ConvertsAway (value_kind t expr) (let_go (value_kind t expr)) (in_let_go (value_kind t expr)) cont)

  convert_by : (levels : ℕ) → IsAt t flow setting running levels → (around : Around) → IsAround setting around → (made : Made) (from : ℕ) (expr : t.Expr) (kind : Kind) (spare into to : ℕ) (change : Conversion) →
      conversion (value_kind t expr) kind ≡ change → Means (value_kind t expr) kind change →
      IsSpelled flow made from (along_line t around (go levels t around) made from (converted_line t expr spare into made.registers change) to) →
      (now later : List (Stop t)) (tasks : List (TaskIn t)) (slots : List Slot) (base : ℕ) →
      Ready t flow setting running around now later tasks base made.registers slots spare (left_converted t (left_of t) expr (nat_eq into spare) change) →
      (is_void kind ≡ false → IsTarget made.registers slots base spare (left_converted t (left_of t) expr (nat_eq into spare) change) into) →
      ((plain : Bool) → IsAsPlain kind plain → Goes_on around (later ++ now) [] tasks (slot_of kind into plain ∷ slots) to) →
      Goes_on around now later (ValueOf expr ∷ Convert (value_kind t expr) kind ∷ tasks) slots from
  convert_by levels at around good made from expr kind spare into to Nothing is means spelled now later tasks slots base ready target cont =
      stays_by levels at around good made from expr kind spare into to means.0 means.1 means.2 means.3 spelled now later tasks slots base ready (target means.2) cont
  convert_by levels at around good made from expr kind spare into to (Resized bytes signed) is means spelled now later tasks slots base ready target cont =
      resized_by levels at around good made from expr kind spare into to bytes signed means.0 means.1 means.2 spelled now later tasks slots base ready (target means.1) cont
  convert_by levels at around good made from expr kind spare into to Tested is means spelled now later tasks slots base ready target cont =
      at.answer_truth around good (with_registers 0 made) from expr kind spare into 1 to (spelled_registers 0 spelled) is now later tasks slots base
      (part_ready (made.registers + 0) (left_of t AsTest expr) ready (omega arith) (omega arith)) (target means.2).free
      (subst (λ (n : ℕ). Goes_on around (later ++ now) [] tasks (InRegister into n true ∷ slots) to) means.1
      (subst (λ (slot : Slot). Goes_on around (later ++ now) [] tasks (slot ∷ slots) to) (slot_made kind into true means.2) (cont true (λ asked. refl))))
  convert_by levels at around good made from expr kind spare into to Dropped is means spelled now later tasks slots base ready target cont =
      subst (λ (k : Kind). Goes_on around now later (ValueOf expr ∷ Convert (value_kind t expr) k ∷ tasks) slots from) (sym means)
      (away_by levels at around good made from expr spare into to spelled now later tasks slots base ready
      (subst (λ (k : Kind). Goes_on around (later ++ now) [] tasks (slot_of k into true ∷ slots) to) means (cont true (λ asked. refl))))
  convert_by levels at around good made from expr kind spare into to NoConversion is means spelled now later tasks slots base ready target cont =
      never t flow setting running levels around (with_registers 0 made) from to (spelled_registers 0 spelled)

  pub convert_form : (levels : ℕ) → IsAt t flow setting running levels → ConvertIs t flow setting running (suc levels)
  convert_form levels at around good made from expr kind spare into to spelled now later tasks slots base ready target cont =
      convert_by levels at around good made from expr kind spare into to (conversion (value_kind t expr) kind) refl (conversion_means (value_kind t expr) kind) spelled now later tasks slots base ready target cont

  -- a cast whose value is used, and one to `void`
  pub cast_form : (levels : ℕ) → IsAt t flow setting running levels → (arg : t.Expr) → FormIs t flow setting running levels (Cast arg)
  cast_form levels at arg around good made from expr spare into to is shown spelled now later tasks slots base ready target cont =
      let gives = decayed_slot (t.kind expr) (not_void t flow setting running expr (Cast arg) shown) in
      let left : ℕ = left_as t (left_of t) arg (nat_eq into spare) (t.kind expr) in
      unfolds t flow setting running around now later tasks slots from expr (Cast arg) is
      (at.convert around good (with_registers 0 made) from arg (t.kind expr) spare into to (spelled_registers 0 spelled) now later tasks slots base
      (part_ready (made.registers + 0) left ready (omega arith) (omega arith)) (λ void. same_target (made.registers + 0) left target (omega arith) (omega arith))
      (λ plain number. subst (λ (slot : Slot). Goes_on around (later ++ now) [] tasks (slot ∷ slots) to) (sym (gives.0 into plain)) (cont plain (λ asked. number (gives.1 asked)))))

  void_cast : (levels : ℕ) → IsAt t flow setting running levels → (around : Around) → IsAround setting around → (made : Made) (from : ℕ) (arg : t.Expr) (kind : Kind) (spare to : ℕ) → is_void (decayed kind) ≡ true →
      IsSpelled flow made from (along_line t around (go levels t around) made from (converted_line t arg spare spare made.registers Dropped) to) →
      (now later : List (Stop t)) (tasks : List (TaskIn t)) (slots : List Slot) (base : ℕ) → Ready t flow setting running around now later tasks base made.registers slots spare (left_as t (left_of t) arg false kind) →
      Goes_on around (later ++ now) [] tasks (let_go (decayed kind) ∷ slots) to → Goes_on around now later (ValueOf arg ∷ Convert (value_kind t arg) kind ∷ tasks) slots from
  void_cast levels at around good made from arg Void spare to is spelled now later tasks slots base ready cont = away_by levels at around good made from arg spare spare to spelled now later tasks slots base ready cont
  void_cast levels at around good made from arg (Integer of) spare to is spelled now later tasks slots base ready cont = absurd (false≢true is)
  void_cast levels at around good made from arg (Pointer item) spare to is spelled now later tasks slots base ready cont = absurd (false≢true is)
  void_cast levels at around good made from arg (Array item) spare to is spelled now later tasks slots base ready cont = absurd (false≢true is)
  void_cast levels at around good made from arg (Struct bytes) spare to is spelled now later tasks slots base ready cont = absurd (false≢true is)

  pub cast_work : (levels : ℕ) → IsAt t flow setting running levels → (around : Around) → IsAround setting around → (made : Made) (from : ℕ) (expr arg : t.Expr) (spare to : ℕ) → t.form expr ≡ Cast arg →
      is_void (value_kind t expr) ≡ true → IsSpelled flow made from (along_line t around (go levels t around) made from (void_line t expr spare made.registers (Cast arg)) to) →
      (now later : List (Stop t)) (tasks : List (TaskIn t)) (slots : List Slot) (base : ℕ) → Ready t flow setting running around now later tasks base made.registers slots spare (left_by_value t (left_of t) expr false (Cast arg)) →
      Goes_on around (later ++ now) [] tasks (let_go (value_kind t expr) ∷ slots) to → Goes_on around now later (ValueOf expr ∷ tasks) slots from
  cast_work levels at around good made from expr arg spare to is void spelled now later tasks slots base ready cont =
      unfolds t flow setting running around now later tasks slots from expr (Cast arg) is
      (void_cast levels at around good made from arg (t.kind expr) spare to void spelled now later tasks slots base ready cont)
