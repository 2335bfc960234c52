-- A test of every form is what the rest of a run wants, where what a level less is placed is.
use Rattle.std.proofs.Common.{◌≡◌, ◌<◌, ◌≤◌, ℕ, zero, suc, ◌^◌, List, [], ◌∷◌, ◌++◌, true, false, refl, sym, arith, subst}
use Rattle.std.proofs.lemmas.Bool.{false≢true}
use Rattle.cbase.specs.declared.tree.operators.BinaryOp.TheVariants.{Both, Either, Equal, NotEqual}
use Rattle.cbase.specs.declared.tree.operators.UnaryOp.TheVariants.{Not}
use Rattle.bytes_core.specs.declared.word.Word.TheVariants.{Plain}
use Rattle.c_machine.specs.declared.kind.Kind.{Kind}
use Rattle.c_machine.specs.declared.task.Task.TheVariants.{ValueOf, Convert}
use Rattle.c_machine.specs.Text.{Form, Unary, Binary, Text}
use Rattle.c_machine.specs.State.{TaskIn}
use Rattle.c_machine.specs.Expressions.{value_kind}
use Rattle.flow.specs.declared.flow_graph.Flow.{Flow}
use Rattle.simulation.specs.Running.{Setting, Running}
use Rattle.simulation.specs.Slots.{Slot, KnownAs, Truth}
use Rattle.simulation.specs.Lowered.{Stop, IsTrues, ConvertsKnown}
use Rattle.lowering.specs.Kinds.{width, conversion}
use Rattle.lowering.specs.declared.conversion.Conversion.{Conversion}
use Rattle.lowering.specs.declared.conversion.Conversion.TheVariants.{Tested}
use Rattle.lowering.specs.LetGo.{AsTest, left_of, left_by_test}
use Rattle.lowering.specs.Moves.{Asks}
use Rattle.lowering.specs.Placing.{Made, Around, place_test, go}
use Rattle.lowering.proofs.ComputedFits.{power_some}
use Rattle.lowering.proofs.KindFacts.{Means, conversion_means}
use Rattle.lowering.proofs.LeftStays.{test_left}
use Rattle.lowering.proofs.Modes.{IsAround, is_condition, Rest, Ready, IsAt, AskIs, AskKnownIs, AskTruthIs}
use Rattle.lowering.proofs.Placings.{IsSpelled}
use Rattle.lowering.proofs.SpellingConditions.{KnownFormIs, not_known, both_known, either_known, zero_ask, zero_truth}
use Rattle.lowering.proofs.SpellingEquality.{equal_known, unequal_known}

one_in : (size : ℕ) → 0 < size → 1 < 256 ^ size
one_in zero some = absurd (omega arith)
one_in (suc size) some = let h = power_some size in omega arith

module _ (t : Text) (flow : Flow) (setting : Setting) (running : Running) where
  abbrev Goes_on : Around → List (Stop t) → List (Stop t) → List (TaskIn t) → List Slot → ℕ → Type 0
  Goes_on around now later tasks slots point = Rest t flow setting running around now later tasks slots point

  known_by : (levels : ℕ) → IsAt t flow setting running levels → (form : Form t.Expr t.Stmt) → is_condition form ≡ true → KnownFormIs t flow setting running levels form
  known_by levels at (Unary Not arg) condition = not_known t flow setting running levels at arg
  known_by levels at (Binary Both one other) condition = both_known t flow setting running levels at one other
  known_by levels at (Binary Either one other) condition = either_known t flow setting running levels at one other
  known_by levels at (Binary Equal one other) condition = equal_known t flow setting running levels at one other
  known_by levels at (Binary NotEqual one other) condition = unequal_known t flow setting running levels at one other
  known_by levels at form condition = absurd (false≢true condition)

  -- what the line of a test leaves
  test_ready : (levels : ℕ) → suc levels ≤ t.enough → (around : Around) (made : Made) (from : ℕ) (expr : t.Expr) (spare off on to : ℕ) → IsSpelled flow made from (go (suc levels) t around made from (Asks expr spare off on) to) →
      (now later : List (Stop t)) (tasks : List (TaskIn t)) (slots : List Slot) (base : ℕ) → Ready t flow setting running around now later tasks base made.registers slots spare (left_of t AsTest expr) →
      Ready t flow setting running around now later tasks base made.registers slots spare (left_by_test t (left_of t) expr (t.form expr))
  test_ready levels less around made from expr spare off on to spelled now later tasks slots base ready =
      subst (λ (n : ℕ). Ready t flow setting running around now later tasks base made.registers slots spare n)
      (sym (test_left t levels less around made from expr spare off on to spelled.inside spelled.sound spelled.graph)) ready

  pub ask_known_joined : (levels : ℕ) → suc levels ≤ t.enough → IsAt t flow setting running levels → AskKnownIs t flow setting running (suc levels)
  ask_known_joined levels less at around good made from expr spare off on to spelled condition now later tasks slots base ready fails holds =
      known_by levels at (t.form expr) condition around good made from expr spare off on refl spelled now later tasks slots base
      (test_ready levels less around made from expr spare off on to spelled now later tasks slots base ready) fails holds

  -- a condition is 1 or 0, and a value is tested against 0
  ask_by : (levels : ℕ) → IsAt t flow setting running levels → (around : Around) → IsAround setting around → (made : Made) (from : ℕ) (expr : t.Expr) (spare off on : ℕ) (form : Form t.Expr t.Stmt) → t.form expr ≡ form →
      IsSpelled flow made from (place_test t around (go levels t around) made from expr spare off on form) →
      (now later : List (Stop t)) (tasks : List (TaskIn t)) (slots : List Slot) (base : ℕ) → Ready t flow setting running around now later tasks base made.registers slots spare (left_by_test t (left_of t) expr form) →
      Goes_on around (later ++ now) [] tasks (Truth false ∷ slots) off → Goes_on around (later ++ now) [] tasks (Truth true ∷ slots) on → Goes_on around now later (ValueOf expr ∷ tasks) slots from
  ask_by levels at around good made from expr spare off on (Unary Not arg) is spelled now later tasks slots base ready fails holds =
      not_known t flow setting running levels at arg around good made from expr spare off on is spelled now later tasks slots base ready (IsTrues 0 fails) (IsTrues 1 holds)
  ask_by levels at around good made from expr spare off on (Binary Both one other) is spelled now later tasks slots base ready fails holds =
      both_known t flow setting running levels at one other around good made from expr spare off on is spelled now later tasks slots base ready (IsTrues 0 fails) (IsTrues 1 holds)
  ask_by levels at around good made from expr spare off on (Binary Either one other) is spelled now later tasks slots base ready fails holds =
      either_known t flow setting running levels at one other around good made from expr spare off on is spelled now later tasks slots base ready (IsTrues 0 fails) (IsTrues 1 holds)
  ask_by levels at around good made from expr spare off on (Binary Equal one other) is spelled now later tasks slots base ready fails holds =
      equal_known t flow setting running levels at one other around good made from expr spare off on is spelled now later tasks slots base ready (IsTrues 0 fails) (IsTrues 1 holds)
  ask_by levels at around good made from expr spare off on (Binary NotEqual one other) is spelled now later tasks slots base ready fails holds =
      unequal_known t flow setting running levels at one other around good made from expr spare off on is spelled now later tasks slots base ready (IsTrues 0 fails) (IsTrues 1 holds)
  ask_by levels at around good made from expr spare off on form is spelled now later tasks slots base ready fails holds =
      zero_ask t flow setting running levels at around good made from expr spare off on spelled now later tasks slots base ready fails holds

  pub ask_joined : (levels : ℕ) → suc levels ≤ t.enough → IsAt t flow setting running levels → AskIs t flow setting running (suc levels)
  ask_joined levels less at around good made from expr spare off on to spelled now later tasks slots base ready fails holds =
      ask_by levels at around good made from expr spare off on (t.form expr) refl spelled now later tasks slots base
      (test_ready levels less around made from expr spare off on to spelled now later tasks slots base ready) fails holds

  -- what is known becomes a `_Bool`
  turned_known : (around : Around) (now : List (Stop t)) (tasks : List (TaskIn t)) (slots : List Slot) (point bits : ℕ) (from to : Kind) → conversion from to ≡ Tested → bits ≤ 1 →
      Goes_on around now [] tasks (KnownAs bits ∷ slots) point → Goes_on around now [] (Convert from to ∷ tasks) (KnownAs bits ∷ slots) point
  turned_known around now tasks slots point zero from to is less rest =
      let means : Means from to Tested = subst (λ (change : Conversion). Means from to change) is (conversion_means from to) in
      let small = one_in (width from) means.0 in
      ConvertsKnown from to 0 0 (λ memory. means.3 true (λ number. refl) memory (Plain 0) (omega arith, tt, tt)) rest
  turned_known around now tasks slots point (suc zero) from to is less rest =
      let means : Means from to Tested = subst (λ (change : Conversion). Means from to change) is (conversion_means from to) in
      ConvertsKnown from to 1 1 (λ memory. means.3 true (λ number. refl) memory (Plain 1) (one_in (width from) means.0, tt, tt)) rest
  turned_known around now tasks slots point (suc (suc bits)) from to is less rest = absurd (omega arith)

  truth_by : (levels : ℕ) → IsAt t flow setting running levels → (around : Around) → IsAround setting around → (made : Made) (from : ℕ) (expr : t.Expr) (kind : Kind) (spare off on : ℕ) → conversion (value_kind t expr) kind ≡ Tested →
      (form : Form t.Expr t.Stmt) → t.form expr ≡ form → IsSpelled flow made from (place_test t around (go levels t around) made from expr spare off on form) →
      (now later : List (Stop t)) (tasks : List (TaskIn t)) (slots : List Slot) (base : ℕ) → Ready t flow setting running around now later tasks base made.registers slots spare (left_by_test t (left_of t) expr form) →
      Goes_on around (later ++ now) [] tasks (KnownAs 0 ∷ slots) off → Goes_on around (later ++ now) [] tasks (KnownAs 1 ∷ slots) on →
      Goes_on around now later (ValueOf expr ∷ Convert (value_kind t expr) kind ∷ tasks) slots from
  truth_by levels at around good made from expr kind spare off on turns (Unary Not arg) is spelled now later tasks slots base ready fails holds =
      not_known t flow setting running levels at arg around good made from expr spare off on is spelled now later (Convert (value_kind t expr) kind ∷ tasks) slots base ready
      (turned_known around (later ++ now) tasks slots off 0 (value_kind t expr) kind turns (omega arith) fails) (turned_known around (later ++ now) tasks slots on 1 (value_kind t expr) kind turns (omega arith) holds)
  truth_by levels at around good made from expr kind spare off on turns (Binary Both one other) is spelled now later tasks slots base ready fails holds =
      both_known t flow setting running levels at one other around good made from expr spare off on is spelled now later (Convert (value_kind t expr) kind ∷ tasks) slots base ready
      (turned_known around (later ++ now) tasks slots off 0 (value_kind t expr) kind turns (omega arith) fails) (turned_known around (later ++ now) tasks slots on 1 (value_kind t expr) kind turns (omega arith) holds)
  truth_by levels at around good made from expr kind spare off on turns (Binary Either one other) is spelled now later tasks slots base ready fails holds =
      either_known t flow setting running levels at one other around good made from expr spare off on is spelled now later (Convert (value_kind t expr) kind ∷ tasks) slots base ready
      (turned_known around (later ++ now) tasks slots off 0 (value_kind t expr) kind turns (omega arith) fails) (turned_known around (later ++ now) tasks slots on 1 (value_kind t expr) kind turns (omega arith) holds)
  truth_by levels at around good made from expr kind spare off on turns (Binary Equal one other) is spelled now later tasks slots base ready fails holds =
      equal_known t flow setting running levels at one other around good made from expr spare off on is spelled now later (Convert (value_kind t expr) kind ∷ tasks) slots base ready
      (turned_known around (later ++ now) tasks slots off 0 (value_kind t expr) kind turns (omega arith) fails) (turned_known around (later ++ now) tasks slots on 1 (value_kind t expr) kind turns (omega arith) holds)
  truth_by levels at around good made from expr kind spare off on turns (Binary NotEqual one other) is spelled now later tasks slots base ready fails holds =
      unequal_known t flow setting running levels at one other around good made from expr spare off on is spelled now later (Convert (value_kind t expr) kind ∷ tasks) slots base ready
      (turned_known around (later ++ now) tasks slots off 0 (value_kind t expr) kind turns (omega arith) fails) (turned_known around (later ++ now) tasks slots on 1 (value_kind t expr) kind turns (omega arith) holds)
  truth_by levels at around good made from expr kind spare off on turns form is spelled now later tasks slots base ready fails holds =
      zero_truth t flow setting running levels at around good made from expr kind spare off on turns spelled now later tasks slots base ready fails holds

  pub ask_truth_joined : (levels : ℕ) → suc levels ≤ t.enough → IsAt t flow setting running levels → AskTruthIs t flow setting running (suc levels)
  ask_truth_joined levels less at around good made from expr kind spare off on to spelled turns now later tasks slots base ready fails holds =
      truth_by levels at around good made from expr kind spare off on turns (t.form expr) refl spelled now later tasks slots base
      (test_ready levels less around made from expr spare off on to spelled now later tasks slots base ready) fails holds
