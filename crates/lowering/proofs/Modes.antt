-- What is promised of what is placed for an expression, in each way in which it is wanted, within so many levels.
use Rattle.std.proofs.Common.{◌≡◌, ℕ, List, [], ◌∷◌, ◌++◌, Bool, true, false, nat_eq, refl, Option, None, Some, if◌then◌else◌}
use Rattle.std.proofs.lemmas.Option.{none-some}
use Rattle.cbase.specs.declared.tree.operators.BinaryOp.TheVariants.{Both, Either, Equal, NotEqual}
use Rattle.cbase.specs.declared.tree.operators.UnaryOp.TheVariants.{Not}
use Rattle.c_machine.specs.declared.kind.Kind.{Kind}
use Rattle.c_machine.specs.declared.task.Task.TheVariants.{ValueOf, AddressOf, Convert}
use Rattle.c_machine.specs.Expressions.{value_kind}
use Rattle.c_machine.specs.State.{TaskIn, is_named}
use Rattle.c_machine.specs.Statements.{loop_left, body_left}
use Rattle.c_machine.specs.Text.{Form, Unary, Binary, Text}
use Rattle.flow.specs.declared.flow_graph.Flow.{Flow}
use Rattle.simulation.specs.Lowered.{Stop, Lowered}
use Rattle.simulation.specs.Names.{Name, names_of, variable_in, is_other}
use Rattle.simulation.specs.Running.{Setting, Running}
use Rattle.simulation.specs.Slots.{Slot, InRegister, KnownAs, Truth, is_free}
use Rattle.lowering.specs.Kinds.{width, is_void, conversion}
use Rattle.lowering.specs.declared.conversion.Conversion.TheVariants.{Tested}
use Rattle.lowering.specs.LetGo.{AsValue, AsPlace, AsWork, AsTest, left_as, left_of}
use Rattle.lowering.specs.Moves.{Evaluates, Converts, Answers, Locates, Works, Asks}
use Rattle.lowering.specs.Placing.{Made, Around, go}
use Rattle.lowering.proofs.KindFacts.{IsAsPlain, some_none, let_go}
use Rattle.lowering.proofs.Placings.{IsSpelled}
use Rattle.lowering.proofs.Ready.{slot_of, IsReady, IsTarget}

-- the objects of blocks are none of the static ones, and these are the ones that stand in the derivation
pub record IsAround (setting : Setting) (around : Around) : Type 0 where
  pub statics : around.statics ≡ setting.statics
  pub apart : (token variable : ℕ) → variable_in around.statics token ≡ Some variable → is_other variable (names_of around.scopes) ≡ true

behind_by : (is : Bool) (variable : ℕ) (found found' other : Option ℕ) → (found ≡ None → found' ≡ other) → (if is then Some variable else found) ≡ None → (if is then Some variable else found') ≡ other
behind_by true variable found found' other rest none = absurd (some_none variable none)
behind_by false variable found found' other rest none = rest none

pub found_behind : (one other : List Name) (token : ℕ) → variable_in one token ≡ None → variable_in (one ++ other) token ≡ variable_in other token
found_behind [] other token is = refl
found_behind (name ∷ one) other token is =
    behind_by (is_named name.token token) name.variable (variable_in one token) (variable_in (one ++ other) token) (variable_in other token) (found_behind one other token) is

first_by : (is : Bool) (variable : ℕ) (found found' : Option ℕ) (there : ℕ) → (found ≡ Some there → found' ≡ Some there) → (if is then Some variable else found) ≡ Some there →
    (if is then Some variable else found') ≡ Some there
first_by true variable found found' there rest is = is
first_by false variable found found' there rest is = rest is

pub found_first : (one other : List Name) (token variable : ℕ) → variable_in one token ≡ Some variable → variable_in (one ++ other) token ≡ Some variable
found_first [] other token variable is = absurd (none-some variable is)
found_first (name ∷ one) other token variable is =
    first_by (is_named name.token token) name.variable (variable_in one token) (variable_in (one ++ other) token) variable (found_first one other token variable) is

-- whether an expression is a condition, whose value is 1 or 0
abbrev pub is_condition : {E S : Type 0} → Form E S → Bool
is_condition (Unary Not arg) = true
is_condition (Binary Both left right) = true
is_condition (Binary Either left right) = true
is_condition (Binary Equal left right) = true
is_condition (Binary NotEqual left right) = true
is_condition form = false

module _ (t : Text) (flow : Flow) (setting : Setting) (running : Running) where
  abbrev pub Rest : Around → List (Stop t) → List (Stop t) → List (TaskIn t) → List Slot → ℕ → Type 0
  Rest around now later tasks slots point = Lowered t flow setting running now later around.scopes tasks slots point

  -- where an expression begins
  abbrev pub Ready : Around → List (Stop t) → List (Stop t) → List (TaskIn t) → ℕ → ℕ → List Slot → ℕ → ℕ → Type 0
  Ready around now later tasks base count slots spare left = IsReady t flow setting running around (later ++ now) (loop_left tasks) (body_left tasks) base count slots spare left

  -- its value in a register
  abbrev pub ValueIs : ℕ → Type 0
  ValueIs levels =
      (around : Around) → IsAround setting around → (made : Made) (from : ℕ) (expr : t.Expr) (spare into to : ℕ) → IsSpelled flow made from (go levels t around made from (Evaluates expr spare into) to) →
      (now later : List (Stop t)) (tasks : List (TaskIn t)) (slots : List Slot) (base : ℕ) →
      Ready around now later tasks base made.registers slots spare (left_of t (AsValue (nat_eq into spare)) expr) →
      IsTarget made.registers slots base spare (left_of t (AsValue (nat_eq into spare)) expr) into →
      ((plain : Bool) → IsAsPlain (value_kind t expr) plain → Rest around (later ++ now) [] tasks (InRegister into (width (value_kind t expr)) plain ∷ slots) to) →
      Rest around now later (ValueOf expr ∷ tasks) slots from

  -- its address
  abbrev pub PlaceIs : ℕ → Type 0
  PlaceIs levels =
      (around : Around) → IsAround setting around → (made : Made) (from : ℕ) (expr : t.Expr) (spare into to : ℕ) → IsSpelled flow made from (go levels t around made from (Locates expr spare into) to) →
      (now later : List (Stop t)) (tasks : List (TaskIn t)) (slots : List Slot) (base : ℕ) →
      Ready around now later tasks base made.registers slots spare (left_of t (AsPlace (nat_eq into spare)) expr) →
      IsTarget made.registers slots base spare (left_of t (AsPlace (nat_eq into spare)) expr) into →
      ((plain : Bool) → Rest around (later ++ now) [] tasks (InRegister into 8 plain ∷ slots) to) → Rest around now later (AddressOf expr ∷ tasks) slots from

  -- an expression whose value is not used
  abbrev pub WorkIs : ℕ → Type 0
  WorkIs levels =
      (around : Around) → IsAround setting around → (made : Made) (from : ℕ) (expr : t.Expr) (spare to : ℕ) → IsSpelled flow made from (go levels t around made from (Works expr spare) to) →
      (now later : List (Stop t)) (tasks : List (TaskIn t)) (slots : List Slot) (base : ℕ) → Ready around now later tasks base made.registers slots spare (left_of t AsWork expr) →
      Rest around (later ++ now) [] tasks (let_go (value_kind t expr) ∷ slots) to → Rest around now later (ValueOf expr ∷ tasks) slots from

  -- a value as one of a kind
  abbrev pub ConvertIs : ℕ → Type 0
  ConvertIs levels =
      (around : Around) → IsAround setting around → (made : Made) (from : ℕ) (expr : t.Expr) (kind : Kind) (spare into to : ℕ) → IsSpelled flow made from (go levels t around made from (Converts expr kind spare into) to) →
      (now later : List (Stop t)) (tasks : List (TaskIn t)) (slots : List Slot) (base : ℕ) →
      Ready around now later tasks base made.registers slots spare (left_as t (left_of t) expr (nat_eq into spare) kind) →
      (is_void kind ≡ false → IsTarget made.registers slots base spare (left_as t (left_of t) expr (nat_eq into spare) kind) into) →
      ((plain : Bool) → IsAsPlain kind plain → Rest around (later ++ now) [] tasks (slot_of kind into plain ∷ slots) to) →
      Rest around now later (ValueOf expr ∷ Convert (value_kind t expr) kind ∷ tasks) slots from

  -- a condition as 1 or 0 in a register, and a value that becomes a `_Bool`
  abbrev pub AnswerIs : ℕ → Type 0
  AnswerIs levels =
      (around : Around) → IsAround setting around → (made : Made) (from : ℕ) (expr : t.Expr) (spare into size to : ℕ) → IsSpelled flow made from (go levels t around made from (Answers expr spare into size) to) →
      is_condition (t.form expr) ≡ true → (now later : List (Stop t)) (tasks : List (TaskIn t)) (slots : List Slot) (base : ℕ) → Ready around now later tasks base made.registers slots spare (left_of t AsTest expr) →
      is_free into slots ≡ true → Rest around (later ++ now) [] tasks (InRegister into size true ∷ slots) to → Rest around now later (ValueOf expr ∷ tasks) slots from

  abbrev pub TruthIs : ℕ → Type 0
  TruthIs levels =
      (around : Around) → IsAround setting around → (made : Made) (from : ℕ) (expr : t.Expr) (kind : Kind) (spare into size to : ℕ) → IsSpelled flow made from (go levels t around made from (Answers expr spare into size) to) →
      conversion (value_kind t expr) kind ≡ Tested → (now later : List (Stop t)) (tasks : List (TaskIn t)) (slots : List Slot) (base : ℕ) → Ready around now later tasks base made.registers slots spare (left_of t AsTest expr) →
      is_free into slots ≡ true → Rest around (later ++ now) [] tasks (InRegister into size true ∷ slots) to →
      Rest around now later (ValueOf expr ∷ Convert (value_kind t expr) kind ∷ tasks) slots from

  -- a test: where it does not hold, and where it does
  abbrev pub AskIs : ℕ → Type 0
  AskIs levels =
      (around : Around) → IsAround setting around → (made : Made) (from : ℕ) (expr : t.Expr) (spare off on to : ℕ) → IsSpelled flow made from (go levels t around made from (Asks expr spare off on) to) →
      (now later : List (Stop t)) (tasks : List (TaskIn t)) (slots : List Slot) (base : ℕ) → Ready around now later tasks base made.registers slots spare (left_of t AsTest expr) →
      Rest around (later ++ now) [] tasks (Truth false ∷ slots) off → Rest around (later ++ now) [] tasks (Truth true ∷ slots) on → Rest around now later (ValueOf expr ∷ tasks) slots from

  -- a test of a condition, whose value is known behind it; and one of a value that becomes a `_Bool`
  abbrev pub AskKnownIs : ℕ → Type 0
  AskKnownIs levels =
      (around : Around) → IsAround setting around → (made : Made) (from : ℕ) (expr : t.Expr) (spare off on to : ℕ) → IsSpelled flow made from (go levels t around made from (Asks expr spare off on) to) →
      is_condition (t.form expr) ≡ true → (now later : List (Stop t)) (tasks : List (TaskIn t)) (slots : List Slot) (base : ℕ) → Ready around now later tasks base made.registers slots spare (left_of t AsTest expr) →
      Rest around (later ++ now) [] tasks (KnownAs 0 ∷ slots) off → Rest around (later ++ now) [] tasks (KnownAs 1 ∷ slots) on → Rest around now later (ValueOf expr ∷ tasks) slots from

  abbrev pub AskTruthIs : ℕ → Type 0
  AskTruthIs levels =
      (around : Around) → IsAround setting around → (made : Made) (from : ℕ) (expr : t.Expr) (kind : Kind) (spare off on to : ℕ) → IsSpelled flow made from (go levels t around made from (Asks expr spare off on) to) →
      conversion (value_kind t expr) kind ≡ Tested → (now later : List (Stop t)) (tasks : List (TaskIn t)) (slots : List Slot) (base : ℕ) → Ready around now later tasks base made.registers slots spare (left_of t AsTest expr) →
      Rest around (later ++ now) [] tasks (KnownAs 0 ∷ slots) off → Rest around (later ++ now) [] tasks (KnownAs 1 ∷ slots) on →
      Rest around now later (ValueOf expr ∷ Convert (value_kind t expr) kind ∷ tasks) slots from

  pub record IsAt (levels : ℕ) : Type 0 where
    pub value : ValueIs levels
    pub place : PlaceIs levels
    pub work : WorkIs levels
    pub convert : ConvertIs levels
    pub answer : AnswerIs levels
    pub answer_truth : TruthIs levels
    pub ask : AskIs levels
    pub ask_known : AskKnownIs levels
    pub ask_truth : AskTruthIs levels
