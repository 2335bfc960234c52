-- What an operator answers on a table of types is what a context answers that has the table.
use Rattle.std.proofs.Common.{◌≡◌, ℕ, ◌<◌, ◌≤◌, List, length, slice_get, refl, sym, subst, ap, ◌∙◌, arith, Some}
use Rattle.std.specs.Prelude.{Result, Ok, Err, IfOk, OnErr}
use Rattle.std.proofs.lemmas.Option.{slice_get_within}
use Rattle.cbase.specs.declared.ctype.CType.{CType}
use Rattle.cbase.specs.declared.structs.StructDef.{StructDef}
use Rattle.typing.specs.ctypes.Structs.{TypeTable}
use Rattle.typing.specs.ctypes.Table.{type_at, Interns}
use Rattle.typing.specs.declared.environment.environment.Environment.{Environment}
use Rattle.typing.specs.environment.Bounds.{AreBelow}
use Rattle.typing.proofs.environment.Bounds.{bounds_grow}
use Rattle.typing.specs.declared.ctypes.found.Outcome.{Outcome}
use Rattle.typing.specs.declared.ctypes.found.Outcome.TheVariants.{Typed as OutcomeTyped, Broken as OutcomeBroken}
use Rattle.typing.specs.declared.ctypes.operand.Operand.{Operand as OperandByNumber}
use Rattle.typing.specs.ctypes.Broken.{Judgement, Typed, Breaks}
use Rattle.typing.specs.ctypes.Kinds.{kind_of}
use Rattle.typing.specs.ctypes.Operands.{Operand, Answers}
use Rattle.expressions.specs.Context.{Context, Agrees, OnlyTypes}
use Rattle.expressions.specs.Numbers.{Numbering}
use Rattle.expressions.specs.Operated.{Operates, Numbers}
use Rattle.expressions.proofs.Growth.{keeps_length, grows_keeps, agrees_before_types}
use Rattle.expressions.proofs.Meanings.{of_one, of_two, of_three}

-- a context with another table in place of its own
abbrev pub with_table : TypeTable → Context → Context
with_table table context = record context { types = table.types; structs = table.structs }

-- an operand whose type is this
abbrev pub operand_as : OperandByNumber → List StructDef → CType → Operand
operand_as operand structs t = record { ctype = t; kind = kind_of structs t; lvalue = operand.lvalue; null = operand.null }

module _ (old : Context) (table : TypeTable) (structs : table.structs ≡ old.structs) where
  only_types_in : ((number : ℕ) (t : CType) → slice_get old.types number ≡ Some t → slice_get table.types number ≡ Some t) → OnlyTypes old (with_table table old)
  only_types_in keeps = record { types = keeps; structs = structs; environment = refl; handed = refl }

  operates : (before : Judgement) (judge : Numbering → Judgement) → ((n : Numbering) → Agrees n old → judge n ≡ before)
      → (outcome : Outcome) → Answers old.types before table.types outcome → Operates judge old (with_table table old) outcome
  operates (Typed t) judge meant (OutcomeTyped number) answers =
      let only : OnlyTypes old (with_table table old) = only_types_in (grows_keeps old.types t table.types answers.1) in
      record {
        only_types = only;
        below = slice_get_within table.types number t answers.0;
        judged = λ n agrees. ap Typed (agrees.types number t answers.0) ∙ sym (meant n (agrees_before_types old (with_table table old) n only agrees));
      }
  operates (Typed t) judge meant (OutcomeBroken told) answers = absurd answers
  operates (Breaks broken) judge meant (OutcomeTyped number) answers = absurd answers
  operates (Breaks broken) judge meant (OutcomeBroken told) answers =
      let types : table.types ≡ old.types = answers.1 in
      let only : OnlyTypes old (with_table table old) = only_types_in (λ number t is. rw types is) in
      record {
        only_types = only;
        below = tt;
        judged = λ n agrees. ap Breaks answers.0 ∙ sym (meant n (agrees_before_types old (with_table table old) n only agrees));
      }

  all_operate : {E : Type 0} (before : Judgement) (judge : Numbering → Judgement) → ((n : Numbering) → Agrees n old → judge n ≡ before)
      → (result : Result Outcome E) → IfOk result (λ outcome. Answers old.types before table.types outcome)
      → IfOk result (λ outcome. Operates judge old (with_table table old) outcome)
  all_operate before judge meant (Ok outcome) answers = operates before judge meant outcome answers
  all_operate before judge meant (Err error) answers = tt

  -- a type that gets a number
  numbered : {E : Type 0} (t : CType) (u : Numbering → CType) → ((n : Numbering) → Agrees n old → u n ≡ t)
      → (result : Result ℕ E) → IfOk result (λ number. Interns old.types t table.types number)
      → IfOk result (λ number. Numbers u old (with_table table old) number)
  numbered t u meant (Ok number) interned =
      let only : OnlyTypes old (with_table table old) = only_types_in (grows_keeps old.types t table.types interned.1) in
      record {
        only_types = only;
        below = slice_get_within table.types number t interned.0;
        meant = λ n agrees. agrees.types number t interned.0 ∙ sym (meant n (agrees_before_types old (with_table table old) n only agrees));
      }
  numbered t u meant (Err error) interned = tt

module _ {view now : Context} (same : view ≡ now) (table : TypeTable) (structs : table.structs ≡ view.structs) where
  all_operate_now : {E : Type 0} (before : Judgement) (judge : Numbering → Judgement) → ((n : Numbering) → Agrees n now → judge n ≡ before)
      → (result : Result Outcome E) → IfOk result (λ outcome. Answers view.types before table.types outcome)
      → IfOk result (λ outcome. Operates judge now (with_table table view) outcome)
  all_operate_now before judge meant result answers =
      subst (λ (at : Context). ((n : Numbering) → Agrees n at → judge n ≡ before) → IfOk result (λ outcome. Operates judge at (with_table table view) outcome)) same
      (λ m. all_operate view table structs before judge m result answers) meant

  -- operations on one, two and three types
  pub operates_one : {E : Type 0} (judge : List StructDef → CType → Judgement) (first : ℕ) → first < length now.types → (result : Result Outcome E)
      → IfOk result (λ outcome. Answers view.types (judge view.structs (type_at view.types first)) table.types outcome)
      → IfOk result (λ outcome. Operates (λ n. judge now.structs (n.ctype first)) now (with_table table view) outcome)
  operates_one judge first below result answers =
      all_operate_now (judge view.structs (type_at view.types first)) (λ n. judge now.structs (n.ctype first)) (of_one same judge first below) result answers

  pub operates_two : {E : Type 0} (judge : List StructDef → CType → CType → Judgement) (first second : ℕ) → first < length now.types → second < length now.types
      → (result : Result Outcome E)
      → IfOk result (λ outcome. Answers view.types (judge view.structs (type_at view.types first) (type_at view.types second)) table.types outcome)
      → IfOk result (λ outcome. Operates (λ n. judge now.structs (n.ctype first) (n.ctype second)) now (with_table table view) outcome)
  operates_two judge first second below second_below result answers =
      all_operate_now (judge view.structs (type_at view.types first) (type_at view.types second)) (λ n. judge now.structs (n.ctype first) (n.ctype second))
      (of_two same judge first second below second_below) result answers

  pub operates_three : {E : Type 0} (judge : List StructDef → CType → CType → CType → Judgement) (first second third : ℕ)
      → first < length now.types → second < length now.types → third < length now.types → (result : Result Outcome E)
      → IfOk result (λ outcome. Answers view.types (judge view.structs (type_at view.types first) (type_at view.types second) (type_at view.types third)) table.types outcome)
      → IfOk result (λ outcome. Operates (λ n. judge now.structs (n.ctype first) (n.ctype second) (n.ctype third)) now (with_table table view) outcome)
  operates_three judge first second third below second_below third_below result answers =
      all_operate_now (judge view.structs (type_at view.types first) (type_at view.types second) (type_at view.types third))
      (λ n. judge now.structs (n.ctype first) (n.ctype second) (n.ctype third)) (of_three same judge first second third below second_below third_below) result answers

  -- a type that gets a number
  pub numbered_now : {E : Type 0} (t : CType) (u : Numbering → CType) → ((n : Numbering) → Agrees n now → u n ≡ t)
      → (result : Result ℕ E) → IfOk result (λ number. Interns view.types t table.types number)
      → IfOk result (λ number. Numbers u now (with_table table view) number)
  numbered_now t u meant result interned =
      subst (λ (at : Context). ((n : Numbering) → Agrees n at → u n ≡ t) → IfOk result (λ number. Numbers u at (with_table table view) number)) same
      (λ m. numbered view table structs t u m result interned) meant

-- the numbers of an environment stay below
pub numbered_below : {E : Type 0} (old new : TypeTable) (env : Environment) (t : CType) (result : Result ℕ E)
    → IfOk result (λ number. Interns old.types t new.types number) → OnErr result (new ≡ old) → AreBelow (length old.types) env → AreBelow (length new.types) env
numbered_below old new env t (Ok number) interned stays below =
    bounds_grow (length old.types) (length new.types) env (keeps_length old.types new.types (grows_keeps old.types t new.types interned.1)) below
numbered_below old new env t (Err error) interned stays below =
    let same : new ≡ old = stays in
    rw same below

answered_longer : (old new : List CType) (before : Judgement) (outcome : Outcome) → Answers old before new outcome → length old ≤ length new
answered_longer old new (Typed t) (OutcomeTyped number) answers = keeps_length old new (grows_keeps old t new answers.1)
answered_longer old new (Typed t) (OutcomeBroken told) answers = absurd answers
answered_longer old new (Breaks broken) (OutcomeTyped number) answers = absurd answers
answered_longer old new (Breaks broken) (OutcomeBroken told) answers =
    let same : new ≡ old = answers.1 in
    omega (arith, ap length same)

pub answered_below : {E : Type 0} (old new : TypeTable) (env : Environment) (before : Judgement) (result : Result Outcome E)
    → IfOk result (λ outcome. Answers old.types before new.types outcome) → OnErr result (new ≡ old) → AreBelow (length old.types) env → AreBelow (length new.types) env
answered_below old new env before (Ok outcome) answers stays below =
    bounds_grow (length old.types) (length new.types) env (answered_longer old.types new.types before outcome answers) below
answered_below old new env before (Err error) answers stays below =
    let same : new ≡ old = stays in
    rw same below
