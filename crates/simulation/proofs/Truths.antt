-- Whether values are true, and what that decides.
use Rattle.std.proofs.Common.{◌≡◌, ℕ, List, [], ◌∷◌, Bool, true, false, not, refl, ap, nat_eq}
use Rattle.cbase.specs.declared.place.Place.{Place}
use Rattle.bytes_core.specs.declared.word.Word.TheVariants.{Plain}
use Rattle.c_machine.specs.declared.kind.Kind.{Kind}
use Rattle.c_machine.specs.declared.task.Task.TheVariants.{ValueOf, Convert, Answer, AndThen, OrElse, Pick}
use Rattle.c_machine.specs.Text.{Text}
use Rattle.c_machine.specs.State.{TaskIn}
use Rattle.c_machine.specs.Expressions.{value_kind}
use Rattle.c_machine.specs.Words.{is_true, told}
use Rattle.flow.specs.declared.instruction.Instr.TheVariants as i
use Rattle.flow.specs.declared.flow_graph.Flow.{Flow}
use Rattle.flow.specs.Valid.{IsFlow}
use Rattle.simulation.specs.Edges.{One, Two}
use Rattle.simulation.specs.Names.{Name}
use Rattle.simulation.specs.Running.{Setting, Running}
use Rattle.simulation.specs.Slots.{Slot, InRegister, KnownAs, Truth, is_free}
use Rattle.simulation.proofs.Holding.{holds-known, holds-dropped, holds-truth}
use Rattle.simulation.proofs.Meeting.{Good, source_alone}
use Rattle.simulation.proofs.Turning.{tests_value}

module _ (t : Text) (flow : Flow) (setting : Setting) (valid : IsFlow flow) where
  abbrev Rest : ℕ → Running → List (List Name) → List (TaskIn t) → List Slot → ℕ → Type 0
  Rest n running scopes tasks slots point = Good t flow setting valid n running scopes tasks slots point

  pub asks : (n : ℕ) (running : Running) (scopes : List (List Name)) (tasks : List (TaskIn t)) (slots : List Slot) (point : ℕ) (register size size' test middle off on : ℕ) (plain : Bool) (place place' place'' : Place) →
      One flow point (i.Number test 0 size') middle place → is_free test (InRegister register size plain ∷ slots) ≡ true → is_free register slots ≡ true →
      Two flow middle (i.IfSame register test) off place' (i.IfDifferent register test) on place'' → Rest n running scopes tasks (Truth false ∷ slots) off →
      Rest n running scopes tasks (Truth true ∷ slots) on →
      Rest n running scopes tasks (InRegister register size plain ∷ slots) point
  asks n running scopes tasks slots point register size size' test middle off on plain place place' place'' edge free free' two good good' [] registers w v memory choices holds alike goes =
      absurd holds.stands
  asks n running scopes tasks slots point register size size' test middle off on plain place place' place'' edge free free' two good good' (word ∷ operands) registers w v memory choices holds alike goes =
      tests_value t flow setting valid n _ choices point registers v memory register size size' test middle off on plain place place' place'' word slots operands edge free free' two holds
      (λ registers' same holds'. good (word ∷ operands) registers' w v memory choices (holds-truth memory registers' slots word operands false (ap not same) holds') alike goes)
      (λ registers' other holds'. good' (word ∷ operands) registers' w v memory choices (holds-truth memory registers' slots word operands true (ap not other) holds') alike goes)

  pub is_trues : (n : ℕ) (running : Running) (scopes : List (List Name)) (tasks : List (TaskIn t)) (slots : List Slot) (point : ℕ) (bits : ℕ) →
      Rest n running scopes tasks (Truth (not (nat_eq bits 0)) ∷ slots) point →
      Rest n running scopes tasks (KnownAs bits ∷ slots) point
  is_trues n running scopes tasks slots point bits good [] registers w v memory choices holds alike goes = absurd holds.stands
  is_trues n running scopes tasks slots point bits good (word ∷ operands) registers w v memory choices holds alike goes =
      good (word ∷ operands) registers w v memory choices
      (holds-truth memory registers slots word operands (not (nat_eq bits 0)) (ap (is_true memory) holds.stands.0) (holds-dropped memory registers (KnownAs bits) slots word operands refl holds)) alike goes

  pub answers : (n : ℕ) (running : Running) (scopes : List (List Name)) (tasks : List (TaskIn t)) (slots : List Slot) (point : ℕ) (asked truth : Bool) (bits : ℕ) →
      told asked truth ≡ Plain bits → Rest n running scopes tasks (KnownAs bits ∷ slots) point →
      Rest n running scopes (Answer asked ∷ tasks) (Truth truth ∷ slots) point
  answers n running scopes tasks slots point asked truth bits is good [] registers w v memory choices holds alike goes = absurd holds.stands
  answers n running scopes tasks slots point asked truth bits is good (word ∷ operands) registers w v memory choices holds alike goes =
      source_alone t flow setting valid n _ choices _
      (rw (holds.stands.0, is)
      (good (Plain bits ∷ operands) registers w v memory choices
      (holds-known memory registers slots bits operands (holds-dropped memory registers (Truth truth) slots word operands refl holds)) alike goes))

  pub ands_on : (n : ℕ) (running : Running) (scopes : List (List Name)) (tasks : List (TaskIn t)) (slots : List Slot) (point : ℕ) (right : t.Expr) →
      Rest n running scopes (ValueOf right ∷ Answer true ∷ tasks) slots point →
      Rest n running scopes (AndThen right ∷ tasks) (Truth true ∷ slots) point
  ands_on n running scopes tasks slots point right good [] registers w v memory choices holds alike goes = absurd holds.stands
  ands_on n running scopes tasks slots point right good (word ∷ operands) registers w v memory choices holds alike goes =
      source_alone t flow setting valid n _ choices _
      (rw holds.stands.0 (good operands registers w v memory choices (holds-dropped memory registers (Truth true) slots word operands refl holds) alike goes))

  pub ors_off : (n : ℕ) (running : Running) (scopes : List (List Name)) (tasks : List (TaskIn t)) (slots : List Slot) (point : ℕ) (right : t.Expr) →
      Rest n running scopes (ValueOf right ∷ Answer true ∷ tasks) slots point →
      Rest n running scopes (OrElse right ∷ tasks) (Truth false ∷ slots) point
  ors_off n running scopes tasks slots point right good [] registers w v memory choices holds alike goes = absurd holds.stands
  ors_off n running scopes tasks slots point right good (word ∷ operands) registers w v memory choices holds alike goes =
      source_alone t flow setting valid n _ choices _
      (rw holds.stands.0 (good operands registers w v memory choices (holds-dropped memory registers (Truth false) slots word operands refl holds) alike goes))

  pub picks_one : (n : ℕ) (running : Running) (scopes : List (List Name)) (tasks : List (TaskIn t)) (slots : List Slot) (point : ℕ) (kind : Kind) (one other : t.Expr) →
      Rest n running scopes (ValueOf one ∷ Convert (value_kind t one) kind ∷ tasks) slots point →
      Rest n running scopes (Pick kind one other ∷ tasks) (Truth true ∷ slots) point
  picks_one n running scopes tasks slots point kind one other good [] registers w v memory choices holds alike goes = absurd holds.stands
  picks_one n running scopes tasks slots point kind one other good (word ∷ operands) registers w v memory choices holds alike goes =
      source_alone t flow setting valid n _ choices _
      (rw holds.stands.0 (good operands registers w v memory choices (holds-dropped memory registers (Truth true) slots word operands refl holds) alike goes))

  pub picks_other : (n : ℕ) (running : Running) (scopes : List (List Name)) (tasks : List (TaskIn t)) (slots : List Slot) (point : ℕ) (kind : Kind) (one other : t.Expr) →
      Rest n running scopes (ValueOf other ∷ Convert (value_kind t other) kind ∷ tasks) slots point →
      Rest n running scopes (Pick kind one other ∷ tasks) (Truth false ∷ slots) point
  picks_other n running scopes tasks slots point kind one other good [] registers w v memory choices holds alike goes = absurd holds.stands
  picks_other n running scopes tasks slots point kind one other good (word ∷ operands) registers w v memory choices holds alike goes =
      source_alone t flow setting valid n _ choices _
      (rw holds.stands.0 (good operands registers w v memory choices (holds-dropped memory registers (Truth false) slots word operands refl holds) alike goes))

  pub ands_off : (n : ℕ) (running : Running) (scopes : List (List Name)) (tasks : List (TaskIn t)) (slots : List Slot) (point : ℕ) (right : t.Expr) →
      Rest n running scopes tasks (KnownAs 0 ∷ slots) point →
      Rest n running scopes (AndThen right ∷ tasks) (Truth false ∷ slots) point
  ands_off n running scopes tasks slots point right good [] registers w v memory choices holds alike goes = absurd holds.stands
  ands_off n running scopes tasks slots point right good (word ∷ operands) registers w v memory choices holds alike goes =
      source_alone t flow setting valid n _ choices _
      (rw holds.stands.0 (good (Plain 0 ∷ operands) registers w v memory choices (holds-known memory registers slots 0 operands (holds-dropped memory registers (Truth false) slots word operands refl holds)) alike goes))

  pub ors_on : (n : ℕ) (running : Running) (scopes : List (List Name)) (tasks : List (TaskIn t)) (slots : List Slot) (point : ℕ) (right : t.Expr) →
      Rest n running scopes tasks (KnownAs 1 ∷ slots) point →
      Rest n running scopes (OrElse right ∷ tasks) (Truth true ∷ slots) point
  ors_on n running scopes tasks slots point right good [] registers w v memory choices holds alike goes = absurd holds.stands
  ors_on n running scopes tasks slots point right good (word ∷ operands) registers w v memory choices holds alike goes =
      source_alone t flow setting valid n _ choices _
      (rw holds.stands.0 (good (Plain 1 ∷ operands) registers w v memory choices (holds-known memory registers slots 1 operands (holds-dropped memory registers (Truth true) slots word operands refl holds)) alike goes))
