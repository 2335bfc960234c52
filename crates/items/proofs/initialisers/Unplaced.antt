-- What is found of parts for which there is no place.
use Rattle.std.proofs.Common.{◌≡◌, ◌<◌, true, List, [], ◌∷◌, length, get_or, refl, sym, subst, arith, Option, None, Result, Ok, Err, IfOk}
use Rattle.cbase.specs.declared.abi.Abi.{Abi}
use Rattle.cbase.specs.declared.no_memory.NoMemory.{NoMemory}
use Rattle.cbase.specs.declared.place.Place.{Place}
use Rattle.cbase.specs.declared.tree.expr.Expr.{Expr}
use Rattle.cbase.specs.declared.tree.expr.ExprForm.TheOpen.{Value as ValueForm, Braces}
use Rattle.cbase.specs.declared.tree.expr.ExprForm.TheViews.{out-Init, out-InitPart}
use Rattle.cbase.specs.declared.tree.init.Init.{Init}
use Rattle.cbase.specs.declared.tree.init.InitPart.{InitPart}
use Rattle.typing.specs.declared.ctypes.found.Broken.TheVariants.{Rule}
use Rattle.typing.specs.declared.fault.Fault.{Fault}
use Rattle.typing.specs.Faults.{fault}
use Rattle.typing.specs.Outcomes.{Outcome, Refused}
use Rattle.typing.specs.Pieces.{Loaded}
use Rattle.typing.specs.Statements.{Surplus as AsSurplus}
use Rattle.typing.specs.Typing.{PieceIs, ValueUsed, SurplusAre, Finds, ValueTaken, ValueRefused, NoSurplusValue, SurplusPart, SurplusValue, SurplusBraces}
use Rattle.expressions.specs.declared.found.Found.{Found}
use Rattle.expressions.specs.declared.found.Found.TheVariants.{Passes as FoundToPass, Refused as FoundRefused}
use Rattle.expressions.specs.declared.known.Known.{Known as KnownByNumber}
use Rattle.expressions.specs.declared.part.Slot.{Slot as SlotByNumber}
use Rattle.expressions.specs.declared.part.Subject.{Subject as SubjectKept}
use Rattle.expressions.specs.Context.{Context, Declared, declared}
use Rattle.expressions.specs.Found.{an_operand, nothing}
use Rattle.expressions.specs.Language.{language}
use Rattle.expressions.specs.Nests.{SaysInitialiser}
use Rattle.expressions.specs.Numbers.{Numbering}
use Rattle.expressions.specs.Walked.{Stopped, Walked, Says}
use Rattle.expressions.proofs.Firsts.{first_alone}
use Rattle.expressions.proofs.Growth.{grows_same}
use Rattle.expressions.proofs.Walking.{passed_of, stopped_of}
use Rattle.items.specs.initialisers.Surplus.{HasNone, Leads}

-- parts of which the first is a value, or has braces of its own
pub begin_with_value : (parts : List InitPart) (part : InitPart) (value : Expr) (after_it : Place) → 0 < length parts → part ≡ get_or parts 0 part
    → out-Init (out-InitPart part).init ≡ ValueForm value after_it → Leads parts value
begin_with_value [] part value after_it some is form = absurd (omega (arith, some))
begin_with_value (first ∷ parts) part value after_it some is form = λ abi n before after place outcome found.
    let same : part ≡ first = is in
    subst (λ (p : InitPart). Finds (language abi n) before (SurplusAre place (p ∷ parts) outcome) after) same (SurplusPart refl (SurplusValue form found))

pub begin_with_braces : (parts inner : List InitPart) (part : InitPart) (value : Expr) → 0 < length parts → part ≡ get_or parts 0 part
    → out-Init (out-InitPart part).init ≡ Braces inner → Leads inner value → Leads parts value
begin_with_braces [] inner part value some is form leads = absurd (omega (arith, some))
begin_with_braces (first ∷ parts) inner part value some is form leads = λ abi n before after place outcome found.
    let same : part ≡ first = is in
    subst (λ (p : InitPart). Finds (language abi n) before (SurplusAre place (p ∷ parts) outcome) after) same
    (SurplusPart refl (SurplusBraces form (leads abi n before after place outcome found)))

pub begin_with_nothing : (parts inner : List InitPart) (part : InitPart) → 0 < length parts → part ≡ get_or parts 0 part
    → out-Init (out-InitPart part).init ≡ Braces inner → HasNone inner → HasNone parts
begin_with_nothing [] inner part some is form none = absurd (omega (arith, some))
begin_with_nothing (first ∷ parts) inner part some is form none = λ abi n env place.
    let same : part ≡ first = is in
    subst (λ (p : InitPart). Finds (language abi n) env (SurplusAre place (p ∷ parts) (Refused (fault place (Rule 5)))) env) same
    (SurplusPart refl (SurplusBraces form (none abi n env place)))

pub no_parts : (parts : List InitPart) → length parts ≡ 0 → HasNone parts
no_parts [] none = λ abi n env place. NoSurplusValue
no_parts (first ∷ parts) none = absurd (omega (arith, none))

module _ (abi : Abi) (place : Place) (parts : List InitPart) (old : Context) where
  -- nothing stands in them
  pub surplus_of_nothing : HasNone parts → Stopped (Says abi (λ o. SurplusAre place parts o)) old old (fault place (Rule 5))
  surplus_of_nothing none = record { grows = grows_same old; found = λ n agrees. none abi n (declared old) place }

  module _ (new : Context) (expr : Expr) where
    -- what is found of the first value in them
    by_value : (found : Found (Unit {0})) → Leads parts expr → Walked (Says abi (λ o. ValueUsed AsSurplus expr o)) nothing old new found
        → Walked (Says abi (λ o. SurplusAre place parts o)) nothing old new found
    by_value (FoundToPass told) leads passed = record {
      rows = passed.rows;
      handed = passed.handed;
      grows = passed.grows;
      below = tt;
      found = λ n agrees. leads abi n (declared old) (declared new) place _ (passed.found n agrees);
    }
    by_value (FoundRefused broken) leads stopped = record {
      grows = stopped.grows;
      found = λ n agrees. leads abi n (declared old) (declared new) place _ (stopped.found n agrees);
    }

    pub surplus_of_value : (r : Result (Found (Unit {0})) NoMemory) → Leads parts expr
        → IfOk r (λ found. Walked (Says abi (λ o. ValueUsed AsSurplus expr o)) nothing old new found)
        → IfOk r (λ found. Walked (Says abi (λ o. SurplusAre place parts o)) nothing old new found)
    surplus_of_value (Ok found) leads walked = by_value found leads walked
    surplus_of_value (Err error) leads walked = tt

module _ (abi : Abi) (value : Expr) (old new : Context) (operand : Found KnownByNumber) where
  -- a value that is walked is refused then
  pub value_unwanted : (known : KnownByNumber) → operand ≡ FoundToPass known → Walked (Says abi (λ o. PieceIs (Loaded value) o)) an_operand old new operand
      → Stopped (Says abi (λ o. ValueUsed AsSurplus value o)) old new (fault value.place (Rule 5))
  value_unwanted known is walked =
      let passed = passed_of (Says abi (λ o. PieceIs (Loaded value) o)) an_operand old new known operand is walked in
      record { grows = passed.grows; found = λ n agrees. ValueTaken true (passed.found n agrees) refl refl (first_alone (fault value.place (Rule 5) ∷ []) (fault value.place (Rule 5)) refl) }

  pub value_stopped : (first : Fault) → operand ≡ FoundRefused first → Walked (Says abi (λ o. PieceIs (Loaded value) o)) an_operand old new operand
      → Stopped (Says abi (λ o. ValueUsed AsSurplus value o)) old new first
  value_stopped first is walked =
      let stopped = stopped_of (Says abi (λ o. PieceIs (Loaded value) o)) an_operand old new first operand is walked in
      record { grows = stopped.grows; found = λ n agrees. ValueRefused (stopped.found n agrees) }

-- an initialiser for which there is no place
module _ (abi : Abi) (subject : SubjectKept) (slot : Option SlotByNumber) (init : Init) (old new : Context) (none : slot ≡ None) where
  abbrev SaysInit : Option SlotByNumber → Numbering → Declared → Outcome (Unit {0}) → Declared → Type 0
  SaysInit set = SaysInitialiser abi subject set init

  value_found : (value : Expr) (after_it : Place) (found : Found (Unit {0})) → out-Init init ≡ ValueForm value after_it → Walked (Says abi (λ o. ValueUsed AsSurplus value o)) nothing old new found
      → Walked (SaysInit None) nothing old new found
  value_found value after_it (FoundToPass told) is passed =
      record { rows = passed.rows; handed = passed.handed; grows = passed.grows; below = tt; found = λ n agrees. SurplusValue is (passed.found n agrees) }
  value_found value after_it (FoundRefused first) is stopped = record { grows = stopped.grows; found = λ n agrees. SurplusValue is (stopped.found n agrees) }

  parts_found : (parts : List InitPart) (found : Found (Unit {0})) → out-Init init ≡ Braces parts → Walked (Says abi (λ o. SurplusAre subject.place parts o)) nothing old new found
      → Walked (SaysInit None) nothing old new found
  parts_found parts (FoundToPass told) is passed =
      record { rows = passed.rows; handed = passed.handed; grows = passed.grows; below = tt; found = λ n agrees. SurplusBraces is (passed.found n agrees) }
  parts_found parts (FoundRefused first) is stopped = record { grows = stopped.grows; found = λ n agrees. SurplusBraces is (stopped.found n agrees) }

  -- a value
  pub unplaced_value : (value : Expr) (after_it : Place) (r : Result (Found (Unit {0})) NoMemory) → out-Init init ≡ ValueForm value after_it
      → IfOk r (λ found. Walked (Says abi (λ o. ValueUsed AsSurplus value o)) nothing old new found) → IfOk r (λ found. Walked (SaysInit slot) nothing old new found)
  unplaced_value value after_it (Ok found) is walked = subst (λ (set : Option SlotByNumber). Walked (SaysInit set) nothing old new found) (sym none) (value_found value after_it found is walked)
  unplaced_value value after_it (Err error) is walked = tt

  -- and parts in braces
  pub unplaced_parts : (parts : List InitPart) (r : Result (Found (Unit {0})) NoMemory) → out-Init init ≡ Braces parts
      → IfOk r (λ found. Walked (Says abi (λ o. SurplusAre subject.place parts o)) nothing old new found) → IfOk r (λ found. Walked (SaysInit slot) nothing old new found)
  unplaced_parts parts (Ok found) is walked = subst (λ (set : Option SlotByNumber). Walked (SaysInit set) nothing old new found) (sym none) (parts_found parts found is walked)
  unplaced_parts parts (Err error) is walked = tt
