-- What is found of a value in a statement, and of `break`, `continue` and `return`.
use Rattle.std.proofs.Common.{◌≡◌, ◌<◌, ◌≤◌, ℕ, true, false, List, [], length, map, refl, sym, subst, append-nil, Option, None, Some, arith}
use Rattle.std.specs.Prelude.{option_map, IfSome}
use Rattle.cbase.specs.declared.abi.Abi.{Abi}
use Rattle.cbase.specs.declared.place.Place.{Place}
use Rattle.cbase.specs.declared.tree.expr.Expr.{Expr}
use Rattle.typing.specs.declared.ctypes.found.Broken.TheVariants.{Rule}
use Rattle.typing.specs.declared.fault.Fault.{Fault}
use Rattle.typing.specs.Faults.{fault}
use Rattle.typing.specs.Initialisers.{IsAsked}
use Rattle.typing.specs.Outcomes.{Handed}
use Rattle.typing.specs.Pieces.{Loaded}
use Rattle.typing.specs.Statements.{Returned, LeavesLoop, ReturnsNothing, Returns, faults_of_value, return_faults}
use Rattle.typing.specs.Typing.{PieceIs, ValueUsed, Finds, ValueTaken, ValueRefused, LoopLeft, NoLoopToLeave, NothingReturned, ValueReturned}
use Rattle.expressions.specs.declared.found.Found.{Found}
use Rattle.expressions.specs.declared.found.Found.TheVariants.{Passes as FoundToPass, Refused as FoundRefused}
use Rattle.expressions.specs.declared.known.Known.{Known}
use Rattle.expressions.specs.Context.{Context, declared, Agrees}
use Rattle.expressions.specs.Found.{an_operand, nothing}
use Rattle.expressions.specs.Numbers.{Numbering, known_at, handed_at}
use Rattle.expressions.specs.Language.{language}
use Rattle.expressions.specs.Settled.{IsFirstOf}
use Rattle.expressions.specs.Walked.{Passed, Stopped, Walked, Says}
use Rattle.expressions.proofs.Growth.{grows_same, grows_longer}
use Rattle.expressions.proofs.Walking.{passed_of, stopped_of}
use Rattle.items.specs.declared.statements.demands.Demand.{Demand}
use Rattle.items.specs.declared.statements.demands.Demand.TheVariants as by_number
use Rattle.items.specs.statements.Demands.{demand_at, IsDemandBelow}
use Rattle.items.specs.statements.Parts.{SaysPart, SaysValue, SaysOptional}
use Rattle.items.proofs.statements.Enclosed.{retold}

-- the form of a constant is asked of no value in a statement
not_asked : (demand : Demand) (n : Numbering) (handed : List Handed) (expr : Expr) → IsAsked (demand_at n demand) handed expr true
not_asked by_number.Condition n handed expr = refl
not_asked by_number.Dropped n handed expr = refl
not_asked (by_number.Returned word result) n handed expr = refl

-- numbers that are given out later stand behind
below_more : (old new : ℕ) → old ≤ new → (result : Option ℕ) → IfSome result (λ number. number < old) → IfSome result (λ number. number < new)
below_more old new longer None below = tt
below_more old new longer (Some number) below = omega (arith, longer, below)

demand_below_more : (old new : ℕ) → old ≤ new → (demand : Demand) → IsDemandBelow old demand → IsDemandBelow new demand
demand_below_more old new longer by_number.Condition below = tt
demand_below_more old new longer by_number.Dropped below = tt
demand_below_more old new longer (by_number.Returned word result) below = below_more old new longer result below

module _ (abi : Abi) (demand : Demand) (expr : Expr) (old new : Context) where
  abbrev SaysLoaded : Found Known → Type 0
  SaysLoaded found = Walked (Says abi (λ o. PieceIs (Loaded expr) o)) an_operand old new found

  pub demand_kept : (known : Known) (found : Found Known) → found ≡ FoundToPass known → SaysLoaded found → IsDemandBelow (length old.types) demand → IsDemandBelow (length new.types) demand
  demand_kept known found is walked =
      demand_below_more (length old.types) (length new.types) (grows_longer old new (passed_of (Says abi (λ o. PieceIs (Loaded expr) o)) an_operand old new known found is walked).grows) demand

  pub loaded_below : (known : Known) (found : Found Known) → found ≡ FoundToPass known → SaysLoaded found → known.ctype < length new.types
  loaded_below known found is walked = (passed_of (Says abi (λ o. PieceIs (Loaded expr) o)) an_operand old new known found is walked).below

  -- what is broken at a value
  abbrev AtValue : Known → Option Fault → Type 0
  AtValue known broken = (n : Numbering) → Agrees n new → IsFirstOf (faults_of_value new.structs (demand_at n demand) true expr.place (known_at n known)) broken

  pub value_passes : (known : Known) (found : Found Known) (broken : Option Fault) → found ≡ FoundToPass known → SaysLoaded found → AtValue known broken → broken ≡ None
      → Passed (SaysValue abi demand expr) nothing old new tt
  value_passes known found broken is walked at none =
      let passed = passed_of (Says abi (λ o. PieceIs (Loaded expr) o)) an_operand old new known found is walked in
      let whole : AtValue known None = subst (λ (b : Option Fault). AtValue known b) none at in
      record {
        rows = passed.rows;
        handed = passed.handed;
        grows = passed.grows;
        below = tt;
        found = λ n agrees. ValueTaken true (passed.found n agrees) (not_asked demand n (map (handed_at n) passed.rows) expr) refl (whole n agrees, refl, refl);
      }

  pub value_broken : (known : Known) (found : Found Known) (broken : Option Fault) (first : Fault) → found ≡ FoundToPass known → SaysLoaded found → AtValue known broken → broken ≡ Some first
      → Stopped (SaysValue abi demand expr) old new first
  value_broken known found broken first is walked at some =
      let passed = passed_of (Says abi (λ o. PieceIs (Loaded expr) o)) an_operand old new known found is walked in
      let whole : AtValue known (Some first) = subst (λ (b : Option Fault). AtValue known b) some at in
      record {
        grows = passed.grows;
        found = λ n agrees. ValueTaken true (passed.found n agrees) (not_asked demand n (map (handed_at n) passed.rows) expr) refl (whole n agrees);
      }

  pub value_refused : (found : Found Known) (first : Fault) → found ≡ FoundRefused first → SaysLoaded found → Stopped (SaysValue abi demand expr) old new first
  value_refused found first is walked =
      let stopped = stopped_of (Says abi (λ o. PieceIs (Loaded expr) o)) an_operand old new first found is walked in
      record { grows = stopped.grows; found = λ n agrees. ValueRefused (stopped.found n agrees) }

-- a value that is left out
pub left_out : (abi : Abi) (demand : Demand) (expr : Option Expr) (context : Context) → expr ≡ None → Passed (SaysOptional abi demand expr) nothing context context tt
left_out abi demand expr context none = subst (λ (e : Option Expr). Passed (SaysOptional abi demand e) nothing context context tt) (sym none)
    (record { rows = []; handed = sym (append-nil context.handed); grows = grows_same context; below = tt; found = λ n agrees. (refl, refl) })

module _ (abi : Abi) (context : Context) (word : Place) where
  -- `break` and `continue`
  pub loop_left : context.environment.in_loop ≡ true → Passed (SaysPart abi (LeavesLoop word)) nothing context context tt
  loop_left in_loop = record { rows = []; handed = sym (append-nil context.handed); grows = grows_same context; below = tt; found = λ n agrees. LoopLeft in_loop }

  pub no_loop_to_leave : context.environment.in_loop ≡ false → Stopped (SaysPart abi (LeavesLoop word)) context context (fault word (Rule 10))
  no_loop_to_leave outside = record { grows = grows_same context; found = λ n agrees. NoLoopToLeave outside }

  -- `return` without a value
  abbrev AtReturn : Option Fault → Type 0
  AtReturn broken = (n : Numbering) → Agrees n context → IsFirstOf (return_faults context.structs word (option_map n.ctype context.environment.result)) broken

  pub nothing_returned : (broken : Option Fault) → AtReturn broken → broken ≡ None → Passed (SaysPart abi (ReturnsNothing word)) nothing context context tt
  nothing_returned broken at none =
      let whole : AtReturn None = subst (λ (b : Option Fault). AtReturn b) none at in
      record { rows = []; handed = sym (append-nil context.handed); grows = grows_same context; below = tt; found = λ n agrees. NothingReturned refl (whole n agrees, refl, refl) }

  pub return_broken : (broken : Option Fault) (first : Fault) → AtReturn broken → broken ≡ Some first → Stopped (SaysPart abi (ReturnsNothing word)) context context first
  return_broken broken first at some =
      let whole : AtReturn (Some first) = subst (λ (b : Option Fault). AtReturn b) some at in
      record { grows = grows_same context; found = λ n agrees. NothingReturned refl (whole n agrees) }

-- `return` with one
pub value_returned : (abi : Abi) (word : Place) (expr : Expr) (result : Option ℕ) (old new : Context) (found : Found (Unit {0})) → result ≡ old.environment.result
    → Walked (SaysValue abi (by_number.Returned word result) expr) nothing old new found → Walked (SaysPart abi (Returns word expr)) nothing old new found
value_returned abi word expr result old new found is = retold (SaysValue abi (by_number.Returned word result) expr) (SaysPart abi (Returns word expr)) nothing old new found
    λ n outcome says. ValueReturned (subst (λ (r : Option ℕ). Finds (language abi n) (declared old) (ValueUsed (Returned word (option_map n.ctype r)) expr outcome) (declared new)) is says)
