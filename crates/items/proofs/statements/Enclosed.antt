-- What is found of a part of a tree, said of what it lies in, and of a scope of its own.
use Rattle.std.proofs.Common.{◌≡◌, List, ◌++◌, map, refl, sym, ap, subst, ◌∙◌, Bool, true, Result, Ok, Err, IfOk, arith}
use Rattle.cbase.specs.declared.no_memory.NoMemory.{NoMemory}
use Rattle.typing.specs.environment.Environment.{loop_set}
use Rattle.typing.specs.Outcomes.{Outcome, Passes, Refused}
use Rattle.expressions.specs.declared.found.Found.{Found}
use Rattle.expressions.specs.declared.found.Found.TheVariants.{Passes as FoundToPass, Refused as FoundRefused}
use Rattle.expressions.specs.declared.handed_row.HandedRow.{HandedRow}
use Rattle.expressions.specs.Context.{Context, declared, Grows}
use Rattle.expressions.specs.Found.{Reading, nothing}
use Rattle.expressions.specs.Numbers.{Numbering, handed_at}
use Rattle.expressions.specs.Language.{entered, left}
use Rattle.expressions.specs.Walked.{Tells, Walked}
use Rattle.expressions.proofs.Blocks.{inside, outside}
use Rattle.expressions.proofs.Growth.{agrees_before, grows_trans}

-- what follows of all that is found follows of a function's result
pub of_result : {A : Type 0} (P Q : A → Type 0) (r : Result A NoMemory) → ((found : A) → P found → Q found) → IfOk r P → IfOk r Q
of_result P Q (Ok found) follows holds = follows found holds
of_result P Q (Err error) follows holds = tt

-- a context from which on the place lies in a loop, or in none
abbrev pub looped : Bool → Context → Context
looped in_loop context = record context { environment = loop_set in_loop context.environment }

module _ {A : Type 0} (first second : Tells A) where
  -- what is found between two places, as another relation says it
  pub retold : {B : Type 0} (reading : Reading B A) (old new : Context) (found : Found B)
      → ((n : Numbering) (outcome : Outcome A) → first n (declared old) outcome (declared new) → second n (declared old) outcome (declared new))
      → Walked first reading old new found → Walked second reading old new found
  retold reading old new (FoundToPass told) rule passed = record {
    rows = passed.rows;
    handed = passed.handed;
    grows = passed.grows;
    below = passed.below;
    found = λ n agrees. rule n (Passes (reading.means n told) (map (handed_at n) passed.rows)) (passed.found n agrees);
  }
  retold reading old new (FoundRefused fault) rule stopped = record { grows = stopped.grows; found = λ n agrees. rule n (Refused fault) (stopped.found n agrees) }

module _ (first second : Tells (Unit {0})) where
  -- what is found inside of something
  enclosed : (old mid late new : Context) (found : Found (Unit {0})) → Grows old mid → Grows late new → mid.handed ≡ old.handed → new.handed ≡ late.handed
      → ((n : Numbering) (outcome : Outcome (Unit {0})) → first n (declared mid) outcome (declared late) → second n (declared old) outcome (declared new))
      → Walked first nothing mid late found → Walked second nothing old new found
  enclosed old mid late new (FoundToPass told) opens closes front end rule passed = record {
    rows = passed.rows;
    handed = end ∙ (passed.handed ∙ ap (λ (handed : List HandedRow). handed ++ passed.rows) front);
    grows = grows_trans old mid new opens (grows_trans mid late new passed.grows closes);
    below = tt;
    found = λ n agrees. rule n (Passes tt (map (handed_at n) passed.rows)) (passed.found n (agrees_before late new n closes agrees));
  }
  enclosed old mid late new (FoundRefused fault) opens closes front end rule stopped = record {
    grows = grows_trans old mid new opens (grows_trans mid late new stopped.grows closes);
    found = λ n agrees. rule n (Refused fault) (stopped.found n (agrees_before late new n closes agrees));
  }

  -- in a scope of its own
  pub in_scope : (old mid late new : Context) (found : Found (Unit {0})) → mid ≡ inside old → new ≡ outside late
      → ((n : Numbering) (outcome : Outcome (Unit {0})) → first n (entered (declared old)) outcome (declared late) → second n (declared old) outcome (left (declared late)))
      → Walked first nothing mid late found → Walked second nothing old new found
  in_scope old mid late new found opened closed rule walked =
      subst (λ (after : Context). Walked second nothing old after found) (sym closed)
      (enclosed old (inside old) late (outside late) found
      (record { types = λ number t is. is; structs = λ number s is complete. is; longer = omega arith; signatures = λ number s is. is })
      (record { types = λ number t is. is; structs = λ number s is complete. is; longer = omega arith; signatures = λ number s is. is })
      refl refl rule
      (subst (λ (before : Context). Walked first nothing before late found) opened walked))

  -- in a scope of its own that lies in a loop
  pub in_loop_scope : (old mid late new : Context) (found : Found (Unit {0})) → mid ≡ looped true (inside old) → new ≡ looped old.environment.in_loop (outside late)
      → ((n : Numbering) (outcome : Outcome (Unit {0})) → first n (declared (looped true (inside old))) outcome (declared late)
      → second n (declared old) outcome (declared (looped old.environment.in_loop (outside late))))
      → Walked first nothing mid late found → Walked second nothing old new found
  in_loop_scope old mid late new found opened closed rule walked =
      subst (λ (after : Context). Walked second nothing old after found) (sym closed)
      (enclosed old (looped true (inside old)) late (looped old.environment.in_loop (outside late)) found
      (record { types = λ number t is. is; structs = λ number s is complete. is; longer = omega arith; signatures = λ number s is. is })
      (record { types = λ number t is. is; structs = λ number s is complete. is; longer = omega arith; signatures = λ number s is. is })
      refl refl rule
      (subst (λ (before : Context). Walked first nothing before late found) opened walked))
