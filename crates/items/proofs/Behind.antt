-- What is found of parts that stand one behind the other, of rows that are handed on behind a part, and of what is closed behind it.
use Rattle.std.proofs.Common.{◌≡◌, ◌∙◌, List, ◌++◌, map, sym, subst, Result, Ok, Err, IfOk}
use Rattle.std.proofs.lemmas.List.{map-append}
use Rattle.cbase.specs.declared.no_memory.NoMemory.{NoMemory}
use Rattle.typing.specs.Outcomes.{Outcome, Handed, Passes, Refused, with_front}
use Rattle.expressions.specs.declared.found.Found.{Found}
use Rattle.expressions.specs.declared.found.Found.TheVariants.{Passes as FoundToPass, Refused as FoundRefused}
use Rattle.expressions.specs.declared.handed_row.HandedRow.{HandedRow}
use Rattle.expressions.specs.Context.{Context, declared, Agrees, Grows}
use Rattle.expressions.specs.Found.{Reading, nothing}
use Rattle.expressions.specs.Numbers.{Numbering, handed_at}
use Rattle.expressions.specs.Walked.{Tells, Passed, Walked}
use Rattle.expressions.proofs.Growth.{agrees_before, grows_trans}
use Rattle.expressions.proofs.Walking.{handed_behind}

-- what follows of all that is found follows of a function's result
pub of_result : {A : Type 0} (P : A → Type 0) (r : Result A NoMemory) (Q : A → Type 0) → ((found : A) → P found → Q found) → IfOk r P → IfOk r Q
of_result P (Ok found) Q follows holds = follows found holds
of_result P (Err error) Q follows holds = tt

module _ (first second : Tells (Unit {0})) (old mid new : Context) where
  -- rows behind a part that passes
  pub rows_behind : (more : List HandedRow) → Grows mid new → new.handed ≡ mid.handed ++ more
      → ((n : Numbering) (handed : List Handed) → Agrees n mid → Agrees n new → first n (declared old) (Passes tt handed) (declared mid)
      → second n (declared old) (Passes tt (handed ++ map (handed_at n) more)) (declared new))
      → Passed first nothing old mid tt → Passed second nothing old new tt
  rows_behind more further is rule passed = record {
    rows = passed.rows ++ more;
    handed = handed_behind old.handed mid.handed new.handed passed.rows more passed.handed is;
    grows = grows_trans old mid new passed.grows further;
    below = tt;
    found = λ n agrees.
        let then : Agrees n mid = agrees_before mid new n further agrees in
        subst (λ (all : List Handed). second n (declared old) (Passes tt all) (declared new)) (sym (map-append (handed_at n) passed.rows more))
        (rule n (map (handed_at n) passed.rows) then agrees (passed.found n then));
  }

  -- what is closed behind a part, where nothing more is handed on
  pub closed_behind : (found : Found (Unit {0})) → Grows mid new → new.handed ≡ mid.handed
      → ((n : Numbering) (outcome : Outcome (Unit {0})) → first n (declared old) outcome (declared mid) → second n (declared old) outcome (declared new))
      → Walked first nothing old mid found → Walked second nothing old new found
  closed_behind (FoundToPass told) further is rule passed = record {
    rows = passed.rows;
    handed = is ∙ passed.handed;
    grows = grows_trans old mid new passed.grows further;
    below = tt;
    found = λ n agrees. rule n (Passes tt (map (handed_at n) passed.rows)) (passed.found n (agrees_before mid new n further agrees));
  }
  closed_behind (FoundRefused fault) further is rule stopped = record {
    grows = grows_trans old mid new stopped.grows further;
    found = λ n agrees. rule n (Refused fault) (stopped.found n (agrees_before mid new n further agrees));
  }

module _ (rest all : Tells (Unit {0})) {A B : Type 0} (first : Tells A) (reading : Reading B A) (old mid new : Context) (told : B) where
  -- a part that passes in front of all that is found behind it
  pub in_front : Passed first reading old mid told
      → ((n : Numbering) (handed : List Handed) (outcome : Outcome (Unit {0})) → Agrees n mid → first n (declared old) (Passes (reading.means n told) handed) (declared mid)
      → rest n (declared mid) outcome (declared new) → all n (declared old) (with_front handed outcome) (declared new))
      → (found : Found (Unit {0})) → Walked rest nothing mid new found → Walked all nothing old new found
  in_front front rule (FoundToPass last) passed = record {
    rows = front.rows ++ passed.rows;
    handed = handed_behind old.handed mid.handed new.handed front.rows passed.rows front.handed passed.handed;
    grows = grows_trans old mid new front.grows passed.grows;
    below = tt;
    found = λ n agrees.
        let then : Agrees n mid = agrees_before mid new n passed.grows agrees in
        subst (λ (handed : List Handed). all n (declared old) (Passes tt handed) (declared new)) (sym (map-append (handed_at n) front.rows passed.rows))
        (rule n (map (handed_at n) front.rows) (Passes tt (map (handed_at n) passed.rows)) then (front.found n then) (passed.found n agrees));
  }
  in_front front rule (FoundRefused fault) stopped = record {
    grows = grows_trans old mid new front.grows stopped.grows;
    found = λ n agrees.
        let then : Agrees n mid = agrees_before mid new n stopped.grows agrees in
        rule n (map (handed_at n) front.rows) (Refused fault) then (front.found n then) (stopped.found n agrees);
  }
