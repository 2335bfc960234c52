-- What is found of the parts of a statement, one behind the other.
use Rattle.std.proofs.Common.{◌≡◌, List, [], ◌∷◌, ◌++◌, map, refl, sym, ap, subst, ◌∙◌, append-nil, Option, None, Some, Result, IfOk}
use Rattle.std.proofs.lemmas.List.{map-append}
use Rattle.cbase.specs.declared.abi.Abi.{Abi}
use Rattle.cbase.specs.declared.no_memory.NoMemory.{NoMemory}
use Rattle.cbase.specs.declared.tree.expr.Expr.{Expr}
use Rattle.cbase.specs.declared.tree.stmt.Stmt.{Stmt}
use Rattle.typing.specs.declared.fault.Fault.{Fault}
use Rattle.typing.specs.Outcomes.{Outcome, Handed, Passes, Refused, with_front}
use Rattle.typing.specs.Statements.{Demand, Condition, Dropped, StatementPart, ValueOf, Branch, optional, other_branch}
use Rattle.typing.specs.Typing.{StatementPartIs, StatementPartsAre, ValueUsed, Finds, NoStatementParts, MoreStatementParts, StatementPartRefused, ValueInStatement}
use Rattle.expressions.specs.declared.found.Found.{Found}
use Rattle.expressions.specs.declared.found.Found.TheVariants.{Passes as FoundToPass, Refused as FoundRefused}
use Rattle.expressions.specs.Context.{Context, Declared, declared}
use Rattle.expressions.specs.Found.{nothing}
use Rattle.expressions.specs.Numbers.{Numbering, handed_at}
use Rattle.expressions.specs.Language.{language}
use Rattle.expressions.specs.Walked.{Tells, Passed, Stopped, Walked}
use Rattle.expressions.proofs.Growth.{agrees_before, grows_same, grows_trans}
use Rattle.expressions.proofs.Walking.{handed_behind, passed_of, stopped_of}
use Rattle.items.specs.declared.statements.demands.Demand.{Demand as DemandByNumber}
use Rattle.items.specs.declared.statements.demands.Demand.TheVariants as by_number
use Rattle.items.specs.statements.Demands.{demand_at}
use Rattle.items.specs.statements.Parts.{SaysPart, SaysParts, SaysValue, SaysOptional}
use Rattle.items.proofs.statements.Enclosed.{retold}

-- rows that are handed on of what passes
abbrev handed_in : List Handed → Outcome (Unit {0}) → List Handed
handed_in default (Passes told handed) = handed
handed_in default (Refused first) = default

front_of_nothing : (outcome : Outcome (Unit {0})) → with_front [] outcome ≡ outcome
front_of_nothing (Passes told handed) = refl
front_of_nothing (Refused first) = refl

refuses_nothing : (outcome : Outcome (Unit {0})) (first : Fault) (handed : List Handed) → outcome ≡ Refused first → outcome ≡ Passes (tt {0}) handed → ⊥
refuses_nothing outcome first handed refused passes = cc

module _ (abi : Abi) where
  -- no part is left
  pub no_parts_left : (context : Context) → Passed (SaysParts abi []) nothing context context tt
  no_parts_left context = record { rows = []; handed = sym (append-nil context.handed); grows = grows_same context; below = tt; found = λ n agrees. NoStatementParts }

  -- the last one
  last_part : (part : StatementPart) (n : Numbering) (before after : Declared) (outcome : Outcome (Unit {0}))
      → Finds (language abi n) before (StatementPartIs part outcome) after → Finds (language abi n) before (StatementPartsAre (part ∷ []) outcome) after
  last_part part n before after (Passes told handed) found =
      subst (λ (rows : List Handed). Finds (language abi n) before (StatementPartsAre (part ∷ []) (Passes tt rows)) after) (append-nil handed)
      (MoreStatementParts {outcome = Passes tt []} found NoStatementParts)
  last_part part n before after (Refused first) found = StatementPartRefused found

  pub part_alone : (part : StatementPart) (old new : Context) (found : Found (Unit {0})) → Walked (SaysPart abi part) nothing old new found
      → Walked (SaysParts abi (part ∷ [])) nothing old new found
  part_alone part old new found = retold (SaysPart abi part) (SaysParts abi (part ∷ [])) nothing old new found λ n outcome. last_part part n (declared old) (declared new) outcome

  -- what passes in front of other parts
  behind : (first : Tells (Unit {0})) (rest whole : List StatementPart)
      → ((n : Numbering) (before middle after : Declared) (handed : List Handed) (outcome : Outcome (Unit {0})) → first n before (Passes tt handed) middle
      → Finds (language abi n) middle (StatementPartsAre rest outcome) after → Finds (language abi n) before (StatementPartsAre whole (with_front handed outcome)) after)
      → (old mid new : Context) (found : Found (Unit {0})) → Passed first nothing old mid tt → Walked (SaysParts abi rest) nothing mid new found
      → Walked (SaysParts abi whole) nothing old new found
  behind first rest whole goes old mid new (FoundToPass told) front passed = record {
    rows = front.rows ++ passed.rows;
    handed = handed_behind old.handed mid.handed new.handed front.rows passed.rows front.handed passed.handed;
    grows = grows_trans old mid new front.grows passed.grows;
    below = tt;
    found = λ n agrees.
        subst (λ (rows : List Handed). Finds (language abi n) (declared old) (StatementPartsAre whole (Passes tt rows)) (declared new)) (sym (map-append (handed_at n) front.rows passed.rows))
        (goes n (declared old) (declared mid) (declared new) (map (handed_at n) front.rows) (Passes tt (map (handed_at n) passed.rows))
        (front.found n (agrees_before mid new n passed.grows agrees)) (passed.found n agrees));
  }
  behind first rest whole goes old mid new (FoundRefused fault) front stopped = record {
    grows = grows_trans old mid new front.grows stopped.grows;
    found = λ n agrees. goes n (declared old) (declared mid) (declared new) (map (handed_at n) front.rows) (Refused fault) (front.found n (agrees_before mid new n stopped.grows agrees)) (stopped.found n agrees);
  }

  -- one part in front of others: it passes, or it is refused
  part_next : (part : StatementPart) (rest : List StatementPart) (old mid new : Context) (found : Found (Unit {0}))
      → Passed (SaysPart abi part) nothing old mid tt → Walked (SaysParts abi rest) nothing mid new found → Walked (SaysParts abi (part ∷ rest)) nothing old new found
  part_next part rest = behind (SaysPart abi part) rest (part ∷ rest) λ n before middle after handed outcome first others. MoreStatementParts first others

  part_refused : (part : StatementPart) (rest : List StatementPart) (old new : Context) (first : Fault) → Stopped (SaysPart abi part) old new first
      → Stopped (SaysParts abi (part ∷ rest)) old new first
  part_refused part rest old new first stopped = record { grows = stopped.grows; found = λ n agrees. StatementPartRefused (stopped.found n agrees) }

  -- the same, as code finds them
  pub part_stops : (part : StatementPart) (rest : List StatementPart) (old new : Context) (first : Fault) (found : Found (Unit {0})) → found ≡ FoundRefused first
      → Walked (SaysPart abi part) nothing old new found → Stopped (SaysParts abi (part ∷ rest)) old new first
  part_stops part rest old new first found is walked = part_refused part rest old new first (stopped_of (SaysPart abi part) nothing old new first found is walked)

  pub part_passes : (part : StatementPart) (rest : List StatementPart) (old mid new : Context) (told : Unit {0}) (found others : Found (Unit {0})) → found ≡ FoundToPass told
      → Walked (SaysPart abi part) nothing old mid found → Walked (SaysParts abi rest) nothing mid new others → Walked (SaysParts abi (part ∷ rest)) nothing old new others
  part_passes part rest old mid new told found others is walked = part_next part rest old mid new others (passed_of (SaysPart abi part) nothing old mid told found is walked)

  module _ (demand : DemandByNumber) (meant : Demand) (same : (n : Numbering) → demand_at n demand ≡ meant) where
    -- a value that is taken for the same thing, whatever numbers stand for
    meant_value : (n : Numbering) (expr : Expr) (before after : Declared) (outcome : Outcome (Unit {0})) → SaysValue abi demand expr n before outcome after
        → Finds (language abi n) before (StatementPartIs (ValueOf meant expr) outcome) after
    meant_value n expr before after outcome found =
        ValueInStatement (subst (λ (d : Demand). Finds (language abi n) before (ValueUsed d expr outcome) after) (same n) found)

    pub value_part : (expr : Expr) (old new : Context) (found : Found (Unit {0})) → Walked (SaysValue abi demand expr) nothing old new found
        → Walked (SaysPart abi (ValueOf meant expr)) nothing old new found
    value_part expr old new found = retold (SaysValue abi demand expr) (SaysPart abi (ValueOf meant expr)) nothing old new found
        λ n outcome. meant_value n expr (declared old) (declared new) outcome

    -- one that may be left out, in front of others
    optional_goes : (n : Numbering) (expr : Option Expr) (rest : List StatementPart) (before middle after : Declared) (handed : List Handed) (outcome : Outcome (Unit {0}))
        → SaysOptional abi demand expr n before (Passes tt handed) middle → Finds (language abi n) middle (StatementPartsAre rest outcome) after
        → Finds (language abi n) before (StatementPartsAre (optional meant expr ++ rest) (with_front handed outcome)) after
    optional_goes n None rest before middle after handed outcome left others =
        let nothing_handed : handed ≡ [] = ap (handed_in handed) left.0 in
        subst (λ (o : Outcome (Unit {0})). Finds (language abi n) before (StatementPartsAre rest o) after) (sym (ap (λ (rows : List Handed). with_front rows outcome) nothing_handed ∙ front_of_nothing outcome))
        (subst (λ (there : Declared). Finds (language abi n) there (StatementPartsAre rest outcome) after) left.1 others)
    optional_goes n (Some expr) rest before middle after handed outcome found others = MoreStatementParts (meant_value n expr before middle (Passes tt handed) found) others

    optional_next : (expr : Option Expr) (rest : List StatementPart) (old mid new : Context) (found : Found (Unit {0}))
        → Passed (SaysOptional abi demand expr) nothing old mid tt → Walked (SaysParts abi rest) nothing mid new found
        → Walked (SaysParts abi (optional meant expr ++ rest)) nothing old new found
    optional_next expr rest = behind (SaysOptional abi demand expr) rest (optional meant expr ++ rest) λ n. optional_goes n expr rest

    optional_stops : (n : Numbering) (expr : Option Expr) (rest : List StatementPart) (before after : Declared) (first : Fault) → SaysOptional abi demand expr n before (Refused first) after
        → Finds (language abi n) before (StatementPartsAre (optional meant expr ++ rest) (Refused first)) after
    optional_stops n None rest before after first left = absurd (refuses_nothing (Refused first) first [] refl left.0)
    optional_stops n (Some expr) rest before after first found = StatementPartRefused (meant_value n expr before after (Refused first) found)

    optional_refused : (expr : Option Expr) (rest : List StatementPart) (old new : Context) (first : Fault) → Stopped (SaysOptional abi demand expr) old new first
        → Stopped (SaysParts abi (optional meant expr ++ rest)) old new first
    optional_refused expr rest old new first stopped = record { grows = stopped.grows; found = λ n agrees. optional_stops n expr rest (declared old) (declared new) first (stopped.found n agrees) }

    -- the same, as code finds it
    pub optional_left : (expr : Option Expr) (rest : List StatementPart) (old new : Context) (first : Fault) (found : Found (Unit {0})) → found ≡ FoundRefused first
        → Walked (SaysOptional abi demand expr) nothing old new found → Stopped (SaysParts abi (optional meant expr ++ rest)) old new first
    optional_left expr rest old new first found is walked = optional_refused expr rest old new first (stopped_of (SaysOptional abi demand expr) nothing old new first found is walked)

    pub optional_passes : (expr : Option Expr) (rest : List StatementPart) (old mid new : Context) (told : Unit {0}) (found others : Found (Unit {0})) → found ≡ FoundToPass told
        → Walked (SaysOptional abi demand expr) nothing old mid found → Walked (SaysParts abi rest) nothing mid new others → Walked (SaysParts abi (optional meant expr ++ rest)) nothing old new others
    optional_passes expr rest old mid new told found others is walked = optional_next expr rest old mid new others (passed_of (SaysOptional abi demand expr) nothing old mid told found is walked)

    -- and alone
    optional_whole : (expr : Option Expr) (n : Numbering) (before after : Declared) (outcome : Outcome (Unit {0})) → SaysOptional abi demand expr n before outcome after
        → Finds (language abi n) before (StatementPartsAre (optional meant expr) outcome) after
    optional_whole None n before after outcome left =
        subst (λ (o : Outcome (Unit {0})). Finds (language abi n) before (StatementPartsAre [] o) after) (sym left.0)
        (subst (λ (there : Declared). Finds (language abi n) before (StatementPartsAre [] (Passes tt [])) there) (sym left.1) NoStatementParts)
    optional_whole (Some expr) n before after outcome found = last_part (ValueOf meant expr) n before after outcome (meant_value n expr before after outcome found)

    pub optional_alone : (expr : Option Expr) (old new : Context) (found : Found (Unit {0})) → Walked (SaysOptional abi demand expr) nothing old new found
        → Walked (SaysParts abi (optional meant expr)) nothing old new found
    optional_alone expr old new found = retold (SaysOptional abi demand expr) (SaysParts abi (optional meant expr)) nothing old new found
        λ n outcome. optional_whole expr n (declared old) (declared new) outcome

-- a condition, and a value that is dropped
module _ (abi : Abi) where
  pub condition_part : (expr : Expr) (old new : Context) (found : Found (Unit {0})) → Walked (SaysValue abi by_number.Condition expr) nothing old new found
      → Walked (SaysPart abi (ValueOf Condition expr)) nothing old new found
  condition_part = value_part abi by_number.Condition Condition (λ n. refl)

  pub condition_left : (expr : Option Expr) (rest : List StatementPart) (old new : Context) (first : Fault) (found : Found (Unit {0})) → found ≡ FoundRefused first
      → Walked (SaysOptional abi by_number.Condition expr) nothing old new found → Stopped (SaysParts abi (optional Condition expr ++ rest)) old new first
  condition_left = optional_left abi by_number.Condition Condition (λ n. refl)

  pub condition_passes : (expr : Option Expr) (rest : List StatementPart) (old mid new : Context) (told : Unit {0}) (found others : Found (Unit {0})) → found ≡ FoundToPass told
      → Walked (SaysOptional abi by_number.Condition expr) nothing old mid found → Walked (SaysParts abi rest) nothing mid new others
      → Walked (SaysParts abi (optional Condition expr ++ rest)) nothing old new others
  condition_passes = optional_passes abi by_number.Condition Condition (λ n. refl)

  pub dropped_left : (expr : Option Expr) (rest : List StatementPart) (old new : Context) (first : Fault) (found : Found (Unit {0})) → found ≡ FoundRefused first
      → Walked (SaysOptional abi by_number.Dropped expr) nothing old new found → Stopped (SaysParts abi (optional Dropped expr ++ rest)) old new first
  dropped_left = optional_left abi by_number.Dropped Dropped (λ n. refl)

  pub dropped_passes : (expr : Option Expr) (rest : List StatementPart) (old mid new : Context) (told : Unit {0}) (found others : Found (Unit {0})) → found ≡ FoundToPass told
      → Walked (SaysOptional abi by_number.Dropped expr) nothing old mid found → Walked (SaysParts abi rest) nothing mid new others
      → Walked (SaysParts abi (optional Dropped expr ++ rest)) nothing old new others
  dropped_passes = optional_passes abi by_number.Dropped Dropped (λ n. refl)

  pub dropped_alone : (expr : Option Expr) (old new : Context) (found : Found (Unit {0})) → Walked (SaysOptional abi by_number.Dropped expr) nothing old new found
      → Walked (SaysParts abi (optional Dropped expr)) nothing old new found
  dropped_alone = optional_alone abi by_number.Dropped Dropped (λ n. refl)

  -- the statement behind `else`
  pub other_left_out : (other : Option Stmt) (context : Context) → other ≡ None → Passed (SaysParts abi (other_branch other)) nothing context context tt
  other_left_out other context none = subst (λ (o : Option Stmt). Passed (SaysParts abi (other_branch o)) nothing context context tt) (sym none) (no_parts_left abi context)

  pub other_walked : (other : Option Stmt) (inside stmt : Stmt) (old new : Context) (found : Found (Unit {0})) → other ≡ Some inside → stmt ≡ inside
      → Walked (SaysPart abi (Branch stmt)) nothing old new found → Walked (SaysParts abi (other_branch other)) nothing old new found
  other_walked other inside stmt old new found some same walked =
      subst (λ (o : Option Stmt). Walked (SaysParts abi (other_branch o)) nothing old new found) (sym (some ∙ ap Some (sym same))) (part_alone abi (Branch stmt) old new found walked)

-- the parts of a form, as code reads them
pub parts_alike : (abi : Abi) (first second : List StatementPart) (old new : Context) (r : Result (Found (Unit {0})) NoMemory) → first ≡ second
    → IfOk r (λ found. Walked (SaysParts abi first) nothing old new found) → IfOk r (λ found. Walked (SaysParts abi second) nothing old new found)
parts_alike abi first second old new r same walked =
    subst (λ (parts : List StatementPart). IfOk r (λ found. Walked (SaysParts abi parts) nothing old new found)) same walked
