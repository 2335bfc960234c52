-- What is found of the parts of a statement that are scopes of their own, and of a statement whose parts stand in one.
use Rattle.std.proofs.Common.{◌≡◌, ℕ, Bool, true, false, List, [], ◌∷◌, map, refl, sym, ap, subst, ◌∙◌, Result, IfOk}
use Rattle.cbase.specs.declared.abi.Abi.{Abi}
use Rattle.cbase.specs.declared.ctype.CType.{CType}
use Rattle.cbase.specs.declared.no_memory.NoMemory.{NoMemory}
use Rattle.cbase.specs.declared.place.Place.{Place}
use Rattle.cbase.specs.declared.tree.decl.Decl.{Decl}
use Rattle.cbase.specs.declared.tree.expr.ExprForm.TheViews.{out-StmtForm}
use Rattle.cbase.specs.declared.tree.stmt.Stmt.{Stmt}
use Rattle.typing.specs.declared.fault.Fault.{Fault}
use Rattle.typing.specs.Outcomes.{Outcome, Passes, Refused}
use Rattle.typing.specs.Statements.{Whole, Branch, LoopBody, StatementsOf, Declares, parts_in, has_scope, without_value}
use Rattle.typing.specs.Typing.{StatementsAre, StatementIs, StatementPartIs, DeclaredIs, Finds, StatementOfParts, StatementInScope, StatementInside, BodyOfLoop, StatementOfIf, BlockOfStatements, DeclarationInside}
use Rattle.expressions.specs.declared.found.Found.{Found}
use Rattle.expressions.specs.Context.{Context, Declared, declared}
use Rattle.expressions.specs.Found.{a_value_type, nothing}
use Rattle.expressions.specs.Numbers.{Numbering, handed_at}
use Rattle.expressions.specs.Language.{language, entered, left}
use Rattle.expressions.specs.Walked.{Tells, Passed, Stopped, Walked, Says}
use Rattle.expressions.proofs.Blocks.{inside, outside}
use Rattle.items.specs.statements.Parts.{SaysPart, SaysParts}
use Rattle.items.proofs.statements.Enclosed.{looped, of_result, retold, in_scope, in_loop_scope}
use Rattle.items.proofs.statements.Parts.{part_alone}

module _ (abi : Abi) where
  -- statements of a block, whose value does not count
  abbrev SaysBody : List Stmt → Tells (Unit {0})
  SaysBody body n before outcome after = (found : Outcome CType) × (outcome ≡ without_value found) × Finds (language abi n) before (StatementsAre body found) after

  pub body_passes : (body : List Stmt) (old new : Context) (number : ℕ) → Passed (Says abi (λ o. StatementsAre body o)) a_value_type old new number
      → Passed (SaysBody body) nothing old new tt
  body_passes body old new number passed = record {
    rows = passed.rows;
    handed = passed.handed;
    grows = passed.grows;
    below = tt;
    found = λ n agrees. (Passes (n.ctype number) (map (handed_at n) passed.rows), refl, passed.found n agrees);
  }

  pub body_stops : (body : List Stmt) (old new : Context) (first : Fault) → Stopped (Says abi (λ o. StatementsAre body o)) old new first
      → Stopped (SaysBody body) old new first
  body_stops body old new first stopped = record { grows = stopped.grows; found = λ n agrees. (Refused first, refl, stopped.found n agrees) }

  block_rule : (body : List Stmt) (n : Numbering) (before after : Declared) (outcome : Outcome (Unit {0})) → SaysBody body n (entered before) outcome after
      → Finds (language abi n) before (StatementPartIs (StatementsOf body) outcome) (left after)
  block_rule body n before after outcome says =
      subst (λ (o : Outcome (Unit {0})). Finds (language abi n) before (StatementPartIs (StatementsOf body) o) (left after)) (sym says.1) (BlockOfStatements says.2)

  pub block_walked : (body : List Stmt) (old mid late new : Context) (found : Found (Unit {0})) → mid ≡ inside old → new ≡ outside late
      → Walked (SaysBody body) nothing mid late found → Walked (SaysPart abi (StatementsOf body)) nothing old new found
  block_walked body old mid late new found opened closed = in_scope (SaysBody body) (SaysPart abi (StatementsOf body)) old mid late new found opened closed
      λ n outcome says. block_rule body n (declared old) (declared late) outcome says

  -- a statement in an `if`
  pub branch_walked : (stmt : Stmt) (old mid late new : Context) (found : Found (Unit {0})) → mid ≡ inside old → new ≡ outside late
      → Walked (Says abi (λ o. StatementIs stmt o)) nothing mid late found → Walked (SaysPart abi (Branch stmt)) nothing old new found
  branch_walked stmt old mid late new found opened closed = in_scope (Says abi (λ o. StatementIs stmt o)) (SaysPart abi (Branch stmt)) old mid late new found opened closed
      λ n outcome says. StatementOfIf says

  -- the body of a loop
  pub loop_walked : (stmt : Stmt) (was_in_loop : Bool) (old first mid late last new : Context) (found : Found (Unit {0})) → was_in_loop ≡ old.environment.in_loop
      → first ≡ inside old → mid ≡ looped true first → last ≡ outside late → new ≡ looped was_in_loop last
      → Walked (Says abi (λ o. StatementIs stmt o)) nothing mid late found → Walked (SaysPart abi (LoopBody stmt)) nothing old new found
  loop_walked stmt was_in_loop old first mid late last new found was opened set closed back =
      in_loop_scope (Says abi (λ o. StatementIs stmt o)) (SaysPart abi (LoopBody stmt)) old mid late new found
      (set ∙ ap (looped true) opened) (back ∙ λ i. looped (was i) (closed i))
      λ n outcome says. BodyOfLoop says

  -- a statement in another one, and a declaration
  pub whole_part : (stmt : Stmt) (old new : Context) (found : Found (Unit {0})) → Walked (Says abi (λ o. StatementIs stmt o)) nothing old new found
      → Walked (SaysPart abi (Whole stmt)) nothing old new found
  whole_part stmt old new found = retold (Says abi (λ o. StatementIs stmt o)) (SaysPart abi (Whole stmt)) nothing old new found λ n outcome says. StatementInside says

  pub declaration_parts : (place : Place) (decl : Decl) (old new : Context) (found : Found (Unit {0})) → Walked (Says abi (λ o. DeclaredIs place decl o)) nothing old new found
      → Walked (SaysParts abi (Declares place decl ∷ [])) nothing old new found
  declaration_parts place decl old new found walked = part_alone abi (Declares place decl) old new found
      (retold (Says abi (λ o. DeclaredIs place decl o)) (SaysPart abi (Declares place decl)) nothing old new found (λ n outcome says. DeclarationInside says) walked)

  module _ (stmt : Stmt) where
    abbrev SaysOfStatement : Tells (Unit {0})
    SaysOfStatement = Says abi (λ o. StatementIs stmt o)

    abbrev SaysOfParts : Tells (Unit {0})
    SaysOfParts = SaysParts abi (parts_in stmt.place (out-StmtForm stmt.form))

    -- what is found of its parts is found of a statement
    pub statement_of_parts : (old new : Context) (r : Result (Found (Unit {0})) NoMemory) → has_scope (out-StmtForm stmt.form) ≡ false
        → IfOk r (λ found. Walked SaysOfParts nothing old new found) → IfOk r (λ found. Walked SaysOfStatement nothing old new found)
    statement_of_parts old new r without =
        of_result (λ found. Walked SaysOfParts nothing old new found) (λ found. Walked SaysOfStatement nothing old new found) r
        (λ found. retold SaysOfParts SaysOfStatement nothing old new found (λ n outcome says. StatementOfParts refl without says))

    pub statement_in_scope : (old mid late new : Context) (found : Found (Unit {0})) → has_scope (out-StmtForm stmt.form) ≡ true → mid ≡ inside old → new ≡ outside late
        → Walked SaysOfParts nothing mid late found → Walked SaysOfStatement nothing old new found
    statement_in_scope old mid late new found with_one opened closed = in_scope SaysOfParts SaysOfStatement old mid late new found opened closed
        λ n outcome says. StatementInScope refl with_one says
