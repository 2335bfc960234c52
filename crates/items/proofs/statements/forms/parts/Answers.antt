-- The parts of each form.
use Rattle.std.proofs.Common.{◌≤◌, ◌∷◌, ◌++◌, [], ◌∙◌, ap, subst, sym, Ok}
use Rattle.cbase.specs.declared.tree.decl.Decl.{Decl}
use Rattle.cbase.specs.declared.tree.expr.Expr.{Expr}
use Rattle.cbase.specs.declared.tree.expr.ExprForm.TheViews.{out-StmtForm, outs-Declare, outs-Eval, outs-Block, outs-If, outs-While, outs-Do, outs-For, outs-Break, outs-Continue, outs-Return}
use Rattle.ctrees.specs.Levels.{decl_levels, expr_levels}
use Rattle.typing.specs.Statements.{Condition, Dropped, ValueOf, Whole, Branch, LoopBody, other_branch, Declares, StatementsOf, LeavesLoop, parts_in, optional, returned}
use Rattle.typing.specs.Typing.{DeclaredIs}
use Rattle.expressions.specs.Found.{nothing}
use Rattle.expressions.specs.Walked.{Walked, Says}
use Rattle.items.specs.declared.statements.demands.Demand.TheVariants as by_number
use Rattle.items.specs.statements.Parts.{SaysPart, SaysParts, SaysOptional}
use Rattle.items.proofs.statements.Enclosed.{of_result}
use Rattle.items.proofs.statements.Levels.{declaration_within, eval_within, return_within, body_within, if_test_within, if_yes_within, if_other_within, levels_of_while, levels_of_do, test_within, loop_within, for_first_within, for_test_within, for_next_within, for_body_within}
use Rattle.items.proofs.statements.Parts.{part_alone, dropped_alone, parts_alike}
use Rattle.items.proofs.statements.Scopes.{declaration_parts}
use Rattle.items.proofs.statements.forms.parts.Goals as goal

pub declaration-requires-clause-nests : goal.declaration-requires-clause-nests
declaration-requires-clause-nests g c = c.requires.nests

pub declaration-requires-clause-deep : goal.declaration-requires-clause-deep
declaration-requires-clause-deep g c =
    subst (λ (decl : Decl). decl_levels decl ≤ c.args.checker.now.depth) (sym c.get.ensures)
    (declaration_within c.args.form.now c.in-Declare.decl c.args.checker.now.depth c.in-Declare.is c.requires.deep)

pub optional_unboxed-requires-clause-nests : goal.optional_unboxed-requires-clause-nests
optional_unboxed-requires-clause-nests g c = c.requires.nests

pub optional_unboxed-requires-clause-deep : goal.optional_unboxed-requires-clause-deep
optional_unboxed-requires-clause-deep g c = eval_within c.args.form.now c.in-Eval.expr c.args.checker.now.depth c.in-Eval.is c.requires.deep

pub block-requires-clause-nests : goal.block-requires-clause-nests
block-requires-clause-nests g c = c.requires.nests

pub block-requires-clause-deep : goal.block-requires-clause-deep
block-requires-clause-deep g c = body_within c.args.form.now c.in-Block.body c.as_slice.result.now c.args.checker.now.depth c.in-Block.is c.as_slice.ensures c.requires.deep

pub choose-requires-clause-nests : goal.choose-requires-clause-nests
choose-requires-clause-nests g c = c.requires.nests

pub choose-requires-clause-test : goal.choose-requires-clause-test
choose-requires-clause-test g c =
    subst (λ (expr : Expr). expr_levels expr ≤ c.args.checker.now.depth) (sym c.get-in-If.ensures)
    (if_test_within c.args.form.now c.args.checker.now.depth c.requires.deep c.in-If.test c.in-If.close c.in-If.yes c.in-If.no c.in-If.is)

pub choose-requires-clause-yes : goal.choose-requires-clause-yes
choose-requires-clause-yes g c = if_yes_within c.args.form.now c.args.checker.now.depth c.requires.deep c.in-If.test c.in-If.close c.in-If.yes c.in-If.no c.in-If.is c.get-in-If-2.result.now c.get-in-If-2.ensures

pub choose-requires-clause-no : goal.choose-requires-clause-no
choose-requires-clause-no g c = if_other_within c.args.form.now c.args.checker.now.depth c.requires.deep c.in-If.test c.in-If.close c.in-If.yes c.in-If.no c.in-If.is

pub while_loop-requires-clause-nests : goal.while_loop-requires-clause-nests
while_loop-requires-clause-nests g c = c.requires.nests

pub while_loop-requires-clause-test : goal.while_loop-requires-clause-test
while_loop-requires-clause-test g c =
    subst (λ (expr : Expr). expr_levels expr ≤ c.args.checker.now.depth) (sym c.get-in-While.ensures)
    (test_within c.args.form.now c.args.checker.now.depth c.requires.deep c.in-While.test c.in-While.body (levels_of_while c.args.form.now c.args.checker.now.depth c.requires.deep c.in-While.test c.in-While.close c.in-While.body c.in-While.is))

pub while_loop-requires-clause-body : goal.while_loop-requires-clause-body
while_loop-requires-clause-body g c = loop_within c.args.form.now c.args.checker.now.depth c.requires.deep c.in-While.test c.in-While.body (levels_of_while c.args.form.now c.args.checker.now.depth c.requires.deep c.in-While.test c.in-While.close c.in-While.body c.in-While.is) c.get-in-While-2.result.now c.get-in-While-2.ensures

pub do_loop-requires-clause-nests : goal.do_loop-requires-clause-nests
do_loop-requires-clause-nests g c = c.requires.nests

pub do_loop-requires-clause-body : goal.do_loop-requires-clause-body
do_loop-requires-clause-body g c = loop_within c.args.form.now c.args.checker.now.depth c.requires.deep c.in-Do.test c.in-Do.body (levels_of_do c.args.form.now c.args.checker.now.depth c.requires.deep c.in-Do.body c.in-Do.test c.in-Do.close c.in-Do.is) c.get-in-Do.result.now c.get-in-Do.ensures

pub do_loop-requires-clause-test : goal.do_loop-requires-clause-test
do_loop-requires-clause-test g c =
    subst (λ (expr : Expr). expr_levels expr ≤ c.args.checker.now.depth) (sym c.get-in-Do-2.ensures)
    (test_within c.args.form.now c.args.checker.now.depth c.requires.deep c.in-Do.test c.in-Do.body (levels_of_do c.args.form.now c.args.checker.now.depth c.requires.deep c.in-Do.body c.in-Do.test c.in-Do.close c.in-Do.is))

pub for_loop-requires-clause-nests : goal.for_loop-requires-clause-nests
for_loop-requires-clause-nests g c = c.requires.nests

pub for_loop-requires-clause-first : goal.for_loop-requires-clause-first
for_loop-requires-clause-first g c = for_first_within c.args.form.now c.args.checker.now.depth c.requires.deep c.in-For.first c.in-For.test c.in-For.semicolon c.in-For.next c.in-For.close c.in-For.body c.in-For.is c.get-in-For.result.now c.get-in-For.ensures

pub for_loop-requires-clause-test : goal.for_loop-requires-clause-test
for_loop-requires-clause-test g c = for_test_within c.args.form.now c.args.checker.now.depth c.requires.deep c.in-For.first c.in-For.test c.in-For.semicolon c.in-For.next c.in-For.close c.in-For.body c.in-For.is

pub for_loop-requires-clause-next : goal.for_loop-requires-clause-next
for_loop-requires-clause-next g c = for_next_within c.args.form.now c.args.checker.now.depth c.requires.deep c.in-For.first c.in-For.test c.in-For.semicolon c.in-For.next c.in-For.close c.in-For.body c.in-For.is

pub for_loop-requires-clause-body : goal.for_loop-requires-clause-body
for_loop-requires-clause-body g c = for_body_within c.args.form.now c.args.checker.now.depth c.requires.deep c.in-For.first c.in-For.test c.in-For.semicolon c.in-For.next c.in-For.close c.in-For.body c.in-For.is c.get-in-For-2.result.now c.get-in-For-2.ensures

pub return_value-requires-clause-nests : goal.return_value-requires-clause-nests
return_value-requires-clause-nests g c = c.requires.nests

pub return_value-requires-clause-deep : goal.return_value-requires-clause-deep
return_value-requires-clause-deep g c = return_within c.args.form.now c.in-Return.expr c.args.checker.now.depth c.in-Return.is c.requires.deep

pub returns-in-Declare : goal.returns-in-Declare
returns-in-Declare g c =
    let abi = c.args.checker.now.abi in
    let new = c.declaration.new.context in
    let parts = Declares c.args.place c.get.result.now ∷ [] in
    parts_alike abi parts (parts_in c.args.place (out-StmtForm c.args.form.now)) c.args.context.now new c.declaration.result
    (ap (λ decl. Declares c.args.place decl ∷ []) c.get.ensures ∙ sym (ap (parts_in c.args.place) (ap out-StmtForm c.in-Declare.is ∙ outs-Declare c.in-Declare.decl)))
    (of_result (λ found. Walked (Says abi (λ o. DeclaredIs c.args.place c.get.result.now o)) nothing c.args.context.now new found) (λ found. Walked (SaysParts abi parts) nothing c.args.context.now new found)
    c.declaration.result (declaration_parts abi c.args.place c.get.result.now c.args.context.now new) c.declaration.ensures)

pub returns-in-Eval : goal.returns-in-Eval
returns-in-Eval g c =
    let abi = c.args.checker.now.abi in
    let new = c.optional_unboxed.new.context in
    parts_alike abi (optional Dropped c.in-Eval.expr) (parts_in c.args.place (out-StmtForm c.args.form.now)) c.args.context.now new c.optional_unboxed.result
    (sym (ap (parts_in c.args.place) (ap out-StmtForm c.in-Eval.is ∙ outs-Eval c.in-Eval.expr)))
    (of_result (λ found. Walked (SaysOptional abi by_number.Dropped c.in-Eval.expr) nothing c.args.context.now new found)
    (λ found. Walked (SaysParts abi (optional Dropped c.in-Eval.expr)) nothing c.args.context.now new found)
    c.optional_unboxed.result (dropped_alone abi c.in-Eval.expr c.args.context.now new) c.optional_unboxed.ensures)

pub returns-in-Block : goal.returns-in-Block
returns-in-Block g c =
    let abi = c.args.checker.now.abi in
    let new = c.block.new.context in
    let part = StatementsOf c.as_slice.result.now in
    parts_alike abi (part ∷ []) (parts_in c.args.place (out-StmtForm c.args.form.now)) c.args.context.now new c.block.result
    (ap (λ body. StatementsOf body ∷ []) c.as_slice.ensures ∙ sym (ap (parts_in c.args.place) (ap out-StmtForm c.in-Block.is ∙ outs-Block c.in-Block.body)))
    (of_result (λ found. Walked (SaysPart abi part) nothing c.args.context.now new found) (λ found. Walked (SaysParts abi (part ∷ [])) nothing c.args.context.now new found)
    c.block.result (part_alone abi part c.args.context.now new) c.block.ensures)

pub returns-in-If : goal.returns-in-If
returns-in-If g c =
    parts_alike c.args.checker.now.abi (ValueOf Condition c.get-in-If.result.now ∷ Branch c.get-in-If-2.result.now ∷ other_branch c.in-If.no) (parts_in c.args.place (out-StmtForm c.args.form.now)) c.args.context.now c.choose.new.context c.choose.result
    ((λ i. ValueOf Condition (c.get-in-If.ensures i) ∷ Branch (c.get-in-If-2.ensures i) ∷ other_branch c.in-If.no)
    ∙ sym (ap (parts_in c.args.place) (ap out-StmtForm c.in-If.is ∙ outs-If c.in-If.test c.in-If.close c.in-If.yes c.in-If.no))) c.choose.ensures

pub returns-in-While : goal.returns-in-While
returns-in-While g c =
    parts_alike c.args.checker.now.abi (ValueOf Condition c.get-in-While.result.now ∷ LoopBody c.get-in-While-2.result.now ∷ []) (parts_in c.args.place (out-StmtForm c.args.form.now)) c.args.context.now c.while_loop.new.context c.while_loop.result
    ((λ i. ValueOf Condition (c.get-in-While.ensures i) ∷ LoopBody (c.get-in-While-2.ensures i) ∷ [])
    ∙ sym (ap (parts_in c.args.place) (ap out-StmtForm c.in-While.is ∙ outs-While c.in-While.test c.in-While.close c.in-While.body))) c.while_loop.ensures

pub returns-in-Do : goal.returns-in-Do
returns-in-Do g c =
    parts_alike c.args.checker.now.abi (LoopBody c.get-in-Do.result.now ∷ ValueOf Condition c.get-in-Do-2.result.now ∷ []) (parts_in c.args.place (out-StmtForm c.args.form.now)) c.args.context.now c.do_loop.new.context c.do_loop.result
    ((λ i. LoopBody (c.get-in-Do.ensures i) ∷ ValueOf Condition (c.get-in-Do-2.ensures i) ∷ [])
    ∙ sym (ap (parts_in c.args.place) (ap out-StmtForm c.in-Do.is ∙ outs-Do c.in-Do.body c.in-Do.test c.in-Do.close))) c.do_loop.ensures

pub returns-in-For : goal.returns-in-For
returns-in-For g c =
    parts_alike c.args.checker.now.abi (Whole c.get-in-For.result.now ∷ (optional Condition c.in-For.test ++ (optional Dropped c.in-For.next ++ LoopBody c.get-in-For-2.result.now ∷ []))) (parts_in c.args.place (out-StmtForm c.args.form.now)) c.args.context.now c.for_loop.new.context c.for_loop.result
    ((λ i. Whole (c.get-in-For.ensures i) ∷ (optional Condition c.in-For.test ++ (optional Dropped c.in-For.next ++ LoopBody (c.get-in-For-2.ensures i) ∷ [])))
    ∙ sym (ap (parts_in c.args.place) (ap out-StmtForm c.in-For.is ∙ outs-For c.in-For.first c.in-For.test c.in-For.semicolon c.in-For.next c.in-For.close c.in-For.body))) c.for_loop.ensures

pub returns-in-Break : goal.returns-in-Break
returns-in-Break g c =
    let abi = c.args.checker.now.abi in
    let part = LeavesLoop c.args.place in
    parts_alike abi (part ∷ []) (parts_in c.args.place (out-StmtForm c.args.form.now)) c.args.context.now c.args.context.now (Ok c.leave_loop.result)
    (sym (ap (parts_in c.args.place) (ap out-StmtForm c.in-Break.is ∙ outs-Break)))
    (part_alone abi part c.args.context.now c.args.context.now c.leave_loop.result (c.leave_loop.ensures abi))

pub returns-in-Continue : goal.returns-in-Continue
returns-in-Continue g c =
    let abi = c.args.checker.now.abi in
    let part = LeavesLoop c.args.place in
    parts_alike abi (part ∷ []) (parts_in c.args.place (out-StmtForm c.args.form.now)) c.args.context.now c.args.context.now (Ok c.leave_loop-in-Continue.result)
    (sym (ap (parts_in c.args.place) (ap out-StmtForm c.in-Continue.is ∙ outs-Continue)))
    (part_alone abi part c.args.context.now c.args.context.now c.leave_loop-in-Continue.result (c.leave_loop-in-Continue.ensures abi))

pub returns-in-Return : goal.returns-in-Return
returns-in-Return g c =
    let abi = c.args.checker.now.abi in
    let new = c.return_value.new.context in
    let part = returned c.args.place c.in-Return.expr in
    parts_alike abi (part ∷ []) (parts_in c.args.place (out-StmtForm c.args.form.now)) c.args.context.now new c.return_value.result
    (sym (ap (parts_in c.args.place) (ap out-StmtForm c.in-Return.is ∙ outs-Return c.in-Return.expr)))
    (of_result (λ found. Walked (SaysPart abi part) nothing c.args.context.now new found) (λ found. Walked (SaysParts abi (part ∷ [])) nothing c.args.context.now new found)
    c.return_value.result (part_alone abi part c.args.context.now new) c.return_value.ensures)
