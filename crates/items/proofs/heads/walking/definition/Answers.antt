-- A head with its body.
use Rattle.std.proofs.Common.{◌≤◌, List, All, false, sym, ap, subst, ◌∙◌}
use Rattle.cbase.specs.declared.tree.stmt.Stmt.{Stmt}
use Rattle.ctrees.specs.Levels.{stmt_levels}
use Rattle.typing.specs.environment.Environment.{loop_set}
use Rattle.typing.specs.Typing.{StatementsAre}
use Rattle.expressions.specs.Context.{Context}
use Rattle.expressions.specs.Found.{a_value_type}
use Rattle.expressions.specs.Walked.{Walked, Says}
use Rattle.items.proofs.heads.HeadWalked.{definition_refused, definition_stops, definition_passes, number_of_head}
use Rattle.items.proofs.heads.walking.definition.Goals as goal

pub returns-in-Refused : goal.returns-in-Refused
returns-in-Refused g c = definition_refused c.args.checker.now.abi c.args.storage c.args.base c.args.name.now c.args.body.now c.args.context.now c.head.new.context c.in-Refused.fault c.in_ok-told.told c.in-Refused.is c.in_ok-told.ensures

pub set_function-requires : goal.set_function-requires
set_function-requires g c = number_of_head c.args.checker.now.abi c.args.storage c.args.base c.args.name.now c.args.body.now c.args.context.now c.head.new.context c.in-Passes.result_type c.in_ok-told.told c.in-Passes.is c.in_ok-told.ensures

pub statements-requires-clause-deep : goal.statements-requires-clause-deep
statements-requires-clause-deep g c = subst (λ (body : List Stmt). All (λ stmt. stmt_levels stmt ≤ c.args.checker.now.depth) body) (sym c.as_slice.ensures) c.requires.body

pub returns-in-Passes-found : goal.returns-in-Passes-found
returns-in-Passes-found g c = definition_passes c.args.checker.now.abi c.args.storage c.args.base c.args.name.now c.args.body.now c.args.context.now c.head.new.context c.set_loop.new.self c.statements.new.context c.in-Passes.result_type c.in_ok-told.told
    c.in-Passes.is c.in_ok-told.ensures (c.set_loop.ensures ∙ ap (λ (context : Context). record context { environment = loop_set false context.environment }) c.set_function.ensures)
    c.in-Passes-found.field-0 c.in_ok-found.found c.in-Passes-found.is
    (subst (λ (body : List Stmt). Walked (Says c.args.checker.now.abi (λ o. StatementsAre body o)) a_value_type c.set_loop.new.self c.statements.new.context c.in_ok-found.found) c.as_slice.ensures c.in_ok-found.ensures)

pub returns-in-Refused-found : goal.returns-in-Refused-found
returns-in-Refused-found g c = definition_stops c.args.checker.now.abi c.args.storage c.args.base c.args.name.now c.args.body.now c.args.context.now c.head.new.context c.set_loop.new.self c.statements.new.context c.in-Passes.result_type c.in_ok-told.told
    c.in-Passes.is c.in_ok-told.ensures (c.set_loop.ensures ∙ ap (λ (context : Context). record context { environment = loop_set false context.environment }) c.set_function.ensures)
    c.in-Refused-found.fault c.in_ok-found.found c.in-Refused-found.is
    (subst (λ (body : List Stmt). Walked (Says c.args.checker.now.abi (λ o. StatementsAre body o)) a_value_type c.set_loop.new.self c.statements.new.context c.in_ok-found.found) c.as_slice.ensures c.in_ok-found.ensures)
