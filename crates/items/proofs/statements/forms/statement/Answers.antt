-- What is found of the parts of a statement is found of it, in a scope of its own or in none.
use Rattle.std.proofs.Common.{◌∙◌, sym}
use Rattle.items.proofs.statements.Levels.{form_within}
use Rattle.items.proofs.statements.Scopes.{statement_of_parts, statement_in_scope}
use Rattle.items.proofs.statements.forms.statement.Goals as goal

pub parts-requires : goal.parts-requires
parts-requires g c = record { nests = c.requires.nests; deep = form_within c.args.stmt.now c.args.checker.now.depth c.requires.deep }

pub parts-requires-2 : goal.parts-requires-2
parts-requires-2 g c = record { nests = c.requires.nests; deep = form_within c.args.stmt.now c.args.checker.now.depth c.requires.deep }

pub returns-then-not-has_scope : goal.returns-then-not-has_scope
returns-then-not-has_scope g c = statement_of_parts c.args.checker.now.abi c.args.stmt.now c.args.context.now c.parts.new.context c.parts.result (sym c.has_scope.ensures ∙ c.if-not-has_scope.true) c.parts.ensures

pub returns : goal.returns
returns g c = statement_in_scope c.args.checker.now.abi c.args.stmt.now c.args.context.now c.enter.new.self c.parts-2.new.context c.leave.new.self c.in_ok-found.found
    (sym c.has_scope.ensures ∙ c.if-not-has_scope.false) c.in_ok-enter.ensures.ok c.leave.ensures c.in_ok-found.ensures
