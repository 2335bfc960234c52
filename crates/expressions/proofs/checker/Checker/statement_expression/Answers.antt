-- A statement expression, behind its block.
use Rattle.cbase.specs.declared.tree.expr.ExprForm.TheOpen.{Inner}
use Rattle.expressions.specs.Found.{one_value}
use Rattle.expressions.proofs.checker.Checker.statement_expression.Goals as goal
use Rattle.expressions.proofs.Blocks.{block_walked, statement_form}
use Rattle.expressions.proofs.Walking.{passed_of, refused_form}

pub returns-in-Passes : goal.returns-in-Passes
returns-in-Passes g c = λ close. statement_form c.args.self.now.abi c.args.node.number c.args.node.place close c.args.body.now c.in-Passes.ctype c.in-Ok.found c.plain.result c.args.context.now c.leave.new.self c.pass.new.context c.pass.result
    c.in-Passes.is (block_walked c.args.self.now.abi c.args.body.now c.args.context.now c.enter.new.self c.statements.new.context c.leave.new.self c.in_ok-enter.ensures.ok c.leave.ensures c.in-Ok.found c.in-Ok.ensures) c.plain.ensures.ctype c.plain.ensures.is c.pass.ensures

pub returns-in-Refused : goal.returns-in-Refused
returns-in-Refused g c = λ close. refused_form c.args.self.now.abi c.args.node.number c.args.node.place (Inner c.args.body.now close) one_value c.args.context.now c.leave.new.self c.in-Refused.fault c.in-Ok.found c.in-Refused.is (block_walked c.args.self.now.abi c.args.body.now c.args.context.now c.enter.new.self c.statements.new.context c.leave.new.self c.in_ok-enter.ensures.ok c.leave.ensures c.in-Ok.found c.in-Ok.ensures)

pub statements-requires-clause-nests : goal.statements-requires-clause-nests
statements-requires-clause-nests g c = c.requires.nests

pub statements-requires-clause-deep : goal.statements-requires-clause-deep
statements-requires-clause-deep g c = c.requires.deep

pub pass-requires : goal.pass-requires
pass-requires g c = rw (c.plain.ensures.ctype, c.leave.ensures) (passed_of _ _ _ _ _ _ c.in-Passes.is c.in-Ok.ensures).below
