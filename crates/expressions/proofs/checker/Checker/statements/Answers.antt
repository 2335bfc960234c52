-- The statements of a block, one behind the other.
use Rattle.std.proofs.Common.{◌+◌, refl, arith, Ok}
use Rattle.ctrees.specs.Levels.{expr_levels, stmt_levels}
use Rattle.expressions.specs.declared.found.Found.TheVariants.{Refused}
use Rattle.expressions.proofs.EachItem.{each_item}
use Rattle.expressions.proofs.checker.Checker.statements.Goals as goal
use Rattle.expressions.proofs.PartLevels.{no_deeper}
use Rattle.expressions.proofs.Walking.{passed_of}
use Rattle.expressions.proofs.Blocks.{rest_of, last_refused, statements_start, statements_next, statements_refused, statements_value, statements_end}

pub loop-at-init : goal.loop-at-init
loop-at-init g c = statements_start c.args.self.now.abi c.args.body.now c.args.context.now

pub loop-at-preserved : goal.loop-at-preserved
loop-at-preserved g c = statements_next c.args.self.now.abi c.args.body.now c.args.context.now c.loop-at.context c.ask_statement.new.context c.loop-at.at c.index-body-at.result c.in-Ok-Passes-ask_statement.field-0-0 c.in-Ok-Passes-ask_statement.field-0
    c.loop-at-test.true c.index-body-at.is _ (rest_of c.args.body.now (c.loop-at.at + 1)) c.in_default.ensures.none c.in-Ok-Passes-ask_statement.field-0-is c.in-Ok-Passes-ask_statement.ensures c.loop-at.invariant

pub returns-in-Ok-Refused-ask_statement : goal.returns-in-Ok-Refused-ask_statement
returns-in-Ok-Refused-ask_statement g c = statements_refused c.args.self.now.abi c.args.body.now c.args.context.now c.loop-at.context c.ask_statement.new.context c.loop-at.at c.index-body-at.result c.in-Ok-Refused-ask_statement.fault c.in-Ok-Refused-ask_statement.field-0
    c.loop-at-test.true c.index-body-at.is _ (rest_of c.args.body.now (c.loop-at.at + 1)) c.in_default.ensures.none c.in-Ok-Refused-ask_statement.field-0-is c.in-Ok-Refused-ask_statement.ensures c.loop-at.invariant

pub returns-in-Ok-Passes : goal.returns-in-Ok-Passes
returns-in-Ok-Passes g c = statements_value c.args.self.now.abi c.args.body.now c.value_type.result c.args.context.now c.loop-at.context c.value_type.new.context c.loop-at.at c.index-body-at.result _
    c.loop-at-test.true c.index-body-at.is (rest_of c.args.body.now (c.loop-at.at + 1)) c.loop-at.invariant
    (c.value_type.ensures c.args.self.now.abi c.index-body-at.result c.in-Some.expr.now _ c.loop-at.context refl c.in-Some.ensures.some.1 c.in-Some.ensures.some.0 (passed_of _ _ _ _ _ _ c.in-Ok-Passes.field-0-is c.in-Ok-Passes.ensures))

pub returns-in-Ok-Refused : goal.returns-in-Ok-Refused
returns-in-Ok-Refused g c = statements_value c.args.self.now.abi c.args.body.now (Ok (Refused c.in-Ok-Refused.fault)) c.args.context.now c.loop-at.context c.loaded.new.context c.loop-at.at c.index-body-at.result _
    c.loop-at-test.true c.index-body-at.is (rest_of c.args.body.now (c.loop-at.at + 1)) c.loop-at.invariant
    (last_refused c.args.self.now.abi c.index-body-at.result _ c.in-Some.expr.now c.loop-at.context c.loaded.new.context c.in-Ok-Refused.fault c.in-Ok-Refused.field-0 c.in-Some.ensures.some.1 c.in-Some.ensures.some.0 c.in-Ok-Refused.field-0-is c.in-Ok-Refused.ensures)

pub returns-in-Ok : goal.returns-in-Ok
returns-in-Ok g c = statements_end c.args.self.now.abi c.args.body.now c.args.context.now c.loop-at.context c.void.new.self c.loop-at.at c.in-Ok.ctype (omega arith) c.loop-at.invariant c.in-Ok.ensures

pub ask_statement-requires-clause-nests : goal.ask_statement-requires-clause-nests
ask_statement-requires-clause-nests g c = c.requires.nests

pub loaded-requires-clause-nests : goal.loaded-requires-clause-nests
loaded-requires-clause-nests g c = c.requires.nests

pub loaded-requires-clause-deep : goal.loaded-requires-clause-deep
loaded-requires-clause-deep g c = no_deeper (expr_levels c.in-Some.expr.now) (stmt_levels c.index-body-at.result) c.args.self.now.depth c.in-Some.ensures.levels
    (each_item stmt_levels c.args.self.now.depth c.args.body.now c.loop-at.at c.index-body-at.result c.requires.deep c.loop-at-test.true c.index-body-at.is)

pub value_type-requires : goal.value_type-requires
value_type-requires g c = (passed_of _ _ _ _ _ _ c.in-Ok-Passes.field-0-is c.in-Ok-Passes.ensures).below

pub ask_statement-requires-clause-deep : goal.ask_statement-requires-clause-deep
ask_statement-requires-clause-deep g c = each_item stmt_levels c.args.self.now.depth c.args.body.now c.loop-at.at c.index-body-at.result c.requires.deep c.loop-at-test.true c.index-body-at.is
