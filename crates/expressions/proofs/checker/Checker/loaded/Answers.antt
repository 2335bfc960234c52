use Rattle.expressions.proofs.Parts.{loaded_part, loaded_refused}
use Rattle.expressions.proofs.Walking.{passed_of}
use Rattle.expressions.proofs.checker.Checker.loaded.Goals as goal

pub returns-in-Ok-Passes : goal.returns-in-Ok-Passes
returns-in-Ok-Passes g c = loaded_part c.args.self.now.abi c.args.expr.now c.args.context.now c.ask_expression.new.context c.in-Ok-Passes.known c.load.result
    (passed_of _ _ _ _ _ c.in-Ok-Passes.field-0 c.in-Ok-Passes.field-0-is c.in-Ok-Passes.ensures) c.load.ensures

pub returns-in-Ok-Refused : goal.returns-in-Ok-Refused
returns-in-Ok-Refused g c = loaded_refused c.args.self.now.abi c.args.expr.now c.args.context.now c.ask_expression.new.context c.in-Ok-Refused.fault c.in-Ok-Refused.field-0 c.in-Ok-Refused.field-0-is c.in-Ok-Refused.ensures

pub ask_expression-requires-clause-nests : goal.ask_expression-requires-clause-nests
ask_expression-requires-clause-nests g c = c.requires.nests

pub ask_expression-requires-clause-deep : goal.ask_expression-requires-clause-deep
ask_expression-requires-clause-deep g c = c.requires.deep

pub load-requires : goal.load-requires
load-requires g c = (passed_of _ _ _ _ _ _ c.in-Ok-Passes.field-0-is c.in-Ok-Passes.ensures).below
