use Rattle.expressions.proofs.Parts.{index_part, index_refused}
use Rattle.expressions.proofs.Walking.{passed_of}
use Rattle.expressions.proofs.checker.Checker.index.Goals as goal

pub returns-in-Ok-Passes : goal.returns-in-Ok-Passes
returns-in-Ok-Passes g c = index_part c.args.self.now.abi c.args.expr.now c.args.context.now c.loaded.new.context c.in-Ok-Passes.known c.index_in.result
    (passed_of _ _ _ _ _ c.in-Ok-Passes.field-0 c.in-Ok-Passes.field-0-is c.in-Ok-Passes.ensures) c.index_in.ensures

pub returns-in-Ok-Refused : goal.returns-in-Ok-Refused
returns-in-Ok-Refused g c = index_refused c.args.self.now.abi c.args.expr.now c.args.context.now c.loaded.new.context c.in-Ok-Refused.fault c.in-Ok-Refused.field-0 c.in-Ok-Refused.field-0-is c.in-Ok-Refused.ensures

pub loaded-requires-clause-nests : goal.loaded-requires-clause-nests
loaded-requires-clause-nests g c = c.requires.nests

pub loaded-requires-clause-deep : goal.loaded-requires-clause-deep
loaded-requires-clause-deep g c = c.requires.deep

pub index_in-requires : goal.index_in-requires
index_in-requires g c = (passed_of _ _ _ _ _ _ c.in-Ok-Passes.field-0-is c.in-Ok-Passes.ensures).below
