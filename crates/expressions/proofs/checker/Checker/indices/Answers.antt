use Rattle.std.proofs.Common.{◌∙◌, ◌+◌, ap, arith}
use Rattle.ctrees.specs.Levels.{part_levels}
use Rattle.expressions.proofs.EachItem.{each_item}
use Rattle.cbase.specs.declared.tree.expr.ExprForm.TheViews.{out-Part, outs-Part::Member, outs-At}
use Rattle.expressions.proofs.Loops.{indices_start, indices_kept, indices_skip, indices_next, indices_refused, indices_end, indices_counted}
use Rattle.expressions.proofs.PartLevels.{index_within}
use Rattle.expressions.proofs.checker.Checker.indices.Goals.{in-Member, in-At+in-Ok-Passes+in_ok-push-in-Ok-Passes}
use Rattle.expressions.proofs.checker.Checker.indices.Goals as goal

pub loop-part-init : goal.loop-part-init
loop-part-init g c = indices_start c.args.self.now.abi c.args.path.now _ c.args.context.now c.requires.empty

pub returns-in-Ok-Refused-clause-walk : goal.returns-in-Ok-Refused-clause-walk
returns-in-Ok-Refused-clause-walk g c = indices_refused c.args.self.now.abi c.args.path.now c.loop-part.words.items c.args.context.now c.loop-part.context c.index.new.context c.loop-part.part-index c.part-item.result c.in-At.expr c.in-Ok-Refused.fault c.in-Ok-Refused.field-0
    c.loop-part-test.true c.part-item.is (ap out-Part c.in-At.is ∙ outs-At c.in-At.expr) c.in-Ok-Refused.field-0-is c.in-Ok-Refused.ensures c.loop-part.invariant

pub loop-part-preserved : goal.loop-part-preserved
loop-part-preserved g c = elim c.match-part.branch [
  | in-Member w ↦ indices_kept c.args.self.now.abi c.args.path.now c.loop-part.words.items _ c.args.context.now c.loop-part.context c.match-part.context (c.loop-part.part-index + 1) (ap (λ words. words.items) w.words-is) w.context-is
      (indices_skip c.args.self.now.abi c.args.path.now c.loop-part.words.items c.args.context.now c.loop-part.context c.loop-part.part-index c.part-item.result w.in-Member.field-0
      c.loop-part-test.true c.part-item.is (ap out-Part w.in-Member.is ∙ outs-Part::Member w.in-Member.field-0) c.loop-part.invariant)
  | in-At+in-Ok-Passes+in_ok-push-in-Ok-Passes w ↦ indices_kept c.args.self.now.abi c.args.path.now w.push.new.self.items _ c.args.context.now w.index.new.context c.match-part.context (c.loop-part.part-index + 1) (ap (λ words. words.items) w.words-is) w.context-is
      (indices_next c.args.self.now.abi c.args.path.now c.loop-part.words.items w.push.new.self.items c.args.context.now c.loop-part.context w.index.new.context c.loop-part.part-index c.part-item.result w.in-At.expr w.in-Ok-Passes.word w.in-Ok-Passes.field-0
      c.loop-part-test.true c.part-item.is (ap out-Part w.in-At.is ∙ outs-At w.in-At.expr) w.in_ok-push-in-Ok-Passes.ensures.items w.in-Ok-Passes.field-0-is w.in-Ok-Passes.ensures c.loop-part.invariant)
]

pub returns-clause-walk : goal.returns-clause-walk
returns-clause-walk g c = indices_end c.args.self.now.abi c.args.path.now c.loop-part.words.items c.args.context.now c.loop-part.context c.loop-part.part-index (omega arith) c.loop-part.invariant

pub returns-clause-count : goal.returns-clause-count
returns-clause-count g c = indices_counted c.args.self.now.abi c.args.path.now c.loop-part.words.items c.args.context.now c.loop-part.context c.loop-part.part-index (omega arith) c.loop-part.invariant

pub index-requires-clause-nests : goal.index-requires-clause-nests
index-requires-clause-nests g c = c.requires.nests

pub index-requires-clause-deep : goal.index-requires-clause-deep
index-requires-clause-deep g c = index_within c.part-item.result c.in-At.expr c.args.self.now.depth c.in-At.is
    (each_item part_levels c.args.self.now.depth c.args.path.now c.loop-part.part-index c.part-item.result c.requires.deep c.loop-part-test.true c.part-item.is)

pub returns-in-Ok-Refused-clause-count : goal.returns-in-Ok-Refused-clause-count
returns-in-Ok-Refused-clause-count g c = tt
