-- Sizes, one behind the other.
use Rattle.std.proofs.Common.{[], ◌∷◌, ◌++◌, Option, refl, ap, ◌∙◌, arith, subst, ◌+◌, ◌≤◌}
use Rattle.cbase.specs.declared.tree.expr.Expr.{Expr}
use Rattle.ctrees.specs.Levels.{maybe_levels}
use Rattle.typing.specs.declared.size.Size.{Size}
use Rattle.expressions.proofs.EachItem.{each_item}
use Rattle.expressions.proofs.checker.Checker.sizes.Goals as goal
use Rattle.expressions.proofs.checker.Checker.sizes.Goals.{in-None, in-Some+in-Ok-Passes}
use Rattle.expressions.proofs.TypeNames.{sizes_start, sizes_kept, sizes_skip, sizes_next, sizes_refused, sizes_end}

pub loop-size-init : goal.loop-size-init
loop-size-init g c = sizes_start c.args.self.now.abi c.args.sizes.now _ c.args.context.now c.requires.empty

pub returns : goal.returns
returns g c = sizes_end c.args.self.now.abi c.args.sizes.now c.loop-size.found.items c.args.context.now c.loop-size.context c.loop-size.size-index (omega arith) c.loop-size.invariant

pub loop-size-preserved : goal.loop-size-preserved
loop-size-preserved g c = elim c.match-size.branch [
  | in-None w ↦ sizes_kept c.args.self.now.abi c.args.sizes.now _ _ c.args.context.now c.loop-size.context c.match-size.context (c.loop-size.size-index + 1) refl w.context-is
      (sizes_skip c.args.self.now.abi c.args.sizes.now c.loop-size.found.items c.push.new.self.items c.args.context.now c.loop-size.context c.loop-size.size-index c.size-item.result
      c.loop-size-test.true c.size-item.is w.in-None.is (c.in_ok-push.ensures.items ∙ ap (λ (one : Size). c.loop-size.found.items ++ one ∷ []) w.one-is) c.loop-size.invariant)
  | in-Some+in-Ok-Passes w ↦ sizes_kept c.args.self.now.abi c.args.sizes.now _ _ c.args.context.now w.array_size.new.context c.match-size.context (c.loop-size.size-index + 1) refl w.context-is
      (sizes_next c.args.self.now.abi c.args.sizes.now c.loop-size.found.items c.push.new.self.items c.args.context.now c.loop-size.context w.array_size.new.context c.loop-size.size-index c.size-item.result w.in-Some.expr w.in-Ok-Passes.one w.in-Ok-Passes.field-0
      c.loop-size-test.true c.size-item.is w.in-Some.is (c.in_ok-push.ensures.items ∙ ap (λ (one : Size). c.loop-size.found.items ++ one ∷ []) w.one-is) w.in-Ok-Passes.field-0-is w.in-Ok-Passes.ensures c.loop-size.invariant)
]

pub returns-in-Ok-Refused : goal.returns-in-Ok-Refused
returns-in-Ok-Refused g c = sizes_refused c.args.self.now.abi c.args.sizes.now c.loop-size.found.items c.args.context.now c.loop-size.context c.array_size.new.context c.loop-size.size-index c.size-item.result c.in-Some.expr c.in-Ok-Refused.fault c.in-Ok-Refused.field-0
    c.loop-size-test.true c.size-item.is c.in-Some.is c.in-Ok-Refused.field-0-is c.in-Ok-Refused.ensures c.loop-size.invariant

pub array_size-requires-clause-nests : goal.array_size-requires-clause-nests
array_size-requires-clause-nests g c = c.requires.nests

pub array_size-requires-clause-deep : goal.array_size-requires-clause-deep
array_size-requires-clause-deep g c = subst (λ (size : Option Expr). maybe_levels size ≤ c.args.self.now.depth) c.in-Some.is
    (each_item maybe_levels c.args.self.now.depth c.args.sizes.now c.loop-size.size-index c.size-item.result c.requires.deep c.loop-size-test.true c.size-item.is)
