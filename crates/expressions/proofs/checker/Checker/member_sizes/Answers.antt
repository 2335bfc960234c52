-- The sizes of a member, one behind the other.
use Rattle.std.proofs.Common.{◌≤◌, Option, refl, subst, arith}
use Rattle.cbase.specs.declared.tree.expr.Expr.{Expr}
use Rattle.ctrees.specs.Levels.{maybe_levels}
use Rattle.typing.specs.declared.size.Size.{Size}
use Rattle.typing.specs.Typing.{MemberSizeIs}
use Rattle.expressions.specs.declared.found.Found.{Found}
use Rattle.expressions.specs.declared.found.Found.TheVariants.{Passes, Refused}
use Rattle.expressions.specs.Found.{a_member_size}
use Rattle.expressions.specs.Walked.{Walked, Says}
use Rattle.expressions.proofs.EachItem.{each_item}
use Rattle.expressions.proofs.checker.Checker.member_sizes.Goals as goal
use Rattle.expressions.proofs.checker.Checker.member_sizes.Goals.{in-None, in-Some+in-Ok-Passes+in-Passes}
use Rattle.expressions.proofs.MemberSizes.{sizes_start, sizes_next, sizes_refused, sizes_end, size_left_out, size_fixed, size_stops}

pub loop-size-init : goal.loop-size-init
loop-size-init g c = sizes_start c.args.self.now.abi c.args.sizes.now _ c.args.context.now c.requires.empty

pub loop-size-preserved : goal.loop-size-preserved
loop-size-preserved g c = elim c.match-size.branch [
  | in-None w ↦ sizes_next c.args.self.now.abi c.args.sizes.now c.loop-size.found.items c.push.new.self.items c.args.context.now c.loop-size.context c.match-size.context c.loop-size.size-index c.size-item.result c.match-size.one (Passes c.match-size.one)
      c.loop-size-test.true c.size-item.is c.in_ok-push.ensures.items refl
      (rw (w.one-is, w.context-is) (size_left_out c.args.self.now.abi c.loop-size.context c.loop-size.context c.size-item.result w.in-None.is))
      c.loop-size.invariant
  | in-Some+in-Ok-Passes+in-Passes w ↦ sizes_next c.args.self.now.abi c.args.sizes.now c.loop-size.found.items c.push.new.self.items c.args.context.now c.loop-size.context c.match-size.context c.loop-size.size-index c.size-item.result c.match-size.one (Passes c.match-size.one)
      c.loop-size-test.true c.size-item.is c.in_ok-push.ensures.items refl
      (rw (w.one-is, w.context-is) (subst (λ (one : Found Size). Walked (Says c.args.self.now.abi (λ o. MemberSizeIs c.size-item.result o)) a_member_size c.loop-size.context w.array_size.new.context one) w.in-Passes.is
      (size_fixed c.args.self.now.abi c.loop-size.context w.array_size.new.context c.size-item.result w.in-Some.expr w.in-Ok-Passes.one w.in-Ok-Passes.field-0 w.fixed.result w.in-Some.is w.in-Ok-Passes.field-0-is w.in-Ok-Passes.ensures w.fixed.ensures)))
      c.loop-size.invariant
]

pub returns-in-Refused : goal.returns-in-Refused
returns-in-Refused g c = sizes_refused c.args.self.now.abi c.args.sizes.now c.loop-size.found.items c.args.context.now c.loop-size.context c.array_size.new.context c.loop-size.size-index c.size-item.result c.in-Refused.fault c.fixed.result
    c.loop-size-test.true c.size-item.is c.in-Refused.is
    (size_fixed c.args.self.now.abi c.loop-size.context c.array_size.new.context c.size-item.result c.in-Some.expr c.in-Ok-Passes.one c.in-Ok-Passes.field-0 c.fixed.result c.in-Some.is c.in-Ok-Passes.field-0-is c.in-Ok-Passes.ensures c.fixed.ensures)
    c.loop-size.invariant

pub returns-in-Ok-Refused : goal.returns-in-Ok-Refused
returns-in-Ok-Refused g c = sizes_refused c.args.self.now.abi c.args.sizes.now c.loop-size.found.items c.args.context.now c.loop-size.context c.array_size.new.context c.loop-size.size-index c.size-item.result c.in-Ok-Refused.fault (Refused c.in-Ok-Refused.fault)
    c.loop-size-test.true c.size-item.is refl
    (size_stops c.args.self.now.abi c.loop-size.context c.array_size.new.context c.size-item.result c.in-Some.expr c.in-Ok-Refused.fault c.in-Ok-Refused.field-0 c.in-Some.is c.in-Ok-Refused.field-0-is c.in-Ok-Refused.ensures)
    c.loop-size.invariant

pub returns : goal.returns
returns g c = sizes_end c.args.self.now.abi c.args.sizes.now c.loop-size.found.items c.args.context.now c.loop-size.context c.loop-size.size-index (omega arith) c.loop-size.invariant

pub array_size-requires-clause-nests : goal.array_size-requires-clause-nests
array_size-requires-clause-nests g c = c.requires.nests

pub array_size-requires-clause-deep : goal.array_size-requires-clause-deep
array_size-requires-clause-deep g c = subst (λ (size : Option Expr). maybe_levels size ≤ c.args.self.now.depth) c.in-Some.is
    (each_item maybe_levels c.args.self.now.depth c.args.sizes.now c.loop-size.size-index c.size-item.result c.requires.deep c.loop-size-test.true c.size-item.is)
