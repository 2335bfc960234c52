use Rattle.std.proofs.Common.{ℕ, ◌+◌, List, map, drop, length, ap, ◌∙◌, subst, arith}
use Rattle.cbase.specs.declared.tree.expr.ExprForm.TheViews.{out-Part}
use Rattle.typing.specs.Forms.{Step}
use Rattle.typing.specs.Paths.{Offset, Stops}
use Rattle.typing.specs.Pieces.{indices_in}
use Rattle.expressions.specs.Ways.{LeadsOn}
use Rattle.expressions.proofs.Stepping.{arrived, counted_next, rest_with}
use Rattle.expressions.proofs.nodes.offsets.leads.Goals as goal

pub loop-part-init : goal.loop-part-init
loop-part-init c = record {
  reaches = λ abi n agrees way leads.
      subst (λ (at : ℕ). LeadsOn abi c.args.context.now.structs c.args.word n (map out-Part c.args.path.now) (drop at c.args.indices.now) c.args.from way) c.requires.none leads;
  below = c.requires.ctype;
  counted = omega (arith, c.requires.none, c.requires.indices);
}

pub loop-part-preserved : goal.loop-part-preserved
loop-part-preserved c =
    let path = c.args.path.now in
    let at : ℕ = c.loop-part.part-index in
    let reached = c.loop-part.reached in
    record {
      reaches = λ abi n agrees way leads. c.loop-part.invariant.reaches abi n agrees way
          (subst (λ (steps : List Step). LeadsOn abi c.args.context.now.structs c.args.word n steps (drop reached.indices c.args.indices.now) reached way)
          (rest_with path at c.part-item.result c.loop-part-test.true c.part-item.is)
          (c.in-Ok.ensures.is abi n (map out-Part (drop (at + 1) path)) agrees way leads));
      below = c.in-Ok.ensures.below;
      counted = ap (λ (indices : ℕ). indices + length (indices_in (drop (at + 1) path))) c.in-Ok.ensures.indices
          ∙ counted_next path at c.part-item.result reached.indices _ c.loop-part-test.true c.part-item.is c.loop-part.invariant.counted;
    }

pub step-requires-clause-ctype : goal.step-requires-clause-ctype
step-requires-clause-ctype c = c.loop-part.invariant.below

pub step-requires-clause-indices : goal.step-requires-clause-indices
step-requires-clause-indices c =
    omega (arith, counted_next c.args.path.now c.loop-part.part-index c.part-item.result c.loop-part.reached.indices _ c.loop-part-test.true c.part-item.is c.loop-part.invariant.counted)

pub returns-in-Err : goal.returns-in-Err
returns-in-Err c abi n agrees =
    let reached = c.loop-part.reached in
    c.loop-part.invariant.reaches abi n agrees (Stops c.in-Err.fault)
    (subst (λ (steps : List Step). LeadsOn abi c.args.context.now.structs c.args.word n steps (drop reached.indices c.args.indices.now) reached (Stops c.in-Err.fault))
    (rest_with c.args.path.now c.loop-part.part-index c.part-item.result c.loop-part-test.true c.part-item.is)
    (c.in-Err.ensures.is abi n (map out-Part (drop (c.loop-part.part-index + 1) c.args.path.now)) agrees))

pub returns : goal.returns
returns c abi n agrees =
    c.loop-part.invariant.reaches abi n agrees (Offset c.loop-part.reached.offset)
    (arrived abi c.args.context.now.structs c.args.word n c.args.path.now c.loop-part.part-index c.args.indices.now c.loop-part.reached (omega arith) c.loop-part.invariant.counted)
