use Rattle.std.proofs.Common.{◌≡◌, ◌+◌, ◌<◌, drop, map, length}
use Rattle.cbase.specs.declared.abi.Abi.{Abi}
use Rattle.cbase.specs.declared.tree.expr.ExprForm.TheViews.{out-Part}
use Rattle.typing.specs.Paths.{Way}
use Rattle.typing.specs.Pieces.{indices_in}
use Rattle.expressions.specs.Context.{Agrees}
use Rattle.expressions.specs.Numbers.{Numbering}
use Rattle.expressions.specs.Ways.{LeadsOn}
use Rattle.expressions.proofs.nodes.offsets.leads.Given as goal

abbrev pub invariant-loop-part : goal.invariant-loop-part
invariant-loop-part l = record {
  reaches : (abi : Abi) (n : Numbering) → Agrees n l.context → (way : Way)
      → LeadsOn abi l.context.structs l.word n (map out-Part (drop l.part-index l.path)) (drop l.reached.indices l.indices) l.reached way
      → LeadsOn abi l.context.structs l.word n (map out-Part l.path) l.indices l.fn.from way;
  below : l.reached.ctype < length l.context.types;
  counted : l.reached.indices + length (indices_in (drop l.part-index l.path)) ≡ length l.indices;
}
