use Rattle.std.proofs.Common.{◌≡◌, false, take}
use Rattle.std.specs.List.{list_any}
use Rattle.typing.specs.ctypes.Kinds.{kind_of}
use Rattle.typing.specs.Calls.{is_struct}
use Rattle.expressions.specs.Context.{Agrees}
use Rattle.expressions.specs.Numbers.{Numbering}
use Rattle.expressions.proofs.nodes.arguments.is_struct_among.Given as goal

abbrev pub invariant-loop-param : goal.invariant-loop-param
invariant-loop-param l =
    (n : Numbering) → Agrees n l.context → list_any (λ param. is_struct (kind_of l.context.structs (n.ctype param))) (take l.param-index l.params) ≡ false
