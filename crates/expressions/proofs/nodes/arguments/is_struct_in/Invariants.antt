use Rattle.std.proofs.Common.{◌≡◌, false, take}
use Rattle.std.specs.List.{list_any}
use Rattle.typing.specs.ctypes.Kinds.{kind_of}
use Rattle.typing.specs.Calls.{is_struct}
use Rattle.expressions.specs.Context.{Agrees}
use Rattle.expressions.specs.Numbers.{Numbering}
use Rattle.expressions.proofs.nodes.arguments.is_struct_in.Given as goal

abbrev pub invariant-loop-one : goal.invariant-loop-one
invariant-loop-one l =
    (n : Numbering) → Agrees n l.context → list_any (λ one. is_struct (kind_of l.context.structs (n.ctype one.ctype))) (take l.one-index l.known) ≡ false
