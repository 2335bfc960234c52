-- Operators that compare two values by their address numbers.
use Rattle.std.specs.Prelude.{true, false, List, Option, None, Some}
use Rattle.cbase.specs.declared.tree.operators.BinaryOp.{BinaryOp}
use Rattle.cbase.specs.declared.tree.operators.BinaryOp.TheVariants.{Equal, NotEqual}
use Rattle.bytes_core.specs.declared.block.Block.{Block}
use Rattle.bytes_core.specs.declared.word.Word.{Word}
use Rattle.bytes_core.specs.Value.{is_same_address}
use Rattle.c_machine.specs.Words.{told}

-- `==` and `!=`; the other operators compare nothing so (C11 6.5.9)
abbrev pub compared : List Block → BinaryOp → Word → Word → Option Word
compared memory Equal one other = Some (told true (is_same_address memory one other))
compared memory NotEqual one other = Some (told false (is_same_address memory one other))
compared memory op one other = None
