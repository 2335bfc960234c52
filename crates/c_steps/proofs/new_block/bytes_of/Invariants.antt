-- The bytes before this one are there.
use Rattle.std.proofs.Common.{◌≡◌, ◌++◌, map, drop}
use Rattle.bytes_core.specs.declared.byte.Byte.TheVariants.{Num}
use Rattle.c_steps.proofs.new_block.bytes_of.Given as goal

abbrev pub invariant-loop-byte : goal.invariant-loop-byte
invariant-loop-byte l = l.bytes.items ++ map Num (drop l.byte-index l.contents) ≡ map Num l.contents
