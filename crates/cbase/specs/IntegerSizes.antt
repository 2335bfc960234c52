-- How many bytes the integer types have that are named by words: C11 6.2.5 and 5.2.4.2.1, by a data layout.
use Rattle.std.specs.Prelude.{ℕ}
use Rattle.cbase.specs.declared.abi.Abi.{Abi}
use Rattle.cbase.specs.declared.abi.Abi.TheVariants.{Lp64, Llp64}
use Rattle.cbase.specs.declared.tree.spec.Rank.{Rank}
use Rattle.cbase.specs.declared.tree.spec.Rank.TheVariants.{Char, Short, Int, Long, LongLong}

-- the integers of a rank
abbrev pub bytes_of_rank : Abi → Rank → ℕ
bytes_of_rank abi Char = 1
bytes_of_rank abi Short = 2
bytes_of_rank abi Int = 4
bytes_of_rank Lp64 Long = 8
bytes_of_rank Llp64 Long = 4
bytes_of_rank abi LongLong = 8
