-- A number for each pair of keys, the same in either order.
use Rattle.std.specs.Prelude.{ℕ, ◌+◌, ◌*◌, nat_le, if◌then◌else◌}
use Rattle.graph.specs.declared.parts.Pair.{Pair}

abbrev pub pair_code : Pair → ℕ
pair_code pair = if nat_le pair.left pair.right then pair.left * 4294967296 + pair.right else pair.right * 4294967296 + pair.left
