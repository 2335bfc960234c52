-- Whether two masks have the same cells.
use Rattle.std.specs.Prelude.{Bool, true, false, ◌&&◌, List, [], ◌∷◌, nat_eq}
use Rattle.cover.specs.declared.cells.Cell.{Cell}

-- two cells are one
abbrev pub is_same_cell : Cell → Cell → Bool
is_same_cell one other = nat_eq one.variable other.variable && (nat_eq one.at other.at && nat_eq one.size other.size)

-- two lists have the same cells
abbrev pub are_same_cells : List Cell → List Cell → Bool
are_same_cells [] [] = true
are_same_cells [] (other ∷ others) = false
are_same_cells (one ∷ ones) [] = false
are_same_cells (one ∷ ones) (other ∷ others) = is_same_cell one other && are_same_cells ones others
