-- The post of a test whether two values are the same: the graph in which they are, or in which they differ.
--
-- Some tests and what follows. `a` and `b` are numbers of four bytes, `c` one of one byte, `p` and `q` addresses of the first bytes of two live
-- objects, `e` that of the byte behind the first one, `d` that of a dead object.
--
--   values        same                                    different
--   3 and 3       the graph                               no graph
--   3 and 4       no graph                                the graph
--   a and a       the graph                               no graph
--   a and b       b is a wherever it was                  a pair of a and b
--   a and b, of which a pair says that they differ
--                 no graph                                the graph
--   a and 3       3 stands wherever a did                 a pair of a and 3
--   a and 0       bytes that held a have class 0, and no edge
--                                                         a pair of a and 0
--   a and 3, where a pair of a and a constant 3 stands
--                 no graph                                the graph
--   c and 3       3 stands wherever c did                 the graph; loss 5
--   p and 0       no graph                                the graph
--   p and p       the graph                               no graph
--   p and q       no graph                                the graph
--   e and q       the graph; loss 4                       the graph; loss 4
--   d and 0       the graph; loss 4                       the graph; loss 4
--   d and d       the graph; loss 4                       no graph; loss 4
--   any word and a number or an address
--                 the graph; loss 4                       the graph; loss 4
use Rattle.std.specs.Prelude.{ℕ, Bool, true, false, List, [], ◌∷◌, None, Some, if◌then◌else◌}
use Rattle.graph.specs.declared.parts.Parts.{Parts}
use Rattle.graph.specs.Maps.{held_by}
use Rattle.graph.specs.WellFormed.{is_unequal_pair}
use Rattle.changes.specs.Parts.{without_registers}
use Rattle.changes.specs.Posted.{Posted, no_post, on_held}
use Rattle.reinterpret.specs.Comparing.{compared}
use Rattle.changes.specs.Merging.{merged, with_unequal}
use Rattle.reinterpret.specs.Reading.{one_graph}
use Rattle.reinterpret.specs.declared.comparison.Comparison.{Comparison}
use Rattle.reinterpret.specs.declared.comparison.Comparison.TheVariants as known

-- two numbers that may be the same differ: a pair says so, if there may be one. Of numbers of one or two bytes there is none: loss 5
abbrev pub told_apart : Parts → List ℕ → ℕ → ℕ → Posted
told_apart parts gone one other =
    if is_unequal_pair parts (record { left = one; right = other }) then one_graph (without_registers gone (with_unequal one other parts)) None
    else one_graph (without_registers gone parts) (Some 5)

abbrev pub tested : Parts → List ℕ → Bool → Comparison → Posted
tested parts gone true known.Same = one_graph (without_registers gone parts) None
tested parts gone false known.Same = no_post
tested parts gone true known.Different = no_post
tested parts gone false known.Different = one_graph (without_registers gone parts) None
tested parts gone true (known.Either kept other) = one_graph (without_registers gone (merged kept other parts)) None
tested parts gone false (known.Either kept other) = told_apart parts gone kept other
tested parts gone true known.Itself = one_graph (without_registers gone parts) (Some 4)
tested parts gone false known.Itself = record { graphs = []; kinds = []; loss = Some 4 }
tested parts gone true known.Unknown = one_graph (without_registers gone parts) (Some 4)
tested parts gone false known.Unknown = one_graph (without_registers gone parts) (Some 4)

abbrev pub equal_post : Parts → ℕ → ℕ → Bool → Posted
equal_post parts left right same =
    on_held (held_by parts.registers left) (λ one. on_held (held_by parts.registers right) (λ other. tested parts (left ∷ right ∷ []) same (compared parts one other)))
