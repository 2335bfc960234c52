-- The end of a run on a graph whose segments may be empty.
use Rattle.std.specs.Prelude.{Bool, true, false, [], ◌∷◌, Some}
use Rattle.bytes_core.specs.Fault.{block_never_freed}
use Rattle.graph.specs.declared.parts.Parts.{Parts}
use Rattle.changes.specs.Posted.{Posted}
use Rattle.heap_steps.specs.Closing.{none_is_empty, close_post}

-- where a segment may be empty some memory has a block of it, and it is not known which: loss 3
abbrev pub ended_by : Parts → Bool → Posted
ended_by parts true = close_post parts
ended_by parts false = record { graphs = parts ∷ []; kinds = block_never_freed ∷ []; loss = Some 3 }

abbrev pub end_post : Parts → Posted
end_post parts = ended_by parts (none_is_empty parts)
