-- What a look for lost blocks comes to on a graph.
use Rattle.std.specs.Prelude.{Bool, true, false, [], ◌∷◌, None, Some}
use Rattle.std.specs.List.{list_any}
use Rattle.bytes_core.specs.Fault.{memory_lost}
use Rattle.graph.specs.declared.parts.Parts.{Parts}
use Rattle.changes.specs.Posted.{Posted}
use Rattle.heap_steps.specs.Unreached.{is_unreached, may_lead_anywhere}

-- whether some memory loses a block
abbrev pub loses_some : Parts → Bool
loses_some parts = list_any (is_unreached parts) parts.objects

-- where none does, all go on; where some does and nothing may lead anywhere, all do; else it is not known which: loss 3
abbrev pub looked_by : Parts → Bool → Bool → Posted
looked_by parts false anywhere = record { graphs = parts ∷ []; kinds = []; loss = None }
looked_by parts true false = record { graphs = []; kinds = memory_lost ∷ []; loss = None }
looked_by parts true true = record { graphs = parts ∷ []; kinds = memory_lost ∷ []; loss = Some 3 }

abbrev pub looked : Parts → Posted
looked parts = looked_by parts (loses_some parts) (may_lead_anywhere parts)
