-- Marks of the values that are spared.
use Rattle.std.specs.Prelude.{Bool, false, List, length, replicate}
use Rattle.std.specs.List.{fold}
use Rattle.graph.specs.declared.parts.KeyedObject.{KeyedObject}
use Rattle.graph.specs.declared.parts.Parts.{Parts}
use Rattle.tidying.specs.Marks.{links_marked, ports_marked}

abbrev pub ends_marked : List Bool → List KeyedObject → List Bool
ends_marked marks entries = fold (λ marks entry. links_marked marks entry.object.shape) marks entries

-- of each value whether it is spared
abbrev pub spared_marks : Parts → List Bool
spared_marks parts = ports_marked (ends_marked (replicate (length parts.values) false) parts.objects) parts.ports
