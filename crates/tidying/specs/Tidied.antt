-- A graph without what nothing holds.
use Rattle.graph.specs.declared.parts.Parts.{Parts}
use Rattle.graph.specs.Renaming.{numbered}
use Rattle.graph.specs.Unheld.{with_only}
use Rattle.tidying.specs.Held.{stays, object_stays}

-- values that nothing holds go with their unequal pairs, and dead objects of which no address stays
abbrev pub tidied : Parts → Parts
tidied parts = numbered (with_only (stays parts) (object_stays parts) parts)
