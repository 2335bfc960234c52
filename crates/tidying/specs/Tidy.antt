-- Graphs in which each dead object is named.
use Rattle.std.specs.Prelude.{◌≡◌, ℕ, true, false, slice_get, Some}
use Rattle.graph.specs.declared.parts.KeyedObject.{KeyedObject}
use Rattle.graph.specs.declared.parts.Parts.{Parts}
use Rattle.graph.specs.Large.{is_addressed}

-- an edge, an outward link, a register or a port holds an address of each object that is dead
abbrev pub IsTidy : Parts → Type 0
IsTidy parts = (place : ℕ) (entry : KeyedObject) → slice_get parts.objects place ≡ Some entry → entry.object.live ≡ false → is_addressed parts entry.key ≡ true
