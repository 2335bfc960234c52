-- Places in objects.
use Rattle.std.specs.Prelude.{◌≡◌, ℕ, ◌+◌, ◌≤◌, true, Some}
use Rattle.graph.specs.declared.object.Object.{Object}
use Rattle.graph.specs.declared.object.Shape.TheVariants.{Region}
use Rattle.graph.specs.declared.parts.Parts.{Parts}
use Rattle.graph.specs.Maps.{object_at}

-- a place in a live region where there is room for so many bytes
pub record IsRoom (parts : Parts) (key from count : ℕ) : Type 0 where
  pub object : Object
  pub stands : object_at parts.objects key ≡ Some object
  pub live : object.live ≡ true
  pub region : object.shape ≡ Region
  pub room : from + count ≤ object.size
