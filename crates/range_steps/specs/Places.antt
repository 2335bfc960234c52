-- Ranges of objects.
use Rattle.std.specs.Prelude.{◌≡◌, ℕ, ◌+◌, ◌≤◌, true, length}
use Rattle.std.specs.List.{list_all}
use Rattle.graph.specs.declared.object.Object.{Object}
use Rattle.graph.specs.WellFormed.{lies_in}

-- a range of an object whose edges lie in its bytes
pub record IsRange (object : Object) (from count : ℕ) : Type 0 where
  pub range : from + count ≤ length object.plane
  pub small : length object.plane ≤ 65536
  pub inside : list_all (lies_in (length object.plane)) object.edges ≡ true
