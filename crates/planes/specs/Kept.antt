-- What holds of each plane as it is kept: a byte for each byte of its object.
use Rattle.std.specs.Prelude.{◌≤◌, All, length}
use Rattle.planes.specs.declared.plane.Plane.TheInside.{Inside}
use Rattle.planes.specs.Classes.{IsClass}

pub record IsPlane (plane : Inside) : Type 0 where
  pub most : length plane.bytes.items ≤ 65536
  pub classes : All IsClass plane.bytes.items
