-- An object that dies.
use Rattle.std.specs.Prelude.{false, []}
use Rattle.graph.specs.declared.object.Object.{Object}

-- nothing is said of the bytes of a dead object
abbrev pub died : Object → Object
died object = record object { live = false; edges = []; plane = [] }
