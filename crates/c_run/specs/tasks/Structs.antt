-- What is asked of the type of a value that is copied.
use Rattle.std.specs.Prelude.{ℕ, Option, None, Some}
use Rattle.c_machine.specs.declared.kind.Kind.{Kind}
use Rattle.c_machine.specs.declared.kind.Kind.TheVariants.{Struct}

-- how many bytes a struct has
abbrev pub struct_bytes : Kind → Option ℕ
struct_bytes (Struct bytes) = Some bytes
struct_bytes other = None
