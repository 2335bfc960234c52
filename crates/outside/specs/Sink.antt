-- What the answer of a sink says of the bytes that were written.
use Rattle.std.specs.Prelude.{◌≡◌, ℕ, ◌<◌, ◌≤◌, Option, None, Some, List, ◌++◌, length, take}
use Rattle.outside.specs.declared.sink.Given.{Given}
use Rattle.outside.specs.declared.sink.Given.TheVariants.{Bytes, Failed}

-- What was written, where it is told, with `more` behind it.
abbrev pub appended : Option (List ℕ) → List ℕ → Option (List ℕ)
appended None more = None
appended (Some bytes) more = Some (bytes ++ more)

-- What a sink says of a piece, where it held `before` and holds `after`: it took the first bytes of the
-- piece, at least one, or it failed and took none.
abbrev pub Gives : Option (List ℕ) → Option (List ℕ) → List ℕ → Given → Type 0
Gives before after piece (Bytes n) =
    (0 < n) × (n ≤ length piece) × (after ≡ appended before (take n piece))
Gives before after piece Failed = after ≡ before
