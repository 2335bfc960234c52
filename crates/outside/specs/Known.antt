-- What a read says of the bytes that a reader has left, and a write of those that a writer holds, where these are known.
use Rattle.std.specs.Prelude.{ℕ, Option, List, take}
use Rattle.std.specs.Io.KnownBytes.{Appends, Consumes, IsAtEnd, Keeps}
use Rattle.outside.specs.declared.files.Taken.{Taken}
use Rattle.outside.specs.declared.files.Taken.TheVariants.{Bytes, End, Failed}
use Rattle.outside.specs.declared.sink.Given.{Given}
use Rattle.outside.specs.declared.sink.Given.TheVariants.{Bytes as Gave, Failed as Refused}

-- A read, which left `buffer`: it took the next bytes of what was left, or there were none, or it failed and took none.
abbrev pub TakesFrom : Option (List ℕ) → Option (List ℕ) → List ℕ → Taken → Type 0
TakesFrom before after buffer (Bytes n) = Consumes before after (take n buffer)
TakesFrom before after buffer End = Keeps before after × IsAtEnd after
TakesFrom before after buffer Failed = Keeps before after

-- A write of `piece`: it put the first bytes behind what the writer held, or it failed and put none.
abbrev pub GivesTo : Option (List ℕ) → Option (List ℕ) → List ℕ → Given → Type 0
GivesTo before after piece (Gave n) = Appends before after (take n piece)
GivesTo before after piece Refused = Keeps before after
