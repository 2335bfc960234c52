-- What is read of a text, byte by byte.
use Rattle.std.specs.Prelude.{ℕ, Bool, true, false, List, [], ◌∷◌, ◌++◌, length, nat_le}
use Rattle.choices.specs.declared.choice.Choice.{Choice}
use Rattle.choices.specs.declared.choice.Choice.TheVariants.{None, Block, Input}
use Rattle.choices.specs.declared.part.Part.TheVariants.{Begin, Whole}
use Rattle.choices.specs.declared.part.Step.{Step}
use Rattle.choices.specs.declared.part.Step.TheVariants.{Refuse, Go, Byte, EndNone, EndInput, EndBlock}
use Rattle.choices.specs.declared.reader.Reader.{Reader}
use Rattle.choices.specs.Reading.{next}

-- what comes of a byte
pub data Turn : Type 0 where
  -- it is read
  Goes : (reader : Reader) → Turn
  -- no text of choices goes on with it
  Stops : Turn

-- a line ends with this choice
abbrev pub with_line : Reader → Choice → List ℕ → Reader
with_line reader choice contents = record { choices = reader.choices ++ choice ∷ []; contents = contents; part = Begin }

-- what a step leaves
abbrev pub after : Reader → Step → Turn
after reader Refuse = Stops
after reader (Go part) = Goes (record reader { part = part })
after reader (Byte base byte) = Goes (record reader { contents = reader.contents ++ byte ∷ []; part = Whole base })
after reader EndNone = Goes (with_line reader None reader.contents)
after reader (EndInput number) = Goes (with_line reader (Input number) reader.contents)
after reader (EndBlock base) = Goes (with_line reader (Block base reader.contents) [])

-- what one byte does
abbrev pub step : Reader → ℕ → Turn
step reader byte = after reader (next reader.part (nat_le 65536 (length reader.contents)) byte)

-- what a byte did, and what it left
abbrev pub turn_of : Bool → Reader → Turn
turn_of true reader = Goes reader
turn_of false reader = Stops

-- goes on where a byte was read
abbrev pub then_read : Turn → (Reader → Turn) → Turn
then_read (Goes reader) rest = rest reader
then_read Stops rest = Stops

-- what all bytes of a text do, one after the other
abbrev pub run : Reader → List ℕ → Turn
run reader [] = Goes reader
run reader (byte ∷ bytes) = then_read (step reader byte) (λ reader'. run reader' bytes)

-- nothing was read
abbrev pub start : Reader
start = record { choices = []; contents = []; part = Begin }
