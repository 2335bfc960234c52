-- What is written of a list of choices.
use Rattle.std.specs.Prelude.{ℕ, ◌^◌, ◌<◌, ◌≤◌, List, ◌++◌, length, codes}
use Rattle.std.specs.List.{flat_map}
use Rattle.std.specs.Fmt.{decimal}
use Rattle.choices.specs.declared.choice.Choice.{Choice}
use Rattle.choices.specs.declared.choice.Choice.TheVariants.{None, Block, Input}
use Rattle.choices.specs.Format.{AreContents, contents_text}

-- the line of a choice
abbrev pub line_of : Choice → List ℕ
line_of None = codes "none\n"
line_of (Input number) = codes "input " ++ (decimal number ++ codes "\n")
line_of (Block base bytes) = codes "block " ++ (decimal base ++ (codes " " ++ (contents_text bytes ++ codes "\n")))

-- the lines of all choices
abbrev pub written : List Choice → List ℕ
written choices = flat_map line_of choices

-- a choice has a line where its numbers have 64 bits and its contents are at most 65,536 bytes
abbrev pub HasLine : Choice → Type 0
HasLine None = Unit {0}
HasLine (Input number) = number < 2 ^ 64
HasLine (Block base bytes) = (base < 2 ^ 64) × AreContents bytes

-- contents of at most 65,536 bytes, where there are any
abbrev pub HasFewBytes : Choice → Type 0
HasFewBytes None = Unit {0}
HasFewBytes (Input number) = Unit {0}
HasFewBytes (Block base bytes) = length bytes ≤ 65536
