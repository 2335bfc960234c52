-- One word of a command line by itself.
use Rattle.std.specs.Prelude.{◌==◌, ℕ, Bool, false, List, ◌∷◌, Option, Some, None}
use Rattle.std.specs.Prelude.{if◌then◌else◌, codes}
use Rattle.std.specs.List.{list_any, before_first, after_first}
use Rattle.std.specs.Str.{bytes_eq}

-- a word is its bytes
abbrev pub Word : Type 0
Word = List ℕ

-- `--`
abbrev pub is_end_of_options : Word → Bool
is_end_of_options word = bytes_eq word (codes "--")

-- the word begins with `-` (45) and has more bytes
abbrev pub has_hyphen : Word → Bool
has_hyphen (first ∷ second ∷ rest) = first == 45
has_hyphen _ = false

-- `=` (61)
abbrev pub is_equals : ℕ → Bool
is_equals byte = byte == 61

-- what stands before the first `=` of an option's word
abbrev pub option_name : Word → Word
option_name word = before_first is_equals word

-- what stands behind it, where there is one
abbrev pub option_value : Word → Option Word
option_value word =
    if list_any is_equals word then Some (after_first is_equals word) else None

-- a place that one word may fill
abbrev pub once : Option Word → Word → Option Word
once None word = Some word
once (Some earlier) word = None
