-- Which words `predator replay [--model M] [--strict] [--steps N] FILE CHOICES` takes behind the word `replay`, and what
-- they ask for.
use Rattle.std.specs.Prelude.{ℕ, Bool, true, false, List, [], ◌∷◌, Option, Some, None}
use Rattle.std.specs.Prelude.{if◌then◌else◌, codes, option_and_then, slice_get}
use Rattle.std.specs.Str.{bytes_eq}
use Rattle.cbase.specs.declared.abi.Abi.{Abi}
use Rattle.cbase.specs.declared.abi.Abi.TheVariants.{Lp64, Llp64}
use Rattle.command_line.specs.Numbers.{number_or}
use Rattle.command_line.specs.Words.{Word, has_hyphen, is_end_of_options, once, option_name, option_value}
use Rattle.command_line.specs.declared.replay.ReplayCommand.{ReplayCommand}

-- ---- what the words so far have given

-- what the next word may be: anything, the value of one of the options, or a file alone
pub data Next : Type 0 where
  anything : Next
  model_value : Next
  steps_value : Next
  files_only : Next

-- the words that were given for FILE and CHOICES, in order, and for the two options with a value, whether `--strict`
-- stood among them, and what the next word may be
pub record Seen : Type 0 where
  pub files : List Word
  pub model : Option Word
  pub steps : Option Word
  pub strict : Bool
  pub next : Next

-- before the first word
abbrev pub nothing_seen : Seen
nothing_seen = record { files = []; model = None; steps = None; strict = false; next = anything }

-- the word is FILE or, behind it, CHOICES; there is no third
abbrev pub with_file : Seen → List Word → Word → Option Seen
with_file seen [] word = Some (record seen { files = word ∷ [] })
with_file seen (file ∷ []) word = Some (record seen { files = file ∷ word ∷ [] })
with_file seen (file ∷ choices ∷ more) word = None

-- the word is the value of `--model`; any word may be next
abbrev pub with_model : Seen → Option Word → Option Seen
with_model seen None = None
with_model seen (Some word) = Some (record seen { model = Some word; next = anything })

-- the word is the value of `--steps`; any word may be next
abbrev pub with_steps : Seen → Option Word → Option Seen
with_steps seen None = None
with_steps seen (Some word) = Some (record seen { steps = Some word; next = anything })

-- `--strict`, unless it stood before
abbrev pub with_strict : Seen → Bool → Option Seen
with_strict seen false = Some (record seen { strict = true })
with_strict seen true = None

-- the word is a file
abbrev pub file_given : Seen → Word → Option Seen
file_given seen word = with_file seen seen.files word

-- the word is the value of `--model`, unless it has one
abbrev pub model_given : Seen → Word → Option Seen
model_given seen word = with_model seen (once seen.model word)

-- the word is the value of `--steps`, unless it has one
abbrev pub steps_given : Seen → Word → Option Seen
steps_given seen word = with_steps seen (once seen.steps word)

-- ---- one more word

-- `--model` alone waits for its value
abbrev pub model_met : Seen → Option Word → Option Seen
model_met seen None = Some (record seen { next = model_value })
model_met seen (Some value) = model_given seen value

-- `--steps` alone waits for its value
abbrev pub steps_met : Seen → Option Word → Option Seen
steps_met seen None = Some (record seen { next = steps_value })
steps_met seen (Some value) = steps_given seen value

-- `--strict` has no value
abbrev pub strict_met : Seen → Option Word → Option Seen
strict_met seen None = with_strict seen seen.strict
strict_met seen (Some value) = None

-- an option is one of the three, by its whole name
abbrev pub option_met : Seen → Word → Option Word → Option Seen
option_met seen name value = if bytes_eq (codes "--model") name then model_met seen value
    else (if bytes_eq (codes "--steps") name then steps_met seen value
    else (if bytes_eq (codes "--strict") name then strict_met seen value else None))

-- one more word where any may stand: `--`, an option, or a file
abbrev pub any_word : Seen → Word → Option Seen
any_word seen word = if is_end_of_options word then Some (record seen { next = files_only })
    else (if has_hyphen word then option_met seen (option_name word) (option_value word)
    else file_given seen word)

-- the word in the place of the value of `--model`; one with a hyphen at its front is none
abbrev pub model_word : Seen → Word → Option Seen
model_word seen word = if has_hyphen word then None else model_given seen word

-- the word in the place of the value of `--steps`; one with a hyphen at its front is none
abbrev pub steps_word : Seen → Word → Option Seen
steps_word seen word = if has_hyphen word then None else steps_given seen word

-- one more word, as what it may be
abbrev pub word_as : Next → Seen → Word → Option Seen
word_as anything seen word = any_word seen word
word_as model_value seen word = model_word seen word
word_as steps_value seen word = steps_word seen word
word_as files_only seen word = file_given seen word

-- what the words have given behind one more
abbrev pub after_word : Seen → Word → Option Seen
after_word seen word = word_as seen.next seen word

-- ---- all the words

-- what the words have given behind these, where none of them is refused
abbrev pub after_words : Seen → List Word → Option Seen
after_words seen [] = Some seen
after_words seen (word ∷ rest) =
    option_and_then (λ later. after_words later rest) (after_word seen word)

-- no option waits for its value
abbrev pub is_settled : Next → Bool
is_settled anything = true
is_settled model_value = false
is_settled steps_value = false
is_settled files_only = true

-- the data layout that a word names
abbrev pub model_named : Word → Option Abi
model_named word = if bytes_eq (codes "lp64") word then Some Lp64
    else (if bytes_eq (codes "llp64") word then Some Llp64 else None)

-- M, and `lp64` where it is not given
abbrev pub model_or : Option Word → Option Abi
model_or None = Some Lp64
model_or (Some word) = model_named word

-- the most digits that N has
abbrev pub most_digits : ℕ
most_digits = 7

-- the least N, how many steps the run makes at most
abbrev pub least_steps : ℕ
least_steps = 1

-- the greatest N
abbrev pub most_steps : ℕ
most_steps = 1000000

-- N where it is not given
abbrev pub default_steps : ℕ
default_steps = 1000000

-- FILE and CHOICES are there and are not empty, M is a data layout, and N is a number
abbrev pub replay_command_with : Option Word → Option Word → Option Abi → Option ℕ → Bool → Option ReplayCommand
replay_command_with (Some (first ∷ file)) (Some (second ∷ choices)) (Some model) (Some steps) strict = Some (record {
  file = first ∷ file;
  choices = second ∷ choices;
  steps = steps;
  model = model;
  strict = strict;
})
replay_command_with _ _ _ _ _ = None

-- the command of the words that were given for FILE, CHOICES and the options
abbrev pub replay_command_from : Option Word → Option Word → Option Word → Option Word → Bool → Option ReplayCommand
replay_command_from file choices model steps strict = replay_command_with file choices (model_or model)
    (number_or most_digits default_steps least_steps most_steps steps) strict

-- the command of all the words together
abbrev pub command_seen : Seen → Option ReplayCommand
command_seen seen = if is_settled seen.next
    then replay_command_from (slice_get seen.files 0) (slice_get seen.files 1) seen.model seen.steps seen.strict
    else None

-- the command that the words ask for, and nothing where the usage line is the answer
abbrev pub replay_command_of : List Word → Option ReplayCommand
replay_command_of words = option_and_then command_seen (after_words nothing_seen words)
