-- Which words `predator [--budget N] [--int-limit K] FILE` takes, and what they ask for.
use Rattle.std.specs.Prelude.{ℕ, Bool, true, false, List, [], ◌∷◌, Option, Some, None}
use Rattle.std.specs.Prelude.{if◌then◌else◌, codes, option_and_then, option_map}
use Rattle.std.specs.Str.{bytes_eq}
use Rattle.command_line.specs.Numbers.{number_or}
use Rattle.command_line.specs.Words.{Word, has_hyphen, is_end_of_options, once, option_name, option_value}
use Rattle.command_line.specs.declared.command.Command.{Command}

-- ---- what the words so far have given

-- what the next word may be: anything, the value of one of the options, or FILE alone
pub data Next : Type 0 where
  anything : Next
  budget_value : Next
  int_limit_value : Next
  files : Next

-- the words that were given for FILE and for the two options, and what the next word may be
pub record Seen : Type 0 where
  pub file : Option Word
  pub budget : Option Word
  pub int_limit : Option Word
  pub next : Next

-- before the first word
abbrev pub nothing_seen : Seen
nothing_seen = record { file = None; budget = None; int_limit = None; next = anything }

-- the word is FILE, of which there is one
abbrev pub with_file : Seen → Option Word → Option Seen
with_file seen None = None
with_file seen (Some word) = Some (record seen { file = Some word })

-- the word is the value of `--budget`; any word may be next
abbrev pub with_budget : Seen → Option Word → Option Seen
with_budget seen None = None
with_budget seen (Some word) = Some (record seen { budget = Some word; next = anything })

-- the word is the value of `--int-limit`; any word may be next
abbrev pub with_int_limit : Seen → Option Word → Option Seen
with_int_limit seen None = None
with_int_limit seen (Some word) = Some (record seen { int_limit = Some word; next = anything })

-- the word is FILE, unless there was one before
abbrev pub file_given : Seen → Word → Option Seen
file_given seen word = with_file seen (once seen.file word)

-- the word is the value of `--budget`, unless it has one
abbrev pub budget_given : Seen → Word → Option Seen
budget_given seen word = with_budget seen (once seen.budget word)

-- the word is the value of `--int-limit`, unless it has one
abbrev pub int_limit_given : Seen → Word → Option Seen
int_limit_given seen word = with_int_limit seen (once seen.int_limit word)

-- ---- one more word

-- `--budget` alone waits for its value
abbrev pub budget_met : Seen → Option Word → Option Seen
budget_met seen None = Some (record seen { next = budget_value })
budget_met seen (Some value) = budget_given seen value

-- `--int-limit` alone waits for its value
abbrev pub int_limit_met : Seen → Option Word → Option Seen
int_limit_met seen None = Some (record seen { next = int_limit_value })
int_limit_met seen (Some value) = int_limit_given seen value

-- an option is one of the two, by its whole name
abbrev pub option_met : Seen → Word → Option Word → Option Seen
option_met seen name value = if bytes_eq (codes "--budget") name then budget_met seen value
    else (if bytes_eq (codes "--int-limit") name then int_limit_met seen value else None)

-- one more word where any may stand: `--`, an option, or FILE
abbrev pub any_word : Seen → Word → Option Seen
any_word seen word = if is_end_of_options word then Some (record seen { next = files })
    else (if has_hyphen word then option_met seen (option_name word) (option_value word)
    else file_given seen word)

-- the word in the place of the value of `--budget`; one with a hyphen at its front is none
abbrev pub budget_word : Seen → Word → Option Seen
budget_word seen word = if has_hyphen word then None else budget_given seen word

-- the word in the place of the value of `--int-limit`; one with a hyphen at its front is none
abbrev pub int_limit_word : Seen → Word → Option Seen
int_limit_word seen word = if has_hyphen word then None else int_limit_given seen word

-- one more word, as what it may be
abbrev pub word_as : Next → Seen → Word → Option Seen
word_as anything seen word = any_word seen word
word_as budget_value seen word = budget_word seen word
word_as int_limit_value seen word = int_limit_word seen word
word_as files seen word = file_given seen word

-- what the words have given behind one more
abbrev pub after_word : Seen → Word → Option Seen
after_word seen word = word_as seen.next seen word

-- ---- all the words

-- what the words have given behind these, where none of them is refused
abbrev pub after_words : Seen → List Word → Option Seen
after_words seen [] = Some seen
after_words seen (word ∷ rest) =
    option_and_then (λ later. after_words later rest) (after_word seen word)

-- no option waits for its value
abbrev pub is_settled : Next → Bool
is_settled anything = true
is_settled budget_value = false
is_settled int_limit_value = false
is_settled files = true

-- the most digits that N and K have
abbrev pub most_digits : ℕ
most_digits = 6

-- the least N, how many states are kept at most
abbrev pub least_budget : ℕ
least_budget = 1

-- the greatest N
abbrev pub most_budget : ℕ
most_budget = 200000

-- N where it is not given
abbrev pub default_budget : ℕ
default_budget = 10000

-- the least K, the largest amount of an integer that is kept at loop heads
abbrev pub least_int_limit : ℕ
least_int_limit = 0

-- the greatest K
abbrev pub most_int_limit : ℕ
most_int_limit = 1000

-- K where it is not given
abbrev pub default_int_limit : ℕ
default_int_limit = 10

-- FILE is there and is not empty, and both numbers are
abbrev pub command_with : Option Word → Option ℕ → Option ℕ → Option Command
command_with (Some (byte ∷ bytes)) (Some budget) (Some int_limit) =
    Some (record { file = byte ∷ bytes; budget = budget; int_limit = int_limit })
command_with _ _ _ = None

-- the command of the words that were given for FILE and for the two options
abbrev pub command_from : Option Word → Option Word → Option Word → Option Command
command_from file budget int_limit = command_with file
    (number_or most_digits default_budget least_budget most_budget budget)
    (number_or most_digits default_int_limit least_int_limit most_int_limit int_limit)

-- the command of all the words together
abbrev pub command_seen : Seen → Option Command
command_seen seen = if is_settled seen.next
    then command_from seen.file seen.budget seen.int_limit else None

-- the command that the words ask for, and nothing where the usage line is the answer
abbrev pub command_of : List Word → Option Command
command_of words = option_and_then command_seen (after_words nothing_seen words)

-- FILE, where the words are of the form of the usage line
abbrev pub file_of : List Word → Option Word
file_of words = option_map (λ command. command.file) (command_of words)
