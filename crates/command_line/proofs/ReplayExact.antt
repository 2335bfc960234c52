-- The parser takes the words that the rule of `predator replay` takes, with the same values.
use Rattle.std.proofs.Common.{◌≡◌, ◌≢◌, ◌∙◌, ◌||◌, Bool, true, false, cond, refl, sym, ap, subst, List, [], ◌∷◌, Option, Some, None, codes}
use Rattle.std.specs.Prelude.{option_and_then, slice_get}
use Rattle.std.specs.Str.{bytes_eq}
use Rattle.clap.specs.Walk.{Held, Row, Rule, Walk, finished, first_of, idle, one_of, settled, walked}
use Rattle.clap.specs.Simple.{built, matches_of}
use Rattle.clap.specs.Takes.{is_given}
use Rattle.clap.specs.Faults.{check_fault, default_fault, defaults_fault, fault_of, settle_fault, walk_fault}
use Rattle.clap.specs.Kinds.{Kinds, or_else}
use Rattle.clap.specs.Walk as walks
use Rattle.clap.proofs.FaultLemmas.{leaf_fault}
use Rattle.command_line.specs.declared.replay.ReplayCommand.{ReplayCommand}
use Rattle.command_line.specs.Words.{Word}
use Rattle.command_line.specs.ReplayLine.{Next, anything, files_only, model_value, steps_value}
use Rattle.command_line.specs.ReplayLine.{Seen, after_word, after_words, command_seen, is_settled, nothing_seen, replay_command_from, replay_command_of}
use Rattle.command_line.specs.ReplayParser.{replay_app}
use Rattle.command_line.proofs.Exact.{past_default, rows_stay}
use Rattle.command_line.proofs.MatchRows.{file_rule}
use Rattle.command_line.proofs.ReplayRows.{Holds, choices_are_given, choices_rule, ended, file_is_given, first_choices, first_file, first_model, first_steps, flag_text, model_rule, steps_rule, strict_rule, strict_text}
use Rattle.command_line.proofs.ReplayRows as rows
use Rattle.command_line.proofs.Verdicts.{AreTexts, IsRefused, Pending, end_of, held, or_else_assoc, refused_first, refused_later, refused_turn, verdict, verdict_end, verdict_next}
use Rattle.command_line.proofs.ReplaySteps.{Stands, Step, dooms, goes, refuses, rules, shape, walk_at, walk_of}
use Rattle.command_line.proofs.ReplayWord.{one_word}

abbrev rows_of_end : Walk → List Word → List Row
rows_of_end w words = (settled rules (end_of shape w words)).rows

-- ---- over all the words

abbrev AgreesAt : Next → List Word → Option Word → Option Word → Bool → Kinds → List Row → Type 0
AgreesAt anything files model steps strict kinds rs = (kinds ≡ []) × Holds files model steps strict rs
AgreesAt files_only files model steps strict kinds rs = (kinds ≡ []) × Holds files model steps strict rs
AgreesAt model_value files model steps strict kinds rs = IsRefused kinds
AgreesAt steps_value files model steps strict kinds rs = IsRefused kinds

abbrev Agrees : Option Seen → Kinds → List Row → Type 0
Agrees None kinds rs = IsRefused kinds
Agrees (Some seen) kinds rs = AgreesAt seen.next seen.files seen.model seen.steps seen.strict kinds rs

at_end : (n : Next) (files : List Word) (model steps : Option Word) (strict : Bool) (rs : List Row) (p : Pending) → Stands n files model steps strict rs p
    → AgreesAt n files model steps strict (verdict shape (walk_of n files rs p) []) (rows_of_end (walk_of n files rs p) [])
at_end anything files model steps strict rs p st = (verdict_end shape (walk_of anything files rs p) ∙ st.passes, st.holds)
at_end files_only files model steps strict rs p st = (verdict_end shape (walk_of files_only files rs p) ∙ st.passes, st.holds)
at_end model_value files model steps strict rs p st = rw (verdict_end shape (walk_of model_value files rs p)) tt
at_end steps_value files model steps strict rs p st = rw (verdict_end shape (walk_of steps_value files rs p)) tt

agrees_as : (o o' : Option Seen) (kinds kinds' : Kinds) (rs rs' : List Row) → o ≡ o' → kinds ≡ kinds' → rs ≡ rs' → Agrees o' kinds' rs' → Agrees o kinds rs
agrees_as o o' kinds kinds' rs rs' same_o same_kinds same_rs a =
    subst (λ x. Agrees x kinds rs) (sym same_o) (subst (λ x. Agrees o' x rs) (sym same_kinds) (subst (λ x. Agrees o' kinds' x) (sym same_rs) a))

module _ (rest : List Word) (texts : AreTexts rest)
    (later_words : (later : Seen) (rs : List Row) (p : Pending) → Stands later.next later.files later.model later.steps later.strict rs p
    → Agrees (after_words later rest) (verdict shape (walk_of later.next later.files rs p) rest) (rows_of_end (walk_of later.next later.files rs p) rest)) where
  one_more : (seen : Seen) (w : Walk) (word : Word) → Step seen w word
      → Agrees (option_and_then (λ later. after_words later rest) (after_word seen word)) (verdict shape w (word ∷ rest)) (rows_of_end w (word ∷ rest))
  one_more seen w word (goes later rs p own passes walk_is stands) =
      let next = walk_of later.next later.files rs p in
      agrees_as (option_and_then (λ l. after_words l rest) (after_word seen word)) (after_words later rest) (verdict shape w (word ∷ rest)) (verdict shape next rest)
      (rows_of_end w (word ∷ rest)) (rows_of_end next rest)
      (ap (option_and_then (λ l. after_words l rest)) own)
      (verdict_next shape w word rest ∙ ap (λ t. or_else t (verdict shape (walked rules [] w word) rest)) passes ∙ ap (λ (x : Walk). verdict shape x rest) walk_is)
      (ap (λ (x : Walk). rows_of_end x rest) walk_is)
      (later_words later rs p stands)
  one_more seen w word (refuses own bad) = rw own (refused_turn shape w word rest bad)
  one_more seen w word (dooms own bad) = rw own (refused_later shape w word rest (bad rest texts))

all_words : (words : List Word) → AreTexts words → (seen : Seen) (rs : List Row) (p : Pending) → Stands seen.next seen.files seen.model seen.steps seen.strict rs p
    → Agrees (after_words seen words) (verdict shape (walk_of seen.next seen.files rs p) words) (rows_of_end (walk_of seen.next seen.files rs p) words)
all_words [] texts seen rs p st = at_end seen.next seen.files seen.model seen.steps seen.strict rs p st
all_words (word ∷ rest) texts seen rs p st =
    one_more rest texts.1 (all_words rest texts.1) seen (walk_of seen.next seen.files rs p) word
    (one_word seen.next seen.files seen.model seen.steps seen.strict rs p st word texts.0)

abbrev first_walk : Walk
first_walk = walk_at (held [] None) idle [] false

from_the_start : (words : List Word) → AreTexts words → Agrees (after_words nothing_seen words) (verdict shape first_walk words) (rows_of_end first_walk words)
from_the_start words texts = all_words words texts nothing_seen [] None (record { passes = refl; holds = rows.nothing_held })

-- ---- behind the words: `--strict` has a default, and FILE and CHOICES are wanted

abbrev nothing : Kinds
nothing = []

strict_default : (rs : List Row) → default_fault rs strict_rule ≡ []
strict_default rs = go (walks.has_row (codes "strict") rs)
  where
    go : (b : Bool) → cond (b || false) (nothing) (nothing) ≡ nothing
    go true = refl
    go false = refl

past_strict : (others : List Rule) (rs : List Row) → defaults_fault rs (strict_rule ∷ others) ≡ defaults_fault (ended rs) others
unfolding defaults_fault
past_strict others rs = ap (λ x. or_else x (defaults_fault (ended rs) others)) (strict_default rs)

none_left : (rs : List Row) → defaults_fault rs [] ≡ []
unfolding defaults_fault
none_left rs = refl

no_defaults : (rs : List Row) → defaults_fault rs rules ≡ []
no_defaults rs =
    past_default model_rule (steps_rule ∷ strict_rule ∷ file_rule ∷ choices_rule ∷ []) rs refl
    ∙ past_default steps_rule (strict_rule ∷ file_rule ∷ choices_rule ∷ []) rs refl
    ∙ past_strict (file_rule ∷ choices_rule ∷ []) rs
    ∙ past_default file_rule (choices_rule ∷ []) (ended rs) refl
    ∙ past_default choices_rule [] (ended rs) refl
    ∙ none_left (ended rs)

finished_is : (h : Held) → finished rules h ≡ ended (settled rules h).rows
finished_is h = rows_stay choices_rule _ refl ∙ rows_stay file_rule _ refl
    ∙ ap ended (rows_stay steps_rule _ refl ∙ rows_stay model_rule (settled rules h).rows refl)

with_files : (rs : List Row) → is_given (codes "file") rs ≡ true → is_given (codes "choices") rs ≡ true → check_fault shape rs false ≡ []
with_files rs file choices = rw (file, choices) refl

-- what the parser answers is its verdict, and then whether FILE and CHOICES were given
fault_is : (words : List Word) → fault_of replay_app words ≡ or_else (verdict shape first_walk words) (check_fault shape (ended (rows_of_end first_walk words)) false)
fault_is words =
    let h = end_of shape first_walk words in
    let found = walk_fault shape [] first_walk words in
    let pending = settle_fault rules false h in
    leaf_fault (built replay_app) walks.nothing_held words refl
    ∙ ap (λ d. or_else found (or_else pending (or_else d (check_fault shape (finished rules h) false)))) (no_defaults (settled rules h).rows)
    ∙ ap (λ rs. or_else found (or_else pending (check_fault shape rs false))) (finished_is h)
    ∙ sym (or_else_assoc found pending (check_fault shape (ended (settled rules h).rows) false))

matches_are : (words : List Word) → matches_of replay_app words ≡ ended (rows_of_end first_walk words)
matches_are words = finished_is (end_of shape first_walk words)

-- ---- the answer

-- whether the row of `--strict` says so
abbrev pub is_strict : Option Word → Bool
is_strict None = false
is_strict (Some text) = bytes_eq (codes "true") text

abbrev pub read_from : List Row → Option ReplayCommand
read_from rs = replay_command_from (first_of (codes "file") rs) (first_of (codes "choices") rs) (first_of (codes "model") rs) (first_of (codes "steps") rs)
    (is_strict (one_of (codes "strict") rs))

strict_is : (strict : Bool) → is_strict (Some (flag_text strict)) ≡ strict
strict_is true = refl
strict_is false = refl

same_values : (files : List Word) (model steps : Option Word) (strict : Bool) (rs : List Row) → Holds files model steps strict rs
    → replay_command_from (slice_get files 0) (slice_get files 1) model steps strict ≡ read_from (ended rs)
same_values files model steps strict rs h =
    let flag : is_strict (one_of (codes "strict") (ended rs)) ≡ strict = ap is_strict (strict_text files model steps strict rs h) ∙ strict_is strict in
    sym (λ i. replay_command_from (first_file files model steps strict rs h i) (first_choices files model steps strict rs h i) (first_model files model steps strict rs h i)
    (first_steps files model steps strict rs h i) (flag i))

never_taken : {X : Type 0} (kinds more : Kinds) → IsRefused kinds → or_else kinds more ≡ [] → X
never_taken kinds more bad none = absurd (subst IsRefused none (refused_first kinds more bad))

taken_at : (n : Next) (files : List Word) (model steps : Option Word) (strict : Bool) (kinds : Kinds) (rs : List Row) → AgreesAt n files model steps strict kinds rs
    → or_else kinds (check_fault shape (ended rs) false) ≡ []
    → cond (is_settled n) (replay_command_from (slice_get files 0) (slice_get files 1) model steps strict) None ≡ read_from (ended rs)
taken_at anything files model steps strict kinds rs a none = same_values files model steps strict rs a.1
taken_at files_only files model steps strict kinds rs a none = same_values files model steps strict rs a.1
taken_at model_value files model steps strict kinds rs a none = never_taken kinds (check_fault shape (ended rs) false) a none
taken_at steps_value files model steps strict kinds rs a none = never_taken kinds (check_fault shape (ended rs) false) a none

taken_by : (o : Option Seen) (kinds : Kinds) (rs : List Row) → Agrees o kinds rs → or_else kinds (check_fault shape (ended rs) false) ≡ []
    → option_and_then command_seen o ≡ read_from (ended rs)
taken_by None kinds rs a none = never_taken kinds (check_fault shape (ended rs) false) a none
taken_by (Some seen) kinds rs a none = taken_at seen.next seen.files seen.model seen.steps seen.strict kinds rs a none

-- a parse that succeeds gives the command of its matches
pub taken : (words : List Word) → AreTexts words → fault_of replay_app words ≡ [] → replay_command_of words ≡ read_from (matches_of replay_app words)
taken words texts none =
    taken_by (after_words nothing_seen words) (verdict shape first_walk words) (rows_of_end first_walk words) (from_the_start words texts) (sym (fault_is words) ∙ none)
    ∙ ap read_from (sym (matches_are words))

-- a file alone asks for nothing
no_choices : (file : Word) (model steps : Option Word) (strict : Bool) → replay_command_from (Some file) None model steps strict ≡ None
no_choices [] model steps strict = refl
no_choices (byte ∷ bytes) model steps strict = refl

files_wanted : (files : List Word) (model steps : Option Word) (strict : Bool) (kinds : Kinds) (rs : List Row) → kinds ≡ [] → Holds files model steps strict rs
    → (or_else kinds (check_fault shape (ended rs) false) ≢ []) → replay_command_from (slice_get files 0) (slice_get files 1) model steps strict ≡ None
files_wanted [] model steps strict kinds rs none h some = refl
files_wanted (file ∷ []) model steps strict kinds rs none h some = no_choices file model steps strict
files_wanted (file ∷ choices ∷ more) model steps strict kinds rs none h some =
    absurd (some (ap (λ x. or_else x (check_fault shape (ended rs) false)) none
    ∙ with_files (ended rs) (file_is_given file (choices ∷ more) model steps strict rs h) (choices_are_given file choices more model steps strict rs h)))

refused_at : (n : Next) (files : List Word) (model steps : Option Word) (strict : Bool) (kinds : Kinds) (rs : List Row) → AgreesAt n files model steps strict kinds rs
    → (or_else kinds (check_fault shape (ended rs) false) ≢ [])
    → cond (is_settled n) (replay_command_from (slice_get files 0) (slice_get files 1) model steps strict) None ≡ None
refused_at anything files model steps strict kinds rs a some = files_wanted files model steps strict kinds rs a.0 a.1 some
refused_at files_only files model steps strict kinds rs a some = files_wanted files model steps strict kinds rs a.0 a.1 some
refused_at model_value files model steps strict kinds rs a some = refl
refused_at steps_value files model steps strict kinds rs a some = refl

refused_by : (o : Option Seen) (kinds : Kinds) (rs : List Row) → Agrees o kinds rs → (or_else kinds (check_fault shape (ended rs) false) ≢ [])
    → option_and_then command_seen o ≡ None
refused_by None kinds rs a some = refl
refused_by (Some seen) kinds rs a some = refused_at seen.next seen.files seen.model seen.steps seen.strict kinds rs a some

-- where a parse is refused, so is it by the rule
pub refused : (words : List Word) → AreTexts words → (fault_of replay_app words ≢ []) → replay_command_of words ≡ None
refused words texts some =
    refused_by (after_words nothing_seen words) (verdict shape first_walk words) (rows_of_end first_walk words) (from_the_start words texts) (λ none. some (fault_is words ∙ none))

-- ---- whether `--strict` was given

flag_at : (n : Next) (files : List Word) (model steps : Option Word) (strict : Bool) (kinds : Kinds) (rs : List Row) → AgreesAt n files model steps strict kinds rs
    → or_else kinds (check_fault shape (ended rs) false) ≡ [] → (given : Bool) × (one_of (codes "strict") (ended rs) ≡ Some (flag_text given))
flag_at anything files model steps strict kinds rs a none = (strict, strict_text files model steps strict rs a.1)
flag_at files_only files model steps strict kinds rs a none = (strict, strict_text files model steps strict rs a.1)
flag_at model_value files model steps strict kinds rs a none = never_taken kinds (check_fault shape (ended rs) false) a none
flag_at steps_value files model steps strict kinds rs a none = never_taken kinds (check_fault shape (ended rs) false) a none

flag_by : (o : Option Seen) (kinds : Kinds) (rs : List Row) → Agrees o kinds rs → or_else kinds (check_fault shape (ended rs) false) ≡ []
    → (given : Bool) × (one_of (codes "strict") (ended rs) ≡ Some (flag_text given))
flag_by None kinds rs a none = never_taken kinds (check_fault shape (ended rs) false) a none
flag_by (Some seen) kinds rs a none = flag_at seen.next seen.files seen.model seen.steps seen.strict kinds rs a none

-- the matches of a parse that succeeds say whether it was
pub flag_told : (words : List Word) → AreTexts words → fault_of replay_app words ≡ [] → (given : Bool) × (one_of (codes "strict") (matches_of replay_app words) ≡ Some (flag_text given))
flag_told words texts none =
    let told = flag_by (after_words nothing_seen words) (verdict shape first_walk words) (rows_of_end first_walk words) (from_the_start words texts) (sym (fault_is words) ∙ none) in
    (told.0, ap (one_of (codes "strict")) (matches_are words) ∙ told.1)

-- and so does the flag that is read of them
pub flag_is : (given flag : Bool) (text row : Option Word) → text ≡ Some (flag_text given) → row ≡ Some (flag_text given)
    → (text ≡ Some (codes "true") → flag ≡ true) → (text ≡ Some (codes "false") → flag ≡ false) → flag ≡ is_strict row
flag_is true flag text row text_is row_is if_true if_false = if_true text_is ∙ sym (ap is_strict row_is)
flag_is false flag text row text_is row_is if_true if_false = if_false text_is ∙ sym (ap is_strict row_is)
