-- The parser takes the words that the rule takes, with the same values.
use Rattle.std.proofs.Common.{◌≡◌, ◌≢◌, ◌∙◌, ◌||◌, Bool, true, false, cond, refl, sym, ap, subst, List, [], ◌∷◌, map, Option, Some, None, codes}
use Rattle.std.specs.Prelude.{String, option_and_then, string_bytes}
use Rattle.std.proofs.lemmas.Str.{IsUtf8-string_bytes}
use Rattle.clap.specs.Walk.{Held, Row, Rule, Walk, default_rows, finished, first_of, has_row, idle, is_empty, nothing_held, reading_by, settled, walked, with_default}
use Rattle.clap.specs.Simple.{built, matches_of}
use Rattle.clap.specs.Takes.{is_given}
use Rattle.clap.specs.Faults.{check_fault, default_fault, defaults_fault, fault_of, given_default_fault, settle_fault, walk_fault}
use Rattle.clap.specs.Kinds.{Kinds, or_else}
use Rattle.clap.proofs.FaultLemmas.{leaf_fault}
use Rattle.command_line.specs.declared.command.Command.{Command}
use Rattle.command_line.specs.CommandLine.{Next, anything, budget_value, files, int_limit_value}
use Rattle.command_line.specs.Words.{Word}
use Rattle.command_line.specs.CommandLine.{Seen, after_word, after_words, command_from, command_of, command_seen, is_settled, nothing_seen}
use Rattle.command_line.specs.Parser.{predator_app}
use Rattle.command_line.proofs.MatchRows.{Holds, budget_rule, file_is_given, file_rule, first_budget, first_file, first_int_limit, int_limit_rule}
use Rattle.command_line.proofs.MatchRows as rows
use Rattle.command_line.proofs.Verdicts.{AreTexts, IsRefused, Pending, end_of, held, or_else_assoc, refused_first, refused_later, refused_turn, verdict, verdict_end, verdict_next}
use Rattle.command_line.proofs.Verdict.{rules, shape, walk_at}
use Rattle.command_line.proofs.Steps.{Stands, Step, dooms, goes, refuses, walk_of}
use Rattle.command_line.proofs.OneWord.{one_word}

abbrev rows_of_end : Walk → List Word → List Row
rows_of_end w words = (settled rules (end_of shape w words)).rows

-- ---- over all the words

abbrev AgreesAt : Next → Option Word → Option Word → Option Word → Kinds → List Row → Type 0
AgreesAt anything f b k kinds rs = (kinds ≡ []) × Holds f b k rs
AgreesAt files f b k kinds rs = (kinds ≡ []) × Holds f b k rs
AgreesAt budget_value f b k kinds rs = IsRefused kinds
AgreesAt int_limit_value f b k kinds rs = IsRefused kinds

abbrev Agrees : Option Seen → Kinds → List Row → Type 0
Agrees None kinds rs = IsRefused kinds
Agrees (Some seen) kinds rs = AgreesAt seen.next seen.file seen.budget seen.int_limit kinds rs

at_end : (n : Next) (f b k : Option Word) (rs : List Row) (p : Pending) → Stands n f b k rs p
    → AgreesAt n f b k (verdict shape (walk_of n f rs p) []) (rows_of_end (walk_of n f rs p) [])
at_end anything f b k rs p st = (verdict_end shape (walk_of anything f rs p) ∙ st.passes, st.holds)
at_end files f b k rs p st = (verdict_end shape (walk_of files f rs p) ∙ st.passes, st.holds)
at_end budget_value f b k rs p st = rw (verdict_end shape (walk_of budget_value f rs p)) tt
at_end int_limit_value f b k rs p st = rw (verdict_end shape (walk_of int_limit_value f rs p)) tt

agrees_as : (o o' : Option Seen) (kinds kinds' : Kinds) (rs rs' : List Row) → o ≡ o' → kinds ≡ kinds' → rs ≡ rs' → Agrees o' kinds' rs' → Agrees o kinds rs
agrees_as o o' kinds kinds' rs rs' same_o same_kinds same_rs a =
    subst (λ x. Agrees x kinds rs) (sym same_o) (subst (λ x. Agrees o' x rs) (sym same_kinds) (subst (λ x. Agrees o' kinds' x) (sym same_rs) a))

module _ (rest : List Word) (texts : AreTexts rest)
    (later_words : (later : Seen) (rs : List Row) (p : Pending) → Stands later.next later.file later.budget later.int_limit rs p
    → Agrees (after_words later rest) (verdict shape (walk_of later.next later.file rs p) rest) (rows_of_end (walk_of later.next later.file rs p) rest)) where
  one_more : (seen : Seen) (w : Walk) (word : Word) → Step seen w word
      → Agrees (option_and_then (λ later. after_words later rest) (after_word seen word)) (verdict shape w (word ∷ rest)) (rows_of_end w (word ∷ rest))
  one_more seen w word (goes later rs p own passes walk_is stands) =
      let next = walk_of later.next later.file rs p in
      agrees_as (option_and_then (λ l. after_words l rest) (after_word seen word)) (after_words later rest) (verdict shape w (word ∷ rest)) (verdict shape next rest)
      (rows_of_end w (word ∷ rest)) (rows_of_end next rest)
      (ap (option_and_then (λ l. after_words l rest)) own)
      (verdict_next shape w word rest ∙ ap (λ t. or_else t (verdict shape (walked rules [] w word) rest)) passes ∙ ap (λ (x : Walk). verdict shape x rest) walk_is)
      (ap (λ (x : Walk). rows_of_end x rest) walk_is)
      (later_words later rs p stands)
  one_more seen w word (refuses own bad) = rw own (refused_turn shape w word rest bad)
  one_more seen w word (dooms own bad) = rw own (refused_later shape w word rest (bad rest texts))

all_words : (words : List Word) → AreTexts words → (seen : Seen) (rs : List Row) (p : Pending) → Stands seen.next seen.file seen.budget seen.int_limit rs p
    → Agrees (after_words seen words) (verdict shape (walk_of seen.next seen.file rs p) words) (rows_of_end (walk_of seen.next seen.file rs p) words)
all_words [] texts seen rs p st = at_end seen.next seen.file seen.budget seen.int_limit rs p st
all_words (word ∷ rest) texts seen rs p st =
    one_more rest texts.1 (all_words rest texts.1) seen (walk_of seen.next seen.file rs p) word
    (one_word seen.next seen.file seen.budget seen.int_limit rs p st word texts.0)

abbrev first_walk : Walk
first_walk = walk_at (held [] None) idle None false

from_the_start : (words : List Word) → AreTexts words → Agrees (after_words nothing_seen words) (verdict shape first_walk words) (rows_of_end first_walk words)
from_the_start words texts = all_words words texts nothing_seen [] None (record { passes = refl; holds = rows.nothing_held })

-- ---- behind the words: no argument has a default, and FILE is wanted

pub no_default : (a : Rule) (rs : List Row) → a.defaults ≡ [] → default_fault rs a ≡ []
no_default a rs none = go (has_row a.id rs) none
  where
    go : (b : Bool) → a.defaults ≡ [] → cond (b || is_empty a.defaults) [] (given_default_fault a a.defaults) ≡ []
    go true e = refl
    go false e = rw e refl

pub rows_stay : (a : Rule) (rs : List Row) → a.defaults ≡ [] → with_default rs a ≡ rs
rows_stay a rs none = go (has_row a.id rs) none
  where
    go : (b : Bool) → a.defaults ≡ [] → cond b rs (default_rows a.id (reading_by a) a.defaults rs) ≡ rs
    go true e = refl
    go false e = rw e refl

pub past_default : (a : Rule) (others : List Rule) (rs : List Row) → a.defaults ≡ [] → defaults_fault rs (a ∷ others) ≡ defaults_fault rs others
unfolding defaults_fault
past_default a others rs none =
    ap (λ x. or_else x (defaults_fault (with_default rs a) others)) (no_default a rs none) ∙ ap (λ x. defaults_fault x others) (rows_stay a rs none)

no_defaults : (rs : List Row) → defaults_fault rs rules ≡ []
unfolding defaults_fault
no_defaults rs = past_default budget_rule (int_limit_rule ∷ file_rule ∷ []) rs refl ∙ past_default int_limit_rule (file_rule ∷ []) rs refl ∙ past_default file_rule [] rs refl

finished_is : (h : Held) → finished rules h ≡ (settled rules h).rows
finished_is h = rows_stay file_rule _ refl ∙ rows_stay int_limit_rule _ refl ∙ rows_stay budget_rule (settled rules h).rows refl

with_file : (rs : List Row) → is_given (codes "file") rs ≡ true → check_fault shape rs false ≡ []
with_file rs given = rw given refl

-- what the parser answers is its verdict, and then whether FILE was given
fault_is : (words : List Word) → fault_of predator_app words ≡ or_else (verdict shape first_walk words) (check_fault shape (rows_of_end first_walk words) false)
fault_is words =
    let h = end_of shape first_walk words in
    let found = walk_fault shape [] first_walk words in
    let pending = settle_fault rules false h in
    leaf_fault (built predator_app) nothing_held words refl
    ∙ ap (λ d. or_else found (or_else pending (or_else d (check_fault shape (finished rules h) false)))) (no_defaults (settled rules h).rows)
    ∙ ap (λ rs. or_else found (or_else pending (check_fault shape rs false))) (finished_is h)
    ∙ sym (or_else_assoc found pending (check_fault shape (settled rules h).rows false))

matches_are : (words : List Word) → matches_of predator_app words ≡ rows_of_end first_walk words
matches_are words = finished_is (end_of shape first_walk words)

-- ---- the answer

abbrev read_from : List Row → Option Command
read_from rs = command_from (first_of (codes "file") rs) (first_of (codes "budget") rs) (first_of (codes "int-limit") rs)

same_values : (f b k : Option Word) (rs : List Row) → Holds f b k rs → command_from f b k ≡ read_from rs
same_values f b k rs h = sym (λ i. command_from (first_file f b k rs h i) (first_budget f b k rs h i) (first_int_limit f b k rs h i))

never_taken : {X : Type 0} (kinds more : Kinds) → IsRefused kinds → or_else kinds more ≡ [] → X
never_taken kinds more bad none = absurd (subst IsRefused none (refused_first kinds more bad))

taken_at : (n : Next) (f b k : Option Word) (kinds : Kinds) (rs : List Row) → AgreesAt n f b k kinds rs → or_else kinds (check_fault shape rs false) ≡ []
    → cond (is_settled n) (command_from f b k) None ≡ read_from rs
taken_at anything f b k kinds rs a none = same_values f b k rs a.1
taken_at files f b k kinds rs a none = same_values f b k rs a.1
taken_at budget_value f b k kinds rs a none = never_taken kinds (check_fault shape rs false) a none
taken_at int_limit_value f b k kinds rs a none = never_taken kinds (check_fault shape rs false) a none

taken_by : (o : Option Seen) (kinds : Kinds) (rs : List Row) → Agrees o kinds rs → or_else kinds (check_fault shape rs false) ≡ []
    → option_and_then command_seen o ≡ read_from rs
taken_by None kinds rs a none = never_taken kinds (check_fault shape rs false) a none
taken_by (Some seen) kinds rs a none = taken_at seen.next seen.file seen.budget seen.int_limit kinds rs a none

-- a parse that succeeds gives the command of its matches
pub taken : (words : List Word) → AreTexts words → fault_of predator_app words ≡ [] → command_of words ≡ read_from (matches_of predator_app words)
taken words texts none =
    taken_by (after_words nothing_seen words) (verdict shape first_walk words) (rows_of_end first_walk words) (from_the_start words texts) (sym (fault_is words) ∙ none)
    ∙ ap read_from (sym (matches_are words))

file_wanted : (f b k : Option Word) (kinds : Kinds) (rs : List Row) → kinds ≡ [] → Holds f b k rs → (or_else kinds (check_fault shape rs false) ≢ []) → command_from f b k ≡ None
file_wanted None b k kinds rs none h some = refl
file_wanted (Some word) b k kinds rs none h some =
    absurd (some (ap (λ x. or_else x (check_fault shape rs false)) none ∙ with_file rs (file_is_given word b k rs h)))

refused_at : (n : Next) (f b k : Option Word) (kinds : Kinds) (rs : List Row) → AgreesAt n f b k kinds rs → (or_else kinds (check_fault shape rs false) ≢ [])
    → cond (is_settled n) (command_from f b k) None ≡ None
refused_at anything f b k kinds rs a some = file_wanted f b k kinds rs a.0 a.1 some
refused_at files f b k kinds rs a some = file_wanted f b k kinds rs a.0 a.1 some
refused_at budget_value f b k kinds rs a some = refl
refused_at int_limit_value f b k kinds rs a some = refl

refused_by : (o : Option Seen) (kinds : Kinds) (rs : List Row) → Agrees o kinds rs → (or_else kinds (check_fault shape rs false) ≢ [])
    → option_and_then command_seen o ≡ None
refused_by None kinds rs a some = refl
refused_by (Some seen) kinds rs a some = refused_at seen.next seen.file seen.budget seen.int_limit kinds rs a some

-- where a parse is refused, so is it by the rule
pub refused : (words : List Word) → AreTexts words → (fault_of predator_app words ≢ []) → command_of words ≡ None
refused words texts some =
    refused_by (after_words nothing_seen words) (verdict shape first_walk words) (rows_of_end first_walk words) (from_the_start words texts) (λ none. some (fault_is words ∙ none))

pub strings_are_texts : {Z : Type 0} (words : List (String Z)) → AreTexts (map string_bytes words)
strings_are_texts [] = tt
strings_are_texts (word ∷ rest) = (IsUtf8-string_bytes word, strings_are_texts rest)
