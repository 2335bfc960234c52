-- One word, by the rule and by the parser.
use Rattle.std.proofs.Common.{◌≡◌, true, false, refl, sym, subst, List, [], ◌∷◌, Option, Some, None, codes}
use Rattle.clap.specs.Walk.{Held, Row, Waiting, Walk, idle, option, settled, walked}
use Rattle.clap.specs.Faults.{settle_fault, turn_fault}
use Rattle.command_line.specs.CommandLine.{Next, anything, budget_value, files, int_limit_value}
use Rattle.command_line.specs.CommandLine.{Seen, after_word}
use Rattle.command_line.specs.Words.{Word}
use Rattle.command_line.proofs.WordKinds.{IsPlain, Kind, ends, is_long, is_plain, is_short, kind_of_word}
use Rattle.command_line.proofs.MatchRows.{Holds}
use Rattle.command_line.proofs.Verdicts.{AreTexts, IsRefused, Pending, held, refused_later, refused_turn, verdict, verdict_end}
use Rattle.command_line.proofs.Refusals.{end_idle, long_idle, short_idle}
use Rattle.command_line.proofs.Verdict.{file_fault, place, rules, shape, walk_at}

-- ---- where what is pending fails, no later word mends it

pub doomed_files : (h : Held) (waiting : Waiting) (file : Option Word) → IsRefused (settle_fault rules false h) → (words : List Word)
    → IsRefused (verdict shape (walk_at h waiting file true) words)
doomed_files h waiting file bad [] = rw (verdict_end shape (walk_at h waiting file true)) bad
doomed_files h waiting None bad (word ∷ rest) = refused_turn shape (walk_at h waiting None true) word rest (subst IsRefused (sym (file_fault h)) bad)
doomed_files h waiting (Some file) bad (word ∷ rest) = refused_turn shape (walk_at h waiting (Some file) true) word rest tt

doomed_plain : (h : Held) (file : Option Word) (word : Word) → IsPlain word → IsRefused (settle_fault rules false h) → IsRefused (turn_fault shape [] (walk_at h idle file false) word)
doomed_plain h None word q bad =
    let here = subst IsRefused (sym (file_fault h)) bad in
    rw (q.no_end, q.no_long, q.no_short) here
doomed_plain h (Some file) word q bad = rw (q.no_end, q.no_long, q.no_short) tt

doomed_word : (rows : List Row) (pending : Pending) (file : Option Word) → IsRefused (settle_fault rules false (held rows pending)) → (word : Word) → Kind word → (rest : List Word)
    → IsRefused (verdict shape (walk_at (held rows pending) idle file false) (word ∷ rest))
doomed_word rows pending file bad word (ends is) rest =
    let w = walk_at (held rows pending) idle file false in
    let past = doomed_files (held rows pending) idle file bad rest in
    let later = subst (λ (v : Walk). IsRefused (verdict shape v rest)) (sym (end_idle rules (held rows pending) (place file))) past in
    subst (λ (x : Word). IsRefused (verdict shape w (x ∷ rest))) (sym is) (refused_later shape w (45 ∷ 45 ∷ []) rest later)
doomed_word rows pending file bad word (is_long name given l) rest =
    refused_turn shape (walk_at (held rows pending) idle file false) word rest
    (long_idle shape (held rows pending) (place file) word name given l bad)
doomed_word rows pending file bad word (is_short letter flag flags s) rest =
    refused_turn shape (walk_at (held rows pending) idle file false) word rest (short_idle shape (λ x. refl) rows pending (place file) word letter flag flags s)
doomed_word rows pending file bad word (is_plain q) rest =
    refused_turn shape (walk_at (held rows pending) idle file false) word rest (doomed_plain (held rows pending) file word q bad)

pub doomed_idle : (rows : List Row) (pending : Pending) (file : Option Word) → IsRefused (settle_fault rules false (held rows pending)) → (words : List Word) → AreTexts words
    → IsRefused (verdict shape (walk_at (held rows pending) idle file false) words)
doomed_idle rows pending file bad [] texts = rw (verdict_end shape (walk_at (held rows pending) idle file false)) bad
doomed_idle rows pending file bad (word ∷ rest) texts = doomed_word rows pending file bad word (kind_of_word word texts.0) rest

-- ---- where the rule and the parser stand between two words

abbrev pub seen_is : Option Word → Option Word → Option Word → Next → Seen
seen_is file budget int_limit next_is = record { file = file; budget = budget; int_limit = int_limit; next = next_is }

abbrev pub walk_of : Next → Option Word → List Row → Pending → Walk
walk_of anything file rows pending = walk_at (held rows pending) idle file false
walk_of files file rows pending = walk_at (held rows pending) idle file true
walk_of budget_value file rows pending = walk_at (held rows (Some (codes "budget", []))) (option (codes "budget")) file false
walk_of int_limit_value file rows pending = walk_at (held rows (Some (codes "int-limit", []))) (option (codes "int-limit")) file false

-- what is pending passes, and with it the rows hold what was given
pub record Settles (file budget int_limit : Option Word) (rows : List Row) (pending : Pending) : Type 0 where
  pub passes : settle_fault rules false (held rows pending) ≡ []
  pub holds : Holds file budget int_limit (settled rules (held rows pending)).rows

abbrev pub Stands : Next → Option Word → Option Word → Option Word → List Row → Pending → Type 0
Stands anything file budget int_limit rows pending = Settles file budget int_limit rows pending
Stands files file budget int_limit rows pending = Settles file budget int_limit rows pending
Stands budget_value file budget int_limit rows pending = Holds file budget int_limit rows
Stands int_limit_value file budget int_limit rows pending = Holds file budget int_limit rows

-- what one more word does: both go on and stand alike, or both refuse, now or with any words behind
pub data Step (seen : Seen) (w : Walk) (word : Word) : Type 0 where
  goes : (later : Seen) (rows : List Row) (pending : Pending) → after_word seen word ≡ Some later → turn_fault shape [] w word ≡ []
      → walked rules [] w word ≡ walk_of later.next later.file rows pending → Stands later.next later.file later.budget later.int_limit rows pending → Step seen w word
  refuses : after_word seen word ≡ None → IsRefused (turn_fault shape [] w word) → Step seen w word
  dooms : after_word seen word ≡ None → ((rest : List Word) → AreTexts rest → IsRefused (verdict shape (walked rules [] w word) rest)) → Step seen w word
