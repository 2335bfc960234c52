-- Where the rule and the parser of `predator replay` stand between two words.
use Rattle.std.proofs.Common.{◌≡◌, ℕ, Bool, true, false, refl, sym, subst, List, [], ◌∷◌, Option, Some, None, codes}
use Rattle.clap.specs.Walk.{Held, Row, Rule, Waiting, Walk, idle, option, positional_held, pushed, settled, walked}
use Rattle.clap.specs.Simple.{Shape, built}
use Rattle.clap.specs.Faults.{positional_fault, settle_fault, turn_fault}
use Rattle.command_line.specs.ReplayLine.{Next, anything, files_only, model_value, steps_value}
use Rattle.command_line.specs.ReplayLine.{Seen, after_word}
use Rattle.command_line.specs.Words.{Word}
use Rattle.command_line.specs.ReplayParser.{replay_app}
use Rattle.command_line.proofs.WordKinds.{IsPlain, Kind, ends, is_long, is_plain, is_short, kind_of_word}
use Rattle.command_line.proofs.MatchRows.{file_rule}
use Rattle.command_line.proofs.ReplayRows.{Holds, choices_rule}
use Rattle.command_line.proofs.Verdicts.{AreTexts, IsRefused, Pending, held, one_value_fault, one_value_held, refused_later, refused_turn, verdict, verdict_end}
use Rattle.command_line.proofs.Verdicts as shared
use Rattle.command_line.proofs.Refusals.{end_idle, long_idle, short_idle}

abbrev pub shape : Shape
shape = (built replay_app).top

abbrev pub rules : List Rule
rules = shape.rules

-- the place of the next file
abbrev pub place : List Word → ℕ
place [] = 1
place (file ∷ []) = 2
place (file ∷ choices ∷ more) = 3

abbrev pub walk_at : Held → Waiting → List Word → Bool → Walk
walk_at h waiting files is_trailing = shared.walk_at h waiting (place files) is_trailing

-- a file takes one value, so what is pending is used before it
pub file_held : (h : Held) (word : Word) → positional_held rules file_rule word h ≡ pushed (codes "file") word (settled rules h)
file_held h word = one_value_held rules file_rule h word refl

pub file_fault : (h : Held) → positional_fault rules false file_rule h ≡ settle_fault rules false h
file_fault h = one_value_fault rules false file_rule h refl

pub choices_held : (h : Held) (word : Word) → positional_held rules choices_rule word h ≡ pushed (codes "choices") word (settled rules h)
choices_held h word = one_value_held rules choices_rule h word refl

pub choices_fault : (h : Held) → positional_fault rules false choices_rule h ≡ settle_fault rules false h
choices_fault h = one_value_fault rules false choices_rule h refl

-- ---- where what is pending fails, no later word mends it

pub doomed_files : (h : Held) (waiting : Waiting) (files : List Word) → IsRefused (settle_fault rules false h) → (words : List Word)
    → IsRefused (verdict shape (walk_at h waiting files true) words)
doomed_files h waiting files bad [] = rw (verdict_end shape (walk_at h waiting files true)) bad
doomed_files h waiting [] bad (word ∷ rest) = refused_turn shape (walk_at h waiting [] true) word rest (subst IsRefused (sym (file_fault h)) bad)
doomed_files h waiting (file ∷ []) bad (word ∷ rest) = refused_turn shape (walk_at h waiting (file ∷ []) true) word rest (subst IsRefused (sym (choices_fault h)) bad)
doomed_files h waiting (file ∷ choices ∷ more) bad (word ∷ rest) = refused_turn shape (walk_at h waiting (file ∷ choices ∷ more) true) word rest tt

doomed_plain : (h : Held) (files : List Word) (word : Word) → IsPlain word → IsRefused (settle_fault rules false h) → IsRefused (turn_fault shape [] (walk_at h idle files false) word)
doomed_plain h [] word q bad =
    let here = subst IsRefused (sym (file_fault h)) bad in
    rw (q.no_end, q.no_long, q.no_short) here
doomed_plain h (file ∷ []) word q bad =
    let here = subst IsRefused (sym (choices_fault h)) bad in
    rw (q.no_end, q.no_long, q.no_short) here
doomed_plain h (file ∷ choices ∷ more) word q bad = rw (q.no_end, q.no_long, q.no_short) tt

doomed_word : (rows : List Row) (pending : Pending) (files : List Word) → IsRefused (settle_fault rules false (held rows pending)) → (word : Word) → Kind word → (rest : List Word)
    → IsRefused (verdict shape (walk_at (held rows pending) idle files false) (word ∷ rest))
doomed_word rows pending files bad word (ends is) rest =
    let w = walk_at (held rows pending) idle files false in
    let past = doomed_files (held rows pending) idle files bad rest in
    let later = subst (λ (v : Walk). IsRefused (verdict shape v rest)) (sym (end_idle rules (held rows pending) (place files))) past in
    subst (λ (x : Word). IsRefused (verdict shape w (x ∷ rest))) (sym is) (refused_later shape w (45 ∷ 45 ∷ []) rest later)
doomed_word rows pending files bad word (is_long name given l) rest =
    refused_turn shape (walk_at (held rows pending) idle files false) word rest
    (long_idle shape (held rows pending) (place files) word name given l bad)
doomed_word rows pending files bad word (is_short letter flag flags is) rest =
    refused_turn shape (walk_at (held rows pending) idle files false) word rest (short_idle shape (λ x. refl) rows pending (place files) word letter flag flags is)
doomed_word rows pending files bad word (is_plain q) rest =
    refused_turn shape (walk_at (held rows pending) idle files false) word rest (doomed_plain (held rows pending) files word q bad)

pub doomed_idle : (rows : List Row) (pending : Pending) (files : List Word) → IsRefused (settle_fault rules false (held rows pending)) → (words : List Word) → AreTexts words
    → IsRefused (verdict shape (walk_at (held rows pending) idle files false) words)
doomed_idle rows pending files bad [] texts = rw (verdict_end shape (walk_at (held rows pending) idle files false)) bad
doomed_idle rows pending files bad (word ∷ rest) texts = doomed_word rows pending files bad word (kind_of_word word texts.0) rest

-- ---- where both stand

abbrev pub seen_is : List Word → Option Word → Option Word → Bool → Next → Seen
seen_is files model steps strict next_is = record { files = files; model = model; steps = steps; strict = strict; next = next_is }

abbrev pub walk_of : Next → List Word → List Row → Pending → Walk
walk_of anything files rows pending = walk_at (held rows pending) idle files false
walk_of files_only files rows pending = walk_at (held rows pending) idle files true
walk_of model_value files rows pending = walk_at (held rows (Some (codes "model", []))) (option (codes "model")) files false
walk_of steps_value files rows pending = walk_at (held rows (Some (codes "steps", []))) (option (codes "steps")) files false

-- what is pending passes, and with it the rows hold what was given
pub record Settles (files : List Word) (model steps : Option Word) (strict : Bool) (rows : List Row) (pending : Pending) : Type 0 where
  pub passes : settle_fault rules false (held rows pending) ≡ []
  pub holds : Holds files model steps strict (settled rules (held rows pending)).rows

abbrev pub Stands : Next → List Word → Option Word → Option Word → Bool → List Row → Pending → Type 0
Stands anything files model steps strict rows pending = Settles files model steps strict rows pending
Stands files_only files model steps strict rows pending = Settles files model steps strict rows pending
Stands model_value files model steps strict rows pending = Holds files model steps strict rows
Stands steps_value files model steps strict rows pending = Holds files model steps strict rows

-- what one more word does: both go on and stand alike, or both refuse, now or with any words behind
pub data Step (seen : Seen) (w : Walk) (word : Word) : Type 0 where
  goes : (later : Seen) (rows : List Row) (pending : Pending) → after_word seen word ≡ Some later → turn_fault shape [] w word ≡ []
      → walked rules [] w word ≡ walk_of later.next later.files rows pending → Stands later.next later.files later.model later.steps later.strict rows pending → Step seen w word
  refuses : after_word seen word ≡ None → IsRefused (turn_fault shape [] w word) → Step seen w word
  dooms : after_word seen word ≡ None → ((rest : List Word) → AreTexts rest → IsRefused (verdict shape (walked rules [] w word) rest)) → Step seen w word
