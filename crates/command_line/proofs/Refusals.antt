-- Words of options that a parser refuses: with what is pending, or by themselves.
use Rattle.std.proofs.Common.{◌≡◌, ℕ, Bool, true, false, cond, refl, List, [], ◌∷◌, Option, Some, None, is_some}
use Rattle.clap.specs.Walk.{Held, Row, Rule, Text, arg_by_long, arg_by_short, idle, long_word, option, settled, takes_values, walked}
use Rattle.clap.specs.Simple.{Shape}
use Rattle.clap.specs.Faults.{flags_fault, long_fault, option_fault, react_fault, step_fault, turn_fault, use_fault}
use Rattle.clap.specs.declared.error.kind.ErrorKind.TheVariants.{TooManyValues}
use Rattle.command_line.specs.Words.{Word}
use Rattle.command_line.proofs.WordKinds.{IsLong, IsShort}
use Rattle.command_line.proofs.Verdicts.{IsRefused, Pending, held, pending_fault, refused_first, walk_at}

long_refused : (s : Shape) (h : Held) (found : Option Rule) (given : Option Word) → IsRefused (pending_fault s h)
    → IsRefused (long_fault s.rules s.args_override_self found given h)
long_refused s h None given bad = tt
long_refused s h (Some a) given bad = go (takes_values a) given
  where
    go : (b : Bool) (v : Option Word) → IsRefused (cond b (option_fault s.rules s.args_override_self a v h) (cond (is_some v) (TooManyValues ∷ []) (react_fault s.rules s.args_override_self a [] h)))
    go true None = bad
    go true (Some v) = refused_first (pending_fault s h) (use_fault s.args_override_self a (v ∷ []) (settled s.rules h).rows) bad
    go false None = refused_first (pending_fault s h) (use_fault s.args_override_self a [] (settled s.rules h).rows) bad
    go false (Some v) = tt

-- a long option's word where what is pending fails
pub long_idle : (s : Shape) (h : Held) (position : ℕ) (word name : Word) (given : Option Word) → IsLong word name given → IsRefused (pending_fault s h)
    → IsRefused (turn_fault s [] (walk_at h idle position false) word)
long_idle s h position word name given l bad =
    let met = long_word s.rules idle word name given h in
    let here = refused_first (long_fault s.rules s.args_override_self (arg_by_long s.rules name) given h) (step_fault s position met.0 met.1)
    (long_refused s h (arg_by_long s.rules name) given bad) in
    rw (l.no_end, l.long) here

-- the same where an option waits for its value
pub long_waiting : (s : Shape) (h : Held) (id : Text) (position : ℕ) (word name : Word) (given : Option Word) → IsLong word name given → IsRefused (pending_fault s h)
    → IsRefused (turn_fault s [] (walk_at h (option id) position false) word)
long_waiting s h id position word name given l bad =
    let met = long_word s.rules (option id) word name given h in
    let here = refused_first (long_fault s.rules s.args_override_self (arg_by_long s.rules name) given h) (step_fault s position met.0 met.1)
    (long_refused s h (arg_by_long s.rules name) given bad) in
    rw (l.no_end, l.long) here

-- a word with one hyphen is no option, where none has a short name
pub short_idle : (s : Shape) → ((x : ℕ) → arg_by_short s.rules x ≡ None) → (rows : List Row) (pending : Pending) (position : ℕ) (word : Word) (letter flag : ℕ) (flags : Word)
    → IsShort word letter flag flags → IsRefused (turn_fault s [] (walk_at (held rows pending) idle position false) word)
unfolding flags_fault
short_idle s none rows pending position word letter flag flags is = rw (is.no_end, is.no_long, is.short, is.letter_is, none letter) tt

pub short_waiting : (s : Shape) → ((x : ℕ) → arg_by_short s.rules x ≡ None) → (rows : List Row) (pending : Pending) (id : Text) (position : ℕ) (word : Word) (letter flag : ℕ) (flags : Word)
    → IsShort word letter flag flags → IsRefused (turn_fault s [] (walk_at (held rows pending) (option id) position false) word)
unfolding flags_fault
short_waiting s none rows pending id position word letter flag flags is = rw (is.no_end, is.no_long, is.short, is.letter_is, none letter) tt

-- the mark `--`
pub end_idle : (c : List Rule) (h : Held) (position : ℕ) → walked c [] (walk_at h idle position false) (45 ∷ 45 ∷ []) ≡ walk_at h idle position true
unfolding walked
end_idle c h position = refl

pub end_waiting : (c : List Rule) (h : Held) (id : Text) (position : ℕ) → walked c [] (walk_at h (option id) position false) (45 ∷ 45 ∷ []) ≡ walk_at h (option id) position true
unfolding walked
end_waiting c h id position = refl
