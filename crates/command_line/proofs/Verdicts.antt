-- The verdict of a parser over the words, one word at a time.
use Rattle.std.proofs.Common.{◌≡◌, ◌&&◌, ℕ, Bool, true, false, cond, refl, List, [], ◌∷◌, Option, None}
use Rattle.std.specs.List.{fold}
use Rattle.std.specs.Str.{IsUtf8}
use Rattle.clap.specs.Walk.{Held, Row, Rule, Text, Waiting, Walk, is_pending, positional_held, pushed, settled, takes_several, walked}
use Rattle.clap.specs.Simple.{Shape}
use Rattle.clap.specs.Faults.{positional_fault, settle_fault, turn_fault, walk_fault}
use Rattle.clap.specs.Kinds.{Kinds, or_else}
use Rattle.command_line.specs.Words.{Word}

abbrev pub AreTexts : List Word → Type 0
AreTexts [] = Unit {0}
AreTexts (word ∷ rest) = IsUtf8 word × AreTexts rest

abbrev pub IsRefused : Kinds → Type 0
IsRefused [] = ⊥
IsRefused (k ∷ ks) = Unit {0}

abbrev pub Pending : Type 0
Pending = Option (Text × List Text)

abbrev pub held : List Row → Pending → Held
held rows pending = record { rows = rows; pending = pending; skip = 0 }

-- between two words, with the place of the next positional
abbrev pub walk_at : Held → Waiting → ℕ → Bool → Walk
walk_at h waiting position is_trailing = record {
  held = h;
  waiting = waiting;
  position = position;
  is_trailing = is_trailing;
  stopped = None;
}

pub or_else_assoc : (a b c : Kinds) → or_else (or_else a b) c ≡ or_else a (or_else b c)
or_else_assoc [] b c = refl
or_else_assoc (k ∷ ks) b c = refl

pub refused_first : (a b : Kinds) → IsRefused a → IsRefused (or_else a b)
refused_first [] b refused = absurd refused
refused_first (k ∷ ks) b refused = tt

pub refused_second : (a b : Kinds) → IsRefused b → IsRefused (or_else a b)
refused_second [] b refused = refused
refused_second (k ∷ ks) b refused = tt

-- what fails with what is pending
abbrev pub pending_fault : Shape → Held → Kinds
pending_fault s h = settle_fault s.rules s.args_override_self h

abbrev pub end_of : Shape → Walk → List Word → Held
end_of s w words = (fold (walked s.rules []) w words).held

-- the kinds of error of the words, and of what is pending behind them
abbrev pub verdict : Shape → Walk → List Word → Kinds
verdict s w words = or_else (walk_fault s [] w words) (pending_fault s (end_of s w words))

pub verdict_end : (s : Shape) (w : Walk) → verdict s w [] ≡ pending_fault s w.held
unfolding walk_fault
verdict_end s w = refl

pub verdict_next : (s : Shape) (w : Walk) (word : Word) (rest : List Word) → verdict s w (word ∷ rest) ≡ or_else (turn_fault s [] w word) (verdict s (walked s.rules [] w word) rest)
unfolding walk_fault
verdict_next s w word rest = or_else_assoc (turn_fault s [] w word) (walk_fault s [] (walked s.rules [] w word) rest) (pending_fault s (end_of s (walked s.rules [] w word) rest))

pub refused_turn : (s : Shape) (w : Walk) (word : Word) (rest : List Word) → IsRefused (turn_fault s [] w word) → IsRefused (verdict s w (word ∷ rest))
refused_turn s w word rest refused =
    let here = refused_first (turn_fault s [] w word) (verdict s (walked s.rules [] w word) rest) refused in
    rw (verdict_next s w word rest) here

pub refused_later : (s : Shape) (w : Walk) (word : Word) (rest : List Word) → IsRefused (verdict s (walked s.rules [] w word) rest) → IsRefused (verdict s w (word ∷ rest))
refused_later s w word rest refused =
    let later = refused_second (turn_fault s [] w word) (verdict s (walked s.rules [] w word) rest) refused in
    rw (verdict_next s w word rest) later

-- ---- a positional that takes one value: what is pending is used before it

and_false : (b t : Bool) (h k : Held) (id : Text) (word : Word) → t ≡ false → pushed id word (cond (b && t) h k) ≡ pushed id word k
and_false true t h k id word e = rw e refl
and_false false t h k id word e = refl

pub one_value_held : (c : List Rule) (a : Rule) (h : Held) (word : Word) → takes_several a ≡ false → positional_held c a word h ≡ pushed a.id word (settled c h)
one_value_held c a h word single = and_false (is_pending a h.pending) (takes_several a) h (settled c h) a.id word single

and_false_fault : (b t : Bool) (a : Kinds) → t ≡ false → cond (b && t) [] a ≡ a
and_false_fault true t a e = rw e refl
and_false_fault false t a e = refl

pub one_value_fault : (c : List Rule) (again : Bool) (a : Rule) (h : Held) → takes_several a ≡ false → positional_fault c again a h ≡ settle_fault c again h
one_value_fault c again a h single = and_false_fault (is_pending a h.pending) (takes_several a) (settle_fault c again h) single
