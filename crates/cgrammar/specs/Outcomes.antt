-- What a reader gives at the front of a row: nothing, or a tree with its levels, what stands before the rest, and the
-- rest; or a tree behind which the reading stopped, since a token goes on with it and what follows that token does
-- not. Of such a tree it is known how many expressions end before the rest, and not which names are in scope there.
use Rattle.std.specs.Prelude.{ℕ, ◌+◌, Bool, false, if◌then◌else◌, List, [], ◌∷◌}
use Rattle.cgrammar.specs.Phrases.{Context}
use Rattle.cgrammar.specs.Terminals.{Terminal, is_mark}

-- nothing, a tree behind which the reading stopped, or a tree that is read
pub data Outcome (A : Type 0) : Type 0 where
  Nothing : Outcome A
  Stopped : (tree : A) (expressions : ℕ) (rest : List Terminal) → Outcome A
  Read : (tree : A) (levels : ℕ) (behind : Context) (rest : List Terminal) → Outcome A

-- what is given at the front of a row, before which a context stands
abbrev pub Reader : Type 0 → Type 0
Reader A = Context → List Terminal → Outcome A

-- what is read behind a tree, where more has to follow
abbrev pub then_read : {A B : Type 0} → Outcome A → (A → ℕ → Context → List Terminal → Outcome B) → Outcome B
then_read Nothing go = Nothing
then_read (Stopped tree expressions rest) go = Nothing
then_read (Read tree levels behind rest) go = go tree levels behind rest

-- what is read behind a tree, where it may be the whole of another one
abbrev pub continued : {A B : Type 0} → Outcome A → (A → B) → (A → ℕ → Context → List Terminal → Outcome B) → Outcome B
continued Nothing whole go = Nothing
continued (Stopped tree expressions rest) whole go = Stopped (whole tree) expressions rest
continued (Read tree levels behind rest) whole go = go tree levels behind rest

-- what is read with an operand to the right, and what is left where there is none; the expression that the operator
-- makes is one more
abbrev pub with_right : {A B : Type 0} → Outcome A → Outcome B → (A → ℕ → B) → (A → ℕ → Context → List Terminal → Outcome B) → Outcome B
with_right Nothing without whole go = without
with_right (Stopped tree expressions rest) without whole go = Stopped (whole tree expressions) (expressions + 1) rest
with_right (Read tree levels behind rest) without whole go = go tree levels behind rest

-- what is read behind a tree, and what is left where more does not follow
abbrev pub or_else : {A B : Type 0} → Outcome A → Outcome B → (A → ℕ → Context → List Terminal → Outcome B) → Outcome B
or_else Nothing without go = without
or_else (Stopped tree expressions rest) without go = without
or_else (Read tree levels behind rest) without go = go tree levels behind rest

-- the row has a first token, of which the test holds
abbrev pub has_first : (Terminal → Bool) → List Terminal → Bool
has_first test [] = false
has_first test (first ∷ others) = test first

-- what is read behind a first token, where the test holds of it
abbrev pub after_first : {B : Type 0} → (Terminal → Bool) → List Terminal → Outcome B → (Terminal → List Terminal → Outcome B) → Outcome B
after_first test [] without go = without
after_first test (first ∷ others) without go = if test first then go first others else without

-- what is read behind a first token that is the mark with these bytes
abbrev pub after_mark : {B : Type 0} → List ℕ → List Terminal → Outcome B → (Terminal → List Terminal → Outcome B) → Outcome B
after_mark bytes = after_first (is_mark bytes)

-- the first token of the row is the mark with these bytes
abbrev pub has_mark : List ℕ → List Terminal → Bool
has_mark bytes = has_first (is_mark bytes)

-- all but the first token
abbrev pub behind_first : List Terminal → List Terminal
behind_first [] = []
behind_first (first ∷ others) = others
