-- Where a reader stands in a row of tokens, and what it has written of the tree that it reads.
use Rattle.std.specs.Prelude.{ℕ, ◌+◌, Bool, true, false, List, [], ◌∷◌, ◌++◌, drop, take, length}
use Rattle.cevents.specs.declared.event.Event.{Event}
use Rattle.cgrammar.specs.Scope.{Names}
use Rattle.cgrammar.specs.Terminals.{Terminal}
use Rattle.cparser.specs.declared.status.Status.{Status}
use Rattle.cparser.specs.declared.status.Status.TheVariants.{Going, Stopped, Nothing}
use Rattle.cparser.specs.declared.point.Point.{Point}

-- `levels` is how many levels the deepest of the parts has that are read so far, and `unary` whether the operand that is
-- read last is a unary expression.
pub record State : Type 0 where
  pub row : List Terminal
  pub at : ℕ
  pub status : Status
  pub levels : ℕ
  pub unary : Bool
  pub scope : List Names
  pub events : List Event

-- the tokens that are left
abbrev pub rest : State → List Terminal
rest s = drop s.at s.row

-- whether what was read so far is read to its end, and more may follow
abbrev pub is_going : Status → Bool
is_going Going = true
is_going _ = false

-- whether nothing of the kind begins there
abbrev pub is_nothing : Status → Bool
is_nothing Nothing = true
is_nothing _ = false

-- whether a reader goes on
abbrev pub goes : State → Bool
goes s = is_going s.status

-- the same with one field replaced, and with one event more
abbrev pub with_status : Status → State → State
with_status status s =
    record { row = s.row; at = s.at; status = status; levels = s.levels; unary = s.unary; scope = s.scope; events = s.events }

abbrev pub with_levels : ℕ → State → State
with_levels levels s =
    record { row = s.row; at = s.at; status = s.status; levels = levels; unary = s.unary; scope = s.scope; events = s.events }

abbrev pub with_scope : List Names → State → State
with_scope scope s =
    record { row = s.row; at = s.at; status = s.status; levels = s.levels; unary = s.unary; scope = scope; events = s.events }

abbrev pub with_unary : Bool → State → State
with_unary unary s =
    record { row = s.row; at = s.at; status = s.status; levels = s.levels; unary = unary; scope = s.scope; events = s.events }

abbrev pub with_event : Event → State → State
with_event event s =
    record { row = s.row; at = s.at; status = s.status; levels = s.levels; unary = s.unary; scope = s.scope; events = s.events ++ event ∷ [] }

-- over so many tokens
abbrev pub skipped : ℕ → State → State
skipped count s =
    record { row = s.row; at = s.at + count; status = s.status; levels = s.levels; unary = s.unary; scope = s.scope; events = s.events }

-- nothing is read
abbrev pub lost : State → State
lost s = with_status Nothing s

-- what is written so far is a tree, and no more of it is read
abbrev pub stopped : State → State
stopped s = with_status Stopped s

-- a place to go back to
abbrev pub point_of : State → Point
point_of s = record { at = s.at; events = length s.events }

-- the tree that was written up to a point
abbrev pub back_at : Point → State → State
back_at point s =
    record { row = s.row; at = point.at; status = Stopped; levels = s.levels; unary = s.unary; scope = s.scope; events = take point.events s.events }
