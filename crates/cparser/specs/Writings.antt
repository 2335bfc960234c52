-- What a reader has written in the end, from where it began.
use Rattle.std.specs.Prelude.{ℕ, Bool, false, not, List, []}
use Rattle.cevents.specs.declared.event.Event.{Event}
use Rattle.cgrammar.specs.Scope.{Names}
use Rattle.cgrammar.specs.Terminals.{Terminal}
use Rattle.cparser.specs.State.{State, goes, is_nothing}
use Rattle.cparser.specs.declared.status.Status.TheVariants.{Going}

-- whether a tree is read, how many tokens of the row stand before its end, and its events
pub record Writing : Type 0 where
  pub found : Bool
  pub at : ℕ
  pub events : List Event

-- what a reader has written of a tree: it is read where the reader goes on, and where it stopped
abbrev pub written_of : State → Writing
written_of s = record { found = not (is_nothing s.status); at = s.at; events = s.events }

-- whether a whole row is an item, its events, and the names in scope behind it
pub record ItemWriting : Type 0 where
  pub found : Bool
  pub events : List Event
  pub scope : List Names

-- what a reader has written of an item: it is read where the reader goes on
abbrev pub item_written_of : State → ItemWriting
item_written_of s = record { found = goes s; events = s.events; scope = s.scope }

-- at a token of a row, with names in scope
abbrev pub start_at : List Terminal → ℕ → List Names → State
start_at row at scope = record { row = row; at = at; status = Going; levels = 0; unary = false; scope = scope; events = [] }

-- at the front of a row
abbrev pub start_of : List Terminal → List Names → State
start_of row scope = start_at row 0 scope
