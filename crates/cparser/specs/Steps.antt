-- What a reader does. Where it has stopped, or nothing is read, no step does anything but those that say so.
use Rattle.std.specs.Prelude.{ℕ, zero, suc, ◌+◌, max, Bool, ◌&&◌, not, if◌then◌else◌, List, [], ◌∷◌, length, Option, None, codes}
use Rattle.cevents.specs.declared.event.Event.{Event}
use Rattle.cevents.specs.Workshop.{bytes_at}
use Rattle.cgrammar.specs.Outcomes.{has_mark, has_first, behind_first}
use Rattle.cgrammar.specs.Operators.{mark_row}
use Rattle.cgrammar.specs.Scope.{entered, left, declared}
use Rattle.cgrammar.specs.Terminals.{Terminal, is_mark, is_word, is_name}
use Rattle.cparser.specs.State.{State, rest, goes, with_levels, with_scope, with_event, skipped, lost, back_at}
use Rattle.cparser.specs.declared.status.Status.{Status}
use Rattle.cparser.specs.declared.status.Status.TheVariants.{Going, Stopped, Nothing}
use Rattle.cparser.specs.declared.point.Point.{Point}
use Rattle.cparser.specs.declared.wanted.Wanted.{Wanted}

-- over a token of which the test holds, or nothing is read
abbrev pub over : (Terminal → Bool) → State → State
over test s = if goes s then (if has_first test (rest s) then skipped 1 s else lost s) else s

-- over a mark with these bytes
unfoldable pub mark : List ℕ → State → State
mark bytes s = over (is_mark bytes) s

-- over a word with these bytes
unfoldable pub word : List ℕ → State → State
word bytes s = over (is_word bytes) s

-- over a name, whose number the caller has seen
unfoldable pub name : State → State
name s = over is_name s

-- over a mark, or back to a point
unfoldable pub mark_or_back : List ℕ → Point → State → State
mark_or_back bytes point s = if goes s then (if has_mark bytes (rest s) then skipped 1 s else back_at point s) else s

-- a tree behind which the reader stopped is none, where more has to follow
unfoldable pub whole : State → State
whole s = if goes s then s else lost s

-- where nothing is read, or where it stopped, the tree up to a point is all that is read
unfoldable pub back_unless_going : Point → State → State
back_unless_going point s = if goes s then s else back_at point s

-- a part is read to its end
unfoldable pub write : Event → State → State
write event s = if goes s then with_event event s else s

-- a tree is read to its end, which has one level more than its parts
unfoldable pub make : Event → State → State
make event s = if goes s then with_levels (s.levels + 1) (with_event event s) else s

-- what is written of a tree at its end, by how its last part ended: where the reader stopped behind that, no level is counted
abbrev pub wrapped : Event → Status → State → State
wrapped event Going s = with_levels (s.levels + 1) (with_event event s)
wrapped event Stopped s = with_event event s
wrapped event Nothing s = s

-- a tree is read to its end, also where the reader stopped behind the last of its parts
unfoldable pub wrap : Event → State → State
wrap event s = wrapped event s.status s

-- the same of a tree with a right operand: where none is read, the tree up to a point is all that is read
abbrev pub joined : Point → Event → Status → State → State
joined point event Going s = with_levels (s.levels + 1) (with_event event s)
joined point event Stopped s = with_event event s
joined point event Nothing s = back_at point s

-- a tree is read to the end of its right operand
unfoldable pub join : Point → Event → State → State
join point event s = joined point event s.status s

-- a name is declared, by the number of its token
unfoldable pub declare : ℕ → Bool → State → State
declare at typedef s = if goes s then with_scope (declared (bytes_at s.row at) typedef s.scope) s else s

-- a scope is entered (C11 6.2.1)
unfoldable pub enter : State → State
enter s = if goes s then with_scope (entered s.scope) s else s

-- the innermost scope is left
unfoldable pub leave : State → State
leave s = if goes s then with_scope (left s.scope) s else s

-- the readers of what stands in a tree, which has at most `most` levels
pub record Inner : Type 0 where
  pub most : ℕ
  pub reads : Wanted → State → State

-- the levels are no fewer than those before
abbrev pub with_deeper : ℕ → State → State
with_deeper before s = with_levels (max before s.levels) s

-- what stands in a tree: its levels count among those of the other parts
unfoldable pub ask : Inner → Wanted → State → State
ask inner wanted s = if goes s then with_deeper s.levels (inner.reads wanted (with_levels 0 s)) else s

-- the same, where more has to follow
unfoldable pub ask_whole : Inner → Wanted → State → State
ask_whole inner wanted s = whole (ask inner wanted s)

-- a right operand, and the tree that it is a part of
unfoldable pub ask_right : Inner → Wanted → Point → Event → State → State
ask_right inner wanted point event s = if goes s then join point event (ask inner wanted s) else s

-- what a table says of the first token
abbrev pub first_row : {A : Type 0} → List (List ℕ × A) → List Terminal → Option A
first_row rows [] = None
first_row rows (first ∷ others) = mark_row rows first

-- parts with a comma between each and the next. A comma behind which the list is closed is none of them.
abbrev pub parts_behind : (List Terminal → Bool) → (State → State) → State → State
parts_behind closes go s =
    if goes s && (has_mark (codes ",") (rest s) && not (closes (behind_first (rest s)))) then go (skipped 1 s) else s

-- at most so many of such parts, and nothing where there are more
unfoldable pub parts : (List Terminal → Bool) → (State → State) → ℕ → State → State
parts closes part zero s = lost s
parts closes part (suc count) s = parts_behind closes (parts closes part count) (part s)

-- each part takes a token, so that there are no more of them than tokens
abbrev pub all_parts : (List Terminal → Bool) → (State → State) → State → State
all_parts closes part s = parts closes part (length (rest s) + 1) s

-- over a `}`, or on where none stands there
abbrev pub until_brace_with : (State → State) → State → State
until_brace_with go s = if goes s then (if has_mark (codes "}") (rest s) then skipped 1 s else go s) else s

-- fewer than so many such parts, and nothing where there are more
unfoldable pub parts_until_brace : (State → State) → ℕ → State → State
parts_until_brace part zero s = lost s
parts_until_brace part (suc count) s = until_brace_with (λ state. parts_until_brace part count (part state)) s

-- parts up to a `}`, and over it: each takes a token, so that there are no more of them than tokens
abbrev pub until_brace : (State → State) → State → State
until_brace part s = parts_until_brace part (length (rest s) + 1) s
