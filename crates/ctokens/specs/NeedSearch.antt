-- How the needed items are found: from the items that define main, each found item is looked at once, and each name
-- that it contains brings in the items that wait for the name, once.
use Rattle.std.specs.Prelude.{◌≡◌, ℕ, ◌+◌, ◌<◌, Bool, true, false, if◌then◌else◌, List, [], ◌∷◌, ◌++◌, length, nat_lt, slice_set, replicate, Option, None, Some, zero, suc}
use Rattle.std.specs.List.{slice_index_or, Contains, list_any}
use Rattle.ctokens.specs.declared.entry.Entry.{Entry}
use Rattle.ctokens.specs.Entry.{is_main_entry}

-- what has been found: the items in the order in which they were found, for each item whether it is among them, and
-- for each name the items that wait for it
pub record State : Type 0 where
  pub order : List ℕ
  pub marked : List Bool
  pub waiting : List (List ℕ)

-- the entry past the last item: it offers and contains nothing
abbrev pub no_entry : Entry
no_entry = record { main = false; offers = []; contains = [] }

-- the entry of the item of that number
abbrev pub entry_at : List Entry → ℕ → Entry
entry_at entries number = slice_index_or entries number no_entry

-- the items that wait for a name
abbrev pub waiting_at : List (List ℕ) → ℕ → List ℕ
waiting_at waiting name = slice_index_or waiting name []

-- one more item that waits for a name
abbrev pub put : ℕ → List (List ℕ) → ℕ → List (List ℕ)
put item waiting name = slice_set waiting name (waiting_at waiting name ++ item ∷ [])

-- one more item that waits for each of these names
abbrev pub put_all : ℕ → List (List ℕ) → List ℕ → List (List ℕ)
put_all item waiting [] = waiting
put_all item waiting (name ∷ names) = put_all item (put item waiting name) names

-- each item waits for each name by which it is needed; the items are numbered from `item` on
abbrev pub put_entries : ℕ → List (List ℕ) → List Entry → List (List ℕ)
put_entries item waiting [] = waiting
put_entries item waiting (entry ∷ entries) = put_entries (item + 1) (put_all item waiting entry.offers) entries

-- an item is found, unless it has been
unfoldable pub mark : ℕ → State → State
mark item state =
    if slice_index_or state.marked item true then state
    else record { order = state.order ++ item ∷ []; marked = slice_set state.marked item true; waiting = state.waiting }

-- these items are found, one behind the other
abbrev pub mark_all : List ℕ → State → State
mark_all [] state = state
mark_all (item ∷ items) state = mark_all items (mark item state)

-- the items that define main are found, numbered from `item` on
abbrev pub mark_mains : ℕ → List Entry → State → State
mark_mains item [] state = state
mark_mains item (entry ∷ entries) state = mark_mains (item + 1) entries (if entry.main then mark item state else state)

-- a name brings in the items that wait for it, and none waits any longer
unfoldable pub follow : ℕ → State → State
follow name state =
    mark_all (waiting_at state.waiting name) (record { order = state.order; marked = state.marked; waiting = slice_set state.waiting name [] })

-- these names bring in the items that wait for them, one behind the other
abbrev pub follow_all : List ℕ → State → State
follow_all [] state = state
follow_all (name ∷ names) state = follow_all names (follow name state)

-- the found items are looked at in turn, from the one at `at` on, in at most so many turns
abbrev pub walk : List Entry → ℕ → ℕ → State → State
walk entries zero at state = state
walk entries (suc turns) at state =
    if nat_lt at (length state.order)
    then walk entries turns (at + 1) (follow_all (entry_at entries (slice_index_or state.order at 0)).contains state)
    else state

-- the places at which a list is true, numbered from `place` on
abbrev pub places : ℕ → List Bool → List ℕ
places place [] = []
places place (true ∷ rest) = place ∷ places (place + 1) rest
places place (false ∷ rest) = places (place + 1) rest

-- for each of so many names, the items that wait for it at first
unfoldable pub waiting_for : List Entry → ℕ → List (List ℕ)
waiting_for entries count = put_entries 0 (replicate count []) entries

-- what has been found at first: the items that define main
unfoldable pub started : List Entry → ℕ → State
started entries count =
    mark_mains 0 entries (record { order = []; marked = replicate (length entries) false; waiting = waiting_for entries count })

-- the numbers of the items that are found, ascending
unfoldable pub found : List Entry → ℕ → List ℕ
found entries count = places 0 (walk entries (length entries) 0 (started entries count)).marked

-- the items that are found, or none where no item defines main
abbrev pub need_of : List Entry → ℕ → Option (List ℕ)
need_of entries count = if list_any is_main_entry entries then Some (found entries count) else None

-- The least set of items in which each stands that defines main, and each that is needed by a name which an item of
-- the set contains.
pub data Reached (entries : List Entry) : ℕ → Type 0 where
  Starting : (number : ℕ) → number < length entries → (entry_at entries number).main ≡ true → Reached entries number
  Leading : (number user name : ℕ) → number < length entries → Reached entries user → Contains (entry_at entries user).contains name
      → Contains (entry_at entries number).offers name → Reached entries number
