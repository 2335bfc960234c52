-- What can be named of an item that is not read: the number of its construct, and the file of its place.
use Rattle.std.specs.Prelude.{ℕ, ◌<◌, List, length}
use Rattle.cbase.specs.Refused.{IsConstruct}
use Rattle.cbase.specs.declared.place.Place.{Place}
use Rattle.cread.specs.declared.unread.Unread.{Unread}
use Rattle.cread.specs.declared.unread.Unread.TheVariants.{Construct, Syntax}

-- the place at which an item is not read
abbrev pub place_in : Unread → Place
place_in (Construct number place) = place
place_in (Syntax place) = place

-- the numbers of the constructs that are given up
abbrev pub HasNumber : Unread → Type 0
HasNumber (Construct number place) = IsConstruct number
HasNumber (Syntax place) = Unit {0}

-- it can be named: its construct has a number, and the file of its place one of these names
abbrev pub IsNamed : List (List ℕ) → Unread → Type 0
IsNamed names unread = HasNumber unread × ((place_in unread).file < length names)
