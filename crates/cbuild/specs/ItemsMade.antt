-- Items of a file that events make.
use Rattle.std.specs.Prelude.{ℕ, [], ◌∷◌, Option, None, Some}
use Rattle.cbase.specs.declared.tree.item.Item.{Item}
use Rattle.cevents.specs.Workshop.{Workshop, only}
use Rattle.cevents.specs.declared.piece.Piece.{Piece}
use Rattle.cevents.specs.declared.piece.Piece.TheVariants as piece

-- nothing is made yet, where so many expressions end before
abbrev pub nothing_made : ℕ → Option Workshop
nothing_made count = Some (record { count = count; pieces = [] })

-- an item is made and nothing else, where so many expressions end up to its end
abbrev pub item_made : Item → ℕ → Option Workshop
item_made item count = Some (record { count = count; pieces = piece.Item item ∷ [] })

-- the item that a piece is
abbrev pub item_of : Piece → Option Item
item_of (piece.Item item) = Some item
item_of _ = None

-- an item with how many expressions end up to its end
abbrev pub counted_item : ℕ → Option Item → Option (Item × ℕ)
counted_item count None = None
counted_item count (Some item) = Some (item, count)

-- the item that a piece is, where there is a piece
abbrev pub item_in : Option Piece → Option Item
item_in None = None
item_in (Some piece) = item_of piece

-- the item that is made where nothing else is, with how many expressions end up to its end
abbrev pub item_alone : Option Workshop → Option (Item × ℕ)
item_alone None = None
item_alone (Some workshop) = counted_item workshop.count (item_in (only workshop.pieces))
