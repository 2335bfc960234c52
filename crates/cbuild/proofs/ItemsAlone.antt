-- An item that is made alone.
use Rattle.std.proofs.Common.{◌≡◌, ℕ, List, [], ◌∷◌, Option, None, Some, sym, ◌∙◌, ap}
use Rattle.cbase.specs.declared.tree.item.Item.{Item}
use Rattle.cevents.specs.Workshop.{Workshop}
use Rattle.cevents.specs.declared.piece.Piece.{Piece}
use Rattle.cevents.specs.declared.piece.Piece.TheVariants as piece
use Rattle.cbuild.specs.ItemsMade.{item_alone, item_made}

pub made_alone : (workshop : Option Workshop) (item : Item) (count : ℕ) → workshop ≡ item_made item count → item_alone workshop ≡ Some (item, count)
made_alone workshop item count is = ap item_alone is

abbrev one_of : Item → Option (Item × ℕ) → Item
one_of other None = other
one_of other (Some (item, count)) = item

abbrev count_of : ℕ → Option (Item × ℕ) → ℕ
count_of other None = other
count_of other (Some (item, count)) = count

-- what is told of the pieces is told of all that is made
pub is_made : (workshop : Option Workshop) (item : Item) (count : ℕ) → item_alone workshop ≡ Some (item, count) → workshop ≡ item_made item count
is_made None item count is = cc is
is_made (Some workshop) item count is = of_pieces workshop.count workshop.pieces is
  where
    of_pieces : (number : ℕ) (pieces : List Piece) → item_alone (Some (record { count = number; pieces = pieces })) ≡ Some (item, count)
        → Some (record { count = number; pieces = pieces }) ≡ item_made item count
    of_pieces number [] is = cc is
    of_pieces number (first ∷ (second ∷ pieces)) is = cc is
    of_pieces number (piece.Item one ∷ []) is =
        λ i. Some (record { count = ap (count_of count) is i; pieces = piece.Item (ap (one_of item) is i) ∷ [] })
    of_pieces number (_ ∷ []) is = cc is

pub is_not_made : (workshop : Option Workshop) (item : Item) (count : ℕ) → item_alone workshop ≡ None → workshop ≡ item_made item count → ⊥
is_not_made workshop item count none is = let both : Some (item, count) ≡ None = sym (made_alone workshop item count is) ∙ none in cc both
