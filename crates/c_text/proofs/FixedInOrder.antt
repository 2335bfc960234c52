-- Objects are put in order of the text in a list that begins with the last one.
use Rattle.std.proofs.Common.{◌≡◌, ℕ, suc, ◌<◌, Bool, true, false, List, [], ◌∷◌, ◌++◌, map, take, drop, reverse, length, nat_lt, get_or, Option, refl, sym, ap, ◌∙◌, append_assoc, drop-cons, take-suc, if◌then◌else◌}
use Rattle.std.proofs.lemmas.List.{reverse-append}
use Rattle.typing.specs.Outcomes.{ObjectRow}
use Rattle.c_machine.specs.declared.object.Object.{Object}
use Rattle.c_machine.specs.Program.{Program, put_in_order}
use Rattle.c_machine.specs.Trees.{object_of}
use Rattle.c_text.specs.declared.fixed_object.FixedObject.{FixedObject}
use Rattle.c_text.specs.Fixed.{fixed_by, put_fixed}
use Rattle.c_text.specs.Kept.{sized}

-- the same order as in the program
pub put_mapped : (p : Program) (row : ObjectRow) (rows : List ObjectRow) → put_fixed (fixed_by p row) (map (fixed_by p) rows) ≡ map (fixed_by p) (put_in_order row rows)
put_mapped p row [] = refl
put_mapped p row (next ∷ rest) = at (nat_lt next.token row.token) (put_mapped p row rest)
  where
    at : (before : Bool) → put_fixed (fixed_by p row) (map (fixed_by p) rest) ≡ map (fixed_by p) (put_in_order row rest) →
        (if before then fixed_by p next ∷ put_fixed (fixed_by p row) (map (fixed_by p) rest) else fixed_by p row ∷ fixed_by p next ∷ map (fixed_by p) rest)
        ≡ map (fixed_by p) (if before then next ∷ put_in_order row rest else row ∷ next ∷ rest)
    at true is = ap (λ (rows : List FixedObject). fixed_by p next ∷ rows) is
    at false is = refl

-- a list from its end
take_reversed : {X : Type 0} (xs : List X) (k : ℕ) (d : X) → k < length xs → reverse (take (suc k) xs) ≡ get_or xs k d ∷ reverse (take k xs)
take_reversed xs k d inside = ap reverse (take-suc xs k d inside) ∙ reverse-append (take k xs) (get_or xs k d ∷ [])

drop_reversed : {X : Type 0} (xs : List X) (k : ℕ) (d : X) → k < length xs → reverse (drop k xs) ≡ reverse (drop (suc k) xs) ++ get_or xs k d ∷ []
drop_reversed xs k d inside = ap reverse (drop-cons xs k d inside) ∙ reverse-append (get_or xs k d ∷ []) (drop (suc k) xs)

-- an object goes on, over one that stands in front in the text, or stays
put_where : (row next : FixedObject) (rest : List FixedObject) (before : Bool) → nat_lt next.token row.token ≡ before →
    put_fixed row (next ∷ rest) ≡ (if before then next ∷ put_fixed row rest else row ∷ next ∷ rest)
put_where row next rest before is = ap (λ (before : Bool). if before then next ∷ put_fixed row rest else row ∷ next ∷ rest) is

pub passes : (row : FixedObject) (rows : List FixedObject) (k : ℕ) (d : FixedObject) → k < length rows → nat_lt (get_or rows k d).token row.token ≡ true →
    reverse (drop (suc k) rows) ++ put_fixed row (reverse (take (suc k) rows)) ≡ reverse (drop k rows) ++ put_fixed row (reverse (take k rows))
passes row rows k d inside is =
    ap (λ (front : List FixedObject). reverse (drop (suc k) rows) ++ put_fixed row front) (take_reversed rows k d inside)
    ∙ ap (λ (front : List FixedObject). reverse (drop (suc k) rows) ++ front) (put_where row (get_or rows k d) (reverse (take k rows)) true is)
    ∙ sym (append_assoc (reverse (drop (suc k) rows)) (get_or rows k d ∷ []) (put_fixed row (reverse (take k rows))))
    ∙ ap (λ (front : List FixedObject). front ++ put_fixed row (reverse (take k rows))) (sym (drop_reversed rows k d inside))

pub stays : (row : FixedObject) (rows : List FixedObject) (k : ℕ) (d : FixedObject) → k < length rows → nat_lt (get_or rows k d).token row.token ≡ false →
    put_fixed row (reverse (take (suc k) rows)) ≡ row ∷ reverse (take (suc k) rows)
stays row rows k d inside is =
    ap (put_fixed row) (take_reversed rows k d inside)
    ∙ put_where row (get_or rows k d) (reverse (take k rows)) false is
    ∙ ap (λ (front : List FixedObject). row ∷ front) (sym (take_reversed rows k d inside))

-- a place in such a list
pub put_at : (row : FixedObject) (rows : List FixedObject) (k : ℕ) → reverse (take k rows ++ row ∷ drop k rows) ≡ reverse (drop k rows) ++ row ∷ reverse (take k rows)
put_at row rows k =
    reverse-append (take k rows) (row ∷ drop k rows)
    ∙ ap (λ (front : List FixedObject). front ++ reverse (take k rows)) (reverse-append (row ∷ []) (drop k rows))
    ∙ append_assoc (reverse (drop k rows)) (row ∷ []) (reverse (take k rows))

-- an object is one of them, or not
pub put_here : (p : Program) (row : ObjectRow) (rows : List ObjectRow) (objects : List FixedObject) (taken : Bool) → objects ≡ map (fixed_by p) rows →
    (if taken then put_fixed (fixed_by p row) objects else objects) ≡ map (fixed_by p) (if taken then put_in_order row rows else rows)
put_here p row rows objects true is = ap (put_fixed (fixed_by p row)) is ∙ put_mapped p row rows
put_here p row rows objects false is = is

pub sizes_are : (p : Program) (rows : List ObjectRow) →
    map (λ (row : FixedObject). row.object) (map (fixed_by p) rows) ≡ map (λ (row : ObjectRow). sized (object_of p row)) rows
sizes_are p [] = refl
sizes_are p (row ∷ rows) = ap (λ (sizes : List (Option Object)). sized (object_of p row) ∷ sizes) (sizes_are p rows)
