-- What stands in the items of a list, put in front of other parts from the last item to the first.
use Rattle.std.proofs.Common.{◌≡◌, ℕ, ◌+◌, ◌-◌, ◌<◌, ◌≤◌, List, [], ◌∷◌, ◌++◌, map, drop, length, get_or, sym, ap, ◌∙◌, append_assoc, arith}
use Rattle.std.specs.List.{flat_map}
use Rattle.std.proofs.lemmas.List.{drop_all}
use Rattle.expressions.proofs.Loops.{next_item}
use Rattle.c_machine.specs.Statics.{Node}

sub_one : (left : ℕ) → 0 < left → left - 1 + 1 ≡ left
sub_one left some = grind (arith, some)

-- an item, and those behind it
item_before : {A : Type 0} (items : List A) (left : ℕ) (item : A) → 0 < left → left ≤ length items → item ≡ get_or items (left - 1) item → drop (left - 1) items ≡ item ∷ drop left items
item_before items left item some inside is =
    next_item items (left - 1) item (grind (arith, some, inside)) is
    ∙ ap (λ (k : ℕ). item ∷ drop k items) (sub_one left some)

-- no item is in front yet, and all are
pub none_in_front : {A : Type 0} (f : List A → List Node) (items : List A) (nodes : List Node) → nodes ≡ f [] ++ nodes → nodes ≡ f (drop (length items) items) ++ nodes
none_in_front {A} f items nodes is = is ∙ ap (λ (these : List A). f these ++ nodes) (sym (drop_all (length items) items (omega arith)))

pub all_in_front : {A : Type 0} (f : List A → List Node) (items : List A) (left : ℕ) (before after : List Node) → left ≤ 0 → after ≡ f (drop left items) ++ before → after ≡ f items ++ before
all_in_front {A} f items left before after last is = is ∙ ap (λ (k : ℕ). f (drop k items) ++ before) (let none : left ≡ 0 = grind (arith, last) in none)

-- one more, where several parts stand in an item
pub item_in_front : {A : Type 0} (f : A → List Node) (items : List A) (left : ℕ) (item : A) (before between after : List Node) → 0 < left → left ≤ length items →
    item ≡ get_or items (left - 1) item → between ≡ flat_map f (drop left items) ++ before → after ≡ f item ++ between → after ≡ flat_map f (drop (left - 1) items) ++ before
item_in_front {A} f items left item before between after some inside is rest first =
    first
    ∙ ap (λ (these : List Node). f item ++ these) rest
    ∙ sym (append_assoc (f item) (flat_map f (drop left items)) before)
    ∙ ap (λ (these : List A). flat_map f these ++ before) (sym (item_before items left item some inside is))

-- one more, where it is a part itself
pub part_in_front : {A : Type 0} (f : A → Node) (items : List A) (left : ℕ) (item : A) (before between after : List Node) → 0 < left → left ≤ length items →
    item ≡ get_or items (left - 1) item → between ≡ map f (drop left items) ++ before → after ≡ f item ∷ between → after ≡ map f (drop (left - 1) items) ++ before
part_in_front {A} f items left item before between after some inside is rest first =
    first
    ∙ ap (λ (these : List Node). f item ∷ these) rest
    ∙ ap (λ (these : List A). map f these ++ before) (sym (item_before items left item some inside is))
