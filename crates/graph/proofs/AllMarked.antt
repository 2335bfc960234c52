-- Marks of objects, one object after another.
use Rattle.std.proofs.Common.{◌≡◌, ℕ, ◌+◌, ◌≤◌, Bool, true, List, ◌∷◌, length, drop, sym, ap, ◌∙◌, Some}
use Rattle.std.specs.Prelude.{slice_get, slice_set}
use Rattle.std.specs.List.{fold}
use Rattle.std.proofs.lemmas.List.{set_past, drop_more, drop_all}
use Rattle.std.proofs.lemmas.Option.{slice_get_within, get_or_from_slice_get}
use Rattle.graph.specs.declared.object.Object.{Object}
use Rattle.graph.specs.Addressed.{one_if_dead, one_if_both, dead, dead_and_marked}

pub set_beyond : (marks : List Bool) (place : ℕ) → length marks ≤ place → marks ≡ slice_set marks place true
set_beyond marks place past = sym (set_past marks place true past)

-- what is left from a place on
pub drop_get : {T : Type 0} (items : List T) (place : ℕ) (item : T) → slice_get items place ≡ Some item → drop place items ≡ item ∷ drop (place + 1) items
drop_get items place item is =
    drop_more items place item (slice_get_within items place item is) ∙ ap (λ x. x ∷ drop (place + 1) items) (get_or_from_slice_get items place item item is)

pub fold_left : {A B : Type 0} (f : B → A → B) (before : B) (items : List A) (place : ℕ) (item : A) → slice_get items place ≡ Some item →
    fold f before (drop place items) ≡ fold f (f before item) (drop (place + 1) items)
fold_left f before items place item is = ap (fold f before) (drop_get items place item is)

pub fold_all : {A B : Type 0} (f : B → A → B) (before : B) (items : List A) (count : ℕ) → length items ≤ count → fold f before (drop count items) ≡ before
fold_all f before items count all = ap (fold f before) (drop_all count items all)

pub dead_left : (objects : List Object) (place : ℕ) (object : Object) → slice_get objects place ≡ Some object →
    dead (drop place objects) ≡ one_if_dead object + dead (drop (place + 1) objects)
dead_left objects place object is = ap dead (drop_get objects place object is)

pub dead_all : (objects : List Object) (count : ℕ) → length objects ≤ count → dead (drop count objects) ≡ 0
dead_all objects count all = ap dead (drop_all count objects all)

pub marked_left : (objects : List Object) (marks : List Bool) (place : ℕ) (object : Object) (mark : Bool) → slice_get objects place ≡ Some object → slice_get marks place ≡ Some mark →
    dead_and_marked (drop place objects) (drop place marks) ≡ one_if_both object mark + dead_and_marked (drop (place + 1) objects) (drop (place + 1) marks)
marked_left objects marks place object mark is marked =
    ap (λ (os : List Object). dead_and_marked os (drop place marks)) (drop_get objects place object is)
    ∙ ap (dead_and_marked (object ∷ drop (place + 1) objects)) (drop_get marks place mark marked)

pub marked_all : (objects : List Object) (marks : List Bool) (count : ℕ) → length objects ≤ count → dead_and_marked (drop count objects) (drop count marks) ≡ 0
marked_all objects marks count all = ap (λ (os : List Object). dead_and_marked os (drop count marks)) (drop_all count objects all)
