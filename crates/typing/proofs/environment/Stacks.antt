-- A vector as a stack, whose top is its last item: it is read from the last one on.
use Rattle.std.specs.Prelude.{◌≡◌, ℕ, suc, List, [], ◌∷◌, ◌++◌, reverse}
use Rattle.std.proofs.Common.{refl, ◌∙◌, ap, sym, arith, length, take, set, get_or}
use Rattle.std.proofs.lemmas.List.{reverse-append, set_split, set-get_or, drop_all}

pub pushed : {A : Type 0} (items : List A) (item : A) → reverse (items ++ item ∷ []) ≡ item ∷ reverse items
pushed items item = reverse-append items (item ∷ [])

pub popped : {A : Type 0} (old new : List A) (item : A) → old ≡ new ++ item ∷ [] → reverse old ≡ item ∷ reverse new
popped old new item split = ap reverse split ∙ pushed new item

-- an item that is written last
pub set_last : {A : Type 0} (items : List A) (last : ℕ) (item : A) → suc last ≡ length items → reverse (set items last item) ≡ item ∷ reverse (take last items)
set_last {A} items last item count =
    let whole : set items last item ≡ take last items ++ item ∷ [] =
    set_split items last item (omega (arith, count)) ∙ ap (λ (rest : List A). take last items ++ item ∷ rest) (drop_all (suc last) items (omega (arith, count))) in
    ap reverse whole ∙ pushed (take last items) item

-- the item that stands last
pub read_last : {A : Type 0} (items : List A) (last : ℕ) (item : A) → suc last ≡ length items → item ≡ get_or items last item → reverse items ≡ item ∷ reverse (take last items)
read_last {A} items last item count here =
    let same : set items last item ≡ items = ap (set items last) here ∙ set-get_or items last item in
    ap reverse (sym same) ∙ set_last items last item count

pub none : {A : Type 0} (items : List A) → length items ≡ 0 → reverse items ≡ []
none [] empty = refl
none (item ∷ items) empty = absurd (omega (arith, empty))
