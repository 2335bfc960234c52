-- A vector as a stack, whose top is its last item: it is read from the last one on.
use Rattle.std.specs.Prelude.{◌≡◌, List, [], ◌∷◌, ◌++◌, reverse}
use Rattle.std.proofs.Common.{refl, ◌∙◌, ap, arith, length}
use Rattle.std.proofs.lemmas.List.{reverse-append}

pub pushed : {A : Type 0} (items : List A) (item : A) → reverse (items ++ item ∷ []) ≡ item ∷ reverse items
pushed items item = reverse-append items (item ∷ [])

pub popped : {A : Type 0} (old new : List A) (item : A) → old ≡ new ++ item ∷ [] → reverse old ≡ item ∷ reverse new
popped old new item split = ap reverse split ∙ pushed new item

pub none : {A : Type 0} (items : List A) → length items ≡ 0 → reverse items ≡ []
none [] empty = refl
none (item ∷ items) empty = absurd (omega arith)
