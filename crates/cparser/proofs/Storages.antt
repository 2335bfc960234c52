-- The storage class where nothing is read.
use Rattle.std.proofs.Common.{◌≡◌, Bool, true, false, if◌then◌else◌, Option, Some, None, refl, ap, ◌∙◌}
use Rattle.cbase.specs.declared.tree.decl.Storage.{Storage}
use Rattle.cgrammar.specs.ReadDeclarations.{storage_at}
use Rattle.cparser.specs.DeclarationSteps.{storage_read, storage_with, storage_or_plain}
use Rattle.cparser.specs.State.{State, rest, goes, lost}
use Rattle.cparser.specs.Steps.{Inner, ask, ask_whole, whole}
use Rattle.cparser.specs.declared.wanted.Wanted.{Wanted}
use Rattle.cparser.specs.declared.wanted.Wanted.TheVariants as wanted

not_then : {A : Type 0} (b : Bool) (x y : A) → b ≡ false → (if b then x else y) ≡ y
not_then true x y is = cc
not_then false x y is = refl

-- what is asked for where nothing goes on leaves the row
rest_stays : (inner : Inner) (kind : Wanted) (s : State) → goes s ≡ false → rest (ask_whole inner kind s) ≡ rest s
unfolding ask_whole ask whole
rest_stays inner kind s is =
    let asked : ask inner kind s ≡ s = not_then (goes s) _ s is in
    ap (λ (t : State). rest (whole t)) asked ∙ ap (λ (t : State). rest t) (not_then (goes s) s (lost s) is)

with_stays : (inner : Inner) (s : State) (first : Option Storage) → storage_at (rest s) ≡ first → goes s ≡ false → storage_with inner s first ≡ storage_or_plain first
with_stays inner s None same is = ap (λ row. storage_or_plain (storage_at row)) (rest_stays inner wanted.Specifier s is) ∙ ap storage_or_plain same
with_stays inner s (Some storage) same is = refl

pub storage_stays : (inner : Inner) (s : State) → goes s ≡ false → storage_read inner s ≡ storage_or_plain (storage_at (rest s))
unfolding storage_read
storage_stays inner s is = with_stays inner s (storage_at (rest s)) refl is
