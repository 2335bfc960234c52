-- Initialisers that are noted item by item.
use Rattle.std.proofs.Common.{◌≡◌, List, [], ◌∷◌, ◌++◌, sym, ap, ◌∙◌, append_assoc}
use Rattle.std.specs.List.{flat_map}
use Rattle.std.proofs.lemmas.List.{append-nil}
use Rattle.cbase.specs.declared.tree.init.Init.{Init}
use Rattle.c_machine.specs.Text.{Set}

-- one more item
pub item_noted : {A : Type 0} (f : A → List (Set Init)) (items rest : List A) (item : A) (sets after all : List (Set Init)) → items ≡ item ∷ rest → after ≡ sets ++ f item
    → sets ++ flat_map f items ≡ all → after ++ flat_map f rest ≡ all
item_noted {A} f items rest item sets after all is noted before =
    ap (λ (these : List (Set Init)). these ++ flat_map f rest) noted
    ∙ append_assoc sets (f item) (flat_map f rest)
    ∙ ap (λ (these : List A). sets ++ flat_map f these) (sym is)
    ∙ before

-- none is left
pub items_noted : {A : Type 0} (f : A → List (Set Init)) (items : List A) (sets all : List (Set Init)) → items ≡ [] → sets ++ flat_map f items ≡ all → sets ≡ all
items_noted {A} f items sets all none before = sym (append-nil sets) ∙ ap (λ (these : List A). sets ++ flat_map f these) (sym none) ∙ before
