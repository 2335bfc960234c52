-- Which initialisers are those of objects that live as long as the program runs, one by one.
use Rattle.std.proofs.Common.{◌≡◌, Bool, true, false, List, [], ◌∷◌, ◌++◌, if◌then◌else◌, refl, sym, ap, ◌∙◌, append_assoc}
use Rattle.std.proofs.lemmas.List.{append-nil}
use Rattle.std.specs.List.{flat_map}
use Rattle.cbase.specs.declared.tree.init.Init.{Init}
use Rattle.cbase.specs.declared.tree.item.Item.{Item}
use Rattle.c_machine.specs.Program.{Program, is_static}
use Rattle.c_machine.specs.Statics.{sets_of, static_sets}
use Rattle.c_machine.specs.Text.{Set}

one_kept : (is : Bool) (set : Set Init) (rest : List (Set Init)) → (if is then set ∷ rest else rest) ≡ (if is then set ∷ [] else []) ++ rest
one_kept true set rest = refl
one_kept false set rest = refl

pub static_next : (p : Program) (set : Set Init) (sets rest : List (Set Init)) (before after all : List (Set Init)) → sets ≡ set ∷ rest → after ≡ before ++ static_sets p (set ∷ [])
    → before ++ static_sets p sets ≡ all → after ++ static_sets p rest ≡ all
static_next p set sets rest before after all is now was =
    ap (λ (these : List (Set Init)). these ++ static_sets p rest) now
    ∙ append_assoc before (static_sets p (set ∷ [])) (static_sets p rest)
    ∙ ap (λ (these : List (Set Init)). before ++ these) (sym (one_kept (is_static p set.place.at) set (static_sets p rest)))
    ∙ ap (λ (these : List (Set Init)). before ++ static_sets p these) (sym is)
    ∙ was

pub static_end : (p : Program) (left found all : List (Set Init)) → left ≡ [] → found ++ static_sets p left ≡ all → found ≡ all
static_end p left found all none was = sym (append-nil found) ∙ ap (λ (these : List (Set Init)). found ++ static_sets p these) (sym none) ∙ was

pub all_static : (p : Program) (items source : List Item) (none all slice nothing found : List (Set Init)) → none ≡ [] → all ≡ none ++ flat_map sets_of source → slice ≡ all → nothing ≡ []
    → found ≡ nothing ++ static_sets p slice → items ≡ source → found ≡ static_sets p (flat_map sets_of items)
all_static p items source none all slice nothing found empty noted same nil are is =
    are
    ∙ ap (λ (these : List (Set Init)). these ++ static_sets p slice) nil
    ∙ ap (static_sets p) (same ∙ noted ∙ ap (λ (these : List (Set Init)). these ++ flat_map sets_of source) empty)
    ∙ ap (λ (these : List Item). static_sets p (flat_map sets_of these)) (sym is)
