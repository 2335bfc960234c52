-- Moves without an edge: names that do nothing, and initialisers without a value.
use Rattle.std.proofs.Common.{◌≡◌, ℕ, suc, Bool, true, false, ◌&&◌, List, [], ◌∷◌, map, Option, None, Some, option_map, refl, sym, ap, ◌∙◌, if◌then◌else◌}
use Rattle.std.specs.List.{list_all}
use Rattle.cbase.specs.declared.tree.decl.Declared.{Declared}
use Rattle.cbase.specs.declared.tree.expr.ExprForm.TheOpen as tree
use Rattle.cbase.specs.declared.tree.expr.ExprForm.TheViews.{out-Declared, out-Init, out-InitPart}
use Rattle.cbase.specs.declared.tree.init.Init.{Init}
use Rattle.cbase.specs.declared.tree.init.InitPart.{InitPart}
use Rattle.typing.specs.Forms.{Initialiser as Layer}
use Rattle.c_machine.specs.declared.object.Object.{Object}
use Rattle.c_machine.specs.Program.{Program}
use Rattle.c_machine.specs.Trees.{initialiser_of, name_of, text_of}
use Rattle.c_text.specs.Kept.{is_sized, kept_object}
use Rattle.lowering.specs.Placing.{does_nothing, has_no_value, is_empty_within}
use Rattle.lower.specs.Ways.{is_no_object}

-- one after the other
module _ {A B : Type 0} (f : B → Bool) (g : A → B) (items rest : List A) (item : A) (all : Bool) where
  pub next_holds : items ≡ item ∷ rest → true ≡ f (g item) → list_all f (map g items) ≡ all → list_all f (map g rest) ≡ all
  next_holds is holds so_far = ap (λ (here : Bool). here && list_all f (map g rest)) holds ∙ ap (λ (items : List A). list_all f (map g items)) (sym is) ∙ so_far

  pub one_fails : items ≡ item ∷ rest → false ≡ f (g item) → list_all f (map g items) ≡ all → false ≡ all
  one_fails is fails so_far = ap (λ (here : Bool). here && list_all f (map g rest)) fails ∙ ap (λ (items : List A). list_all f (map g items)) (sym is) ∙ so_far

pub all_hold : {A B : Type 0} (f : B → Bool) (g : A → B) (items : List A) (all : Bool) → items ≡ [] → list_all f (map g items) ≡ all → true ≡ all
all_hold {A} {B} f g items all is so_far = ap (λ (items : List A). list_all f (map g items)) (sym is) ∙ so_far

pub all_mapped : {A B : Type 0} (f : B → Bool) (g : A → B) (items : List A) → list_all f (map g items) ≡ list_all (λ (item : A). f (g item)) items
all_mapped f g [] = refl
all_mapped f g (item ∷ items) = ap (λ (rest : Bool). f (g item) && rest) (all_mapped f g items)

-- an initialiser in braces, by its parts
pub by_braces : (p : Program) (levels fewer : ℕ) (init : Init) (parts : List InitPart) (answer : Bool) → levels ≡ suc fewer → out-Init init ≡ tree.Braces parts →
    answer ≡ list_all (is_empty_within fewer (text_of p)) (map (λ (part : InitPart). (out-InitPart part).init) parts) → answer ≡ is_empty_within levels (text_of p) init
by_braces p levels fewer init parts answer is out all =
    all ∙ ap (λ (layer : Layer). has_no_value (text_of p) (is_empty_within fewer (text_of p)) (initialiser_of layer)) (sym out)
    ∙ ap (λ (levels : ℕ). is_empty_within levels (text_of p) init) (sym is)

-- a name with an initialiser does nothing where it declares no automatic object
pub as_kept : (p : Program) (name : Declared) (init : Init) → (out-Declared name).init ≡ Some init →
    is_no_object (kept_object ((text_of p).automatic (out-Declared name).place)) ≡ does_nothing (text_of p) (name_of name)
as_kept p name init has = at ((text_of p).automatic (out-Declared name).place) refl
  where
    sized : (fits : Bool) (object : Object) → is_no_object (option_map Some (if fits then Some object else None)) ≡ false
    sized true object = refl
    sized false object = refl

    at : (found : Option Object) → (text_of p).automatic (out-Declared name).place ≡ found → is_no_object (kept_object found) ≡ does_nothing (text_of p) (name_of name)
    at None is = rw is refl
    at (Some object) is = sized (is_sized object) object ∙ rw (is, has) refl
