-- The objects of a block are made one by one where it is entered.
use Rattle.std.proofs.Common.{◌≡◌, List, [], ◌∷◌, ◌++◌, map, refl, sym, ap, ◌∙◌, Option, None, Some}
use Rattle.std.specs.List.{flat_map}
use Rattle.std.specs.Option.{option_map_or}
use Rattle.std.proofs.lemmas.List.{map-append}
use Rattle.c_machine.specs.declared.object.Object.{Object}
use Rattle.c_machine.specs.declared.task.Task.TheVariants.{MakeObject}
use Rattle.c_machine.specs.Blocks.{made, entered, names_in, objects_in as objects_made}
use Rattle.c_machine.specs.Text.{Text}
use Rattle.lowering.specs.Placing.{objects_of_name, objects_of, objects_in}

flat_mapped : {A B C : Type 0} (make : A → B) (one : C → List A) (other : C → List B) → ((x : C) → other x ≡ map make (one x)) → (xs : List C) → flat_map other xs ≡ map make (flat_map one xs)
flat_mapped make one other each [] = refl
flat_mapped {B = B} make one other each (x ∷ xs) =
    ap (λ (list : List B). list ++ flat_map other xs) (each x)
    ∙ (ap (λ (list : List B). map make (one x) ++ list) (flat_mapped make one other each xs) ∙ sym (map-append make (one x) (flat_map one xs)))

object_made : (t : Text) (found : Option Object) → made t found ≡ map MakeObject (option_map_or (λ object. object ∷ []) found [])
object_made t None = refl
object_made t (Some object) = refl

pub block_made : (t : Text) (stmt : t.Stmt) → objects_made t stmt ≡ map MakeObject (objects_of t stmt)
block_made t stmt = flat_mapped MakeObject (objects_of_name t) (λ name. made t (t.automatic name.place)) (λ name. object_made t (t.automatic name.place)) (names_in (t.clause stmt))

pub blocks_made : (t : Text) (body : List t.Stmt) → entered t body ≡ map MakeObject (objects_in t body)
blocks_made t body = flat_mapped MakeObject (objects_of t) (objects_made t) (block_made t) body
