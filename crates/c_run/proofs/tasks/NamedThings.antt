-- What a name stands for decides what is to be done.
use Rattle.std.proofs.Common.{◌≡◌, ℕ, List, [], ◌∷◌, Option, None, Some, refl}
use Rattle.cbase.specs.declared.tree.expr.Expr.{Expr}
use Rattle.expressions.specs.Numbers.{Numbering}
use Rattle.c_machine.specs.declared.task.Task.TheVariants.{Unknown}
use Rattle.c_machine.specs.Expressions.{loaded, name_parts, named}
use Rattle.c_machine.specs.Program.{Program, functions_in, number_in}
use Rattle.c_machine.specs.Text.{Text}
use Rattle.c_machine.specs.Trees.{body_stands, text_of}
use Rattle.c_text.specs.declared.standing.Standing.{Standing as Told}
use Rattle.c_text.specs.declared.standing.Standing.TheVariants.{Object, Constant, BuiltIn, Body, Nothing}
use Rattle.c_text.specs.Standing.{standing_by}

-- a function with a body is no object, and no constant
named_body : (t : Text) (found : Option ℕ) → named t (body_stands found) ≡ Unknown ∷ []
named_body t None = refl
named_body t (Some number) = refl

loaded_body : (t : Text) (expr : t.Expr) (found : Option ℕ) → name_parts t expr (body_stands found) ≡ loaded t expr
loaded_body t expr None = refl
loaded_body t expr (Some number) = refl

-- what is no object has no address
pub no_object : (n : Numbering) (p : Program) (name : Option (List ℕ)) (told : Told) → ((token : ℕ) → told ≡ Object token → ⊥) →
    named (text_of p) (standing_by n p name told) ≡ Unknown ∷ []
no_object n p name (Object token) not = absurd (not token refl)
no_object n p name (Constant bits) not = refl
no_object n p None (BuiltIn signature) not = refl
no_object n p (Some name) (BuiltIn signature) not = refl
no_object n p None Body not = refl
no_object n p (Some name) Body not = named_body (text_of p) (number_in (functions_in p.items) name)
no_object n p name Nothing not = refl

-- what is no constant is loaded
pub no_constant : (n : Numbering) (p : Program) (expr : Expr) (name : Option (List ℕ)) (told : Told) → ((bits : ℕ) → told ≡ Constant bits → ⊥) →
    name_parts (text_of p) expr (standing_by n p name told) ≡ loaded (text_of p) expr
no_constant n p expr name (Object token) not = refl
no_constant n p expr name (Constant bits) not = absurd (not bits refl)
no_constant n p expr None (BuiltIn signature) not = refl
no_constant n p expr (Some name) (BuiltIn signature) not = refl
no_constant n p expr None Body not = refl
no_constant n p expr (Some name) Body not = loaded_body (text_of p) expr (number_in (functions_in p.items) name)
no_constant n p expr name Nothing not = refl
