-- Whether a name is declared twice, by what a context says of it by numbers.
use Rattle.std.proofs.Common.{◌≡◌, ◌∙◌, Bool, true, false, Some, Option, None, length, refl}
use Rattle.std.specs.Prelude.{IfSome, is_some, option_map}
use Rattle.typing.specs.declared.environment.entity.Binding.{Binding}
use Rattle.typing.specs.declared.environment.entity.Binding.TheVariants.{Own, WithLinkage}
use Rattle.typing.specs.declared.environment.entity.DeclaredType.{DeclaredType}
use Rattle.typing.specs.declared.environment.entity.Entity.TheVariants.{Object, Typedef, Enumerator, Function}
use Rattle.typing.specs.environment.Bounds.{BindingBelow, DeclaredBelow}
use Rattle.typing.specs.Declarations.{IsAgain, IsOther, LinkedGiven, ObjectGiven, TypeGiven}
use Rattle.typing.specs.Entities.{DeclaredType as TypeDeclared, Linked}
use Rattle.expressions.specs.Context.{Context, Agrees}
use Rattle.expressions.specs.Numbers.{Numbering, declared_type_at, name_here_at}
use Rattle.items.specs.declarations.Given.{IsTypedefAgain, is_own}
use Rattle.items.proofs.declarations.OneNumber.{two_declared}

pub some_mapped : {A B : Type 0} (f : A → B) (there : Option A) → is_some there ≡ is_some (option_map f there)
some_mapped f None = refl
some_mapped f (Some one) = refl

-- an object without linkage
pub object_again : (n : Numbering) (binding : Option Binding) (linked : Option Linked) (fixed : Bool) (t : TypeDeclared) (again : Bool)
    → again ≡ is_some binding → IsAgain (option_map (name_here_at n) binding) linked (ObjectGiven fixed t) again
object_again n binding linked fixed t again is = is ∙ some_mapped (name_here_at n) binding

-- a typedef
pub typedef_again : (n : Numbering) (context : Context) (binding : Option Binding) (linked : Option Linked) (t : DeclaredType) (again : Bool) → Agrees n context
    → IfSome binding (BindingBelow (length context.types) context.environment.signatures) → DeclaredBelow (length context.types) t
    → IsTypedefAgain binding t again → IsAgain (option_map (name_here_at n) binding) linked (TypeGiven (declared_type_at n t)) again
typedef_again n context None linked t again agrees below also is = is
typedef_again n context (Some (WithLinkage items)) linked t again agrees below also is = is
typedef_again n context (Some (Own (Typedef before))) linked t again agrees below also is = two_declared n context agrees before t again below also is
typedef_again n context (Some (Own (Object before token lifetime defined))) linked t again agrees below also is = is
typedef_again n context (Some (Own (Enumerator bits))) linked t again agrees below also is = is
typedef_again n context (Some (Own (Function signature defined built_in))) linked t again agrees below also is = is

-- what has linkage: where the scope says that the name stands for something else
pub own_again : (n : Numbering) (binding : Option Binding) (linked : Option Linked) (now : Linked) → is_own binding ≡ true
    → IsAgain (option_map (name_here_at n) binding) linked (LinkedGiven now) true
own_again n None linked now own = cc own
own_again n (Some (WithLinkage items)) linked now own = cc own
own_again n (Some (Own (Typedef before))) linked now own = refl
own_again n (Some (Own (Object before token lifetime defined))) linked now own = refl
own_again n (Some (Own (Enumerator bits))) linked now own = refl
own_again n (Some (Own (Function signature defined built_in))) linked now own = refl

-- and where it does not
pub other_again : (n : Numbering) (binding : Option Binding) (linked : Option Linked) (now : Linked) (other : Bool) → is_own binding ≡ false
    → IsOther linked now other → IsAgain (option_map (name_here_at n) binding) linked (LinkedGiven now) other
other_again n None linked now other own is = is
other_again n (Some (WithLinkage items)) linked now other own is = is
other_again n (Some (Own entity)) linked now other own is = cc own
