-- The sizes of a name, by its storage word.
use Rattle.std.proofs.Common.{◌≡◌, Bool, List, Option, sym, ap, subst, true, false, Result, IfOk}
use Rattle.cbase.specs.declared.abi.Abi.{Abi}
use Rattle.cbase.specs.declared.no_memory.NoMemory.{NoMemory}
use Rattle.cbase.specs.declared.tree.decl.Storage.{Storage}
use Rattle.cbase.specs.declared.tree.expr.Expr.{Expr}
use Rattle.typing.specs.declared.size.Size.{Size}
use Rattle.typing.specs.Declarations.{is_fixed_size}
use Rattle.typing.specs.Typing.{DeclaredSizesAre, SizesAre, MemberSizesAre, FixedSizes, AnySizes}
use Rattle.expressions.specs.declared.found.Found.{Found}
use Rattle.expressions.specs.Context.{Context}
use Rattle.expressions.specs.Found.{some_sizes}
use Rattle.expressions.specs.Walked.{Walked, Says}
use Rattle.items.proofs.declarations.DeclaredNames.{walked_by}
use Rattle.items.proofs.declarations.objects.declared_sizes.Goals as goal

any : (abi : Abi) (storage : Storage) (sizes : List (Option Expr)) (found : List Size) (old new : Context) (r : Result (Found (Unit {0})) NoMemory) → false ≡ is_fixed_size storage
    → IfOk r (λ told. Walked (Says abi (λ o. SizesAre sizes o)) (some_sizes found) old new told)
    → IfOk r (λ told. Walked (Says abi (λ o. DeclaredSizesAre (is_fixed_size storage) sizes o)) (some_sizes found) old new told)
any abi storage sizes found old new r is walked =
    subst (λ (fixed : Bool). IfOk r (λ told. Walked (Says abi (λ o. DeclaredSizesAre fixed sizes o)) (some_sizes found) old new told)) is
    (walked_by (Says abi (λ o. SizesAre sizes o)) (Says abi (λ o. DeclaredSizesAre false sizes o)) (some_sizes found) old new r (λ n outcome there. AnySizes there) walked)

fixed : (abi : Abi) (storage : Storage) (sizes : List (Option Expr)) (found : List Size) (old new : Context) (r : Result (Found (Unit {0})) NoMemory) → true ≡ is_fixed_size storage
    → IfOk r (λ told. Walked (Says abi (λ o. MemberSizesAre sizes o)) (some_sizes found) old new told)
    → IfOk r (λ told. Walked (Says abi (λ o. DeclaredSizesAre (is_fixed_size storage) sizes o)) (some_sizes found) old new told)
fixed abi storage sizes found old new r is walked =
    subst (λ (constants : Bool). IfOk r (λ told. Walked (Says abi (λ o. DeclaredSizesAre constants sizes o)) (some_sizes found) old new told)) is
    (walked_by (Says abi (λ o. MemberSizesAre sizes o)) (Says abi (λ o. DeclaredSizesAre true sizes o)) (some_sizes found) old new r (λ n outcome there. FixedSizes there) walked)

pub returns-in-Plain : goal.returns-in-Plain
returns-in-Plain g c = any c.args.checker.now.abi c.args.storage c.args.sizes.now c.sizes.new.found.items c.args.context.now c.sizes.new.context c.sizes.result (sym (ap is_fixed_size c.in-Plain.is)) c.sizes.ensures

pub returns-in-Typedef : goal.returns-in-Typedef
returns-in-Typedef g c = any c.args.checker.now.abi c.args.storage c.args.sizes.now c.sizes-in-Typedef.new.found.items c.args.context.now c.sizes-in-Typedef.new.context c.sizes-in-Typedef.result (sym (ap is_fixed_size c.in-Typedef.is)) c.sizes-in-Typedef.ensures

pub returns-in-Extern : goal.returns-in-Extern
returns-in-Extern g c = fixed c.args.checker.now.abi c.args.storage c.args.sizes.now c.member_sizes.new.found.items c.args.context.now c.member_sizes.new.context c.member_sizes.result (sym (ap is_fixed_size c.in-Extern.is)) c.member_sizes.ensures

pub returns-in-Static : goal.returns-in-Static
returns-in-Static g c = fixed c.args.checker.now.abi c.args.storage c.args.sizes.now c.member_sizes-in-Static.new.found.items c.args.context.now c.member_sizes-in-Static.new.context c.member_sizes-in-Static.result (sym (ap is_fixed_size c.in-Static.is)) c.member_sizes-in-Static.ensures
