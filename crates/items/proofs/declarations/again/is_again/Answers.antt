-- Whether a name is declared twice, by its storage word.
use Rattle.std.proofs.Common.{Bool, Option, true, false, sym, ◌∙◌, subst}
use Rattle.std.specs.Prelude.{option_map, option_and_then}
use Rattle.cbase.specs.declared.tree.decl.Storage.{Storage}
use Rattle.typing.specs.declared.environment.entity.Binding.{Binding}
use Rattle.typing.specs.declared.environment.entity.Linked.{Linked as LinkedByNumber}
use Rattle.typing.specs.environment.Scopes.{found_here}
use Rattle.typing.specs.Declarations.{IsAgain, IsOther, LinkedGiven, TypeGiven, given}
use Rattle.typing.specs.Entities.{ObjectLinked}
use Rattle.expressions.specs.Numbers.{declared_type_at, linked_at, name_here_at}
use Rattle.items.specs.declarations.Given.{here_at, linked_now}
use Rattle.items.proofs.declarations.AgainOrNot.{object_again, typedef_again, own_again, other_again}
use Rattle.items.proofs.declarations.again.is_again.Goals as goal

pub returns-in-Plain : goal.returns-in-Plain
returns-in-Plain c = λ n agrees. subst (λ (s : Storage). IsAgain (here_at n c.args.context.now c.args.name.now) (linked_now n c.args.context.now c.args.name.now) (given s (declared_type_at n c.args.ctype)) c.is_declared_here.result) (sym c.in-Plain.is)
    (object_again n (found_here c.args.name.now c.args.context.now.environment.names) (linked_now n c.args.context.now c.args.name.now) false (declared_type_at n c.args.ctype) c.is_declared_here.result c.is_declared_here.ensures)

pub returns-in-Static : goal.returns-in-Static
returns-in-Static c = λ n agrees. subst (λ (s : Storage). IsAgain (here_at n c.args.context.now c.args.name.now) (linked_now n c.args.context.now c.args.name.now) (given s (declared_type_at n c.args.ctype)) c.is_declared_here-in-Static.result) (sym c.in-Static.is)
    (object_again n (found_here c.args.name.now c.args.context.now.environment.names) (linked_now n c.args.context.now c.args.name.now) true (declared_type_at n c.args.ctype) c.is_declared_here-in-Static.result c.is_declared_here-in-Static.ensures)

pub returns-in-Typedef : goal.returns-in-Typedef
returns-in-Typedef c = λ n agrees. subst (λ (s : Storage). IsAgain (here_at n c.args.context.now c.args.name.now) (linked_now n c.args.context.now c.args.name.now) (given s (declared_type_at n c.args.ctype)) c.is_typedef_again.result) (sym c.in-Typedef.is)
    (subst (λ (b : Option Binding). IsAgain (option_map (name_here_at n) b) (linked_now n c.args.context.now c.args.name.now) (TypeGiven (declared_type_at n c.args.ctype)) c.is_typedef_again.result) c.binding_here.ensures.is
    (typedef_again n c.args.context.now c.binding_here.result (linked_now n c.args.context.now c.args.name.now) c.args.ctype c.is_typedef_again.result agrees c.binding_here.ensures.below c.requires c.is_typedef_again.ensures))

pub returns-then-own : goal.returns-then-own
returns-then-own c = λ n agrees. subst (λ (s : Storage). IsAgain (here_at n c.args.context.now c.args.name.now) (linked_now n c.args.context.now c.args.name.now) (given s (declared_type_at n c.args.ctype)) c.is_own-own.result) (sym c.in-Extern.is)
    (subst (λ (b : Option Binding). IsAgain (option_map (name_here_at n) b) (linked_now n c.args.context.now c.args.name.now) (LinkedGiven (ObjectLinked (declared_type_at n c.args.ctype))) c.is_own-own.result) c.binding_here-in-Extern.ensures.is
    (subst (λ (again : Bool). IsAgain (option_map (name_here_at n) c.binding_here-in-Extern.result) (linked_now n c.args.context.now c.args.name.now) (LinkedGiven (ObjectLinked (declared_type_at n c.args.ctype))) again) (sym c.if-own.true)
    (own_again n c.binding_here-in-Extern.result (linked_now n c.args.context.now c.args.name.now) (ObjectLinked (declared_type_at n c.args.ctype)) (sym c.is_own-own.ensures ∙ c.if-own.true))))

pub returns-else-own : goal.returns-else-own
returns-else-own c = λ n agrees. subst (λ (s : Storage). IsAgain (here_at n c.args.context.now c.args.name.now) (linked_now n c.args.context.now c.args.name.now) (given s (declared_type_at n c.args.ctype)) c.is_other.result) (sym c.in-Extern.is)
    (subst (λ (b : Option Binding). IsAgain (option_map (name_here_at n) b) (linked_now n c.args.context.now c.args.name.now) (LinkedGiven (ObjectLinked (declared_type_at n c.args.ctype))) c.is_other.result) c.binding_here-in-Extern.ensures.is
    (other_again n c.binding_here-in-Extern.result (linked_now n c.args.context.now c.args.name.now) (ObjectLinked (declared_type_at n c.args.ctype)) c.is_other.result (sym c.is_own-own.ensures ∙ c.if-own.false)
    (subst (λ (linked : Option LinkedByNumber). IsOther (option_and_then (linked_at n) linked) (ObjectLinked (declared_type_at n c.args.ctype)) c.is_other.result) c.linked.ensures.is (c.is_other.ensures n agrees))))
