-- A constant of an enum passes with the type int.
use Rattle.std.proofs.Common.{None, Some, false, nat_eq, refl}
use Rattle.typing.specs.declared.environment.entity.Entity.TheVariants.{Enumerator}
use Rattle.typing.specs.declared.idiom.Idiom.TheVariants.{Outside}
use Rattle.typing.specs.Nodes.{enumerator_known}
use Rattle.expressions.specs.declared.known.Known.{Known}
use Rattle.expressions.proofs.Judging.{each_settled}
use Rattle.expressions.proofs.nodes.names.enumerator_node.Goals as goal

pub returns-in-Ok : goal.returns-in-Ok
returns-in-Ok c =
    let known : Known = record {
      ctype = c.in-Ok.ctype;
      lvalue = false;
      null = nat_eq c.args.bits 0;
      value = Some c.from.result;
      idiom = Outside;
      stands = Some (Enumerator c.args.bits);
    } in
    each_settled c.pass.result _ _ None known _ _ _ _ c.in-Ok.ensures.only_types (λ n agrees. refl)
    (λ n agrees i. record (enumerator_known c.args.bits) { ctype = c.in-Ok.ensures.meant n agrees i; value = Some (c.from.ensures i) })
    c.pass.ensures
