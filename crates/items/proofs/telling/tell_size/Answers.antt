-- An array whose size its initialiser tells.
use Rattle.std.proofs.Common.{Option, refl, subst}
use Rattle.typing.specs.declared.fault.Fault.{Fault}
use Rattle.items.specs.Objects.{IsArrayAsked}
use Rattle.items.proofs.TellingSizes.{array_told}
use Rattle.items.proofs.telling.tell_size.Goals as goal

pub returns-in-Some : goal.returns-in-Some
returns-in-Some c abi = (refl, λ n item agrees meant. subst (λ (first : Option Fault). IsArrayAsked abi c.args.name.now c.args.count item n c.args.context.now first) c.in-Some.is (c.array_fault.ensures abi n item agrees meant))

pub returns : goal.returns
returns c abi = array_told abi c.args.name.now c.args.listed c.args.ctype c.args.count c.args.context.now c.declare_name.new.context c.hand_static.new.context c.as_slice.result.now c.array_fault.result c.in_default.is
    (λ n item agrees meant. c.array_fault.ensures abi n item agrees meant) c.as_slice.ensures c.in_ok-declare_name.ensures.bound (λ n agrees. c.in_ok-declare_name.ensures.declared n abi agrees) c.in_ok-hand_static.ensures
