-- What is found of the type of a name.
use Rattle.std.proofs.Common.{◌≡◌, ap, ◌∙◌}
use Rattle.typing.specs.Declarations.{if_large}
use Rattle.typing.specs.Faults.{least}
use Rattle.typing.specs.NamedTypes.{declared_type, is_large, with_sizes}
use Rattle.expressions.specs.Numbers.{named_at}
use Rattle.expressions.proofs.Growth.{agrees_before_types, only_types_trans}
use Rattle.items.proofs.declarations.types.found_of_name.Goals as goal

pub returns : goal.returns
returns c abi =
    let first = c.in_ok-pointer.ensures in
    let second = c.in_ok-whole.ensures in
    record {
      only_types = only_types_trans c.args.context.now c.pointers_to.new.context c.arrays_of.new.context first.only_types second.only_types;
      meant = λ n agrees.
          let sizes = c.args.sizes.now in
          let typed : n.ctype c.in_ok-whole.whole ≡ declared_type (named_at n c.args.base) c.args.stars sizes =
          second.meant n agrees ∙ ap (with_sizes sizes) (first.meant n (agrees_before_types c.pointers_to.new.context c.arrays_of.new.context n second.only_types agrees)) in
          let structs = second.only_types.structs ∙ first.only_types.structs in
          let size : c.is_large.result ≡ is_large abi c.args.context.now.structs (declared_type (named_at n c.args.base) c.args.stars sizes) =
          c.is_large.ensures n abi agrees ∙ (λ i. is_large abi (structs i) (typed i)) in
          c.least-2.ensures ∙ ap (least c.args.base.found) (c.least.ensures ∙ (λ i. least (c.found_in_sizes.ensures i) ((c.if_large-large.ensures ∙ ap if_large size) i)));
    }
