-- The name of an object outside of functions: its sizes, what is found at it, and what stands behind it.
use Rattle.std.proofs.Common.{List, subst}
use Rattle.typing.specs.declared.size.Size.{Size}
use Rattle.items.proofs.declarations.DeclLevels.{sizes_within}
use Rattle.expressions.proofs.Growth.{below_grows}
use Rattle.items.specs.Objects.{IsObjectGiven}
use Rattle.items.proofs.ObjectNames.{sizes_stop, sizes_grow, name_broken, gives_of, object_initialised}
use Rattle.items.proofs.objects.object.Goals as goal

pub member_sizes-requires-clause-deep : goal.member_sizes-requires-clause-deep
member_sizes-requires-clause-deep g c = sizes_within c.args.name.now c.as_slice.result.now c.args.checker.now.depth c.as_slice.ensures c.requires.deep

pub returns-in-Refused : goal.returns-in-Refused
returns-in-Refused g c = sizes_stop c.args.checker.now.abi c.args.storage c.args.base c.args.name.now c.as_slice.result.now c.member_sizes.new.found.items c.args.context.now c.member_sizes.new.context c.in_ok-member_sizes.field-0
    c.requires.params c.requires.object c.as_slice.ensures c.in_ok-member_sizes.ensures c.in-Refused.fault c.in-Refused.is

pub give-requires : goal.give-requires
give-requires g c = below_grows c.args.context.now c.member_sizes.new.context
    (sizes_grow c.args.checker.now.abi c.args.storage c.args.base c.args.name.now c.as_slice.result.now c.member_sizes.new.found.items c.args.context.now c.member_sizes.new.context c.in_ok-member_sizes.field-0
    c.requires.params c.requires.object c.as_slice.ensures c.in_ok-member_sizes.ensures c.in-Passes.field-0 c.in-Passes.is)
    c.args.base.ctype c.requires.base

pub initialised-requires-clause-below : goal.initialised-requires-clause-below
initialised-requires-clause-below g c = (gives_of c.args.checker.now.abi c.args.storage c.args.base c.args.name.now c.as_slice.result.now c.member_sizes.new.found.items c.args.context.now c.member_sizes.new.context c.in_ok-member_sizes.field-0
    c.requires.params c.requires.object c.as_slice.ensures c.in_ok-member_sizes.ensures c.in-Passes.field-0 c.in-Passes.is c.give.new.context c.in-Passes-2.object c.in_ok-object.field-0 c.in-Passes-2.is
    (subst (λ (these : List Size). IsObjectGiven c.args.checker.now.abi c.args.storage c.args.base c.args.name.now these c.member_sizes.new.context c.give.new.context c.in_ok-object.field-0) c.deref.ensures.value (c.in_ok-object.ensures c.args.checker.now.abi))).below

pub returns-in-Passes-2 : goal.returns-in-Passes-2
returns-in-Passes-2 g c = object_initialised c.args.checker.now.abi c.args.storage c.args.base c.args.name.now c.as_slice.result.now c.member_sizes.new.found.items c.args.context.now c.member_sizes.new.context c.in_ok-member_sizes.field-0
    c.requires.params c.requires.object c.as_slice.ensures c.in_ok-member_sizes.ensures
    c.in-Passes.field-0 c.in-Passes.is c.give.new.context c.initialised.new.context c.in-Passes-2.object c.is_listed-listed.result c.in_ok-object.field-0 c.initialised.result c.in-Passes-2.is
    (subst (λ (these : List Size). IsObjectGiven c.args.checker.now.abi c.args.storage c.args.base c.args.name.now these c.member_sizes.new.context c.give.new.context c.in_ok-object.field-0) c.deref.ensures.value (c.in_ok-object.ensures c.args.checker.now.abi))
    c.is_listed-listed.ensures c.initialised.ensures

pub returns : goal.returns
returns g c = name_broken c.args.checker.now.abi c.args.storage c.args.base c.args.name.now c.as_slice.result.now c.member_sizes.new.found.items c.args.context.now c.member_sizes.new.context c.in_ok-member_sizes.field-0
    c.requires.params c.requires.object c.as_slice.ensures c.in_ok-member_sizes.ensures
    c.in-Passes.field-0 c.in-Passes.is c.give.new.context c.in-Refused-2.fault c.in_ok-object.field-0 c.in-Refused-2.is
    (subst (λ (these : List Size). IsObjectGiven c.args.checker.now.abi c.args.storage c.args.base c.args.name.now these c.member_sizes.new.context c.give.new.context c.in_ok-object.field-0) c.deref.ensures.value (c.in_ok-object.ensures c.args.checker.now.abi))
