-- The name of an object: its sizes, what is found at it, and what stands behind it.
use Rattle.std.proofs.Common.{List, subst}
use Rattle.typing.specs.declared.size.Size.{Size}
use Rattle.items.specs.declarations.Given.{IsNameGiven}
use Rattle.items.proofs.declarations.DeclLevels.{sizes_within}
use Rattle.items.proofs.declarations.DeclaredNames.{sizes_stop, name_broken, name_initialised, sizes_grow, gives_of}
use Rattle.expressions.proofs.Growth.{below_grows}
use Rattle.items.proofs.declarations.objects.object_name.Goals as goal

pub declared_sizes-requires-clause-deep : goal.declared_sizes-requires-clause-deep
declared_sizes-requires-clause-deep g c = sizes_within c.args.name.now c.as_slice.result.now c.args.checker.now.depth c.as_slice.ensures c.requires.deep

pub returns-in-Refused : goal.returns-in-Refused
returns-in-Refused g c = sizes_stop c.args.checker.now.abi c.args.storage c.args.base c.args.name.now c.as_slice.result.now c.declared_sizes.new.found.items c.args.context.now c.declared_sizes.new.context c.in_ok-declared_sizes.field-0
    c.requires.params c.as_slice.ensures c.in_ok-declared_sizes.ensures c.in-Refused.fault c.in-Refused.is

pub give-requires : goal.give-requires
give-requires g c = below_grows c.args.context.now c.declared_sizes.new.context
    (sizes_grow c.args.checker.now.abi c.args.storage c.args.base c.args.name.now c.as_slice.result.now c.declared_sizes.new.found.items c.args.context.now c.declared_sizes.new.context c.in_ok-declared_sizes.field-0
    c.requires.params c.as_slice.ensures c.in_ok-declared_sizes.ensures c.in-Passes.field-0 c.in-Passes.is)
    c.args.base.ctype c.requires.base

pub initialised-requires-clause-below : goal.initialised-requires-clause-below
initialised-requires-clause-below g c = (gives_of c.args.checker.now.abi c.args.storage c.args.base c.args.name.now c.as_slice.result.now c.declared_sizes.new.found.items c.args.context.now c.declared_sizes.new.context c.in_ok-declared_sizes.field-0
    c.requires.params c.as_slice.ensures c.in_ok-declared_sizes.ensures c.give.new.context c.in-Passes-2.ctype c.in_ok-ctype.field-0 c.in-Passes-2.is
    (subst (λ (these : List Size). IsNameGiven c.args.checker.now.abi c.args.storage c.args.base c.args.name.now these c.declared_sizes.new.context c.give.new.context c.in_ok-ctype.field-0) c.deref.ensures.value (c.in_ok-ctype.ensures c.args.checker.now.abi))).below

pub returns-in-Passes-2 : goal.returns-in-Passes-2
returns-in-Passes-2 g c = name_initialised c.args.checker.now.abi c.args.storage c.args.base c.args.name.now c.as_slice.result.now c.declared_sizes.new.found.items c.args.context.now c.declared_sizes.new.context c.in_ok-declared_sizes.field-0
    c.requires.params c.as_slice.ensures c.in_ok-declared_sizes.ensures
    c.in-Passes.field-0 c.give.new.context c.initialised.new.context c.in-Passes-2.ctype c.in_ok-ctype.field-0 c.initialised.result c.in-Passes.is c.in-Passes-2.is
    (subst (λ (these : List Size). IsNameGiven c.args.checker.now.abi c.args.storage c.args.base c.args.name.now these c.declared_sizes.new.context c.give.new.context c.in_ok-ctype.field-0) c.deref.ensures.value (c.in_ok-ctype.ensures c.args.checker.now.abi)) c.initialised.ensures

pub returns : goal.returns
returns g c = name_broken c.args.checker.now.abi c.args.storage c.args.base c.args.name.now c.as_slice.result.now c.declared_sizes.new.found.items c.args.context.now c.declared_sizes.new.context c.in_ok-declared_sizes.field-0
    c.requires.params c.as_slice.ensures c.in_ok-declared_sizes.ensures
    c.in-Passes.field-0 c.give.new.context c.in-Refused-2.fault c.in_ok-ctype.field-0 c.in-Passes.is c.in-Refused-2.is
    (subst (λ (these : List Size). IsNameGiven c.args.checker.now.abi c.args.storage c.args.base c.args.name.now these c.declared_sizes.new.context c.give.new.context c.in_ok-ctype.field-0) c.deref.ensures.value (c.in_ok-ctype.ensures c.args.checker.now.abi))
