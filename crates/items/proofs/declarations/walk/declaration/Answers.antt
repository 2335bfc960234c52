-- A declaration: a tag alone, or its words and the names behind them.
use Rattle.items.proofs.declarations.DeclLevels.{words_within, names_within}
use Rattle.items.proofs.declarations.Words.{tag_walked, words_stop, words_pass, nothing_declared, names_walked}
use Rattle.items.proofs.declarations.walk.declaration.Goals as goal

pub returns-in-Some : goal.returns-in-Some
returns-in-Some g c = tag_walked c.args.checker.now.abi c.args.place c.args.decl.now c.in-Some.tag.now c.args.context.now c.declare_alone.new.context c.declare_alone.result c.in-Some.ensures.some (c.declare_alone.ensures c.args.checker.now.abi)

pub words-requires-clause-deep : goal.words-requires-clause-deep
words-requires-clause-deep g c = words_within c.args.decl.now c.args.checker.now.depth c.requires.deep

pub returns-in-Refused : goal.returns-in-Refused
returns-in-Refused g c = words_stop c.args.checker.now.abi c.args.place c.args.decl.now c.args.context.now c.words.new.context c.in_ok-base.field-0 c.in_default.ensures.none c.in_ok-base.ensures c.in-Refused.fault c.in-Refused.is

pub returns-then-is_empty : goal.returns-then-is_empty
returns-then-is_empty g c = nothing_declared c.args.checker.now.abi c.args.place c.args.decl.now c.args.context.now c.words.new.context c.in_ok-base.field-0 c.in_default.ensures.none c.in_ok-base.ensures c.in-Passes.base c.in-Passes.is
    c.nothing_declared.result (c.is_empty.ensures.0 c.if-is_empty.true) c.nothing_declared.ensures

pub names-requires-clause-deep : goal.names-requires-clause-deep
names-requires-clause-deep g c = names_within c.args.decl.now c.as_slice.result.now c.args.checker.now.depth c.as_slice.ensures c.requires.deep

pub names-requires-clause-base : goal.names-requires-clause-base
names-requires-clause-base g c =
    (words_pass c.args.checker.now.abi c.args.place c.args.decl.now c.args.context.now c.words.new.context c.in_ok-base.field-0 c.in_default.ensures.none c.in_ok-base.ensures c.in-Passes.base c.in-Passes.is).below

pub returns : goal.returns
returns g c = names_walked c.args.checker.now.abi c.args.place c.args.decl.now c.args.context.now c.words.new.context c.in_ok-base.field-0 c.in_default.ensures.none c.in_ok-base.ensures c.in-Passes.base c.in-Passes.is
    c.names.new.context c.as_slice.result.now c.names.result c.as_slice.ensures (λ empty. cc (c.is_empty.ensures.1 empty, c.if-is_empty.false)) c.names.ensures
