-- A declaration outside of functions: without names, or its words and its names.
use Rattle.cbase.specs.declared.tree.expr.ExprForm.TheViews.{out-Decl}
use Rattle.items.proofs.declarations.DeclLevels.{words_within, names_within}
use Rattle.items.proofs.Items.{nameless, names_walked, words_below, words_stop}
use Rattle.items.proofs.walk.declared.Goals as goal

pub returns-then-is_empty : goal.returns-then-is_empty
returns-then-is_empty g c = nameless c.args.checker.now.abi c.args.place c.args.decl.now c.args.context.now c.declaration.new.context c.declaration.result (c.is_empty.ensures.0 c.if-is_empty.true) c.declaration.ensures

pub words-requires-clause-deep : goal.words-requires-clause-deep
words-requires-clause-deep g c = words_within c.args.decl.now c.args.checker.now.depth c.requires.deep

pub names-requires-clause-deep : goal.names-requires-clause-deep
names-requires-clause-deep g c = names_within c.args.decl.now c.as_slice.result.now c.args.checker.now.depth c.as_slice.ensures c.requires.deep

pub names-requires-clause-base : goal.names-requires-clause-base
names-requires-clause-base g c = words_below c.args.checker.now.abi (out-Decl c.args.decl.now).spec c.args.context.now c.words.new.context c.in_ok-base.field-0 c.in-Passes.base c.in-Passes.is c.in_ok-base.ensures

pub returns-in-Passes : goal.returns-in-Passes
returns-in-Passes g c = names_walked c.args.checker.now.abi c.args.place c.args.decl.now c.args.context.now c.words.new.context c.in_ok-base.field-0
    (λ empty. cc (c.is_empty.ensures.1 empty, c.if-is_empty.false)) c.in_ok-base.ensures c.in-Passes.base c.in-Passes.is c.names.new.context c.as_slice.result.now c.names.result c.as_slice.ensures c.names.ensures

pub returns-in-Refused : goal.returns-in-Refused
returns-in-Refused g c = words_stop c.args.checker.now.abi c.args.place c.args.decl.now c.args.context.now c.words.new.context c.in_ok-base.field-0
    (λ empty. cc (c.is_empty.ensures.1 empty, c.if-is_empty.false)) c.in_ok-base.ensures c.in-Refused.fault c.in-Refused.is
