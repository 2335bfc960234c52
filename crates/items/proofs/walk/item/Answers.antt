-- An item, by its form.
use Rattle.cbase.specs.declared.tree.item.Item.TheVariants.{Declare, Function}
use Rattle.items.proofs.ItemLevels.{declare_within, words_within, head_within, body_within}
use Rattle.items.proofs.Items.{empty_as, item_as}
use Rattle.items.proofs.walk.item.Goals as goal

pub returns-in-Empty : goal.returns-in-Empty
returns-in-Empty g c = empty_as c.args.checker.now.abi c.args.place c.args.item.now c.args.context.now c.in-Empty.is

pub declared-requires-clause-deep : goal.declared-requires-clause-deep
declared-requires-clause-deep g c = declare_within c.args.item.now c.in-Declare.decl c.args.checker.now.depth c.in-Declare.is c.requires.deep

pub returns-in-Declare : goal.returns-in-Declare
returns-in-Declare g c = item_as c.args.checker.now.abi c.args.place c.args.item.now (Declare c.in-Declare.decl) c.args.context.now c.declared.new.context c.declared.result c.in-Declare.is c.declared.ensures

pub function-requires-clause-words : goal.function-requires-clause-words
function-requires-clause-words g c = words_within c.args.item.now c.in-Function.spec c.in-Function.storage c.in-Function.head c.in-Function.body c.in-Function.close c.args.checker.now.depth c.in-Function.is c.requires.deep

pub function-requires-clause-head : goal.function-requires-clause-head
function-requires-clause-head g c = head_within c.args.item.now c.in-Function.spec c.in-Function.storage c.in-Function.head c.in-Function.body c.in-Function.close c.args.checker.now.depth c.in-Function.is c.requires.deep

pub function-requires-clause-body : goal.function-requires-clause-body
function-requires-clause-body g c = body_within c.args.item.now c.in-Function.spec c.in-Function.storage c.in-Function.head c.in-Function.body c.in-Function.close c.args.checker.now.depth c.in-Function.is c.requires.deep

pub returns-in-Function : goal.returns-in-Function
returns-in-Function g c = item_as c.args.checker.now.abi c.args.place c.args.item.now (Function c.in-Function.spec c.in-Function.storage c.in-Function.head c.in-Function.body c.in-Function.close) c.args.context.now c.function.new.context c.function.result
    c.in-Function.is (c.function.ensures c.args.place c.in-Function.close)
