-- A function is another one where its types are others.
use Rattle.items.proofs.parameters.OtherFunctions.{other_function}
use Rattle.items.proofs.parameters.linking.is_other.Goals as goal

pub returns-in-Function : goal.returns-in-Function
returns-in-Function c = other_function c.args.context.now c.args.linked c.in-Some.linked c.in-Function.signature c.in-Function.defined c.in-Function.built_in c.signature.result.now c.args.result_type c.args.params.now c.is_same.result
    c.in-Some.is c.in-Function.is c.signature.ensures.is c.signature.ensures.below c.requires.of c.requires.params c.is_same.ensures.same c.is_same.ensures.other
