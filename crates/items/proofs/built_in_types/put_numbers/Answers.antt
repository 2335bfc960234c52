-- The numbers of the types of parameters, one behind the other.
use Rattle.std.proofs.Common.{[], ◌∷◌, OnOk, sym, subst}
use Rattle.items.specs.declared.built_in_types.Parameters.{Parameters}
use Rattle.items.specs.Begun.{AreNumbers, type_in, types_in}
use Rattle.items.proofs.BuiltIns.{first_number, last_number, one_more_number}
use Rattle.items.proofs.built_in_types.put_numbers.Goals as goal

pub returns-in_ok-put_number-in-Two : goal.returns-in_ok-put_number-in-Two
returns-in_ok-put_number-in-Two c =
    subst (λ (params : Parameters). OnOk c.put_number-in-Two-2.result (AreNumbers (types_in c.args.abi params) c.args.context.now c.put_number-in-Two-2.new.context c.put_number-in-Two-2.new.numbers)) (sym c.in-Two.is)
    (last_number (type_in c.args.abi c.in-Two.first ∷ []) (type_in c.args.abi c.in-Two.second) c.args.context.now c.put_number-in-Two.new.context c.put_number-in-Two-2.new.context c.put_number-in-Two.new.numbers c.put_number-in-Two-2.new.numbers
    c.put_number-in-Two-2.result (first_number (type_in c.args.abi c.in-Two.first) c.args.context.now c.put_number-in-Two.new.context c.args.numbers.now c.put_number-in-Two.new.numbers c.requires c.in_ok-put_number-in-Two.ensures)
    c.put_number-in-Two-2.ensures)

pub returns-in_ok-put_number-in-Three-2 : goal.returns-in_ok-put_number-in-Three-2
returns-in_ok-put_number-in-Three-2 c =
    subst (λ (params : Parameters). OnOk c.put_number-in-Three-3.result (AreNumbers (types_in c.args.abi params) c.args.context.now c.put_number-in-Three-3.new.context c.put_number-in-Three-3.new.numbers)) (sym c.in-Three.is)
    (last_number (type_in c.args.abi c.in-Three.first ∷ type_in c.args.abi c.in-Three.second ∷ []) (type_in c.args.abi c.in-Three.third)
    c.args.context.now c.put_number-in-Three-2.new.context c.put_number-in-Three-3.new.context c.put_number-in-Three-2.new.numbers c.put_number-in-Three-3.new.numbers c.put_number-in-Three-3.result
    (one_more_number (type_in c.args.abi c.in-Three.first ∷ []) (type_in c.args.abi c.in-Three.second)
    c.args.context.now c.put_number-in-Three.new.context c.put_number-in-Three-2.new.context c.put_number-in-Three.new.numbers c.put_number-in-Three-2.new.numbers
    (first_number (type_in c.args.abi c.in-Three.first) c.args.context.now c.put_number-in-Three.new.context c.args.numbers.now c.put_number-in-Three.new.numbers c.requires c.in_ok-put_number-in-Three.ensures)
    c.in_ok-put_number-in-Three-2.ensures) c.put_number-in-Three-3.ensures)
