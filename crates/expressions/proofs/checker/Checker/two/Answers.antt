use Rattle.std.proofs.Common.{refl, [], ◌∷◌}
use Rattle.typing.specs.Pieces.{Loaded}
use Rattle.expressions.specs.Found.{an_operand, one_operand, two_operands}
use Rattle.expressions.proofs.Growth.{below_grows}
use Rattle.expressions.proofs.Several.{loaded_alone, pieces_refused, then_passes, then_refused}
use Rattle.expressions.proofs.checker.Checker.two.Goals as goal

pub returns-in-Ok-Refused : goal.returns-in-Ok-Refused
returns-in-Ok-Refused g c = pieces_refused c.args.self.now.abi (Loaded c.args.left.now) (Loaded c.args.right.now ∷ []) an_operand c.args.context.now c.loaded.new.context c.in-Ok-Refused.fault c.in-Ok-Refused.field-0 c.in-Ok-Refused.field-0-is c.in-Ok-Refused.ensures

pub returns-in-Ok-Passes-loaded : goal.returns-in-Ok-Passes-loaded
returns-in-Ok-Passes-loaded g c = then_passes c.args.self.now.abi (Loaded c.args.left.now) (Loaded c.args.right.now ∷ []) an_operand one_operand two_operands
    c.args.context.now c.loaded.new.context c.loaded-2.new.context c.in-Ok-Passes.known c.in-Ok-Passes-loaded.b (c.in-Ok-Passes.known, c.in-Ok-Passes-loaded.b) c.in-Ok-Passes.field-0 c.in-Ok-Passes-loaded.field-0
    c.in-Ok-Passes.field-0-is c.in-Ok-Passes.ensures c.in-Ok-Passes-loaded.field-0-is (loaded_alone c.args.self.now.abi c.args.right.now c.loaded.new.context c.loaded-2.new.context c.in-Ok-Passes-loaded.field-0 c.in-Ok-Passes-loaded.ensures) (λ n. refl)
    (λ grows first second. (below_grows c.loaded.new.context c.loaded-2.new.context grows c.in-Ok-Passes.known.ctype first, second))

pub returns-in-Ok-Refused-loaded : goal.returns-in-Ok-Refused-loaded
returns-in-Ok-Refused-loaded g c = then_refused c.args.self.now.abi (Loaded c.args.left.now) (Loaded c.args.right.now ∷ []) an_operand one_operand
    c.args.context.now c.loaded.new.context c.loaded-2.new.context c.in-Ok-Passes.known c.in-Ok-Refused-loaded.fault c.in-Ok-Passes.field-0 c.in-Ok-Refused-loaded.field-0
    c.in-Ok-Passes.field-0-is c.in-Ok-Passes.ensures c.in-Ok-Refused-loaded.field-0-is (loaded_alone c.args.self.now.abi c.args.right.now c.loaded.new.context c.loaded-2.new.context c.in-Ok-Refused-loaded.field-0 c.in-Ok-Refused-loaded.ensures)

pub loaded-requires-clause-nests : goal.loaded-requires-clause-nests
loaded-requires-clause-nests g c = c.requires.nests

pub loaded-requires-clause-deep : goal.loaded-requires-clause-deep
loaded-requires-clause-deep g c = c.requires.left

pub loaded-requires-2-clause-nests : goal.loaded-requires-2-clause-nests
loaded-requires-2-clause-nests g c = c.requires.nests

pub loaded-requires-2-clause-deep : goal.loaded-requires-2-clause-deep
loaded-requires-2-clause-deep g c = c.requires.right
