-- The reader of expressions, types and statements of at most so many levels, as what it does: one recursion over the
-- levels.
use Rattle.std.specs.Prelude.{ℕ, zero, suc}
use Rattle.cparser.specs.DeclarationSteps.{initializer}
use Rattle.cparser.specs.OperandSteps.{cast}
use Rattle.cparser.specs.OperatorSteps.{all_operations, conditional_from, assignment_from, expression_from}
use Rattle.cparser.specs.State.{State, lost}
use Rattle.cparser.specs.StatementSteps.{clause, statement, item}
use Rattle.cparser.specs.Steps.{Inner}
use Rattle.cparser.specs.TypeSteps.{specifier}
use Rattle.cparser.specs.declared.wanted.Wanted.{Wanted}
use Rattle.cparser.specs.declared.wanted.Wanted.TheVariants as wanted

-- what is wanted of one kind, of which what stands in it is read by the readers `inner`
abbrev pub reads_with : Inner → Wanted → State → State
reads_with inner wanted.Cast s = cast inner s
reads_with inner (wanted.Operation loosest) s = all_operations inner loosest (cast inner s)
reads_with inner wanted.Conditional s = conditional_from inner (cast inner s)
reads_with inner wanted.Assignment s = assignment_from inner (cast inner s)
reads_with inner wanted.Expression s = expression_from inner (cast inner s)
reads_with inner wanted.Specifier s = specifier inner s
reads_with inner wanted.Initializer s = initializer inner s
reads_with inner wanted.Clause s = clause inner s
reads_with inner wanted.Statement s = statement inner s
reads_with inner wanted.Item s = item inner s

-- the readers of trees of at most so many levels
unfoldable pub reads : ℕ → Wanted → State → State
reads zero wanted s = lost s
reads (suc most) wanted s = reads_with (record { most = most; reads = reads most }) wanted s

-- the readers of what stands in a tree, which has at most so many levels
abbrev pub inner_at : ℕ → Inner
inner_at most = record { most = most; reads = reads most }
