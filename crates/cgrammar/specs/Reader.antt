-- The reader of expressions, types and statements of at most so many levels, as one recursion over the levels.
use Rattle.std.specs.Prelude.{ℕ, zero, suc, ◌+◌}
use Rattle.cgrammar.specs.Outcomes.{continued}
use Rattle.cgrammar.specs.ReadDeclarations.{read_initializer}
use Rattle.cgrammar.specs.ReadLevels.{Level, no_level}
use Rattle.cgrammar.specs.ReadOperands.{read_cast}
use Rattle.cgrammar.specs.ReadOperators.{expr_of, operations_from, conditional_from, assignment_from, expression_from}
use Rattle.cgrammar.specs.ReadStatements.{read_clause, read_statement, read_item}
use Rattle.cgrammar.specs.ReadTypes.{read_specifier}

-- one level more than the inner one
abbrev pub level_above : Level → Level
level_above inner = record {
  most = inner.most + 1;
  cast = read_cast inner;
  operation = λ loosest context row. continued (read_cast inner context row) expr_of (operations_from inner loosest);
  conditional = λ context row. continued (read_cast inner context row) expr_of (conditional_from inner);
  assignment = λ context row. continued (read_cast inner context row) expr_of (assignment_from inner);
  expression = λ context row. continued (read_cast inner context row) expr_of (expression_from inner);
  specifier = read_specifier inner;
  initializer = read_initializer inner;
  clause = read_clause inner;
  statement = read_statement inner;
  item = read_item inner;
}

-- the readers of trees of at most so many levels
abbrev pub level : ℕ → Level
level zero = no_level
level (suc most) = level_above (level most)
