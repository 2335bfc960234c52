-- What is read where trees may have so many levels, as one value; and lists of what is read.
use Rattle.std.specs.Prelude.{ℕ, zero, suc, max, Bool, ◌&&◌, not, if◌then◌else◌, List, [], ◌∷◌, codes}
use Rattle.cbase.specs.declared.tree.expr.Expr.{Expr}
use Rattle.cbase.specs.declared.tree.init.Init.{Init}
use Rattle.cbase.specs.declared.tree.spec.TypeSpec.{TypeSpec}
use Rattle.cbase.specs.declared.tree.stmt.Stmt.{Stmt}
use Rattle.cgrammar.specs.Outcomes.{Outcome, Nothing, Stopped, Read, Reader, then_read, has_mark, behind_first}
use Rattle.cgrammar.specs.Terminals.{Terminal}
use Rattle.cgrammar.specs.declared.reading.operand.Operand.{Operand}

-- the readers of trees of at most `most` levels
pub record Level : Type 0 where
  pub most : ℕ
  pub cast : Reader Operand
  pub operation : ℕ → Reader Expr
  pub conditional : Reader Expr
  pub assignment : Reader Expr
  pub expression : Reader Expr
  pub specifier : Reader TypeSpec
  pub initializer : Reader Init
  pub clause : Reader Stmt
  pub statement : Reader Stmt
  pub item : Reader Stmt

abbrev pub read_nothing : {A : Type 0} → Reader A
read_nothing context row = Nothing

-- no tree has no level
abbrev pub no_level : Level
no_level = record {
  most = 0;
  cast = read_nothing;
  operation = λ loosest. read_nothing;
  conditional = read_nothing;
  assignment = read_nothing;
  expression = read_nothing;
  specifier = read_nothing;
  initializer = read_nothing;
  clause = read_nothing;
  statement = read_nothing;
  item = read_nothing;
}

-- a list with one more item before it
abbrev pub prepended : {A : Type 0} → A → ℕ → Outcome (List A) → Outcome (List A)
prepended tree levels Nothing = Nothing
prepended tree levels (Stopped trees expressions rest) = Nothing
prepended tree levels (Read trees others behind rest) = Read (tree ∷ trees) (max levels others) behind rest

-- Items with a comma between each and the next. A comma behind which the list is closed is none of them. Each takes a
-- token at least, so that there are no more of them than `count`.
unfoldable pub read_list : {A : Type 0} → (List Terminal → Bool) → Reader A → ℕ → Reader (List A)
read_list closes item zero context row = Nothing
read_list closes item (suc count) context row =
    then_read (item context row) (λ tree levels behind rest.
    if has_mark (codes ",") rest && not (closes (behind_first rest))
    then prepended tree levels (read_list closes item count behind (behind_first rest))
    else Read (tree ∷ []) levels behind rest)

-- items up to a `}`
unfoldable pub read_until_brace : {A : Type 0} → Reader A → ℕ → Reader (List A)
read_until_brace item zero context row = Nothing
read_until_brace item (suc count) context row =
    if has_mark (codes "}") row then Read [] 0 context row
    else then_read (item context row) (λ tree levels behind rest. prepended tree levels (read_until_brace item count behind rest))
