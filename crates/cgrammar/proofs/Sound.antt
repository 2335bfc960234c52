-- The reader is sound: what it reads is spelled by the tokens that it took.
use Rattle.std.proofs.Common.{◌≡◌, ℕ, zero, suc, List, map, refl, subst, arith}
use Rattle.cbase.specs.declared.tree.expr.Expr.{Expr}
use Rattle.ctrees.specs.Weight.{joined}
use Rattle.ctrees.specs.Levels.{depth, expr_levels, init_levels, spec_levels, stmt_levels}
use Rattle.cgrammar.proofs.Reached.{IsSound, operand_phrase, operand_levels}
use Rattle.cgrammar.proofs.SoundDeclarations.{sound_initializer}
use Rattle.cgrammar.proofs.SoundOperands.{sound_cast}
use Rattle.cgrammar.proofs.SoundOperators.{operand_cast, held_as, sound_operations_from, sound_conditional_from, sound_assignment_from, sound_expression_from}
use Rattle.cgrammar.proofs.SoundSays.{spelled_as, spelled_before, says_operation, says_statement, says_item, SoundLevel}
use Rattle.cgrammar.proofs.SoundStatements.{sound_clause, sound_statement, sound_item, sound_block as sound_block_of}
use Rattle.cgrammar.proofs.SoundSteps.{Sound, sound_nothing, sound_continued}
use Rattle.cgrammar.proofs.SoundTypes.{sound_specifier}
use Rattle.cgrammar.specs.Grammar.{OneAssignment, OneConditional, OneOperation, OneCast}
use Rattle.cgrammar.specs.Outcomes.{Outcome, Nothing, Stopped, Read}
use Rattle.cgrammar.specs.Phrases.{Phrase, Context}
use Rattle.cgrammar.specs.Phrases.{Expression, Assignment, Conditional, Operation, TypeSpecifier, Initializer, FirstClause, CompoundStatement}
use Rattle.cgrammar.specs.ReadLevels.{Level}
use Rattle.cgrammar.specs.ReadOperands.{read_cast}
use Rattle.cgrammar.specs.ReadStatements.{read_block}
use Rattle.cgrammar.specs.Reader.{level, level_above}
use Rattle.cgrammar.specs.Terminals.{Terminal}

sound_above : (inner : Level) → SoundLevel inner → SoundLevel (level_above inner)
sound_above inner is = record {
  cast = sound_cast inner is;
  operation = λ loosest context row. sound_continued (read_cast inner context row) _ _ (sound_cast inner is context row)
      (λ operand expressions rest stopped. held_as (λ front behind spelled. (OneCast (operand_cast operand spelled), refl)) refl stopped)
      (λ operand levels behind rest read. sound_operations_from inner loosest operand levels context behind rest row is read);
  conditional = λ context row. sound_continued (read_cast inner context row) _ _ (sound_cast inner is context row)
      (λ operand expressions rest stopped. held_as (λ front behind spelled. OneOperation (OneCast (operand_cast operand spelled))) refl stopped)
      (λ operand levels behind rest read. sound_conditional_from inner operand levels context behind rest row is read);
  assignment = λ context row. sound_continued (read_cast inner context row) _ _ (sound_cast inner is context row)
      (λ operand expressions rest stopped. held_as (λ front behind spelled. OneConditional (OneOperation (OneCast (operand_cast operand spelled)))) refl stopped)
      (λ operand levels behind rest read. sound_assignment_from inner operand levels context behind rest row is read);
  expression = λ context row. sound_continued (read_cast inner context row) _ _ (sound_cast inner is context row)
      (λ operand expressions rest stopped. held_as (λ front behind spelled. OneAssignment (OneConditional (OneOperation (OneCast (operand_cast operand spelled))))) refl stopped)
      (λ operand levels behind rest read. sound_expression_from inner operand levels context behind rest row is read);
  specifier = sound_specifier inner is;
  initializer = sound_initializer inner is;
  clause = sound_clause inner is;
  statement = sound_statement inner is;
  item = sound_item inner is;
}

-- each reader of a level is sound
pub sound_level : (n : ℕ) → SoundLevel (level n)
sound_level zero = record {
  cast = λ context row. sound_nothing;
  operation = λ loosest context row. sound_nothing;
  conditional = λ context row. sound_nothing;
  assignment = λ context row. sound_nothing;
  expression = λ context row. sound_nothing;
  specifier = λ context row. sound_nothing;
  initializer = λ context row. sound_nothing;
  clause = λ context row. sound_nothing;
  statement = λ context row. sound_nothing;
  item = λ context row. sound_nothing;
}
sound_level (suc n) = sound_above (level n) (sound_level n)

-- a level reads trees of so many levels
pub most_of_level : (n : ℕ) → (level n).most ≡ n
most_of_level zero = refl
most_of_level (suc n) = let below = most_of_level n in omega (arith, below)

-- what is spelled as a phrase, in the words of what is to be shown
pub is_sound : {A : Type 0} (phrase : A → Phrase) (levels : A → ℕ) (most : ℕ) (before : Context) (row : List Terminal) (outcome : Outcome A)
    → Sound (spelled_as phrase) levels most before row outcome → IsSound phrase levels most before row outcome
is_sound phrase levels most before row Nothing is = tt
is_sound phrase levels most before row (Stopped tree expressions rest) is =
    let known = is.is in (known.behind, known.counts, record { front = known.front; whole = known.whole.is; spelled = known.spelled }, known.fits)
is_sound phrase levels most before row (Read tree count behind rest) is =
    let known = is.is in (record { front = known.front; whole = known.whole.is; spelled = known.spelled }, known.same, known.fits)

-- each reader of a level that reads trees of at most so many levels gives what the tokens that it took spell
pub record IsSoundLevel (most : ℕ) (inner : Level) : Type 0 where
  pub bound : inner.most ≡ most
  pub cast : (context : Context) (row : List Terminal) → IsSound operand_phrase operand_levels most context row (inner.cast context row)
  pub operation : (loosest : ℕ) (context : Context) (row : List Terminal) → IsSound (Operation loosest) expr_levels most context row (inner.operation loosest context row)
  pub conditional : (context : Context) (row : List Terminal) → IsSound Conditional expr_levels most context row (inner.conditional context row)
  pub assignment : (context : Context) (row : List Terminal) → IsSound Assignment expr_levels most context row (inner.assignment context row)
  pub expression : (context : Context) (row : List Terminal) → IsSound Expression expr_levels most context row (inner.expression context row)
  pub specifier : (context : Context) (row : List Terminal) → IsSound TypeSpecifier spec_levels most context row (inner.specifier context row)
  pub initializer : (context : Context) (row : List Terminal) → Sound (spelled_before Initializer) init_levels most context row (inner.initializer context row)
  pub clause : (context : Context) (row : List Terminal) → IsSound FirstClause stmt_levels most context row (inner.clause context row)
  pub statement : (context : Context) (row : List Terminal) → Sound says_statement stmt_levels most context row (inner.statement context row)
  pub item : (context : Context) (row : List Terminal) → Sound says_item stmt_levels most context row (inner.item context row)

-- an operation, whatever stands behind it
plain_operation : (loosest most : ℕ) (context : Context) (row : List Terminal) (outcome : Outcome Expr) → Sound (says_operation loosest) expr_levels most context row outcome → IsSound (Operation loosest) expr_levels most context row outcome
plain_operation loosest most context row Nothing is = tt
plain_operation loosest most context row (Stopped tree expressions rest) is =
    let known = is.is in (known.behind, known.counts, record { front = known.front; whole = known.whole.is; spelled = known.spelled.0 }, known.fits)
plain_operation loosest most context row (Read tree count behind rest) is =
    let known = is.is in (record { front = known.front; whole = known.whole.is; spelled = known.spelled.0 }, known.same, known.fits)

sound_at : (inner : Level) → SoundLevel inner → IsSoundLevel inner.most inner
sound_at inner is = record {
  bound = refl;
  cast = λ context row. is_sound operand_phrase operand_levels inner.most context row (inner.cast context row) (is.cast context row);
  operation = λ loosest context row. plain_operation loosest inner.most context row (inner.operation loosest context row) (is.operation loosest context row);
  conditional = λ context row. is_sound Conditional expr_levels inner.most context row (inner.conditional context row) (is.conditional context row);
  assignment = λ context row. is_sound Assignment expr_levels inner.most context row (inner.assignment context row) (is.assignment context row);
  expression = λ context row. is_sound Expression expr_levels inner.most context row (inner.expression context row) (is.expression context row);
  specifier = λ context row. is_sound TypeSpecifier spec_levels inner.most context row (inner.specifier context row) (is.specifier context row);
  initializer = is.initializer;
  clause = λ context row. is_sound FirstClause stmt_levels inner.most context row (inner.clause context row) (is.clause context row);
  statement = is.statement;
  item = is.item;
}

-- the bound of a level as the number itself
bounded : (most : ℕ) (inner : Level) → inner.most ≡ most → IsSoundLevel inner.most inner → IsSoundLevel most inner
bounded most inner same is = subst (λ (bound : ℕ). IsSoundLevel bound inner) same is

pub sound : (n : ℕ) → IsSoundLevel n (level n)
sound n = bounded n (level n) (most_of_level n) (sound_at (level n) (sound_level n))

pub sound_expression : (n : ℕ) (context : Context) (row : List Terminal) → IsSound Expression expr_levels n context row ((level n).expression context row)
sound_expression n context row = let is = sound n in is.expression context row

pub sound_block : (n : ℕ) (context : Context) (row : List Terminal) → IsSound CompoundStatement (λ body. joined depth (map stmt_levels body)) n context row (read_block (level n) context row)
sound_block n context row =
    subst (λ (most : ℕ). IsSound CompoundStatement (λ body. joined depth (map stmt_levels body)) most context row (read_block (level n) context row)) (most_of_level n)
    (is_sound CompoundStatement (λ body. joined depth (map stmt_levels body)) (level n).most context row (read_block (level n) context row) (sound_block_of (level n) (sound_level n) context row))
