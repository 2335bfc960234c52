-- What is known of what each reader of a level gives.
use Rattle.std.proofs.Common.{◌≡◌, ℕ, ◌⊎◌, Bool, false, ◌&&◌, List, codes}
use Rattle.cbase.specs.declared.place.Place.{Place}
use Rattle.cbase.specs.declared.tree.decl.Decl.{Decl}
use Rattle.cbase.specs.declared.tree.expr.Expr.{Expr}
use Rattle.cbase.specs.declared.tree.stmt.Stmt.{Stmt}
use Rattle.cbase.specs.declared.tree.stmt.StmtForm.TheVariants.{Declare}
use Rattle.ctrees.specs.Levels.{expr_levels, spec_levels, init_levels, stmt_levels}
use Rattle.cgrammar.proofs.Reached.{operand_phrase, operand_levels, goes_on_from}
use Rattle.cgrammar.proofs.SoundSteps.{Reads}
use Rattle.cgrammar.specs.Grammar.{Spells}
use Rattle.cgrammar.specs.Outcomes.{has_first}
use Rattle.cgrammar.specs.Phrases.{Phrase, Context}
use Rattle.cgrammar.specs.Phrases.{Expression, Assignment, Conditional, Operation, TypeSpecifier, Initializer, Statement, Substatement, FirstClause, Declaration}
use Rattle.cgrammar.specs.ReadLevels.{Level}
use Rattle.cgrammar.specs.Terminals.{Terminal, is_word, first_place, last_place}
use Rattle.cgrammar.specs.Trees.{statement}
use Rattle.cgrammar.specs.declared.reading.operand.Operand.{Operand}

-- it is spelled as a phrase
abbrev pub spelled_as : {A : Type 0} → (A → Phrase) → A → Context → List Terminal → Context → List Terminal → Type 0
spelled_as phrase tree before front behind rest = Spells (phrase tree) before front behind

-- it is spelled as a phrase that says where the token behind it stands
abbrev pub spelled_before : {A : Type 0} → (Place → A → Phrase) → A → Context → List Terminal → Context → List Terminal → Type 0
spelled_before phrase tree before front behind rest = Spells (phrase (first_place rest) tree) before front behind

abbrev pub says_operand : Operand → Context → List Terminal → Context → List Terminal → Type 0
says_operand = spelled_as operand_phrase

-- an operation, behind which no operator stands that would go on with it
abbrev pub says_operation : ℕ → Expr → Context → List Terminal → Context → List Terminal → Type 0
says_operation loosest expr before front behind rest = Spells (Operation loosest expr) before front behind × (has_first (goes_on_from loosest) rest ≡ false)

-- a statement, behind which no `else` stands that would go on with it
abbrev pub says_statement : Stmt → Context → List Terminal → Context → List Terminal → Type 0
says_statement stmt before front behind rest =
    (dangling : Bool) × Spells (Statement dangling stmt) before front behind × ((dangling && has_first (is_word (codes "else")) rest) ≡ false)

-- the same of a statement in an `if` or in a loop
abbrev pub says_substatement : Stmt → Context → List Terminal → Context → List Terminal → Type 0
says_substatement stmt before front behind rest =
    (dangling : Bool) × Spells (Substatement dangling stmt) before front behind × ((dangling && has_first (is_word (codes "else")) rest) ≡ false)

-- what stands in a block
abbrev pub says_item : Stmt → Context → List Terminal → Context → List Terminal → Type 0
says_item stmt before front behind rest =
    ((decl : Decl) × (stmt ≡ statement (first_place front) (last_place front) (Declare decl)) × Spells (Declaration decl) before front behind)
    ⊎ ((dangling : Bool) × Spells (Statement dangling stmt) before front behind)

pub record SoundLevel (inner : Level) : Type 0 where
  pub cast : Reads says_operand operand_levels inner.most inner.cast
  pub operation : (loosest : ℕ) → Reads (says_operation loosest) expr_levels inner.most (inner.operation loosest)
  pub conditional : Reads (spelled_as Conditional) expr_levels inner.most inner.conditional
  pub assignment : Reads (spelled_as Assignment) expr_levels inner.most inner.assignment
  pub expression : Reads (spelled_as Expression) expr_levels inner.most inner.expression
  pub specifier : Reads (spelled_as TypeSpecifier) spec_levels inner.most inner.specifier
  pub initializer : Reads (spelled_before Initializer) init_levels inner.most inner.initializer
  pub clause : Reads (spelled_as FirstClause) stmt_levels inner.most inner.clause
  pub statement : Reads says_statement stmt_levels inner.most inner.statement
  pub item : Reads says_item stmt_levels inner.most inner.item
