-- That a row has one tree, from what the reader does on it.
use Rattle.std.proofs.Common.{◌≡◌, ℕ, Bool, true, false, max, inl, inr, List, [], ◌++◌, refl, ap, sym, ◌∙◌, arith}
use Rattle.ctrees.specs.Levels.{decl_levels, expr_levels, stmt_levels, type_name_levels}
use Rattle.cgrammar.proofs.Reached.{Completes, Goes, goes_on_expression}
use Rattle.cgrammar.specs.Grammar.{Spells}
use Rattle.cgrammar.specs.OneTree.{HasOneTree, EachHasOneTree}
use Rattle.cgrammar.specs.Outcomes.{Outcome, Nothing, Stopped, Read}
use Rattle.cgrammar.specs.Phrases.{Phrase, Context, Expression, NameOfType, Declaration, Statement, CompoundStatement}
use Rattle.cgrammar.specs.ReadDeclarations.{read_declaration}
use Rattle.cgrammar.specs.ReadStatements.{read_block}
use Rattle.cgrammar.specs.ReadTypes.{read_type_name}
use Rattle.cgrammar.specs.Reader.{level}
use Rattle.cgrammar.specs.Readings.{block_levels}
use Rattle.cgrammar.specs.Terminals.{Terminal}

abbrev pub IsComplete : Type 0
IsComplete = (phrase : Phrase) (before after : Context) (row : List Terminal) → Spells phrase before row after → Completes phrase before row after

tree_or : {A : Type 0} → A → Outcome A → A
tree_or other Nothing = other
tree_or other (Stopped tree expressions rest) = tree
tree_or other (Read tree levels behind rest) = tree

behind_or : {A : Type 0} → Context → Outcome A → Context
behind_or other Nothing = other
behind_or other (Stopped tree expressions rest) = other
behind_or other (Read tree levels behind rest) = behind

one_outcome : {A : Type 0} (outcome : Outcome A) (one other : A) (ones others : ℕ) (after behind : Context) (rest : List Terminal)
    → outcome ≡ Read one ones after rest → outcome ≡ Read other others behind rest → (one ≡ other) × (after ≡ behind)
unfolding tree_or behind_or
one_outcome outcome one other ones others after behind rest is same =
    (ap (tree_or one) (sym is ∙ same), ap (behind_or after) (sym is ∙ same))

-- nothing behind a row goes on with it
whole : {A : Type 0} (test : Terminal → Bool) (tree : A) (levels : ℕ) (after : Context) (outcome : Outcome A) → Goes test tree levels after [] outcome → outcome ≡ Read tree levels after []
whole test tree levels after outcome (inl is) = is
whole test tree levels after outcome (inr further) = let clash : false ≡ true = further.0 in cc clash

one_expression : IsComplete → HasOneTree Expression Expression
one_expression complete one other before after behind row first second =
    let most : ℕ = max (expr_levels one) (expr_levels other) in
    one_outcome ((level most).expression before (row ++ [])) one other (expr_levels one) (expr_levels other) after behind []
    (whole goes_on_expression one (expr_levels one) after ((level most).expression before (row ++ [])) (complete (Expression one) before after row first most [] (omega arith)))
    (whole goes_on_expression other (expr_levels other) behind ((level most).expression before (row ++ [])) (complete (Expression other) before behind row second most [] (omega arith)))

one_type : IsComplete → HasOneTree NameOfType NameOfType
one_type complete one other before after behind row first second =
    let most : ℕ = max (type_name_levels one) (type_name_levels other) in
    one_outcome (read_type_name (level most) before (row ++ [])) one other (type_name_levels one) (type_name_levels other) after behind []
    (complete (NameOfType one) before after row first most [] (omega arith) refl)
    (complete (NameOfType other) before behind row second most [] (omega arith) refl)

one_declaration : IsComplete → HasOneTree Declaration Declaration
one_declaration complete one other before after behind row first second =
    let most : ℕ = max (decl_levels one) (decl_levels other) in
    one_outcome (read_declaration (level most) before (row ++ [])) one other (decl_levels one) (decl_levels other) after behind []
    (complete (Declaration one) before after row first most [] (omega arith))
    (complete (Declaration other) before behind row second most [] (omega arith))

one_statement : IsComplete → (dangling last : Bool) → HasOneTree (Statement dangling) (Statement last)
one_statement complete dangling last one other before after behind row first second =
    let most : ℕ = max (stmt_levels one) (stmt_levels other) in
    one_outcome ((level most).statement before (row ++ [])) one other (stmt_levels one) (stmt_levels other) after behind []
    (complete (Statement dangling one) before after row first most [] (omega arith) refl)
    (complete (Statement last other) before behind row second most [] (omega arith) refl)

one_block : IsComplete → HasOneTree CompoundStatement CompoundStatement
one_block complete one other before after behind row first second =
    let most : ℕ = max (block_levels one) (block_levels other) in
    one_outcome (read_block (level most) before (row ++ [])) one other (block_levels one) (block_levels other) after behind []
    (complete (CompoundStatement one) before after row first most [] (omega arith))
    (complete (CompoundStatement other) before behind row second most [] (omega arith))

pub each_has_one_tree : IsComplete → EachHasOneTree
each_has_one_tree complete = record {
  expressions = one_expression complete;
  types = one_type complete;
  declarations = one_declaration complete;
  statements = one_statement complete;
  blocks = one_block complete;
}
