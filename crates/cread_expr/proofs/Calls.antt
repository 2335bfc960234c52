-- What is written from a token of a text on, as what the grammar has there.
use Rattle.std.proofs.Common.{◌≡◌, ℕ, ◌+◌, true, false, not, List, take, Option, Some, refl, ap, sym, ◌∙◌, subst}
use Rattle.std.specs.Prelude.{IsSome}
use Rattle.std.specs.List.{prefix_len}
use Rattle.cbase.specs.declared.tree.expr.Expr.{Expr}
use Rattle.cbase.specs.declared.tree.stmt.Stmt.{Stmt}
use Rattle.cevents.specs.Building.{built_all}
use Rattle.cevents.specs.Workshop.{Workshop, start, expr_alone, block_alone}
use Rattle.ctokens.specs.TokenList.{AreNumbered}
use Rattle.cgrammar.specs.Readings.{IsExpressionAt, IsLongestExpressionAt, IsBlockAt}
use Rattle.cgrammar.specs.Scope.{Names}
use Rattle.cgrammar.specs.Terminals.{Terminal, terminals, last_place, comes_before}
use Rattle.cparser.specs.ReadingSteps.{reads, inner_at}
use Rattle.cparser.specs.State.{State, is_nothing}
use Rattle.cparser.specs.StatementSteps.{block}
use Rattle.cparser.specs.Writings.{Writing, start_at, written_of}
use Rattle.cparser.specs.declared.wanted.Wanted.TheVariants as wanted
use Rattle.ctokens.specs.declared.token.Tokens.{Tokens}
use Rattle.cread_expr.specs.Exactly.{at_token}
use Rattle.cread_expr.proofs.Agreement.{starts_there, is_something, is_no_more, expression_read, no_expression_read, block_read, no_block_read}

is_some : {A : Type 0} (found : Option A) (tree : A) → found ≡ Some tree → IsSome found
is_some found tree is = subst (λ (o : Option _). IsSome o) (sym is) refl

same_some : {A : Type 0} (found : Option A) (tree other : A) → found ≡ Some tree → found ≡ Some other → tree ≡ other
same_some found tree other is also = let both = sym is ∙ also in cc

-- What a step of the reader writes from a token of a text on, and the tree that is built of it alone. The code has its row, the
-- number of tokens before the place, and what is written.
module _ {T : Type 0} (step : State → State) (alone : Option Workshop → Option T) (t : Tokens) (scope : List Names) (at : ℕ) where
  abbrev pub end : State
  end = step (at_token t scope at)

  -- a tree is built and stands there, or none does
  pub record IsReading (Is : T → ℕ → Type 0) (Nowhere : Type 0) : Type 0 where
    pub found : not (is_nothing end.status) ≡ true
        → (tree : T) × (alone (built_all (terminals t) end.events (Some start)) ≡ Some tree) × Is tree ((last_place (take end.at (terminals t))).at + 1)
    pub none : not (is_nothing end.status) ≡ false → Nowhere

  module _ {Is : T → ℕ → Type 0} {Nowhere : Type 0} (reading : IsReading Is Nowhere) (first : ℕ) (row : List Terminal) (written : Writing)
      (rows : row ≡ terminals t) (firsts : first ≡ prefix_len (comes_before at) row) (is : written ≡ written_of (step (start_at row first scope))) where
    same : written ≡ written_of end
    same = is ∙ (λ i. written_of (step (start_at (rows i) ((firsts ∙ ap (prefix_len (comes_before at)) rows) i) scope)))

    built : alone (built_all row written.events (Some start)) ≡ alone (built_all (terminals t) end.events (Some start))
    built = λ i. alone (built_all (rows i) ((same i).events) (Some start))

    found-there : written.found ≡ true → not (is_nothing end.status) ≡ true
    found-there found = sym (ap (λ (w : Writing). w.found) same) ∙ found

    pub is_built : written.found ≡ true → IsSome (alone (built_all row written.events (Some start)))
    is_built found = let there = reading.found (found-there found) in is_some _ there.0 (built ∙ there.1)

    pub is_there : written.found ≡ true → (tree : T) (after : ℕ) → alone (built_all row written.events (Some start)) ≡ Some tree
        → after ≡ (last_place (take written.at row)).at + 1 → Is tree after
    is_there found tree after made behind =
        let there = reading.found (found-there found) in
        let one : there.0 ≡ tree = same_some _ there.0 tree (built ∙ there.1) made in
        let ends : after ≡ (last_place (take end.at (terminals t))).at + 1 = behind ∙ (λ i. (last_place (take ((same i).at) (rows i))).at + 1) in
        subst (λ (e : T). Is e after) one (subst (λ (n : ℕ). Is there.0 n) (sym ends) there.2)

    pub is_none : written.found ≡ false → Nowhere
    is_none none = reading.none (sym (ap (λ (w : Writing). w.found) same) ∙ none)

-- an expression of at most so many levels, and a block
pub expression_reading : (most : ℕ) (t : Tokens) (scope : List Names) (at : ℕ) → AreNumbered t.list
    → IsReading (reads most wanted.Expression) expr_alone t scope at (λ expr after. IsLongestExpressionAt most t scope at after expr)
    ((expr : Expr) (after : ℕ) → IsExpressionAt most t scope at after expr → ⊥)
expression_reading most t scope at numbered = record {
  found = λ found.
      let read = expression_read most t scope at (at_token t scope at) numbered (starts_there t scope at) (is_something _ found) in
      (read.expr, ap expr_alone read.built, read.longest);
  none = λ none. no_expression_read most t scope at (at_token t scope at) numbered (starts_there t scope at) (is_no_more _ none);
}

pub block_reading : (most : ℕ) (t : Tokens) (scope : List Names) (at : ℕ) → AreNumbered t.list
    → IsReading (block (inner_at most)) block_alone t scope at (λ body after. IsBlockAt most t scope at after body)
    ((body : List Stmt) (after : ℕ) → IsBlockAt most t scope at after body → ⊥)
block_reading most t scope at numbered = record {
  found = λ found.
      let read = block_read most t scope at (at_token t scope at) numbered (starts_there t scope at) (is_something _ found) in
      (read.body, ap block_alone read.built, read.is);
  none = λ none. no_block_read most t scope at (at_token t scope at) numbered (starts_there t scope at) (is_no_more _ none);
}
