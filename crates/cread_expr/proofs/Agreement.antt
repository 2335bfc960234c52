-- What the steps make at a token of a text is what the grammar has there: the longest expression, or a block.
use Rattle.std.proofs.Common.{◌≡◌, ℕ, ◌+◌, ◌≤◌, Bool, true, false, not, List, [], ◌∷◌, ◌++◌, drop, take, length, cond, refl, ap, sym, ◌∙◌, subst, arith}
use Rattle.std.specs.List.{prefix_len}
use Rattle.cbase.specs.declared.tree.expr.Expr.{Expr}
use Rattle.cbase.specs.declared.tree.stmt.Stmt.{Stmt}
use Rattle.cevents.specs.Building.{built_all}
use Rattle.cevents.specs.declared.event.Event.{Event}
use Rattle.cgrammar.proofs.Exact.{expressions_complete, expressions_sound, blocks_complete, blocks_sound}
use Rattle.cgrammar.proofs.ReadAt.{Leaves, row_from, row_at, longest_there, none_there, block_there, no_block_there}
use Rattle.cgrammar.specs.Outcomes.{Outcome}
use Rattle.cgrammar.specs.Outcomes as outcome
use Rattle.cgrammar.specs.ReadStatements.{read_block}
use Rattle.cgrammar.specs.Reader.{level}
use Rattle.ctokens.specs.TokenList.{AreNumbered}
use Rattle.cgrammar.specs.Readings.{at_first, IsExpressionAt, IsLongestExpressionAt, IsBlockAt}
use Rattle.cgrammar.specs.Scope.{Names}
use Rattle.cgrammar.specs.Terminals.{Terminal, terminals, last_place, comes_before}
use Rattle.cparser.specs.ReadingSteps.{reads, inner_at}
use Rattle.cparser.specs.State.{State, rest, is_nothing}
use Rattle.cparser.specs.StatementSteps.{block}
use Rattle.cparser.specs.declared.status.Status.{Status}
use Rattle.cparser.specs.declared.status.Status.TheVariants.{Going, Stopped, Nothing}
use Rattle.cparser.specs.declared.wanted.Wanted.TheVariants as wanted
use Rattle.ctokens.specs.declared.token.Tokens.{Tokens}
use Rattle.cread_expr.specs.Exactly.{ExpressionsAreExact, BlocksAreExact, at_token}
use Rattle.cread_expr.proofs.Agreed.{Pieces, none, shop, Agreed, Ready, context_of, expr_piece, statements_piece}
use Rattle.cread_expr.proofs.AgreedLevels.{levels_agree}
use Rattle.cread_expr.proofs.AgreedStatements.{block_agrees}

-- a reader at a token of a text, with these names in scope, that has read nothing yet
pub record StartsAt (t : Tokens) (scope : List Names) (at : ℕ) (s : State) : Type 0 where
  pub row : s.row ≡ terminals t
  pub number : s.at ≡ prefix_len (comes_before at) (terminals t)
  pub status : s.status ≡ Going
  pub levels : s.levels ≡ 0
  pub names : s.scope ≡ scope
  pub events : s.events ≡ []

prefix_within : (test : Terminal → Bool) (row : List Terminal) → prefix_len test row ≤ length row
prefix_within test [] = omega arith
prefix_within test (first ∷ row) = step (test first) (prefix_within test row)
  where
    step : (passes : Bool) → prefix_len test row ≤ length row → cond passes (1 + prefix_len test row) 0 ≤ length (first ∷ row)
    step true within = omega (arith, within)
    step false within = omega arith

ready_at : {t : Tokens} {scope : List Names} {at : ℕ} {s : State} → StartsAt t scope at s → Ready s
ready_at {t} {at} {s} starts = record {
  status = starts.status;
  inside = subst (λ (row : List Terminal). s.at ≤ length row) (sym starts.row)
      (subst (λ (number : ℕ). number ≤ length (terminals t)) (sym starts.number) (prefix_within (comes_before at) (terminals t)));
}

rest_at : {t : Tokens} {scope : List Names} {at : ℕ} {s : State} → AreNumbered t.list → StartsAt t scope at s → rest s ≡ row_from t at
rest_at {t} {at} {s} numbered starts =
    let there : drop s.at s.row ≡ drop (prefix_len (comes_before at) (terminals t)) (terminals t) = λ i. drop (starts.number i) (starts.row i) in
    there ∙ row_at t at numbered

-- where nothing is read
nothing_read : {A : Type 0} {piece : A → Pieces} {fits : A → State → Type 0} {base before : ℕ} {s u : State} (found : Outcome A)
    → Agreed none piece fits base before found s u → u.status ≡ Nothing → found ≡ outcome.Nothing
nothing_read outcome.Nothing is status = refl
nothing_read (outcome.Stopped tree expressions others) is status = let wrong : Stopped ≡ Nothing = sym is.is.0.status ∙ status in cc wrong
nothing_read (outcome.Read tree levels behind others) is status = let wrong : Going ≡ Nothing = sym is.is.0.status ∙ status in cc wrong

-- a tree that the events make
pub record Made {A : Type 0} (piece : A → Pieces) (found : Outcome A) (s u : State) : Type 0 where
  pub tree : A
  pub count : ℕ
  pub built : built_all s.row u.events (shop 0 []) ≡ shop count (piece tree [])
  pub leaves : Leaves found tree (rest u)
  pub row : u.row ≡ s.row

tree_read : {A : Type 0} {piece : A → Pieces} {fits : A → State → Type 0} {base : ℕ} {s u : State} (found : Outcome A)
    → Agreed none piece fits base 0 found s u → s.events ≡ [] → is_nothing u.status ≡ false → Made piece found s u
tree_read outcome.Nothing is fresh some =
    let wrong : true ≡ false = sym (ap (λ (status : Status). is_nothing status) is.is.status) ∙ some in
    cc wrong
tree_read {s} {u} (outcome.Stopped tree expressions others) is fresh some =
    let halted = is.is.0 in
    let events : u.events ≡ halted.went.added = halted.went.events ∙ ap (λ (events : List Event). events ++ halted.went.added) fresh in
    record {
      tree = tree;
      count = expressions;
      built = ap (λ (events : List Event). built_all s.row events (shop 0 [])) events ∙ halted.went.builds [];
      leaves = (refl, sym halted.left);
      row = halted.went.row;
    }
tree_read {s} {u} (outcome.Read tree levels behind others) is fresh some =
    let far = is.is.0 in
    let events : u.events ≡ far.went.added = far.went.events ∙ ap (λ (events : List Event). events ++ far.went.added) fresh in
    record {
      tree = tree;
      count = behind.expressions;
      built = ap (λ (events : List Event). built_all s.row events (shop 0 [])) events ∙ far.went.builds [];
      leaves = (refl, sym far.left);
      row = far.went.row;
    }

leaves_there : {A : Type 0} (t : Tokens) (found : Outcome A) (tree : A) (s u : State) → u.row ≡ s.row → s.row ≡ terminals t → Leaves found tree (rest u) → Leaves found tree (drop u.at (terminals t))
leaves_there t found tree s u row whole leaves = subst (λ (row : List Terminal). Leaves found tree (drop u.at row)) (row ∙ whole) leaves

-- An expression.
pub record ExpressionRead (most : ℕ) (t : Tokens) (scope : List Names) (at : ℕ) (u : State) : Type 0 where
  pub expr : Expr
  pub count : ℕ
  pub built : built_all (terminals t) u.events (shop 0 []) ≡ shop count (expr_piece expr [])
  pub longest : IsLongestExpressionAt most t scope at ((last_place (take u.at (terminals t))).at + 1) expr

expression_is : {t : Tokens} {scope : List Names} {at : ℕ} {s : State} (most : ℕ) → AreNumbered t.list → StartsAt t scope at s
    → (level most).expression (context_of s 0) (rest s) ≡ (level most).expression (at_first scope) (row_from t at)
expression_is {s} most numbered starts =
    let row = rest_at numbered starts in
    λ i. (level most).expression (at_first (starts.names i)) (row i)

pub expression_read : (most : ℕ) (t : Tokens) (scope : List Names) (at : ℕ) (s : State) → AreNumbered t.list → StartsAt t scope at s
    → is_nothing (reads most wanted.Expression s).status ≡ false → ExpressionRead most t scope at (reads most wanted.Expression s)
expression_read most t scope at s numbered starts some =
    let u : State = reads most wanted.Expression s in
    let agree = levels_agree most in
    let made : Made expr_piece ((level most).expression (context_of s 0) (rest s)) s u =
    tree_read ((level most).expression (context_of s 0) (rest s)) (agree.expression s 0 (ready_at starts) starts.levels) starts.events some in
    record {
      expr = made.tree;
      count = made.count;
      built = ap (λ (row : List Terminal). built_all row u.events (shop 0 [])) (sym starts.row) ∙ made.built;
      longest = longest_there expressions_complete expressions_sound t scope at u.at most ((level most).expression (context_of s 0) (rest s)) made.tree numbered
          (expression_is most numbered starts) (leaves_there t _ made.tree s u made.row starts.row made.leaves);
    }

pub no_expression_read : (most : ℕ) (t : Tokens) (scope : List Names) (at : ℕ) (s : State) → AreNumbered t.list → StartsAt t scope at s
    → (reads most wanted.Expression s).status ≡ Nothing → (expr : Expr) (after : ℕ) → IsExpressionAt most t scope at after expr → ⊥
no_expression_read most t scope at s numbered starts nothing =
    let agree = levels_agree most in
    none_there expressions_complete t scope at most
    (sym (nothing_read ((level most).expression (context_of s 0) (rest s)) (agree.expression s 0 (ready_at starts) starts.levels) nothing) ∙ expression_is most numbered starts)

-- A block.
pub record BlockRead (most : ℕ) (t : Tokens) (scope : List Names) (at : ℕ) (u : State) : Type 0 where
  pub body : List Stmt
  pub count : ℕ
  pub built : built_all (terminals t) u.events (shop 0 []) ≡ shop count (statements_piece body [])
  pub is : IsBlockAt most t scope at ((last_place (take u.at (terminals t))).at + 1) body

block_is : {t : Tokens} {scope : List Names} {at : ℕ} {s : State} (most : ℕ) → AreNumbered t.list → StartsAt t scope at s
    → read_block (level most) (context_of s 0) (rest s) ≡ read_block (level most) (at_first scope) (row_from t at)
block_is {s} most numbered starts =
    let row = rest_at numbered starts in
    λ i. read_block (level most) (at_first (starts.names i)) (row i)

pub block_read : (most : ℕ) (t : Tokens) (scope : List Names) (at : ℕ) (s : State) → AreNumbered t.list → StartsAt t scope at s
    → is_nothing (block (inner_at most) s).status ≡ false → BlockRead most t scope at (block (inner_at most) s)
block_read most t scope at s numbered starts some =
    let u : State = block (inner_at most) s in
    let made : Made statements_piece (read_block (level most) (context_of s 0) (rest s)) s u =
    tree_read (read_block (level most) (context_of s 0) (rest s)) (block_agrees (levels_agree most) s 0 (ready_at starts)) starts.events some in
    record {
      body = made.tree;
      count = made.count;
      built = ap (λ (row : List Terminal). built_all row u.events (shop 0 [])) (sym starts.row) ∙ made.built;
      is = block_there blocks_sound t scope at u.at most (read_block (level most) (context_of s 0) (rest s)) made.tree numbered
          (block_is most numbered starts) (leaves_there t _ made.tree s u made.row starts.row made.leaves);
    }

pub no_block_read : (most : ℕ) (t : Tokens) (scope : List Names) (at : ℕ) (s : State) → AreNumbered t.list → StartsAt t scope at s
    → (block (inner_at most) s).status ≡ Nothing → (body : List Stmt) (after : ℕ) → IsBlockAt most t scope at after body → ⊥
no_block_read most t scope at s numbered starts nothing =
    no_block_there blocks_complete t scope at most
    (sym (nothing_read (read_block (level most) (context_of s 0) (rest s)) (block_agrees (levels_agree most) s 0 (ready_at starts)) nothing) ∙ block_is most numbered starts)

-- What is written at a token is exact.
pub starts_there : (t : Tokens) (scope : List Names) (at : ℕ) → StartsAt t scope at (at_token t scope at)
starts_there t scope at = record { row = refl; number = refl; status = refl; levels = refl; names = refl; events = refl }

pub is_something : (status : Status) → not (is_nothing status) ≡ true → is_nothing status ≡ false
is_something Going found = refl
is_something Stopped found = refl
is_something Nothing found = cc

pub is_no_more : (status : Status) → not (is_nothing status) ≡ false → status ≡ Nothing
is_no_more Going found = cc
is_no_more Stopped found = cc
is_no_more Nothing found = refl

pub expressions_are_exact : ExpressionsAreExact
expressions_are_exact most t scope at numbered =
    let s : State = at_token t scope at in
    record {
      found = λ found.
          let read : ExpressionRead most t scope at (reads most wanted.Expression s) =
          expression_read most t scope at s numbered (starts_there t scope at) (is_something (reads most wanted.Expression s).status found) in
          (read.expr, record { count = read.count; made = read.built }, read.longest);
      none = λ none. no_expression_read most t scope at s numbered (starts_there t scope at) (is_no_more (reads most wanted.Expression s).status none);
    }

pub blocks_are_exact : BlocksAreExact
blocks_are_exact most t scope at numbered =
    let s : State = at_token t scope at in
    record {
      found = λ found.
          let read : BlockRead most t scope at (block (inner_at most) s) =
          block_read most t scope at s numbered (starts_there t scope at) (is_something (block (inner_at most) s).status found) in
          (read.body, record { count = read.count; made = read.built }, read.is);
      none = λ none. no_block_read most t scope at s numbered (starts_there t scope at) (is_no_more (block (inner_at most) s).status none);
    }
