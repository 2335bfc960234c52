-- Steps that all proofs of completeness take: levels, tests, and what stands to the right of an operator.
use Rattle.std.proofs.Common.{◌≡◌, ℕ, zero, suc, Bool, true, false, ◌≤◌, ◌⊎◌, inl, inr, nat_le, List, [], ◌∷◌, IsTrue, refl, ap, arith}
use Rattle.std.proofs.lemmas.Bool.{le-leb}
use Rattle.cbase.specs.declared.tree.expr.Expr.{Expr}
use Rattle.ctrees.specs.Levels.{expr_levels}
use Rattle.cgrammar.proofs.CompleteReaches.{right_goes}
use Rattle.cgrammar.proofs.Reached.{Reaches, Goes}
use Rattle.cgrammar.proofs.TreeLevels.{levels_expr}
use Rattle.cgrammar.proofs.Truth.{clash}
use Rattle.cgrammar.specs.Outcomes.{Outcome, Nothing, Stopped, Read, with_right, continued, then_read, has_first}
use Rattle.cgrammar.specs.Phrases.{Context}
use Rattle.cgrammar.specs.Reader.{level}
use Rattle.cgrammar.specs.Terminals.{Terminal}

-- tests
pub first_more : (test other : Terminal → Bool) (row : List Terminal) → ((token : Terminal) → IsTrue (test token) → IsTrue (other token))
    → IsTrue (has_first test row) → IsTrue (has_first other row)
first_more test other [] more is = is
first_more test other (first ∷ row) more is = more first is

-- levels
pub level_most : (m : ℕ) → (level m).most ≡ m
level_most zero = refl
level_most (suc m) = let before = level_most m in omega (arith, before)

pub levels_fit : (levels m : ℕ) → levels ≤ m → nat_le levels (level m).most ≡ true
levels_fit levels m fits = let most = level_most m in le-leb levels (level m).most (omega (arith, fits, most))

pub some_level : (expr : Expr) → expr_levels expr ≤ 0 → ⊥
some_level expr fits = let levels = levels_expr expr in omega (arith, fits, levels)

-- one continuation behind another one
pub continued_twice : {A B C : Type 0} (outcome : Outcome A) (whole : A → B) (one : A → ℕ → Context → List Terminal → Outcome B) (other : B → C) (go : B → ℕ → Context → List Terminal → Outcome C)
    → continued outcome (λ a. other (whole a)) (λ tree levels behind rest. continued (one tree levels behind rest) other go) ≡ continued (continued outcome whole one) other go
continued_twice Nothing whole one other go = refl
continued_twice (Stopped tree expressions rest) whole one other go = refl
continued_twice (Read tree levels behind rest) whole one other go = refl

-- where the outcome is known, or reaches
pub with_right_step : {A B : Type 0} (test : Terminal → Bool) (tree : A) (levels : ℕ) (after : Context) (rest : List Terminal) (outcome : Outcome A)
    (without : Outcome B) (whole : A → ℕ → B) (go : A → ℕ → Context → List Terminal → Outcome B)
    → ((tree : A) (levels : ℕ) (behind : Context) (rest : List Terminal) → Reaches (go tree levels behind rest) rest)
    → Goes test tree levels after rest outcome
    → (with_right outcome without whole go ≡ go tree levels after rest) ⊎ (IsTrue (has_first test rest) × Reaches (with_right outcome without whole go) rest)
with_right_step test tree levels after rest outcome without whole go further (inl is) = inl (ap (λ o. with_right o without whole go) is)
with_right_step test tree levels after rest outcome without whole go further (inr (goes, far)) = inr (goes, right_goes outcome without whole go rest far further)

-- what goes on is known not to
pub goes_exactly : {A : Type 0} (test : Terminal → Bool) (tree : A) (levels : ℕ) (after : Context) (first : Terminal) (rest : List Terminal) (outcome : Outcome A)
    → test first ≡ false → Goes test tree levels after (first ∷ rest) outcome → outcome ≡ Read tree levels after (first ∷ rest)
goes_exactly test tree levels after first rest outcome ends (inl is) = is
goes_exactly test tree levels after first rest outcome ends (inr (goes, far)) = absurd (clash (test first) goes ends)

-- the tree behind which more follows is read from its operand on
pub continued_read : {A B C : Type 0} (outcome : Outcome A) (whole : A → B) (go : A → ℕ → Context → List Terminal → Outcome B) (tree : B) (levels : ℕ) (behind : Context) (rest : List Terminal) (next : B → ℕ → Context → List Terminal → Outcome C)
    → continued outcome whole go ≡ Read tree levels behind rest
    → then_read outcome (λ a n c r. then_read (go a n c r) next) ≡ next tree levels behind rest
continued_read Nothing whole go tree levels behind rest next is = cc is
continued_read (Stopped t n r) whole go tree levels behind rest next is = cc is
continued_read (Read t n c r) whole go tree levels behind rest next is = ap (λ o. then_read o next) is
