-- The statement that makes the value of a block.
use Rattle.std.proofs.Common.{◌≡◌, ℕ, zero, suc, ◌+◌, ◌<◌, ◌≤◌, Bool, true, false, ◌&&◌, List, [], ◌∷◌, ◌++◌, length, map, drop, take, get_or, drop-cons, None, refl, sym, ap, ◌∙◌, arith, if◌then◌else◌}
use Rattle.cbase.specs.declared.tree.stmt.Stmt.{Stmt}
use Rattle.c_machine.specs.Blocks.{are_empty, is_empty}
use Rattle.c_machine.specs.declared.kind.Kind.TheVariants.{Void}
use Rattle.c_machine.specs.Program.{Program}
use Rattle.c_machine.specs.Text.{Text}
use Rattle.c_machine.specs.Trees.{text_of}
use Rattle.lowering.specs.Inner.{until_last}
use Rattle.lowering.specs.Moves.{Does}
use Rattle.lowering.specs.Placing.{last_moves, valued_moves}
use Rattle.lowering.specs.Table.{ending, last_of}
use Rattle.lowering.specs.Told.{trees}

-- a program's statements are read as the trees are
same_empty : (p : Program) (body : List Stmt) → are_empty (trees Void) body ≡ are_empty (text_of p) body
same_empty p [] = refl
same_empty p (stmt ∷ body) = ap (λ (rest : Bool). is_empty ((text_of p).clause stmt) && rest) (same_empty p body)

pub same_until : (p : Program) (body : List Stmt) → until_last (trees Void) body ≡ until_last (text_of p) body
same_until p [] = refl
same_until p (stmt ∷ body) =
    ap (λ (empty : Bool). if empty then 1 else suc (until_last (trees Void) body)) (same_empty p body)
    ∙ ap (λ (many : ℕ). if are_empty (text_of p) body then 1 else suc many) (same_until p body)

-- how many statements there are up to it
module _ (t : Text) where
  full_behind : (body : List t.Stmt) (before : ℕ) (stmt : t.Stmt) (rest : List t.Stmt) → drop before body ≡ stmt ∷ rest → is_empty (t.clause stmt) ≡ false → are_empty t body ≡ false
  full_behind [] zero stmt rest at full = absurd cc
  full_behind [] (suc before) stmt rest at full = absurd cc
  full_behind (first ∷ body) zero stmt rest at full = here first stmt (head_same at) full
    where
      head_same : first ∷ body ≡ stmt ∷ rest → first ≡ stmt
      head_same same = cc

      here : (one other : t.Stmt) → one ≡ other → is_empty (t.clause other) ≡ false → (is_empty (t.clause one) && are_empty t body) ≡ false
      here one other same full = ap (λ (stmt : t.Stmt). is_empty (t.clause stmt) && are_empty t body) same ∙ ap (λ (empty : Bool). empty && are_empty t body) full
  full_behind (first ∷ body) (suc before) stmt rest at full =
      ap (λ (empty : Bool). is_empty (t.clause first) && empty) (full_behind body before stmt rest at full) ∙ none (is_empty (t.clause first))
    where
      none : (empty : Bool) → (empty && false) ≡ false
      none true = refl
      none false = refl

  pub until_full : (body : List t.Stmt) (before : ℕ) (stmt : t.Stmt) (rest : List t.Stmt) → drop before body ≡ stmt ∷ rest → is_empty (t.clause stmt) ≡ false →
      are_empty t rest ≡ true → until_last t body ≡ suc before
  until_full [] zero stmt rest at full empty = absurd cc
  until_full [] (suc before) stmt rest at full empty = absurd cc
  until_full (first ∷ body) zero stmt rest at full empty =
      ap (λ (empty : Bool). if empty then 1 else suc (until_last t body)) (ap (are_empty t) (tail_same at) ∙ empty)
    where
      tail_same : first ∷ body ≡ stmt ∷ rest → body ≡ rest
      tail_same same = cc
  until_full (first ∷ body) (suc before) stmt rest at full empty =
      ap (λ (empty : Bool). if empty then 1 else suc (until_last t body)) (full_behind body before stmt rest at full)
      ∙ ap suc (until_full body before stmt rest at full empty)

  pub until_few : (body : List t.Stmt) (many : ℕ) → many ≤ 1 → (0 < length body → 0 < many) → many ≤ length body → are_empty t (drop many body) ≡ true → until_last t body ≡ many
  until_few [] zero few some inside empty = refl
  until_few [] (suc many) few some inside empty = absurd (omega arith)
  until_few (first ∷ body) zero few some inside empty = absurd (no_less (some (omega arith)))
    where
      no_less : 0 < 0 → ⊥
      no_less less = omega arith
  until_few (first ∷ body) (suc zero) few some inside empty = ap (λ (empty : Bool). if empty then 1 else suc (until_last t body)) empty
  until_few (first ∷ body) (suc (suc many)) few some inside empty = absurd (omega arith)

  -- the last of them
  suc_same : (one other : ℕ) → suc one ≡ suc other → one ≡ other
  suc_same one other same = omega arith

  pub last_none : (body : List t.Stmt) → until_last t body ≡ 0 → last_of t body ≡ None
  last_none [] none = refl
  last_none (first ∷ body) none = absurd (some (are_empty t body) none)
    where
      some : (empty : Bool) → (if empty then 1 else suc (until_last t body)) ≡ 0 → ⊥
      some true none = absurd cc
      some false none = absurd cc

  pub last_at : (body : List t.Stmt) (before : ℕ) (stmt : t.Stmt) (rest : List t.Stmt) → until_last t body ≡ suc before → drop before body ≡ stmt ∷ rest →
      last_of t body ≡ ending t (t.clause stmt)
  last_at [] before stmt rest many at = absurd cc
  last_at (first ∷ body) before stmt rest many at = here before (are_empty t body) refl (λ fewer. last_at body fewer stmt rest) many at
    where
      none : are_empty t body ≡ false → until_last t body ≡ 0 → ⊥
      none = by_body body
        where
          by_body : (body : List t.Stmt) → are_empty t body ≡ false → until_last t body ≡ 0 → ⊥
          by_body [] full none = absurd cc
          by_body (first ∷ body) full none = some (are_empty t body) none
            where
              some : (empty : Bool) → (if empty then 1 else suc (until_last t body)) ≡ 0 → ⊥
              some true none = absurd cc
              some false none = absurd cc

      head_same : first ∷ body ≡ stmt ∷ rest → first ≡ stmt
      head_same same = cc

      here : (before : ℕ) (empty : Bool) → are_empty t body ≡ empty →
          ((fewer : ℕ) → until_last t body ≡ suc fewer → drop fewer body ≡ stmt ∷ rest → last_of t body ≡ ending t (t.clause stmt)) →
          (if empty then 1 else suc (until_last t body)) ≡ suc before → drop before (first ∷ body) ≡ stmt ∷ rest →
          (if empty then ending t (t.clause first) else last_of t body) ≡ ending t (t.clause stmt)
      here zero true is deeper many at = ap (λ (stmt : t.Stmt). ending t (t.clause stmt)) (head_same at)
      here (suc before) true is deeper many at = absurd cc
      here zero false is deeper many at = absurd (none is (suc_same (until_last t body) 0 many))
      here (suc before) false is deeper many at = deeper before (suc_same (until_last t body) (suc before) many) at

  pub valued_none : (spare count into : ℕ) (body : List t.Stmt) → until_last t body ≡ 0 → valued_moves t spare count into body ≡ []
  valued_none spare count into [] none = refl
  valued_none spare count into (first ∷ body) none = absurd (some (are_empty t body) none)
    where
      some : (empty : Bool) → (if empty then 1 else suc (until_last t body)) ≡ 0 → ⊥
      some true none = absurd cc
      some false none = absurd cc

  pub valued_at : (spare count into : ℕ) (body : List t.Stmt) (before : ℕ) (stmt : t.Stmt) (rest : List t.Stmt) → until_last t body ≡ suc before → drop before body ≡ stmt ∷ rest →
      valued_moves t spare count into body ≡ map Does (take before body) ++ last_moves t spare count into stmt (t.clause stmt)
  valued_at spare count into [] before stmt rest many at = absurd cc
  valued_at spare count into (first ∷ body) before stmt rest many at =
      here before (are_empty t body) refl (λ fewer. valued_at spare count into body fewer stmt rest) many at
    where
      none : are_empty t body ≡ false → until_last t body ≡ 0 → ⊥
      none = by_body body
        where
          by_body : (body : List t.Stmt) → are_empty t body ≡ false → until_last t body ≡ 0 → ⊥
          by_body [] full none = absurd cc
          by_body (first ∷ body) full none = some (are_empty t body) none
            where
              some : (empty : Bool) → (if empty then 1 else suc (until_last t body)) ≡ 0 → ⊥
              some true none = absurd cc
              some false none = absurd cc

      head_same : first ∷ body ≡ stmt ∷ rest → first ≡ stmt
      head_same same = cc

      here : (before : ℕ) (empty : Bool) → are_empty t body ≡ empty →
          ((fewer : ℕ) → until_last t body ≡ suc fewer → drop fewer body ≡ stmt ∷ rest →
          valued_moves t spare count into body ≡ map Does (take fewer body) ++ last_moves t spare count into stmt (t.clause stmt)) →
          (if empty then 1 else suc (until_last t body)) ≡ suc before → drop before (first ∷ body) ≡ stmt ∷ rest →
          (if empty then last_moves t spare count into first (t.clause first) else Does first ∷ valued_moves t spare count into body)
          ≡ map Does (take before (first ∷ body)) ++ last_moves t spare count into stmt (t.clause stmt)
      here zero true is deeper many at = ap (λ (stmt : t.Stmt). last_moves t spare count into stmt (t.clause stmt)) (head_same at)
      here (suc before) true is deeper many at = absurd cc
      here zero false is deeper many at = absurd (none is (suc_same (until_last t body) 0 many))
      here (suc before) false is deeper many at = ap (λ moves. Does first ∷ moves) (deeper before (suc_same (until_last t body) (suc before) many) at)

-- the same, where it is read by its place
pub at_place : (body : List Stmt) (before : ℕ) (stmt : Stmt) → before < length body → stmt ≡ get_or body before stmt → drop before body ≡ stmt ∷ drop (suc before) body
at_place body before stmt inside at = drop-cons body before stmt inside ∙ ap (λ (first : Stmt). first ∷ drop (suc before) body) (sym at)

pub until_here : (body : List Stmt) (many before : ℕ) (stmt : Stmt) → many ≡ suc before → many ≤ length body → stmt ≡ get_or body before stmt →
    is_empty ((trees Void).clause stmt) ≡ false → are_empty (trees Void) (drop many body) ≡ true → many ≡ until_last (trees Void) body
until_here body many before stmt next inside at full empty =
    next ∙ sym (until_full (trees Void) body before stmt (drop (suc before) body) (at_place body before stmt (omega (arith, next, inside)) at) full
    (ap (λ (count : ℕ). are_empty (trees Void) (drop count body)) (sym next) ∙ empty))

pub last_here : (body : List Stmt) (many before : ℕ) (stmt : Stmt) → many ≡ suc before → many ≡ until_last (trees Void) body → many ≤ length body → stmt ≡ get_or body before stmt →
    ending (trees Void) ((trees Void).clause stmt) ≡ last_of (trees Void) body
last_here body many before stmt next until inside at =
    sym (last_at (trees Void) body before stmt (drop (suc before) body) (sym until ∙ next) (at_place body before stmt (omega (arith, next, inside)) at))

pub taken_length : {A : Type 0} (xs : List A) (n : ℕ) → n ≤ length xs → n ≡ length (take n xs)
taken_length xs zero inside = refl
taken_length [] (suc n) inside = absurd (omega (arith, inside))
taken_length (x ∷ xs) (suc n) inside = ap suc (taken_length xs n (less n (length xs) inside))
  where
    less : (a b : ℕ) → suc a ≤ suc b → a ≤ b
    less a b inside = omega (arith, inside)
