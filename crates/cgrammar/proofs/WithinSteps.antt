-- What a reader gives leaves no more than so many tokens: how that goes through what readers are made of.
use Rattle.std.proofs.Common.{ℕ, zero, suc, ◌≤◌, Bool, true, false, ◌&&◌, not, List, [], ◌∷◌, drop, length, arith, codes}
use Rattle.std.specs.Prelude.{if◌then◌else◌}
use Rattle.cgrammar.specs.Outcomes.{Outcome, Nothing, Stopped, Read, Reader, then_read, continued, with_right, or_else, has_mark, after_first, behind_first}
use Rattle.cgrammar.specs.Phrases.{Context}
use Rattle.cgrammar.specs.ReadLevels.{Level, prepended, read_list, read_until_brace}
use Rattle.cgrammar.specs.Terminals.{Terminal}

abbrev pub Leaves : {A : Type 0} → Outcome A → ℕ → Type 0
Leaves Nothing most = Unit {0}
Leaves (Stopped tree expressions rest) most = length rest ≤ most
Leaves (Read tree levels behind rest) most = length rest ≤ most

abbrev pub Keeps : {A : Type 0} → Reader A → Type 0
Keeps reader = (most : ℕ) (context : Context) (row : List Terminal) → length row ≤ most → Leaves (reader context row) most

pub keep_then : {A B : Type 0} (most : ℕ) (outcome : Outcome A) (go : A → ℕ → Context → List Terminal → Outcome B)
    → Leaves outcome most
    → ((tree : A) (levels : ℕ) (behind : Context) (rest : List Terminal) → length rest ≤ most → Leaves (go tree levels behind rest) most)
    → Leaves (then_read outcome go) most
keep_then most Nothing go is next = tt
keep_then most (Stopped tree expressions rest) go is next = tt
keep_then most (Read tree levels behind rest) go is next = next tree levels behind rest is

pub keep_continued : {A B : Type 0} (most : ℕ) (outcome : Outcome A) (whole : A → B) (go : A → ℕ → Context → List Terminal → Outcome B)
    → Leaves outcome most
    → ((tree : A) (levels : ℕ) (behind : Context) (rest : List Terminal) → length rest ≤ most → Leaves (go tree levels behind rest) most)
    → Leaves (continued outcome whole go) most
keep_continued most Nothing whole go is next = tt
keep_continued most (Stopped tree expressions rest) whole go is next = is
keep_continued most (Read tree levels behind rest) whole go is next = next tree levels behind rest is

pub keep_right : {A B : Type 0} (most : ℕ) (outcome : Outcome A) (without : Outcome B) (whole : A → ℕ → B) (go : A → ℕ → Context → List Terminal → Outcome B)
    → Leaves outcome most → Leaves without most
    → ((tree : A) (levels : ℕ) (behind : Context) (rest : List Terminal) → length rest ≤ most → Leaves (go tree levels behind rest) most)
    → Leaves (with_right outcome without whole go) most
keep_right most Nothing without whole go is other next = other
keep_right most (Stopped tree expressions rest) without whole go is other next = is
keep_right most (Read tree levels behind rest) without whole go is other next = next tree levels behind rest is

pub keep_else : {A B : Type 0} (most : ℕ) (outcome : Outcome A) (without : Outcome B) (go : A → ℕ → Context → List Terminal → Outcome B)
    → Leaves outcome most → Leaves without most
    → ((tree : A) (levels : ℕ) (behind : Context) (rest : List Terminal) → length rest ≤ most → Leaves (go tree levels behind rest) most)
    → Leaves (or_else outcome without go) most
keep_else most Nothing without go is other next = other
keep_else most (Stopped tree expressions rest) without go is other next = other
keep_else most (Read tree levels behind rest) without go is other next = next tree levels behind rest is

pub keep_if : {A : Type 0} (most : ℕ) (test : Bool) (one other : Outcome A) → Leaves one most → Leaves other most → Leaves (if test then one else other) most
keep_if most true first second one other = one
keep_if most false first second one other = other

pub keep_first : {A : Type 0} (most : ℕ) (test : Terminal → Bool) (row : List Terminal) (without : Outcome A) (go : Terminal → List Terminal → Outcome A)
    → length row ≤ most → Leaves without most
    → ((first : Terminal) (others : List Terminal) → length others ≤ most → Leaves (go first others) most)
    → Leaves (after_first test row without go) most
keep_first most test [] without go inside other next = other
keep_first most test (first ∷ others) without go inside other next = keep_if most (test first) _ _ (next first others (omega (arith, inside))) other

pub fewer_behind : (most : ℕ) (row : List Terminal) → length row ≤ most → length (behind_first row) ≤ most
fewer_behind most [] inside = inside
fewer_behind most (first ∷ others) inside = omega (arith, inside)

pub fewer_others : (most : ℕ) (first : Terminal) (others : List Terminal) → length (first ∷ others) ≤ most → length others ≤ most
fewer_others most first others inside = omega (arith, inside)

pub fewer_dropped : (most : ℕ) (count : ℕ) (row : List Terminal) → length row ≤ most → length (drop count row) ≤ most
fewer_dropped most zero row inside = inside
fewer_dropped most (suc count) [] inside = inside
fewer_dropped most (suc count) (first ∷ others) inside = fewer_dropped most count others (omega (arith, inside))

pub keep_prepended : {A : Type 0} (most : ℕ) (tree : A) (levels : ℕ) (outcome : Outcome (List A)) → Leaves outcome most → Leaves (prepended tree levels outcome) most
keep_prepended most tree levels Nothing is = tt
keep_prepended most tree levels (Stopped trees expressions rest) is = tt
keep_prepended most tree levels (Read trees others behind rest) is = is

pub keep_list : {A : Type 0} (closes : List Terminal → Bool) (item : Reader A) (count : ℕ) → Keeps item → Keeps (read_list closes item count)
unfolding read_list
keep_list closes item zero is most context row inside = tt
keep_list closes item (suc count) is most context row inside =
    keep_then most (item context row) _ (is most context row inside) (λ tree levels behind rest within.
    keep_if most (has_mark (codes ",") rest && not (closes (behind_first rest))) _ _
    (keep_prepended most tree levels (read_list closes item count behind (behind_first rest))
    (keep_list closes item count is most behind (behind_first rest) (fewer_behind most rest within)))
    within)

pub keep_until_brace : {A : Type 0} (item : Reader A) (count : ℕ) → Keeps item → Keeps (read_until_brace item count)
unfolding read_until_brace
keep_until_brace item zero is most context row inside = tt
keep_until_brace item (suc count) is most context row inside =
    keep_if most (has_mark (codes "}") row) _ _ inside
    (keep_then most (item context row) _ (is most context row inside) (λ tree levels behind rest within.
    keep_prepended most tree levels (read_until_brace item count behind rest) (keep_until_brace item count is most behind rest within)))

-- each reader of the level keeps within its row
pub record KeepsLevel (inner : Level) : Type 0 where
  pub cast : Keeps inner.cast
  pub operation : (loosest : ℕ) → Keeps (inner.operation loosest)
  pub conditional : Keeps inner.conditional
  pub assignment : Keeps inner.assignment
  pub expression : Keeps inner.expression
  pub specifier : Keeps inner.specifier
  pub initializer : Keeps inner.initializer
  pub clause : Keeps inner.clause
  pub statement : Keeps inner.statement
  pub item : Keeps inner.item
