-- Lists, stars, tags and commas are read as the grammar spells them.
use Rattle.std.proofs.Common.{◌≡◌, ℕ, zero, suc, ◌≤◌, inl, inr, Bool, true, false, ◌&&◌, not, List, [], ◌∷◌, ◌++◌, take, length, refl, ap, sym, ◌∙◌, subst, arith, codes, None, Some, map}
use Rattle.std.specs.Prelude.{if◌then◌else◌}
use Rattle.ctrees.specs.Levels.{depth}
use Rattle.ctrees.specs.Weight.{joined}
use Rattle.cgrammar.proofs.Fronts.{stars_are_stars, stars_within}
use Rattle.cgrammar.proofs.SoundSteps.{Splits, split_none, split_last, split_first, split_more, split_taken, Reads, sound_nothing, made, sound_then, sound_if, sound_prepended, first_of, larger, larger_fits}
use Rattle.cgrammar.proofs.TreeLevels.{joined_one}
use Rattle.cgrammar.proofs.Truth.{and-left, or-false-right}
use Rattle.cgrammar.specs.Firsts.{is_among, type_words, storage_words, begins_type, begins_declaration}
use Rattle.cgrammar.specs.Grammar.{IsTag, IsMaybeComma}
use Rattle.cgrammar.specs.Outcomes.{Reader, has_first, has_mark, behind_first}
use Rattle.cgrammar.specs.Phrases.{Context}
use Rattle.cgrammar.specs.ReadLevels.{read_list, read_until_brace}
use Rattle.cgrammar.specs.ReadTypes.{star_count, behind_stars, behind_comma, tag_at, behind_tag}
use Rattle.cgrammar.specs.Scope.{Names}
use Rattle.cgrammar.specs.Terminals.{Terminal, is_mark, IsMark, is_name, is_typedef, begins_with_typedef, IsNoType, AreStars}
use Rattle.cgrammar.specs.Trees.{identifier}

abbrev pub levels_of_all : {A : Type 0} → (A → ℕ) → List A → ℕ
levels_of_all levels trees = joined depth (map levels trees)

pub sound_list : {A : Type 0} (says : A → Context → List Terminal → Context → List Terminal → Type 0) (tells : List A → Context → List Terminal → Context → List Terminal → Type 0) (levels : A → ℕ) (most : ℕ)
    (closes : List Terminal → Bool) (item : Reader A) (count : ℕ)
    → Reads says levels most item
    → ((tree : A) (before behind : Context) (front rest : List Terminal) → says tree before front behind rest → tells (tree ∷ []) before front behind rest)
    → ((tree : A) (trees : List A) (comma : Terminal) (before middle behind : Context) (front others between rest : List Terminal) → says tree before front middle (comma ∷ between) → IsMark (codes ",") comma → tells trees middle others behind rest
    → tells (tree ∷ trees) before (front ++ (comma ∷ others)) behind rest)
    → Reads tells (levels_of_all levels) most (read_list closes item count)
unfolding read_list
sound_list says tells levels most closes item zero is one more context row = sound_nothing
sound_list says tells levels most closes item (suc count) is one more context row =
    sound_then (item context row) _ (is context row) (λ tree deep behind rest read.
    sound_if (has_mark (codes ",") rest && not (closes (behind_first rest))) _ _
    (λ goes.
    let comma = first_of (is_mark (codes ",")) rest (and-left (has_mark (codes ",") rest) (not (closes (behind_first rest))) goes) in
    sound_prepended tree deep (read_list closes item count behind (behind_first rest)) (sound_list says tells levels most closes item count is one more behind (behind_first rest)) (λ trees others last end read_others.
    made (split_more read.whole (split_first comma.1 read_others.whole))
    (more tree trees comma.0 context behind last read.front read_others.front (behind_first rest) end (subst (λ (row : List Terminal). says tree context read.front behind row) comma.1 read.spelled) comma.2 read_others.spelled)
    (larger read.same read_others.same)
    (larger_fits read.fits read_others.fits)))
    (λ ends. made read.whole (one tree context behind read.front rest read.spelled) (read.same ∙ sym (joined_one (levels tree))) read.fits))

pub sound_until_brace : {A : Type 0} (says : A → Context → List Terminal → Context → List Terminal → Type 0) (tells : List A → Context → List Terminal → Context → List Terminal → Type 0) (levels : A → ℕ) (most : ℕ)
    (item : Reader A) (count : ℕ)
    → Reads says levels most item
    → ((before : Context) (row : List Terminal) → has_mark (codes "}") row ≡ true → tells [] before [] before row)
    → ((tree : A) (trees : List A) (before middle behind : Context) (front others between rest : List Terminal) → says tree before front middle between → tells trees middle others behind rest
    → tells (tree ∷ trees) before (front ++ others) behind rest)
    → Reads tells (levels_of_all levels) most (read_until_brace item count)
unfolding read_until_brace
sound_until_brace says tells levels most item zero is none more context row = sound_nothing
sound_until_brace says tells levels most item (suc count) is none more context row =
    sound_if (has_mark (codes "}") row) _ _
    (λ ends. made (split_none row) (none context row ends) refl (omega arith))
    (λ goes. sound_then (item context row) _ (is context row) (λ tree deep behind rest read.
    sound_prepended tree deep (read_until_brace item count behind rest) (sound_until_brace says tells levels most item count is none more behind rest) (λ trees others last end read_others.
    made (split_more read.whole read_others.whole)
    (more tree trees context behind last read.front read_others.front rest end read.spelled read_others.spelled)
    (larger read.same read_others.same)
    (larger_fits read.fits read_others.fits))))

-- the stars at the front of a row
pub record Stars (row : List Terminal) : Type 0 where
  pub stars : List Terminal
  pub split : Splits row stars (behind_stars row)
  pub are : AreStars stars
  pub counted : length stars ≡ star_count row

length_taken : (count : ℕ) (row : List Terminal) → count ≤ length row → length (take count row) ≡ count
length_taken zero row inside = refl
length_taken (suc count) [] inside = absurd (omega (arith, inside))
length_taken (suc count) (first ∷ others) inside = let more = length_taken count others (omega (arith, inside)) in omega (arith, more)

pub stars_of : (row : List Terminal) → Stars row
stars_of row = record {
  stars = take (star_count row) row;
  split = split_taken (star_count row) row;
  are = stars_are_stars row;
  counted = length_taken (star_count row) row (stars_within row);
}

-- the tag at the front of a row
pub record Tag (row : List Terminal) : Type 0 where
  pub tag : List Terminal
  pub split : Splits row tag (behind_tag row)
  pub is : IsTag tag (tag_at row)

pub tag_of_row : (row : List Terminal) → Tag row
tag_of_row [] = record { tag = []; split = split_none []; is = refl }
tag_of_row (first ∷ others) =
    let found = step (is_name first) refl in
    record { tag = found.0; split = found.1; is = found.2 }
  where
    step : (named : Bool) → is_name first ≡ named → (tag : List Terminal) × Splits (first ∷ others) tag (if named then others else first ∷ others) × IsTag tag (if named then Some (identifier first) else None)
    step true is = (first ∷ [], split_last refl, (first, refl, is, refl))
    step false is = ([], split_none (first ∷ others), refl)

-- the comma before a closing brace
pub record MaybeComma (row : List Terminal) : Type 0 where
  pub last : List Terminal
  pub split : Splits row last (behind_comma row)
  pub is : IsMaybeComma last

pub comma_of_row : (row : List Terminal) → MaybeComma row
comma_of_row [] = record { last = []; split = split_none []; is = inl refl }
comma_of_row (first ∷ others) =
    let found = step (is_mark (codes ",") first) refl in
    record { last = found.0; split = found.1; is = found.2 }
  where
    step : (comma : Bool) → is_mark (codes ",") first ≡ comma → (last : List Terminal) × Splits (first ∷ others) last (if comma then others else first ∷ others) × IsMaybeComma last
    step true is = (first ∷ [], split_last refl, inr (first, refl, is))
    step false is = ([], split_none (first ∷ others), inl refl)

-- a row that begins with no typedef's name
pub no_type : (scopes : List Names) (row front rest : List Terminal) → Splits row front rest → begins_with_typedef scopes row ≡ false → IsNoType scopes front
no_type scopes row [] rest split begins = refl
no_type scopes row (first ∷ others) rest split begins = ap not (sym (ap (begins_with_typedef scopes) split.is) ∙ begins)

pub no_typedef : (scopes : List Names) (row : List Terminal) → has_first (begins_type scopes) row ≡ false → begins_with_typedef scopes row ≡ false
no_typedef scopes [] is = refl
no_typedef scopes (first ∷ others) is = or-false-right (is_among type_words first) (is_typedef scopes first) is

pub no_declaration : (scopes : List Names) (row : List Terminal) → has_first (begins_declaration scopes) row ≡ false → has_first (begins_type scopes) row ≡ false
no_declaration scopes [] is = refl
no_declaration scopes (first ∷ others) is = or-false-right (is_among storage_words first) (begins_type scopes first) is
