-- What a reader gives where the outcome of what it calls, or the test that it makes, is known.
use Rattle.std.proofs.Common.{◌≡◌, ℕ, zero, suc, ◌<◌, Bool, true, false, ◌&&◌, not, refl, ap, ◌∙◌, List, [], ◌∷◌, ◌++◌, length, codes, cond, IsTrue, inl, inr, arith, append_assoc}
use Rattle.std.specs.Prelude.{max}
use Rattle.std.proofs.lemmas.List.{length-append}
use Rattle.cgrammar.proofs.Reached.{Goes, Ends}
use Rattle.cgrammar.proofs.Truth.{and-both, clash, not-true}
use Rattle.cgrammar.specs.Outcomes.{Outcome, Read, Reader, then_read, has_first, after_first, has_mark, behind_first}
use Rattle.cgrammar.specs.Phrases.{Context}
use Rattle.cgrammar.specs.ReadLevels.{prepended, read_list, read_until_brace}
use Rattle.cgrammar.specs.Terminals.{Terminal, is_mark}

-- one step: a test that is known, and a tree that is read
pub go_true : {B : Type 0} {test : Bool} {yes result : B} (other : B) → test ≡ true → yes ≡ result → cond test yes other ≡ result
go_true {yes} other is more = ap (λ (b : Bool). cond b yes other) is ∙ more

pub go_false : {B : Type 0} {test : Bool} {other result : B} (without : B) → test ≡ false → other ≡ result → cond test without other ≡ result
go_false {other = other} without is more = ap (λ (b : Bool). cond b without other) is ∙ more

pub go_read : {A B : Type 0} {outcome : Outcome A} {tree : A} {levels : ℕ} {behind : Context} {rest : List Terminal} {result : Outcome B} (go : A → ℕ → Context → List Terminal → Outcome B)
    → outcome ≡ Read tree levels behind rest → go tree levels behind rest ≡ result → then_read outcome go ≡ result
go_read go is more = ap (λ o. then_read o go) is ∙ more

pub go_past : {B : Type 0} (test : Terminal → Bool) (row : List Terminal) (without : Outcome B) (go : Terminal → List Terminal → Outcome B) → has_first test row ≡ false → after_first test row without go ≡ without
go_past test [] without go is = refl
go_past test (first ∷ others) without go is = ap (λ (b : Bool). cond b (go first others) without) is

pub go_prepended : {A : Type 0} {others : ℕ} {outcome : Outcome (List A)} {trees : List A} {behind : Context} {rest : List Terminal} {result : Outcome (List A)} (tree : A) (levels : ℕ)
    → outcome ≡ Read trees others behind rest → Read (tree ∷ trees) (max levels others) behind rest ≡ result → prepended tree levels outcome ≡ result
go_prepended tree levels is more = ap (λ o. prepended tree levels o) is ∙ more

-- truth values
pub not_is : (b : Bool) → b ≡ false → IsTrue (not b)
not_is b is = ap not is

-- a row that ends what was read
pub ends_first : (test : Terminal → Bool) (rest : List Terminal) → Ends test rest → has_first test rest ≡ false
ends_first test rest is = not-true (has_first test rest) is

pub ends_by : (test : Terminal → Bool) (rest : List Terminal) → has_first test rest ≡ false → Ends test rest
ends_by test rest is = not_is (has_first test rest) is

-- it ends what less goes on with
pub ends_less : (test less : Terminal → Bool) (rest : List Terminal) → ((token : Terminal) → test token ≡ false → less token ≡ false) → Ends test rest → Ends less rest
ends_less test less [] each is = refl
ends_less test less (first ∷ rest) each is = not_is (less first) (each first (not-true (test first) is))

-- where nothing goes on, exactly the tree is read
pub exactly : {A : Type 0} (test : Terminal → Bool) (tree : A) (levels : ℕ) (after : Context) (rest : List Terminal) (outcome : Outcome A)
    → Goes test tree levels after rest outcome → Ends test rest → outcome ≡ Read tree levels after rest
exactly test tree levels after rest outcome (inl is) ends = is
exactly test tree levels after rest outcome (inr goes) ends = absurd (clash (has_first test rest) goes.0 (ends_first test rest ends))

-- lists: one item, one item and a comma, items up to a brace
pub list_of_one : {A : Type 0} (closes : List Terminal → Bool) (item : Reader A) (count : ℕ) (before : Context) (row : List Terminal) (tree : A) (levels : ℕ) (after : Context) (rest : List Terminal)
    → length row < count → item before row ≡ Read tree levels after rest → (has_mark (codes ",") rest && not (closes (behind_first rest))) ≡ false
    → read_list closes item count before row ≡ Read (tree ∷ []) levels after rest
unfolding read_list
list_of_one closes item zero before row tree levels after rest enough is ends = absurd (omega (arith, enough))
list_of_one closes item (suc count) before row tree levels after rest enough is ends = go_read _ is (go_false _ ends refl)

pub list_of_more : {A : Type 0} (closes : List Terminal → Bool) (item : Reader A) (count : ℕ) (before : Context) (row : List Terminal) (tree : A) (levels : ℕ) (middle : Context) (comma : Terminal) (others : List Terminal)
    (trees : List A) (deeper : ℕ) (after : Context) (rest : List Terminal)
    → item before row ≡ Read tree levels middle (comma ∷ others) → IsTrue (is_mark (codes ",") comma) → closes others ≡ false
    → read_list closes item count middle others ≡ Read trees deeper after rest
    → read_list closes item (suc count) before row ≡ Read (tree ∷ trees) (max levels deeper) after rest
unfolding read_list
list_of_more closes item count before row tree levels middle comma others trees deeper after rest is comma-is open-is further =
    go_read _ is (go_true _ (and-both comma-is (not_is (closes others) open-is)) (go_prepended _ _ further refl))

pub braces_of_none : {A : Type 0} (item : Reader A) (count : ℕ) (before : Context) (rest : List Terminal)
    → length rest < count → IsTrue (has_mark (codes "}") rest) → read_until_brace item count before rest ≡ Read [] 0 before rest
unfolding read_until_brace
braces_of_none item zero before rest enough is = absurd (omega (arith, enough))
braces_of_none item (suc count) before rest enough is = go_true _ is refl

pub braces_of_more : {A : Type 0} (item : Reader A) (count : ℕ) (before : Context) (row : List Terminal) (tree : A) (levels : ℕ) (middle : Context) (others : List Terminal) (trees : List A) (deeper : ℕ) (after : Context) (rest : List Terminal)
    → has_mark (codes "}") row ≡ false → item before row ≡ Read tree levels middle others → read_until_brace item count middle others ≡ Read trees deeper after rest
    → read_until_brace item (suc count) before row ≡ Read (tree ∷ trees) (max levels deeper) after rest
unfolding read_until_brace
braces_of_more item count before row tree levels middle others trees deeper after rest open-is is further =
    go_false _ open-is (go_read _ is (go_prepended _ _ further refl))

-- rows
pub row_of_two : (xs ys rest : List Terminal) → (xs ++ ys) ++ rest ≡ xs ++ (ys ++ rest)
row_of_two xs ys rest = append_assoc xs ys rest

pub row_of_three : (xs ys zs rest : List Terminal) → (xs ++ (ys ++ zs)) ++ rest ≡ xs ++ (ys ++ (zs ++ rest))
row_of_three xs ys zs rest = append_assoc xs (ys ++ zs) rest ∙ ap (λ (row : List Terminal). xs ++ row) (append_assoc ys zs rest)

-- a row with a token in it is shorter behind the token
pub shorter_behind : (xs : List Terminal) (token : Terminal) (ys : List Terminal) → length ys < length (xs ++ (token ∷ ys))
shorter_behind xs token ys = let all = length-append xs (token ∷ ys) in omega (arith, all)
