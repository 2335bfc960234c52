-- The turns of the loop, as the calls in it tell of them.
use Rattle.std.proofs.Common.{◌≡◌, ℕ, ◌<◌, true, false, List, [], ◌∷◌, ◌++◌, map, reverse, Option, None, Some, Result, Ok, Err, refl, sym, ◌∙◌, ap, subst}
use Rattle.std.specs.Prelude.{option_map, flat_map, IfOk}
use Rattle.std.specs.List.{list_any}
use Rattle.std.proofs.lemmas.Bool.{false≢true}
use Rattle.std.proofs.lemmas.List.{append-nil}
use Rattle.std.proofs.lemmas.Option.{same_Some, none-some}
use Rattle.graph.specs.declared.parts.Parts.{Parts}
use Rattle.graph.specs.Renaming.{numbered}
use Rattle.graph.specs.Whole.{IsGraph}
use Rattle.settle.specs.Parted.{is_beyond, AreParted}
use Rattle.settle.specs.Settled.{first_cases, name_no_segment, splits_left, settled, is_too_large}
use Rattle.settle.proofs.Fuel.{none_large, none_settled}
use Rattle.settle.proofs.Measure.{turns, done_falls, split_falls}
use Rattle.settle.proofs.Turns.{AreSettled, one_done, one_split, one_large, large_some, large_beyond, settled_some, names_none}

pub none_from : {A B : Type 0} (f : A → B) (found : Option A) → None ≡ option_map f found → found ≡ None
none_from f None is = refl
none_from f (Some item) is = absurd (none-some (f item) is)

-- the graphs that were found, and the cases of which they are
pub record AreFound (found : List Parts) (cases : Option (List Parts)) : Type 0 where
  pub cases_are : List Parts
  pub is : cases ≡ Some cases_are
  pub are : found ≡ map numbered cases_are

pub some_from : (found : List Parts) (cases : Option (List Parts)) → Some found ≡ option_map (map numbered) cases → AreFound found cases
some_from found None is = absurd (none-some found (sym is))
some_from found (Some cases) is = record { cases_are = cases; is = refl; are = same_Some _ _ is }

-- a case beyond the limits is one of some cases
pub some_beyond : (cases : Option (List Parts)) → is_beyond cases ≡ true → AreFound (elim cases as (λ o. List Parts) [ None ↦ [] | Some own ↦ map numbered own ]) cases
some_beyond None beyond = absurd (false≢true beyond)
some_beyond (Some cases) beyond = record { cases_are = cases; is = refl; are = refl }

module _ (registers : List ℕ) (start done items rest : List Parts) (graph : Parts) (whole : IsGraph graph) (items_are : items ≡ rest ++ graph ∷ []) (before : AreSettled registers start done items) where
  last : AreSettled registers start done (rest ++ graph ∷ [])
  last = subst (λ (xs : List Parts). AreSettled registers start done xs) items_are before

  falls : {less : ℕ} → less < turns registers (rest ++ graph ∷ []) → less < turns registers items
  falls {less} below = subst (λ (xs : List Parts). less < turns registers xs) (sym items_are) below

  pub loop_done : None ≡ option_map (map numbered) (first_cases graph registers) → AreSettled registers start (done ++ graph ∷ []) rest
  loop_done none = one_done registers start done rest graph whole last (none_from (map numbered) (first_cases graph registers) none)

  pub loop_done_falls : turns registers rest < turns registers items
  loop_done_falls = falls (done_falls registers rest graph)

  module _ (found : List Parts) (told : Some found ≡ option_map (map numbered) (first_cases graph registers)) (within : is_beyond (first_cases graph registers) ≡ false) where
    own : AreFound found (first_cases graph registers)
    own = some_from found (first_cases graph registers) told

    within_own : is_beyond (Some own.cases_are) ≡ false
    within_own = sym (ap is_beyond own.is) ∙ within

    pub loop_split : AreParted graph found → AreSettled registers start done (rest ++ reverse found)
    loop_split parted = one_split registers start done rest graph whole last own.cases_are found own.is own.are within_own parted

    pub loop_split_falls : turns registers (rest ++ reverse found) < turns registers items
    loop_split_falls = falls (split_falls registers rest graph own.cases_are found whole own.is own.are within_own)

  pub loop_large : is_beyond (first_cases graph registers) ≡ true → list_any (is_too_large registers) start ≡ true
  loop_large beyond =
      let own = some_beyond (first_cases graph registers) beyond in
      one_large registers start done rest graph whole last own.cases_are own.is (sym (ap is_beyond own.is) ∙ beyond)

-- where nothing is left
pub loop_end : (P : List Parts → Type 0) (done left : List Parts) → left ≡ [] → P (done ++ reverse left) → P done
loop_end P done left none holds = subst P (ap (λ (xs : List Parts). done ++ reverse xs) none ∙ append-nil done) holds

-- What the first split comes to.

module _ (registers : List ℕ) (graph : Parts) (whole : IsGraph graph) where
  pub top_none : None ≡ option_map (map numbered) (first_cases graph registers) → (settled registers graph ≡ graph ∷ []) × (is_too_large registers graph ≡ false) × (name_no_segment registers graph ≡ true)
  top_none told =
      let none = none_from (map numbered) (first_cases graph registers) told in
      (none_settled (splits_left registers graph) registers graph none, none_large (splits_left registers graph) registers graph none, names_none graph registers whole.well_formed none)

  pub top_beyond : is_beyond (first_cases graph registers) ≡ true → is_too_large registers graph ≡ true
  top_beyond beyond =
      let own = some_beyond (first_cases graph registers) beyond in
      large_beyond graph registers own.cases_are whole own.is (sym (ap is_beyond own.is) ∙ beyond)

  module _ (found : List Parts) (told : Some found ≡ option_map (map numbered) (first_cases graph registers)) (within : is_beyond (first_cases graph registers) ≡ false) where
    top : AreFound found (first_cases graph registers)
    top = some_from found (first_cases graph registers) told

    pub top_large : is_too_large registers graph ≡ list_any (is_too_large registers) found
    top_large = large_some graph registers top.cases_are whole top.is (sym (ap is_beyond top.is) ∙ within) ∙ ap (list_any (is_too_large registers)) (sym top.are)

    pub top_settled : list_any (is_too_large registers) found ≡ false → flat_map (settled registers) found ≡ settled registers graph
    top_settled few = ap (flat_map (settled registers)) top.are ∙ sym (settled_some graph registers top.cases_are whole top.is (top_large ∙ few))

-- two facts of one result
pub both_ok : {T E : Type 0} (result : Result T E) (P Q R : T → Type 0) → IfOk result P → IfOk result Q → ((x : T) → P x → Q x → R x) → IfOk result R
both_ok (Ok x) P Q R one other onward = onward x one other
both_ok (Err e) P Q R one other onward = tt
