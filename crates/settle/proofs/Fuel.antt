-- How often graphs are split makes no difference from some number on.
use Rattle.std.proofs.Common.{◌≡◌, ℕ, zero, suc, ◌<◌, ◌≤◌, ◌⊎◌, Bool, true, false, not, ◌||◌, List, [], ◌∷◌, ◌++◌, map, Option, None, Some, refl, sym, ◌∙◌, ap, inl, inr, arith}
use Rattle.std.specs.Prelude.{flat_map, is_some, option_map, count_by}
use Rattle.std.specs.List.{list_any}
use Rattle.std.specs.Option.{option_and_then, option_map_or}
use Rattle.std.proofs.lemmas.Bool.{false≢true, or_parts}
use Rattle.std.proofs.lemmas.Option.{none-some}
use Rattle.graph.specs.declared.value.Value.{Value}
use Rattle.graph.specs.declared.parts.Parts.{Parts}
use Rattle.graph.specs.Renaming.{numbered, renamed_value, object_place, value_place}
use Rattle.graph.specs.WellFormed.{is_within_limits}
use Rattle.graph.specs.Whole.{IsGraph, placed}
use Rattle.graph.proofs.AllPlaced.{HasPlaces-entries}
use Rattle.graph.proofs.Numbered.{numbered_well_formed, numbered_within_limits, ascending_from}
use Rattle.settle.specs.Settled.{value_held, cases_of, cases_by, or_else, first_cases, segments, splits_left, settled_within, is_too_large_within}
use Rattle.settle.proofs.Case.{IsCase, EachOf, each_case}
use Rattle.settle.proofs.Counts.{Among, count_fewer, count_falls, numbered_segments}
use Rattle.settle.proofs.Names.{names_end, cases_named, held_named, held_changed, held_numbered, held_leads, renamed_end}

-- the first register that names a segment
pub record FirstNaming (parts : Parts) (registers : List ℕ) (cases : List Parts) : Type 0 where
  pub register : ℕ
  pub value : Value
  pub among : Among register registers
  pub held : value_held parts register ≡ Some value
  pub has : cases_of parts value ≡ Some cases

pub first_naming : (parts : Parts) (registers : List ℕ) (cases : List Parts) → first_cases parts registers ≡ Some cases → FirstNaming parts registers cases
first_naming parts [] cases is = absurd (none-some cases is)
first_naming parts (register ∷ rest) cases is = by_held (value_held parts register) refl is (λ later. first_naming parts rest cases later)
  where
    further : FirstNaming parts rest cases → FirstNaming parts (register ∷ rest) cases
    further found = record { register = found.register; value = found.value; among = inr found.among; held = found.held; has = found.has }

    by_cases : (value : Value) → value_held parts register ≡ Some value → (found : Option (List Parts)) → cases_of parts value ≡ found → or_else found (first_cases parts rest) ≡ Some cases →
        (first_cases parts rest ≡ Some cases → FirstNaming parts rest cases) → FirstNaming parts (register ∷ rest) cases
    by_cases value held None has is onward = further (onward is)
    by_cases value held (Some own) has is onward = record { register = register; value = value; among = inl refl; held = held; has = has ∙ is }

    by_held : (held : Option Value) → value_held parts register ≡ held → or_else (option_and_then (cases_of parts) held) (first_cases parts rest) ≡ Some cases →
        (first_cases parts rest ≡ Some cases → FirstNaming parts rest cases) → FirstNaming parts (register ∷ rest) cases
    by_held None held is onward = further (onward is)
    by_held (Some value) held is onward = by_cases value held (cases_of parts value) refl is onward

-- a case that is within the limits is a graph
pub case_graph : (parts case : Parts) (value : Value) → IsCase parts case value → is_within_limits case ≡ true → IsGraph (numbered case)
case_graph parts case value is few = record {
  well_formed = numbered_well_formed case is.ascending is.form;
  within_limits = numbered_within_limits case ∙ few;
  ascending = ascending_from (placed case);
  keys = HasPlaces-entries (placed case);
}

-- how many of the registers name a segment
abbrev pub naming_in : List ℕ → Parts → ℕ
naming_in registers parts = count_by (λ register. is_some (cases_by parts register)) registers

module _ (parts case : Parts) (registers : List ℕ) (cases : List Parts) (graph : IsGraph parts) (naming : FirstNaming parts registers cases) (is : IsCase parts case naming.value) where
  through : (held : Option Value) → option_map_or names_end (option_map (renamed_value (object_place case)) held) false ≡ option_map_or names_end held false
  through None = refl
  through (Some value) = renamed_end (object_place case) value

  other_is : (register : ℕ) → is_some (cases_by (numbered case) register) ≡ option_map_or names_end (option_map is.change (value_held parts register)) false
  other_is register =
      held_named (numbered case) register
      ∙ ap (λ (o : Option Value). option_map_or names_end o false) (held_numbered case is.ascending is.form register)
      ∙ through (value_held case register)
      ∙ ap (λ (o : Option Value). option_map_or names_end o false) (held_changed parts case is.change graph.well_formed is.registers is.values register)

  by_held : (held : Option Value) → option_map_or names_end held false ≡ false → option_map_or names_end (option_map is.change held) false ≡ false
  by_held None none = refl
  by_held (Some value) none = is.ends value none

  mono : (register : ℕ) → is_some (cases_by parts register) ≡ false → is_some (cases_by (numbered case) register) ≡ false
  mono register none = other_is register ∙ by_held (value_held parts register) (sym (held_named parts register) ∙ none)

  named : is_some (cases_by parts naming.register) ≡ true
  named = held_named parts naming.register ∙ ap (λ (o : Option Value). option_map_or names_end o false) naming.held ∙ sym (cases_named parts naming.value) ∙ ap is_some naming.has

  -- the segments stay as many where keys become places, no more registers name one, and fewer where the first names a region
  pub segments_same : segments (numbered case) ≡ segments case
  segments_same = numbered_segments (value_place case) 0 case.objects

  pub naming_fewer : naming_in registers (numbered case) ≤ naming_in registers parts
  naming_fewer = count_fewer (λ register. is_some (cases_by parts register)) (λ register. is_some (cases_by (numbered case) register)) mono registers

  pub naming_falls : names_end (is.change naming.value) ≡ false → naming_in registers (numbered case) < naming_in registers parts
  naming_falls gone =
      count_falls (λ register. is_some (cases_by parts register)) (λ register. is_some (cases_by (numbered case) register)) mono registers naming.register naming.among named
      (other_is naming.register ∙ ap (λ (o : Option Value). option_map_or names_end (option_map is.change o) false) naming.held ∙ gone)

  -- fewer splits are left
  by_falls : (segments case < segments parts) ⊎ ((segments case ≡ segments parts) × (names_end (is.change naming.value) ≡ false)) → splits_left registers (numbered case) < splits_left registers parts
  by_falls (inl falls) = let fewer = naming_fewer in let same = segments_same in omega arith
  by_falls (inr stays) = let gone = naming_falls stays.1 in let same = segments_same in let equal = stays.0 in omega arith

  pub splits_fall : splits_left registers (numbered case) < splits_left registers parts
  splits_fall = by_falls is.falls

-- a split is left where a register names a segment
pub some_left : (parts : Parts) (registers : List ℕ) (cases : List Parts) → first_cases parts registers ≡ Some cases → 0 < splits_left registers parts
some_left parts registers cases is =
    let naming = first_naming parts registers cases is in
    let named : is_some (cases_by parts naming.register) ≡ true = ap (λ (o : Option Value). is_some (option_and_then (cases_of parts) o)) naming.held ∙ ap is_some naming.has in
    let falls = count_falls (λ register. is_some (cases_by parts register)) (λ register. false) (λ register none. refl) registers naming.register naming.among named refl in
    omega arith

-- Each of some items.

pub each_map : {X : Type 0} (P Q : X → Type 0) → ((x : X) → P x → Q x) → (xs : List X) → EachOf P xs → EachOf Q xs
each_map P Q implies [] each = tt
each_map P Q implies (x ∷ xs) each = (implies x each.0, each_map P Q implies xs each.1)

pub each_both : {X : Type 0} (P Q : X → Type 0) (xs : List X) → EachOf P xs → EachOf Q xs → EachOf (λ x. P x × Q x) xs
each_both P Q [] one other = tt
each_both P Q (x ∷ xs) one other = ((one.0, other.0), each_both P Q xs one.1 other.1)

pub any_same : {X : Type 0} (f g : X → Bool) (xs : List X) → EachOf (λ x. f x ≡ g x) xs → list_any f xs ≡ list_any g xs
any_same f g [] each = refl
any_same f g (x ∷ xs) each = ap (λ (b : Bool). b || list_any f xs) each.0 ∙ ap (λ (b : Bool). g x || b) (any_same f g xs each.1)

pub none_any : {X : Type 0} (f : X → Bool) (xs : List X) → list_any f xs ≡ false → EachOf (λ x. f x ≡ false) xs
none_any f [] none = tt
none_any f (x ∷ xs) none = let parts = or_parts (f x) (list_any f xs) none in (parts.0, none_any f xs parts.1)

pub flat_same : {X Y : Type 0} (f g : X → List Y) (xs : List X) → EachOf (λ x. f x ≡ g x) xs → flat_map f xs ≡ flat_map g xs
flat_same f g [] each = refl
flat_same {X} {Y} f g (x ∷ xs) each = ap (λ (ys : List Y). ys ++ flat_map f xs) each.0 ∙ ap (λ (ys : List Y). g x ++ ys) (flat_same f g xs each.1)

pub any_mapped : {X Y : Type 0} (f : Y → Bool) (h : X → Y) (xs : List X) → list_any f (map h xs) ≡ list_any (λ x. f (h x)) xs
any_mapped f h [] = refl
any_mapped f h (x ∷ xs) = ap (λ (b : Bool). f (h x) || b) (any_mapped f h xs)

pub flat_mapped : {X Y Z : Type 0} (f : Y → List Z) (h : X → Y) (xs : List X) → flat_map f (map h xs) ≡ flat_map (λ x. f (h x)) xs
flat_mapped f h [] = refl
flat_mapped {X} {Y} {Z} f h (x ∷ xs) = ap (λ (zs : List Z). f (h x) ++ zs) (flat_mapped f h xs)

-- each case is beyond the limits, or a graph with fewer splits left
abbrev pub IsLess : List ℕ → Parts → Parts → Type 0
IsLess registers parts case = is_within_limits case ≡ true → IsGraph (numbered case) × (splits_left registers (numbered case) < splits_left registers parts)

pub each_less : (parts : Parts) (registers : List ℕ) (cases : List Parts) → IsGraph parts → first_cases parts registers ≡ Some cases → EachOf (IsLess registers parts) cases
each_less parts registers cases graph is =
    let naming = first_naming parts registers cases is in
    each_map (λ (case : Parts). is_within_limits case ≡ true → IsCase parts case naming.value) (IsLess registers parts)
    (λ case one few. (case_graph parts case naming.value (one few) few, splits_fall parts case registers cases graph naming (one few))) cases
    (each_case parts graph naming.value (held_leads parts graph.well_formed naming.register naming.value naming.held) cases naming.has)

-- Where none names a segment.

pub none_large : (count : ℕ) (registers : List ℕ) (parts : Parts) → first_cases parts registers ≡ None → is_too_large_within count registers parts ≡ false
none_large zero registers parts none = refl
none_large (suc count) registers parts none = ap (λ (o : Option (List Parts)). option_map_or (list_any (λ case. not (is_within_limits case) || is_too_large_within count registers (numbered case))) o false) none

pub none_settled : (count : ℕ) (registers : List ℕ) (parts : Parts) → first_cases parts registers ≡ None → settled_within count registers parts ≡ parts ∷ []
none_settled zero registers parts none = refl
none_settled (suc count) registers parts none = ap (λ (o : Option (List Parts)). option_map_or (flat_map (λ case. settled_within count registers (numbered case))) o (parts ∷ [])) none

-- Where one does.

abbrev large_case : ℕ → List ℕ → Parts → Bool
large_case count registers case = not (is_within_limits case) || is_too_large_within count registers (numbered case)

some_large : (count : ℕ) (registers : List ℕ) (parts : Parts) (cases : List Parts) → first_cases parts registers ≡ Some cases → is_too_large_within (suc count) registers parts ≡ list_any (large_case count registers) cases
some_large count registers parts cases is = ap (λ (o : Option (List Parts)). option_map_or (list_any (large_case count registers)) o false) is

some_settled : (count : ℕ) (registers : List ℕ) (parts : Parts) (cases : List Parts) → first_cases parts registers ≡ Some cases →
    settled_within (suc count) registers parts ≡ flat_map (λ case. settled_within count registers (numbered case)) cases
some_settled count registers parts cases is = ap (λ (o : Option (List Parts)). option_map_or (flat_map (λ case. settled_within count registers (numbered case))) o (parts ∷ [])) is

same_case : (one other : ℕ) (registers : List ℕ) (case : Parts) → (is_within_limits case ≡ true → is_too_large_within one registers (numbered case) ≡ is_too_large_within other registers (numbered case)) →
    large_case one registers case ≡ large_case other registers case
same_case one other registers case same = by_limits (is_within_limits case) same
  where
    by_limits : (b : Bool) → (b ≡ true → is_too_large_within one registers (numbered case) ≡ is_too_large_within other registers (numbered case)) →
        (not b || is_too_large_within one registers (numbered case)) ≡ (not b || is_too_large_within other registers (numbered case))
    by_limits false same = refl
    by_limits true same = same refl

-- numbers of splits that are large enough make no difference
pub same_large : (one other : ℕ) (registers : List ℕ) (parts : Parts) → IsGraph parts → splits_left registers parts ≤ one → splits_left registers parts ≤ other →
    is_too_large_within one registers parts ≡ is_too_large_within other registers parts
same_large zero other registers parts graph below above = by_cases (first_cases parts registers) refl
  where
    by_cases : (found : Option (List Parts)) → first_cases parts registers ≡ found → is_too_large_within zero registers parts ≡ is_too_large_within other registers parts
    by_cases None is = sym (none_large other registers parts is)
    by_cases (Some cases) is = let left = some_left parts registers cases is in absurd (omega arith)
same_large (suc one) zero registers parts graph below above = by_cases (first_cases parts registers) refl
  where
    by_cases : (found : Option (List Parts)) → first_cases parts registers ≡ found → is_too_large_within (suc one) registers parts ≡ is_too_large_within zero registers parts
    by_cases None is = none_large (suc one) registers parts is
    by_cases (Some cases) is = let left = some_left parts registers cases is in absurd (omega arith)
same_large (suc one) (suc other) registers parts graph below above =
    by_cases (λ case whole few few'. same_large one other registers case whole few few') (first_cases parts registers) refl
  where
    by_cases : ((case : Parts) → IsGraph case → splits_left registers case ≤ one → splits_left registers case ≤ other → is_too_large_within one registers case ≡ is_too_large_within other registers case) →
        (found : Option (List Parts)) → first_cases parts registers ≡ found → is_too_large_within (suc one) registers parts ≡ is_too_large_within (suc other) registers parts
    by_cases onward None is = none_large (suc one) registers parts is ∙ sym (none_large (suc other) registers parts is)
    by_cases onward (Some cases) is =
        some_large one registers parts cases is
        ∙ any_same (large_case one registers) (large_case other registers) cases
        (each_map (IsLess registers parts) (λ (case : Parts). large_case one registers case ≡ large_case other registers case)
        (λ case less. same_case one other registers case (λ few. let there = less few in let falls = there.1 in onward (numbered case) there.0 (omega arith) (omega arith)))
        cases (each_less parts registers cases graph is))
        ∙ sym (some_large other registers parts cases is)

-- a case that is not too large
few_case : (count : ℕ) (registers : List ℕ) (case : Parts) → large_case count registers case ≡ false → (is_within_limits case ≡ true) × (is_too_large_within count registers (numbered case) ≡ false)
few_case count registers case few =
    let parts = or_parts (not (is_within_limits case)) (is_too_large_within count registers (numbered case)) few in
    (by_not (is_within_limits case) parts.0, parts.1)
  where
    by_not : (b : Bool) → not b ≡ false → b ≡ true
    by_not true is = refl
    by_not false is = absurd (false≢true (sym is))

pub same_settled : (one other : ℕ) (registers : List ℕ) (parts : Parts) → IsGraph parts → splits_left registers parts ≤ one → splits_left registers parts ≤ other →
    is_too_large_within one registers parts ≡ false → settled_within one registers parts ≡ settled_within other registers parts
same_settled zero other registers parts graph below above few = by_cases (first_cases parts registers) refl
  where
    by_cases : (found : Option (List Parts)) → first_cases parts registers ≡ found → settled_within zero registers parts ≡ settled_within other registers parts
    by_cases None is = sym (none_settled other registers parts is)
    by_cases (Some cases) is = let left = some_left parts registers cases is in absurd (omega arith)
same_settled (suc one) zero registers parts graph below above few = by_cases (first_cases parts registers) refl
  where
    by_cases : (found : Option (List Parts)) → first_cases parts registers ≡ found → settled_within (suc one) registers parts ≡ settled_within zero registers parts
    by_cases None is = none_settled (suc one) registers parts is
    by_cases (Some cases) is = let left = some_left parts registers cases is in absurd (omega arith)
same_settled (suc one) (suc other) registers parts graph below above few =
    by_cases (λ case whole low high few. same_settled one other registers case whole low high few) (first_cases parts registers) refl
  where
    by_cases : ((case : Parts) → IsGraph case → splits_left registers case ≤ one → splits_left registers case ≤ other → is_too_large_within one registers case ≡ false →
        settled_within one registers case ≡ settled_within other registers case) →
        (found : Option (List Parts)) → first_cases parts registers ≡ found → settled_within (suc one) registers parts ≡ settled_within (suc other) registers parts
    by_cases onward None is = none_settled (suc one) registers parts is ∙ sym (none_settled (suc other) registers parts is)
    by_cases onward (Some cases) is =
        some_settled one registers parts cases is
        ∙ flat_same (λ case. settled_within one registers (numbered case)) (λ case. settled_within other registers (numbered case)) cases
        (each_map (λ case. IsLess registers parts case × (large_case one registers case ≡ false)) (λ (case : Parts). settled_within one registers (numbered case) ≡ settled_within other registers (numbered case))
        (λ case both. let small = few_case one registers case both.1 in let there = both.0 small.0 in let falls = there.1 in onward (numbered case) there.0 (omega arith) (omega arith) small.1)
        cases (each_both (IsLess registers parts) (λ (case : Parts). large_case one registers case ≡ false) cases (each_less parts registers cases graph is)
        (none_any (large_case one registers) cases (sym (some_large one registers parts cases is) ∙ few))))
        ∙ sym (some_settled other registers parts cases is)
