-- The graphs that are done and those that are left, with each turn.
use Rattle.std.proofs.Common.{◌≡◌, ℕ, zero, suc, ◌<◌, Bool, true, false, not, ◌||◌, ◌&&◌, List, [], ◌∷◌, ◌++◌, map, reverse, Option, None, Some, refl, sym, ◌∙◌, ap, subst, arith}
use Rattle.std.specs.Prelude.{flat_map}
use Rattle.std.specs.List.{All, list_any}
use Rattle.std.specs.Option.{option_and_then, option_map_or}
use Rattle.std.proofs.lemmas.Bool.{false≢true, or_parts}
use Rattle.std.proofs.lemmas.List.{append_assoc, reverse-append, reverse-reverse}
use Rattle.std.proofs.lemmas.List.Elements.{All-nil, All-cons, All-append}
use Rattle.std.proofs.lemmas.List.Folds.{list_any-append}
use Rattle.std.proofs.lemmas.Option.{none-some}
use Rattle.graph.specs.declared.value.Target.TheVariants.{Region, First, Last, Each}
use Rattle.graph.specs.declared.value.Value.{Value}
use Rattle.graph.specs.declared.value.Value.TheVariants.{Const, Number, Any, Address}
use Rattle.graph.specs.declared.parts.Parts.{Parts}
use Rattle.graph.specs.Renaming.{numbered}
use Rattle.graph.specs.WellFormed.{is_within_limits, IsWellFormed, may_be_held}
use Rattle.graph.specs.Whole.{IsGraph}
use Rattle.changes.specs.Reaching.{names_no_segment}
use Rattle.settle.specs.Parted.{is_beyond, AreParted}
use Rattle.settle.specs.Settled.{value_held, cases_of, or_else, first_cases, name_no_segment, splits_left, settled_within, settled, is_too_large_within, is_too_large}
use Rattle.settle.proofs.Fuel.{IsLess, each_less, each_map, each_both, any_same, none_any, flat_same, any_mapped, flat_mapped, none_large, none_settled, some_left, same_large, same_settled}
use Rattle.settle.proofs.Names.{held_may}
use Rattle.settle.proofs.Parted.{parted_split}

pub within_not : (case : Parts) → not (is_within_limits case) ≡ false → is_within_limits case ≡ true
within_not case few = by_not (is_within_limits case) few
  where
    by_not : (b : Bool) → not b ≡ false → b ≡ true
    by_not true is = refl
    by_not false is = absurd (false≢true (sym is))

-- What a graph is by its cases.
module _ (parts : Parts) (registers : List ℕ) (cases : List Parts) (graph : IsGraph parts) (is : first_cases parts registers ≡ Some cases) where
  -- one is left at least
  by_left : (P : ℕ → Type 0) → ((count : ℕ) → splits_left registers parts ≡ suc count → P (suc count)) → P (splits_left registers parts)
  by_left P more = by_number (splits_left registers parts) refl (some_left parts registers cases is)
    where
      by_number : (number : ℕ) → splits_left registers parts ≡ number → 0 < number → P number
      by_number zero is positive = absurd (omega arith)
      by_number (suc count) is positive = more count is

  abbrev large_case : ℕ → Parts → Bool
  large_case count case = not (is_within_limits case) || is_too_large_within count registers (numbered case)

  pub large_some : is_beyond (Some cases) ≡ false → is_too_large registers parts ≡ list_any (is_too_large registers) (map numbered cases)
  large_some within =
      by_left (λ count. is_too_large_within count registers parts ≡ list_any (is_too_large registers) (map numbered cases))
      (λ count left. ap (λ (o : Option (List Parts)). option_map_or (list_any (large_case count)) o false) is
      ∙ any_same (large_case count) (λ case. is_too_large registers (numbered case)) cases
      (each_map (λ case. IsLess registers parts case × (not (is_within_limits case) ≡ false)) (λ (case : Parts). large_case count case ≡ is_too_large registers (numbered case))
      (λ case both.
      let there = both.0 (within_not case both.1) in
      let falls = there.1 in
      ap (λ (b : Bool). b || is_too_large_within count registers (numbered case)) both.1
      ∙ same_large count (splits_left registers (numbered case)) registers (numbered case) there.0 (omega arith) (omega arith))
      cases (each_both (IsLess registers parts) (λ (case : Parts). not (is_within_limits case) ≡ false) cases (each_less parts registers cases graph is)
      (none_any (λ case. not (is_within_limits case)) cases within)))
      ∙ sym (any_mapped (is_too_large registers) numbered cases))

  pub large_beyond : is_beyond (Some cases) ≡ true → is_too_large registers parts ≡ true
  large_beyond beyond =
      by_left (λ count. is_too_large_within count registers parts ≡ true)
      (λ count left. ap (λ (o : Option (List Parts)). option_map_or (list_any (large_case count)) o false) is ∙ any_more count cases beyond)
    where
      any_more : (count : ℕ) (xs : List Parts) → list_any (λ case. not (is_within_limits case)) xs ≡ true → list_any (large_case count) xs ≡ true
      any_more count [] any = any
      any_more count (x ∷ xs) any = by_one (not (is_within_limits x)) any (λ later. any_more count xs later)
        where
          by_two : (c d : Bool) → d ≡ true → (c || d) ≡ true
          by_two true d is = refl
          by_two false d is = is

          by_one : (b : Bool) → (b || list_any (λ case. not (is_within_limits case)) xs) ≡ true →
              (list_any (λ case. not (is_within_limits case)) xs ≡ true → list_any (large_case count) xs ≡ true) → ((b || is_too_large_within count registers (numbered x)) || list_any (large_case count) xs) ≡ true
          by_one true any onward = refl
          by_one false any onward = by_two (is_too_large_within count registers (numbered x)) (list_any (large_case count) xs) (onward any)

  pub settled_some : is_too_large registers parts ≡ false → settled registers parts ≡ flat_map (settled registers) (map numbered cases)
  settled_some =
      by_left (λ count. is_too_large_within count registers parts ≡ false → settled_within count registers parts ≡ flat_map (settled registers) (map numbered cases))
      (λ count left few. ap (λ (o : Option (List Parts)). option_map_or (flat_map (λ case. settled_within count registers (numbered case))) o (parts ∷ [])) is
      ∙ flat_same (λ case. settled_within count registers (numbered case)) (λ case. settled registers (numbered case)) cases
      (each_map (λ case. IsLess registers parts case × (large_case count case ≡ false)) (λ (case : Parts). settled_within count registers (numbered case) ≡ settled registers (numbered case))
      (λ case both.
      let small = or_parts (not (is_within_limits case)) (is_too_large_within count registers (numbered case)) both.1 in
      let there = both.0 (within_not case small.0) in
      let falls = there.1 in
      same_settled count (splits_left registers (numbered case)) registers (numbered case) there.0 (omega arith) (omega arith) small.1)
      cases (each_both (IsLess registers parts) (λ (case : Parts). large_case count case ≡ false) cases (each_less parts registers cases graph is)
      (none_any (large_case count) cases (sym (ap (λ (o : Option (List Parts)). option_map_or (list_any (large_case count)) o false) is) ∙ few))))
      ∙ sym (flat_mapped (settled registers) numbered cases))

-- Where none names a segment.

no_end : (parts : Parts) (value : Value) → cases_of parts value ≡ None → may_be_held value ≡ true → names_no_segment value ≡ true
no_end parts (Const number size) is may = refl
no_end parts (Number size) is may = refl
no_end parts Any is may = refl
no_end parts (Address object offset Region) is may = refl
no_end parts (Address object offset First) is may = absurd (none-some _ (sym is))
no_end parts (Address object offset Last) is may = absurd (none-some _ (sym is))
no_end parts (Address object offset Each) is may = absurd (false≢true may)

pub names_none : (parts : Parts) (registers : List ℕ) → IsWellFormed parts → first_cases parts registers ≡ None → name_no_segment registers parts ≡ true
names_none parts [] form none = refl
names_none parts (register ∷ rest) form none = by_held (value_held parts register) refl none (λ later. names_none parts rest form later)
  where
    by_cases : (value : Value) → value_held parts register ≡ Some value → (found : Option (List Parts)) → cases_of parts value ≡ found → or_else found (first_cases parts rest) ≡ None →
        (first_cases parts rest ≡ None → name_no_segment rest parts ≡ true) → (names_no_segment value && name_no_segment rest parts) ≡ true
    by_cases value held None has none onward =
        ap (λ (b : Bool). b && name_no_segment rest parts) (no_end parts value has (held_may parts form register value held)) ∙ onward none
    by_cases value held (Some cases) has none onward = absurd (none-some _ (sym none))

    by_held : (held : Option Value) → value_held parts register ≡ held → or_else (option_and_then (cases_of parts) held) (first_cases parts rest) ≡ None →
        (first_cases parts rest ≡ None → name_no_segment rest parts ≡ true) → (option_map_or names_no_segment held true && name_no_segment rest parts) ≡ true
    by_held None held none onward = onward none
    by_held (Some value) held none onward = by_cases value held (cases_of parts value) refl none onward

-- The turns of the loop. What is left stands the last one first.

-- what holds of the graphs that are done and of those that are left, where the loop began with others
pub record AreSettled (registers : List ℕ) (start done left : List Parts) : Type 0 where
  pub order : list_any (is_too_large registers) start ≡ false → done ++ flat_map (settled registers) (reverse left) ≡ flat_map (settled registers) (reverse start)
  pub large : list_any (is_too_large registers) left ≡ list_any (is_too_large registers) start
  pub names : All (λ graph. name_no_segment registers graph ≡ true) done
  pub parted : (parts : Parts) → AreParted parts (reverse start) → AreParted parts (done ++ reverse left)

pub at_start : (registers : List ℕ) (start : List Parts) → AreSettled registers start [] start
at_start registers start = record {
  order = λ few. refl;
  large = refl;
  names = All-nil (λ graph. name_no_segment registers graph ≡ true);
  parted = λ parts whole. whole;
}

-- the last one
reverse_last : (rest : List Parts) (graph : Parts) → reverse (rest ++ graph ∷ []) ≡ graph ∷ reverse rest
reverse_last rest graph = reverse-append rest (graph ∷ [])

any_last : (f : Parts → Bool) (rest : List Parts) (graph : Parts) → list_any f (rest ++ graph ∷ []) ≡ (list_any f rest || (f graph || false))
any_last f rest graph = list_any-append f rest (graph ∷ [])

or_false : (b : Bool) → (b || false) ≡ b
or_false true = refl
or_false false = refl

or_swap : (b c : Bool) → (b || c) ≡ (c || b)
or_swap true true = refl
or_swap true false = refl
or_swap false true = refl
or_swap false false = refl

pub any_reverse : (f : Parts → Bool) (xs : List Parts) → list_any f (reverse xs) ≡ list_any f xs
any_reverse f [] = refl
any_reverse f (x ∷ xs) =
    ap (list_any f) (reverse-append (x ∷ []) xs)
    ∙ list_any-append f (reverse xs) (x ∷ [])
    ∙ ap (λ (b : Bool). list_any f (reverse xs) || b) (or_false (f x))
    ∙ or_swap (list_any f (reverse xs)) (f x)
    ∙ ap (λ (b : Bool). f x || b) (any_reverse f xs)

flat_append : {X Y : Type 0} (f : X → List Y) (xs ys : List X) → flat_map f (xs ++ ys) ≡ flat_map f xs ++ flat_map f ys
flat_append f [] ys = refl
flat_append f (x ∷ xs) ys = ap (λ zs. f x ++ zs) (flat_append f xs ys) ∙ sym (append_assoc (f x) (flat_map f xs) (flat_map f ys))

module _ (registers : List ℕ) (start done rest : List Parts) (graph : Parts) (whole : IsGraph graph) (before : AreSettled registers start done (rest ++ graph ∷ [])) where
  abbrev Names : Parts → Type 0
  Names parts = name_no_segment registers parts ≡ true

  -- it is done
  pub one_done : first_cases graph registers ≡ None → AreSettled registers start (done ++ graph ∷ []) rest
  one_done none = record {
    order = λ few.
        append_assoc done (graph ∷ []) (flat_map (settled registers) (reverse rest))
        ∙ ap (λ (own : List Parts). done ++ (own ++ flat_map (settled registers) (reverse rest))) (sym (none_settled (splits_left registers graph) registers graph none))
        ∙ ap (λ (graphs : List Parts). done ++ flat_map (settled registers) graphs) (sym (reverse_last rest graph))
        ∙ before.order few;
    large =
        sym (any_last (is_too_large registers) rest graph
        ∙ ap (λ (b : Bool). list_any (is_too_large registers) rest || (b || false)) (none_large (splits_left registers graph) registers graph none)
        ∙ or_false (list_any (is_too_large registers) rest))
        ∙ before.large;
    names = All-append Names done (graph ∷ []) before.names (All-cons Names graph [] (names_none graph registers whole.well_formed none) (All-nil Names));
    parted = λ parts at_first.
        subst (AreParted parts) (ap (λ (graphs : List Parts). done ++ graphs) (reverse_last rest graph) ∙ sym (append_assoc done (graph ∷ []) (reverse rest))) (before.parted parts at_first);
  }

  module _ (cases found : List Parts) (is : first_cases graph registers ≡ Some cases) (are : found ≡ map numbered cases) (within : is_beyond (Some cases) ≡ false) (own : AreParted graph found) where
    large_now : list_any (is_too_large registers) (rest ++ reverse found) ≡ list_any (is_too_large registers) (rest ++ graph ∷ [])
    large_now =
        list_any-append (is_too_large registers) rest (reverse found)
        ∙ ap (λ (b : Bool). list_any (is_too_large registers) rest || b)
        (any_reverse (is_too_large registers) found
        ∙ ap (list_any (is_too_large registers)) are
        ∙ sym (large_some graph registers cases whole is within)
        ∙ sym (or_false (is_too_large registers graph)))
        ∙ sym (any_last (is_too_large registers) rest graph)

    graph_few : list_any (is_too_large registers) start ≡ false → is_too_large registers graph ≡ false
    graph_few few =
        let both = or_parts (list_any (is_too_large registers) rest) (is_too_large registers graph || false) (sym (any_last (is_too_large registers) rest graph) ∙ before.large ∙ few) in
        sym (or_false (is_too_large registers graph)) ∙ both.1

    reversed : reverse (rest ++ reverse found) ≡ found ++ reverse rest
    reversed = reverse-append rest (reverse found) ∙ ap (λ (graphs : List Parts). graphs ++ reverse rest) (reverse-reverse found)

    -- its cases are left
    pub one_split : AreSettled registers start done (rest ++ reverse found)
    one_split = record {
      order = λ few.
          ap (λ (graphs : List Parts). done ++ flat_map (settled registers) graphs) reversed
          ∙ ap (λ (graphs : List Parts). done ++ graphs) (flat_append (settled registers) found (reverse rest))
          ∙ ap (λ (graphs : List Parts). done ++ (flat_map (settled registers) graphs ++ flat_map (settled registers) (reverse rest))) are
          ∙ ap (λ (graphs : List Parts). done ++ (graphs ++ flat_map (settled registers) (reverse rest))) (sym (settled_some graph registers cases whole is (graph_few few)))
          ∙ ap (λ (graphs : List Parts). done ++ flat_map (settled registers) graphs) (sym (reverse_last rest graph))
          ∙ before.order few;
      large = large_now ∙ before.large;
      names = before.names;
      parted = λ parts at_first.
          subst (AreParted parts) (ap (λ (graphs : List Parts). done ++ graphs) (sym reversed))
          (parted_split parts graph done (reverse rest) found (subst (AreParted parts) (ap (λ (graphs : List Parts). done ++ graphs) (reverse_last rest graph)) (before.parted parts at_first)) own);
    }

  -- where a case of it is beyond the limits
  pub one_large : (cases : List Parts) → first_cases graph registers ≡ Some cases → is_beyond (Some cases) ≡ true → list_any (is_too_large registers) start ≡ true
  one_large cases is beyond =
      sym before.large ∙ any_last (is_too_large registers) rest graph
      ∙ ap (λ (b : Bool). list_any (is_too_large registers) rest || (b || false)) (large_beyond graph registers cases whole is beyond)
      ∙ or_swap (list_any (is_too_large registers) rest) true
