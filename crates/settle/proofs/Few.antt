-- How many graphs there are at most.
use Rattle.std.proofs.Common.{◌≡◌, ℕ, zero, suc, ◌+◌, ◌*◌, ◌<◌, ◌≤◌, ◌⊎◌, ◌^◌, Bool, true, false, not, ◌||◌, List, [], ◌∷◌, ◌++◌, length, Option, None, Some, refl, sym, ◌∙◌, ap, subst, inl, inr, arith}
use Rattle.std.specs.Prelude.{flat_map, is_some}
use Rattle.std.specs.List.{list_any}
use Rattle.std.specs.Option.{option_and_then, option_map_or}
use Rattle.std.proofs.lemmas.Bool.{or_parts}
use Rattle.std.proofs.lemmas.Grind.{pow_more as power_more}
use Rattle.std.proofs.lemmas.Grind.{common_steps}
use Rattle.std.proofs.lemmas.List.{length-append}
use Rattle.std.proofs.lemmas.List.Sums.{count_by-le-length}
use Rattle.std.proofs.lemmas.Nat.{mul-le}
use Rattle.graph.specs.declared.value.Value.{Value}
use Rattle.graph.specs.declared.parts.Parts.{Parts}
use Rattle.graph.specs.Renaming.{numbered}
use Rattle.graph.specs.WellFormed.{is_within_limits}
use Rattle.graph.specs.Whole.{IsGraph}
use Rattle.settle.specs.Settled.{cases_of, cases_by, first_cases, segments, splits_left, settled_within, settled, is_too_large_within, is_too_large}
use Rattle.settle.proofs.Case.{IsCase, AreBoth, both_told}
use Rattle.settle.proofs.Counts.{count_falls}
use Rattle.settle.proofs.Fuel.{FirstNaming, first_naming, case_graph, naming_in, segments_same, naming_fewer, naming_falls}
use Rattle.settle.proofs.Names.{names_end, held_leads}
use Rattle.settle.proofs.Turns.{within_not}

-- Powers.

abbrev power : ℕ → ℕ → ℕ
power base zero = 1
power base (suc count) = base * power base count

power_positive : (base count : ℕ) → 0 < base → 0 < power base count
power_positive base zero positive = omega arith
power_positive base (suc count) positive = let less = power_positive base count positive in let more = mul-le 1 1 base (power base count) (omega arith) (omega arith) in omega arith

power_base : (one other count : ℕ) → one ≤ other → power one count ≤ power other count
power_base one other zero below = omega arith
power_base one other (suc count) below = mul-le one (power one count) other (power other count) below (power_base one other count below)

power_count : (base one other : ℕ) → 0 < base → one ≤ other → power base one ≤ power base other
power_count base zero other positive below = power_positive base other positive
power_count base (suc one) zero positive below = absurd (omega arith)
power_count base (suc one) (suc other) positive below = mul-le base (power base one) base (power base other) (omega arith) (power_count base one other positive (omega arith))

-- with one less, and with one factor less
power_parts : (base count : ℕ) → power base (suc count) + power (base + 1) count ≤ power (base + 1) (suc count)
power_parts base count =
    let less = mul-le base (power base count) base (power (base + 1) count) (omega arith) (power_base base (base + 1) count (omega arith)) in
    let cut : (base + 1) * power (base + 1) count ≡ base * power (base + 1) count + power (base + 1) count = grind arith in
    omega arith

power_is : (base count : ℕ) → power base count ≡ base ^ count
power_is base zero = grind (arith, common_steps)
power_is base (suc count) =
    ap (λ (n : ℕ). base * n) (power_is base count)
    ∙ (let swap : base * base ^ count ≡ base ^ count * base = grind arith in swap)
    ∙ sym (power_more base count)
    ∙ ap (λ (n : ℕ). base ^ n) (let e : count + 1 ≡ suc count = omega arith in e)

-- what a case gives at most
abbrev bound : List ℕ → Parts → ℕ
bound registers parts = power (segments parts + 1) (naming_in registers parts)

module _ (parts case : Parts) (registers : List ℕ) (cases : List Parts) (graph : IsGraph parts) (naming : FirstNaming parts registers cases) (is : IsCase parts case naming.value) where
  dropped_bound : segments case < segments parts → bound registers (numbered case) ≤ power (segments parts) (naming_in registers parts)
  dropped_bound falls =
      let same = segments_same parts case registers cases graph naming is in
      let fewer = naming_fewer parts case registers cases graph naming is in
      let one = power_base (segments (numbered case) + 1) (segments parts) (naming_in registers (numbered case)) (omega arith) in
      let other = power_count (segments parts) (naming_in registers (numbered case)) (naming_in registers parts) (omega arith) fewer in
      omega arith

  split_falls : segments case ≡ segments parts → naming_in registers (numbered case) < naming_in registers parts
  split_falls equal = by_falls is.falls
    where
      by_falls : (segments case < segments parts) ⊎ ((segments case ≡ segments parts) × (names_end (is.change naming.value) ≡ false)) → naming_in registers (numbered case) < naming_in registers parts
      by_falls (inl falls) = absurd (omega arith)
      by_falls (inr stays) = naming_falls parts case registers cases graph naming is stays.1

  split_bound : (count : ℕ) → naming_in registers parts ≡ suc count → segments case ≡ segments parts → bound registers (numbered case) ≤ power (segments parts + 1) count
  split_bound count names equal =
      let same = segments_same parts case registers cases graph naming is in
      let falls = split_falls equal in
      let one = power_base (segments (numbered case) + 1) (segments parts + 1) (naming_in registers (numbered case)) (omega arith) in
      let other = power_count (segments parts + 1) (naming_in registers (numbered case)) count (omega arith) (omega arith) in
      omega arith

-- a register names a segment
names_one_of : {parts : Parts} {registers : List ℕ} {cases : List Parts} → FirstNaming parts registers cases → 0 < naming_in registers parts
names_one_of {parts} {registers} naming =
    let named : is_some (cases_by parts naming.register) ≡ true = ap (λ (o : Option Value). is_some (option_and_then (cases_of parts) o)) naming.held ∙ ap is_some naming.has in
    let falls = count_falls (λ register. is_some (cases_by parts register)) (λ register. false) (λ register none. refl) registers naming.register naming.among named refl in
    omega arith

-- The graphs of each case.

abbrev given : ℕ → List ℕ → Parts → List Parts
given count registers case = settled_within count registers (numbered case)

abbrev large_case : ℕ → List ℕ → Parts → Bool
large_case count registers case = not (is_within_limits case) || is_too_large_within count registers (numbered case)

module _ (count : ℕ) (registers : List ℕ) (parts : Parts) (cases : List Parts) (graph : IsGraph parts) (naming : FirstNaming parts registers cases)
    (onward : (case : Parts) → IsGraph case → is_too_large_within count registers case ≡ false → length (settled_within count registers case) ≤ bound registers case) where
  one_case : (case : Parts) → (is_within_limits case ≡ true → IsCase parts case naming.value) → large_case count registers case ≡ false → length (given count registers case) ≤ bound registers (numbered case)
  one_case case is few =
      let small = or_parts (not (is_within_limits case)) (is_too_large_within count registers (numbered case)) few in
      let within = within_not case small.0 in
      onward (numbered case) (case_graph parts case naming.value (is within) within) small.1

  split_case : (case : Parts) → (is_within_limits case ≡ true → IsCase parts case naming.value) → segments case ≡ segments parts → large_case count registers case ≡ false → (number : ℕ) → naming_in registers parts ≡ suc number →
      length (given count registers case) ≤ power (segments parts + 1) number
  split_case case is equal few number names =
      let small = or_parts (not (is_within_limits case)) (is_too_large_within count registers (numbered case)) few in
      let within = within_not case small.0 in
      let most = one_case case is few in
      let less = split_bound parts case registers cases graph naming (is within) number names equal in
      omega arith

  all_cases : (number : ℕ) → naming_in registers parts ≡ suc number → (some : List Parts) → AreBoth parts naming.value some → list_any (large_case count registers) some ≡ false →
      length (flat_map (given count registers) some) ≤ power (segments parts + 1) (suc number)
  all_cases number names [] told few = omega arith
  all_cases number names (split ∷ []) told few =
      let small = or_parts (large_case count registers split) false few in
      let less = split_case split told.0 told.1 small.0 number names in
      let more = power_count (segments parts + 1) number (suc number) (omega arith) (omega arith) in
      let cut = length-append (given count registers split) [] in
      omega arith
  all_cases number names (gone ∷ (split ∷ [])) told few =
      let small = or_parts (large_case count registers gone) (large_case count registers split || false) few in
      let later = or_parts (large_case count registers split) false small.1 in
      let most = one_case gone (λ within. told.0) small.0 in
      let low = dropped_bound parts gone registers cases graph naming told.0 told.1 in
      let less = split_case split told.2 told.3 later.0 number names in
      let same : power (segments parts) (naming_in registers parts) ≡ power (segments parts) (suc number) = ap (power (segments parts)) names in
      let both = power_parts (segments parts) number in
      let cut = length-append (given count registers gone) (given count registers split ++ []) in
      let rest = length-append (given count registers split) [] in
      by_numbers (length (given count registers gone)) (length (given count registers split)) (bound registers (numbered gone)) (power (segments parts) (naming_in registers parts)) (power (segments parts) (suc number))
      (power (segments parts + 1) number) (power (segments parts + 1) (suc number)) (length (given count registers gone ++ (given count registers split ++ []))) (length (given count registers split ++ []))
      most low same less both cut rest
    where
      by_numbers : (one other first low same less whole all rest : ℕ) → one ≤ first → first ≤ low → low ≡ same → other ≤ less → same + less ≤ whole → all ≡ one + rest → rest ≡ other + 0 → all ≤ whole
      by_numbers one other first low same less whole all rest a b c d e f g = omega arith
  all_cases number names (one ∷ (other ∷ (more ∷ rest))) told few = absurd told

few_within : (count : ℕ) (registers : List ℕ) (parts : Parts) → IsGraph parts → is_too_large_within count registers parts ≡ false → length (settled_within count registers parts) ≤ bound registers parts
few_within zero registers parts graph few = power_positive (segments parts + 1) (naming_in registers parts) (omega arith)
few_within (suc count) registers parts graph few = by_cases (λ case whole small. few_within count registers case whole small) (first_cases parts registers) refl few
  where
    by_cases : ((case : Parts) → IsGraph case → is_too_large_within count registers case ≡ false → length (settled_within count registers case) ≤ bound registers case) →
        (found : Option (List Parts)) → first_cases parts registers ≡ found → option_map_or (list_any (large_case count registers)) found false ≡ false →
        length (option_map_or (flat_map (given count registers)) found (parts ∷ [])) ≤ bound registers parts
    by_cases onward None is few = power_positive (segments parts + 1) (naming_in registers parts) (omega arith)
    by_cases onward (Some cases) is few =
        let naming = first_naming parts registers cases is in
        by_number naming (naming_in registers parts) refl (names_one_of naming)
      where
        by_number : (naming : FirstNaming parts registers cases) (number : ℕ) → naming_in registers parts ≡ number → 0 < number → length (flat_map (given count registers) cases) ≤ power (segments parts + 1) (naming_in registers parts)
        by_number naming zero names positive = absurd (omega arith)
        by_number naming (suc number) names positive =
            subst (λ (n : ℕ). length (flat_map (given count registers) cases) ≤ power (segments parts + 1) n) (sym names)
            (all_cases count registers parts cases graph naming onward number names cases
            (both_told parts graph naming.value (held_leads parts graph.well_formed naming.register naming.value naming.held) cases naming.has) few)

pub few_settled : (parts : Parts) (registers : List ℕ) → IsGraph parts → is_too_large registers parts ≡ false → length (settled registers parts) ≤ (segments parts + 1) ^ length registers
few_settled parts registers graph few =
    let most = few_within (splits_left registers parts) registers parts graph few in
    let names = count_by-le-length (λ register. is_some (cases_by parts register)) registers in
    let more = power_count (segments parts + 1) (naming_in registers parts) (length registers) (omega arith) names in
    let same = power_is (segments parts + 1) (length registers) in
    omega arith
