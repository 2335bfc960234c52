-- The same registers hold a value of which nothing is known.
use Rattle.std.proofs.Common.{◌≡◌, ℕ, zero, suc, true, false, not, ◌||◌, List, [], ◌∷◌, Option, None, Some, refl, ◌∙◌, ap}
use Rattle.std.specs.Prelude.{option_map, flat_map}
use Rattle.std.specs.List.{All, list_any}
use Rattle.std.specs.Option.{option_map_or}
use Rattle.std.proofs.lemmas.Bool.{or_parts}
use Rattle.std.proofs.lemmas.List.Elements.{All-nil, All-cons, All-append}
use Rattle.graph.specs.declared.value.Value.{Value}
use Rattle.graph.specs.declared.value.Value.TheVariants.{Const, Number, Any, Address}
use Rattle.graph.specs.declared.parts.Parts.{Parts}
use Rattle.graph.specs.Renaming.{numbered, renamed_value, object_place}
use Rattle.graph.specs.WellFormed.{is_within_limits}
use Rattle.graph.specs.Whole.{IsGraph}
use Rattle.settle.specs.Laws.{is_any, HoldAnyAlike}
use Rattle.settle.specs.Settled.{value_held, first_cases, splits_left, settled_within, settled, is_too_large_within, is_too_large}
use Rattle.settle.proofs.Case.{IsCase, EachOf, each_case}
use Rattle.settle.proofs.Fuel.{case_graph, first_naming, each_map, each_both, none_any}
use Rattle.settle.proofs.Names.{held_changed, held_numbered, held_leads, held_may}
use Rattle.settle.proofs.Turns.{within_not}

renamed_any : (objects : ℕ → ℕ) (value : Value) → is_any (renamed_value objects value) ≡ is_any value
renamed_any objects (Const number size) = refl
renamed_any objects (Number size) = refl
renamed_any objects Any = refl
renamed_any objects (Address object offset target) = refl

-- so it is in each case
case_alike : (parts case : Parts) (value : Value) → IsGraph parts → IsCase parts case value → HoldAnyAlike parts (numbered case)
case_alike parts case value graph is register =
    ap (λ (o : Option Value). option_map_or is_any o false) (held_numbered case is.ascending is.form register)
    ∙ through (value_held case register)
    ∙ ap (λ (o : Option Value). option_map_or is_any o false) (held_changed parts case is.change graph.well_formed is.registers is.values register)
    ∙ by_held (value_held parts register) refl
  where
    through : (held : Option Value) → option_map_or is_any (option_map (renamed_value (object_place case)) held) false ≡ option_map_or is_any held false
    through None = refl
    through (Some value) = renamed_any (object_place case) value

    by_held : (held : Option Value) → value_held parts register ≡ held → option_map_or is_any (option_map is.change held) false ≡ option_map_or is_any held false
    by_held None held = refl
    by_held (Some own) held = is.any own (held_may parts graph.well_formed register own held)

all_flat : {X Y : Type 0} (P : Y → Type 0) (f : X → List Y) (xs : List X) → EachOf (λ x. All P (f x)) xs → All P (flat_map f xs)
all_flat P f [] each = All-nil P
all_flat P f (x ∷ xs) each = All-append P (f x) (flat_map f xs) each.0 (all_flat P f xs each.1)

all_mapped : {X : Type 0} (P Q : X → Type 0) → ((x : X) → P x → Q x) → (xs : List X) → All P xs → All Q xs
all_mapped P Q implies xs all k d within = implies _ (all k d within)

any_within : (count : ℕ) (registers : List ℕ) (parts : Parts) → IsGraph parts → is_too_large_within count registers parts ≡ false → All (HoldAnyAlike parts) (settled_within count registers parts)
any_within zero registers parts graph few = All-cons (HoldAnyAlike parts) parts [] (λ register. refl) (All-nil (HoldAnyAlike parts))
any_within (suc count) registers parts graph few = by_cases (λ case whole small. any_within count registers case whole small) (first_cases parts registers) refl few
  where
    by_cases : ((case : Parts) → IsGraph case → is_too_large_within count registers case ≡ false → All (HoldAnyAlike case) (settled_within count registers case)) →
        (found : Option (List Parts)) → first_cases parts registers ≡ found → option_map_or (list_any (λ case. not (is_within_limits case) || is_too_large_within count registers (numbered case))) found false ≡ false →
        All (HoldAnyAlike parts) (option_map_or (flat_map (λ case. settled_within count registers (numbered case))) found (parts ∷ []))
    by_cases onward None is few = All-cons (HoldAnyAlike parts) parts [] (λ register. refl) (All-nil (HoldAnyAlike parts))
    by_cases onward (Some cases) is few =
        let naming = first_naming parts registers cases is in
        all_flat (HoldAnyAlike parts) (λ case. settled_within count registers (numbered case)) cases
        (each_map (λ (case : Parts). (is_within_limits case ≡ true → IsCase parts case naming.value) × ((not (is_within_limits case) || is_too_large_within count registers (numbered case)) ≡ false))
        (λ case. All (HoldAnyAlike parts) (settled_within count registers (numbered case)))
        (λ case both.
        let small = or_parts (not (is_within_limits case)) (is_too_large_within count registers (numbered case)) both.1 in
        let within = within_not case small.0 in
        let own = both.0 within in
        all_mapped (HoldAnyAlike (numbered case)) (HoldAnyAlike parts) (λ after alike register. alike register ∙ case_alike parts case naming.value graph own register) (settled_within count registers (numbered case))
        (onward (numbered case) (case_graph parts case naming.value own within) small.1))
        cases (each_both (λ (case : Parts). is_within_limits case ≡ true → IsCase parts case naming.value) (λ (case : Parts). (not (is_within_limits case) || is_too_large_within count registers (numbered case)) ≡ false) cases
        (each_case parts graph naming.value (held_leads parts graph.well_formed naming.register naming.value naming.held) cases naming.has)
        (none_any (λ case. not (is_within_limits case) || is_too_large_within count registers (numbered case)) cases few)))

pub any_alike : (parts : Parts) (registers : List ℕ) → IsGraph parts → is_too_large registers parts ≡ false → All (HoldAnyAlike parts) (settled registers parts)
any_alike parts registers graph few = any_within (splits_left registers parts) registers parts graph few
