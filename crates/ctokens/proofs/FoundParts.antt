-- The number and the name of a line marker, found step by step.
use Rattle.std.specs.Prelude.{◌≡◌, ℕ, ◌+◌, ◌-◌, ◌*◌, ◌≤◌, ◌<◌, Bool, true, false, List, [], ◌∷◌, ◌++◌, length, drop, nat_le, Option, None, Some, option_map}
use Rattle.std.proofs.Common.{refl, sym, ◌∙◌, ap, get_or, arith, le-leb}
use Rattle.std.proofs.lemmas.Bool.{lt-leb}
use Rattle.std.proofs.lemmas.List.{at_drop_more, at_drop_all, append_assoc, append-nil}
use Rattle.ctokens.proofs.Choices.{chosen_yes, chosen_no}
use Rattle.ctokens.specs.Directive.{greatest_line}
use Rattle.ctokens.specs.MarkerAt.{line_number, preceded, skipped, role_in_name, by_role, name_at}
use Rattle.ctokens.specs.declared.marker.FoundName.{FoundName}
use Rattle.ctokens.specs.declared.marker.Role.{Role}
use Rattle.ctokens.specs.declared.marker.Role.TheVariants.{Holds, Skips, Ends, Breaks}

-- the digits so far have a value, and the rest decides the number
pub record IsRead (digits : List ℕ) (index value : ℕ) : Type 0 where
  pub leads : line_number 0 digits ≡ line_number value (drop index digits)
  pub small : value ≤ greatest_line

pub number_goes_on : (digits : List ℕ) (index value digit next : ℕ) → IsRead digits index value → index < length digits → digit ≡ get_or digits index 0
    → next ≡ 10 * value + (digit - 48) → next ≤ greatest_line → IsRead digits (index + 1) next
number_goes_on digits index value digit next so_far inside is is_next small =
    let fits : (10 * value + (get_or digits index 0 - 48)) ≤ greatest_line = omega (arith, is, is_next) in
    record {
      leads = so_far.leads ∙ (at_drop_more (line_number value) digits index 0 inside
          ∙ (chosen_yes (nat_le (10 * value + (get_or digits index 0 - 48)) greatest_line) _ _ (le-leb _ greatest_line fits)
          ∙ ap (λ (n : ℕ). line_number n (drop (index + 1) digits)) (ap (λ (d : ℕ). 10 * value + (d - 48)) (sym is) ∙ sym is_next)));
      small = small;
    }

pub number_breaks : (digits : List ℕ) (index value digit next : ℕ) → IsRead digits index value → index < length digits → digit ≡ get_or digits index 0
    → next ≡ 10 * value + (digit - 48) → greatest_line < next → None ≡ line_number 0 digits
number_breaks digits index value digit next so_far inside is is_next large =
    let exceeds : greatest_line < 10 * value + (get_or digits index 0 - 48) = omega (arith, is, is_next) in
    sym (so_far.leads ∙ (at_drop_more (line_number value) digits index 0 inside
    ∙ chosen_no (nat_le (10 * value + (get_or digits index 0 - 48)) greatest_line) _ _ (lt-leb _ greatest_line exceeds)))

pub number_ends : (digits : List ℕ) (index value : ℕ) → IsRead digits index value → length digits ≤ index → Some value ≡ line_number 0 digits
number_ends digits index value so_far past = sym (so_far.leads ∙ at_drop_all (line_number value) digits index past)

-- a name whose first bytes are read already
abbrev joined : List ℕ → ℕ → FoundName → FoundName
joined name index found = record { name = name ++ found.name; taken = index + found.taken }

-- the bytes so far are part of the name, and the rest decides it
pub record IsNamed (text : List ℕ) (index : ℕ) (kept : Bool) (name : List ℕ) : Type 0 where
  pub leads : name_at false text ≡ option_map (joined name index) (name_at kept (drop index text))

-- what follows from the role of a byte in a name
abbrev pub next : Role → ℕ → List ℕ → Option FoundName
next role byte others =
    by_role role (option_map (preceded byte) (name_at false others)) (option_map skipped (name_at true others)) (Some (record { name = []; taken = 1 })) None

after : (text : List ℕ) (index : ℕ) (kept : Bool) (name : List ℕ) (byte : ℕ) (role : Role) → IsNamed text index kept name → index < length text
    → byte ≡ get_or text index 0 → role_in_name kept byte ≡ role
    → name_at false text ≡ option_map (joined name index) (next role byte (drop (index + 1) text))
after text index kept name byte role so_far inside is is_role =
    so_far.leads ∙ ap (option_map (joined name index)) (at_drop_more (name_at kept) text index 0 inside
    ∙ (ap (λ (b : ℕ). next (role_in_name kept b) b (drop (index + 1) text)) (sym is) ∙ ap (λ (r : Role). next r byte (drop (index + 1) text)) is_role))

held : (name : List ℕ) (index byte : ℕ) (found : Option FoundName)
    → option_map (joined name index) (option_map (preceded byte) found) ≡ option_map (joined (name ++ byte ∷ []) (index + 1)) found
held name index byte None = refl
held name index byte (Some found) =
    let count : index + (1 + found.taken) ≡ index + 1 + found.taken = omega arith in
    ap (λ (n : ℕ). Some (record { name = name ++ byte ∷ found.name; taken = n })) count
    ∙ ap (λ (l : List ℕ). Some (record { name = l; taken = index + 1 + found.taken })) (sym (append_assoc name (byte ∷ []) found.name))

passed : (name : List ℕ) (index : ℕ) (found : Option FoundName) → option_map (joined name index) (option_map skipped found) ≡ option_map (joined name (index + 1)) found
passed name index None = refl
passed name index (Some found) =
    let count : index + (1 + found.taken) ≡ index + 1 + found.taken = omega arith in
    ap (λ (n : ℕ). Some (record { name = name ++ found.name; taken = n })) count

pub name_holds : (text : List ℕ) (index : ℕ) (kept : Bool) (name more : List ℕ) (byte : ℕ) → IsNamed text index kept name → index < length text
    → byte ≡ get_or text index 0 → role_in_name kept byte ≡ Holds → more ≡ name ++ byte ∷ [] → IsNamed text (index + 1) false more
name_holds text index kept name more byte so_far inside is role is_more =
    rw is_more (record { leads = after text index kept name byte Holds so_far inside is role ∙ held name index byte (name_at false (drop (index + 1) text)) })

pub name_skips : (text : List ℕ) (index : ℕ) (kept : Bool) (name : List ℕ) (byte : ℕ) → IsNamed text index kept name → index < length text
    → byte ≡ get_or text index 0 → role_in_name kept byte ≡ Skips → IsNamed text (index + 1) true name
name_skips text index kept name byte so_far inside is role =
    record { leads = after text index kept name byte Skips so_far inside is role ∙ passed name index (name_at true (drop (index + 1) text)) }

pub name_ends : (text : List ℕ) (index : ℕ) (kept : Bool) (name : List ℕ) (byte : ℕ) → IsNamed text index kept name → index < length text
    → byte ≡ get_or text index 0 → role_in_name kept byte ≡ Ends → Some (record { name = name; taken = index + 1 }) ≡ name_at false text
name_ends text index kept name byte so_far inside is role =
    sym (after text index kept name byte Ends so_far inside is role
    ∙ ap (λ (l : List ℕ). Some (record { name = l; taken = index + 1 })) (append-nil name))

pub name_breaks : (text : List ℕ) (index : ℕ) (kept : Bool) (name : List ℕ) (byte : ℕ) → IsNamed text index kept name → index < length text
    → byte ≡ get_or text index 0 → role_in_name kept byte ≡ Breaks → None ≡ name_at false text
name_breaks text index kept name byte so_far inside is role = sym (after text index kept name byte Breaks so_far inside is role)

pub name_stops : (text : List ℕ) (index : ℕ) (kept : Bool) (name : List ℕ) → IsNamed text index kept name → length text ≤ index → None ≡ name_at false text
name_stops text index kept name so_far past = sym (so_far.leads ∙ ap (option_map (joined name index)) (at_drop_all (name_at kept) text index past))

pub name_begins : (text : List ℕ) → IsNamed text 0 false []
name_begins text = record { leads = whole (name_at false text) }
  where
    whole : (found : Option FoundName) → found ≡ option_map (joined [] 0) found
    whole None = refl
    whole (Some found) = let count : found.taken ≡ 0 + found.taken = omega arith in ap (λ (n : ℕ). Some (record { name = found.name; taken = n })) count
