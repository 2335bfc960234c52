-- Which graphs a graph is, where none of some registers holds the address of a node of a segment.
use Rattle.std.specs.Prelude.{ℕ, zero, suc, ◌+◌, Bool, true, false, not, ◌||◌, List, [], ◌∷◌, Option, None, Some, count_by, flat_map, is_some}
use Rattle.std.specs.List.{list_all, list_any}
use Rattle.std.specs.Option.{option_and_then, option_map_or}
use Rattle.graph.specs.declared.value.Target.{Target}
use Rattle.graph.specs.declared.value.Target.TheVariants.{Region, First, Last, Each}
use Rattle.graph.specs.declared.value.Value.{Value}
use Rattle.graph.specs.declared.value.Value.TheVariants.{Const, Number, Any, Address}
use Rattle.graph.specs.declared.parts.Parts.{Parts}
use Rattle.graph.specs.Maps.{value_at, held_by}
use Rattle.graph.specs.Nodes.{links_in}
use Rattle.graph.specs.Renaming.{numbered}
use Rattle.graph.specs.WellFormed.{is_within_limits}
use Rattle.changes.specs.Reaching.{names_no_segment}
use Rattle.materialise.specs.SplitFirst.{first_nodes}
use Rattle.materialise.specs.SplitLast.{last_nodes}

-- the value that a register holds
abbrev pub value_held : Parts → ℕ → Option Value
value_held parts register = option_and_then (value_at parts.values) (held_by parts.registers register)

-- the cases of a segment by its first node, or by its last; another block has none
abbrev pub cases_at : Parts → ℕ → Target → Option (List Parts)
cases_at parts object Region = None
cases_at parts object First = Some (first_nodes object parts)
cases_at parts object Last = Some (last_nodes object parts)
cases_at parts object Each = None

-- the cases of the segment of which a value is the address of an end. Another value is that of none
abbrev pub cases_of : Parts → Value → Option (List Parts)
cases_of parts (Const number size) = None
cases_of parts (Number size) = None
cases_of parts Any = None
cases_of parts (Address object offset target) = cases_at parts object target

-- of what a register holds
abbrev pub cases_by : Parts → ℕ → Option (List Parts)
cases_by parts register = option_and_then (cases_of parts) (value_held parts register)

-- these, or else those
abbrev pub or_else : {A : Type 0} → Option A → Option A → Option A
or_else None other = other
or_else (Some it) other = Some it

-- of the first of these registers that names a segment
abbrev pub first_cases : Parts → List ℕ → Option (List Parts)
first_cases parts [] = None
first_cases parts (register ∷ rest) = or_else (cases_by parts register) (first_cases parts rest)

-- no register of these holds the address of a node of a segment
abbrev pub name_no_segment : List ℕ → Parts → Bool
name_no_segment registers parts = list_all (λ register. option_map_or names_no_segment (value_held parts register) true) registers

-- how many segments there are, and how many of the registers name one. Each case of a segment that a register names has fewer: where it goes, no other
-- value becomes the address of a node of a segment, and where a node is split off, the register names a region
abbrev pub segments : Parts → ℕ
segments parts = count_by (λ entry. is_some (links_in entry.object.shape)) parts.objects

abbrev pub splits_left : List ℕ → Parts → ℕ
splits_left registers parts = segments parts + count_by (λ register. is_some (cases_by parts register)) registers

-- The graph itself where none names a segment, and else what each case of the first segment that is named comes to, one behind the other; so many times at most.
abbrev pub settled_within : ℕ → List ℕ → Parts → List Parts
settled_within zero registers parts = parts ∷ []
settled_within (suc count) registers parts =
    option_map_or (flat_map (λ case. settled_within count registers (numbered case))) (first_cases parts registers) (parts ∷ [])

abbrev pub settled : List ℕ → Parts → List Parts
settled registers parts = settled_within (splits_left registers parts) registers parts

-- on the way a case is beyond the limits
abbrev pub is_too_large_within : ℕ → List ℕ → Parts → Bool
is_too_large_within zero registers parts = false
is_too_large_within (suc count) registers parts =
    option_map_or (list_any (λ case. not (is_within_limits case) || is_too_large_within count registers (numbered case))) (first_cases parts registers) false

abbrev pub is_too_large : List ℕ → Parts → Bool
is_too_large registers parts = is_too_large_within (splits_left registers parts) registers parts
