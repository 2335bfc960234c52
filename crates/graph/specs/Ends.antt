-- The ends of segments that may be empty, and what is followed from them.
use Rattle.std.specs.Prelude.{◌≡◌, ◌≢◌, ℕ, zero, suc, ◌+◌, ◌*◌, length, Bool, true, false, List, [], ◌∷◌, Option, None, Some, nat_eq, slice_index_or, if◌then◌else◌}
use Rattle.graph.specs.declared.ends.End.{End}
use Rattle.graph.specs.declared.ends.Known.{Known}
use Rattle.graph.specs.declared.object.Links.{Links}
use Rattle.graph.specs.declared.object.Object.{Object}
use Rattle.graph.specs.declared.value.Target.{Target}
use Rattle.graph.specs.declared.value.Target.TheVariants.{Region, First, Last, Each}
use Rattle.graph.specs.declared.value.Value.{Value}
use Rattle.graph.specs.declared.value.Value.TheVariants.{Const, Number, Any, Address}
use Rattle.graph.specs.declared.parts.KeyedObject.{KeyedObject}
use Rattle.graph.specs.declared.parts.Parts.{Parts}
use Rattle.graph.specs.Maps.{object_at, value_at}
use Rattle.graph.specs.Nodes.{links_in}

-- the end that a target means
abbrev pub target_end : ℕ → Target → Option End
target_end object Region = None
target_end object First = Some (record { object = object; last = false })
target_end object Last = Some (record { object = object; last = true })
target_end object Each = None

-- the end that a value leads to
abbrev pub value_end : Option Value → Option End
value_end None = None
value_end (Some (Const number size)) = None
value_end (Some (Number size)) = None
value_end (Some Any) = None
value_end (Some (Address object offset target)) = target_end object target

-- the value beyond an end, where there may be no node
abbrev pub beyond : Option Links → Bool → Option ℕ
beyond None last = None
beyond (Some links) last = if nat_eq links.least 0 then Some (if last then links.prev_value else links.next_value) else None

abbrev pub beyond_in : Option Object → Bool → Option ℕ
beyond_in None last = None
beyond_in (Some object) last = beyond (links_in object.shape) last

abbrev pub end_at : Parts → Option ℕ → Option End
end_at parts None = None
end_at parts (Some key) = value_end (value_at parts.values key)

-- the end that an end leads to where there is no node
abbrev pub next_end : Parts → End → Option End
next_end parts end = end_at parts (beyond_in (object_at parts.objects end.object) end.last)

-- so many steps from an end
abbrev pub followed : Parts → ℕ → Option End → Option End
followed parts zero end = end
followed parts (suc count) None = None
followed parts (suc count) (Some end) = followed parts count (next_end parts end)

-- following from an end comes to an end
pub record Stops (parts : Parts) (end : End) : Type 0 where
  pub count : ℕ
  pub stops : followed parts count (Some end) ≡ None

-- an end is one of those that are known
abbrev pub is_known : Known → End → Bool
is_known known end = if end.last then slice_index_or known.last.items end.object false else slice_index_or known.first.items end.object false

-- what is known comes to an end
abbrev pub AreKnown : Parts → Known → Type 0
AreKnown parts known = (end : End) → is_known known end ≡ true → Stops parts end

-- following from each end of these objects comes to an end
abbrev pub AllStop : Parts → List KeyedObject → Type 0
AllStop parts [] = Unit {0}
AllStop parts (entry ∷ rest) =
    Stops parts (record { object = entry.key; last = false }) × Stops parts (record { object = entry.key; last = true }) × AllStop parts rest

-- from an end more steps lead on than there are ends of objects
abbrev pub Runs : Parts → End → Type 0
Runs parts end = followed parts (2 * length parts.objects + 2) (Some end) ≢ None

pub record SomeRuns (parts : Parts) : Type 0 where
  pub end : End
  pub runs : Runs parts end
