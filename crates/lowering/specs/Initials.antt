-- What static objects hold at the start: a scalar for each value of an initialiser, in the order in which the machine stores them. Where one is set twice the
-- later one stands alone.
use Rattle.std.specs.Prelude.{ℕ, zero, suc, ◌+◌, ◌^◌, pos, negsuc, Bool, true, ◌&&◌, List, [], ◌∷◌, ◌++◌, nat_eq, nat_le, nat_lt, Option, None, Some, slice_get, if◌then◌else◌}
use Rattle.std.specs.List.{list_any}
use Rattle.std.specs.Option.{option_map_or}
use Rattle.cbase.specs.declared.place.Place.{Place}
use Rattle.bytes_core.specs.declared.word.Word.{Word}
use Rattle.bytes_core.specs.declared.word.Word.TheVariants.{Plain, To}
use Rattle.c_machine.specs.Text.{Initialiser, Value, Braces, Store, Text}
use Rattle.c_machine.specs.Words.{scalar_bytes}
use Rattle.flow.specs.declared.flow_graph.Initial.{Initial}
use Rattle.flow.specs.declared.flow_graph.InitialWord.{InitialWord}
use Rattle.flow.specs.declared.flow_graph.InitialWord.TheVariants as initial
use Rattle.simulation.specs.Names.{Name, variable_in}
use Rattle.lowering.specs.Known.{known_word, word_as}

abbrev pub initial_word : Word → InitialWord
initial_word (Plain number) = initial.Number number
initial_word (To variable offset) = initial.Address variable offset

-- an address leads to an offset of 64 bits with a sign
abbrev pub has_offset : Word → Bool
has_offset (Plain number) = true
has_offset (To variable (pos offset)) = nat_lt offset (2 ^ 63)
has_offset (To variable (negsuc before)) = nat_lt before (2 ^ 63)

-- a scalar lies in its object
abbrev pub bytes_of : (t : Text) → ℕ → ℕ
bytes_of t variable = option_map_or (λ object. object.bytes) (slice_get t.statics variable) 0

abbrev pub scalar_at : (t : Text) → ℕ → ℕ → ℕ → Word → Option (List Initial)
scalar_at t variable at bytes word =
    if nat_le (at + bytes) (bytes_of t variable) && has_offset word then Some (record { variable = variable; at = at; size = bytes; word = initial_word word } ∷ []) else None

abbrev pub scalar_by : (t : Text) → Option ℕ → ℕ → Option ℕ → Option Word → Option (List Initial)
scalar_by t (Some variable) at (Some bytes) (Some word) = scalar_at t variable at bytes word
scalar_by t variable at bytes word = None

abbrev pub set_initial : (t : Text) → List Name → Place → t.Expr → Option Store → Option (List Initial)
set_initial t statics place value None = None
set_initial t statics place value (Some stored) =
    scalar_by t (variable_in statics (t.token place)) stored.offset (scalar_bytes stored.kind) (word_as t (known_word t.enough t statics) value stored.kind)

abbrev pub joined : {A : Type 0} → Option (List A) → Option (List A) → Option (List A)
joined (Some one) (Some other) = Some (one ++ other)
joined one other = None

abbrev pub joined_all : {A B : Type 0} → (A → Option (List B)) → List A → Option (List B)
joined_all each [] = Some []
joined_all each (first ∷ rest) = joined (each first) (joined_all each rest)

abbrev pub initials_by : (t : Text) → List Name → (t.Init → Option (List Initial)) → Place → Initialiser t.Expr t.Init → Option (List Initial)
initials_by t statics deeper place (Value value after) = set_initial t statics place value (t.store place value)
initials_by t statics deeper place (Braces parts) = joined_all deeper parts

abbrev pub initials_within : ℕ → (t : Text) → List Name → Place → t.Init → Option (List Initial)
initials_within zero t statics place init = None
initials_within (suc levels) t statics place init = initials_by t statics (initials_within levels t statics place) place (t.initialiser init)

-- scalars of which none that stands behind is the same
abbrev pub is_same_scalar : Initial → Initial → Bool
is_same_scalar one other = nat_eq one.variable other.variable && (nat_eq one.at other.at && nat_eq one.size other.size)

abbrev pub latest : List Initial → List Initial
latest [] = []
latest (first ∷ rest) = if list_any (is_same_scalar first) rest then latest rest else first ∷ latest rest

abbrev pub initials_of : (t : Text) → List Name → Option (List Initial)
initials_of t statics = joined_all (λ set. initials_within t.enough t statics set.place set.init) t.sets
