-- The names of a declaration, from the last to the first.
use Rattle.std.proofs.Common.{◌≡◌, ℕ, zero, suc, ◌-◌, ◌<◌, ◌≤◌, List, [], ◌∷◌, ◌++◌, false, length, map, drop, get_or, slice_get, Some, refl, sym, ap, subst, arith}
use Rattle.std.specs.List.{flat_map}
use Rattle.std.proofs.lemmas.Option.{slice_get_read}
use Rattle.cbase.specs.declared.tree.decl.Declared.{Declared}
use Rattle.c_machine.specs.Blocks.{declared_tasks}
use Rattle.c_machine.specs.Program.{Program}
use Rattle.c_machine.specs.Trees.{name_of, text_of}
use Rattle.c_run.specs.declared.tasks.room.Room.{Room}
use Rattle.c_run.specs.declared.tasks.room.Room.TheVariants.{Made}
use Rattle.c_run.specs.tasks.Room.{are_kept, kinds_in, MakesRoom}
use Rattle.c_run.proofs.tasks.MakingRoom.{Tasks, Running, same_room}
use Rattle.c_run.proofs.tasks.RoomBehind.{in_front, lacks_behind}

module _ (p : Program) where
  abbrev here : Declared → Tasks
  here name = declared_tasks (text_of p) (name_of name)

  abbrev pub names_tasks : List Declared → Tasks
  names_tasks names = flat_map (declared_tasks (text_of p)) (map name_of names)

  next_name : (names : List Declared) (place : ℕ) (name : Declared) → slice_get names place ≡ Some name →
      names_tasks (drop place names) ≡ here name ++ names_tasks (drop (suc place) names)
  next_name [] place name is = absurd cc
  next_name (one ∷ names) zero name is = let same : one ≡ name = cc in ap (λ (one : Declared). here one ++ names_tasks names) same
  next_name (one ∷ names) (suc place) name is = next_name names place name is

  -- a name in front of which there is room has none in front of all
  pub lacks_name : (names : List Declared) (place : ℕ) → are_kept (kinds_in (names_tasks (drop place names))) ≡ false → are_kept (kinds_in (names_tasks names)) ≡ false
  lacks_name names zero is = is
  lacks_name [] (suc place) is = is
  lacks_name (name ∷ names) (suc place) is = lacks_behind (here name) (names_tasks names) (lacks_name names place is)

  -- as a loop comes to it, from behind
  pub name_before : (names : List Declared) (left : ℕ) (name : Declared) (room : Room) (before between after : Running)
      → 0 < left → left ≤ length names → name ≡ get_or names (left - 1) name → MakesRoom (here name) room between after
      → MakesRoom (names_tasks (drop left names)) Made before between → MakesRoom (names_tasks (drop (left - 1) names)) room before after
  name_before names left name room before between after some inside is first rest =
      let same : suc (left - 1) ≡ left = omega (arith, some) in
      same_room _ _ room before after (next_name names (left - 1) name (slice_get_read names (length names) (left - 1) name refl (omega (arith, some, inside)) is))
      (in_front (here name) (names_tasks (drop (suc (left - 1)) names)) room before between after
      (subst (λ (k : ℕ). MakesRoom (names_tasks (drop k names)) Made before between) (sym same) rest) first)
