-- What a tree makes room for, where the types of which it speaks are kept.
use Rattle.std.specs.Prelude.{◌≡◌, Bool, true, false, ◌&&◌, List, [], ◌∷◌, ◌++◌, Option, None, Some}
use Rattle.c_machine.specs.declared.kind.Kind.{Kind}
use Rattle.c_machine.specs.declared.kind.Kind.TheVariants.{Struct}
use Rattle.c_machine.specs.declared.task.Task.{Task}
use Rattle.c_machine.specs.declared.task.Task.TheVariants.{Load, Convert, Apply, Operate, Pick, Store, Update, CountBy, CopyStruct, RunBuiltIn, MakeObject, MakeParameter, MakeStatic, Zero, GiveBack, EndOfBody}
use Rattle.c_machine.specs.State.{State, doing}
use Rattle.c_run.specs.declared.tasks.room.Room.{Room}
use Rattle.c_run.specs.declared.tasks.room.Room.TheVariants.{Made, NotKept}
use Rattle.c_text.specs.Kept.{kept}

-- the types of which a thing to do speaks. What copies a struct speaks of its type, and what makes or fills an object of one of its size
abbrev pub kinds_of : {E S I : Type 0} → Task E S I → List Kind
kinds_of (Load place kind) = kind ∷ []
kinds_of (Convert from to) = from ∷ to ∷ []
kinds_of (Apply op kind) = kind ∷ []
kinds_of (Operate op left right) = left ∷ right ∷ []
kinds_of (Pick kind one other) = kind ∷ []
kinds_of (Store place kind) = kind ∷ []
kinds_of (Update op place kind right) = kind ∷ right ∷ []
kinds_of (CountBy up after place kind) = kind ∷ []
kinds_of (CopyStruct place bytes) = Struct bytes ∷ []
kinds_of (RunBuiltIn what place result) = result ∷ []
kinds_of (MakeObject object) = Struct object.bytes ∷ []
kinds_of (MakeParameter object) = Struct object.bytes ∷ []
kinds_of (MakeStatic object) = Struct object.bytes ∷ []
kinds_of (Zero place bytes) = Struct bytes ∷ []
kinds_of (GiveBack place kind) = kind ∷ []
kinds_of (EndOfBody is_main result close held) = result ∷ []
kinds_of other = []

abbrev pub kinds_in : {E S I : Type 0} → List (Task E S I) → List Kind
kinds_in [] = []
kinds_in (task ∷ rest) = kinds_of task ++ kinds_in rest

-- whether they are kept
abbrev pub is_there : Option Kind → Bool
is_there None = false
is_there (Some kind) = true

abbrev pub are_kept : List Kind → Bool
are_kept [] = true
are_kept (kind ∷ rest) = is_there (kept kind) && are_kept rest

-- what is to be done first after a step, where each type in it is kept; and no answer, where one is not
abbrev pub MakesRoom : {E S I : Type 0} → List (Task E S I) → Room → State E S I → State E S I → Type 0
MakesRoom tasks Made before after = (after ≡ doing tasks before) × (are_kept (kinds_in tasks) ≡ true)
MakesRoom tasks NotKept before after = are_kept (kinds_in tasks) ≡ false
