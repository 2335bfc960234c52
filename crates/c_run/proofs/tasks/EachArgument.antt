-- The arguments of a call, from the last to the first.
use Rattle.std.proofs.Common.{◌≡◌, ℕ, zero, suc, ◌-◌, ◌<◌, ◌≤◌, false, List, [], ◌∷◌, ◌++◌, length, length-take, map, take, drop, get_or, slice_get, option_map, Some, refl, sym, ap, subst, ◌∙◌, arith}
use Rattle.std.proofs.lemmas.List.{length-map}
use Rattle.std.proofs.lemmas.Option.{slice_get-map, slice_get_read}
use Rattle.cbase.specs.declared.ctype.CType.{CType}
use Rattle.cbase.specs.declared.tree.expr.Expr.{Expr}
use Rattle.c_machine.specs.declared.kind.Kind.{Kind}
use Rattle.c_machine.specs.declared.task.Task.TheVariants.{Convert, Unknown, ValueOf}
use Rattle.c_machine.specs.Expressions.{argument_tasks, value_kind}
use Rattle.c_machine.specs.Program.{Program}
use Rattle.c_machine.specs.Trees.{kind_in, text_of}
use Rattle.c_run.specs.declared.tasks.room.Room.{Room}
use Rattle.c_run.specs.declared.tasks.room.Room.TheVariants.{Made}
use Rattle.c_run.specs.tasks.Room.{are_kept, kinds_in, MakesRoom}
use Rattle.c_run.proofs.tasks.MakingRoom.{Tasks, Running, same_room}
use Rattle.c_run.proofs.tasks.RoomBehind.{in_front, lacks_behind}

-- the parameters of a function by their types
abbrev pub params_by : Program → List CType → List Kind
params_by p types = map (kind_in p) types

module _ (p : Program) where
  abbrev here : Expr → Kind → Tasks
  here arg param = ValueOf arg ∷ Convert (value_kind (text_of p) arg) param ∷ []

  next_argument : (args : List Expr) (params : List Kind) (place : ℕ) (arg : Expr) (param : Kind) → slice_get args place ≡ Some arg → slice_get params place ≡ Some param →
      argument_tasks (text_of p) (drop place args) (drop place params) ≡ here arg param ++ argument_tasks (text_of p) (drop (suc place) args) (drop (suc place) params)
  next_argument [] params place arg param is there = absurd cc
  next_argument (one ∷ args) [] place arg param is there = absurd cc
  next_argument (one ∷ args) (kind ∷ params) zero arg param is there = cc
  next_argument (one ∷ args) (kind ∷ params) (suc place) arg param is there = next_argument args params place arg param is there

  -- an argument in front of which there is room has none in front of all
  pub lacks_argument : (args : List Expr) (params : List Kind) (place : ℕ) → length args ≤ length params →
      are_kept (kinds_in (argument_tasks (text_of p) (drop place args) (drop place params))) ≡ false → are_kept (kinds_in (argument_tasks (text_of p) args params)) ≡ false
  lacks_argument args params zero few is = is
  lacks_argument [] params (suc place) few is = is
  lacks_argument (arg ∷ args) [] (suc place) few is = absurd (omega (arith, few))
  lacks_argument (arg ∷ args) (param ∷ params) (suc place) few is =
      lacks_behind (here arg param) (argument_tasks (text_of p) args params) (lacks_argument args params place (omega (arith, few)) is)

  -- an argument behind the last parameter
  pub surplus_argument : (args : List Expr) (params : List Kind) → length params < length args →
      argument_tasks (text_of p) args params ≡ argument_tasks (text_of p) (take (length params) args) params ++ Unknown ∷ []
  surplus_argument [] params many = absurd (omega (arith, many))
  surplus_argument (arg ∷ args) [] many = refl
  surplus_argument (arg ∷ args) (param ∷ params) many = ap (λ (tasks : Tasks). here arg param ++ tasks) (surplus_argument args params (omega (arith, many)))

  param_there : (types : List CType) (index : ℕ) → index < length types → (param : CType) × (slice_get types index ≡ Some param)
  param_there [] index within = absurd (omega (arith, within))
  param_there (param ∷ types) zero within = (param, refl)
  param_there (other ∷ types) (suc index) within = param_there types index (omega (arith, within))

  pub argument_in_front : (args : List Expr) (types : List CType) (place : ℕ) (arg : Expr) (room : Room) (before between after : Running)
      → place < length args → length args ≤ length types → arg ≡ get_or args place arg
      → ((param : CType) → slice_get types place ≡ Some param → MakesRoom (here arg (kind_in p param)) room between after)
      → MakesRoom (argument_tasks (text_of p) (drop (suc place) args) (drop (suc place) (params_by p types))) Made before between
      → MakesRoom (argument_tasks (text_of p) (drop place args) (drop place (params_by p types))) room before after
  argument_in_front args types place arg room before between after within few is first rest =
      let (param, there) = param_there types place (omega (arith, within, few)) in
      let kind_there : slice_get (params_by p types) place ≡ Some (kind_in p param) =
      slice_get-map (kind_in p) types place ∙ ap (option_map (kind_in p)) there in
      same_room _ _ room before after
      (next_argument args (params_by p types) place arg (kind_in p param) (slice_get_read args (length args) place arg refl within is) kind_there)
      (in_front (here arg (kind_in p param)) (argument_tasks (text_of p) (drop (suc place) args) (drop (suc place) (params_by p types))) room before between after rest (first param there))

  -- as a loop comes to it, from behind
  pub argument_before : (args : List Expr) (types : List CType) (left : ℕ) (arg : Expr) (room : Room) (before between after : Running)
      → 0 < left → left ≤ length args → length args ≤ length types → arg ≡ get_or args (left - 1) arg
      → ((param : CType) → slice_get types (left - 1) ≡ Some param → MakesRoom (here arg (kind_in p param)) room between after)
      → MakesRoom (argument_tasks (text_of p) (drop left args) (drop left (params_by p types))) Made before between
      → MakesRoom (argument_tasks (text_of p) (drop (left - 1) args) (drop (left - 1) (params_by p types))) room before after
  argument_before args types left arg room before between after some inside few is first rest =
      let same : suc (left - 1) ≡ left = omega (arith, some) in
      argument_in_front args types (left - 1) arg room before between after (omega (arith, some, inside)) few is first
      (subst (λ (k : ℕ). MakesRoom (argument_tasks (text_of p) (drop k args) (drop k (params_by p types))) Made before between) (sym same) rest)

  params_length : (types : List CType) → length (params_by p types) ≡ length types
  params_length types = length-map types (kind_in p)

  pub argument_lacks : (args : List Expr) (types : List CType) (left : ℕ) → length args ≤ length types
      → are_kept (kinds_in (argument_tasks (text_of p) (drop left args) (drop left (params_by p types)))) ≡ false
      → are_kept (kinds_in (argument_tasks (text_of p) args (params_by p types))) ≡ false
  argument_lacks args types left few =
      lacks_argument args (params_by p types) left (subst (λ (count : ℕ). length args ≤ count) (sym (params_length types)) few)

  -- more arguments than parameters
  pub behind_params : (args : List Expr) (types : List CType) (count : ℕ) (room : Room) (before between after : Running) → count ≡ length types → count < length args
      → MakesRoom (Unknown ∷ []) Made before between
      → (length (take count args) ≤ length types → MakesRoom (argument_tasks (text_of p) (take count args) (params_by p types)) room between after)
      → MakesRoom (argument_tasks (text_of p) args (params_by p types)) room before after
  behind_params args types count room before between after told many rest first =
      let same : count ≡ length (params_by p types) = told ∙ sym (params_length types) in
      same_room _ _ room before after
      (surplus_argument args (params_by p types) (subst (λ (k : ℕ). k < length args) same many)
      ∙ ap (λ (k : ℕ). argument_tasks (text_of p) (take k args) (params_by p types) ++ Unknown ∷ []) (sym same))
      (in_front (argument_tasks (text_of p) (take count args) (params_by p types)) (Unknown ∷ []) room before between after rest
      (first (omega (arith, length-take {A = Expr} count args, told))))
