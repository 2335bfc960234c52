-- The static objects of a program are those of its graph, and their initialisers write what the graph begins with.
use Rattle.std.proofs.Common.{◌≡◌, ℕ, zero, suc, ◌+◌, ◌*◌, ◌≤◌, Bool, true, false, List, [], ◌∷◌, ◌++◌, map, length, refl, sym, ap, subst, ◌∙◌, arith, Option, Some, slice_get, if◌then◌else◌}
use Rattle.std.specs.List.{list_all}
use Rattle.std.proofs.lemmas.Bool.{and_parts, leb-true}
use Rattle.std.proofs.lemmas.Option.{same_Some, none-some}
use Rattle.bytes_core.specs.declared.block.Block.{Block}
use Rattle.choices.specs.declared.choice.Choice.{Choice}
use Rattle.c_machine.specs.declared.object.Object.{Object}
use Rattle.c_machine.specs.State.{OutcomeIn, Scope, Went, is_named}
use Rattle.c_machine.specs.Text.{Set, Text}
use Rattle.flow.specs.declared.flow_graph.Flow.{Flow}
use Rattle.flow.specs.declared.flow_graph.Initial.{Initial}
use Rattle.flow.specs.declared.flow_graph.Variable.{Variable}
use Rattle.flow.specs.Holding.{block_of}
use Rattle.flow.specs.InRange.{entry_of}
use Rattle.flow.specs.Machine as graph
use Rattle.flow.specs.Runs.{blank, with_statics, with_initials}
use Rattle.flow.specs.Valid.{is_object_size}
use Rattle.simulation.specs.Names.{Name as NameThere, variable_in as variable_there}
use Rattle.simulation.specs.Running.{Setting}
use Rattle.simulation.specs.Starting.{IsFixed, AreFixed, AreStaticsLowered}
use Rattle.simulation.specs.Worlds.{AreNames}
use Rattle.simulation.proofs.Scopes.{object_found}
use Rattle.simulation.specs.Names.{Name, variable_in}
use Rattle.lowering.specs.Initials.{initials_of, latest}
use Rattle.lowering.specs.Placing.{named_from}
use Rattle.lowering.proofs.StaticsMade.{fixed_of, AreLocal, IsBlockOf, statics_made}
use Rattle.lowering.proofs.KnownWords.{AllWeigh, Weighing}
use Rattle.lowering.proofs.StaticsWritten.{IsStood, all_written}

-- names as they are told of
abbrev pub told : List Name → List NameThere
told names = map (λ name. record { token = name.token; variable = name.variable }) names

variable_told : (names : List Name) (token : ℕ) → variable_there (told names) token ≡ variable_in names token
variable_told [] token = refl
variable_told (name ∷ names) token = ap (λ (found : Option ℕ). if is_named name.token token then Some name.variable else found) (variable_told names token)

-- a name leads to an object, by the number of its variable
named_there : (first : ℕ) (objects : List Object) (token variable : ℕ) → variable_in (named_from first objects) token ≡ Some variable →
    (place : ℕ) × (object : Object) × (variable ≡ first + place) × (slice_get objects place ≡ Some object)
named_there first [] token variable is = absurd (none-some variable is)
named_there first (object ∷ objects) token variable is = by_name (is_named object.token token) is (named_there (suc first) objects token variable)
  where
    by_name : (here : Bool) → (if here then Some first else variable_in (named_from (suc first) objects) token) ≡ Some variable →
        (variable_in (named_from (suc first) objects) token ≡ Some variable → (place : ℕ) × (object' : Object) × (variable ≡ suc first + place) × (slice_get objects place ≡ Some object')) →
        (place : ℕ) × (object' : Object) × (variable ≡ first + place) × (slice_get (object ∷ objects) place ≡ Some object')
    by_name true is' more = (0, object, (let same = same_Some first variable is' in omega arith), refl)
    by_name false is' more = let found = more is' in (suc found.0, found.1, (let same = found.2 in omega arith), found.3)

small_at : (objects : List Object) (place : ℕ) (object : Object) → list_all (λ one. is_object_size one.bytes) objects ≡ true → slice_get objects place ≡ Some object → object.bytes ≤ 65536
small_at [] place object all is = absurd (none-some object is)
small_at (first ∷ objects) zero object all is =
    subst (λ (o : Object). o.bytes ≤ 65536) (same_Some first object is) (leb-true first.bytes 65536 (and_parts (is_object_size first.bytes) (list_all (λ one. is_object_size one.bytes) objects) all).0)
small_at (first ∷ objects) (suc place) object all is = small_at objects place object (and_parts (is_object_size first.bytes) (list_all (λ one. is_object_size one.bytes) objects) all).1 is

-- the variables are those of the objects, in order
locals_fixed : (number : ℕ) (others : List Variable) → AreLocal others → AreFixed number others [] []
locals_fixed number [] local = tt
locals_fixed number (variable ∷ others) local =
    subst (λ (fixed : Bool). IsFixed fixed variable.size number [] [] (AreFixed (number + 1) others)) (sym local.0) (locals_fixed (number + 1) others local.1)

are_fixed : (number first : ℕ) (objects : List Object) (others : List Variable) → AreLocal others → first ≡ number → AreFixed number (fixed_of objects ++ others) objects (told (named_from first objects))
are_fixed number first [] others local is = locals_fixed number others local
are_fixed number first (object ∷ objects) others local is = (refl, refl, is, are_fixed (number + 1) (suc first) objects others local (omega arith))

-- What the graph has of static objects: their variables come first, and no other one is static; each has at most 65,536 bytes; and it begins with the last scalar
-- that initialisers set at each place.
pub record HasStatics (t : Text) (flow : Flow) (setting : Setting) : Type 0 where
  pub others : List Variable
  pub variables : flow.variables ≡ fixed_of t.statics ++ others
  pub local : AreLocal others
  pub small : list_all (λ object. is_object_size object.bytes) t.statics ≡ true
  pub scalars : List Initial
  pub told_scalars : initials_of t (named_from 0 t.statics) ≡ Some scalars
  pub initial : flow.initial ≡ latest scalars
  pub statics : setting.statics ≡ told (named_from 0 t.statics)

-- The machine is given steps enough for its initialisers: eight for each part of one that is worked out.
pub record HasSteps (t : Text) : Type 1 where
  pub weighing : Weighing t
  pub steps : ℕ
  pub enough : t.enough ≡ length t.statics + steps
  pub few : (count : ℕ) → AllWeigh (λ (set : Set t.Init). weighing.init set.init) t.sets count → 8 * count ≤ steps

stood_at : (t : Text) (made : graph.State) (statics : Scope) → list_all (λ object. is_object_size object.bytes) t.statics ≡ true →
    ((variable : ℕ) (object : Object) → slice_get t.statics variable ≡ Some object → (block_of made.statics variable ≡ Some variable) × IsBlockOf made.memory variable object.bytes) →
    AreNames made.statics (told (named_from 0 t.statics)) statics → (token variable : ℕ) → variable_in (named_from 0 t.statics) token ≡ Some variable → IsStood t statics made.statics token variable
stood_at t made statics small each are token variable is =
    let there = named_there 0 t.statics token variable is in
    let place : there.0 ≡ variable = (let same = there.2 in omega arith) in
    let object : slice_get t.statics variable ≡ Some there.1 = subst (λ (n : ℕ). slice_get t.statics n ≡ Some there.1) place there.3 in
    let found = object_found made.statics (told (named_from 0 t.statics)) statics token variable are (variable_told (named_from 0 t.statics) token ∙ is) in
    let block = (each variable there.1 object).0 in
    record {
      object = there.1;
      is = object;
      small = small_at t.statics variable there.1 small object;
      here = found.1 ∙ ap Some (same_Some found.0 variable (sym found.2 ∙ block));
      there = block;
    }

abbrev ends : (t : Text) → Scope → List Block → List Choice → OutcomeIn t
ends t statics memory more = Went (record { tasks = []; operands = []; frame = []; callers = []; statics = statics; memory = memory }) more

pub statics_lowered : (t : Text) (flow : Flow) (setting : Setting) → HasStatics t flow setting → HasSteps t → AreStaticsLowered t flow setting
statics_lowered t flow setting has long = record {
  fixed = subst (λ (variables : List Variable). AreFixed 0 variables t.statics setting.statics) (sym has.variables)
      (subst (λ (names : List NameThere). AreFixed 0 (fixed_of t.statics ++ has.others) t.statics names) (sym has.statics) (are_fixed 0 0 t.statics has.others has.local refl));
  steps = long.steps;
  enough = long.enough;
  written = λ made statics choices more goes are.
      let each = statics_made t.statics has.others has.local made more (entry_of flow flow.main) choices
      (subst (λ (variables : List Variable). with_statics 0 variables (blank (entry_of flow flow.main)) choices ≡ graph.Went made more) has.variables goes) in
      let are' : AreNames made.statics (told (named_from 0 t.statics)) statics = subst (λ (names : List NameThere). AreNames made.statics names statics) has.statics are in
      let stood : (token variable : ℕ) → variable_in (named_from 0 t.statics) token ≡ Some variable → IsStood t statics made.statics token variable = stood_at t made statics has.small each.0 are' in
      all_written t statics made.statics (named_from 0 t.statics) stood long.weighing has.scalars has.told_scalars made.memory
      (record { blocks = λ variable object is. (each.0 variable object is).1; none = each.1 }) long.steps more long.few
      ∙ ap (λ (scalars : List Initial). ends t statics (with_initials made.statics scalars made.memory) more) (sym has.initial);
}
