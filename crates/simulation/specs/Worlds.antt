-- All that a state has beside what is to be done, operands, registers, a point and the memory; and when two are alike.
use Rattle.std.specs.Prelude.{◌≡◌, ◌↔◌, ℕ, Bool, false, List, [], ◌∷◌, ◌++◌, map, length, Contains, ◌⊎◌, Some}
use Rattle.std.specs.List.{flat_map}
use Rattle.bytes_core.specs.declared.block.Block.{Block}
use Rattle.bytes_core.specs.declared.word.Word.{Word}
use Rattle.c_machine.specs.Text.{Text}
use Rattle.c_machine.specs.State.{Scope, Frame, TaskIn, StateIn, objects_of, blocks_of, led_to}
use Rattle.flow.specs.Holding.{Held, Owned, block_of}
use Rattle.flow.specs.Machine.{Caller, caller_roots}
use Rattle.flow.specs.Machine as graph
use Rattle.simulation.specs.Names.{Name, names_of}
use Rattle.simulation.specs.Running.{Setting, Running}

-- of the source: what the callers do behind the call, and the operands that their unfinished expressions hold, too
pub record World (t : Text) : Type 0 where
  pub frame : Frame
  pub callers : List Frame
  pub statics : Scope
  pub rest : List (TaskIn t)
  pub below : List Word

-- of the graph
pub record Side : Type 0 where
  pub variables : List Owned
  pub callers : List Caller
  pub statics : List Owned
  pub outer : List ℕ

abbrev pub source : (t : Text) → List (TaskIn t) → List Word → World t → List Block → StateIn t
source t tasks operands w memory = record {
  tasks = tasks ++ w.rest;
  operands = operands ++ w.below;
  frame = w.frame;
  callers = w.callers;
  statics = w.statics;
  memory = memory;
}

abbrev pub state : ℕ → List Held → Side → List Block → graph.State
state point registers v memory = record {
  point = point;
  frame = record { variables = v.variables; registers = registers };
  callers = v.callers;
  statics = v.statics;
  memory = memory;
  outer = v.outer;
}

-- two lists have the same members
abbrev pub AreSame : List ℕ → List ℕ → Type 0
AreSame one other = (block : ℕ) → Contains one block ↔ Contains other block

-- objects are the variables of these names, in order
abbrev pub AreNames : List Owned → List Name → Scope → Type 0
AreNames owned [] [] = Unit {0}
AreNames owned [] (object ∷ scope) = ⊥
AreNames owned (name ∷ names) [] = ⊥
AreNames owned (name ∷ names) (object ∷ scope) =
    (object.token ≡ name.token) × (block_of owned name.variable ≡ Some object.block) × AreNames owned names scope

abbrev pub AreScopes : List Owned → List (List Name) → Frame → Type 0
AreScopes owned [] [] = Unit {0}
AreScopes owned [] (scope ∷ frame) = ⊥
AreScopes owned (names ∷ scopes) [] = ⊥
AreScopes owned (names ∷ scopes) (scope ∷ frame) = AreNames owned names scope × AreScopes owned scopes frame

-- a variable is that of one of these objects
abbrev pub IsOwned : Owned → List Name → Scope → Type 0
IsOwned one [] scope = ⊥
IsOwned one (name ∷ names) [] = ⊥
IsOwned one (name ∷ names) (object ∷ scope) = ((one.variable ≡ name.variable) × (one.block ≡ object.block)) ⊎ IsOwned one names scope

abbrev pub AreOwned : List Owned → List Name → Scope → Type 0
AreOwned [] names scope = Unit {0}
AreOwned (one ∷ owned) names scope = IsOwned one names scope × AreOwned owned names scope

-- as many functions wait in the one as in the other; where none does, the function that runs is main
abbrev pub IsOutermost : Bool → Bool → List Frame → List Caller → Type 0
IsOutermost closes strict [] [] = closes ≡ strict
IsOutermost closes strict [] (caller ∷ callers) = ⊥
IsOutermost closes strict (frame ∷ frames) [] = ⊥
IsOutermost closes strict (frame ∷ frames) (caller ∷ callers) = closes ≡ false

-- the worlds have the same objects
pub record AreAlike (t : Text) (setting : Setting) (running : Running) (scopes : List (List Name)) (w : World t) (v : Side) : Type 0 where
  pub frame : AreScopes v.variables scopes w.frame
  pub owned : AreOwned v.variables (names_of scopes) (objects_of w.frame)
  pub fixed : AreNames v.statics setting.statics w.statics
  pub others : AreSame (blocks_of (flat_map objects_of w.callers) ++ (blocks_of w.statics ++ led_to w.below))
      (map (λ owned. owned.block) v.statics ++ (caller_roots v.callers ++ v.outer))
  pub held : length w.below ≡ running.base
  pub outermost : IsOutermost running.closes t.strict w.callers v.callers
