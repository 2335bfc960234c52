-- Moves are placed each at points of its own.
use Rattle.std.proofs.Common.{◌≡◌, ◌≢◌, ◌<◌, ◌≤◌, ◌⊎◌, ℕ, suc, List, [], ◌∷◌, ◌++◌, map, length, Bool, true, false, ◌&&◌, cond, filter, nat_eq, refl, sym, ap, ◌∙◌, inl, inr, ⊎_elim, arith, append-nil}
use Rattle.std.specs.List.{list_all}
use Rattle.std.proofs.Math.Nat.{le-max_left}
use Rattle.std.proofs.lemmas.Bool.{false≢true, eq-eqb, ne_eqb}
use Rattle.std.proofs.lemmas.List.Elements.{filter-append}
use Rattle.cbase.specs.declared.place.Place.{Place}
use Rattle.c_machine.specs.declared.object.Object.{Object}
use Rattle.flow.specs.declared.instruction.Instr.{Instr}
use Rattle.flow.specs.declared.flow_graph.FlowEdge.{FlowEdge}
use Rattle.flow.specs.declared.flow_graph.Standing.{Standing}
use Rattle.flow.specs.declared.flow_graph.Variable.{Variable}
use Rattle.flow.specs.declared.flow_graph.Flow.{Flow}
use Rattle.flow.specs.Valid.{is_object_size}
use Rattle.simulation.specs.Edges.{One, Two, NoEdge}
use Rattle.lowering.specs.Placing.{Made, emit, with_point, with_registers, behind_widths, stands_at, with_head, with_objects, failed}

-- the edges out of a point
abbrev pub outs : List FlowEdge → ℕ → List FlowEdge
outs edges point = filter (λ edge. nat_eq edge.from point) edges

-- edges are out of points that are there, and something stands at each of these
pub record IsSound (made : Made) : Type 0 where
  pub fresh : (point : ℕ) → made.points ≤ point → outs made.edges point ≡ []
  pub stands : length made.stands ≡ made.points

-- variables of functions are those of objects that are no static ones
abbrev pub AreLocal : List Variable → Type 0
AreLocal [] = Unit {0}
AreLocal (variable ∷ variables) = (variable.fixed ≡ false) × AreLocal variables

local_more : (one other : List Variable) → AreLocal one → AreLocal other → AreLocal (one ++ other)
local_more [] other are are' = are'
local_more (variable ∷ one) other are are' = (are.0, local_more one other are.1 are')

local_objects : (objects : List Object) → AreLocal (map (λ object. record { size = object.bytes; fixed = false }) objects)
local_objects [] = tt
local_objects (object ∷ objects) = (refl, local_objects objects)

-- what is placed from a point on takes points and registers from there on, and changes the edges of no other point that was there
pub record IsPlacing (before : Made) (from : ℕ) (after : Made) : Type 0 where
  pub points : before.points ≤ after.points
  pub registers : before.registers ≤ after.registers
  pub stands : (more : List Standing) × (after.stands ≡ before.stands ++ more)
  pub variables : (more : List Variable) × (after.variables ≡ before.variables ++ more) × AreLocal more
  pub graph : after.is_graph ≡ true → before.is_graph ≡ true
  pub touches : (point : ℕ) → point < before.points → point ≢ from → outs after.edges point ≡ outs before.edges point
  pub sound : IsSound after

abbrev pub edge_of : ℕ → Instr → ℕ → Place → FlowEdge
edge_of from instr to place = record { from = from; to = to; instr = instr; place = place }

abbrev begins_at : ℕ → FlowEdge → Bool
begins_at point edge = nat_eq edge.from point

-- an edge more
pub outs-other : (edges : List FlowEdge) (from to : ℕ) (instr : Instr) (place : Place) (point : ℕ) → point ≢ from →
    outs (edges ++ edge_of from instr to place ∷ []) point ≡ outs edges point
outs-other edges from to instr place point differ =
    filter-append (begins_at point) edges (edge_of from instr to place ∷ [])
    ∙ (ap (λ (b : Bool). outs edges point ++ cond b (edge_of from instr to place ∷ []) []) (ne_eqb from point (λ same. differ (sym same)))
    ∙ append-nil (outs edges point))

pub outs-same : (edges : List FlowEdge) (from to : ℕ) (instr : Instr) (place : Place) →
    outs (edges ++ edge_of from instr to place ∷ []) from ≡ outs edges from ++ edge_of from instr to place ∷ []
outs-same edges from to instr place =
    filter-append (begins_at from) edges (edge_of from instr to place ∷ [])
    ∙ ap (λ (b : Bool). outs edges from ++ cond b (edge_of from instr to place ∷ []) []) (eq-eqb from from refl)

append_assoc : {A : Type 0} (one other more : List A) → (one ++ other) ++ more ≡ one ++ (other ++ more)
append_assoc [] other more = refl
append_assoc (first ∷ one) other more = ap (λ rest. first ∷ rest) (append_assoc one other more)

length_more : {A : Type 0} (one : List A) (last : A) → length (one ++ last ∷ []) ≡ suc (length one)
length_more [] last = refl
length_more (first ∷ one) last = ap suc (length_more one last)

and_one : (one other : Bool) → (one && other) ≡ true → one ≡ true
and_one true other holds = refl
and_one false other holds = holds

pub nothing_placed : (made : Made) (from : ℕ) → IsSound made → IsPlacing made from made
nothing_placed made from sound = record {
  points = omega arith;
  registers = omega arith;
  stands = ([], sym (append-nil made.stands));
  variables = ([], sym (append-nil made.variables), tt);
  graph = λ holds. holds;
  touches = λ point below differ. refl;
  sound = sound;
}

pub then_placing : {before middle after : Made} {from from' : ℕ} → IsPlacing before from middle → IsPlacing middle from' after →
    (from' ≡ from) ⊎ (before.points ≤ from') → IsPlacing before from after
then_placing {before = before} {middle = middle} {after = after} {from = from} {from' = from'} one other own =
    let h = one.points in
    let h' = other.points in
    let k = one.registers in
    let k' = other.registers in
    record {
      points = omega arith;
      registers = omega arith;
      stands = (one.stands.0 ++ other.stands.0, other.stands.1 ∙ (ap (λ list. list ++ other.stands.0) one.stands.1 ∙ append_assoc before.stands one.stands.0 other.stands.0));
      variables = (
        one.variables.0 ++ other.variables.0,
        other.variables.1 ∙ (ap (λ list. list ++ other.variables.0) one.variables.1 ∙ append_assoc before.variables one.variables.0 other.variables.0),
        local_more one.variables.0 other.variables.0 one.variables.2 other.variables.2,
      );
      graph = λ holds. one.graph (other.graph holds);
      touches = λ point below differ.
          other.touches point (omega arith) (λ same. ⊎_elim (λ (is : from' ≡ from). differ (same ∙ is)) (λ (above : before.points ≤ from'). absurd (omega arith)) own)
          ∙ one.touches point below differ;
      sound = other.sound;
    }

pub emit_placing : (made : Made) (from to : ℕ) (instr : Instr) (place : Place) → from < made.points → IsSound made → IsPlacing made from (emit made from instr to place)
emit_placing made from to instr place inside sound = record {
  points = omega arith;
  registers = omega arith;
  stands = ([], sym (append-nil made.stands));
  variables = ([], sym (append-nil made.variables), tt);
  graph = λ holds. holds;
  touches = λ point below differ. outs-other made.edges from to instr place point differ;
  sound = record {
    fresh = λ point above. outs-other made.edges from to instr place point (λ same. absurd (omega arith)) ∙ sound.fresh point above;
    stands = sound.stands;
  };
}

pub point_placing : (standing : Standing) (made : Made) (from : ℕ) → IsSound made → IsPlacing made from (with_point standing made)
point_placing standing made from sound = record {
  points = omega arith;
  registers = omega arith;
  stands = (standing ∷ [], refl);
  variables = ([], sym (append-nil made.variables), tt);
  graph = λ holds. holds;
  touches = λ point below differ. refl;
  sound = record { fresh = λ point above. sound.fresh point (omega arith); stands = length_more made.stands standing ∙ ap suc sound.stands };
}

pub registers_placing : (count : ℕ) (made : Made) (from : ℕ) → IsSound made → IsPlacing made from (with_registers count made)
registers_placing count made from sound = record {
  points = omega arith;
  registers = omega arith;
  stands = ([], sym (append-nil made.stands));
  variables = ([], sym (append-nil made.variables), tt);
  graph = λ holds. holds;
  touches = λ point below differ. refl;
  sound = record { fresh = sound.fresh; stands = sound.stands };
}

pub head_placing : (head : ℕ) (made : Made) (from : ℕ) → IsSound made → IsPlacing made from (with_head head made)
head_placing head made from sound = record {
  points = omega arith;
  registers = le-max_left made.registers (behind_widths (stands_at made head).registers);
  stands = ([], sym (append-nil made.stands));
  variables = ([], sym (append-nil made.variables), tt);
  graph = λ holds. holds;
  touches = λ point below differ. refl;
  sound = record { fresh = sound.fresh; stands = sound.stands };
}

pub failed_placing : (made : Made) (from : ℕ) → IsSound made → IsPlacing made from (failed made)
failed_placing made from sound = record {
  points = omega arith;
  registers = omega arith;
  stands = ([], sym (append-nil made.stands));
  variables = ([], sym (append-nil made.variables), tt);
  graph = λ holds. absurd (false≢true holds);
  touches = λ point below differ. refl;
  sound = record { fresh = sound.fresh; stands = sound.stands };
}

pub objects_placing : (objects : List Object) (made : Made) (from : ℕ) → IsSound made → IsPlacing made from (with_objects false objects made)
objects_placing objects made from sound = record {
  points = omega arith;
  registers = omega arith;
  stands = ([], sym (append-nil made.stands));
  variables = (map (λ object. record { size = object.bytes; fixed = false }) objects, refl, local_objects objects);
  graph = λ holds. and_one made.is_graph (list_all (λ object. is_object_size object.bytes) objects) holds;
  touches = λ point below differ. refl;
  sound = record { fresh = sound.fresh; stands = sound.stands };
}

-- what the graph has of what is placed: for its own points the same edges, and no form is left out
pub record IsSpelled (flow : Flow) (before : Made) (from : ℕ) (after : Made) : Type 0 where
  pub inside : from < before.points
  pub sound : IsSound before
  pub opened : outs before.edges from ≡ []
  pub same : (point : ℕ) → point < after.points → (point ≡ from) ⊎ (before.points ≤ point) → outs flow.edges point ≡ outs after.edges point
  pub stands : (more : List Standing) × (flow.stands ≡ after.stands ++ more)
  pub variables : (more : List Variable) × (flow.variables ≡ after.variables ++ more)
  pub graph : after.is_graph ≡ true

-- what is taken in front belongs to no point
pub spelled_more : {flow : Flow} {before middle after : Made} {from : ℕ} → IsSpelled flow before from after → IsPlacing before before.points middle → outs middle.edges from ≡ outs before.edges from →
    IsSpelled flow middle from after
spelled_more {flow = flow} {before = before} {middle = middle} {after = after} {from = from} spelled placing still =
    let h = placing.points in
    let inside = spelled.inside in
    record {
      inside = omega arith;
      sound = placing.sound;
      opened = still ∙ spelled.opened;
      same = λ point below own. spelled.same point below (⊎_elim (λ (is : point ≡ from). inl is) (λ (above : middle.points ≤ point). inr (omega arith)) own);
      stands = spelled.stands;
      variables = spelled.variables;
      graph = spelled.graph;
    }

pub spelled_point : {flow : Flow} {before after : Made} {from : ℕ} (standing : Standing) → IsSpelled flow before from after → IsSpelled flow (with_point standing before) from after
spelled_point {before = before} standing spelled = spelled_more spelled (point_placing standing before before.points spelled.sound) refl

pub spelled_registers : {flow : Flow} {before after : Made} {from : ℕ} (count : ℕ) → IsSpelled flow before from after → IsSpelled flow (with_registers count before) from after
spelled_registers {before = before} count spelled = spelled_more spelled (registers_placing count before before.points spelled.sound) refl

-- the last part is taken away
pub spelled_first : {flow : Flow} {before middle after : Made} {from other : ℕ} → IsSpelled flow before from after → IsPlacing middle other after → other < before.points → other ≢ from →
    IsSpelled flow before from middle
spelled_first {flow = flow} {before = before} {middle = middle} {after = after} {from = from} {other = other} spelled placing below differ =
    let h = placing.points in
    record {
      inside = spelled.inside;
      sound = spelled.sound;
      opened = spelled.opened;
      same = λ point within own.
          spelled.same point (omega arith) own
          ∙ placing.touches point within (λ is. ⊎_elim (λ (same : point ≡ from). differ (sym is ∙ same)) (λ (above : before.points ≤ point). absurd (omega arith)) own);
      stands = (
        placing.stands.0 ++ spelled.stands.0,
        spelled.stands.1 ∙ (ap (λ list. list ++ spelled.stands.0) placing.stands.1 ∙ append_assoc middle.stands placing.stands.0 spelled.stands.0),
      );
      variables = (
        placing.variables.0 ++ spelled.variables.0,
        spelled.variables.1 ∙ (ap (λ list. list ++ spelled.variables.0) placing.variables.1 ∙ append_assoc middle.variables placing.variables.0 spelled.variables.0),
      );
      graph = placing.graph spelled.graph;
    }

-- the first part is taken away
pub spelled_rest : {flow : Flow} {before middle after : Made} {from at : ℕ} → IsSpelled flow before from after → IsPlacing before from middle → at < middle.points → before.points ≤ at →
    outs middle.edges at ≡ [] → IsSpelled flow middle at after
spelled_rest {flow = flow} {before = before} {middle = middle} {after = after} {from = from} {at = at} spelled placing inside above opened =
    let h = placing.points in
    record {
      inside = inside;
      sound = placing.sound;
      opened = opened;
      same = λ point within own. spelled.same point within (inr (⊎_elim (λ (same : point ≡ at). let k : before.points ≤ point = omega arith in k)
          (λ (above' : middle.points ≤ point). let k : before.points ≤ point = omega arith in k) own));
      stands = spelled.stands;
      variables = spelled.variables;
      graph = spelled.graph;
    }

-- an edge, two, and none
pub emit_spelled : {flow : Flow} {made : Made} {from : ℕ} (to : ℕ) (instr : Instr) (place : Place) → IsSpelled flow made from (emit made from instr to place) → One flow from instr to place
emit_spelled {made = made} {from = from} to instr place spelled =
    spelled.same from spelled.inside (inl refl) ∙ (outs-same made.edges from to instr place ∙ ap (λ (edges : List FlowEdge). edges ++ edge_of from instr to place ∷ []) spelled.opened)

pub pair_spelled : {flow : Flow} {made : Made} {from : ℕ} (off on : ℕ) (one other : Instr) (place : Place) → IsSpelled flow made from (emit (emit made from one off place) from other on place) →
    Two flow from one off place other on place
pair_spelled {made = made} {from = from} off on one other place spelled =
    spelled.same from spelled.inside (inl refl)
    ∙ (outs-same (made.edges ++ edge_of from one off place ∷ []) from on other place
    ∙ ap (λ (edges : List FlowEdge). edges ++ edge_of from other on place ∷ [])
    (outs-same made.edges from off one place ∙ ap (λ (edges : List FlowEdge). edges ++ edge_of from one off place ∷ []) spelled.opened))

pub none_spelled : {flow : Flow} {made : Made} {from : ℕ} → IsSpelled flow made from made → NoEdge flow from
none_spelled {from = from} spelled = spelled.same from spelled.inside (inl refl) ∙ spelled.opened
