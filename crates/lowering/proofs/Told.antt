-- What is placed where a value becomes a `_Bool`: a test against 0, and 1 or 0 behind it.
use Rattle.std.proofs.Common.{◌≡◌, ◌<◌, ◌≤◌, ℕ, zero, suc, List, [], ◌∷◌, ◌++◌, Bool, true, not, nat_eq, refl, ap, ◌∙◌, inl, inr, arith, if◌then◌else◌}
use Rattle.std.proofs.lemmas.Bool.{and_from, not_from_false, ne_eqb}
use Rattle.cbase.specs.declared.place.Place.{Place}
use Rattle.c_machine.specs.Text.{Text}
use Rattle.bytes_core.specs.declared.block.Block.{Block}
use Rattle.bytes_core.specs.declared.word.Word.{Word}
use Rattle.bytes_core.specs.declared.word.Word.TheVariants.{Plain}
use Rattle.bytes_core.specs.Value.{address_number}
use Rattle.flow.specs.declared.flow_graph.Flow.{Flow}
use Rattle.flow.specs.declared.flow_graph.FlowEdge.{FlowEdge}
use Rattle.flow.specs.declared.flow_graph.Standing.{Standing as Stood}
use Rattle.flow.specs.declared.instruction.Instr.TheVariants as i
use Rattle.simulation.specs.Edges.{One, Two}
use Rattle.simulation.specs.Slots.{Slot, is_free}
use Rattle.simulation.specs.Turning.{Turns, Tested}
use Rattle.lowering.specs.Moves.{Tells}
use Rattle.lowering.specs.Placing.{Made, Around, with_width, stands_at, without_register, place_told, go}
use Rattle.lowering.proofs.Placings.{outs, outs-other, outs-same, edge_of, IsSpelled}
use Rattle.lowering.proofs.Ready.{AreBelow, free_below}

-- the edges of a value that is told
pub record IsTold (flow : Flow) (from test register size into on off to : ℕ) (place : Place) : Type 0 where
  pub middle : ℕ
  pub number : One flow from (i.Number test 0 size) middle place
  pub asks : Two flow middle (i.IfSame register test) off place (i.IfDifferent register test) on place
  pub one : One flow on (i.Number into 1 1) to place
  pub naught : One flow off (i.Number into 0 1) to place

pub told_edges : {flow : Flow} {made : Made} {from : ℕ} (register size into : ℕ) (tested standing : Stood) (place : Place) (to : ℕ) → IsSpelled flow made from (place_told made from register size into tested standing place to) →
    IsTold flow from made.registers register size into (suc (suc made.points)) (suc made.points) to place
told_edges {flow = flow} {made = made} {from = from} register size into tested standing place to spelled =
    let p : ℕ = made.points in
    let r : ℕ = made.registers in
    let inside = spelled.inside in
    let e0 : List FlowEdge = made.edges in
    let e1 : List FlowEdge = e0 ++ edge_of from (i.Number r 0 size) p place ∷ [] in
    let e2 : List FlowEdge = e1 ++ edge_of p (i.IfSame register r) (suc p) place ∷ [] in
    let e3 : List FlowEdge = e2 ++ edge_of p (i.IfDifferent register r) (suc (suc p)) place ∷ [] in
    let e4 : List FlowEdge = e3 ++ edge_of (suc (suc p)) (i.Number into 1 1) to place ∷ [] in
    let fresh : (point : ℕ) → p ≤ point → outs e1 point ≡ [] =
    λ point above. outs-other e0 from p (i.Number r 0 size) place point (λ same. absurd (omega arith)) ∙ spelled.sound.fresh point above in
    record {
      middle = p;
      number = spelled.same from (omega arith) (inl refl)
          ∙ (outs-other e4 (suc p) to (i.Number into 0 1) place from (λ same. absurd (omega arith))
          ∙ (outs-other e3 (suc (suc p)) to (i.Number into 1 1) place from (λ same. absurd (omega arith))
          ∙ (outs-other e2 p (suc (suc p)) (i.IfDifferent register r) place from (λ same. absurd (omega arith))
          ∙ (outs-other e1 p (suc p) (i.IfSame register r) place from (λ same. absurd (omega arith))
          ∙ (outs-same e0 from p (i.Number r 0 size) place
          ∙ ap (λ (edges : List FlowEdge). edges ++ edge_of from (i.Number r 0 size) p place ∷ []) spelled.opened)))));
      asks = spelled.same p (omega arith) (inr (omega arith))
          ∙ (outs-other e4 (suc p) to (i.Number into 0 1) place p (λ same. absurd (omega arith))
          ∙ (outs-other e3 (suc (suc p)) to (i.Number into 1 1) place p (λ same. absurd (omega arith))
          ∙ (outs-same e2 p (suc (suc p)) (i.IfDifferent register r) place
          ∙ ap (λ (edges : List FlowEdge). edges ++ edge_of p (i.IfDifferent register r) (suc (suc p)) place ∷ [])
          (outs-same e1 p (suc p) (i.IfSame register r) place ∙ ap (λ (edges : List FlowEdge). edges ++ edge_of p (i.IfSame register r) (suc p) place ∷ []) (fresh p (omega arith))))));
      one = spelled.same (suc (suc p)) (omega arith) (inr (omega arith))
          ∙ (outs-other e4 (suc p) to (i.Number into 0 1) place (suc (suc p)) (λ same. absurd (omega arith))
          ∙ (outs-same e3 (suc (suc p)) to (i.Number into 1 1) place
          ∙ ap (λ (edges : List FlowEdge). edges ++ edge_of (suc (suc p)) (i.Number into 1 1) to place ∷ [])
          (outs-other e2 p (suc (suc p)) (i.IfDifferent register r) place (suc (suc p)) (λ same. absurd (omega arith))
          ∙ (outs-other e1 p (suc p) (i.IfSame register r) place (suc (suc p)) (λ same. absurd (omega arith)) ∙ fresh (suc (suc p)) (omega arith)))));
      naught = spelled.same (suc p) (omega arith) (inr (omega arith))
          ∙ (outs-same e4 (suc p) to (i.Number into 0 1) place
          ∙ ap (λ (edges : List FlowEdge). edges ++ edge_of (suc p) (i.Number into 0 1) to place ∷ [])
          (outs-other e3 (suc (suc p)) to (i.Number into 1 1) place (suc p) (λ same. absurd (omega arith))
          ∙ (outs-other e2 p (suc (suc p)) (i.IfDifferent register r) place (suc p) (λ same. absurd (omega arith))
          ∙ (outs-other e1 p (suc p) (i.IfSame register r) place (suc p) (λ same. absurd (omega arith)) ∙ fresh (suc p) (omega arith)))));
    }

-- it turns what the register holds into 1 or 0 in another
pub told_turns : (levels : ℕ) (t : Text) (flow : Flow) (around : Around) (made : Made) (from register size into : ℕ) (place : Place) (to : ℕ) (plain : Bool) (slots : List Slot) →
    IsSpelled flow made from (go levels t around made from (Tells register size into place) to) → AreBelow made.registers slots → register < made.registers → is_free register slots ≡ true → is_free into slots ≡ true →
    Turns flow slots from register size plain (λ (memory : List Block) (word : Word). Plain (if nat_eq (address_number memory word) 0 then 0 else 1)) to into 1 true
told_turns levels t flow around made from register size into place to plain slots spelled below less free free' =
    let told = told_edges register size into (with_width made.registers size (stands_at made from)) (without_register register (stands_at made from)) place to (by_level levels spelled) in
    Tested made.registers size told.middle (suc made.points) (suc (suc made.points)) to into 1 place place place place place told.number
    (and_from (not (nat_eq register made.registers)) (is_free made.registers slots) (not_from_false (nat_eq register made.registers) (ne_eqb register made.registers (λ same. absurd (omega arith))))
    (free_below made.registers made.registers slots (omega arith) below)) free told.asks told.naught told.one free'
  where
    by_level : (levels' : ℕ) → IsSpelled flow made from (go levels' t around made from (Tells register size into place) to) →
        IsSpelled flow made from (place_told made from register size into (with_width made.registers size (stands_at made from)) (without_register register (stands_at made from)) place to)
    by_level zero spelled' = spelled'
    by_level (suc levels') spelled' = spelled'
