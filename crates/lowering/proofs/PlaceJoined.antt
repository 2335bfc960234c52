-- The address of every lvalue is what the rest of a run wants, where what a level less is placed is.
use Rattle.std.proofs.Common.{◌≤◌, ℕ, suc, nat_eq, refl, sym, subst}
use Rattle.c_machine.specs.Text.{Form, Text}
use Rattle.flow.specs.declared.flow_graph.Flow.{Flow}
use Rattle.simulation.specs.Running.{Setting, Running}
use Rattle.lowering.proofs.LeftStays.{place_left}
use Rattle.lowering.proofs.Modes.{Ready, IsAt, PlaceIs}
use Rattle.lowering.proofs.Ready.{IsTarget}
use Rattle.lowering.proofs.Spelling.{PlaceFormIs, place_form}
use Rattle.lowering.proofs.SpellingOperators.{index_place}

module _ (t : Text) (flow : Flow) (setting : Setting) (running : Running) where
  place_by : (levels : ℕ) → IsAt t flow setting running levels → (form : Form t.Expr t.Stmt) → PlaceFormIs t flow setting running levels form
  place_by levels at form = place_form t flow setting running levels at (index_place t flow setting running levels at) form

  pub place_joined : (levels : ℕ) → suc levels ≤ t.enough → IsAt t flow setting running levels → PlaceIs t flow setting running (suc levels)
  place_joined levels less at around good made from expr spare into to spelled now later tasks slots base ready target cont =
      let same = sym (place_left t levels less around made from expr spare into to spelled.inside spelled.sound spelled.graph (nat_eq into spare)) in
      place_by levels at (t.form expr) around good made from expr spare into to refl spelled now later tasks slots base
      (subst (λ (n : ℕ). Ready t flow setting running around now later tasks base made.registers slots spare n) same ready)
      (subst (λ (n : ℕ). IsTarget made.registers slots base spare n into) same target) cont
