-- What stays is a graph, and so is it numbered; it stands for the same states.
use Rattle.std.proofs.Common.{◌≡◌, true, ◌∙◌}
use Rattle.std.specs.Prelude.{◌↔◌}
use Rattle.graph.specs.declared.parts.Parts.{Parts}
use Rattle.graph.specs.Meaning.{StandsFor}
use Rattle.graph.specs.State.{State}
use Rattle.graph.specs.Unheld.{with_only}
use Rattle.graph.specs.WellFormed.{IsWellFormed, HasAscendingKeys, is_within_limits}
use Rattle.graph.specs.Whole.{IsGraph, placed}
use Rattle.graph.proofs.AllPlaced.{HasPlaces-entries}
use Rattle.graph.proofs.Numbered.{numbered_well_formed, numbered_within_limits, ascending_from, numbering_keeps}
use Rattle.graph.proofs.Unheld.{StandsFor-with_only}
use Rattle.graph.proofs.UnheldForm.{what_stays_is_a_graph, what_stays_is_within_limits}
use Rattle.tidying.specs.Held.{stays, object_stays}
use Rattle.tidying.specs.Tidied.{tidied}
use Rattle.tidying.proofs.MayGo.{may_go}

module _ (parts : Parts) (graph : IsGraph parts) where
  abbrev kept : Parts
  kept = with_only (stays parts) (object_stays parts) parts

  pub kept_well_formed : IsWellFormed kept
  kept_well_formed = (what_stays_is_a_graph (stays parts) (object_stays parts) parts graph.ascending graph.well_formed (may_go parts graph.well_formed)).0

  pub kept_ascending : HasAscendingKeys kept
  kept_ascending = (what_stays_is_a_graph (stays parts) (object_stays parts) parts graph.ascending graph.well_formed (may_go parts graph.well_formed)).1

  pub kept_within_limits : is_within_limits kept ≡ true
  kept_within_limits = what_stays_is_within_limits (stays parts) (object_stays parts) parts graph.within_limits

  pub tidied_graph : IsGraph (tidied parts)
  tidied_graph = record {
    well_formed = numbered_well_formed kept kept_ascending kept_well_formed;
    within_limits = numbered_within_limits kept ∙ kept_within_limits;
    ascending = ascending_from (placed kept);
    keys = HasPlaces-entries (placed kept);
  }

  pub tidied_means : (state : State) → (StandsFor (tidied parts) state ↔ StandsFor parts state)
  tidied_means state =
      let numbers = numbering_keeps kept state kept_ascending kept_well_formed in
      let same = StandsFor-with_only (stays parts) (object_stays parts) parts state graph.well_formed graph.within_limits (may_go parts graph.well_formed) in
      (λ after. same.0 (numbers.0 after), λ before. numbers.1 (same.1 before))
