-- What a graph shows it shows tidied.
use Rattle.std.proofs.Common.{sym, subst}
use Rattle.graph.specs.declared.parts.Parts.{Parts}
use Rattle.graph.specs.Renaming.{object_place, value_place}
use Rattle.graph.specs.State.{State}
use Rattle.graph.specs.Unheld.{with_only}
use Rattle.graph.specs.Whole.{IsGraph}
use Rattle.graph.proofs.Numbered.{numbering_renames}
use Rattle.tidying.specs.Held.{stays, object_stays}
use Rattle.tidying.specs.Tidied.{tidied}
use Rattle.tidying.proofs.Kept.{kept_well_formed, kept_ascending}
use Rattle.tidying.proofs.MayGo.{may_go}
use Rattle.plain.specs.Marks.{Marks}
use Rattle.plain.specs.Shown.{IsShown}
use Rattle.plain.proofs.TidiedNumbers.{renamed_shown}
use Rattle.plain.proofs.TidiedOnly.{only_shown}

pub tidied_shown : (parts : Parts) (state : State) (marks : Marks) → IsGraph parts → IsShown parts state marks → IsShown (tidied parts) state marks
tidied_shown parts state marks graph shown =
    let kept : Parts = with_only (stays parts) (object_stays parts) parts in
    let numbers = numbering_renames kept (kept_ascending parts graph) in
    subst (λ (p : Parts). IsShown p state marks) (sym numbers.1)
    (renamed_shown (object_place kept) (value_place kept) kept numbers.0 (kept_well_formed parts graph) state marks
    (only_shown (stays parts) (object_stays parts) parts graph.well_formed graph.within_limits (may_go parts graph.well_formed) state marks shown))
