use Rattle.flow.proofs.MarkingLaws.{entries_told}
use Rattle.flow.proofs.marking.no_edge_enters.Goals as goal

pub returns : goal.returns
returns c =
    entries_told c.args.flow.now.edges c.args.flow.now.functions c.in_ok-marks.marks.items c.no_entry_is_marked.result
    (rw (c.as_slice-2.ensures, c.as_slice-3.ensures.value) at c.no_entry_is_marked.ensures) (rw c.as_slice.ensures at c.in_ok-marks.ensures)
