use Rattle.std.proofs.Common.{◌+◌, drop, sym, ap, ◌∙◌}
use Rattle.std.proofs.lemmas.Result.{on_ok_weaker}
use Rattle.bytes_core.specs.Living.{places_of}
use Rattle.bytes_core.specs.Marking.{Marking, marking, with_marks, targets}
use Rattle.bytes_core.proofs.Marked.{marked_none, marked_some}
use Rattle.bytes_core.proofs.loss.mark_target.Goals as goal

pub returns-in-None : goal.returns-in-None
returns-in-None c =
    marked_none (marking c.args.marks.now.items c.args.waiting.now.items) c.args.live.now.numbers.items c.args.live.now.places.items c.args.bytes.now c.args.at c.requires
    (sym c.in-None.ensures)

pub returns-in-Some : goal.returns-in-Some
returns-in-Some c =
    on_ok_weaker c.mark_block.result
    (λ same. ap (λ (state : Marking). with_marks state (places_of c.args.live.now.numbers.items c.args.live.now.places.items (targets (drop (c.args.at + 1) c.args.bytes.now)))) same
    ∙ marked_some (marking c.args.marks.now.items c.args.waiting.now.items) c.args.live.now.numbers.items c.args.live.now.places.items c.args.bytes.now c.args.at c.in-Some.target c.requires
    (sym c.in-Some.ensures))
    c.mark_block.ensures
