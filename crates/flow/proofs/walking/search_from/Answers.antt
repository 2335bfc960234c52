-- A search begins with new points alone.
use Rattle.flow.proofs.Steps.{begun}
use Rattle.flow.proofs.walking.search_from.Goals as goal

pub returns-clause-begun : goal.returns-clause-begun
returns-clause-begun c edges links =
    rw c.new.ensures.items
    (begun edges c.args.points c.args.point c.args.links.now.first.items c.args.links.now.next.items c.in_ok-marks.marks.items c.visit_of.result
    links c.requires.inside (c.in_ok-marks.ensures.items_if_clones_equal (λ y e. e)) c.visit_of.ensures.point c.visit_of.ensures.cursor c.visit_of.ensures.number)
