use Rattle.std.proofs.Common.{sym, ◌∙◌}
use Rattle.bytes_core.proofs.Living.{counted_none, counted_out}
use Rattle.bytes_core.proofs.live.count_out.Goals as goal

pub returns : goal.returns
returns c = λ alive are.
    rw (c.replace.ensures, c.replace-2.ensures)
    (counted_out alive c.args.live.now.numbers.items c.args.live.now.places.items c.pop.new.self.items c.args.number c.in-Some.place c.in-Some-pop.last
    (sym c.place_of.ensures ∙ c.in-Some.is) c.in-Some-pop.ensures.items are)

pub returns-in_default : goal.returns-in_default
returns-in_default c = λ alive are.
    counted_none alive c.args.live.now.numbers.items c.args.live.now.places.items c.args.number (sym c.place_of.ensures ∙ c.in_default.is) are
