use Rattle.std.proofs.Common.{sym, ◌∙◌}
use Rattle.cover.proofs.Go.{target_goes, by_address}
use Rattle.cover.proofs.found.pair_target.Goals as goal

pub pair_reached-requires-clause-reached : goal.pair_reached-requires-clause-reached
pair_reached-requires-clause-reached c = by_address _ _ c.args.key c.in-Some.one c.in-Some-led_to.other c.args.content c.requires.reached (sym c.led_from.ensures ∙ c.in-Some.is) (sym c.led_to.ensures ∙ c.in-Some-led_to.is)

pub returns : goal.returns
returns c = target_goes _ _ c.args.found.now c.pair_reached.new.found c.args.key c.in-Some.one c.in-Some-led_to.other c.args.content c.in_ok-fine.fine
    (sym c.led_from.ensures ∙ c.in-Some.is) (sym c.led_to.ensures ∙ c.in-Some-led_to.is) c.in_ok-fine.ensures.values c.in_ok-fine.ensures.goes
