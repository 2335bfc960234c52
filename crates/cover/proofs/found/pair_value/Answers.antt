use Rattle.std.proofs.Common.{rules, sym, ◌∙◌}
use Rattle.cover.proofs.Go.{known_goes, value_goes_on}
use Rattle.cover.proofs.found.pair_value.Goals as goal

pub returns-in-Some : goal.returns-in-Some
returns-in-Some c = known_goes _ _ c.args.found.now c.args.key c.in-Some.known c.args.content c.are_equal.result c.requires.sound c.requires.reached (sym c.content_with.ensures ∙ c.in-Some.is) c.are_equal.ensures

pub returns : goal.returns
returns c = value_goes_on _ _ c.args.found.now c.pair_target.new.found c.put_value.new.found c.args.key c.args.content c.in_ok-pair_target.field-0 (search rules) c.in_ok-pair_target.ensures c.requires.reached c.put_value.ensures
