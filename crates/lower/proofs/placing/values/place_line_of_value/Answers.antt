-- The moves of the value are followed.
use Rattle.lower.specs.Built.{made_of}
use Rattle.lowering.proofs.Onward.{on_ok}
use Rattle.lower.proofs.PlacedByLines.{value_follows}
use Rattle.lower.proofs.placing.values.place_line_of_value.Goals as goal

pub returns : goal.returns
returns c = on_ok c.push.result (λ is. value_follows _ _ _ _ _ _ _ _ _ (made_of c.args.builder.now) _ _ _ c.new-moves.ensures is _ c.in_ok-value_line.ensures) c.push.ensures.ok
