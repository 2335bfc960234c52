-- Where no value is known the run ends.
use Rattle.std.proofs.Common.{ℕ, [], ◌∷◌, Option, refl, sym, subst}
use Rattle.c_machine.specs.Text.{Known}
use Rattle.lowering.specs.Moves.{Stops}
use Rattle.lowering.specs.Reading.{IsValueLine}
use Rattle.lowering.proofs.Lines.{value_alone}
use Rattle.lowering.proofs.Onward.{on_ok}
use Rattle.lowering.proofs.value.known_value.Goals as goal

pub returns-in-None : goal.returns-in-None
returns-in-None c = on_ok c.stops.result
    (λ is. subst (λ (bits : Option ℕ). IsValueLine c.args.source.now c.args.expr.now c.args.spare c.args.into (Known bits) c.args.registers.now c.args.registers.now
    c.args.line.now c.stops.new.line) (sym c.in-None.is)
    (value_alone _ _ _ _ _ (Stops ∷ []) _ _ _ (λ p. refl) is))
    c.stops.ensures
