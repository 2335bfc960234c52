use Rattle.std.proofs.Common.{◌≡◌, ◌++◌, map, take, drop}
use Rattle.graph.specs.Renaming.{place_among}
use Rattle.graph.specs.declared.parts.Held.{Held}
use Rattle.graph.proofs.places.place_registers.Given as goal

abbrev pub invariant-loop-held : goal.invariant-loop-held
invariant-loop-held l = l.registers ≡ map (λ (held : Held). (let h : Held = record { register = held.register; value = place_among l.keys held.value } in h)) (take l.held-index l.fn.registers) ++ drop l.held-index l.fn.registers
