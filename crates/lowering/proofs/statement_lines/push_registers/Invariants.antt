-- The registers so far.
use Rattle.std.proofs.Common.{◌≡◌, ◌++◌, map, drop}
use Rattle.lowering.proofs.statement_lines.push_registers.Given as goal

abbrev pub invariant-loop-one : goal.invariant-loop-one
invariant-loop-one l = l.registers ++ map (λ one. one.register) (drop l.one-index l.widths) ≡ l.fn.registers ++ map (λ one. one.register) l.widths
