use Rattle.std.proofs.Common.{◌≡◌, false}
use Rattle.std.specs.List.{AllWithin}
use Rattle.flow.specs.Owning.{is_open}
use Rattle.flow.proofs.separation.open_edge.Given as goal

abbrev pub invariant-loop-at : goal.invariant-loop-at
invariant-loop-at l = AllWithin (λ edge. is_open l.owners edge ≡ false) l.edges 0 l.at
