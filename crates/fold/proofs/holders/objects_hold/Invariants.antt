use Rattle.std.proofs.Common.{◌≡◌, drop}
use Rattle.std.specs.List.{list_any}
use Rattle.fold.specs.Holders.{holds_third}
use Rattle.fold.proofs.holders.objects_hold.Given as goal

abbrev pub invariant-loop-home : goal.invariant-loop-home
invariant-loop-home l =
    list_any (λ entry. holds_third l.graph l.fold l.key l.link l.place entry.key entry.object) l.graph.objects
    ≡ list_any (λ entry. holds_third l.graph l.fold l.key l.link l.place entry.key entry.object) (drop l.home l.graph.objects)
