use Rattle.std.proofs.Common.{sym, ◌∙◌}
use Rattle.bytes_core.proofs.Indexed.{some_lives, none_lost}
use Rattle.bytes_core.proofs.memory.Memory.has_heap.Goals as goal

pub returns-clause-is : goal.returns-clause-is
returns-clause-is c =
    let index = c.self.inside.index in
    rw (← c.self.view_is) (some_lives c.self.inside.blocks.items index.live.numbers.items index.live.places.items index.bases index.heap c.self.invariant.1)

pub returns-clause-lost : goal.returns-clause-lost
returns-clause-lost c =
    let index = c.self.inside.index in
    rw (← c.self.view_is) (λ none roots.
    none_lost c.self.inside.blocks.items roots
    (sym (some_lives c.self.inside.blocks.items index.live.numbers.items index.live.places.items index.bases index.heap c.self.invariant.1) ∙ none))
