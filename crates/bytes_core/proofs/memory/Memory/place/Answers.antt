use Rattle.bytes_core.proofs.Kept.{IsMemory-placed}
use Rattle.bytes_core.proofs.memory.Memory.place.Goals as goal

pub invariant_of-self-2 : goal.invariant_of-self-2
invariant_of-self-2 c = (
  rw (c.put.ensures, c.reserve.ensures.items)
      (IsMemory-placed c.self.inside.blocks.items c.args.block c.self.invariant.0 (rw (← c.self.view_is) at c.requires.apart) (rw (← c.self.view_is) at c.requires.names)),
  rw c.put.ensures (rw c.as_slice.ensures.value at c.in_ok-enter.ensures.ok),
)
