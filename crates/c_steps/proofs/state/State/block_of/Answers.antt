-- The objects of the function come first, and the block of each object is one of the memory.
use Rattle.std.proofs.Common.{◌∙◌, sym}
use Rattle.c_machine.specs.State.{objects_of}
use Rattle.c_steps.proofs.Kept.{own_block, lasting_block, below_own, lasting_below}
use Rattle.c_steps.proofs.state.State.block_of.Goals as goal

pub returns : goal.returns
returns g c = record {
  is = rw (← c.self.view_is)
      (c.block_in.ensures ∙ sym (lasting_block (objects_of c.self.inside.frame) c.self.inside.statics c.args.token (sym (c.in_default.ensures {u = tt}))));
  names = rw (← c.self.view_is)
      (lasting_below _ c.self.inside.operands c.self.inside.frame c.self.inside.callers c.self.inside.statics c.args.token c.block_in.result c.self.invariant c.block_in.ensures);
}

pub returns-in-Some : goal.returns-in-Some
returns-in-Some g c = record {
  is = rw (← c.self.view_is) (sym (own_block (objects_of c.self.inside.frame) c.self.inside.statics c.args.token c.in-Some.block (sym (c.in-Some.ensures {u = tt}))));
  names = rw (← c.self.view_is)
      (below_own _ c.self.inside.operands c.self.inside.frame c.self.inside.callers c.self.inside.statics c.args.token c.in-Some.block c.self.invariant
      (sym (c.in-Some.ensures {u = tt})));
}
