-- One more byte is there, and at the end all are.
use Rattle.std.proofs.Common.{◌∙◌}
use Rattle.c_steps.proofs.Contents.{one_more_byte, all_bytes}
use Rattle.c_steps.proofs.new_block.bytes_of.Goals as goal

pub loop-byte-preserved : goal.loop-byte-preserved
loop-byte-preserved c =
    one_more_byte c.loop-byte.bytes.items c.push.new.self.items c.args.contents.now c.loop-byte.byte-index c.loop-byte-test.true c.in_ok-push.ensures.items
    ∙ c.loop-byte.invariant

pub returns : goal.returns
returns c =
    c.from_vec.ensures ∙ all_bytes c.loop-byte.bytes.items c.args.contents.now c.loop-byte.byte-index c.loop-byte-test.false c.loop-byte.invariant
