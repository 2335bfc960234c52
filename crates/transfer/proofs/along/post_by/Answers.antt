use Rattle.transfer.proofs.AlongMeans.{may_follow_these, post_answer, means_answer, fits_answer, regions_answer, large_answer, large_settling}
use Rattle.transfer.proofs.along.post_by.Goals as goal

pub post_of_all-requires-clause-may : goal.post_of_all-requires-clause-may
post_of_all-requires-clause-may c =
    may_follow_these c.args.flow.now c.args.point c.args.instr.now c.args.graph.now c.in-Ok.graphs c.as_slice.result.now c.args.registers.now c.as_slice.ensures c.requires.fits c.requires.next c.requires.registers c.in-Ok.ensures.names c.in-Ok.ensures.holds

pub returns-in-Ok-clause-post : goal.returns-in-Ok-clause-post
returns-in-Ok-clause-post c = post_answer c.args.flow.now c.args.point c.args.instr.now c.args.graph.now c.in-Ok.graphs c.as_slice.result.now c.as_slice.ensures c.value_count.ensures.graph c.args.registers.now c.requires.registers c.in-Ok.ensures.ok c.in-Ok.ensures.means c.post_of_all.result c.post_of_all.ensures.all

pub returns-in-Ok-clause-means : goal.returns-in-Ok-clause-means
returns-in-Ok-clause-means c = means_answer c.args.flow.now c.args.point c.args.instr.now c.args.graph.now c.in-Ok.graphs c.as_slice.result.now c.as_slice.ensures c.value_count.ensures.graph c.args.registers.now c.requires.registers c.in-Ok.ensures.ok c.in-Ok.ensures.means c.post_of_all.result c.post_of_all.ensures.all

pub returns-in-Ok-clause-fits : goal.returns-in-Ok-clause-fits
returns-in-Ok-clause-fits c = fits_answer c.args.flow.now c.args.point c.args.instr.now c.args.graph.now c.in-Ok.graphs c.as_slice.result.now c.as_slice.ensures c.value_count.ensures.graph c.args.registers.now c.requires.registers c.in-Ok.ensures.ok c.in-Ok.ensures.means c.post_of_all.result c.post_of_all.ensures.all

pub returns-in-Ok-clause-regions : goal.returns-in-Ok-clause-regions
returns-in-Ok-clause-regions c = regions_answer c.args.flow.now c.args.point c.args.instr.now c.args.graph.now c.in-Ok.graphs c.as_slice.result.now c.as_slice.ensures c.value_count.ensures.graph c.args.registers.now c.requires.registers c.in-Ok.ensures.ok c.in-Ok.ensures.means c.post_of_all.result c.post_of_all.ensures.all

pub returns-in-Ok-clause-large : goal.returns-in-Ok-clause-large
returns-in-Ok-clause-large c = large_answer c.args.flow.now c.args.point c.args.instr.now c.args.graph.now c.in-Ok.graphs c.as_slice.result.now c.as_slice.ensures c.value_count.ensures.graph c.args.registers.now c.requires.registers c.in-Ok.ensures.ok c.in-Ok.ensures.means c.post_of_all.result c.post_of_all.ensures.large

pub returns-in-Err-clause-large : goal.returns-in-Err-clause-large
returns-in-Err-clause-large c = large_settling c.args.instr.now c.args.graph.now c.args.registers.now c.in-Err.stop c.requires.registers c.in-Err.ensures.large
