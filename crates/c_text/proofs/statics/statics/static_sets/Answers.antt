-- All initialisers are noted, and those of objects that live as long as the program runs are kept.
use Rattle.c_text.proofs.statics.Static.{all_static}
use Rattle.c_text.proofs.statics.statics.static_sets.Goals as goal

pub returns-clause-sets : goal.returns-clause-sets
returns-clause-sets c = λ n p stands items.
    all_static p p.items c.args.items.now c.new-all.result c.note_in_items.new.sets c.as_slice.result.now c.new-sets.result c.keep_static.new.kept
    c.new-all.ensures c.in_ok-nodes.ensures.sets c.as_slice.ensures c.new-sets.ensures (c.in_ok-keep_static.ensures n p stands) items
