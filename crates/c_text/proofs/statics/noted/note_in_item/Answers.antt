-- All parts of the item are taken off.
use Rattle.std.proofs.Common.{List, ◌++◌, ap, ◌∙◌}
use Rattle.c_machine.specs.Statics.{Node, in_item}
use Rattle.c_text.proofs.statics.Walking.{on_ok, item_noted, item_counted}
use Rattle.c_text.proofs.statics.noted.note_in_item.Goals as goal

pub returns-clause-sets : goal.returns-clause-sets
returns-clause-sets c = on_ok _ _ c.walk.result
    (λ count walked. item_noted c.args.item.now c.push_in_item.new.nodes c.args.sets.now c.note_item.new.sets c.walk.new.sets
    (c.in_ok-push_in_item.ensures ∙ ap (λ (nodes : List Node). in_item c.args.item.now ++ nodes) c.new-nodes.ensures) c.in_ok-note_item.ensures walked)
    c.walk.ensures.sets

pub returns-clause-parts : goal.returns-clause-parts
returns-clause-parts c = on_ok _ _ c.walk.result
    (λ count counted. item_counted c.args.item.now c.push_in_item.new.nodes count
    (c.in_ok-push_in_item.ensures ∙ ap (λ (nodes : List Node). in_item c.args.item.now ++ nodes) c.new-nodes.ensures) counted)
    c.walk.ensures.parts
