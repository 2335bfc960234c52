use Rattle.std.proofs.Common.{◌≡◌, true, List, ◌++◌, sym, ◌∙◌, ap, subst, arith}
use Rattle.std.specs.List.{list_all}
use Rattle.graph.specs.declared.edges.HasValue.{HasValue}
use Rattle.graph.specs.declared.parts.Parts.{Parts}
use Rattle.graph.specs.WellFormed.{lies_in}
use Rattle.changes.proofs.Entries.{room_small}
use Rattle.changes.proofs.Led.{if_ok}
use Rattle.range_steps.specs.Copying.{moved_edges}
use Rattle.range_steps.proofs.CopyReady.{source_copied}
use Rattle.range_steps.proofs.Ranged.{range_edges, room_range}
use Rattle.range_steps.proofs.copies.copied_parts.Goals as goal

pub put_moved-requires-clause-range : goal.put_moved-requires-clause-range
put_moved-requires-clause-range c = room_small c.args.graph.now c.args.key c.args.from c.args.count c.requires.graph c.requires.source

pub put_moved-requires-clause-at : goal.put_moved-requires-clause-at
put_moved-requires-clause-at c = let small = room_small c.args.graph.now c.args.other c.args.at c.args.count c.requires.graph c.requires.target in omega arith

pub put_moved-requires-clause-inside : goal.put_moved-requires-clause-inside
put_moved-requires-clause-inside c =
    subst (λ (edges : List HasValue). list_all (lies_in 65536) edges ≡ true) (sym c.as_slice.ensures)
    (range_edges c.in-Some.source.now c.args.from c.args.count (room_range c.args.graph.now c.args.key c.args.from c.args.count c.in-Some.source.now c.requires.graph c.requires.source (sym c.in-Some.ensures)))

pub copy_object-requires-clause-source : goal.copy_object-requires-clause-source
copy_object-requires-clause-source c =
    (room_range c.args.graph.now c.args.key c.args.from c.args.count c.in-Some.source.now c.requires.graph c.requires.source (sym c.in-Some.ensures)).range

pub returns : goal.returns
returns c =
    if_ok c.copy_object.result
    (λ (after : Parts) is. source_copied c.args.graph.now c.in-Ok-parts.parts after c.args.key c.args.from c.args.other c.args.at c.args.count c.in-Some.source.now c.as_slice-in-Ok-parts.result.now (sym c.in-Some.ensures) c.in-Ok-parts.ensures.ok
    (c.as_slice-in-Ok-parts.ensures ∙ c.in-Ok.ensures ∙ ap (λ (kept : List HasValue). kept ++ moved_edges c.as_slice.result.now c.args.from c.args.count c.args.at) c.new-edges.ensures
    ∙ ap (λ (edges : List HasValue). moved_edges edges c.args.from c.args.count c.args.at) c.as_slice.ensures) is)
    c.copy_object.ensures
