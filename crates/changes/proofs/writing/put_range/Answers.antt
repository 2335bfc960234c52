use Rattle.std.proofs.Common.{◌<◌, List, subst, sym}
use Rattle.std.specs.List.{AllPairs}
use Rattle.graph.specs.declared.parts.KeyedObject.{KeyedObject}
use Rattle.changes.proofs.Entries.{found_at_place, room_plane, room_small, room_edges}
use Rattle.changes.proofs.writing.put_range.Goals as goal

pub put_at-requires-clause-ascending : goal.put_at-requires-clause-ascending
put_at-requires-clause-ascending c = subst (λ (items : List KeyedObject). AllPairs (λ one other. one.key < other.key) items) (sym c.into_vec-objects.ensures) c.requires.graph.ascending.objects

pub put_at-requires-clause-within : goal.put_at-requires-clause-within
put_at-requires-clause-within c = (found_at_place c.args.parts c.args.key c.args.from c.args.count c.into_vec-objects.result.items c.requires.graph c.requires.room c.into_vec-objects.ensures).within

pub put_at-requires-clause-key : goal.put_at-requires-clause-key
put_at-requires-clause-key c = (found_at_place c.args.parts c.args.key c.args.from c.args.count c.into_vec-objects.result.items c.requires.graph c.requires.room c.into_vec-objects.ensures).has_key

pub put_at-requires-clause-object : goal.put_at-requires-clause-object
put_at-requires-clause-object c = (found_at_place c.args.parts c.args.key c.args.from c.args.count c.into_vec-objects.result.items c.requires.graph c.requires.room c.into_vec-objects.ensures).has_object

pub put_at-requires-clause-range : goal.put_at-requires-clause-range
put_at-requires-clause-range c = room_plane c.args.parts c.args.key c.args.from c.args.count c.into_vec-objects.result.items c.requires.graph c.requires.room c.into_vec-objects.ensures

pub put_at-requires-clause-small : goal.put_at-requires-clause-small
put_at-requires-clause-small c = room_small c.args.parts c.args.key c.args.from c.args.count c.requires.graph c.requires.room

pub put_at-requires-clause-inside : goal.put_at-requires-clause-inside
put_at-requires-clause-inside c = room_edges c.args.parts c.args.key c.args.from c.args.count c.into_vec-objects.result.items c.requires.graph c.requires.room c.into_vec-objects.ensures
