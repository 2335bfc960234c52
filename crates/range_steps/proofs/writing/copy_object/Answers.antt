use Rattle.std.proofs.Common.{◌<◌, List, subst, sym}
use Rattle.std.specs.List.{AllPairs}
use Rattle.graph.specs.declared.parts.KeyedObject.{KeyedObject}
use Rattle.changes.proofs.Entries.{found_at_place, room_plane, room_small, room_edges}
use Rattle.range_steps.proofs.writing.copy_object.Goals as goal

pub copy_at-requires-clause-ascending : goal.copy_at-requires-clause-ascending
copy_at-requires-clause-ascending c = subst (λ (items : List KeyedObject). AllPairs (λ one other. one.key < other.key) items) (sym c.into_vec-objects.ensures) c.requires.graph.ascending.objects

pub copy_at-requires-clause-within : goal.copy_at-requires-clause-within
copy_at-requires-clause-within c = (found_at_place c.args.parts c.args.key c.args.at c.args.count c.into_vec-objects.result.items c.requires.graph c.requires.room c.into_vec-objects.ensures).within

pub copy_at-requires-clause-key : goal.copy_at-requires-clause-key
copy_at-requires-clause-key c = (found_at_place c.args.parts c.args.key c.args.at c.args.count c.into_vec-objects.result.items c.requires.graph c.requires.room c.into_vec-objects.ensures).has_key

pub copy_at-requires-clause-object : goal.copy_at-requires-clause-object
copy_at-requires-clause-object c = (found_at_place c.args.parts c.args.key c.args.at c.args.count c.into_vec-objects.result.items c.requires.graph c.requires.room c.into_vec-objects.ensures).has_object

pub copy_at-requires-clause-range : goal.copy_at-requires-clause-range
copy_at-requires-clause-range c = room_plane c.args.parts c.args.key c.args.at c.args.count c.into_vec-objects.result.items c.requires.graph c.requires.room c.into_vec-objects.ensures

pub copy_at-requires-clause-small : goal.copy_at-requires-clause-small
copy_at-requires-clause-small c = room_small c.args.parts c.args.key c.args.at c.args.count c.requires.graph c.requires.room

pub copy_at-requires-clause-inside : goal.copy_at-requires-clause-inside
copy_at-requires-clause-inside c = room_edges c.args.parts c.args.key c.args.at c.args.count c.into_vec-objects.result.items c.requires.graph c.requires.room c.into_vec-objects.ensures
