use Rattle.changes.proofs.Entries.{found_in}
use Rattle.changes.proofs.dying.with_dead.Goals as goal

pub end_at-requires-clause-within : goal.end_at-requires-clause-within
end_at-requires-clause-within c = (found_in c.args.parts c.args.key c.into_vec-objects.result.items c.requires.graph c.requires.there c.into_vec-objects.ensures).within

pub end_at-requires-clause-key : goal.end_at-requires-clause-key
end_at-requires-clause-key c = (found_in c.args.parts c.args.key c.into_vec-objects.result.items c.requires.graph c.requires.there c.into_vec-objects.ensures).has_key

pub end_at-requires-clause-object : goal.end_at-requires-clause-object
end_at-requires-clause-object c = (found_in c.args.parts c.args.key c.into_vec-objects.result.items c.requires.graph c.requires.there c.into_vec-objects.ensures).has_object
