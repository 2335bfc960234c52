use Rattle.std.proofs.Common.{◌∙◌}
use Rattle.std.specs.Str.{bytes_eq}
use Rattle.definitions.proofs.NameSets.{any-map}
use Rattle.definitions.proofs.typedefs.is_in.Goals as goal

pub returns : goal.returns
returns c = c.contains.ensures ∙ any-map (bytes_eq c.args.name.now) (λ v. v.items) c.args.set.now.keys
