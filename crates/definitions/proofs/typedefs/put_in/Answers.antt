use Rattle.ctokens.proofs.NameSets.{set_names}
use Rattle.definitions.proofs.typedefs.put_in.Goals as goal

pub returns : goal.returns
returns c = set_names (λ v. v.items) c.args.set.now.keys c.insert_full.new.self.keys c.in_ok-copy.copy c.args.name.now c.in_ok-copy.ensures.items c.in_ok-insert_full.ensures.keys
