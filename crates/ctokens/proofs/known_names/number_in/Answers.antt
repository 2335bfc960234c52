use Rattle.ctokens.proofs.NameSets.{set_number, set_inside, set_is_new, set_names}
use Rattle.ctokens.proofs.known_names.number_in.Goals as goal

pub returns-clause-file : goal.returns-clause-file
returns-clause-file c = set_number (λ v. v.items) c.args.set.now.keys c.in_ok-copy.copy c.args.name.now c.in_ok-copy.ensures.items c.in_ok-file.file c.in_ok-file.ensures.index

pub returns-clause-inside : goal.returns-clause-inside
returns-clause-inside c = set_inside (λ v. v.items) c.args.set.now.keys c.in_ok-copy.copy c.in_ok-file.file c.in_ok-file.ensures.index

pub returns-clause-is_new : goal.returns-clause-is_new
returns-clause-is_new c = set_is_new (λ v. v.items) c.args.set.now.keys c.in_ok-copy.copy c.args.name.now c.in_ok-copy.ensures.items c.in_ok-file.is_new c.in_ok-file.ensures.added

pub returns-clause-names : goal.returns-clause-names
returns-clause-names c = set_names (λ v. v.items) c.args.set.now.keys c.insert_full.new.self.keys c.in_ok-copy.copy c.args.name.now c.in_ok-copy.ensures.items c.in_ok-file.ensures.keys
