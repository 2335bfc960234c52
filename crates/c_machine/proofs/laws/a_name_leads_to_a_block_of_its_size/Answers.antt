use Rattle.c_machine.proofs.SizedNames.{names_lead_to_sizes}
use Rattle.c_machine.proofs.laws.a_name_leads_to_a_block_of_its_size.Goals as goal

pub returns : goal.returns
returns c = names_lead_to_sizes
