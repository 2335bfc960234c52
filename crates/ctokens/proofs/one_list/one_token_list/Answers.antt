use Rattle.ctokens.proofs.OneList.{one_list, one_place, never_both}
use Rattle.ctokens.proofs.one_list.one_token_list.Goals as goal

pub returns-clause-list : goal.returns-clause-list
returns-clause-list c = one_list

pub returns-clause-place : goal.returns-clause-place
returns-clause-place c = one_place

pub returns-clause-never_both : goal.returns-clause-never_both
returns-clause-never_both c = never_both
