use Rattle.std.proofs.lemmas.Bool.{true_from_ne_false}
use Rattle.flow.proofs.OwningLaws.{separate_told}
use Rattle.flow.proofs.separation.are_separate.Goals as goal

pub returns : goal.returns
returns c = (
  λ holds. separate_told c.args.flow.now c.own_all.new.owners.items (c.own_all.ensures.owned c.if-not-own_all.false)
      (c.own_all.ensures.closed c.if-not-own_all.false) (rw c.as_slice.ensures.value at (c.all_own_exits.ensures.exits holds)),
  λ separate. true_from_ne_false _ (λ differs. c.all_own_exits.ensures.other differs separate),
)
