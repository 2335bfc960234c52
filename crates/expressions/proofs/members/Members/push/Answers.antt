-- One member more.
use Rattle.std.proofs.Common.{ℕ, List, [], ◌∷◌, ◌++◌, ap, ◌∙◌, Result, Ok, Err, OnOk}
use Rattle.cbase.specs.declared.no_memory.NoMemory.{NoMemory}
use Rattle.expressions.proofs.MembersSoFar.{are_pushed}
use Rattle.expressions.proofs.members.Members.push.Goals as goal

-- what holds where memory is there, and what follows of it
where_put : (r : Result (Unit {0}) NoMemory) (Given Wanted : Type 0) → (Given → Wanted) → OnOk r Given → OnOk r Wanted
where_put (Ok put) Given Wanted follows given = follows given
where_put (Err error) Given Wanted follows given = tt

pub returns-clause-are : goal.returns-clause-are
returns-clause-are c =
    let before = c.args.self.now in
    where_put c.put.result _ _ (λ put context are below known.
    are_pushed context before.list before.names before.layout are (record { name = c.in_ok-from_slice.field-0; ctype = c.args.ctype }) c.args.layout c.with_field-self.result c.args.name.now
    c.push.new.self c.put.new.self c.in_ok-from_slice.ensures c.requires.member c.in_ok-push.ensures.ok put c.with_field-self.ensures below known) c.put.ensures.ok

pub with_field-self-requires-clause-before : goal.with_field-self-requires-clause-before
with_field-self-requires-clause-before c = c.requires.before

pub with_field-self-requires-clause-field : goal.with_field-self-requires-clause-field
with_field-self-requires-clause-field c = c.requires.member

pub returns-clause-pushed : goal.returns-clause-pushed
returns-clause-pushed c =
    where_put c.put.result _ _ (λ put. c.in_ok-push.ensures.ok ∙ ap (λ (text : List ℕ). c.args.self.now.list ++ (record { name = text; ctype = c.args.ctype }) ∷ []) c.in_ok-from_slice.ensures) c.put.ensures.ok
