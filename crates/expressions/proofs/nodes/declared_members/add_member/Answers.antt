-- A member behind the others, whether or not it has a name.
use Rattle.std.proofs.Common.{◌≡◌, ℕ, List, [], ◌∷◌, ◌++◌, sym, ap, subst, ◌∙◌, Result, Ok, Err}
use Rattle.std.specs.Prelude.{OnOk}
use Rattle.typing.specs.Braces.{name_or_none}
use Rattle.expressions.proofs.nodes.declared_members.add_member.Goals as goal

-- what follows where memory is there
where_ok : {T E A B : Type 0} (r : Result T E) → (A → B) → OnOk r A → OnOk r B
where_ok (Ok value) follows first = follows first
where_ok (Err error) follows first = tt

pub push-requires-clause-before : goal.push-requires-clause-before
push-requires-clause-before c = c.requires.members.small

pub push-requires-clause-member : goal.push-requires-clause-member
push-requires-clause-member c = c.requires.small

pub returns-in-None-clause-pushed : goal.returns-in-None-clause-pushed
returns-in-None-clause-pushed c =
    subst (λ (text : List ℕ). OnOk c.push.result (c.push.new.self.list ≡ c.args.members.now.list ++ (record { name = text; ctype = c.args.ctype }) ∷ [])) (sym (ap name_or_none c.in-None.is)) c.push.ensures.pushed

pub returns-in-None-clause-are : goal.returns-in-None-clause-are
returns-in-None-clause-are c = where_ok c.push.result (λ are. are c.args.context.now c.requires.members c.requires.below c.requires.laid) c.push.ensures.are

pub push-requires-in-Some-clause-before : goal.push-requires-in-Some-clause-before
push-requires-in-Some-clause-before c = c.requires.members.small

pub push-requires-in-Some-clause-member : goal.push-requires-in-Some-clause-member
push-requires-in-Some-clause-member c = c.requires.small

pub returns-in-Some-clause-pushed : goal.returns-in-Some-clause-pushed
returns-in-Some-clause-pushed c =
    subst (λ (text : List ℕ). OnOk c.push-in-Some.result (c.push-in-Some.new.self.list ≡ c.args.members.now.list ++ (record { name = text; ctype = c.args.ctype }) ∷ [])) (c.as_slice.ensures ∙ sym (ap name_or_none c.in-Some.is)) c.push-in-Some.ensures.pushed

pub returns-in-Some-clause-are : goal.returns-in-Some-clause-are
returns-in-Some-clause-are c = where_ok c.push-in-Some.result (λ are. are c.args.context.now c.requires.members c.requires.below c.requires.laid) c.push-in-Some.ensures.are
