-- Where nothing is broken at the operator, the demands behind it decide.
use Rattle.std.proofs.Common.{◌≡◌, subst, ◌∙◌}
use Rattle.typing.specs.ctypes.Table.{type_at}
use Rattle.typing.specs.ctypes.Assigning.{followed_by, update_demands}
use Rattle.typing.specs.ctypes.Binary.{operated}
use Rattle.typing.specs.ctypes.Broken.{judged}
use Rattle.typing.specs.ctypes.Operands.{seen_at, found_at}
use Rattle.typing.proofs.ctypes.Following.{followed_by-typed}
use Rattle.typing.proofs.ctypes.assigning.updated.Goals as goal

pub returns-in_default : goal.returns-in_default
returns-in_default c = record {
  is = λ types. subst (λ group. found_at types c.given_back.result ≡ followed_by (operated group (seen_at types c.args.left) (seen_at types c.args.right)) (judged (update_demands group (seen_at types c.args.left) (seen_at types c.args.right)) (type_at types c.args.left.ctype)))
      c.group_of-group.ensures
      (c.given_back.ensures.is types ∙ followed_by-typed types c.operated.result _ _ c.in_default.not-Broken (c.operated.ensures.is types));
  below = λ count l r. c.given_back.ensures.below count l;
}
