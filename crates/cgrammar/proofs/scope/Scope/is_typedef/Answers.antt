use Rattle.std.proofs.Common.{◌≡◌, ◌∙◌, ℕ, List, [], slice_index_or, length, take, ap, sym, arith}
use Rattle.cgrammar.specs.Scope.{Names, found, is_typedef_name}
use Rattle.cgrammar.proofs.Bounded.{typedef_bounded}
use Rattle.cgrammar.proofs.TypedefNames.{unknown_typedef}
use Rattle.cgrammar.proofs.scope.Scope.is_typedef.Goals as goal

pub returns : goal.returns
returns c =
    let all : c.len.result ≡ length c.self.inside.sets.items = omega (arith, c.len.ensures) in
    c.unwrap_or.ensures
    ∙ (typedef_bounded c.args.name.now c.self.inside.sets.items (slice_index_or c.self.inside.bounds.levels.items 0 []) c.self.inside.bounds.levels.items c.bound.result c.len.result c.found.result
    c.self.invariant.0 c.bound.ensures all
    (c.found.ensures ∙ (ap (λ (s : List Names). found c.args.name.now (take c.min-bound.result s)) c.as_slice.ensures.value
    ∙ ap (λ (n : ℕ). found c.args.name.now (take n c.self.inside.sets.items)) c.min-bound.ensures))
    ∙ ap (λ (s : List Names). is_typedef_name s c.args.name.now) c.self.view_is)

pub returns-then-not-may_have : goal.returns-then-not-may_have
returns-then-not-may_have c =
    unknown_typedef c.args.name.now c.self.inside.sets.items c.self.inside.typedefs.names c.self.invariant.1 (sym c.may_have.ensures ∙ c.if-not-may_have.true)
    ∙ ap (λ (s : List Names). is_typedef_name s c.args.name.now) c.self.view_is
