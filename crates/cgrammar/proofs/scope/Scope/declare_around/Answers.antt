use Rattle.std.proofs.Common.{List, [], slice_index_or}
use Rattle.cgrammar.specs.Bounds.{IsBounded}
use Rattle.cgrammar.specs.Scope.{Names, declared_around}
use Rattle.cgrammar.specs.Typedefs.{HasTypedefs}
use Rattle.cgrammar.proofs.TypedefNames.{holds_after}
use Rattle.cgrammar.proofs.scope.Scope.declare_around.Goals as goal

pub invariant_of-self-2 : goal.invariant_of-self-2
invariant_of-self-2 c =
    let old : List Names = c.self.inside.sets.items in
    let new : List Names = c.declare_around_last.new.sets.items in
    let next : List Names = declared_around c.args.name.now c.args.typedef old in
    let P : List Names → Type 0 = λ s. IsBounded s (slice_index_or c.declare_around.new.self.levels.items 0 []) c.declare_around.new.self.levels.items in
    let Q : List Names → Type 0 = λ s. HasTypedefs s c.declare.new.self.names in (
      holds_after P c.declare_around_last.result old next new c.declare_around_last.ensures.ok c.declare_around_last.ensures.err
          (c.in_ok-declare_around.ensures.kept old c.self.invariant.0) (c.in_ok-declare_around.ensures.ok old c.args.typedef c.self.invariant.0),
      holds_after Q c.declare_around_last.result old next new c.declare_around_last.ensures.ok c.declare_around_last.ensures.err
          (c.in_ok-declare.ensures.kept old c.self.invariant.1) (c.in_ok-declare.ensures.around old c.self.invariant.1),
    )
