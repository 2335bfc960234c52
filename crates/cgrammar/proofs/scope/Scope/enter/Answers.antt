use Rattle.std.proofs.Common.{◌≡◌, ◌++◌, ◌∷◌, ◌∙◌, [], List, length, get_or, vec_len, ap, sym, subst, arith}
use Rattle.cgrammar.specs.Scope.{Names, entered}
use Rattle.cgrammar.specs.Bounds.{Numbers}
use Rattle.cgrammar.specs.Typedefs.{HasTypedefs}
use Rattle.cgrammar.proofs.TypedefNames.{known_entered}
use Rattle.cgrammar.proofs.Bounded.{bounded_equal, bounded_entered, taken_entered, get-entered, on_err_at, on_ok_at}
use Rattle.cgrammar.proofs.scope.Scope.enter.Goals as goal

pub invariant_of-self-then-is_err : goal.invariant_of-self-then-is_err
invariant_of-self-then-is_err c =
    let before : List Names = c.self.inside.sets.items in
    let old : List Numbers = c.self.inside.bounds.levels.items in
    let new : List Numbers = c.enter.new.self.levels.items in
    let inside : c.push.new.self.items ≡ entered before = ◌∙◌ {A = List Names} c.in_ok-push.ensures.items (ap (λ (n : Names). before ++ n ∷ []) c.new.ensures) in
    let all : vec_len c.push.new.self ≡ length c.push.new.self.items = omega arith in
    let kept : new ≡ old = on_err_at c.enter.result (sym c.is_err.ensures.value ∙ c.if-is_err.true) c.enter.ensures.err in
    let taken : c.pop-entered.new.self.items ≡ before =
    taken_entered before c.push.new.self.items c.pop-entered.new.self.items (vec_len c.push.new.self) inside all c.pop-entered.ensures.rest in
    let P : List Names → Type 0 = λ s. HasTypedefs s c.self.inside.typedefs.names in (
      bounded_equal before c.pop-entered.new.self.items (get_or old 0 []) (get_or new 0 []) old new c.self.invariant.0 taken (ap (λ (l : List Numbers). get_or l 0 []) kept) kept,
      subst P (sym taken) c.self.invariant.1,
    )

pub invariant_of-self-else-is_err : goal.invariant_of-self-else-is_err
invariant_of-self-else-is_err c =
    let before : List Names = c.self.inside.sets.items in
    let old : List Numbers = c.self.inside.bounds.levels.items in
    let new : List Numbers = c.enter.new.self.levels.items in
    let inside : c.push.new.self.items ≡ entered before = ◌∙◌ {A = List Names} c.in_ok-push.ensures.items (ap (λ (n : Names). before ++ n ∷ []) c.new.ensures) in
    let more : new ≡ old ++ [] ∷ [] = on_ok_at c.enter.result (sym c.is_err.ensures.value ∙ c.if-is_err.false) c.enter.ensures.ok in
    let P : List Names → Type 0 = λ s. HasTypedefs s c.self.inside.typedefs.names in (
      bounded_equal (entered before) c.push.new.self.items (get_or old 0 []) (get_or new 0 []) (old ++ [] ∷ []) new
          (bounded_entered before (get_or old 0 []) old c.self.invariant.0) inside
          (ap (λ (l : List Numbers). get_or l 0 []) more ∙ get-entered old 0) more,
      subst P (sym inside) (known_entered before c.self.inside.typedefs.names c.self.invariant.1),
    )
