-- One row in front of the others.
use Rattle.std.proofs.Common.{◌≡◌, ℕ, ◌+◌, ◌-◌, List, map, drop, sym, ap, ◌∙◌, arith}
use Rattle.typing.specs.Outcomes.{Handed}
use Rattle.c_machine.specs.Program.{fixed_in}
use Rattle.c_text.specs.Fixed.{fixed_by}
use Rattle.c_text.proofs.FirstRows.{rows_at}
use Rattle.c_text.proofs.typed_text.TypedText.gather_fixed.Goals as goal

pub loop-left-preserved : goal.loop-left-preserved
loop-left-preserved c =
    let same : c.loop-left.left - 1 + 1 ≡ c.loop-left.left = grind (arith, c.loop-left-test.true) in (
      grind (arith, c.loop-left.invariant.0),
      λ n p stands.
          c.in_ok-put_row.ensures n p (drop (c.loop-left.left - 1 + 1) p.handed) stands
          (c.loop-left.invariant.1 n p stands
          ∙ ap (λ (k : ℕ). map (fixed_by p) (fixed_in p.handed c.args.outside (drop k p.handed))) (sym same))
          ∙ ap (λ (rows : List Handed). map (fixed_by p) (fixed_in p.handed c.args.outside rows))
          (sym (rows_at n c.args.self.now p (c.loop-left.left - 1) c.handed_row.result stands c.handed_row.ensures.is)),
    )

pub returns : goal.returns
returns c = λ n p stands.
    let none : c.loop-left.left ≡ 0 = grind (arith, c.loop-left-test.false) in
    c.loop-left.invariant.1 n p stands
    ∙ ap (λ (k : ℕ). map (fixed_by p) (fixed_in p.handed c.args.outside (drop k p.handed))) none
