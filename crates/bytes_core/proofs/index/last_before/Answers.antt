use Rattle.std.proofs.Common.{ℕ, Option, subst, sym, refl, arith}
use Rattle.std.proofs.lemmas.Grind.{common_steps}
use Rattle.std.specs.Prelude.{IsSome}
use Rattle.bytes_core.proofs.Indexed.{cmp_less, not_less}
use Rattle.bytes_core.proofs.index.last_before.Goals as goal

pub returns-in-Some-clause-some : goal.returns-in-Some-clause-some
returns-in-Some-clause-some c =
    let of = c.range.ensures.in_range tt in
    let entry = of.3 _ _ c.in-Some.ensures.steps in
    record {
      base = c.in-Some.field-0-0.now;
      begins = entry.1;
      before = let inside = entry.0.1 in grind (arith, common_steps, inside);
      last = λ other found has before.
          not_less c.in-Some.field-0-0.now other
          (of.4 _ _ c.in-Some.ensures.steps other (tt, cmp_less other c.args.end before) (subst (λ (there : Option ℕ). IsSome there) (sym has) refl));
    }
