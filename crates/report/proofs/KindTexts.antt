-- The texts of kinds that are no kind of fault.
use Rattle.std.proofs.Common.{◌≡◌, ℕ, zero, suc, ◌≤◌, codes, refl, arith}
use Rattle.report.specs.Kind.{kind_text}

-- from 9 on there is one text
pub late_kind : (kind : ℕ) → 9 ≤ kind → codes "block never freed" ≡ kind_text kind
late_kind (suc (suc (suc (suc (suc (suc (suc (suc (suc more))))))))) late = refl
late_kind zero late = absurd (omega (arith, late))
late_kind (suc zero) late = absurd (omega (arith, late))
late_kind (suc (suc zero)) late = absurd (omega (arith, late))
late_kind (suc (suc (suc zero))) late = absurd (omega (arith, late))
late_kind (suc (suc (suc (suc zero)))) late = absurd (omega (arith, late))
late_kind (suc (suc (suc (suc (suc zero))))) late = absurd (omega (arith, late))
late_kind (suc (suc (suc (suc (suc (suc zero)))))) late = absurd (omega (arith, late))
late_kind (suc (suc (suc (suc (suc (suc (suc zero))))))) late = absurd (omega (arith, late))
late_kind (suc (suc (suc (suc (suc (suc (suc (suc zero)))))))) late = absurd (omega (arith, late))
