-- The printed texts of the kinds of faults.
use Rattle.std.specs.Prelude.{ℕ, zero, suc, ◌≤◌, List, codes}

-- whether a number is that of a kind
abbrev pub IsKind : ℕ → Type 0
IsKind kind = (1 ≤ kind) × (kind ≤ 9)

-- the printed text of the kind with this number
abbrev pub kind_text : ℕ → List ℕ
kind_text zero = codes ""
kind_text (suc zero) = codes "null pointer dereference"
kind_text (suc (suc zero)) = codes "access outside object"
kind_text (suc (suc (suc zero))) = codes "access to dead object"
kind_text (suc (suc (suc (suc zero)))) = codes "access through invalid address"
kind_text (suc (suc (suc (suc (suc zero))))) = codes "double free"
kind_text (suc (suc (suc (suc (suc (suc zero)))))) = codes "invalid free"
kind_text (suc (suc (suc (suc (suc (suc (suc zero))))))) = codes "memory lost"
kind_text (suc (suc (suc (suc (suc (suc (suc (suc zero)))))))) = codes "overlapping copy"
kind_text (suc (suc (suc (suc (suc (suc (suc (suc (suc more))))))))) = codes "block never freed"
