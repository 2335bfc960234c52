-- The registers through which an instruction goes: those that lead it to bytes, and those whose values it compares.
use Rattle.std.specs.Prelude.{ℕ, List, [], ◌∷◌}
use Rattle.flow.specs.declared.instruction.Instr.{Instr}
use Rattle.flow.specs.declared.instruction.Instr.TheVariants.{Read, Write, IfSame, IfDifferent, Release, Fill, Copy}

abbrev pub goes_through : Instr → List ℕ
goes_through (Read into at size pointer) = at ∷ []
goes_through (Write at from size) = at ∷ []
goes_through (IfSame one other) = one ∷ other ∷ []
goes_through (IfDifferent one other) = one ∷ other ∷ []
goes_through (Release at) = at ∷ []
goes_through (Fill at from length) = at ∷ []
goes_through (Copy to from length disjoint) = to ∷ from ∷ []
goes_through instr = []
