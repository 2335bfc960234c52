-- The readers of declarations and initialisers leave the row as it is.
use Rattle.std.proofs.Common.{◌≡◌, ℕ, Bool, Option, None, Some}
use Rattle.cbase.specs.declared.tree.decl.Storage.{Storage}
use Rattle.cgrammar.specs.ReadTypes.{never, closes_braces}
use Rattle.cparser.proofs.KeptRows.{KeepRow}
use Rattle.cparser.proofs.KeptBySteps.{parts_row, step_rows}
use Rattle.cparser.proofs.KeptByTypes.{all_sizes_row, over_comma_row}
use Rattle.cparser.specs.DeclarationSteps.{over_storage, specifiers_with, specifiers, parameter_behind, parameter, parameters_inside, parameters, object_behind, declarator_behind, declarator, declarators, declaration_behind, declaration, member_part, init_part, init_parts, in_braces, valued, initializer}
use Rattle.cparser.specs.State.{State}
use Rattle.cparser.specs.Steps.{Inner}

over_storage_row : (s : State) → (over_storage s).row ≡ s.row
unfolding over_storage
over_storage_row s = simp step_rows

specifiers_with_row : (inner : Inner) (s : State) (found : Option Storage) → KeepRow inner → (specifiers_with inner s found).row ≡ s.row
specifiers_with_row inner s None kept = simp (step_rows, over_storage_row)
specifiers_with_row inner s (Some storage) kept = simp step_rows

specifiers_row : (inner : Inner) (s : State) → KeepRow inner → (specifiers inner s).row ≡ s.row
unfolding specifiers
specifiers_row inner s kept = simp (step_rows, specifiers_with_row)

parameter_behind_row : (inner : Inner) (s : State) → KeepRow inner → (parameter_behind inner s).row ≡ s.row
unfolding parameter_behind
parameter_behind_row inner s kept = simp (step_rows, all_sizes_row)

parameter_row : (inner : Inner) (s : State) → KeepRow inner → (parameter inner s).row ≡ s.row
unfolding parameter
parameter_row inner s kept = simp (parameter_behind_row, specifiers_row)

parameters_inside_row : (inner : Inner) (s : State) → KeepRow inner → (parameters_inside inner s).row ≡ s.row
unfolding parameters_inside
parameters_inside_row inner s kept = simp (step_rows, parts_row never (parameter inner) (λ (t : State). parameter_row inner t kept))

parameters_row : (inner : Inner) (s : State) → KeepRow inner → (parameters inner s).row ≡ s.row
unfolding parameters
parameters_row inner s kept = simp (step_rows, parameters_inside_row)

object_behind_row : (inner : Inner) (typedef : Bool) (at stars : ℕ) (s : State) → KeepRow inner → (object_behind inner typedef at stars s).row ≡ s.row
unfolding object_behind
object_behind_row inner typedef at stars s kept = simp step_rows

declarator_behind_row : (inner : Inner) (typedef : Bool) (at stars : ℕ) (s : State) → KeepRow inner
    → (declarator_behind inner typedef at stars s).row ≡ s.row
unfolding declarator_behind
declarator_behind_row inner typedef at stars s kept = simp (step_rows, parameters_row, object_behind_row, all_sizes_row)

declarator_row : (inner : Inner) (typedef : Bool) (s : State) → KeepRow inner → (declarator inner typedef s).row ≡ s.row
unfolding declarator
declarator_row inner typedef s kept = simp (step_rows, declarator_behind_row)

declarators_row : (inner : Inner) (typedef : Bool) (s : State) → KeepRow inner → (declarators inner typedef s).row ≡ s.row
unfolding declarators
declarators_row inner typedef s kept = simp (parts_row never (declarator inner typedef) (λ (t : State). declarator_row inner typedef t kept))

declaration_behind_row : (inner : Inner) (storage : Storage) (s : State) → KeepRow inner → (declaration_behind inner storage s).row ≡ s.row
unfolding declaration_behind
declaration_behind_row inner storage s kept = simp (step_rows, declarators_row)

pub declaration_row : (inner : Inner) (s : State) → KeepRow inner → (declaration inner s).row ≡ s.row
unfolding declaration
declaration_row inner s kept = simp (declaration_behind_row, specifiers_row)

member_part_row : (inner : Inner) (s : State) → KeepRow inner → (member_part inner s).row ≡ s.row
unfolding member_part
member_part_row inner s kept = simp step_rows

init_part_row : (inner : Inner) (s : State) → KeepRow inner → (init_part inner s).row ≡ s.row
unfolding init_part
init_part_row inner s kept = simp (step_rows, member_part_row)

init_parts_row : (inner : Inner) (s : State) → KeepRow inner → (init_parts inner s).row ≡ s.row
unfolding init_parts
init_parts_row inner s kept = simp (parts_row closes_braces (init_part inner) (λ (t : State). init_part_row inner t kept))

in_braces_row : (inner : Inner) (s : State) → KeepRow inner → (in_braces inner s).row ≡ s.row
unfolding in_braces
in_braces_row inner s kept = simp (step_rows, init_parts_row, over_comma_row)

pub initializer_row : (inner : Inner) (s : State) → KeepRow inner → (initializer inner s).row ≡ s.row
unfolding initializer valued
initializer_row inner s kept = simp (step_rows, in_braces_row)
