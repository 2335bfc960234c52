-- Each step leaves the row as it is.
use Rattle.std.proofs.Common.{◌≡◌, ℕ, zero, suc, Bool, List, refl}
use Rattle.cevents.specs.declared.event.Event.{Event}
use Rattle.cgrammar.specs.Terminals.{Terminal}
use Rattle.cparser.proofs.KeptRows.{KeepsRow, KeepRow, chosen_rows}
use Rattle.cparser.specs.State.{State}
use Rattle.cparser.specs.Steps.{Inner, mark, word, mark_or_back, whole, back_unless_going, write, make, wrapped, wrap, joined, join, declare, enter, leave, ask, ask_whole, ask_right, parts, parts_until_brace}
use Rattle.cparser.specs.declared.point.Point.{Point}
use Rattle.cparser.specs.declared.status.Status.{Status}
use Rattle.cparser.specs.declared.status.Status.TheVariants.{Going, Stopped, Nothing}
use Rattle.cparser.specs.declared.wanted.Wanted.{Wanted}

pub mark_row : (bytes : List ℕ) (s : State) → (mark bytes s).row ≡ s.row
unfolding mark
mark_row bytes s = simp chosen_rows

pub word_row : (bytes : List ℕ) (s : State) → (word bytes s).row ≡ s.row
unfolding word
word_row bytes s = simp chosen_rows

pub mark_or_back_row : (bytes : List ℕ) (point : Point) (s : State) → (mark_or_back bytes point s).row ≡ s.row
unfolding mark_or_back
mark_or_back_row bytes point s = simp chosen_rows

pub whole_row : (s : State) → (whole s).row ≡ s.row
unfolding whole
whole_row s = simp chosen_rows

pub back_unless_going_row : (point : Point) (s : State) → (back_unless_going point s).row ≡ s.row
unfolding back_unless_going
back_unless_going_row point s = simp chosen_rows

pub write_row : (event : Event) (s : State) → (write event s).row ≡ s.row
unfolding write
write_row event s = simp chosen_rows

pub make_row : (event : Event) (s : State) → (make event s).row ≡ s.row
unfolding make
make_row event s = simp chosen_rows

wrapped_row : (event : Event) (status : Status) (s : State) → (wrapped event status s).row ≡ s.row
wrapped_row event Going s = refl
wrapped_row event Stopped s = refl
wrapped_row event Nothing s = refl

pub wrap_row : (event : Event) (s : State) → (wrap event s).row ≡ s.row
unfolding wrap
wrap_row event s = wrapped_row event s.status s

joined_row : (point : Point) (event : Event) (status : Status) (s : State) → (joined point event status s).row ≡ s.row
joined_row point event Going s = refl
joined_row point event Stopped s = refl
joined_row point event Nothing s = refl

pub join_row : (point : Point) (event : Event) (s : State) → (join point event s).row ≡ s.row
unfolding join
join_row point event s = joined_row point event s.status s

pub declare_row : (at : ℕ) (typedef : Bool) (s : State) → (declare at typedef s).row ≡ s.row
unfolding declare
declare_row at typedef s = simp chosen_rows

pub enter_row : (s : State) → (enter s).row ≡ s.row
unfolding enter
enter_row s = simp chosen_rows

pub leave_row : (s : State) → (leave s).row ≡ s.row
unfolding leave
leave_row s = simp chosen_rows

pub ask_row : (inner : Inner) (wanted : Wanted) (s : State) → KeepRow inner → (ask inner wanted s).row ≡ s.row
unfolding ask
ask_row inner wanted s kept = simp (chosen_rows, kept)

pub ask_whole_row : (inner : Inner) (wanted : Wanted) (s : State) → KeepRow inner → (ask_whole inner wanted s).row ≡ s.row
unfolding ask_whole
ask_whole_row inner wanted s kept = simp (whole_row, ask_row)

pub ask_right_row : (inner : Inner) (wanted : Wanted) (point : Point) (event : Event) (s : State) → KeepRow inner
    → (ask_right inner wanted point event s).row ≡ s.row
unfolding ask_right
ask_right_row inner wanted point event s kept = simp (chosen_rows, join_row, ask_row)

pub parts_row : (closes : List Terminal → Bool) (part : State → State) → KeepsRow part → (count : ℕ) (s : State)
    → (parts closes part count s).row ≡ s.row
unfolding parts
parts_row closes part kept zero s = refl
parts_row closes part kept (suc count) s = simp (chosen_rows, parts_row closes part kept count, kept)

pub parts_until_brace_row : (part : State → State) → KeepsRow part → (count : ℕ) (s : State) → (parts_until_brace part count s).row ≡ s.row
unfolding parts_until_brace
parts_until_brace_row part kept zero s = refl
parts_until_brace_row part kept (suc count) s = simp (chosen_rows, parts_until_brace_row part kept count, kept)

pub ruleset step_rows = (chosen_rows, mark_row, word_row, mark_or_back_row, whole_row, back_unless_going_row, write_row, make_row, wrap_row, join_row, declare_row, enter_row, leave_row, ask_row, ask_whole_row, ask_right_row)
