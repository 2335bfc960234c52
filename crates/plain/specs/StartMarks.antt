-- The marks of static variables at the start.
use Rattle.std.specs.Prelude.{ℕ, List, nat_eq, pos, if◌then◌else◌}
use Rattle.std.specs.List.{list_any}
use Rattle.std.specs.Option.{option_map_or}
use Rattle.bytes_core.specs.declared.word.Word.TheVariants.{To}
use Rattle.flow.specs.declared.flow_graph.Initial.{Initial}
use Rattle.flow.specs.Holding.{Owned, block_of}
use Rattle.flow.specs.Runs.{initial_word}
use Rattle.plain.specs.Marks.{Mark, Unwritten, Zeroed, marked_at, is_zero_in, written_mark}

-- the bytes of static variables are 0 before a scalar stands in one
abbrev pub static_marks : List Owned → ℕ → ℕ → Mark
static_marks statics block place = if list_any (λ (owned : Owned). nat_eq owned.block block) statics then Zeroed else Unwritten

-- the marks once a scalar stands there
abbrev pub with_initial_mark : List Owned → Initial → (ℕ → ℕ → Mark) → ℕ → ℕ → Mark
with_initial_mark statics first marks =
    option_map_or (λ block. marked_at (To block (pos first.at)) first.size (written_mark (is_zero_in first.size (initial_word statics first.word)) first.size) marks) (block_of statics first.variable) marks
