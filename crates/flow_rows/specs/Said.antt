-- What an answer to a row says of its graph.
use Rattle.std.specs.Prelude.{◌↔◌, ◌<◌, Contains, IsTrue}
use Rattle.flow.specs.declared.flow_graph.Flow.{Flow}
use Rattle.flow.specs.Exclusive.{IsExclusive}
use Rattle.flow.specs.InRange.{IsInRange, entry_of}
use Rattle.flow.specs.Marked.{SaysOut}
use Rattle.flow.specs.Valid.{IsFlow}
use Rattle.flow.specs.Walks.{Answers}
use Rattle.flow_rows.specs.declared.answer.Ask.{Ask}
use Rattle.flow_rows.specs.declared.answer.Ask.TheVariants as ask
use Rattle.flow_rows.specs.declared.answer.Answer.{Answer}
use Rattle.flow_rows.specs.declared.answer.Answer.TheVariants.{Form, Walks, Outside, Head, Exclusive, Out}

abbrev pub Says : Flow → Ask → Answer → Type 0
Says flow ask.Form (Form holds) = IsTrue holds ↔ IsFlow flow
Says flow ask.Walks (Walks number) = Answers flow.edges (entry_of flow flow.main) number
Says flow ask.Walks Outside = IsInRange flow → ⊥
Says flow (ask.Head point) (Head holds) = IsTrue holds ↔ ((point < flow.points) × Contains flow.heads point)
Says flow ask.Exclusive (Exclusive holds) = IsTrue holds ↔ IsExclusive flow
Says flow ask.Exclusive Outside = IsInRange flow → ⊥
Says flow (ask.Out point) (Out out) = SaysOut flow.edges point out
Says flow (ask.Out point) Outside = IsInRange flow → ⊥
Says flow asked answer = ⊥
