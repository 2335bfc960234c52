-- What a new entry makes of what is known.
use Rattle.std.specs.Prelude.{◌≡◌, ℕ, ◌<◌, ◌≤◌, ◌+◌, List, [], ◌∷◌, ◌++◌, Bool, true, false, Option, None, Some, filter, length, ◌⊎◌}
use Rattle.graph.specs.declared.parts.Parts.{Parts}
use Rattle.coarse.specs.Coarsened.{is_coarse}
use Rattle.fold.specs.Foldable.{IsFoldable}
use Rattle.flow.specs.declared.flow_graph.Flow.{Flow}
use Rattle.trail.specs.declared.trail.Cause.{Cause}
use Rattle.trail.specs.declared.trail.Cause.TheVariants.{Fold, Coarse}
use Rattle.trail.specs.declared.trail.Entry.{Entry}
use Rattle.trail.specs.Seen.{IsHead}
use Rattle.trail.specs.Trail.{At, IsCovered}
use Rattle.trail.specs.Work.{candidate, IsFree, Pends, Grows}
use Rattle.driver.specs.declared.verdict.Limits.{Limits}
use Rattle.driver.specs.declared.work.Change.{Change}
use Rattle.driver.specs.declared.work.Change.TheVariants as changes
use Rattle.driver.specs.declared.work.Put.{Put}
use Rattle.driver.specs.declared.work.Put.TheVariants.{Done, Full, Open}
use Rattle.driver.specs.declared.work.Work.{Work}
use Rattle.driver.specs.Driven.{driven, widening, IsPlaced, IsForgotten, IsFolded, IsReducedTo}
use Rattle.driver.specs.Peers.{ArePeers, AreCounted}

-- how many entries are kept
abbrev pub kept_count : List Entry → ℕ
kept_count trail = length (filter (λ entry. entry.kept) trail)

-- the table of peers, the counts of live objects and that of kept entries are those of the trail
pub record IsBooked (budget : ℕ) (work : Work) : Type 0 where
  pub peers : ArePeers work.trail work.masks work.slots.items work.earlier.items
  pub counts : AreCounted work.trail work.counts.items
  pub kept : work.kept ≡ kept_count work.trail
  pub within : work.kept ≤ budget

-- these entries more
pub record IsPut (budget : ℕ) (before after : Work) (more : List Entry) : Type 0 where
  pub trail_is : after.trail ≡ before.trail ++ more
  pub booked : IsBooked budget after
  pub points : length after.masks.newest.items ≡ length before.masks.newest.items
  pub warnings : after.warnings ≡ before.warnings

-- entries more, of which none would be kept beyond the budget
pub record IsPutIn (budget : ℕ) (before after : Work) (more : List Entry) : Type 0 where
  pub put : IsPut budget before after more
  pub next : after.next ≡ before.next

-- entries more that are not kept
pub record IsUnkept (budget : ℕ) (before after : Work) (more : List Entry) : Type 0 where
  pub in_work : IsPutIn budget before after more
  pub kept : after.kept ≡ before.kept

-- What is made of a graph.

-- whether that may be made of it
abbrev pub MayChange : ℕ → Parts → Change → Type 0
MayChange limit graph changes.Coarse = is_coarse limit graph ≡ false
MayChange limit graph (changes.Fold fold) = (is_coarse limit graph ≡ true) × IsFoldable graph fold

-- what is made
abbrev pub ChangesTo : ℕ → Parts → Change → Parts → Type 0
ChangesTo limit graph changes.Coarse after = IsForgotten limit graph after
ChangesTo limit graph (changes.Fold fold) after = IsFolded limit graph after

-- the cause that this is
abbrev pub cause_of : Change → ℕ → Cause
cause_of changes.Coarse from = Coarse from
cause_of (changes.Fold fold) from = Fold from

-- What one look-up comes to.

-- the entry is put in, and it is kept or covered
pub record IsSettledNow (flow : Flow) (limits : Limits) (before after : Work) (point : ℕ) (cause : Cause) (graph : Parts) : Type 0 where
  pub kept : Bool
  pub in_work : IsPutIn limits.budget before after (candidate point cause graph kept ∷ [])
  pub settled : (kept ≡ true) ⊎ IsCovered driven before.trail (candidate point cause graph kept)
  pub free : kept ≡ true → IsFree driven before.trail point graph
  pub reduced : kept ≡ true → IsHead flow point → IsReducedTo limits.int_limit graph

-- it would be kept beyond the budget
pub record IsBeyond (flow : Flow) (limits : Limits) (before after : Work) (point : ℕ) (cause : Cause) (graph : Parts) : Type 0 where
  pub put : IsPut limits.budget before after []
  pub free : IsFree driven before.trail point graph
  pub reduced : IsHead flow point → IsReducedTo limits.int_limit graph
  pub kept : after.kept ≡ before.kept
  pub full : limits.budget ≤ before.kept
  pub next : after.next ≡ Some (candidate point cause graph true)

-- it is put in and not kept: it stands at a loop head, where another one is made of it
pub record IsOpen (flow : Flow) (limits : Limits) (before after : Work) (point : ℕ) (cause : Cause) (graph : Parts) (change : Change) : Type 0 where
  pub unkept : IsUnkept limits.budget before after (candidate point cause graph false ∷ [])
  pub head : IsHead flow point
  pub may : MayChange limits.int_limit graph change

abbrev pub LooksSo : Flow → Limits → Work → Work → ℕ → Cause → Parts → Put → Type 0
LooksSo flow limits before after point cause graph Done = IsSettledNow flow limits before after point cause graph
LooksSo flow limits before after point cause graph Full = IsBeyond flow limits before after point cause graph
LooksSo flow limits before after point cause graph (Open change) = IsOpen flow limits before after point cause graph change

-- the last entry, of which another one is made
pub record IsLast (flow : Flow) (limits : Limits) (work : Work) (point : ℕ) (change : Change) (entry : Entry) : Type 0 where
  pub from : ℕ
  pub long : length work.trail ≡ from + 1
  pub there : At work.trail from entry
  pub booked : IsBooked limits.budget work
  pub within : point < length work.masks.newest.items
  pub placed : IsPlaced flow point entry.graph
  pub may : MayChange limits.int_limit entry.graph change

pub record HasLast (flow : Flow) (limits : Limits) (work : Work) (point : ℕ) (change : Change) : Type 0 where
  pub entry : Entry
  pub is : IsLast flow limits work point change entry

-- what is made of the last entry is looked up
pub record MakesSo (flow : Flow) (limits : Limits) (before after : Work) (point : ℕ) (change : Change) (put : Put) : Type 0 where
  pub from : ℕ
  pub long : length before.trail ≡ from + 1
  pub entry : Entry
  pub there : At before.trail from entry
  pub graph : Parts
  pub placed : IsPlaced flow point graph
  pub makes : ChangesTo limits.int_limit entry.graph change graph
  pub looks : LooksSo flow limits before after point (cause_of change from) graph put

-- What one look-up after the other comes to.

-- one entry more that is kept or covered, behind those of which it was made
pub record Grown (flow : Flow) (limits : Limits) (before after : Work) (point : ℕ) (cause : Cause) (graph : Parts) : Type 0 where
  pub more : List Entry
  pub grows : Grows driven (widening limits.int_limit) flow point before.trail cause graph more
  pub in_work : IsPutIn limits.budget before after more

-- one more would be kept beyond the budget
pub record IsFull (flow : Flow) (limits : Limits) (before after : Work) (point : ℕ) (cause : Cause) (graph : Parts) : Type 0 where
  pub pending : List Entry
  pub last : Cause
  pub wide : Parts
  pub pends : Pends driven (widening limits.int_limit) flow point before.trail cause graph pending last wide
  pub put : IsPut limits.budget before after pending
  pub free : IsFree driven after.trail point wide
  pub reduced : IsHead flow point → IsReducedTo limits.int_limit wide
  pub kept : after.kept ≡ before.kept
  pub full : kept_count after.trail ≡ limits.budget
  pub next : after.next ≡ Some (candidate point last wide true)

-- of the last one another one is to be made
pub record IsPending (flow : Flow) (limits : Limits) (before after : Work) (point : ℕ) (cause : Cause) (graph : Parts) (change : Change) : Type 0 where
  pub pending : List Entry
  pub last : Cause
  pub wide : Parts
  pub pends : Pends driven (widening limits.int_limit) flow point before.trail cause graph pending last wide
  pub unkept : IsUnkept limits.budget before after (pending ++ candidate point last wide false ∷ [])
  pub head : IsHead flow point
  pub may : MayChange limits.int_limit wide change
  pub placed : IsPlaced flow point wide

abbrev pub AddsSo : Flow → Limits → Work → Work → ℕ → Cause → Parts → Put → Type 0
AddsSo flow limits before after point cause graph Done = Grown flow limits before after point cause graph
AddsSo flow limits before after point cause graph Full = IsFull flow limits before after point cause graph
AddsSo flow limits before after point cause graph (Open change) = IsPending flow limits before after point cause graph change

abbrev pub Adds : Flow → Limits → Work → Work → ℕ → Cause → Parts → Bool → Type 0
Adds flow limits before after point cause graph true = Grown flow limits before after point cause graph
Adds flow limits before after point cause graph false = IsFull flow limits before after point cause graph

-- what is made of a graph at a point, if anything
abbrev pub TellsChange : Flow → ℕ → ℕ → Parts → Option Change → Type 0
TellsChange flow limit point graph (Some change) = IsHead flow point × MayChange limit graph change
TellsChange flow limit point graph None = IsHead flow point → IsReducedTo limit graph

-- what is made of a graph may stand where that one does
pub record IsMade (flow : Flow) (limit point : ℕ) (graph : Parts) (change : Change) (after : Parts) : Type 0 where
  pub placed : IsPlaced flow point after
  pub makes : ChangesTo limit graph change after
