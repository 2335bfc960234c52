-- What the reader leaves of a row says which item it is.
use Rattle.std.proofs.Common.{◌≡◌, ℕ, ◌≤◌, ap, sym, ◌∙◌, subst, List, [], ◌∷◌, ◌++◌, Option, None, Some, append-nil}
use Rattle.cbase.specs.declared.tree.item.Item.{Item}
use Rattle.ctrees.specs.Levels.{item_levels}
use Rattle.cgrammar.proofs.SoundSteps.{Sound, Got}
use Rattle.cgrammar.specs.Outcomes.{Outcome, Nothing, Stopped, Read}
use Rattle.cgrammar.specs.Phrases.{Context}
use Rattle.cgrammar.specs.Reader.{level}
use Rattle.cgrammar.specs.Readings.{at_first}
use Rattle.cgrammar.specs.Scope.{Names}
use Rattle.cgrammar.specs.Terminals.{Terminal}
use Rattle.cgrammar.specs.TextRows.{few_levels, row_of_text, typedefs}
use Rattle.cread.proofs.Complete.{complete_item}
use Rattle.cread.proofs.Sound.{says_external, sound_item}
use Rattle.cread.specs.Items.{SpellsItem}
use Rattle.cread.specs.ReadItem.{read_external}
use Rattle.cread.specs.TextItems.{ItemRow, IsItem, HaveItems}

-- the item that a row of a table has as a whole, or another answer where it has none
abbrev pub LeavesWhole : Outcome Item → Item → Type 0
LeavesWhole Nothing item = ⊥
LeavesWhole (Stopped found expressions rest) item = ⊥
LeavesWhole (Read found levels behind rest) item = (found ≡ item) × (rest ≡ [])

abbrev pub LeavesNone : Outcome Item → Type 0
LeavesNone Nothing = Unit {0}
LeavesNone (Stopped found expressions rest) = Unit {0}
LeavesNone (Read found levels behind []) = ⊥
LeavesNone (Read found levels behind (first ∷ others)) = Unit {0}

whole_item : (most : ℕ) (before : Context) (row : List Terminal) (outcome : Outcome Item) (item : Item) → Sound says_external item_levels most before row outcome → LeavesWhole outcome item
    → (behind : Context) × SpellsItem item before row behind
whole_item most before row Nothing item sound leaves = absurd leaves
whole_item most before row (Stopped found expressions rest) item sound leaves = absurd leaves
whole_item most before row (Read found levels behind rest) item sound leaves =
    let read : Got says_external item_levels most before row found levels behind rest = sound.is in
    let front : read.front ≡ row = sym (append-nil read.front) ∙ (ap (λ (end : List Terminal). read.front ++ end) (sym leaves.1) ∙ sym read.whole.is) in
    (behind, subst (λ (i : Item). SpellsItem i before row behind) leaves.0 (subst (λ (r : List Terminal). SpellsItem found before r behind) front read.spelled))

no_whole : (outcome : Outcome Item) (item : Item) (levels : ℕ) (behind : Context) → LeavesNone outcome → outcome ≡ Read item levels behind [] → ⊥
no_whole outcome item levels behind leaves is = subst LeavesNone is leaves

no_item : (most : ℕ) (scope : List Names) (row : List Terminal) → LeavesNone (read_external (level most) (at_first scope) row)
    → (item : Item) (behind : Context) → SpellsItem item (at_first scope) row behind → item_levels item ≤ most → ⊥
no_item most scope row leaves item behind spells small =
    no_whole (read_external (level most) (at_first scope) row) item (item_levels item) behind leaves (complete_item item (at_first scope) behind row spells most small)

abbrev pub LeavesItem : List Names → List Terminal → Option Item → Type 0
LeavesItem scope row None = LeavesNone (read_external (level few_levels) (at_first scope) row)
LeavesItem scope row (Some item) = LeavesWhole (read_external (level few_levels) (at_first scope) row) item

is_item : (scope : List Names) (row : List Terminal) (expected : Option Item) → LeavesItem scope row expected → IsItem scope row expected
is_item scope row None leaves = no_item few_levels scope row leaves
is_item scope row (Some item) leaves = whole_item few_levels (at_first scope) row (read_external (level few_levels) (at_first scope) row) item (sound_item few_levels (at_first scope) row) leaves

abbrev pub LeaveItems : List ItemRow → Type 0
LeaveItems [] = Unit {0}
LeaveItems (row ∷ rows) = LeavesItem (typedefs row.names) (row_of_text row.text) row.expected × LeaveItems rows

pub have_items : (rows : List ItemRow) → LeaveItems rows → HaveItems rows
have_items [] leave = tt
have_items (row ∷ rows) leave = (is_item (typedefs row.names) (row_of_text row.text) row.expected leave.0, have_items rows leave.1)
