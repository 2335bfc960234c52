-- What the steps make of a whole row is the item that the grammar spells with it, and where they make nothing there is
-- none.
use Rattle.std.proofs.Common.{◌≡◌, ℕ, ◌≤◌, true, false, List, [], ◌∷◌, ◌++◌, refl, ap, sym, ◌∙◌, subst, arith, append-nil}
use Rattle.cbase.specs.declared.tree.item.Item.{Item}
use Rattle.cevents.specs.Building.{built_all}
use Rattle.cevents.specs.declared.event.Event.{Event}
use Rattle.cevents.specs.declared.piece.Piece.TheVariants as piece
use Rattle.ctrees.specs.Levels.{item_levels}
use Rattle.cgrammar.proofs.Sound.{sound_level}
use Rattle.cgrammar.proofs.SoundSteps.{Sound, Got}
use Rattle.cgrammar.specs.Outcomes.{Outcome}
use Rattle.cgrammar.specs.Outcomes as outcome
use Rattle.cgrammar.specs.Phrases.{Context, context_at}
use Rattle.cgrammar.specs.Reader.{level}
use Rattle.cgrammar.specs.Scope.{Names}
use Rattle.cgrammar.specs.Terminals.{Terminal}
use Rattle.cparser.specs.ItemSteps.{external, ended_with, at_end, item_alone}
use Rattle.cparser.specs.ReadingSteps.{inner_at}
use Rattle.cparser.specs.State.{State, rest, goes, is_going}
use Rattle.cparser.specs.Writings.{start_of}
use Rattle.cparser.specs.declared.status.Status.{Status}
use Rattle.cparser.specs.declared.status.Status.TheVariants.{Going, Stopped}
use Rattle.cread_expr.proofs.Agreed.{Ended, Agreed, none, shop, ends}
use Rattle.cread_expr.proofs.AgreedLevels.{levels_agree}
use Rattle.cread_expr.proofs.AgreedSteps.{if_going, if_idle}
use Rattle.cread.proofs.AgreedItems.{item_piece, external_agrees}
use Rattle.cread.proofs.Complete.{complete_item}
use Rattle.cread.proofs.Sound.{says_external, sound_item}
use Rattle.cread.specs.Items.{SpellsItem}
use Rattle.cread.specs.ReadItem.{read_external}

-- the row is spelled, and the events make its item
pub record RowRead (most : ℕ) (before : Context) (row : List Terminal) (u : State) : Type 0 where
  pub item : Item
  pub behind : Context
  pub spelled : SpellsItem item before row behind
  pub small : item_levels item ≤ most
  pub built : built_all row u.events (shop before.expressions []) ≡ shop behind.expressions (piece.Item item ∷ [])
  pub scope : u.scope ≡ behind.scope

-- what is known of the state behind the steps, for each outcome of the reader function
abbrev RowAnswer : ℕ → Context → List Terminal → Outcome Item → State → Type 0
RowAnswer most before row outcome.Nothing u = goes u ≡ false
RowAnswer most before row (outcome.Stopped item expressions others) u = ⊥
RowAnswer most before row (outcome.Read item levels behind []) u = (goes u ≡ true) × RowRead most before row u
RowAnswer most before row (outcome.Read item levels behind (first ∷ others)) u = goes u ≡ false

row_read_is : (most : ℕ) (before : Context) (row : List Terminal) (s t : State) (item : Item) (levels : ℕ) (behind : Context) → s.row ≡ row → s.events ≡ []
    → Ended s t none (item_piece item) 0 levels before.expressions behind [] → Got says_external item_levels most before row item levels behind [] → RowRead most before row t
row_read_is most before row s t item levels behind whole fresh far read =
    let events : t.events ≡ far.went.added = far.went.events ∙ ap (λ (events : List Event). events ++ far.went.added) fresh in
    record {
      item = item;
      behind = behind;
      spelled = subst (λ (front : List Terminal). SpellsItem item before front behind) (sym (append-nil read.front) ∙ sym read.whole.is) read.spelled;
      small = subst (λ (levels : ℕ). levels ≤ most) read.same read.fits;
      built = (let there : row ≡ s.row = sym whole in λ i. built_all (there i) (events i) (shop before.expressions [])) ∙ far.went.builds [];
      scope = far.scope;
    }

answered : (most : ℕ) (before : Context) (row : List Terminal) (s t : State) → s.row ≡ row → s.events ≡ [] → (found : Outcome Item)
    → Agreed none item_piece ends 0 before.expressions found s t → Sound says_external item_levels most before row found → RowAnswer most before row found (at_end t)
unfolding at_end
answered most before row s t whole fresh outcome.Nothing is sound =
    let idle : goes t ≡ false = ap (λ (status : Status). is_going status) is.is.status in
    ap (λ (u : State). goes u) (if_idle (ended_with t (rest t)) t t idle) ∙ idle
answered most before row s t whole fresh (outcome.Stopped item expressions others) is sound = let wrong : Stopped ≡ Going = sym is.is.0.status ∙ is.is.1 in cc wrong
answered most before row s t whole fresh (outcome.Read item levels behind []) is sound =
    let far = is.is.0 in
    let same : at_end t ≡ t = if_going (ended_with t (rest t)) t t far.status ∙ ap (λ (left : List Terminal). ended_with t left) far.left in
    subst (λ (u : State). (goes u ≡ true) × RowRead most before row u) (sym same)
    (ap (λ (status : Status). is_going status) far.status, row_read_is most before row s t item levels behind whole fresh far sound.is)
answered most before row s t whole fresh (outcome.Read item levels behind (first ∷ others)) is sound =
    let far = is.is.0 in
    ap (λ (u : State). goes u) (if_going (ended_with t (rest t)) t t far.status ∙ ap (λ (left : List Terminal). ended_with t left) far.left)

-- what the whole of the steps comes to
answer_of : (most expressions : ℕ) (row : List Terminal) (scope : List Names)
    → RowAnswer most (context_at scope expressions) row (read_external (level most) (context_at scope expressions) row) (item_alone (inner_at most) (start_of row scope))
unfolding item_alone
answer_of most expressions row scope =
    let s : State = start_of row scope in
    let before : Context = context_at scope expressions in
    let agrees : Agreed none item_piece ends 0 expressions (read_external (level most) before row) s (external (inner_at most) s) =
    external_agrees (sound_level most) (levels_agree most) s expressions (record { status = refl; inside = omega arith }) in
    answered most before row s (external (inner_at most) s) refl refl (read_external (level most) before row) agrees (sound_item most before row)

-- where the steps go on to the end, the row is read
pub row_read : (most expressions : ℕ) (row : List Terminal) (scope : List Names) → goes (item_alone (inner_at most) (start_of row scope)) ≡ true
    → RowRead most (context_at scope expressions) row (item_alone (inner_at most) (start_of row scope))
row_read most expressions row scope going =
    case (read_external (level most) (context_at scope expressions) row) (answer_of most expressions row scope)
  where
    u : State
    u = item_alone (inner_at most) (start_of row scope)

    wrong : goes (item_alone (inner_at most) (start_of row scope)) ≡ false → ⊥
    wrong idle = let both : true ≡ false = sym going ∙ idle in cc both

    case : (found : Outcome Item) → RowAnswer most (context_at scope expressions) row found (item_alone (inner_at most) (start_of row scope))
        → RowRead most (context_at scope expressions) row (item_alone (inner_at most) (start_of row scope))
    case outcome.Nothing is = absurd (wrong is)
    case (outcome.Stopped item others left) is = absurd is
    case (outcome.Read item levels behind []) is = is.1
    case (outcome.Read item levels behind (first ∷ others)) is = absurd (wrong is)

-- where they do not, no item of so few levels spells it
pub no_row_read : (most expressions : ℕ) (row : List Terminal) (scope : List Names) → goes (item_alone (inner_at most) (start_of row scope)) ≡ false
    → (item : Item) (behind : Context) → SpellsItem item (context_at scope expressions) row behind → item_levels item ≤ most → ⊥
no_row_read most expressions row scope idle item behind spells small =
    let before : Context = context_at scope expressions in
    let u : State = item_alone (inner_at most) (start_of row scope) in
    let read : RowAnswer most before row (outcome.Read item (item_levels item) behind []) u =
    subst (λ (found : Outcome Item). RowAnswer most before row found u) (complete_item item before behind row spells most small) (answer_of most expressions row scope) in
    let both : true ≡ false = sym read.0 ∙ idle in
    cc both
