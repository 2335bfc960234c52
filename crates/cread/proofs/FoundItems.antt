-- What the reader's events make of a row is its item; where constructs and changes of layout stand.
use Rattle.std.proofs.Common.{◌≡◌, ℕ, ◌-◌, ◌<◌, ◌≤◌, Bool, true, false, Option, Some, List, [], ◌∷◌, length, map, take, drop, slice_get, length-drop, refl, ap, sym, ◌∙◌, subst, arith, inr, ◌↔◌}
use Rattle.std.proofs.lemmas.List.{length-map, length-take}
use Rattle.std.proofs.lemmas.List.Elements.{All-drop, All-map, All-take}
use Rattle.std.proofs.lemmas.Option.{slice_get_within}
use Rattle.std.specs.List.{All}
use Rattle.cbase.specs.declared.place.Place.{Place}
use Rattle.cbase.specs.declared.tree.item.Item.{Item}
use Rattle.cevents.specs.Building.{built_all}
use Rattle.cevents.specs.Workshop.{Workshop}
use Rattle.cevents.specs.declared.event.Event.{Event}
use Rattle.cevents.specs.declared.piece.Piece.TheVariants as piece
use Rattle.cconstructs.specs.Finding.{found_at}
use Rattle.cconstructs.specs.declared.found.Found.{Found}
use Rattle.cconstructs.specs.Constructs.{IsConstructAt, IsFirstConstruct, NamedWord, FloatingWord, FloatingConstant, VariableArguments, StringLiteral, FunctionPointer, HasNoConstruct}
use Rattle.cconstructs.specs.Layout.{tokens_between, IsLayoutAt, ByAttribute, ByPragma, IsFirstLayout, HasNoLayout}
use Rattle.ctokens.proofs.ItemsInside.{length_passed}
use Rattle.ctokens.specs.Passed.{passed_tokens}
use Rattle.ctokens.specs.declared.token.Token.{Token}
use Rattle.ctokens.specs.declared.token.Tokens.{Tokens}
use Rattle.ctrees.specs.Levels.{item_levels}
use Rattle.cgrammar.specs.Phrases.{Context, context_at}
use Rattle.ctokens.specs.TokenList.{AreNumbered}
use Rattle.cgrammar.specs.Readings.{most_levels, row_between}
use Rattle.cgrammar.specs.Scope.{Names}
use Rattle.cgrammar.specs.Terminals.{Terminal, terminal_of}
use Rattle.cparser.specs.ItemSteps.{item_alone}
use Rattle.cparser.specs.ReadingSteps.{inner_at}
use Rattle.cparser.specs.State.{State}
use Rattle.cparser.specs.Writings.{ItemWriting, item_written_of, start_of}
use Rattle.cread.proofs.UnreadItems.{All-at, All-unpassed}
use Rattle.cread.proofs.ReadRows.{RowRead, row_read, no_row_read}
use Rattle.cread.specs.UnreadItems.{IsPlaceOf, IsPlaceIn, IsUnread, ShowsLayout}
use Rattle.cread.specs.ItemsRead.{IsItemRead}
use Rattle.cread.specs.Items.{SpellsItem}
use Rattle.cbuild.specs.ItemsMade.{item_made, nothing_made}
use Rattle.cread.specs.RowItems.{IsItemOf, IsItemOfNone, IsConstructOf, MakeItem}
use Rattle.cread.specs.declared.unread.Unread.TheVariants.{Construct, Syntax}

-- Items.
same_made : (one other : Item) (count number : ℕ) → item_made one count ≡ item_made other number → (one ≡ other) × (count ≡ number)
same_made one other count number is = (first, ap (λ (w : Workshop). w.count) workshops)
  where
    workshops : ◌≡◌ {A = Workshop} (record { count = count; pieces = piece.Item one ∷ [] }) (record { count = number; pieces = piece.Item other ∷ [] })
    workshops = cc is

    pieces : piece.Item one ∷ [] ≡ piece.Item other ∷ []
    pieces = ap (λ (w : Workshop). w.pieces) workshops

    first : one ≡ other
    first = cc pieces

item_is : (row : List Terminal) (scope : List Names) (expressions : ℕ) (written : ItemWriting) (u : State) (item : Item) (count : ℕ) → written ≡ item_written_of u
    → RowRead most_levels (context_at scope expressions) row u → built_all row written.events (nothing_made expressions) ≡ item_made item count
    → IsItemOf row (context_at scope expressions) item (context_at written.scope count)
item_is row scope expressions written u item count is read made =
    let whole : item_made read.item read.behind.expressions ≡ item_made item count =
    sym read.built ∙ (ap (λ (w : ItemWriting). built_all row w.events (nothing_made expressions)) (sym is) ∙ made) in
    let (same, counts) = same_made read.item item read.behind.expressions count whole in
    let scopes : read.behind.scope ≡ written.scope = sym read.scope ∙ ap (λ (w : ItemWriting). w.scope) (sym is) in
    let behind : read.behind ≡ context_at written.scope count = λ i. context_at (scopes i) (counts i) in
    record {
      spelled = subst (λ (after : Context). SpellsItem item (context_at scope expressions) row after) behind
          (subst (λ (item : Item). SpellsItem item (context_at scope expressions) row read.behind) same read.spelled);
      small = subst (λ (item : Item). item_levels item ≤ most_levels) same read.small;
    }

-- where a row is found to be an item, what its events make is that item
pub item_there : (row : List Terminal) (scope : List Names) (expressions : ℕ) (written : ItemWriting) (item : Item) (count : ℕ) (behind : List Names)
    → written ≡ item_written_of (item_alone (inner_at most_levels) (start_of row scope)) → written.found ≡ true → behind ≡ written.scope
    → built_all row written.events (nothing_made expressions) ≡ item_made item count
    → IsItemOf row (context_at scope expressions) item (context_at behind count)
item_there row scope expressions written item count behind is found scopes made =
    subst (λ (behind : List Names). IsItemOf row (context_at scope expressions) item (context_at behind count)) (sym scopes)
    (item_is row scope expressions written (item_alone (inner_at most_levels) (start_of row scope)) item count is
    (row_read most_levels expressions row scope (ap (λ (w : ItemWriting). w.found) (sym is) ∙ found)) made)

-- and they make an item
pub item_made_there : (row : List Terminal) (scope : List Names) (expressions : ℕ) (written : ItemWriting)
    → written ≡ item_written_of (item_alone (inner_at most_levels) (start_of row scope)) → written.found ≡ true → MakeItem row written.events expressions
item_made_there row scope expressions written is found =
    let u : State = item_alone (inner_at most_levels) (start_of row scope) in
    let read : RowRead most_levels (context_at scope expressions) row u = row_read most_levels expressions row scope (ap (λ (w : ItemWriting). w.found) (sym is) ∙ found) in
    record {
      item = read.item;
      count = read.behind.expressions;
      made = ap (λ (w : ItemWriting). built_all row w.events (nothing_made expressions)) is ∙ read.built;
    }

pub made_somehow : (row : List Terminal) (events : List Event) (expressions : ℕ) → MakeItem row events expressions
    → ((item : Item) (count : ℕ) → built_all row events (nothing_made expressions) ≡ item_made item count → ⊥) → ⊥
made_somehow row events expressions makes wrong = wrong makes.item makes.count makes.made

pub no_item_there : (row : List Terminal) (scope : List Names) (expressions : ℕ) (written : ItemWriting)
    → written ≡ item_written_of (item_alone (inner_at most_levels) (start_of row scope)) → written.found ≡ false → IsItemOfNone row (context_at scope expressions)
no_item_there row scope expressions written is none = no_row_read most_levels expressions row scope (ap (λ (w : ItemWriting). w.found) (sym is) ∙ none)

-- Constructs stand in the row.
construct_within : (row : List Terminal) (at number : ℕ) → IsConstructAt row at number → at < length row
construct_within row at _ (NamedWord token found word listed) = slice_get_within row at token found
construct_within row at _ (FloatingWord token found word floating) = slice_get_within row at token found
construct_within row at _ (FloatingConstant token found number none) = slice_get_within row at token found
construct_within row at _ (VariableArguments token found mark) = slice_get_within row at token found
construct_within row at _ (StringLiteral token found quoted free) = slice_get_within row at token found
construct_within row _ _ (FunctionPointer opening star first opens second stars headed pointed) = slice_get_within row _ star second

-- of an answer that is the first construct
pub construct_is : (row : List Terminal) (answer : Option Found) (found : Found) → ((at number : ℕ) → (answer ≡ Some (found_at number at)) ↔ IsFirstConstruct row at number)
    → answer ≡ Some found → IsFirstConstruct row found.at found.number
construct_is row answer found exact is = (exact found.at found.number).0 is

pub construct_there : (row : List Terminal) (answer : Option Found) (found : Found) → ((at number : ℕ) → (answer ≡ Some (found_at number at)) ↔ IsFirstConstruct row at number)
    → answer ≡ Some found → found.at < length row
construct_there row answer found exact is = construct_within row found.at found.number (construct_is row answer found exact is).is

pub construct_placed : (row : List Terminal) (answer : Option Found) (found : Found) (place : Place) → ((at number : ℕ) → (answer ≡ Some (found_at number at)) ↔ IsFirstConstruct row at number)
    → answer ≡ Some found → IsPlaceIn row found.at place → IsConstructOf row found.number place
construct_placed row answer found place exact is placed = record { at = found.at; is = construct_is row answer found exact is; placed = placed }

-- Changes of layout stand in the text.
token_within : (t : Tokens) (from to at : ℕ) (word : Terminal) → AreNumbered t.list → slice_get (row_between t from to) at ≡ Some word → word.place.at < length t.list
token_within t from to at word numbered found =
    let Inside : Terminal → Type 0 = λ (token : Terminal). token.place.at < length t.list in
    let InsideText : Token → Type 0 = λ (token : Token). token.place.at < length t.list in
    let tokens : All InsideText t.list = λ at other within. subst (λ (n : ℕ). n < length t.list) (sym (numbered at other within)) within in
    let all : All Inside (row_between t from to) = All-unpassed Inside (take (to - from) (drop from (passed_tokens t))) (take (to - from) (drop from (map (terminal_of t.text) t.list)))
    (All-take Inside (to - from) (drop from (map (terminal_of t.text) t.list)) (All-drop Inside from (map (terminal_of t.text) t.list) (All-map Inside (terminal_of t.text) t.list tokens))) in
    All-at Inside (row_between t from to) at word all found

layout_at_within : (t : Tokens) (from to number : ℕ) → AreNumbered t.list → IsLayoutAt t from to number → number < length t.list
layout_at_within t from to _ numbered (ByAttribute at names) =
    let within = slice_get_within (tokens_between t from to) at names.name names.there in
    let some = length-take (to - from) (drop from (map (terminal_of t.text) t.list)) in
    let left = length-drop from (map (terminal_of t.text) t.list) in
    let all = length-map t.list (terminal_of t.text) in
    omega (arith, within, some, left, all)
layout_at_within t from to _ numbered (ByPragma at line word members found full first behind) = token_within t from to at word numbered found

-- of an answer that is the first change of layout
pub layout_within : (t : Tokens) (from to : ℕ) (answer : Option ℕ) (number : ℕ) → AreNumbered t.list → ((number : ℕ) → (answer ≡ Some number) ↔ IsFirstLayout t from to number)
    → answer ≡ Some number → number < length t.list
layout_within t from to answer number numbered exact is = let first = (exact number).0 is in layout_at_within t from to number numbered first.is

pub layout_placed : (t : Tokens) (from to : ℕ) (answer : Option ℕ) (number : ℕ) (place : Place) → ((number : ℕ) → (answer ≡ Some number) ↔ IsFirstLayout t from to number)
    → answer ≡ Some number → IsPlaceOf t number place → ShowsLayout t from to 7 place
layout_placed t from to answer number place exact is placed = record { at = number; is = (exact number).0 is; placed = placed; is_layout = refl }

-- What is not read.
pub unread_construct : (t : Tokens) (from to : ℕ) (row : List Terminal) (before : Context) (number : ℕ) (place : Place) → row ≡ row_between t from to → HasNoLayout t from to
    → IsItemOfNone row before → IsConstructOf row number place → IsUnread t from to before (Construct number place)
unread_construct t from to row before number place same plain none construct =
    let found : IsConstructOf (row_between t from to) number place = subst (λ (row : List Terminal). IsConstructOf row number place) same construct in
    inr (record { plain = plain; none = subst (λ (row : List Terminal). IsItemOfNone row before) same none; at = found.at; is = found.is; placed = found.placed })

pub unread_syntax : (t : Tokens) (from to : ℕ) (row : List Terminal) (before : Context) (place : Place) → row ≡ row_between t from to → HasNoLayout t from to
    → IsItemOfNone row before → HasNoConstruct row → IsPlaceOf t from place → IsUnread t from to before (Syntax place)
unread_syntax t from to row before place same plain none free placed =
    record {
      plain = plain;
      none = subst (λ (row : List Terminal). IsItemOfNone row before) same none;
      free = subst (λ (row : List Terminal). HasNoConstruct row) same free;
      placed = placed;
    }

pub read_item_is : (t : Tokens) (from to : ℕ) (row : List Terminal) (before after : Context) (item : Item) → row ≡ row_between t from to → HasNoLayout t from to
    → IsItemOf row before item after → IsItemRead t from to before item after
read_item_is t from to row before after item same plain read =
    let found : IsItemOf (row_between t from to) before item after = subst (λ (row : List Terminal). IsItemOf row before item after) same read in
    record { plain = plain; spelled = found.spelled; small = found.small }

-- Which tokens are passed over is said of each.
pub passed_length : (t : Tokens) (passed : List Bool) → passed ≡ passed_tokens t → length passed ≡ length t.list
passed_length t passed is = ap (λ (all : List Bool). length all) is ∙ length_passed t
