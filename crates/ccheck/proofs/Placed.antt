-- Each refusal stands at a token of its item, and has a number.
use Rattle.std.proofs.Common.{◌≡◌, ℕ, zero, suc, ◌+◌, ◌-◌, ◌<◌, ◌≤◌, nat_le, Bool, true, Option, Some, Ok, List, [], ◌∷◌, ◌++◌, length, map, take, drop, slice_get, slice_index_or, option_map, unwrap_or, inl, inr, refl, sym, ap, ◌∙◌, subst, arith}
use Rattle.std.specs.List.{All}
use Rattle.std.specs.Prelude.{Contains}
use Rattle.std.proofs.lemmas.Bool.Decides.{nat_tests}
use Rattle.std.proofs.lemmas.List.{length-take}
use Rattle.std.proofs.lemmas.List.Elements.{All-cons, All-drop, All-head, All-map, All-nil, All-tail, All-take}
use Rattle.std.proofs.lemmas.Option.{slice_get-get_or, slice_get_cases, slice_get_within}
use Rattle.cbase.specs.declared.abi.Abi.{Abi}
use Rattle.cbase.specs.declared.place.Place.{Place}
use Rattle.cbase.specs.declared.tree.item.Item.{Item}
use Rattle.cconstructs.specs.Layout.{IsLayoutAt, ByAttribute, ByPragma, tokens_between}
use Rattle.cgrammar.specs.Phrases.{Context as Standing}
use Rattle.cgrammar.specs.Readings.{row_between}
use Rattle.cgrammar.specs.Terminals.{Terminal, terminal_of, no_place}
use Rattle.cgrammar.proofs.Between.{Counts, counts_behind, numbered_counts}
use Rattle.cread.specs.Items.{SpellsItem, EmptyItem, DeclarationItem, FunctionDefinition}
use Rattle.cread.specs.UnreadItems.{IsPlaceIn, IsPlaceOf, IsUnread}
use Rattle.cread.specs.declared.unread.Unread.{Unread}
use Rattle.cread.specs.declared.unread.Unread.TheVariants as unread
use Rattle.cread.proofs.UnreadItems.{All-at, All-unpassed, unread_named}
use Rattle.ctokens.specs.declared.item_span.ItemSpan.{ItemSpan}
use Rattle.ctokens.specs.declared.token.Token.{Token}
use Rattle.ctokens.specs.declared.token.Tokens.{Tokens}
use Rattle.ctokens.specs.Items.{IsItems, IsSpanAmong}
use Rattle.ctokens.specs.Passed.{passed_tokens}
use Rattle.ctokens.specs.TokenList.{AreNumbered, HasNamedFiles}
use Rattle.typing.specs.declared.ctypes.found.Broken.{Broken}
use Rattle.typing.specs.declared.ctypes.found.Broken.TheVariants as broken
use Rattle.typing.specs.declared.fault.Fault.{Fault}
use Rattle.typing.specs.FileScope.{FileScope}
use Rattle.typing.specs.Language.{Language}
use Rattle.ccheck.specs.declared.checking.Checked.{Checked}
use Rattle.ccheck.specs.declared.checking.Checked.TheVariants.{Typed, Refused}
use Rattle.ccheck.specs.declared.refusal.Refusal.{Refusal}
use Rattle.ccheck.specs.Checked.{IsAnswer}
use Rattle.ccheck.specs.Needed.{spans_of}
use Rattle.ccheck.specs.Placed.{IsTokenOf, IsPlacedIn, IsPlaced, AnswerIsPlaced}
use Rattle.ccheck.specs.Refusals.{of_broken, of_unread, place_at}
use Rattle.ccheck.specs.Walk.{IsFirstRefused, NotRead, Broken as BrokenItem, Later}
use Rattle.ccheck.proofs.Numbered.{HasNumber}
use Rattle.ccheck.proofs.Refusing.{FaultHolds}
use Rattle.ccheck.proofs.RefusedItems.{ItemHolds, refused_in_file}
use Rattle.ccheck.proofs.PlacesRead.{RowHolds, NoToken, OneMore, front, back, rest, places_held}
use Rattle.ccheck.proofs.Spans.{spans_some}

-- an item that a row spells has the places of its tokens
item_held : (P : Place → Type 0) {item : Item} {before after : Standing} {row : List Terminal} → SpellsItem item before row after → RowHolds P row → ItemHolds P item
item_held P (EmptyItem semicolon s) all = tt
item_held P (DeclarationItem it) all = places_held P it all
item_held P (FunctionDefinition {xs} {ys} {zs} opening closing words head o body c) all =
    let behind = back P xs (ys ++ (opening ∷ (zs ++ (closing ∷ [])))) all in (
      places_held P words (front P xs (ys ++ (opening ∷ (zs ++ (closing ∷ [])))) all),
      places_held P head (front P ys (opening ∷ (zs ++ (closing ∷ []))) behind),
      places_held P body (front P zs (closing ∷ []) (rest P (back P ys (opening ∷ (zs ++ (closing ∷ []))) behind))),
    )

row_held : (P : Place → Type 0) (row : List Terminal) → All (λ (token : Terminal). P token.place) row → RowHolds P row
row_held P [] all = NoToken
row_held P (token ∷ row) all =
    OneMore (All-head (λ (token : Terminal). P token.place) token row all) (row_held P row (All-tail (λ (token : Terminal). P token.place) token row all))

-- tokens that are numbered one by one have the numbers of as many
numbers_inside : (low high count base : ℕ) (tokens : List Terminal) → low ≤ base → base + count ≤ high → Counts base tokens
    → All (λ (token : Terminal). (low ≤ token.place.at) × (token.place.at < high)) (take count tokens)
numbers_inside low high zero base tokens less more counts = All-nil _
numbers_inside low high (suc count) base [] less more counts = All-nil _
numbers_inside low high (suc count) base (token ∷ tokens) less more counts =
    All-cons (λ (token : Terminal). (low ≤ token.place.at) × (token.place.at < high)) token (take count tokens) (omega (arith, less, counts.0), omega (arith, more, counts.0))
    (numbers_inside low high count (base + 1) tokens (omega (arith, less)) (omega (arith, more)) counts.1)

All-both : {A : Type 0} (P Q : A → Type 0) (xs : List A) → All P xs → All Q xs → All (λ (x : A). P x × Q x) xs
All-both P Q xs all also = λ at other within. (all at other within, also at other within)

module _ (t : Tokens) (numbered : AreNumbered t.list) where
  -- each token has its place
  token_placed : (number : ℕ) (other : Token) → number < length t.list → IsPlaceOf t (slice_index_or t.list number other).place.at (slice_index_or t.list number other).place
  token_placed number other within =
      record {
        token = slice_index_or t.list number other;
        is_token = subst (λ (at : ℕ). slice_get t.list at ≡ Some (slice_index_or t.list number other)) (sym (numbered number other within)) (slice_get-get_or t.list number other within);
        is_place = refl;
      }

  number_of_place : (number : ℕ) (place : Place) → IsPlaceOf t number place → place.at ≡ number
  number_of_place number place is =
      let within : number < length t.list = slice_get_within t.list number is.token is.is_token in
      let same : ◌≡◌ {A = Option Token} (Some (slice_index_or t.list number is.token)) (Some is.token) = sym (slice_get-get_or t.list number is.token within) ∙ is.is_token in
      let token : slice_index_or t.list number is.token ≡ is.token = cc same in
      ap (λ (p : Place). p.at) (sym is.is_place) ∙ (ap (λ (token : Token). token.place.at) (sym token) ∙ numbered number is.token within)

  -- the place of a token is what is looked up
  placed_at : (number : ℕ) (place : Place) → IsPlaceOf t number place → place_at t number ≡ place
  placed_at number place is = ap (λ (found : Option Token). unwrap_or (option_map (λ (token : Token). token.place) found) no_place) is.is_token ∙ is.is_place

  module _ (span : ItemSpan) (among : IsSpanAmong (length t.list) span) where
    token_of : (number : ℕ) (place : Place) → span.first ≤ number → number < span.after → IsPlaceOf t number place → IsTokenOf t span place
    token_of number place less more is =
        let same : number ≡ place.at = sym (number_of_place number place is) in
        record {
          behind = subst (λ (at : ℕ). span.first ≤ at) same less;
          before = subst (λ (at : ℕ). at < span.after) same more;
          placed = subst (λ (at : ℕ). IsPlaceOf t at place) same is;
        }

    -- its row
    Counted : Terminal → Type 0
    Counted token = (span.first ≤ token.place.at) × (token.place.at < span.after)

    HasPlace : Terminal → Type 0
    HasPlace token = IsPlaceOf t token.place.at token.place

    counted : All Counted (take (span.after - span.first) (drop span.first (map (terminal_of t.text) t.list)))
    unfolding Counted
    counted =
        numbers_inside span.first span.after (span.after - span.first) (0 + span.first) (drop span.first (map (terminal_of t.text) t.list)) (omega arith) (omega (arith, among.0))
        (counts_behind span.first 0 (map (terminal_of t.text) t.list) (numbered_counts t.text 0 t.list (λ number other within. numbered number other within ∙ omega arith)))

    with_place : All HasPlace (take (span.after - span.first) (drop span.first (map (terminal_of t.text) t.list)))
    unfolding HasPlace
    with_place =
        All-take HasPlace (span.after - span.first) (drop span.first (map (terminal_of t.text) t.list))
        (All-drop HasPlace span.first (map (terminal_of t.text) t.list)
        (All-map HasPlace (terminal_of t.text) t.list (λ number other within. token_placed number other within)))

    row_tokens : All (λ (token : Terminal). Counted token × HasPlace token) (row_between t span.first span.after)
    row_tokens =
        All-unpassed (λ (token : Terminal). Counted token × HasPlace token) (take (span.after - span.first) (drop span.first (passed_tokens t))) _
        (All-both Counted HasPlace (take (span.after - span.first) (drop span.first (map (terminal_of t.text) t.list))) counted with_place)

    both_of : (token : Terminal) → Counted token × HasPlace token → IsTokenOf t span token.place
    unfolding Counted HasPlace
    both_of token is = record { behind = is.0.0; before = is.0.1; placed = is.1 }

    row_placed : All (λ (token : Terminal). IsTokenOf t span token.place) (row_between t span.first span.after)
    row_placed = λ at other within. both_of _ (row_tokens at other within)

    in_row : (at : ℕ) (place : Place) → IsPlaceIn (row_between t span.first span.after) at place → IsTokenOf t span place
    in_row at place is =
        subst (IsTokenOf t span) is.is_place (All-at (λ (token : Terminal). IsTokenOf t span token.place) (row_between t span.first span.after) at is.token row_placed is.is_token)

    -- an item that is not read
    layout_placed : (number : ℕ) (place : Place) → IsLayoutAt t span.first span.after number → IsPlaceOf t number place → IsTokenOf t span place
    layout_placed _ place (ByAttribute at names) is =
        let within = slice_get_within (tokens_between t span.first span.after) at names.name names.there in
        let some = length-take (span.after - span.first) (drop span.first (map (terminal_of t.text) t.list)) in
        token_of (span.first + at) place (omega arith) (omega (arith, within, some)) is
    layout_placed _ place (ByPragma at line word members found full first behind) is =
        let inside = All-at (λ (token : Terminal). IsTokenOf t span token.place) (row_between t span.first span.after) at word row_placed found in
        token_of word.place.at place inside.behind inside.before is

    unread_placed : (before : Standing) (reason : Unread) → HasNamedFiles t → IsUnread t span.first span.after before reason → IsPlacedIn t span (of_unread reason)
    unread_placed before (unread.Construct number place) named (inl layout) =
        ((unread_named t span.first span.after before (unread.Construct number place) named (inl layout)).0, layout_placed layout.at place layout.is.is layout.placed)
    unread_placed before (unread.Construct number place) named (inr shows) =
        ((unread_named t span.first span.after before (unread.Construct number place) named (inr shows)).0, in_row shows.at place shows.placed)
    unread_placed before (unread.Syntax place) named shows = (before, shows, token_of span.first place (omega arith) among.0 shows.placed)

    -- one that is read
    broken_placed : (place : Place) (b : Broken) → IsTokenOf t span place → HasNumber b → IsPlacedIn t span (of_broken place b)
    broken_placed place (broken.Rule number) at is = (is, at)
    broken_placed place (broken.Construct number) at is =
        let low : nat_le 1 number ≡ true = grind (arith, nat_tests, is.0) in
        let high : nat_le number 21 ≡ true = grind (arith, nat_tests, is.1) in
        rw (low, high) (is, at)

    first_placed : IsTokenOf t span (place_at t span.first)
    first_placed =
        elim (slice_get_cases t.list span.first).1 [
          | inl (token, below, same, there) ↦
              let is : IsPlaceOf t span.first token.place = record { token = token; is_token = same; is_place = refl } in
              subst (IsTokenOf t span) (sym (placed_at span.first token.place is)) (token_of span.first token.place (omega arith) among.0 is)
          | inr (past, none) ↦ absurd (omega (arith, past, among.0, among.1))
        ]

    fault_placed : (fault : Fault) → FaultHolds (IsTokenOf t span) fault → IsPlacedIn t span (of_broken (place_at t fault.place.at) fault.broken)
    fault_placed fault is =
        broken_placed (place_at t fault.place.at) fault.broken (subst (IsTokenOf t span) (sym (placed_at fault.place.at fault.place is.0.placed)) is.0) is.1

  -- the first item that is refused
  contains_first : (span : ItemSpan) (spans : List ItemSpan) → Contains (span ∷ spans) span
  contains_first span spans = (0, omega arith, refl)

  contains_later : (span other : ItemSpan) (spans : List ItemSpan) → Contains spans span → Contains (other ∷ spans) span
  contains_later span other spans is = (suc is.0, omega (arith, is.1), is.2)

  in_later : (other : ItemSpan) (spans : List ItemSpan) (r : Refusal) → IsPlaced t spans r → IsPlaced t (other ∷ spans) r
  in_later other spans r is = (is.0, contains_later is.0 other spans is.1, is.2)

  pub refusal_placed : {l : Language} {file : FileScope l} {spans : List ItemSpan} {before : Standing} {env behind : l.Environment} {refusal : Refusal}
      → HasNamedFiles t → All (IsSpanAmong (length t.list)) spans → IsFirstRefused t l file spans before env refusal behind → IsPlaced t spans refusal
  refusal_placed {before} named all (NotRead {span} {spans} reason stops is) =
      subst (IsPlaced t (span ∷ spans)) is
      (span, contains_first span spans, unread_placed span (All-head (IsSpanAmong (length t.list)) span spans all) before reason named stops)
  refusal_placed named all (BrokenItem {span} {spans} {item} {fault} read found is) =
      let among = All-head (IsSpanAmong (length t.list)) span spans all in
      let inside : ItemHolds (IsTokenOf t span) item = item_held (IsTokenOf t span) read.spelled (row_held (IsTokenOf t span) _ (row_placed span among)) in
      subst (IsPlaced t (span ∷ spans)) is
      (span, contains_first span spans, fault_placed span among fault (refused_in_file (IsTokenOf t span) found (first_placed span among, inside)))
  refusal_placed named all (Later {span} {spans} {refusal} read found more) =
      in_later span spans refusal (refusal_placed named (All-tail (IsSpanAmong (length t.list)) span spans all) more)

pub answer_placed : (t : Tokens) (items : List ItemSpan) (numbers : List ℕ) (abi : Abi) (strict : Bool) (answer : Checked) → AreNumbered t.list → HasNamedFiles t
    → IsItems t (Ok items) → IsAnswer t items numbers abi strict answer → AnswerIsPlaced t (spans_of items numbers) answer
answer_placed t items numbers abi strict (Typed p) numbered named is answered = tt
answer_placed t items numbers abi strict (Refused refusal) numbered named is (behind, first) = refusal_placed t numbered named (spans_some t items numbers is) first
