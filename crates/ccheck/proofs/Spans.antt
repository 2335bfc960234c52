-- Items of some numbers.
use Rattle.std.proofs.Common.{◌≡◌, ℕ, ◌+◌, ◌<◌, Option, None, Some, Ok, List, [], ◌∷◌, ◌++◌, length, drop, slice_get, get_or, drop-cons, add-one, append_assoc, refl, ap, sym, ◌∙◌, subst}
use Rattle.std.specs.List.{All}
use Rattle.std.proofs.lemmas.List.Elements.{All-nil, All-cons}
use Rattle.std.proofs.lemmas.Option.{get_or_from_slice_get, slice_get_within}
use Rattle.ctokens.specs.declared.item_span.ItemSpan.{ItemSpan}
use Rattle.ctokens.specs.declared.token.Tokens.{Tokens}
use Rattle.ctokens.specs.Items.{IsItems, IsSpanAmong}
use Rattle.ctokens.proofs.ItemsInside.{items_among}
use Rattle.ccheck.specs.Needed.{spans_of, with_span}

with_found : (P : ItemSpan → Type 0) (items : List ItemSpan) (number : ℕ) (found : Option ItemSpan) (rest : List ItemSpan) → slice_get items number ≡ found
    → All P items → All P rest → All P (with_span found rest)
with_found P items number None rest is all others = others
with_found P items number (Some span) rest is all others =
    All-cons P span rest (subst P (get_or_from_slice_get items number span span is) (all number span (slice_get_within items number span is))) others

chosen_some : (P : ItemSpan → Type 0) (items : List ItemSpan) (numbers : List ℕ) → All P items → All P (spans_of items numbers)
chosen_some P items [] all = All-nil P
chosen_some P items (number ∷ numbers) all =
    with_found P items number (slice_get items number) (spans_of items numbers) refl all (chosen_some P items numbers all)

-- the items with these numbers have tokens
pub spans_some : (t : Tokens) (items : List ItemSpan) (numbers : List ℕ) → IsItems t (Ok items) → All (IsSpanAmong (length t.list)) (spans_of items numbers)
spans_some t items numbers is = chosen_some (IsSpanAmong (length t.list)) items numbers (items_among t items is)

-- behind a number that is gone over stand its item and the items of the other numbers
with_span_front : (found : Option ItemSpan) (rest : List ItemSpan) → with_span found rest ≡ with_span found [] ++ rest
with_span_front None rest = refl
with_span_front (Some span) rest = refl

pub spans_more : (items spans : List ItemSpan) (numbers : List ℕ) (at d : ℕ) → at < length numbers
    → (spans ++ with_span (slice_get items (get_or numbers at d)) []) ++ spans_of items (drop (at + 1) numbers) ≡ spans ++ spans_of items (drop at numbers)
spans_more items spans numbers at d within =
    append_assoc spans (with_span (slice_get items (get_or numbers at d)) []) (spans_of items (drop (at + 1) numbers))
    ∙ ap (λ (more : List ItemSpan). spans ++ more)
    (sym (with_span_front (slice_get items (get_or numbers at d)) (spans_of items (drop (at + 1) numbers)))
    ∙ ap (spans_of items) (sym (next numbers at within)))
  where
    next : (xs : List ℕ) (i : ℕ) → i < length xs → drop i xs ≡ get_or xs i d ∷ drop (i + 1) xs
    next xs i below = rw add-one (drop-cons xs i d below)
