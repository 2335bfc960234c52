-- The items of some numbers.
use Rattle.std.specs.Prelude.{ℕ, List, [], ◌∷◌, Option, None, Some, slice_get}
use Rattle.ctokens.specs.declared.item_span.ItemSpan.{ItemSpan}

-- the span, if there is one, before the others
abbrev pub with_span : Option ItemSpan → List ItemSpan → List ItemSpan
with_span None spans = spans
with_span (Some span) spans = span ∷ spans

-- the items with these numbers, in the order of the numbers; past the last item there is none
abbrev pub spans_of : List ItemSpan → List ℕ → List ItemSpan
spans_of items [] = []
spans_of items (number ∷ numbers) = with_span (slice_get items number) (spans_of items numbers)
