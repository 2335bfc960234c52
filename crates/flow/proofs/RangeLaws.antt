-- What is reached from a point of a range that no edge leaves lies in that range.
use Rattle.std.proofs.Common.{◌≡◌, ℕ, List, Some, sym, subst}
use Rattle.std.specs.Prelude.{All, slice_get}
use Rattle.std.proofs.lemmas.List.Elements.{All-contains}
use Rattle.std.proofs.lemmas.Option.{slice_get_within, get_or_from_slice_get}
use Rattle.flow.specs.declared.flow_graph.Flow.{Flow}
use Rattle.flow.specs.declared.flow_graph.FlowFunction.{FlowFunction}
use Rattle.flow.specs.Valid.{Reached, Here, Along}
use Rattle.flow.specs.Ranges.{Range, LiesIn, LieApart, DoRangesSeparate}

stays : (flow : Flow) (range : Range) (from point : ℕ) → All (λ edge. LiesIn range edge.from → LiesIn range edge.to) flow.edges → LiesIn range from →
    Reached flow from point → LiesIn range point
stays flow range from point closed lies Here = lies
stays flow range from point closed lies (Along middle edge reached contains begins) =
    let before : LiesIn range middle = stays flow range from middle closed lies reached in
    let leads : LiesIn range edge.from → LiesIn range edge.to = All-contains (λ edge. LiesIn range edge.from → LiesIn range edge.to) flow.edges edge closed contains in
    leads (subst (LiesIn range) (sym begins) before)

closed_at : (flow : Flow) (ranges : List Range) (number : ℕ) (range : Range) → LieApart flow ranges → slice_get ranges number ≡ Some range →
    All (λ edge. LiesIn range edge.from → LiesIn range edge.to) flow.edges
closed_at flow ranges number range apart stands =
    let P : Range → Type 0 = λ range. All (λ edge. LiesIn range edge.from → LiesIn range edge.to) flow.edges in
    subst P (get_or_from_slice_get ranges number range range stands) (apart.closed number range (slice_get_within ranges number range stands))

pub ranges_separate : DoRangesSeparate
ranges_separate flow ranges apart = record { points = points; exits = exits }
  where
    points : (one other point : ℕ) (function second : FlowFunction) → slice_get flow.functions one ≡ Some function → slice_get flow.functions other ≡ Some second →
        Reached flow function.entry point → Reached flow second.entry point → one ≡ other
    points one other point function second stands stands' reached reached' =
        let has = apart.each one function stands in
        let has' = apart.each other second stands' in
        apart.apart one other point has.range has'.range has.stands has'.stands
        (stays flow has.range function.entry point (closed_at flow ranges one has.range apart has.stands) has.entry reached)
        (stays flow has'.range second.entry point (closed_at flow ranges other has'.range apart has'.stands) has'.entry reached')

    exits : (one other : ℕ) (function second : FlowFunction) → slice_get flow.functions one ≡ Some function → slice_get flow.functions other ≡ Some second →
        Reached flow function.entry second.exit → one ≡ other
    exits one other function second stands stands' reached =
        let has = apart.each one function stands in
        let has' = apart.each other second stands' in
        apart.apart one other second.exit has.range has'.range has.stands has'.stands
        (stays flow has.range function.entry second.exit (closed_at flow ranges one has.range apart has.stands) has.entry reached) has'.exit
