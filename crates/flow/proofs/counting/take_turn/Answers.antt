-- Each step of the search is one of those that `Steps` tells.
use Rattle.std.proofs.Common.{◌≡◌, ◌<◌, ◌-◌, suc, Some, slice_get, refl, arith, rules, length, ap, sym, ◌∙◌, ℕ, slice_index, slice_index_or, slice_set}
use Rattle.flow.specs.declared.flow_graph.FlowEdge.{FlowEdge}
use Rattle.std.proofs.lemmas.Option.{slice_get_read}
use Rattle.flow.specs.declared.counting.Mark.TheVariants.{New, Open, Done}
use Rattle.flow.proofs.Steps.{passed, entered, cycled, read_there, before}
use Rattle.flow.proofs.counting.take_turn.Goals as goal

pub returns-then-search-eq0 : goal.returns-then-search-eq0
returns-then-search-eq0 c = c.finish.ensures c.args.edges.now

pub returns-in-Done : goal.returns-in-Done
returns-in-Done c =
    let cursor : c.args.search.now.visit.cursor ≡ suc (c.args.search.now.visit.cursor - 1) = before c.args.search.now.visit.cursor c.if-search-eq0.false in
    let below : c.args.search.now.visit.cursor - 1 < length c.args.edges.now = let e = cursor in let f = c.requires.cursor in omega arith in
    let edge : slice_get c.args.edges.now (c.args.search.now.visit.cursor - 1) ≡ Some c.index-edges-at.result
    = slice_get_read c.args.edges.now _ (c.args.search.now.visit.cursor - 1) c.index-edges-at.result refl below c.index-edges-at.is in
    let to : c.index-edges-at.result.to < length c.args.search.now.marks.items =
    search (rules, c.requires.ends (c.args.search.now.visit.cursor - 1) c.index-edges-at.result below) in
    let mark : slice_get c.args.search.now.marks.items c.index-edges-at.result.to ≡ Some (Done c.in-Done.number)
    = read_there c.args.search.now.marks.items c.index-edges-at.result.to _ c.index.result.now (Done c.in-Done.number) to (ap (λ (e : FlowEdge). e.to) c.index-edges-at.is) c.index.ensures c.in-Done.is in
    rw (c.pass.ensures.marks, c.pass.ensures.earlier)
    (passed c.args.edges.now _ _ _ c.args.search.now.marks.items c.args.search.now.earlier.items c.args.search.now.visit c.pass.new.search.visit
    (c.args.search.now.visit.cursor - 1) c.in-Done.number c.index-edges-at.result c.requires.links cursor edge mark
    c.pass.ensures.point c.pass.ensures.cursor c.pass.ensures.number)

pub returns-in-Open : goal.returns-in-Open
returns-in-Open c =
    let cursor : c.args.search.now.visit.cursor ≡ suc (c.args.search.now.visit.cursor - 1) = before c.args.search.now.visit.cursor c.if-search-eq0.false in
    let below : c.args.search.now.visit.cursor - 1 < length c.args.edges.now = let e = cursor in let f = c.requires.cursor in omega arith in
    let edge : slice_get c.args.edges.now (c.args.search.now.visit.cursor - 1) ≡ Some c.index-edges-at.result
    = slice_get_read c.args.edges.now _ (c.args.search.now.visit.cursor - 1) c.index-edges-at.result refl below c.index-edges-at.is in
    let to : c.index-edges-at.result.to < length c.args.search.now.marks.items =
    search (rules, c.requires.ends (c.args.search.now.visit.cursor - 1) c.index-edges-at.result below) in
    cycled c.args.edges.now _ _ _ (c.args.search.now.visit.cursor - 1) c.index-edges-at.result cursor edge
    (read_there c.args.search.now.marks.items c.index-edges-at.result.to _ c.index.result.now Open to (ap (λ (e : FlowEdge). e.to) c.index-edges-at.is) c.index.ensures c.in-Open.is)

pub returns-in_ok-enter-in-New : goal.returns-in_ok-enter-in-New
returns-in_ok-enter-in-New c =
    let cursor : c.args.search.now.visit.cursor ≡ suc (c.args.search.now.visit.cursor - 1) = before c.args.search.now.visit.cursor c.if-search-eq0.false in
    let below : c.args.search.now.visit.cursor - 1 < length c.args.edges.now = let e = cursor in let f = c.requires.cursor in omega arith in
    let edge : slice_get c.args.edges.now (c.args.search.now.visit.cursor - 1) ≡ Some c.index-edges-at.result
    = slice_get_read c.args.edges.now _ (c.args.search.now.visit.cursor - 1) c.index-edges-at.result refl below c.index-edges-at.is in
    let to : c.index-edges-at.result.to < length c.args.search.now.marks.items =
    search (rules, c.requires.ends (c.args.search.now.visit.cursor - 1) c.index-edges-at.result below) in
    let to_is : c.index-edges-at.result.to ≡ (slice_index_or c.args.edges.now (c.args.search.now.visit.cursor - 1) c.index-edges-at.result).to
    = ap (λ (e : FlowEdge). e.to) c.index-edges-at.is in
    let marks : c.enter.new.search.marks.items ≡ slice_set c.args.search.now.marks.items c.index-edges-at.result.to Open
    = c.in_ok-enter-in-New.ensures.marks ∙ ap (λ (k : ℕ). slice_set c.args.search.now.marks.items k Open) (sym to_is) in
    rw (marks, c.in_ok-enter-in-New.ensures.earlier)
    (entered c.args.edges.now _ _ _ c.args.search.now.marks.items c.args.search.now.earlier.items c.args.search.now.visit c.enter.new.search.visit
    (c.args.search.now.visit.cursor - 1) c.index-edges-at.result c.requires.links to cursor edge
    (read_there c.args.search.now.marks.items c.index-edges-at.result.to _ c.index.result.now New to to_is c.index.ensures c.in-New.is)
    (c.in_ok-enter-in-New.ensures.point ∙ sym to_is)
    (c.in_ok-enter-in-New.ensures.cursor ∙ ap (λ (k : ℕ). slice_index c.args.links.now.first.items k) (sym to_is))
    c.in_ok-enter-in-New.ensures.number)
