-- The last items of the vector are turned round.
use Rattle.std.proofs.Common.{◌≡◌, ◌∙◌, ◌-◌, ◌++◌, List, length, take, drop, reverse, refl, sym, ap}
use Rattle.std.proofs.lemmas.List.{with_items_is}
use Rattle.c_steps.proofs.Stacks.{turned_part, turned_length}
use Rattle.c_steps.proofs.stack.Stack.turn.Goals as goal

pub returns : goal.returns
returns g c =
    let items : List g.row.T.Denot = c.self.inside.items.items in
    let slice : List g.row.T.Denot = c.as_mut_slice.result.now in
    let from = c.saturating_sub-from.result in
    let written : List g.row.T.Denot = take from slice ++ (c.reverse.new.self ++ drop (length slice - from) (drop from slice)) in
    let long : length slice ≡ c.self.inside.items.len = c.as_mut_slice.ensures.len in
    let turned : reverse written ≡ reverse (take c.args.count c.args.self.now) ++ drop c.args.count c.args.self.now =
    turned_part items slice c.reverse.new.self _ c.args.self.now from c.len.result c.args.count
    c.as_mut_slice.ensures.value (c.len.ensures ∙ sym long ∙ ap length c.as_mut_slice.ensures.value) c.saturating_sub-from.ensures
    c.reverse.ensures.after refl (sym c.self.view_is) in
    ap reverse (with_items_is c.self.inside.items written
    (turned_length items written c.args.self.now c.args.count turned (sym c.self.view_is) ∙ ap length (sym c.as_mut_slice.ensures.value) ∙ long))
    ∙ turned
