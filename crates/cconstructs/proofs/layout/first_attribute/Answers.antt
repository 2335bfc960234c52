use Rattle.std.proofs.Common.{◌+◌, sym, ap, ◌∙◌, drop, map, arith}
use Rattle.cgrammar.specs.Terminals.{terminal_of}
use Rattle.cconstructs.specs.declared.part.Part.{Part}
use Rattle.cconstructs.specs.LayoutFinding.{attribute_from}
use Rattle.cconstructs.proofs.Attributes.{attribute_found, attribute_later, few_behind}
use Rattle.cconstructs.proofs.layout.first_attribute.Goals as goal

pub returns-then-shows_layout : goal.returns-then-shows_layout
returns-then-shows_layout c =
    sym (attribute_found c.args.text.now c.args.list.now c.loop-token.token-index c.loop-token.number _ c.terminal_of-terminal.result c.loop-token.part
    c.loop-token-test.true c.terminal_of-terminal.ensures (sym c.if-shows_layout.ensures))
    ∙ c.loop-token.invariant.same

pub loop-token-preserved : goal.loop-token-preserved
loop-token-preserved c =
    let later = attribute_later c.args.text.now c.args.list.now c.loop-token.token-index c.loop-token.number _ c.terminal_of-terminal.result c.loop-token.part
    c.loop-token-test.true c.terminal_of-terminal.ensures (sym c.if-shows_layout.ensures) in
    record {
      same = ap (λ (p : Part). attribute_from (c.loop-token.number + 1) p (map (terminal_of c.args.text.now) (drop (c.loop-token.token-index + 1) c.args.list.now))) c.part_behind-part.ensures
          ∙ (sym later ∙ c.loop-token.invariant.same);
      counts = omega arith;
      few = omega (arith, few_behind c.loop-token.part c.terminal_of-terminal.result, ap (λ (p : Part). p.unclosed) c.part_behind-part.ensures, c.loop-token.invariant.few);
    }
