use Rattle.std.proofs.Common.{◌∙◌, ◌-◌, ap, arith, reverse}
use Rattle.std.specs.Prelude.{slice_set}
use Rattle.typing.specs.environment.Names.{with_value}
use Rattle.typing.specs.environment.Kept.{scopes_of, around, kept_here}
use Rattle.typing.proofs.environment.KeptRight.{visible_equal, visible_again, declared_at, put_last, same_level, scopes-kept}
use Rattle.typing.proofs.environment.keeping.declare_in.Goals as goal

pub returns-in_err-put-2-clause-kept : goal.returns-in_err-put-2-clause-kept
returns-in_err-put-2-clause-kept g c =
    let levels = c.args.levels.now.items in
    visible_equal (with_value c.args.name.now c.shown-before.result c.args.visible.now) c.put.new.self (reverse levels) (reverse (slice_set levels (c.len-last.result - 1) c.put-2.new.self))
    c.in_ok-put.ensures.ok
    (same_level levels (c.len-last.result - 1) c.index_mut.result.now c.put-2.new.self c.index_mut.ensures.value c.in_err-put-2.ensures.err)
    (visible_again c.args.name.now c.shown-before.result c.args.visible.now (reverse levels) c.requires c.shown-before.ensures)

pub returns-clause-kept : goal.returns-clause-kept
returns-clause-kept g c =
    let levels = c.args.levels.now.items in
    declared_at c.args.name.now (record { meaning = c.args.meaning; hidden = c.around-hidden.result }) c.shown-before.result c.args.visible.now c.put.new.self c.change.new.self
    levels (slice_set levels (c.len-last.result - 1) c.put-2.new.self) c.requires c.shown-before.ensures
    (c.around-hidden.ensures ∙ ap (λ kept. around kept c.shown-before.result) (c.kept_here.ensures ∙ ap (λ items. kept_here c.args.name.now (reverse items)) c.deref.ensures.value))
    (omega (arith, c.len.ensures, c.if-len-eq0.false)) c.in_ok-put.ensures.ok c.change.ensures
    (put_last c.args.name.now (record { meaning = c.args.meaning; hidden = c.around-hidden.result }) levels (c.len-last.result - 1) c.index_mut.result.now c.put-2.new.self
    (omega (arith, c.len-last.ensures, c.len.ensures, c.if-len-eq0.false)) c.index_mut.ensures.value c.in_ok-put-2.ensures.ok)

pub returns-clause-ok : goal.returns-clause-ok
returns-clause-ok g c =
    let levels = c.args.levels.now.items in
    ap scopes_of
    (put_last c.args.name.now (record { meaning = c.args.meaning; hidden = c.around-hidden.result }) levels (c.len-last.result - 1) c.index_mut.result.now c.put-2.new.self
    (omega (arith, c.len-last.ensures, c.len.ensures, c.if-len-eq0.false)) c.index_mut.ensures.value c.in_ok-put-2.ensures.ok)
    ∙ scopes-kept c.args.name.now (record { meaning = c.args.meaning; hidden = c.around-hidden.result }) (reverse levels)
