use Rattle.std.proofs.Common.{◌∙◌, ◌-◌, ◌+◌, ap, sym, refl, arith, reverse, Some}
use Rattle.std.specs.Prelude.{slice_set}
use Rattle.std.proofs.lemmas.List.{length-set}
use Rattle.typing.specs.environment.Scopes.{left}
use Rattle.typing.specs.declared.environment.kept.Kept.{Kept}
use Rattle.typing.specs.environment.Names.{with_value, changed}
use Rattle.typing.specs.environment.Kept.{around, kept_here, kept_around, changed_in}
use Rattle.typing.proofs.environment.KeptRight.{visible_equal, visible_again, same_level}
use Rattle.typing.proofs.environment.NearScopes.{kept-left, none-around, some-around, scopes_none_around, scopes_some_around, two-scopes, put_second, change_last}
use Rattle.typing.proofs.environment.around.declare_around_in.Goals as goal

pub returns-in_err-put-2-clause-kept : goal.returns-in_err-put-2-clause-kept
returns-in_err-put-2-clause-kept g c =
    visible_equal (with_value c.args.name.now c.shown-before.result c.args.visible.now) c.put.new.self (reverse c.args.levels.now.items) (reverse (slice_set c.args.levels.now.items (c.len-at.result - 2) c.put-2.new.self))
    c.in_ok-put.ensures.ok
    (same_level c.args.levels.now.items (c.len-at.result - 2) c.index_mut.result.now c.put-2.new.self c.index_mut.ensures.value c.in_err-put-2.ensures.err)
    (visible_again c.args.name.now c.shown-before.result c.args.visible.now (reverse c.args.levels.now.items) c.requires c.shown-before.ensures)

pub returns-in-None-clause-kept : goal.returns-in-None-clause-kept
returns-in-None-clause-kept g c =
    let inside = c.kept_here-inside.ensures ∙ ap (λ levels. kept_here c.args.name.now (reverse levels)) c.deref.ensures.value in
    let near = c.kept_around.ensures ∙ (ap (λ levels. kept_here c.args.name.now (left (reverse levels))) c.deref-2.ensures.value ∙ sym (kept-left c.args.name.now (reverse c.args.levels.now.items))) in
    let hides =
    c.around-hidden.ensures ∙ (ap (λ kept. around kept c.around.result) near
    ∙ ap (around (kept_around c.args.name.now (reverse c.args.levels.now.items))) (c.around.ensures ∙ ap (λ kept. around kept c.shown-before.result) inside))
    in
    none-around c.args.name.now c.args.meaning c.around-hidden.result c.shown-before.result c.args.visible.now (reverse c.args.levels.now.items) (reverse (slice_set c.args.levels.now.items (c.len-at.result - 2) c.put-2.new.self))
    c.change.new.self c.requires c.shown-before.ensures hides (two-scopes c.args.levels.now.items (omega (arith, c.len.ensures, c.if-len-lt2.false)))
    (sym c.in-None.is ∙ inside) (c.change.ensures ∙ ap (changed c.args.name.now (Some c.args.meaning)) c.in_ok-put.ensures.ok) (put_second c.args.name.now (record { meaning = c.args.meaning; hidden = c.around-hidden.result }) c.args.levels.now.items (c.len-at.result - 2) c.index_mut.result.now c.put-2.new.self
    (omega (arith, c.len-at.ensures, c.len.ensures, c.if-len-lt2.false)) c.index_mut.ensures.value c.in_ok-put-2.ensures.ok)

pub returns-in-None-clause-ok : goal.returns-in-None-clause-ok
returns-in-None-clause-ok g c =
    scopes_none_around c.args.name.now (record { meaning = c.args.meaning; hidden = c.around-hidden.result }) (reverse c.args.levels.now.items) (reverse (slice_set c.args.levels.now.items (c.len-at.result - 2) c.put-2.new.self))
    (put_second c.args.name.now (record { meaning = c.args.meaning; hidden = c.around-hidden.result }) c.args.levels.now.items (c.len-at.result - 2) c.index_mut.result.now c.put-2.new.self
    (omega (arith, c.len-at.ensures, c.len.ensures, c.if-len-lt2.false)) c.index_mut.ensures.value c.in_ok-put-2.ensures.ok)

pub returns-in-Some-clause-kept : goal.returns-in-Some-clause-kept
returns-in-Some-clause-kept g c =
    let levels = c.args.levels.now.items in
    let at = c.len-at.result - 2 in
    let middle = slice_set levels at c.put-2.new.self in
    let own : Kept g.row.A.Denot = record { meaning = c.in-Some.kept.meaning; hidden = Some c.args.meaning } in
    let inside = c.kept_here-inside.ensures ∙ ap (λ items. kept_here c.args.name.now (reverse items)) c.deref.ensures.value in
    let near = c.kept_around.ensures ∙ (ap (λ items. kept_here c.args.name.now (left (reverse items))) c.deref-2.ensures.value ∙ sym (kept-left c.args.name.now (reverse levels))) in
    let hides =
    c.around-hidden.ensures ∙ (ap (λ kept. around kept c.around.result) near
    ∙ ap (around (kept_around c.args.name.now (reverse levels))) (c.around.ensures ∙ ap (λ kept. around kept c.shown-before.result) inside))
    in
    some-around c.args.name.now c.args.meaning c.around-hidden.result c.shown-before.result c.args.visible.now (reverse levels) (reverse (slice_set middle (at + 1) c.change-in-Some.new.self))
    c.put.new.self c.in-Some.kept own c.requires c.shown-before.ensures hides
    (two-scopes levels (omega (arith, c.len.ensures, c.if-len-lt2.false))) (sym c.in-Some.is ∙ inside) refl refl c.in_ok-put.ensures.ok
    (change_last c.args.name.now own middle (at + 1) c.index_mut-in-Some.result.now c.change-in-Some.new.self
    (omega (arith, c.len-at.ensures, c.len.ensures, c.if-len-lt2.false, length-set levels at c.put-2.new.self)) c.index_mut-in-Some.ensures.value c.change-in-Some.ensures
    ∙ ap (changed_in c.args.name.now own)
    (put_second c.args.name.now (record { meaning = c.args.meaning; hidden = c.around-hidden.result }) levels at c.index_mut.result.now c.put-2.new.self
    (omega (arith, c.len-at.ensures, c.len.ensures, c.if-len-lt2.false)) c.index_mut.ensures.value c.in_ok-put-2.ensures.ok))

pub returns-in-Some-clause-ok : goal.returns-in-Some-clause-ok
returns-in-Some-clause-ok g c =
    let levels = c.args.levels.now.items in
    let at = c.len-at.result - 2 in
    let middle = slice_set levels at c.put-2.new.self in
    let own : Kept g.row.A.Denot = record { meaning = c.in-Some.kept.meaning; hidden = Some c.args.meaning } in
    scopes_some_around c.args.name.now (record { meaning = c.args.meaning; hidden = c.around-hidden.result }) own c.in-Some.kept
    (reverse levels) (reverse middle) (reverse (slice_set middle (at + 1) c.change-in-Some.new.self))
    (sym c.in-Some.is ∙ (c.kept_here-inside.ensures ∙ ap (λ items. kept_here c.args.name.now (reverse items)) c.deref.ensures.value)) refl
    (put_second c.args.name.now (record { meaning = c.args.meaning; hidden = c.around-hidden.result }) levels at c.index_mut.result.now c.put-2.new.self
    (omega (arith, c.len-at.ensures, c.len.ensures, c.if-len-lt2.false)) c.index_mut.ensures.value c.in_ok-put-2.ensures.ok)
    (change_last c.args.name.now own middle (at + 1) c.index_mut-in-Some.result.now c.change-in-Some.new.self
    (omega (arith, c.len-at.ensures, c.len.ensures, c.if-len-lt2.false, length-set levels at c.put-2.new.self)) c.index_mut-in-Some.ensures.value c.change-in-Some.ensures)
