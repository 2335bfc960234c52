-- One level less is left, and one part after the other.
use Rattle.std.proofs.Common.{◌≡◌, ◌+◌, suc, Bool, List, ◌++◌, map, drop, Option, option_map, sym, ap, subst, ◌∙◌, arith}
use Rattle.std.proofs.lemmas.List.{drop_all}
use Rattle.cbase.specs.declared.tree.expr.ExprForm.TheViews.{out-Init, out-InitPart, outs-Braces, outs-Value}
use Rattle.cbase.specs.declared.tree.init.Init.{Init}
use Rattle.cbase.specs.declared.tree.init.InitPart.{InitPart}
use Rattle.c_machine.specs.Text.{Braces}
use Rattle.c_machine.specs.Trees.{initialiser_of, text_of}
use Rattle.expressions.proofs.Loops.{next_item}
use Rattle.flow.specs.declared.flow_graph.Initial.{Initial}
use Rattle.lower.specs.Sets.{AddsInitials}
use Rattle.lowering.specs.Initials.{initials_within}
use Rattle.lowering.proofs.Onward.{if_ok}
use Rattle.lower.proofs.InitialsAdded.{all_added, next_added, none_added, told_as, within_braces, within_value}
use Rattle.lower.proofs.initials.+push_init.Goals as goal

pub returns-then-not-branch : goal.returns-then-not-branch
returns-then-not-branch t c = λ p reads statics.
    let levels : c.args.levels ≡ suc c.in-Some.fewer = omega (arith, c.in-Some.ensures.0, c.in-Some.ensures.1) in
    sym (ap (λ (more : Option (List Initial)). option_map (λ (more : List Initial). c.args.initials.now ++ more) more)
    (within_braces p c.args.statics.now c.args.levels c.in-Some.fewer c.args.place c.args.init.now
    (map (λ (part : InitPart). (out-InitPart part).init) c.as_slice-part-items.result.now) levels
    (ap (λ (parts : List InitPart). Braces (map (λ (part : InitPart). (out-InitPart part).init) parts)) c.as_slice-part-items.ensures
    ∙ sym (ap (λ (init : Init). initialiser_of (out-Init init)) c.in-Braces.is ∙ ap initialiser_of (outs-Braces c.in-Braces.parts)))))
    ∙ none_added (initials_within c.in-Some.fewer (text_of p) c.args.statics.now c.args.place)
    (map (λ (part : InitPart). (out-InitPart part).init) (drop c.loop-part.part-index c.as_slice-part-items.result.now))
    (map (λ (part : InitPart). (out-InitPart part).init) (drop (c.loop-part.part-index + 1) c.as_slice-part-items.result.now)) (out-InitPart c.part-item.result).init
    c.loop-part.initials _
    (ap (map (λ (part : InitPart). (out-InitPart part).init))
    (next_item c.as_slice-part-items.result.now c.loop-part.part-index c.part-item.result c.loop-part-test.true c.part-item.is))
    (c.in_ok-push_init-in-Braces.ensures p reads statics ∙ ap (λ (whole : Bool). told_as whole c.push_init.new.initials) c.if-not-branch.true)
    (c.loop-part.invariant p reads statics)

pub loop-part-preserved : goal.loop-part-preserved
loop-part-preserved t c = λ p reads statics.
    next_added (initials_within c.in-Some.fewer (text_of p) c.args.statics.now c.args.place)
    (map (λ (part : InitPart). (out-InitPart part).init) (drop c.loop-part.part-index c.as_slice-part-items.result.now))
    (map (λ (part : InitPart). (out-InitPart part).init) (drop (c.loop-part.part-index + 1) c.as_slice-part-items.result.now)) (out-InitPart c.part-item.result).init
    c.loop-part.initials c.push_init.new.initials _
    (ap (map (λ (part : InitPart). (out-InitPart part).init))
    (next_item c.as_slice-part-items.result.now c.loop-part.part-index c.part-item.result c.loop-part-test.true c.part-item.is))
    (c.in_ok-push_init-in-Braces.ensures p reads statics ∙ ap (λ (whole : Bool). told_as whole c.push_init.new.initials) c.if-not-branch.false)
    (c.loop-part.invariant p reads statics)

pub returns-in-Value : goal.returns-in-Value
returns-in-Value t c =
    let levels : c.args.levels ≡ suc c.in-Some.fewer = omega (arith, c.in-Some.ensures.0, c.in-Some.ensures.1) in
    if_ok c.push_value.result
    (λ whole adds p reads statics.
    subst (λ (more : Option (List Initial)). AddsInitials c.args.initials.now more whole c.push_value.new.initials)
    (within_value p c.args.statics.now c.args.levels c.in-Some.fewer c.args.place c.args.init.now c.in-Value.value c.in-Value.after levels
    (sym (ap (λ (init : Init). initialiser_of (out-Init init)) c.in-Value.is ∙ ap initialiser_of (outs-Value c.in-Value.value c.in-Value.after))))
    (adds p reads statics))
    c.push_value.ensures

pub returns-after-loop-part : goal.returns-after-loop-part
returns-after-loop-part t c = λ p reads statics.
    let levels : c.args.levels ≡ suc c.in-Some.fewer = omega (arith, c.in-Some.ensures.0, c.in-Some.ensures.1) in
    sym (ap (λ (more : Option (List Initial)). option_map (λ (more : List Initial). c.args.initials.now ++ more) more)
    (within_braces p c.args.statics.now c.args.levels c.in-Some.fewer c.args.place c.args.init.now
    (map (λ (part : InitPart). (out-InitPart part).init) c.as_slice-part-items.result.now) levels
    (ap (λ (parts : List InitPart). Braces (map (λ (part : InitPart). (out-InitPart part).init) parts)) c.as_slice-part-items.ensures
    ∙ sym (ap (λ (init : Init). initialiser_of (out-Init init)) c.in-Braces.is ∙ ap initialiser_of (outs-Braces c.in-Braces.parts)))))
    ∙ all_added (initials_within c.in-Some.fewer (text_of p) c.args.statics.now c.args.place)
    (map (λ (part : InitPart). (out-InitPart part).init) (drop c.loop-part.part-index c.as_slice-part-items.result.now)) c.loop-part.initials _
    (ap (map (λ (part : InitPart). (out-InitPart part).init)) (drop_all c.loop-part.part-index c.as_slice-part-items.result.now c.loop-part-test.false))
    (c.loop-part.invariant p reads statics)
