use Rattle.std.proofs.Common.{rules, ◌≡◌, ◌<◌, ◌≤◌, ◌+◌, ℕ, List, length, get_or, ap, sym, subst, ◌∙◌, Bool, true}
use Rattle.graph.specs.Meaning.{Maps, maps_of}
use Rattle.graph.specs.declared.parts.Held.{Held}
use Rattle.cover.specs.Covers.{content, Link, Values, IsReached}
use Rattle.cover.specs.declared.content.Content.{Content}
use Rattle.cover.specs.Found.{Naming, Goes}
use Rattle.cover.proofs.Forced.{for-both, naming_next, register-reached, registers-short, registers-differ, registers-end}
use Rattle.cover.proofs.roots.pair_registers.Goals as goal

abbrev nothing : Held
nothing = record { register = 0; value = 0 }

abbrev number : Held → ℕ
number entry = entry.register

abbrev link : Maps → Held → Held → Link
link narrow one other = Values one.value (content narrow other.value)

pub returns-then-ones-others : goal.returns-then-ones-others
returns-then-ones-others c =
    registers-short c.args.wide.now c.args.narrow.now c.registers-ones.ensures.graph c.registers-others.ensures.graph c.args.found.now c.requires.sound
    (λ same. c.if-ones-others.true (ap length c.registers-ones.ensures.registers ∙ same ∙ sym (ap length c.registers-others.ensures.registers)))

pub returns-then-one-other : goal.returns-then-one-other
returns-then-one-other c =
    registers-differ c.args.wide.now c.args.narrow.now c.registers-ones.ensures.graph c.registers-others.ensures.graph c.args.found.now c.loop-at.found c.loop-at.at nothing nothing c.loop-at.invariant.sound c.loop-at.invariant.grows
    (subst (λ (xs : List Held). c.loop-at.at < length xs) c.registers-ones.ensures.registers c.loop-at-test.true)
    (λ same. c.if-one-other.true (for-both (λ (xs ys : List Held). number (get_or xs c.loop-at.at nothing) ≡ number (get_or ys c.loop-at.at nothing)) _ _ _ _ c.registers-ones.ensures.registers c.registers-others.ensures.registers same))

pub pair_value-requires-clause-reached : goal.pair_value-requires-clause-reached
pair_value-requires-clause-reached c =
    subst (λ (k : Content). IsReached (maps_of c.args.wide.now) (maps_of c.args.narrow.now) (Values (get_or c.registers-ones.result.now c.loop-at.at nothing).value k)) (sym c.content_of-content.ensures)
    (for-both (λ (xs ys : List Held). c.loop-at.at < length xs → c.loop-at.at < length ys → number (get_or xs c.loop-at.at nothing) ≡ number (get_or ys c.loop-at.at nothing) →
    IsReached (maps_of c.args.wide.now) (maps_of c.args.narrow.now) (link (maps_of c.args.narrow.now) (get_or xs c.loop-at.at nothing) (get_or ys c.loop-at.at nothing))) _ _ _ _ c.registers-ones.ensures.registers c.registers-others.ensures.registers
    (register-reached c.args.wide.now c.args.narrow.now c.registers-ones.ensures.graph c.registers-others.ensures.graph c.loop-at.at nothing nothing)
    c.loop-at-test.true (search rules) (search rules))

pub loop-at-preserved : goal.loop-at-preserved
loop-at-preserved c =
    for-both (λ (xs ys : List Held). c.loop-at.at < length xs → c.loop-at.at < length ys → number (get_or xs c.loop-at.at nothing) ≡ number (get_or ys c.loop-at.at nothing) →
    Goes (maps_of c.args.wide.now) (maps_of c.args.narrow.now) c.loop-at.found c.pair_value.new.found (link (maps_of c.args.narrow.now) (get_or xs c.loop-at.at nothing) (get_or ys c.loop-at.at nothing)) true →
    Naming (maps_of c.args.wide.now) (maps_of c.args.narrow.now) number number (link (maps_of c.args.narrow.now)) c.args.wide.now.registers c.args.narrow.now.registers c.args.found.now c.pair_value.new.found (c.loop-at.at + 1))
    _ _ _ _ c.registers-ones.ensures.registers c.registers-others.ensures.registers
    (naming_next (maps_of c.args.wide.now) (maps_of c.args.narrow.now) number number (link (maps_of c.args.narrow.now)) c.args.wide.now.registers c.args.narrow.now.registers c.args.found.now c.loop-at.found c.pair_value.new.found c.loop-at.at nothing nothing c.loop-at.invariant)
    c.loop-at-test.true (search rules) (search rules) (subst (λ (k : Content). Goes (maps_of c.args.wide.now) (maps_of c.args.narrow.now) c.loop-at.found c.pair_value.new.found (Values (get_or c.registers-ones.result.now c.loop-at.at nothing).value k) true) c.content_of-content.ensures
    (subst (λ (b : Bool). Goes (maps_of c.args.wide.now) (maps_of c.args.narrow.now) c.loop-at.found c.pair_value.new.found (Values (get_or c.registers-ones.result.now c.loop-at.at nothing).value c.content_of-content.result) b) (search rules) c.in_ok-pair_value.ensures))

pub returns : goal.returns
returns c =
    registers-end c.args.wide.now c.args.narrow.now c.registers-ones.ensures.graph c.registers-others.ensures.graph c.args.found.now c.loop-at.found c.loop-at.at c.loop-at.invariant
    (sym (ap length c.registers-ones.ensures.registers) ∙ c.if-ones-others.false ∙ ap length c.registers-others.ensures.registers) (subst (λ (xs : List Held). length xs ≤ c.loop-at.at) c.registers-ones.ensures.registers (search rules))
