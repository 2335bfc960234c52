use Rattle.std.proofs.Common.{◌≡◌, ℕ, List, ◌++◌, ◌+◌, ◌-◌, ◌∙◌, ap, sym, subst, length, take, drop, arith, length-drop}
use Rattle.std.specs.Prelude.{All}
use Rattle.std.proofs.lemmas.List.{with_items_is, length-take, length-replicate}
use Rattle.std.proofs.lemmas.List.Elements.{All-replicate}
use Rattle.planes.specs.Classes.{IsClass}
use Rattle.planes.proofs.Ranges.{changed_classes, changed_length}
use Rattle.planes.proofs.plane.Plane.fill.Goals as goal

pub invariant_of-self : goal.invariant_of-self
invariant_of-self c =
    let from = c.args.from in
    let count = c.args.from + c.args.count - c.args.from in
    let old = c.deref_mut.result.now in
    let long : length old ≡ length c.args.self.now = ap length (c.deref_mut.ensures.value ∙ c.self.view_is) in
    let part : length (take count (drop from old)) ≡ count = simp (length-take, length-drop) (omega arith) in
    let new : length c.fill_bytes.new.bytes ≡ count = ap length c.fill_bytes.ensures ∙ length-replicate _ c.args.class ∙ part in
    let same_length : length old ≡ length c.self.inside.bytes.items = ap length c.deref_mut.ensures.value in
    let whole : List ℕ = take from old ++ (c.fill_bytes.new.bytes ++ drop count (drop from old)) in
    let whole_length : length whole ≡ length old = changed_length from count old c.fill_bytes.new.bytes new (omega arith) in
    let is = with_items_is c.self.inside.bytes whole (whole_length ∙ same_length ∙ sym c.self.inside.bytes.ok.0) in
    record {
      most = omega (arith, ap length is, c.self.invariant.most);
      classes =
          subst (All IsClass) (sym is)
          (changed_classes from count old c.fill_bytes.new.bytes
          (subst (All IsClass) (sym c.deref_mut.ensures.value) c.self.invariant.classes)
          (subst (All IsClass) (sym c.fill_bytes.ensures) (All-replicate IsClass _ c.args.class c.requires.class)));
    }
