use Rattle.std.proofs.Common.{◌≡◌, ◌∙◌, ap, sym, subst, length, arith}
use Rattle.std.specs.Prelude.{All}
use Rattle.std.proofs.lemmas.List.{with_items_is}
use Rattle.planes.specs.Classes.{IsClass}
use Rattle.planes.proofs.Pairs.{length_highest}
use Rattle.planes.proofs.Ranges.{highest_classes}
use Rattle.planes.proofs.plane.Plane.max_with.Goals as goal

pub invariant_of-self : goal.invariant_of-self
invariant_of-self c =
    let old = c.deref_mut.result.now in
    let other = c.as_slice.result.now in
    let old_is : length old ≡ length c.args.self.now = ap length (c.deref_mut.ensures.value ∙ c.self.view_is) in
    let other_is : length other ≡ length c.args.other.now = ap length (c.as_slice.ensures.value ∙ c.other.view_is) in
    let new : length c.raise_bytes.new.bytes ≡ length old = ap length c.raise_bytes.ensures ∙ length_highest old other (omega arith) in
    let same_length : length old ≡ length c.self.inside.bytes.items = ap length c.deref_mut.ensures.value in
    let is = with_items_is c.self.inside.bytes c.raise_bytes.new.bytes (new ∙ same_length ∙ sym c.self.inside.bytes.ok.0) in
    record {
      most = omega (arith, ap length is, c.self.invariant.most);
      classes =
          subst (All IsClass) (sym is)
          (subst (All IsClass) (sym c.raise_bytes.ensures)
          (highest_classes old other
          (subst (All IsClass) (sym c.deref_mut.ensures.value) c.self.invariant.classes)
          (subst (All IsClass) (sym c.as_slice.ensures.value) c.other.invariant.classes)));
    }
