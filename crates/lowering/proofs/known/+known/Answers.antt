-- What is asked of a form comes to what its parts come to, one level deeper.
use Rattle.std.proofs.Common.{◌-◌, sym, subst, arith}
use Rattle.lowering.specs.Known.{Asked}
use Rattle.lowering.specs.Words.{IsWord, Whole}
use Rattle.lowering.proofs.Onward.{if_ok}
use Rattle.lowering.proofs.WordParts.{whole_place, whole_value}
use Rattle.lowering.proofs.known.+known.Goals as goal

pub known-returns-in-Value : goal.known-returns-in-Value
known-returns-in-Value t c = if_ok c.value_word.result
    (λ word is. subst (λ (asked : Asked). IsWord c.args.source.now c.args.statics.now c.args.levels (Whole asked c.args.expr.now) word) (sym c.in-Value.is)
    (whole_value _ _ (c.args.levels - 1) _ _ _ word (omega (arith, c.if-levels-eq0.false)) c.read_form-form.ensures is))
    c.value_word.ensures

pub known-returns-in-Place : goal.known-returns-in-Place
known-returns-in-Place t c = if_ok c.place_word.result
    (λ word is. subst (λ (asked : Asked). IsWord c.args.source.now c.args.statics.now c.args.levels (Whole asked c.args.expr.now) word) (sym c.in-Place.is)
    (whole_place _ _ (c.args.levels - 1) _ _ _ word (omega (arith, c.if-levels-eq0.false)) c.read_form-form.ensures is))
    c.place_word.ensures
