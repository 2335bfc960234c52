use Rattle.std.proofs.Common.{◌≡◌, ◌++◌, ◌∙◌, OnOk, false, not, ap, map, subst, sym, List, ℕ}
use Rattle.definitions.specs.declared.role.Role.TheVariants.{Other}
use Rattle.definitions.specs.declared.sign.Sign.{Sign}
use Rattle.definitions.specs.Defined.{defined_in, first_word, with_body}
use Rattle.definitions.specs.Rows.{item_row, sign_word}
use Rattle.definitions.proofs.Inside.{same_bodied}
use Rattle.definitions.proofs.definitions_of.push_item.Goals as goal

pub returns-clause-bodied : goal.returns-clause-bodied
returns-clause-bodied c =
    subst (λ (names : List (List ℕ)). OnOk c.push_bodied.result (c.push_bodied.new.found ≡ c.args.found.now.bodied ++ names))
    (ap (λ (text : List ℕ). with_body c.form_of-form.result (map (sign_word text) c.as_slice-5.result.now)) c.as_slice-text.ensures
    ∙ same_bodied c.args.t.now.text c.args.typedefs.now c.as_slice.result.now (item_row c.args.t.now c.args.span) c.as_slice-5.result.now c.first_word.result.now c.has-untyped.result c.form_of-form.result
    (c.as_slice.ensures.value ∙ c.in_ok-row.ensures.value)
    (c.first_word.ensures ∙ (ap (λ (text : List ℕ). first_word text c.as_slice-2.result.now) c.as_slice-text.ensures
    ∙ ap (first_word c.args.t.now.text) (c.as_slice-2.ensures.value ∙ sym c.as_slice.ensures.value)))
    c.has-untyped.ensures c.form_of-form.ensures
    (c.as_slice-5.ensures.value ∙ (c.in_ok-names.ensures
    ∙ ap (λ (signs : List Sign). defined_in c.form_of-form.result Other 0 false (not c.has-untyped.result) signs) (c.as_slice-3.ensures.value ∙ sym c.as_slice.ensures.value))))
    c.push_bodied.ensures
