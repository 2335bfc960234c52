use Rattle.std.proofs.Common.{◌≡◌, ◌∙◌, ap, sym, List, ℕ}
use Rattle.definitions.specs.Defined.{each_once}
use Rattle.definitions.specs.Rows.{item_row}
use Rattle.definitions.proofs.Inside.{no_typedefs}
use Rattle.definitions.proofs.definitions_of.put_item.Goals as goal

pub returns-in_default : goal.returns-in_default
returns-in_default c =
    ap (λ (names : List (List ℕ)). each_once c.args.found.now names)
    (sym (no_typedefs c.args.t.now.text c.as_slice.result.now (item_row c.args.t.now c.args.span) c.form_of.result (c.as_slice.ensures.value ∙ c.in_ok-row.ensures.value) c.form_of.ensures c.in_default.not-Typedef))
