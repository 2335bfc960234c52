-- A product of two sizes, where there are two.
use Rattle.std.proofs.Common.{◌≡◌, ◌<◌, ◌⊎◌, inl, inr, Bool, [], Option, ℕ, length, map, sym, ap, ◌∙◌, subst, arith, rules}
use Rattle.std.specs.Prelude.{codes, if◌then◌else◌}
use Rattle.std.specs.Str.{bytes_eq}
use Rattle.typing.specs.declared.ctypes.found.Broken.TheVariants.{Construct}
use Rattle.typing.specs.ctypes.Kinds.{kind_of}
use Rattle.typing.specs.Calls.{is_small, product, times}
use Rattle.typing.specs.Faults.{unless}
use Rattle.expressions.specs.Arguments.{arguments_at}
use Rattle.expressions.specs.Settled.{IsFirstOf}
use Rattle.expressions.proofs.Called.{product_of_two, no_product}
use Rattle.expressions.proofs.nodes.arguments.large_product.Goals as goal
use Rattle.expressions.proofs.nodes.arguments.large_product.Goals.{then-params-lt2-via-then-params-lt2, then-params-lt2-via-else-params-lt2+then-known-lt2}

pub returns-then-params-lt2 : goal.returns-then-params-lt2
returns-then-params-lt2 c n args agrees count =
    let few : (length c.args.params.now < 2) ⊎ (length c.args.known.now < 2) =
    elim c.then-params-lt2.branch [
      | then-params-lt2-via-then-params-lt2 w ↦ inl w.if-params-lt2.true
      | then-params-lt2-via-else-params-lt2+then-known-lt2 w ↦ inr w.if-known-lt2.true
    ]
    in
    subst (λ (all : Option ℕ). (if bytes_eq c.args.name.now (codes "calloc") then unless (is_small all) c.args.place (Construct 19) else []) ≡ [])
    (sym (no_product n c.args.context.now.structs c.args.params.now args c.args.known.now few)) (search rules)

pub returns : goal.returns
returns c n args agrees count =
    let fits : c.is_small_product-fits.result ≡ is_small (product (map (kind_of c.args.context.now.structs) (map n.ctype c.args.params.now)) (arguments_at n c.args.context.now.structs args c.args.known.now)) =
    c.is_small_product-fits.ensures
    ∙ ((λ i. is_small (times (c.length_in.ensures n agrees i) (c.length_in-2.ensures n agrees i)))
    ∙ sym (ap is_small (product_of_two n c.args.context.now.structs c.args.params.now args c.args.known.now (omega arith) (omega arith) count))) in
    subst (λ (small : Bool). IsFirstOf (if bytes_eq c.args.name.now (codes "calloc") then unless small c.args.place (Construct 19) else []) c.unless.result) fits (search rules)
