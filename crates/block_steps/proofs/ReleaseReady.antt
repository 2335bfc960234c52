-- What the calls of a release need.
use Rattle.std.proofs.Common.{◌≡◌, ℕ, true, List, ℤ, Option, Some, refl, sym, ◌∙◌, ap, subst}
use Rattle.std.specs.Prelude.{IfSome}
use Rattle.graph.specs.declared.object.Object.{Object}
use Rattle.graph.specs.declared.parts.Parts.{Parts}
use Rattle.graph.specs.declared.value.Target.{Target}
use Rattle.graph.specs.declared.value.Value.{Value}
use Rattle.graph.specs.declared.value.Value.TheVariants.{Const, Number, Address}
use Rattle.graph.specs.Maps.{object_at, value_at}
use Rattle.graph.specs.Whole.{IsGraph}
use Rattle.changes.specs.Dying.{died}
use Rattle.changes.specs.Parts.{with_object, with_value, without_registers}
use Rattle.changes.specs.Reaching.{names_no_segment}
use Rattle.changes.proofs.Died.{graph_died}
use Rattle.changes.proofs.Meeting.{region_target}
use Rattle.changes.proofs.RegisterForm.{graph_without}
use Rattle.changes.proofs.ValueForm.{graph_with_value}
use Rattle.block_steps.specs.Releasing.{IsRegionFound, IsFreeable, with_null}
use Rattle.block_steps.proofs.ReleaseFault.{region_of}
use Rattle.block_steps.proofs.ReleaseNumber.{graph_null}

-- the parts in which an object died are those of a graph
pub dead_ready : (parts copied dead after : Parts) (gone : List ℕ) (key : ℕ) → IsGraph parts → IsFreeable parts key → copied ≡ parts → IfSome (object_at copied.objects key) (λ object. dead ≡ with_object key (died object) copied) →
    after ≡ without_registers gone dead → IsGraph after
dead_ready parts copied dead after gone key graph may same is emptied =
    subst IsGraph (sym emptied) (graph_without gone dead (subst IsGraph (sym dead_is) (graph_died parts key may.object graph may.is may.region may.live may.heap)))
  where
    dead_is : dead ≡ with_object key (died may.object) parts
    dead_is =
        subst (λ (o : Option Object). IfSome o (λ object. dead ≡ with_object key (died object) parts)) may.is
        (subst (λ (g : Parts). IfSome (object_at g.objects key) (λ object. dead ≡ with_object key (died object) g)) same is)

-- with the constant 0 too
pub valued_ready : (parts copied valued : Parts) → IsGraph parts → copied ≡ parts → valued ≡ with_value (Const 0 8) copied → IsGraph valued
valued_ready parts copied valued graph same is = subst IsGraph (sym (is ∙ ap (with_value (Const 0 8)) same)) (graph_with_value (Const 0 8) parts graph (record { sized = refl; leads = refl; held = refl }))

-- and those in which a number is 0
pub null_ready : (parts null after : Parts) (gone : List ℕ) (key : ℕ) → IsGraph parts → value_at parts.values key ≡ Some (Number 8) → null ≡ with_null key parts → after ≡ without_registers gone null → IsGraph after
null_ready parts null after gone key graph number is emptied = subst IsGraph (sym emptied) (graph_without gone null (subst IsGraph (sym is) (graph_null parts graph key number)))

-- an address that is none of a segment's node is one of a region
pub region_ready : (parts : Parts) (key object : ℕ) (offset : ℤ) (target : Target) (value : Value) → IsGraph parts → value_at parts.values key ≡ Some value → value ≡ Address object offset target → names_no_segment value ≡ true → IsRegionFound parts object
region_ready parts key object offset target value graph stands is names =
    region_of parts key object offset graph.well_formed
    (stands ∙ ap Some is ∙ ap (λ (t : Target). Some (Address object offset t)) (region_target object offset target (sym (ap names_no_segment is) ∙ names)))
