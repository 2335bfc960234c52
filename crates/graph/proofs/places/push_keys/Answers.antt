use Rattle.graph.specs.declared.parts.KeyedObject.{KeyedObject}
use Rattle.graph.specs.declared.parts.KeyedValue.{KeyedValue}
use Rattle.graph.proofs.ByHalves.{ascending_keys}
use Rattle.graph.proofs.places.push_keys.Goals as goal

pub returns-clause-objects_ascend : goal.returns-clause-objects_ascend
returns-clause-objects_ascend c =
    ascending_keys (λ (entry : KeyedObject). entry.key) c.args.parts.now.objects c.push_object_keys.new.keys c.in_ok-push_object_keys.ensures.keys c.requires.ascending.objects

pub returns-clause-values_ascend : goal.returns-clause-values_ascend
returns-clause-values_ascend c =
    ascending_keys (λ (entry : KeyedValue). entry.key) c.args.parts.now.values c.push_value_keys.new.keys c.in_ok-push_value_keys.ensures.keys c.requires.ascending.values
