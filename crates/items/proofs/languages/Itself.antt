-- Each language carries over to itself, by the map that changes nothing.
use Rattle.std.proofs.Common.{refl}
use Rattle.typing.specs.FileScope.{FileScope}
use Rattle.typing.specs.Language.{Language}
use Rattle.items.specs.languages.Carries.{Carries}

pub carries_itself : (l : Language) (file : FileScope l) → Carries l l file file (λ env. env) (λ env. Unit {0})
carries_itself l file = record {
  abi = refl;
  entity = λ name env. refl;
  tag = λ name env. refl;
  structs = λ env. refl;
  tag_here = λ name env. refl;
  is_declared_here = λ name env. refl;
  in_loop = λ env. refl;
  result = λ env. refl;
  name_here = λ name env. refl;
  linked = λ name env. refl;
  visible_type = λ name env. refl;
  strict = λ env. refl;
  definition = λ name env. refl;
  first_token = λ name env. refl;
  struct_declared = λ name env valid. record { valid = tt; same = refl };
  enum_declared = λ name env valid. record { valid = tt; same = refl };
  struct_opened = λ name env valid. record { valid = tt; same = refl };
  struct_listed = λ name number env valid. record { valid = tt; same = refl };
  struct_completed = λ number fields env valid. record { valid = tt; same = refl };
  enum_listed = λ name env valid. record { valid = tt; same = refl };
  constant_declared = λ name bits env valid. record { valid = tt; same = refl };
  entered = λ env valid. record { valid = tt; same = refl };
  left = λ env valid. record { valid = tt; same = refl };
  left_valid = λ env valid. tt;
  loop_set = λ set env valid. record { valid = tt; same = refl };
  result_set = λ result env valid. record { valid = tt; same = refl };
  object_declared = λ name token fixed t env valid. record { valid = tt; same = refl };
  typedef_declared = λ name t env valid. record { valid = tt; same = refl };
  linked_declared = λ name token items linked env valid. record { valid = tt; same = refl };
  definition_set = λ name definition env valid. record { valid = tt; same = refl };
  declared_around = λ name token linked env valid. record { valid = tt; same = refl };
  main_parameter = λ name token t env valid. record { valid = tt; same = refl };
}
