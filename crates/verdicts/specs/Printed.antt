-- That the numbers by which memory tells faults, and by which constructs are given up, are printed as what they stand for.
use Rattle.std.specs.Prelude.{◌≡◌, codes}
use Rattle.bytes_core.specs.Fault.{null_pointer_dereference, access_outside_object, access_to_dead_object, access_through_invalid_address, double_free, invalid_free, memory_lost, overlapping_copy, block_never_freed}
use Rattle.cconstructs.specs.Numbers.{goto_statement, switch_statement, union_type, floating_type, variable_arguments, inline_assembly, layout_attribute, complex_type, thread_local_object, string_literal, function_pointer}
use Rattle.report.specs.Construct.{construct_name}
use Rattle.report.specs.Kind.{kind_text}

-- the text of each kind of fault
pub record KindsArePrinted : Type 0 where
  pub null-pointer-dereference : kind_text null_pointer_dereference ≡ codes "null pointer dereference"
  pub access-outside-object : kind_text access_outside_object ≡ codes "access outside object"
  pub access-to-dead-object : kind_text access_to_dead_object ≡ codes "access to dead object"
  pub access-through-invalid-address : kind_text access_through_invalid_address ≡ codes "access through invalid address"
  pub double-free : kind_text double_free ≡ codes "double free"
  pub invalid-free : kind_text invalid_free ≡ codes "invalid free"
  pub memory-lost : kind_text memory_lost ≡ codes "memory lost"
  pub overlapping-copy : kind_text overlapping_copy ≡ codes "overlapping copy"
  pub block-never-freed : kind_text block_never_freed ≡ codes "block never freed"

-- the name of each construct that is given up
pub record ConstructsArePrinted : Type 0 where
  pub goto-statement : construct_name goto_statement ≡ codes "goto"
  pub switch-statement : construct_name switch_statement ≡ codes "switch"
  pub union-type : construct_name union_type ≡ codes "union"
  pub floating-type : construct_name floating_type ≡ codes "floating type"
  pub variable-arguments : construct_name variable_arguments ≡ codes "variable arguments"
  pub inline-assembly : construct_name inline_assembly ≡ codes "inline assembly"
  pub layout-attribute : construct_name layout_attribute ≡ codes "layout attribute"
  pub complex-type : construct_name complex_type ≡ codes "complex type"
  pub thread-local-object : construct_name thread_local_object ≡ codes "thread-local object"
  pub string-literal : construct_name string_literal ≡ codes "string literal"
  pub function-pointer : construct_name function_pointer ≡ codes "function pointer"
