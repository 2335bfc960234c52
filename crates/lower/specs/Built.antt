-- What the code has made so far.
use Rattle.lower.specs.declared.builder.Builder.{Builder}
use Rattle.lowering.specs.Placing.{Made}

abbrev pub made_of : Builder → Made
made_of builder = record {
  points = builder.points;
  registers = builder.registers;
  edges = builder.edges;
  stands = builder.stands;
  variables = builder.variables;
  heads = builder.heads;
  is_graph = builder.is_graph;
}
