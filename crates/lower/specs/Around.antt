-- What stands around a form, as the code has it.
use Rattle.lower.specs.declared.around.Surroundings.{Surroundings}
use Rattle.lowering.specs.Placing.{Around}

abbrev pub around_of : Surroundings → Around
around_of around = record {
  scopes = around.scopes;
  statics = around.statics.now;
  loop = around.current;
  exit = around.frame.exit;
  kind = around.frame.kind;
  result = around.frame.result;
  closes = around.frame.closes;
}
