-- All that is promised of expressions of a level more.
use Rattle.std.proofs.Common.{refl, ap}
use Rattle.c_machine.specs.Program.{Program}
use Rattle.c_machine.specs.Trees.{text_of}
use Rattle.c_machine.specs.Text.{Text}
use Rattle.flow.specs.declared.flow_graph.Flow.{Flow}
use Rattle.flow.specs.Valid.{IsFlow}
use Rattle.simulation.specs.Running.{Setting, Running}
use Rattle.lowering.proofs.AskJoined.{ask_joined, ask_known_joined, ask_truth_joined}
use Rattle.lowering.proofs.Joined.{ExpressionsMore}
use Rattle.lowering.proofs.PlaceJoined.{place_joined}
use Rattle.lowering.proofs.ProgramsMeet.{gives_of, setting_of}
use Rattle.lowering.proofs.SpellingCalled.{AreCalled}
use Rattle.lowering.proofs.SpellingConditions.{answered, answered_truth}
use Rattle.lowering.proofs.SpellingConversions.{convert_form}
use Rattle.lowering.proofs.ValueJoined.{value_joined}
use Rattle.lowering.proofs.WorkJoined.{work_joined}

pub expressions_more : (t : Text) (flow : Flow) (setting : Setting) (running : Running) (valid : IsFlow flow) → AreCalled t flow setting running → ExpressionsMore t flow setting running valid
expressions_more t flow setting running valid called levels less all = record {
  value = value_joined t flow setting running valid called levels all.at all.does less;
  place = place_joined t flow setting running levels less all.at;
  work = work_joined t flow setting running valid called levels all.at all.does less;
  convert = convert_form t flow setting running levels all.at;
  answer = answered t flow setting running levels all.at;
  answer_truth = answered_truth t flow setting running levels all.at;
  ask = ask_joined t flow setting running levels less all.at;
  ask_known = ask_known_joined t flow setting running levels less all.at;
  ask_truth = ask_truth_joined t flow setting running levels less all.at;
}

-- where each function is called by its number, so it is
pub all_called : (t : Text) (flow : Flow) (running : Running) → AreCalled t flow (setting_of t) running
all_called t flow running number function there = (refl, ap (gives_of t) there)

-- of a program
pub program_more : (p : Program) (flow : Flow) (valid : IsFlow flow) (running : Running) → ExpressionsMore (text_of p) flow (setting_of (text_of p)) running valid
program_more p flow valid running = expressions_more (text_of p) flow (setting_of (text_of p)) running valid (all_called (text_of p) flow running)
