-- What is proved of each instruction.
use Rattle.plain.specs.Laws.{AreRegistersPlain, AreAccessesPlain, AreTestsPlain, AreEndsPlain, AreBlocksPlain}
use Rattle.plain.proofs.AllocatePlain.{allocate_plain}
use Rattle.plain.proofs.ClosePlain.{close_plain}
use Rattle.plain.proofs.CopyPlain.{copy_plain}
use Rattle.plain.proofs.EnterPlain.{enter_plain}
use Rattle.plain.proofs.FillPlain.{fill_plain}
use Rattle.plain.proofs.FinishPlain.{finish_plain}
use Rattle.plain.proofs.LeavePlain.{leave_plain}
use Rattle.plain.proofs.Put.{refuse_plain}
use Rattle.plain.proofs.ReadPlain.{read_plain}
use Rattle.plain.proofs.ReleasePlain.{release_plain}
use Rattle.plain.proofs.RegisterSteps.{number_plain, address_plain, move_plain, input_plain, shift_plain, shift_by_plain, compute_plain, convert_plain}
use Rattle.plain.proofs.TestPlain.{same_plain, different_plain}
use Rattle.plain.proofs.WritePlain.{write_plain}

pub registers_plain : AreRegistersPlain
registers_plain = record {
  numbers = number_plain;
  addresses = address_plain;
  moves = move_plain;
  inputs = input_plain;
  shifts = shift_plain;
  shifts_by = shift_by_plain;
  computes = compute_plain;
  converts = convert_plain;
  refusals = refuse_plain;
}

pub accesses_plain : AreAccessesPlain
accesses_plain = record { reads = read_plain; writes = write_plain; fills = fill_plain; copies = copy_plain }

pub tests_plain : AreTestsPlain
tests_plain = record { same = same_plain; different = different_plain }

pub ends_plain : AreEndsPlain
ends_plain = record { finishes = finish_plain; leaves = leave_plain; closes = close_plain }

pub blocks_plain : AreBlocksPlain
blocks_plain = record { allocates = allocate_plain; enters = enter_plain; releases = release_plain }
