use Rattle.std.proofs.Common.{rules, true, false, [], refl, sym, ◌∙◌, ap, ◌∷◌, to_z, of_z, w64}
use Rattle.std.specs.Prelude.{ℤ}
use Rattle.std.proofs.lemmas.Int.{to_z-of_z}
use Rattle.block_steps.specs.Allocating.{AllocateTail, Allocates}
use Rattle.block_steps.specs.Blocks.{NoFault}
use Rattle.block_steps.specs.Releasing.{ReleaseTail}
use Rattle.changes.specs.Following.{WriteTail}
use Rattle.flow.specs.declared.instruction.Instr.TheVariants.{Number, Address, Move, Read, Write, Shift, ShiftBy, Compute, Convert, IfSame, IfDifferent, Allocate, Release, Fill, Copy, Input}
use Rattle.register_steps.specs.Gaining.{GainTail, size_held}
use Rattle.register_steps.specs.Lines.{size_given}
use Rattle.range_steps.specs.Filling.{FaultsFilling}
use Rattle.reinterpret.specs.Means.{ReadTail}
use Rattle.reinterpret.specs.Sameness.{EqualTail}
use Rattle.reinterpret.specs.States.{FaultsReading, FaultsWriting}
use Rattle.transfer.proofs.Asked.{read_ready, write_ready, same_ready, different_ready, fill_ready, release_ready, target_ready, source_ready, entered_ready, left_ready}
use Rattle.transfer.proofs.EndMeans.{end_step}
use Rattle.transfer.proofs.Listed.{of_listed, of_copied, of_released, equal_none}
use Rattle.transfer.proofs.Ready.{size_stands}
use Rattle.transfer.proofs.Meaning.{plain_access, stopped_access, stopped_step, alike_access, alike_regions, alike_step, refuse_step, finish_step, shift_step, shift_by_step, convert_step, leave_step, test_step, enter_step}
use Rattle.transfer.proofs.Fits.{gain_fit, read_fit, write_fit, stopped_write_fit, equal_fit, release_fit, allocate_fit, refuse_fit, enter_fit, leave_fit, finish_fit, close_fit, move_stands, compute_stands}
use Rattle.transfer.proofs.instruction.post_of.Goals as goal

pub read-requires-clause-address : goal.read-requires-clause-address
read-requires-clause-address c =
    read_ready c.args.flow.now c.args.point c.args.instr.now c.args.graph.now c.requires.may c.value_count.ensures.graph c.in-Read.into c.in-Read.at c.in-Read.size c.in-Read.pointer c.in-Read.is

pub write-requires-clause-address : goal.write-requires-clause-address
write-requires-clause-address c =
    write_ready c.args.flow.now c.args.point c.args.instr.now c.args.graph.now c.requires.may c.value_count.ensures.graph c.in-Write.at c.in-Write.from c.in-Write.size c.in-Write.is

pub test_equal-requires : goal.test_equal-requires
test_equal-requires c = record {
  values = same_ready c.args.flow.now c.args.point c.args.instr.now c.args.graph.now c.requires.may c.value_count.ensures.graph c.in-IfSame.left c.in-IfSame.right c.in-IfSame.is;
}

pub test_equal-requires-in-IfDifferent : goal.test_equal-requires-in-IfDifferent
test_equal-requires-in-IfDifferent c = record {
  values = different_ready c.args.flow.now c.args.point c.args.instr.now c.args.graph.now c.requires.may c.value_count.ensures.graph c.in-IfDifferent.left c.in-IfDifferent.right c.in-IfDifferent.is;
}

pub fill-requires-clause-address : goal.fill-requires-clause-address
fill-requires-clause-address c =
    fill_ready c.args.flow.now c.args.point c.args.instr.now c.args.graph.now c.requires.may c.value_count.ensures.graph c.in-Fill.at c.in-Fill.from c.in-Fill.length c.in-Fill.is

pub copy-requires-clause-target : goal.copy-requires-clause-target
copy-requires-clause-target c =
    target_ready c.args.flow.now c.args.point c.args.instr.now c.args.graph.now c.requires.may c.value_count.ensures.graph c.in-Copy.to c.in-Copy.from c.in-Copy.length c.in-Copy.disjoint c.in-Copy.is

pub copy-requires-clause-source : goal.copy-requires-clause-source
copy-requires-clause-source c =
    source_ready c.args.flow.now c.args.point c.args.instr.now c.args.graph.now c.requires.may c.value_count.ensures.graph c.in-Copy.to c.in-Copy.from c.in-Copy.length c.in-Copy.disjoint c.in-Copy.is

pub entered-requires : goal.entered-requires
entered-requires c = record {
  may = entered_ready c.args.flow.now c.args.point c.args.instr.now c.args.graph.now c.requires.may c.value_count.ensures.graph c.in-Enter.variables c.as_slice.result.now c.as_slice.ensures c.in-Enter.is;
}

pub leave-requires : goal.leave-requires
leave-requires c = record {
  may = left_ready c.args.flow.now c.args.point c.args.instr.now c.args.graph.now c.requires.may c.value_count.ensures.graph c.in-Leave.variables c.as_slice-in-Leave.result.now c.as_slice-in-Leave.ensures c.in-Leave.is;
}

pub returns-in-Number-clause-means : goal.returns-in-Number-clause-means
returns-in-Number-clause-means c =
    stopped_step c.args.flow.now c.args.point c.args.instr.now (Number c.in-Number.into c.in-Number.value c.in-Number.size) c.args.graph.now c.in-Number.is (GainTail c.args.graph.now [] c.in-Number.into c.in-Number.size) c.number.result c.stop.result refl refl c.stop.ensures c.number.ensures.post c.number.ensures.means

pub returns-in-Address-clause-means : goal.returns-in-Address-clause-means
returns-in-Address-clause-means c =
    stopped_step c.args.flow.now c.args.point c.args.instr.now (Address c.in-Address.into c.in-Address.variable) c.args.graph.now c.in-Address.is (GainTail c.args.graph.now [] c.in-Address.into 8) c.address.result c.stop-in-Address.result refl refl c.stop-in-Address.ensures c.address.ensures.post c.address.ensures.means

pub returns-in-Move-clause-means : goal.returns-in-Move-clause-means
returns-in-Move-clause-means c =
    stopped_step c.args.flow.now c.args.point c.args.instr.now (Move c.in-Move.into c.in-Move.from) c.args.graph.now c.in-Move.is (GainTail c.args.graph.now [] c.in-Move.into (size_held c.args.graph.now c.in-Move.from)) c.move_to.result c.stop-in-Move.result refl refl c.stop-in-Move.ensures c.move_to.ensures.post c.move_to.ensures.means

pub returns-in-Read-clause-means : goal.returns-in-Read-clause-means
returns-in-Read-clause-means c =
    stopped_access c.args.flow.now c.args.point c.args.instr.now (Read c.in-Read.into c.in-Read.at c.in-Read.size c.in-Read.pointer) c.args.graph.now c.in-Read.is (ReadTail c.args.graph.now (c.in-Read.at ∷ []) c.in-Read.into c.in-Read.size) c.read.result c.stop-in-Read.result refl c.stop-in-Read.ensures c.read.ensures.post c.read.ensures.means
    (of_listed c.args.graph.now (λ kind. FaultsReading c.in-Read.at c.in-Read.size kind) c.read.result c.read.ensures.listed)

pub returns-in-Write-clause-means : goal.returns-in-Write-clause-means
returns-in-Write-clause-means c =
    stopped_access c.args.flow.now c.args.point c.args.instr.now (Write c.in-Write.at c.in-Write.from c.in-Write.size) c.args.graph.now c.in-Write.is (WriteTail c.args.graph.now (c.in-Write.at ∷ c.in-Write.from ∷ [])) c.write.result c.stop-in-Write.result refl c.stop-in-Write.ensures c.write.ensures.post c.write.ensures.means
    (of_listed c.args.graph.now (λ kind. FaultsWriting c.in-Write.at c.in-Write.size c.in-Write.from kind) c.write.result c.write.ensures.listed)

pub returns-in-Shift-clause-means : goal.returns-in-Shift-clause-means
returns-in-Shift-clause-means c =
    shift_step c.args.flow.now c.args.point c.args.instr.now c.args.graph.now c.in-Shift.into c.in-Shift.at c.in-Shift.by (to_z w64 (of_z w64 c.in-Shift.by)) (GainTail c.args.graph.now (c.in-Shift.at ∷ []) c.in-Shift.into 8) c.shift.result c.stop-in-Shift.result c.in-Shift.is
    (to_z-of_z w64 c.in-Shift.by (search rules)) c.stop-in-Shift.ensures c.shift.ensures.post c.shift.ensures.means

pub returns-in-ShiftBy-clause-means : goal.returns-in-ShiftBy-clause-means
returns-in-ShiftBy-clause-means c =
    shift_by_step c.args.flow.now c.args.point c.args.instr.now c.args.graph.now c.in-ShiftBy.into c.in-ShiftBy.at c.in-ShiftBy.by c.in-ShiftBy.scale (to_z w64 (of_z w64 c.in-ShiftBy.scale)) (GainTail c.args.graph.now (c.in-ShiftBy.at ∷ c.in-ShiftBy.by ∷ []) c.in-ShiftBy.into 8) c.shift_by.result c.stop-in-ShiftBy.result
    c.in-ShiftBy.is (to_z-of_z w64 c.in-ShiftBy.scale (search rules)) c.stop-in-ShiftBy.ensures c.shift_by.ensures.post c.shift_by.ensures.means

pub returns-in-Compute-clause-means : goal.returns-in-Compute-clause-means
returns-in-Compute-clause-means c =
    stopped_step c.args.flow.now c.args.point c.args.instr.now (Compute c.in-Compute.into c.in-Compute.op c.in-Compute.left c.in-Compute.right c.in-Compute.size c.in-Compute.signed) c.args.graph.now c.in-Compute.is (GainTail c.args.graph.now (c.in-Compute.left ∷ c.in-Compute.right ∷ []) c.in-Compute.into (size_given c.in-Compute.op c.in-Compute.size)) c.compute.result c.stop-in-Compute.result refl refl c.stop-in-Compute.ensures c.compute.ensures.post c.compute.ensures.means

pub returns-in-Input-clause-means : goal.returns-in-Input-clause-means
returns-in-Input-clause-means c =
    stopped_step c.args.flow.now c.args.point c.args.instr.now (Input c.in-Input.into c.in-Input.size c.in-Input.signed c.in-Input.truth) c.args.graph.now c.in-Input.is (GainTail c.args.graph.now [] c.in-Input.into c.in-Input.size) c.input.result c.stop-in-Input.result refl refl c.stop-in-Input.ensures c.input.ensures.post c.input.ensures.means

pub returns-in-Convert-clause-means : goal.returns-in-Convert-clause-means
returns-in-Convert-clause-means c =
    convert_step c.args.flow.now c.args.point c.args.instr.now c.args.graph.now c.in-Convert.into c.in-Convert.from c.in-Convert.size c.in-Convert.signed (GainTail c.args.graph.now (c.in-Convert.from ∷ []) c.in-Convert.into c.in-Convert.size) c.convert.result c.stop-in-Convert.result
    c.in-Convert.is (size_stands c.args.flow.now c.args.point c.args.graph.now c.requires.may.fits c.value_count.ensures.graph c.in-Convert.from) c.stop-in-Convert.ensures c.convert.ensures.post c.convert.ensures.means

pub returns-in-Allocate-clause-means : goal.returns-in-Allocate-clause-means
returns-in-Allocate-clause-means c =
    alike_step c.args.flow.now c.args.point c.args.instr.now (Allocate c.in-Allocate.into c.in-Allocate.bytes c.in-Allocate.zeroed) c.args.graph.now c.in-Allocate.is (AllocateTail c.args.graph.now c.in-Allocate.bytes c.in-Allocate.zeroed c.in-Allocate.into) c.allocate.result refl refl
    c.allocate.ensures.post c.allocate.ensures.means
    (alike_regions c.args.graph.now (Allocates c.in-Allocate.bytes c.in-Allocate.zeroed c.in-Allocate.into) NoFault (AllocateTail c.args.graph.now c.in-Allocate.bytes c.in-Allocate.zeroed c.in-Allocate.into) c.allocate.result c.allocate.ensures.means)

pub returns-in-AllocateNone-clause-means : goal.returns-in-AllocateNone-clause-means
returns-in-AllocateNone-clause-means c = refuse_step c.args.flow.now c.args.point c.args.instr.now c.args.graph.now c.in-AllocateNone.into c.refuse.result c.in-AllocateNone.is c.refuse.ensures.sound c.refuse.ensures.exact c.refuse.ensures.faultless

pub returns-in-Fill-clause-means : goal.returns-in-Fill-clause-means
returns-in-Fill-clause-means c =
    plain_access c.args.flow.now c.args.point c.args.instr.now (Fill c.in-Fill.at c.in-Fill.from c.in-Fill.length) c.args.graph.now c.in-Fill.is (WriteTail c.args.graph.now (c.in-Fill.at ∷ c.in-Fill.from ∷ [])) c.fill.result refl c.fill.ensures.post c.fill.ensures.means
    (of_listed c.args.graph.now (λ kind. FaultsFilling c.in-Fill.at c.in-Fill.from c.in-Fill.length kind) c.fill.result c.fill.ensures.listed)

pub returns-in-Copy-clause-means : goal.returns-in-Copy-clause-means
returns-in-Copy-clause-means c =
    plain_access c.args.flow.now c.args.point c.args.instr.now (Copy c.in-Copy.to c.in-Copy.from c.in-Copy.length c.in-Copy.disjoint) c.args.graph.now c.in-Copy.is (WriteTail c.args.graph.now (c.in-Copy.to ∷ c.in-Copy.from ∷ [])) c.copy.result refl c.copy.ensures.post c.copy.ensures.means
    (of_copied c.args.graph.now c.in-Copy.to c.in-Copy.from c.in-Copy.length c.in-Copy.disjoint c.copy.result c.copy.ensures.listed)

pub returns-in-Leave-clause-means : goal.returns-in-Leave-clause-means
returns-in-Leave-clause-means c =
    leave_step c.args.flow.now c.args.point c.args.instr.now c.args.graph.now c.in-Leave.variables c.as_slice-in-Leave.result.now c.leave.result c.in-Leave.is c.as_slice-in-Leave.ensures c.leave.ensures.post c.leave.ensures.means c.leave.ensures.regions

pub returns-in-Finish-clause-means : goal.returns-in-Finish-clause-means
returns-in-Finish-clause-means c = finish_step c.args.flow.now c.args.point c.args.instr.now c.args.graph.now c.in-Finish.registers c.finish.result c.in-Finish.is c.finish.ensures.post c.finish.ensures.sound c.finish.ensures.exact c.finish.ensures.kinds

pub returns-in-Close-clause-means : goal.returns-in-Close-clause-means
returns-in-Close-clause-means c = end_step c.args.flow.now c.args.point c.args.instr.now c.args.graph.now c.in-Close.is c.end.result c.end.ensures.means

pub release-requires : goal.release-requires
release-requires c = record { address = release_ready c.args.flow.now c.args.point c.args.instr.now c.args.graph.now c.requires.may c.value_count.ensures.graph c.in-Release.at c.in-Release.is }

pub returns-in-Release-clause-means : goal.returns-in-Release-clause-means
returns-in-Release-clause-means c =
    alike_access c.args.flow.now c.args.point c.args.instr.now (Release c.in-Release.at) c.args.graph.now c.in-Release.is (ReleaseTail c.args.graph.now (c.in-Release.at ∷ [])) c.release.result refl c.release.ensures.post c.release.ensures.means c.release.ensures.regions
    (of_released c.args.graph.now c.in-Release.at c.release.result c.release.ensures.listed)

pub returns-in-IfSame-clause-means : goal.returns-in-IfSame-clause-means
returns-in-IfSame-clause-means c =
    test_step c.args.flow.now c.args.point c.args.instr.now (IfSame c.in-IfSame.left c.in-IfSame.right) c.args.graph.now c.in-IfSame.is (EqualTail c.args.graph.now (c.in-IfSame.left ∷ c.in-IfSame.right ∷ [])) c.test_equal.result
    (equal_none c.args.graph.now c.in-IfSame.left c.in-IfSame.right true) c.test_equal.ensures.post c.test_equal.ensures.means c.test_equal.ensures.sound

pub returns-in-IfDifferent-clause-means : goal.returns-in-IfDifferent-clause-means
returns-in-IfDifferent-clause-means c =
    test_step c.args.flow.now c.args.point c.args.instr.now (IfDifferent c.in-IfDifferent.left c.in-IfDifferent.right) c.args.graph.now c.in-IfDifferent.is (EqualTail c.args.graph.now (c.in-IfDifferent.left ∷ c.in-IfDifferent.right ∷ [])) c.test_equal-in-IfDifferent.result
    (equal_none c.args.graph.now c.in-IfDifferent.left c.in-IfDifferent.right false) c.test_equal-in-IfDifferent.ensures.post c.test_equal-in-IfDifferent.ensures.means c.test_equal-in-IfDifferent.ensures.sound

pub returns-in-Enter-clause-means : goal.returns-in-Enter-clause-means
returns-in-Enter-clause-means c = enter_step c.args.flow.now c.args.point c.args.instr.now c.args.graph.now c.in-Enter.variables c.as_slice.result.now c.entered.result c.in-Enter.is c.as_slice.ensures c.entered.ensures.post c.entered.ensures.means

pub returns-in-Number-clause-fits : goal.returns-in-Number-clause-fits
returns-in-Number-clause-fits c =
    gain_fit c.args.flow.now c.args.point c.args.instr.now c.args.graph.now c.requires.may c.value_count.ensures.graph _ _ (Number c.in-Number.into c.in-Number.value c.in-Number.size) [] c.in-Number.into c.in-Number.size c.in-Number.is refl c.number.result c.stop.result c.stop.ensures c.number.ensures.post c.number.ensures.means

pub returns-in-Address-clause-fits : goal.returns-in-Address-clause-fits
returns-in-Address-clause-fits c =
    gain_fit c.args.flow.now c.args.point c.args.instr.now c.args.graph.now c.requires.may c.value_count.ensures.graph _ _ (Address c.in-Address.into c.in-Address.variable) [] c.in-Address.into 8 c.in-Address.is refl c.address.result c.stop-in-Address.result c.stop-in-Address.ensures c.address.ensures.post c.address.ensures.means

pub returns-in-Move-clause-fits : goal.returns-in-Move-clause-fits
returns-in-Move-clause-fits c =
    gain_fit c.args.flow.now c.args.point c.args.instr.now c.args.graph.now c.requires.may c.value_count.ensures.graph _ _ (Move c.in-Move.into c.in-Move.from) [] c.in-Move.into (size_held c.args.graph.now c.in-Move.from) c.in-Move.is (move_stands c.args.flow.now c.args.point c.args.instr.now c.args.graph.now c.requires.may c.value_count.ensures.graph c.in-Move.into c.in-Move.from c.in-Move.is (size_stands c.args.flow.now c.args.point c.args.graph.now c.requires.may.fits c.value_count.ensures.graph c.in-Move.from)) c.move_to.result c.stop-in-Move.result c.stop-in-Move.ensures c.move_to.ensures.post c.move_to.ensures.means

pub returns-in-Read-clause-fits : goal.returns-in-Read-clause-fits
returns-in-Read-clause-fits c =
    read_fit c.args.flow.now c.args.point c.args.instr.now c.args.graph.now c.requires.may c.value_count.ensures.graph _ _ (Read c.in-Read.into c.in-Read.at c.in-Read.size c.in-Read.pointer) (c.in-Read.at ∷ []) c.in-Read.into c.in-Read.size c.in-Read.is refl c.read.result c.stop-in-Read.result c.stop-in-Read.ensures c.read.ensures.post c.read.ensures.means

pub returns-in-Write-clause-fits : goal.returns-in-Write-clause-fits
returns-in-Write-clause-fits c =
    stopped_write_fit c.args.flow.now c.args.point c.args.instr.now c.args.graph.now c.requires.may c.value_count.ensures.graph _ _ (Write c.in-Write.at c.in-Write.from c.in-Write.size) (c.in-Write.at ∷ c.in-Write.from ∷ []) c.in-Write.is refl c.write.result c.stop-in-Write.result c.stop-in-Write.ensures c.write.ensures.post c.write.ensures.means

pub returns-in-Shift-clause-fits : goal.returns-in-Shift-clause-fits
returns-in-Shift-clause-fits c =
    gain_fit c.args.flow.now c.args.point c.args.instr.now c.args.graph.now c.requires.may c.value_count.ensures.graph _ _ (Shift c.in-Shift.into c.in-Shift.at (to_z w64 (of_z w64 c.in-Shift.by))) (c.in-Shift.at ∷ []) c.in-Shift.into 8 (c.in-Shift.is ∙ ap (λ (z : ℤ). Shift c.in-Shift.into c.in-Shift.at z) (sym (to_z-of_z w64 c.in-Shift.by (search rules)))) refl c.shift.result c.stop-in-Shift.result c.stop-in-Shift.ensures c.shift.ensures.post c.shift.ensures.means

pub returns-in-ShiftBy-clause-fits : goal.returns-in-ShiftBy-clause-fits
returns-in-ShiftBy-clause-fits c =
    gain_fit c.args.flow.now c.args.point c.args.instr.now c.args.graph.now c.requires.may c.value_count.ensures.graph _ _ (ShiftBy c.in-ShiftBy.into c.in-ShiftBy.at c.in-ShiftBy.by (to_z w64 (of_z w64 c.in-ShiftBy.scale))) (c.in-ShiftBy.at ∷ c.in-ShiftBy.by ∷ []) c.in-ShiftBy.into 8 (c.in-ShiftBy.is ∙ ap (λ (z : ℤ). ShiftBy c.in-ShiftBy.into c.in-ShiftBy.at c.in-ShiftBy.by z) (sym (to_z-of_z w64 c.in-ShiftBy.scale (search rules)))) refl c.shift_by.result c.stop-in-ShiftBy.result c.stop-in-ShiftBy.ensures c.shift_by.ensures.post c.shift_by.ensures.means

pub returns-in-Compute-clause-fits : goal.returns-in-Compute-clause-fits
returns-in-Compute-clause-fits c =
    gain_fit c.args.flow.now c.args.point c.args.instr.now c.args.graph.now c.requires.may c.value_count.ensures.graph _ _ (Compute c.in-Compute.into c.in-Compute.op c.in-Compute.left c.in-Compute.right c.in-Compute.size c.in-Compute.signed) (c.in-Compute.left ∷ c.in-Compute.right ∷ []) c.in-Compute.into (size_given c.in-Compute.op c.in-Compute.size) c.in-Compute.is (compute_stands c.args.flow.now c.args.point c.args.instr.now c.args.graph.now c.requires.may c.value_count.ensures.graph c.in-Compute.into c.in-Compute.op c.in-Compute.left c.in-Compute.right c.in-Compute.size c.in-Compute.signed) c.compute.result c.stop-in-Compute.result c.stop-in-Compute.ensures c.compute.ensures.post c.compute.ensures.means

pub returns-in-Convert-clause-fits : goal.returns-in-Convert-clause-fits
returns-in-Convert-clause-fits c =
    gain_fit c.args.flow.now c.args.point c.args.instr.now c.args.graph.now c.requires.may c.value_count.ensures.graph _ _ (Convert c.in-Convert.into c.in-Convert.from c.in-Convert.size c.in-Convert.signed) (c.in-Convert.from ∷ []) c.in-Convert.into c.in-Convert.size c.in-Convert.is refl c.convert.result c.stop-in-Convert.result c.stop-in-Convert.ensures c.convert.ensures.post c.convert.ensures.means

pub returns-in-Input-clause-fits : goal.returns-in-Input-clause-fits
returns-in-Input-clause-fits c =
    gain_fit c.args.flow.now c.args.point c.args.instr.now c.args.graph.now c.requires.may c.value_count.ensures.graph _ _ (Input c.in-Input.into c.in-Input.size c.in-Input.signed c.in-Input.truth) [] c.in-Input.into c.in-Input.size c.in-Input.is refl c.input.result c.stop-in-Input.result c.stop-in-Input.ensures c.input.ensures.post c.input.ensures.means

pub returns-in-IfSame-clause-fits : goal.returns-in-IfSame-clause-fits
returns-in-IfSame-clause-fits c =
    equal_fit c.args.flow.now c.args.point c.args.instr.now c.args.graph.now c.requires.may c.value_count.ensures.graph _ _ (IfSame c.in-IfSame.left c.in-IfSame.right) (c.in-IfSame.left ∷ c.in-IfSame.right ∷ []) c.in-IfSame.is refl c.test_equal.result c.test_equal.ensures.post c.test_equal.ensures.means

pub returns-in-IfDifferent-clause-fits : goal.returns-in-IfDifferent-clause-fits
returns-in-IfDifferent-clause-fits c =
    equal_fit c.args.flow.now c.args.point c.args.instr.now c.args.graph.now c.requires.may c.value_count.ensures.graph _ _ (IfDifferent c.in-IfDifferent.left c.in-IfDifferent.right) (c.in-IfDifferent.left ∷ c.in-IfDifferent.right ∷ []) c.in-IfDifferent.is refl c.test_equal-in-IfDifferent.result c.test_equal-in-IfDifferent.ensures.post c.test_equal-in-IfDifferent.ensures.means

pub returns-in-Allocate-clause-fits : goal.returns-in-Allocate-clause-fits
returns-in-Allocate-clause-fits c =
    allocate_fit c.args.flow.now c.args.point c.args.instr.now c.args.graph.now c.requires.may c.value_count.ensures.graph _ _ _ c.in-Allocate.into c.in-Allocate.bytes c.in-Allocate.zeroed c.in-Allocate.is c.allocate.result c.allocate.ensures.post c.allocate.ensures.means

pub returns-in-AllocateNone-clause-fits : goal.returns-in-AllocateNone-clause-fits
returns-in-AllocateNone-clause-fits c =
    refuse_fit c.args.flow.now c.args.point c.args.instr.now c.args.graph.now c.requires.may c.value_count.ensures.graph c.in-AllocateNone.into c.in-AllocateNone.is c.refuse.result c.refuse.ensures.post

pub returns-in-Release-clause-fits : goal.returns-in-Release-clause-fits
returns-in-Release-clause-fits c =
    release_fit c.args.flow.now c.args.point c.args.instr.now c.args.graph.now c.requires.may c.value_count.ensures.graph _ _ _ (Release c.in-Release.at) (c.in-Release.at ∷ []) c.in-Release.is refl c.release.result c.release.ensures.post c.release.ensures.means

pub returns-in-Fill-clause-fits : goal.returns-in-Fill-clause-fits
returns-in-Fill-clause-fits c =
    write_fit c.args.flow.now c.args.point c.args.instr.now c.args.graph.now c.requires.may c.value_count.ensures.graph _ _ (Fill c.in-Fill.at c.in-Fill.from c.in-Fill.length) (c.in-Fill.at ∷ c.in-Fill.from ∷ []) c.in-Fill.is refl c.fill.result c.fill.ensures.post c.fill.ensures.means

pub returns-in-Copy-clause-fits : goal.returns-in-Copy-clause-fits
returns-in-Copy-clause-fits c =
    write_fit c.args.flow.now c.args.point c.args.instr.now c.args.graph.now c.requires.may c.value_count.ensures.graph _ _ (Copy c.in-Copy.to c.in-Copy.from c.in-Copy.length c.in-Copy.disjoint) (c.in-Copy.to ∷ c.in-Copy.from ∷ []) c.in-Copy.is refl c.copy.result c.copy.ensures.post c.copy.ensures.means

pub returns-in-Enter-clause-fits : goal.returns-in-Enter-clause-fits
returns-in-Enter-clause-fits c =
    enter_fit c.args.flow.now c.args.point c.args.instr.now c.args.graph.now c.requires.may c.value_count.ensures.graph _ _ _ c.in-Enter.variables c.as_slice.result.now c.in-Enter.is c.as_slice.ensures c.entered.result c.entered.ensures.post c.entered.ensures.means

pub returns-in-Leave-clause-fits : goal.returns-in-Leave-clause-fits
returns-in-Leave-clause-fits c =
    leave_fit c.args.flow.now c.args.point c.args.instr.now c.args.graph.now c.requires.may c.value_count.ensures.graph _ _ _ c.requires.flow c.in-Leave.variables c.as_slice-in-Leave.result.now c.in-Leave.is c.as_slice-in-Leave.ensures c.leave.result c.leave.ensures.post c.leave.ensures.means

pub returns-in-Finish-clause-fits : goal.returns-in-Finish-clause-fits
returns-in-Finish-clause-fits c =
    finish_fit c.args.flow.now c.args.point c.args.instr.now c.args.graph.now c.requires.may c.value_count.ensures.graph c.in-Finish.registers c.in-Finish.is c.finish.result c.finish.ensures.post

pub returns-in-Close-clause-fits : goal.returns-in-Close-clause-fits
returns-in-Close-clause-fits c =
    close_fit c.args.flow.now c.args.point c.args.instr.now c.args.graph.now c.requires.may c.value_count.ensures.graph c.in-Close.is c.end.result c.end.ensures.post
