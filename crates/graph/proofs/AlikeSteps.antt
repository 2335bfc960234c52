-- Steps and faults respect alike memories.
use Rattle.graph.specs.AlikeSteps.{AreAlikeRespected}
use Rattle.graph.proofs.AlikeReads.{access_fault-alike, range_fault-alike, copy_fault-alike, free_fault-alike, bytes_at-alike, byte_number-alike, pointer-alike, loaded-alike, parts-alike, names_at, loaded_names, address_number-alike, is_same-alike}
use Rattle.graph.proofs.AlikeAddresses.{same_within, moved-renumbered, lowest-alike, not_null-alike}
use Rattle.graph.proofs.AlikeLosses.{room-alike, loss-alike}
use Rattle.graph.proofs.AlikeChanges.{stored-alike, filled-alike, copied-alike, freed-alike, without-alike}
use Rattle.graph.proofs.AlikePlaced.{placed-alike}

pub alike_respected : AreAlikeRespected
alike_respected = record {
  faults = λ there back paired one other are. record {
    accesses = access_fault-alike there back paired one other are;
    ranges = range_fault-alike there back paired one other are;
    copies = copy_fault-alike there back paired one other are;
    frees = free_fault-alike there back paired one other are;
    room = room-alike there back paired one other are;
    loss = loss-alike there back paired one other are;
  };
  reads = λ there back paired one other are. record {
    bytes = bytes_at-alike there back paired one other are;
    numbers = byte_number-alike there back paired one other are;
    pointers = pointer-alike there back paired one other are;
    loads = loaded-alike there back paired one other are;
    parts = parts-alike there back paired one other are;
    names = names_at there back paired one other are;
    loaded_names = loaded_names there back paired one other are;
  };
  compares = λ there back paired one other are. record {
    addresses = address_number-alike there back paired one other are;
    equality = is_same-alike there back paired one other are;
    within = λ block offset offset'. same_within one other block (there block) offset offset';
    moves = moved-renumbered there;
  };
  dangles = λ there back paired one other are is is'. record {
    lowest = lowest-alike there back paired one other are is is';
    not_null = not_null-alike there back paired one other are is is';
  };
  changes = λ there back paired one other are. record {
    stores = stored-alike there back paired one other are;
    fills = filled-alike there back paired one other are;
    copies = copied-alike there back paired one other are;
    frees = freed-alike there back paired one other are;
    ends = without-alike there back paired one other are;
    places = placed-alike there back paired one other are;
  };
}
