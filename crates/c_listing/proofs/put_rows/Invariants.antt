-- `c_listing::put_rows` meets its contract. The invariant: the records of the rows before `slot` are written, and the mapping is true.
use Rattle.typedescriptor.proofs.GivenLaws.{Going}
use Rattle.c_listing.specs.Listing.{row_bytes}
use Rattle.c_listing.proofs.put_rows.Given as goal

abbrev pub invariant-loop-slot : goal.invariant-loop-slot
invariant-loop-slot l =
    Going (row_bytes l.image l.segments) l.image l.segments l.types.body.now l.types.vmaddr l.start l.initial.buffer l.slot l.at l.mapping l.buffer
