-- `full_rows::rows::put_rows` meets its contract. The invariant: the rows before `slot` are written, `n` of them, and the mapping is true.
use Prim.Native.Nat.{◌*◌}
use Rattle.typedescriptor.proofs.GivenLaws.{Going}
use Rattle.full_rows.specs.FullRows.{full_row}
use Rattle.full_rows.proofs.rows.put_rows.Given as goal

abbrev pub invariant-loop-slot : goal.invariant-loop-slot
invariant-loop-slot l =
    Going (full_row l.rt.image.now l.rt.segments.now) l.rt.image.now l.rt.segments.now l.types.body.now l.types.vmaddr l.start l.fn.buffer l.slot (58 * l.n) l.mapping l.buffer
