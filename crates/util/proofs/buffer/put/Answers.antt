-- `util::buffer::put` meets its contract.
use Rattle.std.proofs.Common.{arith, ◌+◌, ◌<◌, length}
use Rattle.util.proofs.BufferLaws.{put_whole, fits_end, fits_into, past_end, past_into}
use Rattle.util.proofs.buffer.put.Goals as goal
use Rattle.util.proofs.buffer.put.Goals.{then-buffer-at-via-then-buffer-at, then-buffer-at-via-else-buffer-at+then-buffer-at-2}

pub returns-then-buffer-at : goal.returns-then-buffer-at
returns-then-buffer-at c =
    let past : length c.args.buffer.now < c.args.at + length c.args.piece.now =
    elim c.then-buffer-at.branch [ then-buffer-at-via-then-buffer-at w ↦ omega arith | then-buffer-at-via-else-buffer-at+then-buffer-at-2 w ↦ omega arith ] in
    record { value = past_end _ _ _ past; buffer_after = past_into _ _ _ past }

pub returns : goal.returns
returns c =
    let w = put_whole c.args.buffer.now c.args.piece.now _ c.args.at _ (omega arith) c.copy_from_slice.ensures.after in
    record { value = fits_end _ _ _ _ w.ends (omega arith); buffer_after = fits_into _ _ _ _ w.holds (omega arith) }
