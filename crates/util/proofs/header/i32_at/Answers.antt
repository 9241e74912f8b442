-- `util::header::i32_at` meets its contract.
use Rattle.std.proofs.Common.{◌∙◌, to_z-of_z, w32}
use Rattle.util.proofs.LittleEndianLaws.{signed_in_lem}
use Rattle.util.proofs.header.i32_at.Goals as goal

pub returns : goal.returns
returns c =
    to_z-of_z {w = w32} (record { sfits = c.unwrap_or.type_inv }) ∙ c.unwrap_or.ensures ∙ signed_in_lem 4 _ _ _ c.read_i32_le_at.ensures
