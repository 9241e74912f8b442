-- `util::header::u32_at` meets its contract.
use Rattle.std.proofs.Common.{◌∙◌}
use Rattle.util.proofs.LittleEndianLaws.{unsigned_in_lem}
use Rattle.util.proofs.header.u32_at.Goals as goal

pub returns : goal.returns
returns c = c.unwrap_or.ensures ∙ unsigned_in_lem 4 _ _ _ c.read_u32_le_at.ensures
