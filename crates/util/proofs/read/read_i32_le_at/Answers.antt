-- `util::read::read_i32_le_at` meets its contract: the unsigned number's bits, read as signed.
use Rattle.std.proofs.Common.{◌∙◌, arith, to_z-of_z, w32}
use Rattle.util.proofs.Signed.{signed_bits}
use Rattle.util.proofs.LittleEndianLaws.{signed_found, signed_nothing}
use Rattle.util.proofs.read.read_i32_le_at.Goals as goal

pub returns-in_err-read_u32_le_at : goal.returns-in_err-read_u32_le_at
returns-in_err-read_u32_le_at c = c.from_residual.ensures ∙ signed_nothing 4 _ _ c.in_err-read_u32_le_at.ensures

pub returns : goal.returns
returns c =
    signed_found 4 _ _ _ _ c.in_ok-read_u32_le_at.ensures
    (to_z-of_z {w = w32} (record { sfits = c.cast_signed.type_inv }) ∙ c.cast_signed.ensures ∙ signed_bits w32 _ (omega arith))
