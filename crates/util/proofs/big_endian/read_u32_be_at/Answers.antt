-- `util::big_endian::read_u32_be_at` meets its contract: std adds the bytes up as the law over the width does.
use Rattle.std.proofs.Common.{◌∙◌, arith}
use Rattle.util.proofs.BigEndianLaws.{big_read, big_unread}
use Rattle.util.proofs.big_endian.read_u32_be_at.Goals as goal

pub returns-in_err-bytes_at : goal.returns-in_err-bytes_at
returns-in_err-bytes_at c = c.from_residual.ensures ∙ big_unread 4 _ _ c.in_err-bytes_at.ensures

pub returns : goal.returns
returns c = big_read 4 _ _ _ _ c.in_ok-bytes_at.ensures (omega (arith, c.from_be_bytes.ensures))
