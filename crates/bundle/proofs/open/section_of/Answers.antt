-- `bundle::open::section_of` meets its contract: the address is read, as a body within the bytes has one.
use Rattle.std.proofs.Common.{arith}
use Rattle.util.proofs.AnswersLaws.{known}
use Rattle.bundle.proofs.OpenLaws.{section_read, section_there, section_missing}
use Rattle.bundle.proofs.open.section_of.Goals as goal

pub returns-then-body-lt8 : goal.returns-then-body-lt8
returns-then-body-lt8 c = section_missing _ _ c.if-body-lt8.true

pub unwrap-requires : goal.unwrap-requires
unwrap-requires c = section_read _ c.args.body c.read_u64_le_at.ensures (omega arith)

pub returns : goal.returns
returns c = section_there _ c.args.body _ (known c.read_u64_le_at.ensures c.unwrap.ensures) c.if-body-lt8.false
