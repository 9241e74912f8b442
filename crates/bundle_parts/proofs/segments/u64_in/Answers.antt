-- `bundle_parts::segments::u64_in` meets its contract: the bytes can be read.
use Rattle.std.specs.Prelude.{ℕ, ◌+◌, ◌≤◌, ◌≡◌, List, length, Option, Some, None, IsSome}
use Rattle.std.proofs.Common.{arith, refl}
use Rattle.util.specs.LittleEndian.{little_at}
use Rattle.util.proofs.AnswersLaws.{known}
use Rattle.util.proofs.LittleEndianLaws.{little_value, little_beyond}
use Rattle.bundle_parts.proofs.segments.u64_in.Goals as goal

read : (s : List ℕ) (at : ℕ) (r : Option ℕ) → r ≡ little_at 8 s at → at + 8 ≤ length s → IsSome r
read s at (Some n) e h = refl
read s at None e h = absurd (omega (arith, little_beyond 8 s at e))

pub unwrap-requires : goal.unwrap-requires
unwrap-requires c = read _ _ _ c.read_u64_le_at.ensures c.requires

pub returns : goal.returns
returns c = little_value 8 _ _ _ (known c.read_u64_le_at.ensures c.unwrap.ensures)
