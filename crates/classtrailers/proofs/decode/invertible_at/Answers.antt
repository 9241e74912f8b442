-- `classtrailers::decode::invertible_at` meets its contract.
use native.Mathlib.Omega.{arith}
use mathlib.Core.Path.{refl}
use Rattle.classtrailers.proofs.CallsLaws.{no_header, set_says, set_counted, ends_as}
use Rattle.classtrailers.specs.Blocks.{row_at}
use Rattle.classtrailers.proofs.decode.invertible_at.Goals as goal

pub returns-then-header-lt2 : goal.returns-then-header-lt2
unfolding row_at
returns-then-header-lt2 g c = no_header _ _ _ 1 _ c.read_bytes-header.ensures _ refl (omega arith)

pub returns : goal.returns
unfolding row_at
returns g c = set_says _ _ _ 1 _ c.read_bytes-header.ensures _ refl (omega arith) refl _ (set_counted _ _ _ _ c.u16_at-bits.ensures (omega arith) (ends_as _ _ _ c.end_of.ensures))
