-- `leb128::leb128::read_chunks` meets its contract. The invariant: the bytes passed all go on, and have these bits.
use Prim.Native.Nat.{◌^◌, ◌≤◌, ◌-◌}
use mathlib.Core.Path.{◌≡◌}
use Rattle.leb128.specs.Leb128Walk.{Running}
use Rattle.leb128.proofs.leb128.read_chunks.Given as goal

abbrev pub invariant-loop-i : goal.invariant-loop-i
invariant-loop-i l = Running l.bytes l.i l.bits × (l.weight ≡ 128 ^ l.i) × (l.i ≤ 9)

abbrev pub decreases-loop-i : goal.decreases-loop-i
decreases-loop-i l = 9 - l.i
