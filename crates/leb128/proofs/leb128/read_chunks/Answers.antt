use Rattle.std.proofs.Common.{get_or, ◌-◌}
use mathlib.Core.Path.{refl}
use native.Mathlib.Omega.{arith}
use native.Mathlib.Numerals.{add-one}
use native.Mathlib.Nat.{pow-suc}
use Rattle.leb128.proofs.Leb128Laws.{running_none, running_ends, running_more, running_last, small_weight, room, running_nine}
use Rattle.leb128.proofs.leb128.read_chunks.Goals as goal

pub loop-i-init : goal.loop-i-init
loop-i-init c = (running_none _, refl, omega arith)

pub returns-then-bytes-i : goal.returns-then-bytes-i
returns-then-bytes-i c = running_ends _ _ _ c.loop-i.invariant.0 (omega arith)

pub overflow_mul-result : goal.overflow_mul-result
overflow_mul-result c = record { fits = omega (arith, room _ _ _ c.loop-i.invariant.0 _ (get_or c.args.bytes.now c.loop-i.i 0) c.loop-i.invariant.1 (omega arith) (omega arith)) }

pub overflow_add-result : goal.overflow_add-result
overflow_add-result c = record { fits = omega (arith, room _ _ _ c.loop-i.invariant.0 _ (get_or c.args.bytes.now c.loop-i.i 0) c.loop-i.invariant.1 (omega arith) (omega arith)) }

pub overflow_mul-result-then-b-lt128 : goal.overflow_mul-result-then-b-lt128
overflow_mul-result-then-b-lt128 c = record { fits = omega (arith, small_weight _ _ c.loop-i.invariant.1 (omega arith)) }

pub returns-then-b-lt128 : goal.returns-then-b-lt128
returns-then-b-lt128 c = running_last _ _ _ c.loop-i.invariant.0 (omega arith) _ _ refl (omega arith) c.loop-i.invariant.1 (omega arith)

pub overflow_mul-bits : goal.overflow_mul-bits
overflow_mul-bits c = record { fits = omega (arith, room _ _ _ c.loop-i.invariant.0 _ (get_or c.args.bytes.now c.loop-i.i 0 - 128) c.loop-i.invariant.1 (omega arith) (omega arith)) }

pub overflow_add-bits : goal.overflow_add-bits
overflow_add-bits c = record { fits = omega (arith, room _ _ _ c.loop-i.invariant.0 _ (get_or c.args.bytes.now c.loop-i.i 0 - 128) c.loop-i.invariant.1 (omega arith) (omega arith)) }

pub overflow_mul-weight : goal.overflow_mul-weight
overflow_mul-weight c = record { fits = omega (arith, small_weight _ _ c.loop-i.invariant.1 (omega arith)) }

pub loop-i-preserved : goal.loop-i-preserved
loop-i-preserved c = (running_more _ _ _ c.loop-i.invariant.0 (omega arith) _ _ refl (omega arith) (omega arith) c.loop-i.invariant.1, rw (add-one, pow-suc, c.loop-i.invariant.1), omega arith)

pub tenth-requires : goal.tenth-requires
tenth-requires c = running_nine _ _ _ c.loop-i.invariant.0 (omega arith) (omega arith)

pub returns : goal.returns
returns c = c.tenth.ensures
