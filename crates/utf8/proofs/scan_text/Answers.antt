use Rattle.std.specs.Prelude.{true}
use native.Mathlib.Nat.{zero-add}
use native.Mathlib.Omega.{arith}
use mathlib.Core.Path.{refl}
use Rattle.utf8.proofs.Walk.{start, plain_walk, ascii_step, at_nul, at_end_lem, ends}
use Rattle.utf8.proofs.scan_text.Goals as goal

pub loop-i-init : goal.loop-i-init
loop-i-init c =
    let p = c.plain_prefix-i.ensures in
    rw zero-add at (plain_walk _ 0 _ p.1 (omega arith) (start _))

pub returns-then-b-eq0 : goal.returns-then-b-eq0
returns-then-b-eq0 c =
    ends _ {formed = true} refl refl c.loop-i.invariant (at_nul _ _ c.loop-i-test.true c.if-b-eq0.true)

pub scan_from-requires : goal.scan_from-requires
scan_from-requires c = (omega arith, c.loop-i.invariant)

pub loop-i-preserved : goal.loop-i-preserved
loop-i-preserved c = ascii_step _ _ c.loop-i-test.true c.if-b-eq0.false c.if-b-ge128.false c.loop-i.invariant

pub returns : goal.returns
returns c = ends _ {formed = true} (omega (arith, c.plain_prefix-i.ensures)) refl c.loop-i.invariant (at_end_lem _ _ c.loop-i-test.false)
