use Rattle.std.specs.Prelude.{◌≡◌, ◌+◌, ◌-◌, ◌<◌, length}
use native.Mathlib.Omega.{arith}
use borrow.Author.Tests.{ltb-false}
use mathlib.Core.Path.{refl, sym, ap, ◌∙◌}
use Rattle.utf8.specs.Table.{◌to◌}
use Rattle.utf8.specs.Text.{text_length, leads}
use Rattle.utf8.proofs.Walk.{tail_low, lead_step, ascii_step, range_step, tail_step, tail_done, no_lead, no_range, no_tail, too_few, at_nul, at_end_lem, outcome, ends, ill_formed}
use Rattle.std.proofs.lemmas.Bool.{true≢false}
use Rattle.utf8.proofs.scan_from.Goals as goal
use Rattle.utf8.proofs.scan_from.Goals.{else-scan-test, then-scan-test+then-loop-i-test+then-b-lt128+then-b-eq0, then-scan-test+then-loop-i-test+else-b-lt128+in-Tail+then-s-i, then-scan-test+then-loop-i-test+else-b-lt128+in-Tail+else-s-i+then-second-low, then-second-low-via-then-second-low, then-second-low-via-else-second-low+then-high-second, then-scan-test+then-loop-i-test+else-b-lt128+in-Tail+else-s-i+else-second-low+else-high-second+then-loop-test+then-c-lt128, then-c-lt128-via-then-c-lt128, then-c-lt128-via-else-c-lt128+then-c-gt191, then-scan-test+then-loop-i-test+else-b-lt128+in-Invalid}

pub scan-init : goal.scan-init
scan-init c = let pre = c.requires in (pre.0, refl, pre.1)

pub loop-i-init : goal.loop-i-init
loop-i-init c = let at = c.scan in (at.invariant.0, at.invariant.1, at.invariant.2, omega arith)

pub loop-i-preserved-then-b-lt128 : goal.loop-i-preserved-then-b-lt128
loop-i-preserved-then-b-lt128 c =
    let at = c.loop-i in
    (omega arith, at.invariant.1, ascii_step _ _ (omega arith) c.if-b-eq0.false c.if-b-lt128.true at.invariant.2, omega arith)

pub loop-i-preserved-in-Alone : goal.loop-i-preserved-in-Alone
loop-i-preserved-in-Alone c =
    let at = c.loop-i in
    let asked = sym (ap leads c.in-Alone.is) ∙ c.lead_limits.ensures in
    (omega arith, at.invariant.1, lead_step _ _ (omega arith) _ (λ e. omega arith) asked at.invariant.2, omega arith)

pub loop-init : goal.loop-init
loop-init c =
    let at = c.loop-i in
    let low = c.in-Tail.low in
    let high = c.in-Tail.high in
    let more = c.in-Tail.more in
    let asked = sym (ap leads c.in-Tail.is) ∙ c.lead_limits.ensures in
    let lead = lead_step _ _ (omega arith) _ (λ e. omega arith) asked at.invariant.2 in
    let left : more < length c.args.s.now - (at.i + 1) = c.if-s-i.false in
    let walk = range_step _ _ (omega arith) (low to high) _ (tail_low _ _ more _ asked) c.if-second-low.false (ltb-false _ _ c.if-high-second.false-raw) lead in
    let all : more - 0 ≡ more = omega arith in
    (omega arith, omega arith, at.invariant.1, rw all walk)

pub loop-preserved : goal.loop-preserved
loop-preserved c =
    let at = c.loop in
    let less : c.in-Tail.more - at.counter - 1 ≡ c.in-Tail.more - (at.counter + 1) = omega arith in
    let walk = tail_step _ _ _ (omega arith) at.invariant.1 c.if-c-lt128.false (ltb-false _ _ c.if-c-gt191.false-raw) at.invariant.3 in
    (omega arith, omega arith, at.invariant.2, rw less at walk)

pub loop-i-preserved : goal.loop-i-preserved
loop-i-preserved c =
    let at = c.loop in
    (omega arith, at.invariant.2, tail_done _ _ _ (omega arith) at.invariant.3, omega arith)

pub blocks-i-requires : goal.blocks-i-requires
blocks-i-requires c = let at = c.loop-i in (at.invariant.0, at.invariant.2)

pub scan-smaller : goal.scan-smaller
scan-smaller c = let next = c.blocks-i.ensures in omega arith

pub scan-preserved : goal.scan-preserved
scan-preserved c =
    let next = c.blocks-i.ensures in
    (next.1, c.loop-i.invariant.1, next.2)

-- the six ways out: the bytes' end, a NUL, too few bytes for a sequence, a second byte that is none, a later one that is none, and a byte that starts
-- no sequence; `formed` is true at the first two
pub returns-then-formed : goal.returns-then-formed
returns-then-formed c =
    let s = c.args.s.now in
    let all : outcome c.scan-test.formed c.scan-test.i ≡ text_length s =
    elim c.scan-test.branch [
      | else-scan-test w ↦ ends s w.i-is (w.formed-is ∙ c.scan.invariant.1) c.scan.invariant.2 (at_end_lem s _ w.scan-test.false)
      | then-scan-test+then-loop-i-test+then-b-lt128+then-b-eq0 w ↦ ends s w.i-is (w.formed-is ∙ w.loop-i.invariant.1) w.loop-i.invariant.2 (at_nul s _ (omega arith) w.if-b-eq0.true)
      | then-scan-test+then-loop-i-test+else-b-lt128+in-Tail+then-s-i w ↦ absurd (true≢false (sym c.if-formed.true ∙ w.formed-is))
      | then-scan-test+then-loop-i-test+else-b-lt128+in-Tail+else-s-i+then-second-low w ↦ absurd (true≢false (sym c.if-formed.true ∙ w.formed-is))
      | then-scan-test+then-loop-i-test+else-b-lt128+in-Tail+else-s-i+else-second-low+else-high-second+then-loop-test+then-c-lt128 w ↦ absurd (true≢false (sym c.if-formed.true ∙ w.formed-is))
      | then-scan-test+then-loop-i-test+else-b-lt128+in-Invalid w ↦ absurd (true≢false (sym c.if-formed.true ∙ w.formed-is))
    ] in
    rw c.if-formed.true at all

pub returns-else-formed : goal.returns-else-formed
returns-else-formed c =
    let s = c.args.s.now in
    let i = c.scan-test.i in
    let all : outcome c.scan-test.formed i ≡ text_length s =
    elim c.scan-test.branch [
      | else-scan-test w ↦ absurd (true≢false (sym (w.formed-is ∙ c.scan.invariant.1) ∙ c.if-formed.false))
      | then-scan-test+then-loop-i-test+then-b-lt128+then-b-eq0 w ↦ absurd (true≢false (sym (w.formed-is ∙ w.loop-i.invariant.1) ∙ c.if-formed.false))
      | then-scan-test+then-loop-i-test+else-b-lt128+in-Tail+then-s-i w ↦
          let asked = sym (ap leads w.in-Tail.is) ∙ w.lead_limits.ensures in
          let lead = lead_step s w.loop-i.i (omega arith) _ (λ e. omega arith) asked w.loop-i.invariant.2 in
          ill_formed s i w.formed-is lead (too_few s _ _ _ w.if-s-i.true)
      | then-scan-test+then-loop-i-test+else-b-lt128+in-Tail+else-s-i+then-second-low w ↦
          let asked = sym (ap leads w.in-Tail.is) ∙ w.lead_limits.ensures in
          let lead = lead_step s w.loop-i.i (omega arith) _ (λ e. omega arith) asked w.loop-i.invariant.2 in
          ill_formed s i w.formed-is lead
          (no_range s (w.loop-i.i + 1) (w.in-Tail.low to w.in-Tail.high) _ (omega arith)
          (λ low high. elim w.then-second-low.branch [ then-second-low-via-then-second-low v ↦ omega arith | then-second-low-via-else-second-low+then-high-second v ↦ omega arith ]))
      | then-scan-test+then-loop-i-test+else-b-lt128+in-Tail+else-s-i+else-second-low+else-high-second+then-loop-test+then-c-lt128 w ↦
          ill_formed s i w.formed-is w.loop.invariant.3
          (no_tail s _ _ (omega arith) w.loop.invariant.1
          (λ low high. elim w.then-c-lt128.branch [ then-c-lt128-via-then-c-lt128 v ↦ omega arith | then-c-lt128-via-else-c-lt128+then-c-gt191 v ↦ omega arith ]))
      | then-scan-test+then-loop-i-test+else-b-lt128+in-Invalid w ↦
          ill_formed s i w.formed-is w.loop-i.invariant.2
          (no_lead s _ (omega arith) (λ e. omega arith) (sym (ap leads w.in-Invalid.is) ∙ w.lead_limits.ensures))
    ] in
    rw c.if-formed.false at all
