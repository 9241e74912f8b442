-- `leb128::leb128::read_uleb128` meets its contract.
use Rattle.std.proofs.Common.{◌≡◌, ap, ◌∙◌, arith}
use Rattle.leb128.specs.Leb128.{read_value}
use Rattle.leb128.proofs.Leb128Laws.{uleb_longer, uleb_read, uleb_refused}
use Rattle.leb128.proofs.leb128.read_uleb128.Goals as goal
use Rattle.leb128.proofs.leb128.read_uleb128.Goals.{else-count-eq11-via-then-count-eq11+else-last-ne0, else-count-eq11-via-else-count-eq11}

pub returns-in_err-bits : goal.returns-in_err-bits
returns-in_err-bits c = ap read_value c.from_residual.ensures ∙ uleb_longer _ c.in_err-bits.ensures

pub returns-then-last-ne0 : goal.returns-then-last-ne0
returns-then-last-ne0 c = uleb_refused _ _ _ _ _ c.in_ok-bits.ensures c.if-count-eq11.true c.if-last-ne0.true

pub returns : goal.returns
returns c =
    let eleventh : c.in_ok-bits.field-0.count ≡ 11 → c.in_ok-bits.field-0.last ≡ 0 =
    elim c.else-count-eq11.branch [
      | else-count-eq11-via-then-count-eq11+else-last-ne0 w ↦ λ e. omega arith
      | else-count-eq11-via-else-count-eq11 w ↦ λ e. absurd (omega arith)
    ] in
    uleb_read _ _ _ _ _ c.in_ok-bits.ensures eleventh
