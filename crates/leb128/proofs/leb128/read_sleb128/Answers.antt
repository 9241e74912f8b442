-- `leb128::leb128::read_sleb128` meets its contract.
use Rattle.std.proofs.Common.{◌≡◌, ◌<◌, ◌^◌, ap, ◌∙◌, arith, to_z-of_z, w64}
use Rattle.util.specs.LittleEndian.{twos_complement}
use Rattle.util.proofs.Signed.{signed_bits}
use Rattle.leb128.specs.Leb128.{read_value, sign_bits}
use Rattle.leb128.proofs.Leb128Laws.{sleb_longer, sign_room, sleb_negative, sleb_kept, sleb_unsigned}
use Rattle.leb128.proofs.leb128.read_sleb128.Goals as goal
use Rattle.leb128.proofs.leb128.read_sleb128.Goals.{else-count-eq11-via-then-count-eq11+else-last-sign_bits, else-count-eq11-via-else-count-eq11, then-count-lt10+then-last-ge64, else-count-lt10, else-count-lt10-via-then-count-lt10+else-last-ge64, else-count-lt10-via-else-count-lt10}

pub returns-in_err-bits : goal.returns-in_err-bits
returns-in_err-bits c = ap read_value c.from_residual.ensures ∙ sleb_longer _ c.in_err-bits.ensures

pub returns-then-last-sign_bits : goal.returns-then-last-sign_bits
returns-then-last-sign_bits c =
    sleb_unsigned _ _ _ _ _ c.in_ok-bits.ensures c.if-count-eq11.true _ c.sign_bits.ensures c.if-last-sign_bits.true

pub overflow_add-filled : goal.overflow_add-filled
overflow_add-filled c = record { fits = omega (arith, sign_room _ _ _ _ _ c.in_ok-bits.ensures c.if-count-lt10.true) }

pub overflow_add-filled-then-last-ge64 : goal.overflow_add-filled-then-last-ge64
overflow_add-filled-then-last-ge64 c = record { fits = omega (arith, sign_room _ _ _ _ _ c.in_ok-bits.ensures c.if-count-lt10.true) }

eleventh : (c : goal.After-cast_signed) → c.in_ok-bits.field-0.count ≡ 11 → c.in_ok-bits.field-0.last ≡ sign_bits c.in_ok-bits.field-0.bits
eleventh c =
    elim c.else-count-eq11.branch [
      | else-count-eq11-via-then-count-eq11+else-last-sign_bits w ↦ λ e. w.if-last-sign_bits.false ∙ w.sign_bits.ensures
      | else-count-eq11-via-else-count-eq11 w ↦ λ e. absurd (w.if-count-eq11.false e)
    ]

pub returns : goal.returns
returns c =
    let chunk = c.in_ok-bits.ensures in
    let filled = c.if-count-lt10.filled in
    let value = λ (l : filled < 2 ^ 64). to_z-of_z {w = w64} (record { sfits = c.cast_signed.type_inv }) ∙ c.cast_signed.ensures ∙ signed_bits w64 filled l in
    elim c.if-count-lt10.branch [
      | then-count-lt10+then-last-ge64 w ↦
          sleb_negative _ _ _ _ _ chunk w.if-count-lt10.true _ w.if-last-ge64.true
          (value (omega (arith, sign_room _ _ _ _ _ chunk w.if-count-lt10.true)) ∙ ap (twos_complement 64) w.filled-is)
      | else-count-lt10 w ↦
          let positive : c.in_ok-bits.field-0.count < 10 → c.in_ok-bits.field-0.last < 64 =
          elim w.else-count-lt10.branch [
            | else-count-lt10-via-then-count-lt10+else-last-ge64 v ↦ λ l. v.if-last-ge64.false
            | else-count-lt10-via-else-count-lt10 v ↦ λ l. absurd (omega arith)
          ] in
          sleb_kept _ _ _ _ _ chunk _ (eleventh c) positive (value (omega (arith, chunk.low)) ∙ ap (twos_complement 64) w.filled-is)
    ]
