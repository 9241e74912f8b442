-- `bundle::open::record_body` meets its contract: each test that fails is one of `is_at`.
use Rattle.std.proofs.Common.{arith, ◌∙◌}
use Rattle.util.proofs.AnswersLaws.{known}
use Rattle.util.proofs.LittleEndianLaws.{little_within, little_beyond}
use Rattle.bundle.proofs.OpenLaws.{body_past, body_cut, body_other, body_there}
use Rattle.bundle.proofs.open.record_body.Goals as goal

pub returns-in_err-size : goal.returns-in_err-size
returns-in_err-size c = c.from_residual.ensures ∙ body_past _ _ _ (omega (arith, little_beyond 4 _ _ (known c.read_u32_le_at.ensures c.in_err-size.was)))

pub overflow_add-at : goal.overflow_add-at
overflow_add-at c = omega (arith, little_within 4 _ _ _ (known c.read_u32_le_at.ensures c.in_ok-size.was))

pub returns-in_err-found : goal.returns-in_err-found
returns-in_err-found c = c.from_residual-in_err-found.ensures ∙ body_past _ _ _ (omega (arith, little_beyond 2 _ _ (known c.read_u16_le_at.ensures c.in_err-found.was)))

pub overflow_add-start : goal.overflow_add-start
overflow_add-start c = omega (arith, little_within 2 _ _ _ (known c.read_u16_le_at.ensures c.in_ok-found.was))

pub overflow_sub-bytes : goal.overflow_sub-bytes
overflow_sub-bytes c = omega (arith, little_within 2 _ _ _ (known c.read_u16_le_at.ensures c.in_ok-found.was))

pub returns-then-bytes-start : goal.returns-then-bytes-start
returns-then-bytes-start c = body_cut _ _ _ _ _ (known c.read_u32_le_at.ensures c.in_ok-size.was) (known c.read_u16_le_at.ensures c.in_ok-found.was) c.if-bytes-start.true

pub returns-then-found-kind : goal.returns-then-found-kind
returns-then-found-kind c = body_other _ _ _ _ _ (known c.read_u32_le_at.ensures c.in_ok-size.was) (known c.read_u16_le_at.ensures c.in_ok-found.was) c.if-found-kind.true

pub returns : goal.returns
returns c =
    c.then_some.ensures ∙ body_there _ _ _ _ _ (known c.read_u32_le_at.ensures c.in_ok-size.was) (known c.read_u16_le_at.ensures c.in_ok-found.was) _ c.body_fits.ensures c.if-found-kind.false c.if-bytes-start.false
