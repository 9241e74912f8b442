-- `type_body::body::class_sizes` meets its contract.
use Rattle.type_body.proofs.BodyLaws.{resilient_at, fixed_at}
use Rattle.type_body.proofs.body.class_sizes.Goals as goal

pub returns-then-resilient : goal.returns-then-resilient
returns-then-resilient c = resilient_at _ _ _ _ _ c.if-resilient.true c.address_in.ensures c.u32_at.ensures

pub returns-else-resilient : goal.returns-else-resilient
returns-else-resilient c = fixed_at _ _ _ _ _ c.if-resilient.false c.u32_at-else-resilient.ensures c.u32_at-else-resilient-2.ensures
