-- `type_body::body::class_in` meets its contract.
use Rattle.type_body.proofs.BodyLaws.{class_at}
use Rattle.type_body.proofs.body.class_in.Goals as goal

pub returns : goal.returns
returns c = class_at _ _ _ _ _ _ _ _ _ _ c.type_flags.ensures c.class_has_resilient_superclass-resilient.ensures c.address_in.ensures c.class_sizes.ensures c.u32_at.ensures c.u32_at-2.ensures c.u32_at-3.ensures
