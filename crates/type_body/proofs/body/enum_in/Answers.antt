-- `type_body::body::enum_in` meets its contract.
use mathlib.Core.Path.{refl}
use Rattle.type_body.proofs.BodyLaws.{enum_at}
use Rattle.type_body.proofs.body.enum_in.Goals as goal

pub returns : goal.returns
returns c = enum_at _ _ _ _ _ c.u32_at-packed.ensures refl refl c.u32_at.ensures
