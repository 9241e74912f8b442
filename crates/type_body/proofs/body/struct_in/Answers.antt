-- `type_body::body::struct_in` meets its contract.
use Rattle.type_body.proofs.BodyLaws.{struct_at}
use Rattle.type_body.proofs.body.struct_in.Goals as goal

pub returns : goal.returns
returns c = struct_at _ _ _ c.u32_at.ensures c.u32_at-2.ensures
