-- `type_body::body::decode_body` meets its contract: each kind is a case of `body_of_kind`.
use native.Mathlib.Omega.{arith}
use Rattle.type_body.proofs.BodyLaws.{ends_below, no_body, body_at, body_kind, bodiless}
use Rattle.type_body.proofs.body.decode_body.Goals as goal

pub returns-then-header-lt24 : goal.returns-then-header-lt24
returns-then-header-lt24 c = body_kind _ _ _ _ _ _ c.kind.ensures c.in-Class.is _ (no_body _ _ _ _ _ c.body_part-header.ensures _ (omega arith) (omega arith))

pub class_in-requires : goal.class_in-requires
class_in-requires c = omega (arith, ends_below _ _ _ _ _ c.body_part-header.ensures (omega arith) (omega arith))

pub returns-then-header-lt8 : goal.returns-then-header-lt8
returns-then-header-lt8 c = body_kind _ _ _ _ _ _ c.kind.ensures c.in-Struct.is _ (no_body _ _ _ _ _ c.body_part-header-in-Struct.ensures _ (omega arith) (omega arith))

pub returns-then-header-lt8-2 : goal.returns-then-header-lt8-2
returns-then-header-lt8-2 c = body_kind _ _ _ _ _ _ c.kind.ensures c.in-Enum.is _ (no_body _ _ _ _ _ c.body_part-header-in-Enum.ensures _ (omega arith) (omega arith))

pub returns-else-header-lt24 : goal.returns-else-header-lt24
returns-else-header-lt24 c = body_kind _ _ _ _ _ _ c.kind.ensures c.in-Class.is _ (body_at _ _ _ _ _ c.body_part-header.ensures _ (omega arith) _ c.class_in.ensures (omega arith))

pub returns-else-header-lt8 : goal.returns-else-header-lt8
returns-else-header-lt8 c = body_kind _ _ _ _ _ _ c.kind.ensures c.in-Struct.is _ (body_at _ _ _ _ _ c.body_part-header-in-Struct.ensures _ (omega arith) _ c.struct_in.ensures (omega arith))

pub returns-else-header-lt8-2 : goal.returns-else-header-lt8-2
returns-else-header-lt8-2 c = body_kind _ _ _ _ _ _ c.kind.ensures c.in-Enum.is _ (body_at _ _ _ _ _ c.body_part-header-in-Enum.ensures _ (omega arith) _ c.enum_in.ensures (omega arith))

pub returns-in-Module : goal.returns-in-Module
returns-in-Module c = bodiless _ _ _ _ _ c.kind.ensures c.in-Module.is
