-- `type_body::body::body_part` meets its contract.
use native.Mathlib.Omega.{arith}
use mathlib.Core.Path.{◌∙◌}
use Rattle.type_body.proofs.BodyLaws.{part_wraps, part_below}
use Rattle.type_body.proofs.body.body_part.Goals as goal

pub returns-then-address-size : goal.returns-then-address-size
returns-then-address-size c = part_wraps _ _ _ _ (omega arith)

pub returns : goal.returns
returns c = c.read_bytes.ensures ∙ part_below _ _ _ _ (omega arith)
