-- `type_body::singleton::singleton_metadata_pointer` meets its contract.
use native.Mathlib.Omega.{arith}
use Rattle.type_body.proofs.SingletonLaws.{no_pointer, pointer_at_lem}
use Rattle.type_body.proofs.singleton.singleton_metadata_pointer.Goals as goal

pub returns-then-bytes-lt4 : goal.returns-then-bytes-lt4
returns-then-bytes-lt4 c = no_pointer _ _ _ _ c.read_bytes-bytes.ensures (omega arith)

pub returns : goal.returns
returns c = pointer_at_lem _ _ _ _ c.read_bytes-bytes.ensures _ c.address_in.ensures (omega arith)
