-- `leb128::leb128::tenth` meets its contract.
use mathlib.Core.Path.{refl}
use native.Mathlib.Omega.{arith}
use Rattle.leb128.proofs.Leb128Laws.{running_small, running_ends, ten_last, ten_ends, eleven_last, eleven_on}
use Rattle.leb128.proofs.leb128.tenth.Goals as goal

pub returns-then-bytes-le9 : goal.returns-then-bytes-le9
returns-then-bytes-le9 c = running_ends _ 9 _ c.requires (omega arith)

pub overflow_add-word : goal.overflow_add-word
overflow_add-word c = omega (arith, running_small _ 9 _ c.requires)

pub returns-then-b-lt128 : goal.returns-then-b-lt128
returns-then-b-lt128 c = ten_last _ _ _ c.requires (omega arith) refl (omega arith)

pub returns-then-bytes-le10 : goal.returns-then-bytes-le10
returns-then-bytes-le10 c = ten_ends _ _ _ c.requires (omega arith) refl (omega arith) (omega arith)

pub returns-then-c-lt128 : goal.returns-then-c-lt128
returns-then-c-lt128 c = eleven_last _ _ _ c.requires (omega arith) refl (omega arith) (omega arith) _ refl (omega arith)

pub returns : goal.returns
returns c = eleven_on _ _ _ c.requires (omega arith) refl (omega arith) (omega arith) _ refl (omega arith)
