-- `type_body::singleton::singleton_metadata_init` meets its contract: each `return` is a case of `singleton_init`.
use native.Mathlib.Omega.{arith}
use mathlib.Core.Path.{ap, ◌∙◌}
use Rattle.type_body.specs.Singleton.{init_of}
use Rattle.type_body.proofs.SingletonLaws.{no_init, no_cache, no_incomplete, no_completion, init_at}
use Rattle.type_body.proofs.singleton.singleton_metadata_init.Goals as goal

pub returns-then-bytes-lt12 : goal.returns-then-bytes-lt12
returns-then-bytes-lt12 c = no_init _ _ _ _ c.read_bytes-bytes.ensures (omega arith)

pub returns-in_err-target_in : goal.returns-in_err-target_in
returns-in_err-target_in c = ap init_of c.from_residual.ensures ∙ no_cache _ _ _ _ c.read_bytes-bytes.ensures (omega arith) c.in_err-target_in.ensures

pub returns-in_err-target_in-2 : goal.returns-in_err-target_in-2
returns-in_err-target_in-2 c =
    ap init_of c.from_residual-in_err-target_in-2.ensures
    ∙ no_incomplete _ _ _ _ c.read_bytes-bytes.ensures (omega arith) _ c.in_ok-target_in.ensures c.in_err-target_in-2.ensures

pub returns-in_err-target_in-3 : goal.returns-in_err-target_in-3
returns-in_err-target_in-3 c =
    ap init_of c.from_residual-in_err-target_in-3.ensures
    ∙ no_completion _ _ _ _ c.read_bytes-bytes.ensures (omega arith) _ c.in_ok-target_in.ensures _ c.in_ok-target_in-2.ensures c.in_err-target_in-3.ensures

pub returns : goal.returns
returns c = init_at _ _ _ _ c.read_bytes-bytes.ensures (omega arith) _ c.in_ok-target_in.ensures _ c.in_ok-target_in-2.ensures _ c.in_ok-target_in-3.ensures
