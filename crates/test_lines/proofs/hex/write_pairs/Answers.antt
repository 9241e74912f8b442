use native.Mathlib.Omega.{arith}
use mathlib.Core.Path.{refl, ◌∙◌}
use Rattle.test_lines.proofs.LinesLaws.{pair_byte, pairs_next, pairs_written}
use borrow.Author.Rules.{rules}
use Rattle.test_lines.proofs.hex.write_pairs.Goals as goal

pub loop-n-init : goal.loop-n-init
loop-n-init c = (refl, refl)

pub overflow_mul-out : goal.overflow_mul-out
overflow_mul-out c = let b = pair_byte _ c.loop-n.n c.requires.0 (omega arith) in search rules

pub overflow_add-out : goal.overflow_add-out
overflow_add-out c = let b = pair_byte _ c.loop-n.n c.requires.0 (omega arith) in search rules

pub overflow_cast-out : goal.overflow_cast-out
overflow_cast-out c = let b = pair_byte _ c.loop-n.n c.requires.0 (omega arith) in search rules

pub loop-n-preserved : goal.loop-n-preserved
loop-n-preserved c =
    let s = c.args.s.now in (
      search rules,
      pairs_next s c.args.out.now c.loop-n.n _ _ c.loop-n.invariant.1 (omega arith) (omega arith) (omega arith),
    )

pub returns : goal.returns
returns c =
    c.loop-n.invariant.1 ∙ pairs_written c.args.s.now c.args.out.now c.loop-n.n (omega arith)
