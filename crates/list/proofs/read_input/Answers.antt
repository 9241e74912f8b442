-- What a read gave stands after what came before it.
use Rattle.std.proofs.Common.{◌≡◌, ℕ, ◌+◌, ◌-◌, ◌≤◌, List, ◌++◌, rules, length, take, drop, sym, ap, ◌∙◌, subst, le_refl, drop_at, length-take-le}
use Rattle.std.proofs.lemmas.Slice.{take-put_mid_below}
use Rattle.std.specs.Io.KnownBytes.{Consumes}
use Rattle.std.proofs.KnownBytes.{Consumes-trans}
use borrow.Rule.Slice.PartMut.{put_mid, post_of}
use Rattle.std.proofs.Math.Seq.{take-add}
use Rattle.std.proofs.lemmas.List.{take-append-le}
use Rattle.list.proofs.read_input.Goals as goal

joined : (n more k : ℕ) (xs ys : List ℕ) → n ≤ length xs → more ≤ length ys → take n xs ++ take more ys ≡ take (n + more) (put_mid n k xs ys)
joined n more k xs ys within fits =
    let front = take-put_mid_below n k xs ys n (le_refl n) within in
    let after = post_of n k xs in
    let part : take more (drop n (put_mid n k xs ys)) ≡ take more ys = ap (take more) (drop_at (take n xs) (ys ++ after) n (length-take-le n xs within)) ∙ take-append-le more ys after fits in
    sym (take-add n more (put_mid n k xs ys) ∙ ap (λ l. l ++ take more (drop n (put_mid n k xs ys))) front ∙ ap (λ l. take n xs ++ l) part)

pub loop-n-preserved : goal.loop-n-preserved
loop-n-preserved g c =
    let room = length c.loop-n.space - c.loop-n.n in
    let grown = joined c.loop-n.n c.in_ok-more.more room c.loop-n.space c.read.new.buf c.loop-n.invariant.0 c.in_ok-more.ensures.bound.0 in
    (search rules, search rules, subst (Consumes _ _) grown (Consumes-trans _ _ _ _ _ c.loop-n.invariant.2 c.in_ok-more.ensures.bytes.0))
