-- Pieces put into a buffer, one after the other.
use Rattle.std.specs.Prelude.{◌≡◌, refl, ℕ, ◌+◌, ◌-◌, ◌<◌, ◌≤◌, List, [], ◌++◌, length, take, drop}
use Rattle.std.proofs.Common.{add_assoc, add-zero, arith, sym, ◌∙◌, ap, append_assoc, append-nil, length-append, length-drop, drop_of_length-le, take-append-drop, take_all, drop-drop, take_at, drop_at, length-take-le, le-leb}
use Rattle.std.proofs.Math.Seq.{take-length}
use Rattle.std.proofs.lemmas.Bool.{lt-leb}
use borrow.Rule.Slice.PartMut.{put_mid}
use Rattle.util.specs.Buffer.{pasted, put_end, put_into, Put}

-- a piece copied into the buffer's tail from a place on
pub put_in : (b p ys : List ℕ) (at n : ℕ) → n ≡ length p → ys ≡ take (length p) p ++ drop (length p) (take (length b - at) (drop at b)) → at + length p ≤ length b
    → Put b at p (at + n) (put_mid at (length b - at) b ys)
put_in b p ys at n en e h =
    let all : take (length b - at) (drop at b) ≡ drop at b = take_all (length b - at) (drop at b) (simp length-drop (omega arith)) in
    let past : drop (length b - at) (drop at b) ≡ [] = drop_of_length-le (drop at b) {i = length b - at} (simp length-drop (omega arith)) in
    record {
      ends = ap (λ (k : ℕ). at + k) en;
      holds = ap (λ (l : List ℕ). take at b ++ l) (rw (past, e, append-nil, take-length, all, drop-drop));
    }

-- a piece copied into the buffer's part of its length
pub put_whole : (b p ys : List ℕ) (at k : ℕ) → k ≡ length p → ys ≡ p → Put b at p (at + length p) (put_mid at k b ys)
put_whole b p ys at k ek e =
    record { ends = refl; holds = ap (λ (l : List ℕ). take at b ++ l) (rw (e, ek, drop-drop) refl) }

-- nothing put
pub put_none : (b : List ℕ) (at : ℕ) → Put b at [] at b
put_none b at = record { ends = omega arith; holds = sym (take-append-drop at b) ∙ ap (λ (k : ℕ). take at b ++ drop k b) (sym (add-zero at)) }

-- one piece after another
pub put_then : (b p q b' b'' : List ℕ) (at m n : ℕ) → Put b at p m b' → Put b' m q n b'' → at + length p ≤ length b → Put b at (p ++ q) n b''
put_then b p q b' b'' at m n u w h =
    let len : length (take at b) ≡ at = length-take-le at b (omega arith) in
    let front : take (at + length p) (pasted b at p) ≡ take at b ++ p = rw (← append_assoc) (take_at (take at b ++ p) _ (at + length p) (simp (length-append, len))) in
    let back : drop (at + length p + length q) (pasted b at p) ≡ drop (at + (length p + length q)) b =
    sym (drop-drop (length q) (at + length p) (pasted b at p))
    ∙ ap (drop (length q)) (rw (← append_assoc) (drop_at (take at b ++ p) _ (at + length p) (simp (length-append, len))))
    ∙ drop-drop (length q) (at + length p) b
    ∙ ap (λ (k : ℕ). drop k b) (add_assoc at (length p) (length q)) in
    record {
      ends = simp length-append (omega (arith, u.ends, w.ends));
      holds = w.holds ∙ rw (u.holds, u.ends, front, back, length-append, append_assoc, append_assoc);
    }

-- a piece that fits
pub put_fits : (b p b' : List ℕ) (at n : ℕ) → n ≡ put_end b at p → b' ≡ put_into b at p → at + length p ≤ length b → Put b at p n b'
unfolding put_end put_into
put_fits b p b' at n en eb h =
    record { ends = en ∙ simp (le-leb (at + length p) (length b) h); holds = eb ∙ simp (le-leb (at + length p) (length b) h) }

-- the same from the other side
pub fits_end : (b p : List ℕ) (at n : ℕ) → n ≡ at + length p → at + length p ≤ length b → n ≡ put_end b at p
unfolding put_end
fits_end b p at n e h = e ∙ simp (le-leb (at + length p) (length b) h)

pub fits_into : (b p b' : List ℕ) (at : ℕ) → b' ≡ pasted b at p → at + length p ≤ length b → b' ≡ put_into b at p
unfolding put_into
fits_into b p b' at e h = e ∙ simp (le-leb (at + length p) (length b) h)

pub past_end : (b p : List ℕ) (at : ℕ) → length b < at + length p → at ≡ put_end b at p
unfolding put_end
past_end b p at h = simp (lt-leb (at + length p) (length b) h)

pub past_into : (b p : List ℕ) (at : ℕ) → length b < at + length p → b ≡ put_into b at p
unfolding put_into
past_into b p at h = simp (lt-leb (at + length p) (length b) h)

pub put_length : (b p b' : List ℕ) (at n : ℕ) → Put b at p n b' → at + length p ≤ length b → length b' ≡ length b
put_length b p b' at n u h =
    let front : length (take at b) ≡ at = length-take-le at b (omega arith) in
    ap length u.holds ∙ simp (length-append, front, length-drop) (omega arith)

-- one more piece
pub put_more : (b p q b' b'' : List ℕ) (at m n : ℕ) → Put b at p m b' → n ≡ put_end b' m q → b'' ≡ put_into b' m q → at + length p + length q ≤ length b → Put b at (p ++ q) n b''
put_more b p q b' b'' at m n u en eb h =
    let same : length b' ≡ length b = put_length b p b' at m u (omega arith) in
    put_then b p q b' b'' at m n u (put_fits b' q b'' m n en eb (omega (arith, u.ends))) (omega arith)
