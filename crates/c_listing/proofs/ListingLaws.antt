-- What the writing of a record, and the end of the loop, say of the listing. What the loop needs, and that a call goes on where another
-- stopped, is in `GivenLaws` of `typedescriptor`.
use Rattle.std.specs.Prelude.{ℕ, ◌+◌, ◌-◌, ◌*◌, ◌/◌, ◌%◌, ◌^◌, ◌≤◌, ◌<◌, Bool, take, drop, ltb}
use Rattle.std.proofs.Math.Nat.{div-add-mod, div-div-eq-div-mul}
use Rattle.std.proofs.Math.Decide.{dec_lt}
use native.Mathlib.Omega.{arith}
use Rattle.std.proofs.Math.Path.{◌≡◌, refl}
use Rattle.std.proofs.Common.{sym, ◌∙◌, ap, length-drop, take_all, take-take, drop_at, length-take-le, lt-ltb, le-ltb}
use mathlib.Core.List.{List, [], ◌∷◌, ◌++◌, append_assoc}
use Rattle.std.proofs.Math.Bool.{true, false, cond}
use Rattle.std.proofs.Math.ListN.{length, length-append}
use Rattle.std.proofs.Math.Seq.{take-length}
use Rattle.std.proofs.lemmas.List.{take-append-le}
use borrow.Rule.Slice.PartMut.{put_mid, mid_of, put_same}
use Rattle.refusal.specs.Refusal.{Guarded, answered, refused, mapped, answer_of, refusal_number}
use Rattle.refusal.specs.declared.Refusal.{Refusal}
use Rattle.util.specs.Buffer.{pasted, at_start, overwritten, put_end, put_into, Put}
use Rattle.util.proofs.BufferLaws.{put_in, put_fits, put_more, fits_end, fits_into, past_end, past_into}
use Rattle.util.specs.LittleEndian.{little_endian}
use Rattle.typedescriptor.specs.Row.{TypeRow}
use Rattle.typedescriptor.proofs.GivenLaws.{Done}
use Rattle.qualified_name.specs.Name.{too_deep, qualified_name, name_answer}
use Rattle.qualified_name.proofs.NameLaws.{name_length}
use Rattle.c_listing.specs.Listing.{eight_bytes, two_numbers, head_bytes, row_bytes, listing_from, listing_numbers, listing_bytes}

-- ---- a record

pair_long : (a b : ℕ) → length (two_numbers a b) ≡ 16
unfolding two_numbers
pair_long a b = refl

pub head_long : (slot address flags n : ℕ) → length (head_bytes slot address flags n) ≡ 32
unfolding head_bytes two_numbers
head_long slot address flags n = refl

-- the head, in two pieces
pub head_put : (b p q b' b'' : List ℕ) (slot address flags n at m e : ℕ) → p ≡ two_numbers slot address → q ≡ two_numbers flags n
    → m ≡ put_end b at p → b' ≡ put_into b at p → e ≡ put_end b' m q → b'' ≡ put_into b' m q → at + 32 ≤ length b → Put b at (head_bytes slot address flags n) e b''
unfolding head_bytes
head_put b p q b' b'' slot address flags n at m e ep eq em eb' ee eb'' h =
    let lp : length p ≡ 16 = ap length ep ∙ pair_long slot address in
    let lq : length q ≡ 16 = ap length eq ∙ pair_long flags n in
    rw (← ep, ← eq) (put_more b p q b' b'' at m e (put_fits b p b' at m em eb' (omega arith)) ee eb'' (omega arith))

module _ (image segments : List ℕ) (slot : ℕ) (row : TypeRow) where
  pub row_long : 32 ≤ length (row_bytes image segments slot row)
  unfolding row_bytes
  row_long = go (too_deep image segments row.parent) _ (head_bytes slot row.address row.flags (length (qualified_name image segments row))) _ (head_long _ _ _ _) (head_long _ _ _ _)
    where
      go : (d : Bool) (p q t : List ℕ) → length p ≡ 32 → length q ≡ 32 → 32 ≤ length (cond d p (q ++ t))
      go true p q t ep eq = omega arith
      go false p q t ep eq = simp length-append (omega arith)

  -- what the answer about the name says about the record
  module _ (size : ℕ) where
    pub written_bytes : (n : ℕ) → answered n ≡ mapped length (name_answer image segments row size)
        → row_bytes image segments slot row ≡ head_bytes slot row.address row.flags n ++ qualified_name image segments row
    unfolding name_answer row_bytes
    written_bytes n e = go (too_deep image segments row.parent) _ _ (name_length image segments row size n e).1.0 e
      where
        go : (d : Bool) (g : Guarded (List ℕ)) (t : List ℕ) → n ≡ length t → answered n ≡ mapped length (cond d (refused 4) g)
            → cond d (head_bytes slot row.address row.flags (2 ^ 64 - 4)) (head_bytes slot row.address row.flags (length t) ++ t) ≡ head_bytes slot row.address row.flags n ++ t
        go true g t en e = let z : ◌≡◌ {A = ℕ} 0 1 = cc in absurd (omega arith)
        go false g t en e = rw en

    pub refused_bytes : (x : ℕ) → refused x ≡ mapped length (name_answer image segments row size)
        → (x ≡ 4 → head_bytes slot row.address row.flags (2 ^ 64 - 4) ≡ row_bytes image segments slot row) × ((x ≡ 4 → ⊥) → 32 + size < length (row_bytes image segments slot row))
    unfolding name_answer row_bytes
    refused_bytes x e = go (too_deep image segments row.parent) (qualified_name image segments row) e
      where
        go : (d : Bool) (t : List ℕ) → refused x ≡ mapped length (cond d (refused 4) (cond (ltb size (length t)) (refused 3) (answered t)))
            → (x ≡ 4
            → head_bytes slot row.address row.flags (2 ^ 64 - 4)
            ≡ cond d (head_bytes slot row.address row.flags (2 ^ 64 - 4)) (head_bytes slot row.address row.flags (length t) ++ t))
            × ((x ≡ 4 → ⊥) → 32 + size < length (cond d (head_bytes slot row.address row.flags (2 ^ 64 - 4)) (head_bytes slot row.address row.flags (length t) ++ t)))
        go true t e = let z : x ≡ 4 = cc in (λ h. refl, λ h. absurd (h z))
        go false t e =
            elim (dec_lt size (length t)) [
              | yes h ↦
                  let f : refused x ≡ refused 3 = rw (lt-ltb size (length t) h) at e in
                  let z : x ≡ 3 = cc in
                  (λ w. absurd (omega arith), λ w. simp length-append (omega (arith, head_long slot row.address row.flags (length t))))
              | no h ↦
                  let f : refused x ≡ answered (length t) = rw (le-ltb size (length t) (omega arith)) at e in
                  let z : ◌≡◌ {A = ℕ} 0 1 = cc in
                  absurd (omega arith)
            ]

-- only a name inside too many contexts is refused with 4
pub only_deep : (r : Refusal) → refusal_number r ≡ 4 → r ≡ Refusal.DeepContexts
only_deep Refusal.RaggedSegments e = absurd (omega arith)
only_deep Refusal.BrokenBundle e = absurd (omega arith)
only_deep Refusal.LongName e = absurd (omega arith)
only_deep Refusal.DeepContexts e = refl
only_deep Refusal.LongBundle e = absurd (omega arith)
only_deep Refusal.WrappingSegment e = absurd (omega arith)

-- a refused name leaves the part unchanged, and so the whole
pub kept_part : (at k : ℕ) (b ys image segments : List ℕ) (row : TypeRow) (size n : ℕ) → ys ≡ overwritten (mid_of at k b) (answer_of (name_answer image segments row size))
    → refused n ≡ mapped length (name_answer image segments row size) → put_mid at k b ys ≡ b
kept_part at k b ys image segments row size n e f = go (name_answer image segments row size) e f
  where
    go : (g : Guarded (List ℕ)) → ys ≡ overwritten (mid_of at k b) (answer_of g) → refused n ≡ mapped length g → put_mid at k b ys ≡ b
    go (answered t) e f = let z : ◌≡◌ {A = ℕ} 0 1 = cc in absurd (omega arith)
    go (refused m) e f = ap (put_mid at k b) e ∙ put_same at k b

-- a piece put before one that is already in place
put_before : (b p q b' b'' : List ℕ) (at k : ℕ) → b' ≡ pasted b (at + k) q → b'' ≡ pasted b' at p → length p ≡ k → at + k + length q ≤ length b → b'' ≡ pasted b at (p ++ q)
put_before b p q b' b'' at k e f ek h =
    let len : length (take (at + k) b) ≡ at + k = length-take-le (at + k) b (omega arith) in
    let front : take at b' ≡ take at b = ap (take at) e ∙ take-append-le at (take (at + k) b) _ (omega (arith, len)) ∙ take-take at (at + k) b (omega arith) in
    let back : drop (at + length p) b' ≡ q ++ drop (at + k + length q) b = ap (drop (at + length p)) e ∙ drop_at (take (at + k) b) _ (at + length p) (omega (arith, len, ek)) in
    let past : at + k + length q ≡ at + length (p ++ q) = simp length-append (omega (arith, ek)) in
    f ∙ rw (front, back, past, append_assoc)

-- the name and then its head
pub record_put : (b ys t p q b'' : List ℕ) (at n e : ℕ) (g : Guarded (List ℕ)) → ys ≡ overwritten (mid_of (at + 32) (length b - (at + 32)) b) (answer_of g) → g ≡ answered t → n ≡ length t
    → length p ≡ 32 → Put (put_mid (at + 32) (length b - (at + 32)) b ys) at p e b'' → at + 32 + n ≤ length b → q ≡ p ++ t
    → (e + n ≤ length b) × ((e + n ≡ put_end b at q) × (b'' ≡ put_into b at q))
record_put b ys t p q b'' at n e g ey eg en ep w l eq =
    let written : ys ≡ take (length t) t ++ drop (length t) (mid_of (at + 32) (length b - (at + 32)) b) =
    ey ∙ ap (λ (x : Guarded (List ℕ)). overwritten (mid_of (at + 32) (length b - (at + 32)) b) (answer_of x)) eg
    ∙ ap (λ (x : List ℕ). x ++ drop (length t) (mid_of (at + 32) (length b - (at + 32)) b)) (sym (take-length t)) in
    let u = put_in b t ys (at + 32) n en written (omega arith) in
    let long : length (p ++ t) ≡ 32 + n = simp length-append (omega arith) in
    (omega (arith, w.ends), rw eq (fits_end b (p ++ t) at (e + n) (omega (arith, w.ends)) (omega arith), fits_into b (p ++ t) b'' at (put_before b p t _ b'' at 32 u.holds w.holds ep (omega arith)) (omega arith)))

-- the head alone
pub head_alone : (b b' b'' p q : List ℕ) (at e : ℕ) → b' ≡ b → p ≡ q → length p ≡ 32 → Put b' at p e b'' → at + 32 ≤ length b → (e ≡ put_end b at q) × (b'' ≡ put_into b at q)
head_alone b b' b'' p q at e eb eq ep w h =
    rw (← eq, ← eb) (fits_end b' p at e w.ends (omega (arith, ap length eb)), fits_into b' p b'' at w.holds (omega (arith, ap length eb)))

-- the part from a place on
pub part_long : (a : ℕ) (b : List ℕ) → length (mid_of a (length b - a) b) ≡ length b - a
part_long a b = ap length (take_all (length b - a) (drop a b) (simp length-drop (omega arith))) ∙ length-drop a b

-- ---- the listing

-- where a piece ends says whether it was put
module _ (b p b' : List ℕ) (at n : ℕ) (en : n ≡ put_end b at p) (eb : b' ≡ put_into b at p) (there : 0 < length p) where
  pub not_put : n ≡ at → (length b < at + length p) × (b' ≡ b)
  not_put z =
      elim (dec_lt (length b) (at + length p)) [
        | yes h ↦ (h, eb ∙ sym (past_into b p at h))
        | no h ↦ absurd (omega (arith, (put_fits b p b' at n en eb (omega arith)).ends))
      ]

  pub was_put : (n ≡ at → ⊥) → (at + length p ≤ length b) × Put b at p n b'
  was_put z =
      elim (dec_lt (length b) (at + length p)) [
        | yes h ↦ absurd (z (en ∙ sym (past_end b p at h)))
        | no h ↦ (omega arith, put_fits b p b' at n en eb (omega arith))
      ]

-- what the end of the loop says
pub listing_told : (image segments types : List ℕ) (start i₀ at i : ℕ) (e : Bool) (b₀ b : List ℕ) → Done (row_bytes image segments) image segments types start i₀ b₀ at i e b
    → (at ∷ (i ∷ (cond e 1 0 ∷ [])) ≡ listing_numbers (listing_from image segments types start i₀ (length b₀))) × (b ≡ at_start (listing_bytes (listing_from image segments types start i₀ (length b₀))) b₀)
listing_told image segments types start i₀ at i e b₀ b d = (cc (d.wrote, d.next, d.whole), d.holds)

-- ---- the layout

-- a number is read back from its eight bytes
digit : (n d x : ℕ) → x ≡ n / (d * 256) → n / d % 256 + 256 * x ≡ n / d
digit n d x e = rw (e, ← div-div-eq-div-mul n d 256) (omega (arith, div-add-mod (n / d) 256))

pub eight_read : (n : ℕ) → n < 2 ^ 64 → little_endian (eight_bytes n) ≡ n
unfolding little_endian
eight_read n h =
    let top : n / 0x100000000000000 % 256 + 256 * 0 ≡ n / 0x100000000000000 = omega arith in
    let rest = digit n 256 _ (digit n 65536 _ (digit n 0x1000000 _ (digit n 0x100000000 _ (digit n 0x10000000000 _ (digit n 0x1000000000000 _ top))))) in
    ap (λ (x : ℕ). n % 256 + 256 * x) rest ∙ omega arith
