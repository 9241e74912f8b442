-- What the reads of the code, one after the other, say about the segments; and that the segment with a number is the one with that number
-- in the list of all. Assumes nothing.
use Rattle.std.specs.Prelude.{ℕ, zero, suc, ◌+◌, ◌*◌, ◌/◌, ◌%◌, ◌≤◌, ◌<◌, min, ◌≡◌, refl, List, [], ◌∷◌, ◌++◌, length, take, drop, get_or, set, Some, None, slice_get}
use Rattle.std.proofs.Math.Decide.{dec_le}
use Rattle.std.proofs.Common.{add-one, arith, sym, ◌∙◌, ap, append_assoc, length-set, length-append, length-drop, take_at, drop-drop, drop-cons, length-take-le, le-leb}
use Rattle.std.proofs.lemmas.List.{set_at}
use Rattle.std.proofs.lemmas.Bool.{lt-leb}
use Rattle.util.specs.LittleEndian.{little_endian}
use Rattle.util.specs.Buffer.{at_start}
use Rattle.util.specs.CstrLaws.{part_in}
use Rattle.segment.specs.Segments.{Segment, segments_of}
use Rattle.bundle_parts.proofs.LayoutLaws.{Fit}
use Rattle.bundle_parts.specs.Parts.{segment_bytes, u64_in, segment_in, numbers, segment_numbers, segment_numbers_most, listed_numbers}
use Rattle.bundle.specs.declared.open.Layout.{Layout}

-- a segment that a body has, and one that it does not
module _ (body : List ℕ) (k : ℕ) where
  pub segment_there : (a b c d : ℕ) → a ≡ u64_in body (32 * k) → b ≡ u64_in body (32 * k + 8) → c ≡ u64_in body (32 * k + 16) → d ≡ u64_in body (32 * k + 24) → 32 * k + 32 ≤ length body
      → Some (record { vmaddr = a; vmsize = b; fileoff = c; filesize = d }) ≡ segment_in body k
  unfolding segment_in
  segment_there a b c d ea eb ec ed h = rw (le-leb (32 * k + 32) (length body) h, ea, eb, ec, ed)

  pub segment_past : length body < 32 * k + 32 → None ≡ segment_in body k
  unfolding segment_in
  segment_past h = rw (lt-leb (32 * k + 32) (length body) h)

  -- what a segment that was read says
  pub record Read (g : Segment) : Type 0 where
    pub within : 32 * k + 32 ≤ length body
    pub vmaddr : g.vmaddr ≡ u64_in body (32 * k)
    pub vmsize : g.vmsize ≡ u64_in body (32 * k + 8)
    pub fileoff : g.fileoff ≡ u64_in body (32 * k + 16)
    pub filesize : g.filesize ≡ u64_in body (32 * k + 24)

  pub segment_read : (g : Segment) → Some g ≡ segment_in body k → Read g
  segment_read g e =
      elim (dec_le (32 * k + 32) (length body)) [
        | yes h ↦
            let same : Some g ≡ Some _ = e ∙ sym (segment_there _ _ _ _ refl refl refl refl h) in
            let is : g ≡ record { vmaddr = u64_in body (32 * k); vmsize = u64_in body (32 * k + 8); fileoff = u64_in body (32 * k + 16); filesize = u64_in body (32 * k + 24) } = cc in
            record { within = h; vmaddr = ap (λ (x : Segment). x.vmaddr) is; vmsize = ap (λ (x : Segment). x.vmsize) is; fileoff = ap (λ (x : Segment). x.fileoff) is; filesize = ap (λ (x : Segment). x.filesize) is }
        | no h ↦
            let f = segment_past (omega arith) in
            let z : ◌≡◌ {A = ℕ} 0 1 = cc in
            absurd (omega arith)
      ]

  pub segment_beyond : None ≡ segment_in body k → length body < 32 * k + 32
  segment_beyond e =
      elim (dec_le (32 * k + 32) (length body)) [
        | yes h ↦
            let f = segment_there _ _ _ _ refl refl refl refl h in
            let z : ◌≡◌ {A = ℕ} 0 1 = cc in
            absurd (omega arith)
        | no h ↦ omega arith
      ]

-- ---- the numbers

pub numbers_length : (n : ℕ) (s : List ℕ) → length (numbers n s) ≡ n
unfolding numbers
numbers_length zero s = refl
numbers_length (suc n) s = ap suc (numbers_length n (drop 8 s))

numbers_snoc : (n : ℕ) (s : List ℕ) → numbers (suc n) s ≡ numbers n s ++ (u64_in s (8 * n) ∷ [])
unfolding numbers
numbers_snoc zero s = refl
numbers_snoc (suc n) s =
    ap (λ (l : List ℕ). little_endian (take 8 s) ∷ l)
    (numbers_snoc n (drop 8 s)
    ∙ ap (λ (l : List ℕ). numbers n (drop 8 s) ++ (little_endian (take 8 l) ∷ [])) (drop-drop (8 * n) 8 s ∙ ap (λ (k : ℕ). drop k s) (eight n)))
  where
    eight : (m : ℕ) → 8 + 8 * m ≡ 8 * suc m
    eight m = omega arith

-- ---- filling a list

-- the list with the first numbers of a body at its start
abbrev pub filled : List ℕ → ℕ → List ℕ → List ℕ
filled body n list = numbers n body ++ drop n list

pub filled_none : (body list : List ℕ) → list ≡ filled body 0 list
unfolding numbers
filled_none body list = refl

-- one number more, wherever a test says that it lies
pub filled_more : (body list list' : List ℕ) (i n at : ℕ) → list' ≡ filled body i list → i < length list → n ≡ u64_in body at → at ≡ 8 * i → set list' i n ≡ filled body (i + 1) list
filled_more body list list' i n at holds inside e here =
    rw (add-one, holds, drop-cons list i 0 inside, e, here)
    (set_at (numbers i body) (get_or list i 0) (drop (suc i) list) (u64_in body (8 * i)) i (numbers_length i body)
    ∙ sym (append_assoc (numbers i body) (u64_in body (8 * i) ∷ []) (drop (suc i) list))
    ∙ ap (λ (l : List ℕ). l ++ drop (suc i) list) (sym (numbers_snoc i body)))

-- some segments are already in the list
pub record Started (body list list' : List ℕ) (k : ℕ) : Type 0 where
  pub bound : 4 * k ≤ segment_numbers_most
  pub within : 32 * k ≤ length body
  pub size : segment_numbers_most ≤ length list
  pub long : length list' ≡ length list
  pub holds : list' ≡ numbers (4 * k) body ++ drop (4 * k) list

pub started_none : (body list : List ℕ) → segment_numbers_most ≤ length list → Started body list list 0
unfolding numbers
started_none body list h = record { bound = omega arith; within = omega arith; size = h; long = refl; holds = refl }

-- one number more, wherever it lies
put_number : (body list list' : List ℕ) (i j o n : ℕ) → list' ≡ numbers i body ++ drop i list → i < length list → j ≡ i + 1 → o ≡ 8 * i → n ≡ u64_in body o → set list' i n ≡ numbers j body ++ drop j list
put_number body list list' i j o n holds inside next at e =
    rw (next, add-one, holds, drop-cons list i 0 inside, e, at)
    (set_at (numbers i body) (get_or list i 0) (drop (suc i) list) (u64_in body (8 * i)) i (numbers_length i body)
    ∙ sym (append_assoc (numbers i body) (u64_in body (8 * i) ∷ []) (drop (suc i) list))
    ∙ ap (λ (l : List ℕ). l ++ drop (suc i) list) (sym (numbers_snoc i body)))

pub started_more : (body list list' : List ℕ) (k : ℕ) (g : Segment) → Started body list list' k → Some g ≡ segment_in body k → k < segment_numbers_most / 4
    → Started body list (set (set (set (set list' (4 * k) g.vmaddr) (4 * k + 1) g.vmsize) (4 * k + 2) g.fileoff) (4 * k + 3) g.filesize) (k + 1)
started_more body list list' k g f e h =
    let r : Read body k g = segment_read body k g e in
    let inside : 4 * k + 3 < length list = omega (arith, f.size) in
    let one = put_number body list list' (4 * k) (4 * k + 1) (32 * k) g.vmaddr f.holds (omega arith) refl (omega arith) r.vmaddr in
    let two = put_number body list _ (4 * k + 1) (4 * k + 2) (32 * k + 8) g.vmsize one (omega arith) (omega arith) (omega arith) r.vmsize in
    let three = put_number body list _ (4 * k + 2) (4 * k + 3) (32 * k + 16) g.fileoff two (omega arith) (omega arith) (omega arith) r.fileoff in
    record {
      bound = omega arith;
      within = omega (arith, r.within);
      size = f.size;
      long = simp length-set f.long;
      holds = put_number body list _ (4 * k + 3) (4 * (k + 1)) (32 * k + 24) g.filesize three (omega arith) (omega arith) (omega arith) r.filesize;
    }

-- when the walk ends, the list has all that it can hold
module _ (s : List ℕ) (l : Layout) (list list' : List ℕ) (k : ℕ) (f : Started (segment_bytes s l) list list' k) where
  walk_filled : 4 * k ≡ min segment_numbers_most (4 * (length (segment_bytes s l) / 32))
      → (4 * k ≡ length (listed_numbers s l)) × (list' ≡ at_start (listed_numbers s l) list)
  walk_filled e =
      let same : numbers (4 * k) (segment_bytes s l) ≡ listed_numbers s l = ap (λ (n : ℕ). numbers n (segment_bytes s l)) e in
      let size : 4 * k ≡ length (listed_numbers s l) = sym (numbers_length (4 * k) (segment_bytes s l)) ∙ ap length same in
      (size, f.holds ∙ ap (λ (ns : List ℕ). ns ++ drop (4 * k) list) same ∙ ap (λ (n : ℕ). listed_numbers s l ++ drop n list) size)

  pub filled_all : None ≡ segment_in (segment_bytes s l) k → (4 * k ≡ length (listed_numbers s l)) × (list' ≡ at_start (listed_numbers s l) list)
  filled_all e = walk_filled (omega (arith, segment_beyond (segment_bytes s l) k e, f.bound, f.within))

  pub filled_full : segment_numbers_most / 4 ≤ k → (4 * k ≡ length (listed_numbers s l)) × (list' ≡ at_start (listed_numbers s l) list)
  filled_full h = walk_filled (omega (arith, f.bound, f.within))

-- ---- a layout's segments

segments_length : (s : List ℕ) (l : Layout) → Fit s l → length (segment_bytes s l) ≡ l.segments.size
segments_length s l f = ap length (part_in s l.segments.start l.segments.size f.segments) ∙ length-take-le l.segments.size (drop l.segments.start s) (simp length-drop (omega (arith, f.segments)))

module _ (s : List ℕ) (l : Layout) where
  abbrev all : ℕ
  all = 4 * (length (segment_bytes s l) / 32)

  -- whole segments, for any layout
  pub never_ragged : length (listed_numbers s l) % 4 ≡ 0
  never_ragged = omega (arith, numbers_length (min segment_numbers_most all) (segment_bytes s l))

  -- every number of an opened bundle's segments is in the list
  pub numbers_all : Fit s l → listed_numbers s l ≡ segment_numbers s l
  numbers_all f =
      let few : min segment_numbers_most all ≡ all = omega (arith, segments_length s l f, f.segments, f.short) in
      ap (λ (n : ℕ). numbers n (segment_bytes s l)) few

  -- and no byte of their body is left out
  pub numbers_whole : Fit s l → 8 * length (segment_numbers s l) ≡ l.segments.size
  numbers_whole f = omega (arith, numbers_length (4 * (length (segment_bytes s l) / 32)) (segment_bytes s l), segments_length s l f, f.whole)

-- numbers at the start of a list, which a caller passes on
module _ (ns list list' : List ℕ) (r : ℕ) (er : r ≡ length ns) (el : list' ≡ at_start ns list) where
  pub start_fits : r ≤ length list'
  start_fits = rw el (simp length-append (omega arith))

  pub start_lent : take r list' ≡ ns
  start_lent = rw el (take_at ns (drop (length ns) list) r (sym er))

-- ---- a segment by its number

-- the segments of four numbers and more
four : (m : ℕ) (s : List ℕ) → segments_of (numbers (suc (suc (suc (suc m)))) s) ≡ record { vmaddr = u64_in s 0; vmsize = u64_in s 8; fileoff = u64_in s 16; filesize = u64_in s 24 } ∷ segments_of (numbers m (drop 32 s))
unfolding numbers segments_of
four m s = simp drop-drop

all_of : (n : ℕ) (s : List ℕ) → segments_of (numbers (4 * suc n) s) ≡ record { vmaddr = u64_in s 0; vmsize = u64_in s 8; fileoff = u64_in s 16; filesize = u64_in s 24 } ∷ segments_of (numbers (4 * n) (drop 32 s))
all_of n s =
    let more : 4 * suc n ≡ suc (suc (suc (suc (4 * n)))) = omega arith in
    ap (λ (m : ℕ). segments_of (numbers m s)) more ∙ four (4 * n) s

-- the segment after one is that of the bytes after the first
segment_later : (body : List ℕ) (k : ℕ) → segment_in body (suc k) ≡ segment_in (drop 32 body) k
segment_later body k =
    elim (dec_le (32 * k + 32) (length (drop 32 body))) [
      | yes h ↦
          sym (segment_there body (suc k) _ _ _ _ refl refl refl refl (omega (arith, length-drop 32 body)))
          ∙ segment_there (drop 32 body) k _ _ _ _ (later (32 * k) (32 * suc k) (omega arith)) (later (32 * k + 8) (32 * suc k + 8) (omega arith)) (later (32 * k + 16) (32 * suc k + 16) (omega arith)) (later (32 * k + 24) (32 * suc k + 24) (omega arith)) h
      | no h ↦ sym (segment_past body (suc k) (omega (arith, length-drop 32 body))) ∙ segment_past (drop 32 body) k (omega arith)
    ]
  where
    later : (o at : ℕ) → at ≡ 32 + o → u64_in body at ≡ u64_in (drop 32 body) o
    later o at e = rw (e, drop-drop)

-- so the segment with a number is the one with that number among all
segment_nth : (n : ℕ) (body : List ℕ) (k : ℕ) → n ≡ length body / 32 → segment_in body k ≡ slice_get (segments_of (numbers (4 * n) body)) k
unfolding numbers segments_of
segment_nth zero body k e = sym (segment_past body k (omega arith))
segment_nth (suc n) body zero e =
    sym (segment_there body 0 _ _ _ _ refl refl refl refl (omega arith)) ∙ ap (λ (l : List Segment). slice_get l 0) (sym (all_of n body))
segment_nth (suc n) body (suc k) e =
    segment_later body k
    ∙ segment_nth n (drop 32 body) k (omega (arith, length-drop 32 body))
    ∙ ap (λ (l : List Segment). slice_get l (suc k)) (sym (all_of n body))

pub segment_listed : (s : List ℕ) (l : Layout) (k : ℕ) → segment_in (segment_bytes s l) k ≡ slice_get (segments_of (segment_numbers s l)) k
segment_listed s l k = segment_nth (length (segment_bytes s l) / 32) (segment_bytes s l) k refl
