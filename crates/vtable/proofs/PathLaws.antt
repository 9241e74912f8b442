-- The path of an entry, all entries up to it (docs/SPECIFICATION.md, "Items, paths and the cut"), as an equation; and what the words of an entry say, by examples.
use Rattle.std.specs.Prelude.{◌≡◌, ℕ, zero, suc, ◌+◌, ◌-◌, ◌^◌, ◌<◌, ◌≤◌, List, [], ◌∷◌, ◌++◌, length, take, drop, Option, Some, None, unwrap_or}
use Rattle.std.proofs.Math.Decide.{dec_le, dec_lt}
use native.Mathlib.Omega.{arith}
use Rattle.std.proofs.Math.Path.{refl, ap}
use Rattle.std.proofs.Common.{sym, ◌∙◌, le-leb, lt-ltb, le-ltb}
use Rattle.std.proofs.lemmas.Bool.{lt-leb}
use Rattle.util.specs.LittleEndian.{little_endian, bytes_at, little_at, twos_complement, signed_at, unsigned_in, signed_in}
use Rattle.util.specs.Pointer.{relative_pointer, relative_address}
use Rattle.segment.specs.Segments.{segments_of, decides, in_file, file_offset}
use Rattle.runtime.specs.Reads.{Reads, done, bytes, bind, and_then, within, bytes_place, run, Range, bytes_range, path}
use Rattle.runtime.proofs.ReadsLaws.{run_bind, path_bind}
use Rattle.runtime.proofs.PathLaws.{path_bytes, bytes_read_lem}
use Rattle.vtable.specs.Entries.{Layout, method, override, default_override, prespecialization, entry_size, Entry, entry_of, entry_address, entry_at, up_to, entry}

-- where an address lies in the file, 0 if it does not
abbrev pub offset_or_zero : List ℕ → ℕ → ℕ
offset_or_zero segments a = unwrap_or (file_offset (segments_of segments) a) 0

-- the bytes of the entries 0 to `k` in the file, one range to an entry
unfoldable pub ranges : List ℕ → Layout → ℕ → ℕ → List Range
ranges segments layout base zero = bytes_range (offset_or_zero segments (entry_address layout base 0)) (entry_size layout) ∷ []
ranges segments layout base (suc k) = ranges segments layout base k ++ (bytes_range (offset_or_zero segments (entry_address layout base (suc k))) (entry_size layout) ∷ [])

-- an entry's bytes lie in the image, at the offset of its address
pub record Placed (image segments : List ℕ) (layout : Layout) (base k : ℕ) : Type 0 where
  pub at : file_offset (segments_of segments) (entry_address layout base k) ≡ Some (offset_or_zero segments (entry_address layout base k))
  pub inside : offset_or_zero segments (entry_address layout base k) + entry_size layout ≤ length image
  pub below : entry_address layout base k + (entry_size layout - 4) < 2 ^ 64

module _ (image segments : List ℕ) (layout : Layout) (base : ℕ) where
  -- ---- an entry by itself

  module _ (k : ℕ) (e : Entry) (there : run image segments (entry_at layout base k) ≡ Some e) where
    abbrev last : ℕ
    last = entry_address layout base k + (entry_size layout - 4)

    abbrev says : List ℕ → Reads Entry
    says h = done (entry_of layout (entry_address layout base k) h)

    last_below : last < 2 ^ 64
    unfolding entry_at run
    last_below = go (dec_le (2 ^ 64) last)
      where
        go : Dec (2 ^ 64 ≤ last) → last < 2 ^ 64
        go (yes w) =
            let f : ◌≡◌ {A = Option Entry} None (Some e) = simp (le-leb (2 ^ 64) last w) at there in
            let z : ◌≡◌ {A = ℕ} 0 1 = cc in
            absurd (omega arith)
        go (no w) = omega arith

    program : entry_at layout base k ≡ bytes (entry_address layout base k) (entry_size layout) says
    unfolding entry_at
    program = simp (lt-leb (2 ^ 64) last last_below)

    pub placed : Placed image segments layout base k
    placed =
        let w = bytes_read_lem image segments (entry_address layout base k) e (entry_size layout) says (rw program at there) in
        let q : offset_or_zero segments (entry_address layout base k) ≡ w.offset = ap (λ (x : Option ℕ). unwrap_or x 0) w.at in
        record { at = w.at ∙ ap Some (sym q); inside = omega (arith, w.inside); below = last_below }

    own_path : path image segments (entry_at layout base k) ≡ bytes_range (offset_or_zero segments (entry_address layout base k)) (entry_size layout) ∷ []
    unfolding path
    own_path = ap (path image segments) program ∙ path_bytes image segments (entry_address layout base k) (entry_size layout) says _ placed.at placed.inside

    -- and it is what these bytes say
    pub own_words : e ≡ entry_of layout (entry_address layout base k) (take (entry_size layout) (drop (offset_or_zero segments (entry_address layout base k)) image))
    unfolding run
    own_words =
        let w = bytes_read_lem image segments (entry_address layout base k) e (entry_size layout) says (rw program at there) in
        let q : offset_or_zero segments (entry_address layout base k) ≡ w.offset = ap (λ (x : Option ℕ). unwrap_or x 0) w.at in
        let f : Some (entry_of layout (entry_address layout base k) (take (entry_size layout) (drop w.offset image))) ≡ Some e = w.goes in
        let g : e ≡ entry_of layout (entry_address layout base k) (take (entry_size layout) (drop w.offset image)) = cc in
        rw q g

  -- ---- an entry of a list

  -- the entry before an entry that can be read, and that entry itself
  record Both (k : ℕ) (e : Entry) : Type 0 where
    before : Entry
    was : run image segments (up_to layout base k) ≡ Some before
    is : run image segments (entry_at layout base (suc k)) ≡ Some e

  both : (k : ℕ) (e : Entry) → run image segments (up_to layout base (suc k)) ≡ Some e → Both k e
  unfolding up_to
  both k e there = go (run image segments (up_to layout base k)) refl (sym (run_bind image segments (λ _. entry_at layout base (suc k)) (up_to layout base k)) ∙ there)
    where
      go : (x : Option Entry) → run image segments (up_to layout base k) ≡ x → and_then x (λ _. run image segments (entry_at layout base (suc k))) ≡ Some e → Both k e
      go None t f = let z : ◌≡◌ {A = ℕ} 0 1 = cc in absurd (omega arith)
      go (Some a) t f = record { before = a; was = t; is = f }

  up_to_path : (k : ℕ) (e : Entry) → run image segments (up_to layout base k) ≡ Some e → path image segments (up_to layout base k) ≡ ranges segments layout base k
  unfolding up_to ranges
  up_to_path zero e there = own_path 0 e there
  up_to_path (suc k) e there =
      let b = both k e there in
      path_bind image segments (λ _. entry_at layout base (suc k)) (up_to layout base k)
      ∙ rw (b.was, up_to_path k b.before b.was, own_path (suc k) e b.is)

  up_to_placed : (k : ℕ) (e : Entry) → run image segments (up_to layout base k) ≡ Some e → (j : ℕ) → j ≤ k → Placed image segments layout base j
  unfolding up_to
  up_to_placed zero e there j l = let z : j ≡ 0 = omega arith in rw z (placed 0 e there)
  up_to_placed (suc k) e there j l = go (up_to_placed k b.before b.was) (dec_le j k)
    where
      b : Both k e
      b = both k e there

      go : ((i : ℕ) → i ≤ k → Placed image segments layout base i) → Dec (j ≤ k) → Placed image segments layout base j
      go ih (yes h) = ih j h
      go ih (no h) = let z : j ≡ suc k = omega arith in rw z (placed (suc k) e b.is)

  up_to_own : (k : ℕ) (e : Entry) → run image segments (up_to layout base k) ≡ Some e → run image segments (entry_at layout base k) ≡ Some e
  unfolding up_to
  up_to_own zero e there = there
  up_to_own (suc k) e there = (both k e there).is

  module _ (count k : ℕ) (e : Entry) (there : run image segments (entry layout base count k) ≡ Some e) where
    is_program : (k < count) × (entry layout base count k ≡ up_to layout base k)
    unfolding entry run
    is_program = go (dec_lt k count)
      where
        go : Dec (k < count) → (k < count) × (entry layout base count k ≡ up_to layout base k)
        go (yes l) = (l, simp (lt-ltb k count l))
        go (no l) =
            let f : ◌≡◌ {A = Option Entry} None (Some e) = simp (le-ltb k count (omega arith)) at there in
            let z : ◌≡◌ {A = ℕ} 0 1 = cc in
            absurd (omega arith)

    -- the number of an entry that can be read is below the table's count
    pub entry_counted : k < count
    entry_counted = is_program.0

    -- its path: the entries 0 to `k`, each with all its bytes
    pub entry_path : path image segments (entry layout base count k) ≡ ranges segments layout base k
    entry_path = ap (path image segments) is_program.1 ∙ up_to_path k e (rw is_program.1 at there)

    -- each of which lies in the image
    pub entry_placed : (j : ℕ) → j ≤ k → Placed image segments layout base j
    entry_placed = up_to_placed k e (rw is_program.1 at there)

    -- and the entry is what its own bytes say
    pub entry_words : e ≡ entry_of layout (entry_address layout base k) (take (entry_size layout) (drop (offset_or_zero segments (entry_address layout base k)) image))
    entry_words = own_words k e (up_to_own k e (rw is_program.1 at there))

-- ---- the words, by examples

-- an image of 24 bytes, at address 4096
abbrev pub sample_image : List ℕ
sample_image =
    16 ∷ 0 ∷ 0 ∷ 0 ∷ 252 ∷ 255 ∷ 255 ∷ 255 ∷ 1 ∷ 2 ∷ 3 ∷ 4 ∷ 0 ∷ 0 ∷ 0 ∷ 0 ∷ 8 ∷ 0 ∷ 0 ∷ 0 ∷ 0 ∷ 1 ∷ 0 ∷ 0 ∷ []

abbrev pub sample_segments : List ℕ
sample_segments = 4096 ∷ 24 ∷ 0 ∷ 24 ∷ []

-- addresses up to 2^64 - 2
abbrev pub high_segments : List ℕ
high_segments = 18446744073709551592 ∷ 23 ∷ 0 ∷ 24 ∷ []

abbrev answered : ℕ → List ℕ → Option Entry
answered a xs = Some (record { address = a; words = xs })

abbrev sample : Layout → ℕ → ℕ → Option Entry
sample layout count k = run sample_image sample_segments (entry layout 4096 count k)

abbrev high : Layout → ℕ → Option Entry
high layout base = run sample_image high_segments (entry layout base 1 0)

pub record EntryPathsWorked : Type 0 where
  pub sizes : (entry_size method ≡ 8) × (entry_size override ≡ 12) × (entry_size default_override ≡ 8) × (entry_size prespecialization ≡ 4)
  -- flags 16; the implementation's offset -4 counts from its own slot at 4100
  pub method_0 : sample method 3 0 ≡ answered 4096 (16 ∷ (4096 ∷ []))
  -- flags 0x04030201; offset 0 gives 0
  pub method_1 : sample method 3 1 ≡ answered 4104 (67305985 ∷ (0 ∷ []))
  -- flags 8; offset 256 from 4116
  pub method_2 : sample method 3 2 ≡ answered 4112 (8 ∷ (4372 ∷ []))
  -- a table of two has no third entry; a fourth one is past the image
  pub no_method_2 : sample method 2 2 ≡ None
  pub no_method_3 : sample method 4 3 ≡ None
  -- 16 from 4096, -4 from 4100, 0x04030201 from 4104
  pub override_0 : sample override 2 0 ≡ answered 4096 (4112 ∷ (4096 ∷ (67310089 ∷ [])))
  pub override_1 : sample override 2 1 ≡ answered 4108 (0 ∷ (4120 ∷ (4372 ∷ [])))
  pub default_0 : sample default_override 3 0 ≡ answered 4096 (4112 ∷ (4096 ∷ []))
  pub default_2 : sample default_override 3 2 ≡ answered 4112 (4120 ∷ (4372 ∷ []))
  pub special_1 : sample prespecialization 6 1 ≡ answered 4100 (4096 ∷ [])
  pub special_5 : sample prespecialization 6 5 ≡ answered 4116 (4372 ∷ [])
  -- at 2^64 - 8 a method's words lie below 2^64, and an override's third does not; at 2^64 - 4 a method's second does not
  pub high_method : high method 18446744073709551608 ≡ answered 18446744073709551608 (8 ∷ (252 ∷ []))
  pub high_override : high override 18446744073709551604 ≡ answered 18446744073709551604 (0 ∷ (0 ∷ (252 ∷ [])))
  pub no_override : run (sample_image ++ sample_image) high_segments (entry override 18446744073709551608 1 0) ≡ None
  pub no_method : run (sample_image ++ sample_image) high_segments (entry method 18446744073709551612 1 0) ≡ None
  pub high_special : high prespecialization 18446744073709551612 ≡ answered 18446744073709551612 (252 ∷ [])

pub entry_paths_worked : EntryPathsWorked
unfolding run bytes_place within segments_of file_offset decides in_file entry up_to entry_at bind unsigned_in signed_in little_at signed_at bytes_at little_endian twos_complement relative_address relative_pointer
entry_paths_worked =
    record {
      sizes = (refl, refl, refl, refl);
      method_0 = refl;
      method_1 = refl;
      method_2 = refl;
      no_method_2 = refl;
      no_method_3 = refl;
      override_0 = refl;
      override_1 = refl;
      default_0 = refl;
      default_2 = refl;
      special_1 = refl;
      special_5 = refl;
      high_method = refl;
      high_override = refl;
      no_override = refl;
      no_method = refl;
      high_special = refl;
    }
