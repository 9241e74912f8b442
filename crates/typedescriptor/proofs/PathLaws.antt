-- The path of a row as an equation (docs/SPECIFICATION.md, "Items, paths and the cut"): 20 bytes, and the name with its NUL; and what a slot without a
-- row reads.
use Rattle.std.specs.Prelude.{◌≡◌, ℕ, ◌+◌, ◌-◌, ◌*◌, ◌^◌, ◌<◌, ◌≤◌, min, max, Bool, true, false, cond, List, [], ◌∷◌, length, take, drop, ◌==◌, ◌≢◌, nat_lt, Option, Some, None}
use Rattle.std.proofs.Math.Decide.{dec_le}
use Rattle.std.proofs.Common.{arith, ◌∙◌, le-leb, le-ltb}
use Rattle.std.proofs.Math.Path.{refl, sym, ap}
use Rattle.std.proofs.lemmas.Bool.{lt-leb}
use Rattle.utf8.specs.Text.{until_nul}
use Rattle.segment.specs.Segments.{segments_of, file_offset}
use Rattle.util.specs.LittleEndian.{unsigned_in}
use Rattle.util.specs.declared.cstr.Place.{Place}
use Rattle.util.specs.Cstr.{text_at}
use Rattle.runtime.specs.Reads.{Reads, done, text, run, Range, bytes_range, with_nul, path}
use Rattle.runtime.proofs.PathLaws.{path_bytes, path_bytes_past, path_no_text, bytes_read_lem, text_read, path_found}
use Rattle.typedescriptor.specs.Row.{TypeRow, type_row, name_address, row_name, descriptor}
use Rattle.typedescriptor.specs.Slots.{slots, slot_address, read_at, slot_row}

module _ (image segments : List ℕ) (row : TypeRow) where
  -- the row's address is the descriptor's
  pub row_address : (a : ℕ) → run image segments (descriptor a) ≡ Some row → row.address ≡ a
  unfolding descriptor row_name run
  row_address a e =
      let w = bytes_read_lem image segments a row 20 (row_name a) e in
      go (take 20 (drop w.offset image)) (dec_le (2 ^ 64) (a + 8)) w.goes
    where
      go : (h : List ℕ) → Dec (2 ^ 64 ≤ a + 8) → run image segments (row_name a h) ≡ Some row → row.address ≡ a
      go h (yes l) g =
          let f : ◌≡◌ {A = Option TypeRow} None (Some row) = simp (le-leb (2 ^ 64) (a + 8) l) at g in
          let z : ◌≡◌ {A = ℕ} 0 1 = cc in
          absurd (omega arith)
      go h (no l) g =
          let k : Place → List ℕ → Reads TypeRow = λ p t. done (type_row a h p t) in
          let f : run image segments (text (name_address a h) k) ≡ Some row = simp (lt-leb (2 ^ 64) (a + 8) (omega arith)) at g in
          let w = text_read image segments (name_address a h) row k f in
          let r : Some (type_row a h w.place (until_nul (drop w.place.start image))) ≡ Some row = w.goes in
          let q : row ≡ type_row a h w.place (until_nul (drop w.place.start image)) = cc in
          ap (λ (s : TypeRow). s.address) q

  -- what is read after the 20 bytes
  name_path : (a : ℕ) (h : List ℕ) → run image segments (row_name a h) ≡ Some row → path image segments (row_name a h) ≡ with_nul image row.name ∷ []
  unfolding row_name run path
  name_path a h e = go (dec_le (2 ^ 64) (a + 8))
    where
      k : Place → List ℕ → Reads TypeRow
      k = λ p t. done (type_row a h p t)

      go : Dec (2 ^ 64 ≤ a + 8) → path image segments (row_name a h) ≡ with_nul image row.name ∷ []
      go (yes l) =
          let f : ◌≡◌ {A = Option TypeRow} None (Some row) = simp (le-leb (2 ^ 64) (a + 8) l) at e in
          let z : ◌≡◌ {A = ℕ} 0 1 = cc in
          absurd (omega arith)
      go (no l) =
          let f : run image segments (text (name_address a h) k) ≡ Some row = simp (lt-leb (2 ^ 64) (a + 8) (omega arith)) at e in
          let w = text_read image segments (name_address a h) row k f in
          let r : Some (type_row a h w.place (until_nul (drop w.place.start image))) ≡ Some row = w.goes in
          let q : type_row a h w.place (until_nul (drop w.place.start image)) ≡ row = cc in
          simp (lt-leb (2 ^ 64) (a + 8) (omega arith))
          (path_found image segments (name_address a h) row k w ∙ ap (λ (s : TypeRow). with_nul image s.name ∷ []) q)

  -- 20 bytes, and the name with its NUL
  pub row_path : (a o : ℕ) → run image segments (descriptor a) ≡ Some row → file_offset (segments_of segments) a ≡ Some o
      → path image segments (descriptor a) ≡ bytes_range o 20 ∷ (with_nul image row.name ∷ [])
  unfolding descriptor
  row_path a o e at =
      let w = bytes_read_lem image segments a row 20 (row_name a) e in
      let f : Some w.offset ≡ Some o = sym w.at ∙ at in
      let q : w.offset ≡ o = cc in
      path_bytes image segments a 20 (row_name a) w.offset w.at w.inside
      ∙ rw q (ap (λ (l : List Range). bytes_range o 20 ∷ l) (name_path a _ (rw q at w.goes)))

module _ (image segments : List ℕ) (a o : ℕ) (at : file_offset (segments_of segments) a ≡ Some o) where
  -- no row for want of a name: the 20 bytes, and what was looked up as the name, to its NUL or the image's end
  pub no_name_path : (v q : ℕ) → o + 20 ≤ length image → a + 8 < 2 ^ 64 → v ≡ name_address a (take 20 (drop o image)) → (v ≢ 0)
      → file_offset (segments_of segments) v ≡ Some q → text_at image q ≡ None
      → path image segments (descriptor a)
      ≡ bytes_range o 20 ∷ (record { from = q; to = q + max 1 (min (length image - q) (length (until_nul (drop q image)) + 1)); is_text = true } ∷ [])
  unfolding descriptor row_name
  no_name_path v q h l ev z f t =
      path_bytes image segments a 20 (row_name a) o at h
      ∙ ap (λ (p : List Range). bytes_range o 20 ∷ p) (simp (lt-leb (2 ^ 64) (a + 8) l) (rw (← ev) (path_no_text image segments v _ z q f t)))

  -- no row for want of 20 bytes
  pub no_header_path : length image < o + 20 → path image segments (descriptor a) ≡ []
  unfolding descriptor
  no_header_path h = path_bytes_past image segments a 20 (row_name a) o at h

-- ---- slots

module _ (image segments types : List ℕ) (start i : ℕ) where
  -- a slot with a row reads what the descriptor that it refers to reads
  pub slot_program : (row : TypeRow) → run image segments (slot_row types start i) ≡ Some row → slot_row types start i ≡ descriptor (slot_address types start i)
  unfolding slot_row run
  slot_program row e = go (nat_lt i (slots types)) (unsigned_in 4 types (4 * i) == 0) (slot_address types start i) e
    where
      go : (b c : Bool) (a : ℕ) → run image segments (read_at (cond b (cond c None (Some a)) None) descriptor) ≡ Some row → read_at (cond b (cond c None (Some a)) None) descriptor ≡ descriptor a
      go true false a f = refl
      go true true a f = let z : ◌≡◌ {A = ℕ} 0 1 = cc in absurd (omega arith)
      go false c a f = let z : ◌≡◌ {A = ℕ} 0 1 = cc in absurd (omega arith)

  pub slot_path : (row : TypeRow) (o : ℕ) → run image segments (slot_row types start i) ≡ Some row → file_offset (segments_of segments) (slot_address types start i) ≡ Some o
      → path image segments (slot_row types start i) ≡ bytes_range o 20 ∷ (with_nul image row.name ∷ [])
  slot_path row o e at =
      let p = slot_program row e in
      ap (path image segments) p ∙ row_path image segments row (slot_address types start i) o (rw p at e) at

  pub past_slots_path : slots types ≤ i → path image segments (slot_row types start i) ≡ []
  unfolding slot_row path
  past_slots_path h = simp (le-ltb i (slots types) h)

  pub zero_slot_path : unsigned_in 4 types (4 * i) ≡ 0 → path image segments (slot_row types start i) ≡ []
  unfolding slot_row path
  zero_slot_path z = go (nat_lt i (slots types))
    where
      go : (b : Bool) → path image segments (read_at (cond b (cond (unsigned_in 4 types (4 * i) == 0) None (Some (slot_address types start i))) None) descriptor) ≡ []
      go true = simp z
      go false = refl
