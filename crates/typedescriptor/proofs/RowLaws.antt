-- What the tests on a descriptor and on a slot say about their programs.
use Rattle.std.specs.Prelude.{◌≡◌, ℕ, suc, ◌+◌, ◌-◌, ◌*◌, ◌%◌, ◌^◌, ◌<◌, ◌≤◌, List, length, ◌≢◌, Some, None}
use Rattle.std.proofs.Common.{sub-eq-zero_of_le, arith, add-one, le-leb, lt-ltb, le-ltb, ne_eqb}
use Rattle.std.proofs.Math.Path.{sym, ap}
use Rattle.std.proofs.lemmas.Bool.{lt-leb}
use Rattle.util.specs.LittleEndian.{unsigned_in, signed_in}
use Rattle.util.specs.Pointer.{relative_pointer, relative_address}
use Rattle.util.specs.declared.cstr.Place.{Place}
use Rattle.util.specs.Cstr.{part_of}
use Rattle.segment.specs.Segments.{segments_of, file_offset}
use Rattle.runtime.specs.Reads.{done, run, bytes_place, text_place}
use Rattle.runtime.specs.Bytes.{bytes_read}
use Rattle.runtime.proofs.CallsLaws.{run_bytes, run_no_bytes, run_text, run_no_text}
use Rattle.typedescriptor.specs.Row.{TypeRow, type_row, row_name, descriptor}
use Rattle.typedescriptor.specs.Slots.{slots, slot_descriptor, slot_row, found, first_row, next_row}

module _ (image segments : List ℕ) (a : ℕ) (h : List ℕ) (e : h ≡ bytes_read image segments a 20) where
  pub no_header : length h < 20 → None ≡ run image segments (descriptor a)
  unfolding descriptor
  no_header l = sym (run_no_bytes image segments a 20 (row_name a) h e l)

  header : 20 ≤ length h → run image segments (descriptor a) ≡ run image segments (row_name a h)
  unfolding descriptor
  header l = run_bytes image segments a 20 (row_name a) h e (omega arith) l

  pub no_slot : 20 ≤ length h → 2 ^ 64 ≤ a + 8 → None ≡ run image segments (descriptor a)
  unfolding row_name run
  no_slot l w = rw (header l) (simp (le-leb (2 ^ 64) (a + 8) w))

  module _ (v : ℕ) (at : v ≡ relative_pointer (a + 8) (signed_in 4 h 8)) where
    pub no_name : None ≡ text_place image segments v → 20 ≤ length h → a + 8 < 2 ^ 64 → None ≡ run image segments (descriptor a)
    unfolding row_name
    no_name t l w = rw (header l) (simp (lt-leb (2 ^ 64) (a + 8) w) (rw (← at) (sym (run_no_text image segments v _ t))))

    pub row_at : (p : Place) (f q : ℕ) → Some p ≡ text_place image segments v → f ≡ unsigned_in 4 h 0 → q ≡ relative_address (a + 4) (signed_in 4 h 4)
        → 20 ≤ length h → a + 8 < 2 ^ 64
        → Some (record { address = a; flags = f; parent = q; name = p; name_bytes = part_of image p }) ≡ run image segments (descriptor a)
    unfolding row_name run
    row_at p f q t ef eq l w =
        rw (header l, ef, eq) (simp (lt-leb (2 ^ 64) (a + 8) w) (rw (← at) (sym (run_text image segments v (λ p t. done (type_row a h p t)) p t))))

-- an address that is not in the file has no row
pub no_place : (image segments : List ℕ) (a : ℕ) → None ≡ file_offset (segments_of segments) a → None ≡ run image segments (descriptor a)
unfolding descriptor run bytes_place
no_place image segments a e = rw (← e)

-- what a slot refers to, and what is then read
module _ (types : List ℕ) (start i : ℕ) where
  pub past_slots : slots types ≤ i → None ≡ slot_descriptor types start i
  past_slots h = simp (le-ltb i (slots types) h)

  pub zero_slot : unsigned_in 4 types (4 * i) ≡ 0 → i < slots types → None ≡ slot_descriptor types start i
  zero_slot z h = simp (lt-ltb i (slots types) h, z)

  pub slot_at : (s v : ℕ) → (unsigned_in 4 types (4 * i) ≢ 0) → s ≡ (start + 4 * i) % 2 ^ 64 → v ≡ relative_pointer s (signed_in 4 types (4 * i))
      → i < slots types → Some v ≡ slot_descriptor types start i
  slot_at s v z es ev h = rw (ev, es) (simp (lt-ltb i (slots types) h, ne_eqb (unsigned_in 4 types (4 * i)) 0 z))

module _ (image segments types : List ℕ) (start i : ℕ) where
  pub refers_nowhere : None ≡ slot_descriptor types start i → None ≡ run image segments (slot_row types start i)
  unfolding slot_row run
  refers_nowhere e = rw (← e)

  pub refers_to : (a : ℕ) → Some a ≡ slot_descriptor types start i → run image segments (descriptor a) ≡ run image segments (slot_row types start i)
  unfolding slot_row
  refers_to a e = rw (← e)

  -- a turn of the walk
  here : i < slots types → next_row image segments types start i ≡ first_row image segments types start (suc (slots types - (i + 1))) i
  unfolding next_row
  here h = ap (λ (n : ℕ). first_row image segments types start n i) (omega arith)

  pub row_next : (r : TypeRow) → Some r ≡ run image segments (slot_row types start i) → i < slots types → Some (found i r) ≡ next_row image segments types start i
  unfolding first_row
  row_next r e h = rw (here h, first_row, ← e)

  pub slot_passed : None ≡ run image segments (slot_row types start i) → i < slots types → next_row image segments types start i ≡ next_row image segments types start (i + 1)
  unfolding first_row next_row
  slot_passed e h = rw (here h, first_row, ← e, add-one)

  pub rows_end : slots types ≤ i → None ≡ next_row image segments types start i
  unfolding next_row first_row
  rows_end h = rw (sub-eq-zero_of_le h)
