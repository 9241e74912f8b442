-- What the calls' tests say about the definitions, once for every layout: the bytes of an entry (`small`, `wraps`, `below`), what they say
-- (`entry_of_lem`, `no_entry`, `an_entry`), a step's answers (`step_end`, `step_gives`, `step-moves`), and that a true mapping changes none
-- (`step-mapped`); and the same for a step over the entries of a kind (`kind-end`, `kind-unreadable`, `kind-entry`), whose answer has the
-- entry's words (`words-in`).
use Rattle.std.specs.Prelude.{◌≡◌, ℕ, zero, suc, ℤ, pos, negsuc, ◌+◌, ◌-◌, ◌*◌, ◌%◌, ◌^◌, ◌<◌, ◌≤◌, List, [], ◌∷◌, length, take, ◌≢◌, refl, Option, Some, None}
use Rattle.std.proofs.Math.Nat.{mod-eq_of_lt}
use Rattle.std.proofs.Common.{mul-le-mul_left, mul-lt-mul_of_pos_right, lt_of_le_of_lt, le_of_lt, sym, ap, ◌∙◌, length-take, length-drop}
use Rattle.std.proofs.Math.Decide.{dec_le, dec_lt}
use Rattle.std.proofs.lemmas.List.{length-replicate}
use native.Mathlib.Omega.{arith}
use borrow.Author.Tests.{le-leb, lt-leb, lt-ltb, le-ltb}
use Rattle.util.specs.LittleEndian.{signed_in}
use Rattle.util.specs.Pointer.{relative_pointer, relative_address}
use Rattle.segment.specs.Mapping.{with_mapping, TrueMapping}
use Rattle.segment.specs.declared.segment.Mapping.{Mapping}
use Rattle.runtime.specs.Reads.{Reads, bytes_place, run, done}
use Rattle.runtime.specs.Bytes.{bytes_from, bytes_read}
use Rattle.runtime.proofs.CallsLaws.{bytes_within, run_bytes, run_no_bytes, run_mapped}
use Rattle.vtable.specs.declared.entry.EntryKind.{EntryKind}
use Rattle.vtable.specs.declared.entry.TableEntry.{TableEntry}
use Rattle.vtable.specs.declared.shape.Shape.{Shape}
use Rattle.vtable.specs.declared.iter.EntryIter.{EntryIter}
use Rattle.vtable.specs.declared.iter.EntryStep.{EntryStep}
use Rattle.vtable.specs.Entries.{Word, pointer, Layout, packed, words_of, shape_words, kind_layout, entry_size, word_at, words_from, Entry, entry_of, entry_address, entry_at, moved, entry_step, entry_bytes, table_entry, step_answer}

-- two numbers of 32 bits have a product of 64
pub product : {a b : ℕ} → a < 2 ^ 32 → b < 2 ^ 32 → a * b < 2 ^ 64
product {a} {b} ha hb = lt_of_le_of_lt (mul-le-mul_left a (le_of_lt hb)) (mul-lt-mul_of_pos_right ha (omega arith))

-- either all bytes are read or none
whole : (image segments : List ℕ) (a n : ℕ) (h : List ℕ) → h ≡ bytes_read image segments a n → (length h ≢ 0) → n ≤ length h
unfolding bytes_read
whole image segments a n h e z = go (bytes_place image segments a n) refl
  where
    go : (x : Option ℕ) → bytes_place image segments a n ≡ x → n ≤ length h
    go None f = absurd (z (ap length (e ∙ ap (bytes_from image n) f)))
    go (Some o) f =
        let w : o + n ≤ length image = bytes_within image segments a n o (sym f) in
        omega (arith, simp (length-take, length-drop) at (ap length (e ∙ ap (bytes_from image n) f)))

-- ---- the bytes of an entry

module _ (image segments : List ℕ) (size stride base k : ℕ) where
  pub small : size < 4 → [] ≡ entry_bytes image segments size stride base k
  unfolding entry_bytes
  small h = simp (lt-ltb size 4 h)

  pub wraps : 4 ≤ size → 2 ^ 64 ≤ base + stride * k + (size - 4) → [] ≡ entry_bytes image segments size stride base k
  unfolding entry_bytes
  wraps h w = simp (le-ltb size 4 h, le-leb (2 ^ 64) (base + stride * k + (size - 4)) w)

  pub below : (r : List ℕ) → 4 ≤ size → base + stride * k + (size - 4) < 2 ^ 64 → r ≡ bytes_read image segments (base + stride * k) size
      → r ≡ entry_bytes image segments size stride base k
  unfolding entry_bytes
  below r h w e = simp (le-ltb size 4 h, lt-leb (2 ^ 64) (base + stride * k + (size - 4)) w) e

  -- the same at the address by another name
  pub below_at : (a : ℕ) (r : List ℕ) → 4 ≤ size → a ≡ base + stride * k → a + (size - 4) < 2 ^ 64 → r ≡ bytes_read image segments a size
      → r ≡ entry_bytes image segments size stride base k
  below_at a r h ea w e = below r h (rw ea at w) (rw ea at e)

-- ---- what its words say

abbrev pub Says : List Word → ℕ → ℕ → List ℕ → List ℕ → Type 0
Says [] a o h [] = Unit {0}
Says [] a o h (x ∷ xs) = ⊥
Says (w ∷ ws) a o h [] = ⊥
Says (w ∷ ws) a o h (x ∷ xs) = (x ≡ word_at w a o h) × Says ws a (o + 4) h xs

words_from_lem : (ws : List Word) (a o : ℕ) (h xs : List ℕ) → Says ws a o h xs → xs ≡ words_from ws a o h
words_from_lem [] a o h [] e = refl
words_from_lem [] a o h (x ∷ xs) e = absurd e
words_from_lem (w ∷ ws) a o h [] e = absurd e
words_from_lem (w ∷ ws) a o h (x ∷ xs) e = cc (e.0, words_from_lem ws a (o + 4) h xs e.1)

pub entry_of_lem : (layout : Layout) (a : ℕ) (h xs : List ℕ) → Says layout.words a 0 h xs → record { address = a; words = xs } ≡ entry_of layout a h
entry_of_lem layout a h xs e = ap (λ (l : List ℕ). record { address = a; words = l }) (words_from_lem layout.words a 0 h xs e)

-- a pointer that is an entry's first word
pub first_word : (a x : ℕ) (h : List ℕ) → x ≡ relative_address a (signed_in 4 h 0) → x ≡ word_at pointer a 0 h
first_word a x h e = e ∙ ap (λ (n : ℕ). relative_address n (signed_in 4 h 0)) (omega arith)

-- an address modulo 2^64 gives a pointer the same target
pub wrapped_pointer : (a : ℕ) (z : ℤ) → relative_pointer (a % 2 ^ 64) z ≡ relative_pointer a z
unfolding relative_pointer
wrapped_pointer a (pos n) = omega arith
wrapped_pointer a (negsuc n) = go (dec_lt a (suc n)) (dec_lt (a % 2 ^ 64) (suc n))
  where
    go : Dec (a < suc n) → Dec (a % 2 ^ 64 < suc n) → relative_pointer (a % 2 ^ 64) (negsuc n) ≡ relative_pointer a (negsuc n)
    go (yes l) (yes m) = rw (lt-ltb a (suc n) l) (rw (lt-ltb (a % 2 ^ 64) (suc n) m) (omega arith))
    go (yes l) (no m) = absurd (omega arith)
    go (no l) (yes m) = rw (le-ltb a (suc n) (omega arith)) (rw (lt-ltb (a % 2 ^ 64) (suc n) m) (omega arith))
    go (no l) (no m) = rw (le-ltb a (suc n) (omega arith)) (rw (le-ltb (a % 2 ^ 64) (suc n) (omega arith)) (omega arith))

pub wrapped_address : (a : ℕ) (z : ℤ) → relative_address (a % 2 ^ 64) z ≡ relative_address a z
unfolding relative_address
wrapped_address a (pos zero) = refl
wrapped_address a (pos (suc n)) = wrapped_pointer a (pos (suc n))
wrapped_address a (negsuc n) = wrapped_pointer a (negsuc n)

-- ---- an entry's bytes

-- bytes that were handed on are those of the entry, and its words lie below 2^64
module _ (image segments : List ℕ) (layout : Layout) (base k : ℕ) (some_words : 1 ≤ length layout.words) (h : List ℕ) (e : h ≡ entry_bytes image segments (entry_size layout) layout.stride base k) where
  abbrev last : ℕ
  last = entry_address layout base k + (entry_size layout - 4)

  abbrev k_of : List ℕ → Reads Entry
  k_of = λ h. done (entry_of layout (entry_address layout base k) h)

  abbrev There : Type 0
  There = (last < 2 ^ 64) × (h ≡ bytes_read image segments (entry_address layout base k) (entry_size layout))

  is_read : last < 2 ^ 64 → h ≡ bytes_read image segments (entry_address layout base k) (entry_size layout)
  is_read l = e ∙ sym (below image segments (entry_size layout) layout.stride base k _ (omega arith) l refl)

  is_there_lem : (length h ≢ 0) → There
  is_there_lem n = go (dec_le (2 ^ 64) last)
    where
      go : Dec (2 ^ 64 ≤ last) → There
      go (yes w) =
          let f : h ≡ [] = e ∙ sym (wraps image segments (entry_size layout) layout.stride base k (omega arith) w) in
          absurd (n (ap length f))
      go (no w) = (omega arith, is_read (omega arith))

  pub slots_below : (length h ≢ 0) → (a : ℕ) → a ≡ entry_address layout base k % 2 ^ 64 → a + (entry_size layout - 4) < 2 ^ 64
  slots_below n a ea =
      let t = (is_there_lem n).0 in
      let f : a ≡ entry_address layout base k = ea ∙ mod-eq_of_lt (omega arith) in
      omega arith

  pub no_entry : length h ≡ 0 → None ≡ run image segments (entry_at layout base k)
  unfolding entry_at run
  no_entry n = go (dec_le (2 ^ 64) last)
    where
      go : Dec (2 ^ 64 ≤ last) → None ≡ run image segments (entry_at layout base k)
      go (yes w) = simp (le-leb (2 ^ 64) last w)
      go (no w) =
          let b : last < 2 ^ 64 = omega arith in
          simp (lt-leb (2 ^ 64) last b) (sym (run_no_bytes image segments (entry_address layout base k) (entry_size layout) k_of h (is_read b) (omega arith)))

  pub an_entry : (length h ≢ 0) → (a : ℕ) (x : Entry) → a ≡ entry_address layout base k % 2 ^ 64 → x ≡ entry_of layout a h → Some x ≡ run image segments (entry_at layout base k)
  unfolding entry_at run
  an_entry n a x ea ex =
      let t = is_there_lem n in
      let b = t.0 in
      let f : a ≡ entry_address layout base k = ea ∙ mod-eq_of_lt (omega arith) in
      let r = run_bytes image segments (entry_address layout base k) (entry_size layout) k_of h t.1 (omega arith) (whole image segments _ _ h t.1 n) in
      simp (lt-leb (2 ^ 64) last b) (rw (r, ex, f))

-- ---- a step

module _ (image segments : List ℕ) (layout : Layout) (c : EntryIter) where
  pub step_end : c.count ≤ c.next → None ≡ entry_step image segments layout c
  unfolding entry_step
  step_end h = simp (le-ltb c.next c.count h)

  pub step_gives : (x : Option Entry) → x ≡ run image segments (entry_at layout c.base_va c.next) → c.next < c.count
      → Some (record { found = x; next = moved c }) ≡ entry_step image segments layout c
  unfolding entry_step
  step_gives x e l = simp (lt-ltb c.next c.count l) (rw (← e))

  -- the same for a cursor that was moved
  pub step_moves : (x : Option Entry) (n : EntryIter) → x ≡ run image segments (entry_at layout c.base_va c.next) → n ≡ moved c → c.next < c.count
      → Some (record { found = x; next = n }) ≡ entry_step image segments layout c
  step_moves x n e f l = rw f (step_gives x e l)

  -- a true mapping changes no step
  pub step_mapped : (m : Mapping) → TrueMapping segments m → entry_step image (with_mapping m segments) layout c ≡ entry_step image segments layout c
  unfolding entry_step
  step_mapped m w = rw (run_mapped image segments m w (entry_at layout c.base_va c.next))

-- ---- a step over the entries of a kind

some_words : (kind : EntryKind) → 1 ≤ length (words_of kind)
some_words EntryKind.Method = omega arith
some_words EntryKind.Override = omega arith
some_words EntryKind.DefaultOverride = omega arith
some_words EntryKind.Prespecialization = omega arith

-- an entry's value has its words, in order
pub words_in_lem : (kind : EntryKind) (a : ℕ) (h : List ℕ)
    → take (length (words_of kind)) ((table_entry (entry_of (kind_layout kind) a h)).first ∷ ((table_entry (entry_of (kind_layout kind) a h)).second ∷ ((table_entry (entry_of (kind_layout kind) a h)).third ∷ [])))
    ≡ (entry_of (kind_layout kind) a h).words
words_in_lem EntryKind.Method a h = refl
words_in_lem EntryKind.Override a h = refl
words_in_lem EntryKind.DefaultOverride a h = refl
words_in_lem EntryKind.Prespecialization a h = refl

-- what the words of an entry of a kind say
pub told_words : (kind k : EntryKind) (a : ℕ) (h xs : List ℕ) → kind ≡ k → Says (words_of k) a 0 h xs → table_entry (record { address = a; words = xs }) ≡ table_entry (entry_of (kind_layout kind) a h)
told_words kind k a h xs e s = ap table_entry (entry_of_lem (kind_layout k) a h xs s ∙ ap (λ (j : EntryKind). entry_of (kind_layout j) a h) (sym e))

-- a kind and its shape
module _ (kind : EntryKind) (s : Shape) (e : shape_words s ≡ words_of kind) where
  pub shape_sized : (size : ℕ) → size ≡ 4 + 4 * s.more → size ≡ entry_size (kind_layout kind)
  shape_sized size es = omega (arith, es, ap length e, length-replicate s.more pointer)

  pub shape_below : (a : ℕ) → a + (entry_size (kind_layout kind) - 4) < 2 ^ 64 → a + 4 * s.more < 2 ^ 64
  shape_below a h = omega (arith, h, ap length e, length-replicate s.more pointer)

  pub shape_entry : (a : ℕ) (h : List ℕ) (x : TableEntry) → x ≡ table_entry (entry_of (packed (shape_words s)) a h) → x ≡ table_entry (entry_of (kind_layout kind) a h)
  shape_entry a h x ex = ex ∙ ap (λ (ws : List Word). table_entry (entry_of (packed ws) a h)) e

module _ (image segments : List ℕ) (kind : EntryKind) (c : EntryIter) where
  abbrev answer : EntryStep
  answer = step_answer (entry_step image segments (kind_layout kind) c)

  pub kind_end : c.count ≤ c.next → EntryStep.End ≡ answer
  kind_end h = ap step_answer (step_end image segments (kind_layout kind) c h)

  module _ (size : ℕ) (es : size ≡ entry_size (kind_layout kind)) (h : List ℕ) (eh : h ≡ entry_bytes image segments size size c.base_va c.next) where
    bytes_sized : h ≡ entry_bytes image segments (entry_size (kind_layout kind)) (entry_size (kind_layout kind)) c.base_va c.next
    bytes_sized = eh ∙ ap (λ (s : ℕ). entry_bytes image segments s s c.base_va c.next) es

    at_sized : (a : ℕ) → a ≡ (c.base_va + size * c.next) % 2 ^ 64 → a ≡ entry_address (kind_layout kind) c.base_va c.next % 2 ^ 64
    at_sized a ea = ea ∙ ap (λ (s : ℕ). (c.base_va + s * c.next) % 2 ^ 64) es

    pub kind_below : (length h ≢ 0) → (a : ℕ) → a ≡ (c.base_va + size * c.next) % 2 ^ 64 → a + (entry_size (kind_layout kind) - 4) < 2 ^ 64
    kind_below n a ea = slots_below image segments (kind_layout kind) c.base_va c.next (some_words kind) h bytes_sized n a (at_sized a ea)

    module _ (n : EntryIter) (en : n ≡ moved c) (l : c.next < c.count) where
      pub kind_unreadable : length h ≡ 0 → EntryStep.Unreadable n ≡ answer
      kind_unreadable z = ap step_answer (step_moves image segments (kind_layout kind) c None n (no_entry image segments (kind_layout kind) c.base_va c.next (some_words kind) h bytes_sized z) en l)

      pub kind_entry : (length h ≢ 0) → (a : ℕ) (x : TableEntry) → a ≡ (c.base_va + size * c.next) % 2 ^ 64 → x ≡ table_entry (entry_of (kind_layout kind) a h)
          → EntryStep.Entry x n ≡ answer
      kind_entry z a x ea ex =
          ap (λ (y : TableEntry). EntryStep.Entry y n) ex
          ∙ ap step_answer (step_moves image segments (kind_layout kind) c (Some (entry_of (kind_layout kind) a h)) n (an_entry image segments (kind_layout kind) c.base_va c.next (some_words kind) h bytes_sized z a _ (at_sized a ea) refl) en l)
