-- What the readers' answers say about certainty, in the cases that the calls' tests leave.
use Prim.Native.Nat.{ℕ, zero, suc, ◌+◌, ◌-◌, ◌^◌, ◌≤◌, ◌<◌}
use Rattle.std.proofs.Math.Decide.{dec_le}
use Rattle.std.proofs.Common.{add-one, arith, sym, ◌∙◌, length-take, length-drop, drop_of_length-le, drop-cons, take_all, le-ltb}
use Rattle.std.specs.List.{list_any}
use Rattle.std.specs.Prelude.{◌≡◌, Bool, ◌&&◌, get_or, eqb, ltb, leb, not, is_some, Option, Some, None}
use Rattle.std.proofs.Math.Path.{refl, ap}
use mathlib.Core.List.{List, [], ◌∷◌}
use Rattle.std.proofs.Math.Bool.{true, false, and-true, or-true}
use Rattle.std.proofs.lemmas.Bool.{false≢true}
use Rattle.std.proofs.Math.ListN.{length, take, drop}
use borrow.Author.Tests.{le-leb, lt-leb, eq-eqb, ne_eqb}
use Rattle.segment.specs.Segments.{segments_of, file_offset}
use Rattle.util.specs.LittleEndian.{unsigned_in, signed_in}
use Rattle.util.specs.Pointer.{relative_pointer}
use Rattle.util.specs.declared.cstr.Place.{Place}
use Rattle.util.specs.Cstr.{text_at}
use Rattle.runtime.specs.Reads.{Reads, done, bytes, text, and_then, within, bytes_place, text_offset, run}
use Rattle.runtime.specs.Bytes.{bytes_read, bytes_from}
use Rattle.context.specs.Context.{context_kind, has_name}
use Rattle.typedescriptor.specs.Row.{TypeRow, row_name, descriptor}
use Rattle.typedescriptor.specs.Slots.{slot_descriptor, read_at, slot_row}
use Rattle.parent.specs.Context.{Header, header_in, header, slot_name, name_at, name}
use Rattle.parent.specs.Chain.{contexts_most, header_at}
use Rattle.items.specs.Texts.{lookup}
use Rattle.items.proofs.ProgramLaws.{on_context}
use Rattle.certainty.specs.Certain.{has_nul, if_there, certain}
use Rattle.certainty.proofs.ItemLaws.{Ended, answers_certain}
use Rattle.certainty.specs.JoinedName.{header_certain, chain_certain, name_certain}

-- ---- a scan for a NUL

-- the library's search
nul_among : (s : List ℕ) → list_any (λ y. eqb y 0) s ≡ has_nul s
unfolding has_nul
nul_among [] = refl
nul_among (zero ∷ s) = refl
nul_among (suc b ∷ s) = rw (ne_eqb (suc b) 0 (omega arith)) (nul_among s)

module _ (image : List ℕ) (i : ℕ) where
  pub nul_within : (b : Bool) → b ≡ list_any (λ y. eqb y 0) (take (length image - i) (drop i image)) → b ≡ has_nul (drop i image)
  nul_within b e = e ∙ ap (list_any (λ y. eqb y 0)) (take_all (length image - i) (drop i image) (simp length-drop (omega arith))) ∙ nul_among (drop i image)

  -- the same byte by byte
  pub nul_here : get_or image i 0 ≡ 0 → i < length image → has_nul (drop i image) ≡ true
  unfolding has_nul
  nul_here e h = rw (drop-cons image i 0 h, e)

  pub nul_later : (get_or image i 0 ≡ 0 → ⊥) → i < length image → has_nul (drop i image) ≡ has_nul (drop (i + 1) image)
  unfolding has_nul
  nul_later e h = rw (drop-cons image i 0 h, add-one) (go (get_or image i 0) e)
    where
      go : (b : ℕ) → (b ≡ 0 → ⊥) → has_nul (b ∷ drop (suc i) image) ≡ has_nul (drop (suc i) image)
      go zero z = absurd (z refl)
      go (suc b) z = refl

  pub nul_past : length image ≤ i → has_nul (drop i image) ≡ false
  unfolding has_nul
  nul_past h = rw (drop_of_length-le image h)

  -- as a test of the place says it
  pub nul_tested : length image ≤ i → ltb i (length image) ≡ has_nul (drop i image)
  nul_tested h = rw (le-ltb i (length image) h) (sym (nul_past h))

-- ---- a text

-- whether an address is not in the file
abbrev pub nowhere : List ℕ → ℕ → Bool
nowhere segments a = if_there (file_offset (segments_of segments) a) (λ _. false)

module _ (segments : List ℕ) (a : ℕ) where
  pub nowhere_by : (b : Bool) (x : Option ℕ) → is_some x ≡ not b → x ≡ file_offset (segments_of segments) a → b ≡ nowhere segments a
  nowhere_by b x e f = rw (← f) (go x b e)
    where
      go : (x : Option ℕ) (b : Bool) → is_some x ≡ not b → b ≡ if_there x (λ _. false)
      go None true e = refl
      go None false e = absurd (false≢true e)
      go (Some o) true e = absurd (false≢true (sym e))
      go (Some o) false e = refl

  -- the same in its two cases
  pub in_file_lem : (o : ℕ) → Some o ≡ file_offset (segments_of segments) a → false ≡ nowhere segments a
  in_file_lem o e = rw (← e)

  pub not_in_file : None ≡ file_offset (segments_of segments) a → true ≡ nowhere segments a
  not_in_file e = rw (← e)

module _ (image segments : List ℕ) (a : ℕ) where
  pub zero_text : a ≡ 0 → certain image segments (lookup a) ≡ true
  unfolding certain lookup text_offset
  zero_text z = simp (eq-eqb a 0 z)

  pub nowhere_text : (a ≡ 0 → ⊥) → None ≡ file_offset (segments_of segments) a → certain image segments (lookup a) ≡ true
  unfolding certain lookup text_offset
  nowhere_text z e = simp (ne_eqb a 0 z) (rw (← e))

  passed : {A : Type 0} (y : Option A) → if_there y (λ _. true) ≡ true
  passed None = refl
  passed (Some p) = refl

  pub text_there : (o : ℕ) → (a ≡ 0 → ⊥) → Some o ≡ file_offset (segments_of segments) a → certain image segments (lookup a) ≡ has_nul (drop o image)
  unfolding certain lookup text_offset
  text_there o z e = simp (ne_eqb a 0 z) (rw (← e, passed (text_at image o)) (and-true (has_nul (drop o image))))

  -- a text after which nothing is read
  pub as_lookup : {A : Type 0} (f : Place → List ℕ → A) → certain image segments (lookup a) ≡ certain image segments (text a (λ p t. done (f p t)))
  unfolding certain lookup
  as_lookup f = go (text_offset segments a)
    where
      go : (x : Option ℕ) → if_there x (λ o. has_nul (drop o image) && if_there (text_at image o) (λ p. true))
          ≡ if_there x (λ o. has_nul (drop o image) && if_there (text_at image o) (λ p. true))
      go x = refl

-- ---- bytes

module _ (image segments : List ℕ) (a n : ℕ) {A : Type 0} (k : List ℕ → Reads A) (h : List ℕ) (e : h ≡ bytes_read image segments a n) where
  -- bytes that were read
  pub certain_bytes : 0 < n → n ≤ length h → certain image segments (bytes a n k) ≡ certain image segments (k h)
  unfolding certain bytes_read bytes_place within
  certain_bytes z l = go (file_offset (segments_of segments) a) e
    where
      at : (o : ℕ) → Dec (o + n ≤ length image) → h ≡ bytes_from image n (within (length image) n o)
          → (leb (o + n) (length image) && certain image segments (k (take n (drop o image)))) ≡ certain image segments (k h)
      at o (yes w) f =
          let g : h ≡ take n (drop o image) = simp (le-leb (o + n) (length image) w) at f in
          simp (le-leb (o + n) (length image) w) (ap (λ (s : List ℕ). certain image segments (k s)) (sym g))
      at o (no w) f =
          let g : h ≡ [] = simp (lt-leb (o + n) (length image) (omega arith)) at f in
          absurd (omega (arith, ap length g))

      go : (x : Option ℕ) → h ≡ bytes_from image n (and_then x (within (length image) n))
          → if_there x (λ o. leb (o + n) (length image) && certain image segments (k (take n (drop o image)))) ≡ certain image segments (k h)
      go None f = absurd (omega (arith, ap length f))
      go (Some o) f = at o (dec_le (o + n) (length image)) f

  -- bytes that were not: certain if the address is not in the file, else the end was met
  pub certain_no_bytes : length h < n → certain image segments (bytes a n k) ≡ nowhere segments a
  unfolding certain bytes_read bytes_place within
  certain_no_bytes l = go (file_offset (segments_of segments) a) e
    where
      at : (o : ℕ) → Dec (o + n ≤ length image) → h ≡ bytes_from image n (within (length image) n o)
          → (leb (o + n) (length image) && certain image segments (k (take n (drop o image)))) ≡ false
      at o (yes w) f =
          let g : h ≡ take n (drop o image) = simp (le-leb (o + n) (length image) w) at f in
          absurd (omega (arith, simp (length-take, length-drop) at (ap length g)))
      at o (no w) f = simp (lt-leb (o + n) (length image) (omega arith))

      go : (x : Option ℕ) → h ≡ bytes_from image n (and_then x (within (length image) n))
          → if_there x (λ o. leb (o + n) (length image) && certain image segments (k (take n (drop o image)))) ≡ if_there x (λ _. false)
      go None f = refl
      go (Some o) f = at o (dec_le (o + n) (length image)) f

-- ---- a descriptor

module _ (image segments : List ℕ) (a : ℕ) (h : List ℕ) (e : h ≡ bytes_read image segments a 20) where
  pub short_descriptor : length h < 20 → certain image segments (descriptor a) ≡ nowhere segments a
  unfolding descriptor
  short_descriptor l = certain_no_bytes image segments a 20 (row_name a) h e l

  pub high_descriptor : 20 ≤ length h → 2 ^ 64 ≤ a + 8 → certain image segments (descriptor a) ≡ true
  unfolding descriptor row_name certain
  high_descriptor l w = certain_bytes image segments a 20 (row_name a) h e (omega arith) l ∙ simp (le-leb (2 ^ 64) (a + 8) w)

  pub named_descriptor : (v : ℕ) → v ≡ relative_pointer (a + 8) (signed_in 4 h 8) → 20 ≤ length h → a + 8 < 2 ^ 64
      → certain image segments (descriptor a) ≡ certain image segments (lookup v)
  unfolding descriptor row_name
  named_descriptor v ev l w =
      certain_bytes image segments a 20 (row_name a) h e (omega arith) l
      ∙ simp (lt-leb (2 ^ 64) (a + 8) w) (rw (← ev) (sym (as_lookup image segments v _)))

-- ---- a slot

module _ (image segments types : List ℕ) (start i : ℕ) where
  pub slot_reads : (t : Option ℕ) → t ≡ slot_descriptor types start i → certain image segments (read_at t descriptor) ≡ certain image segments (slot_row types start i)
  unfolding slot_row
  slot_reads t e = rw e

-- ---- a context's name

module _ (image segments : List ℕ) (a : ℕ) where
  pub high_name : 2 ^ 64 ≤ a + 8 → certain image segments (name_at a) ≡ true
  unfolding name_at certain
  high_name w = simp (le-leb (2 ^ 64) (a + 8) w)

  module _ (h : List ℕ) (e : h ≡ bytes_read image segments (a + 8) 4) (w : a + 8 < 2 ^ 64) where
    pub no_slot : length h < 4 → certain image segments (name_at a) ≡ nowhere segments (a + 8)
    unfolding name_at
    no_slot l = simp (lt-leb (2 ^ 64) (a + 8) w) (certain_no_bytes image segments (a + 8) 4 (slot_name (a + 8)) h e l)

    pub zero_name : unsigned_in 4 h 0 ≡ 0 → 4 ≤ length h → certain image segments (name_at a) ≡ true
    unfolding name_at slot_name certain
    zero_name z l = simp (lt-leb (2 ^ 64) (a + 8) w) (certain_bytes image segments (a + 8) 4 (slot_name (a + 8)) h e (omega arith) l ∙ simp z)

    pub name_there : (v : ℕ) → (unsigned_in 4 h 0 ≡ 0 → ⊥) → v ≡ relative_pointer (a + 8) (signed_in 4 h 0) → 4 ≤ length h
        → certain image segments (name_at a) ≡ certain image segments (lookup v)
    unfolding name_at slot_name
    name_there v z ev l =
        simp (lt-leb (2 ^ 64) (a + 8) w)
        (certain_bytes image segments (a + 8) 4 (slot_name (a + 8)) h e (omega arith) l ∙ simp (ne_eqb (unsigned_in 4 h 0) 0 z) (rw (← ev) (sym (as_lookup image segments v _))))

  module _ (flags : ℕ) (r : Bool) (e : r ≡ has_name (context_kind flags)) where
    pub unnamed : r ≡ false → certain image segments (name a flags) ≡ true
    unfolding name certain
    unnamed t = rw (← e, t)

    pub is_named : r ≡ true → certain image segments (name a flags) ≡ certain image segments (name_at a)
    unfolding name
    is_named t = rw (← e, t)

-- ---- a chain

module _ (image segments : List ℕ) (a : ℕ) where
  pub high_header : 2 ^ 64 ≤ a + 4 → header_certain image segments a ≡ true
  unfolding header_certain
  high_header w = simp (le-leb (2 ^ 64) (a + 4) w)

  pub zero_header : a ≡ 0 → a + 4 < 2 ^ 64 → header_certain image segments a ≡ true
  unfolding header_certain header certain
  zero_header z w = simp (lt-leb (2 ^ 64) (a + 4) w, eq-eqb a 0 z)

  module _ (z : a ≡ 0 → ⊥) (w : a + 4 < 2 ^ 64) where
    bytes_header : header_certain image segments a ≡ certain image segments (bytes a 8 (header_in a))
    unfolding header_certain header
    bytes_header = simp (lt-leb (2 ^ 64) (a + 4) w, ne_eqb a 0 z)

    module _ (h : List ℕ) (e : h ≡ bytes_read image segments a 8) where
      pub short_header : length h < 8 → header_certain image segments a ≡ nowhere segments a
      short_header l = bytes_header ∙ certain_no_bytes image segments a 8 (header_in a) h e l

      pub whole_header : 8 ≤ length h → header_certain image segments a ≡ true
      unfolding header_in certain
      whole_header l = bytes_header ∙ certain_bytes image segments a 8 (header_in a) h e (omega arith) l ∙ simp (lt-leb (2 ^ 64) (a + 4) w)

  -- a header that was read: it is only bytes
  header_there : (h : Header) → Some h ≡ run image segments (header a) → header_certain image segments a ≡ true
  unfolding header_certain header_at
  header_there h e =
      let c : certain image segments (header a) ≡ true =
      answers_certain image segments (header a) h (sym e) (on_context image segments (Ended image segments) (λ o n t. absurd (false≢true t)) 0 a).all in
      rw c (or-true (leb (2 ^ 64) (a + 4)))

module _ (image segments : List ℕ) (left a : ℕ) where
  -- the chain ended
  pub chain_last : None ≡ run image segments (header a) → chain_certain image segments left a ≡ header_certain image segments a
  unfolding chain_certain
  chain_last e = go left
    where
      go : (n : ℕ) → chain_certain image segments n a ≡ header_certain image segments a
      go zero = refl
      go (suc n) = rw (chain_certain, ← e) (and-true (header_certain image segments a))

  module _ (h : Header) (e : Some h ≡ run image segments (header a)) where
    -- a 257th context
    pub chain_deep : left ≡ 0 → chain_certain image segments left a ≡ true
    unfolding chain_certain
    chain_deep z = rw z (header_there image segments a h e)

    chain_by : (n : ℕ) → left ≡ suc n
        → chain_certain image segments left a ≡ (certain image segments (name h.address h.flags) && chain_certain image segments n h.parent)
    unfolding chain_certain
    chain_by n z = rw (z, chain_certain, header_there image segments a h e, ← e)

    pub chain_open : 0 < left → certain image segments (name h.address h.flags) ≡ false → chain_certain image segments left a ≡ false
    chain_open l f = chain_by (left - 1) (omega arith) ∙ rw f

    pub chain_on : 0 < left → certain image segments (name h.address h.flags) ≡ true → chain_certain image segments left a ≡ chain_certain image segments (left - 1) h.parent
    chain_on l f = chain_by (left - 1) (omega arith) ∙ rw f

    -- the same by how many were gone over
    pub chain_more : (k : ℕ) → k < contexts_most → left ≡ contexts_most - k → certain image segments (name h.address h.flags) ≡ true
        → chain_certain image segments left a ≡ chain_certain image segments (contexts_most - (k + 1)) h.parent
    chain_more k l e f = chain_on (omega arith) f ∙ ap (λ (n : ℕ). chain_certain image segments n h.parent) (omega arith)

  -- all of them were gone over
  pub chain_end : left ≡ 0 → chain_certain image segments left a ≡ header_certain image segments a
  unfolding chain_certain
  chain_end z = rw z refl

-- ---- the joined name of a slot

module _ (image segments types : List ℕ) (start i : ℕ) where
  pub name_open : certain image segments (slot_row types start i) ≡ false → name_certain image segments types start i ≡ false
  unfolding name_certain
  name_open e = rw e

  module _ (e : certain image segments (slot_row types start i) ≡ true) where
    pub name_none : None ≡ run image segments (slot_row types start i) → name_certain image segments types start i ≡ true
    unfolding name_certain
    name_none f = rw (e, ← f)

    pub name_by : (r : TypeRow) → Some r ≡ run image segments (slot_row types start i) → name_certain image segments types start i ≡ chain_certain image segments contexts_most r.parent
    unfolding name_certain
    name_by r f = rw (e, ← f)
