-- What the tests on a context and on its name say about their programs, and what a context says about a chain.
use Rattle.std.specs.Prelude.{ℕ, ◌+◌, ◌^◌, ◌≤◌, ◌<◌, ◌≡◌, List, Bool, true, false, length, Option, Some, None, option_map}
use Rattle.std.proofs.Common.{arith, sym, ◌∙◌, le-leb, eq-eqb, ne_eqb}
use Rattle.std.proofs.Math.Path.{refl}
use Rattle.std.proofs.lemmas.Bool.{lt-leb}
use Rattle.util.specs.LittleEndian.{unsigned_in, signed_in}
use Rattle.util.specs.Pointer.{relative_pointer, relative_address}
use Rattle.util.specs.declared.cstr.Place.{Place}
use Rattle.runtime.specs.Reads.{done, run, text_place}
use Rattle.runtime.specs.Bytes.{bytes_read}
use Rattle.segment.specs.Mapping.{with_mapping, TrueMapping}
use Rattle.segment.specs.declared.segment.Mapping.{Mapping}
use Rattle.runtime.proofs.CallsLaws.{text_within, run_bytes, run_no_bytes, run_text, run_no_text, run_mapped}
use Rattle.context.specs.Context.{context_kind, has_name}
use Rattle.parent.specs.Context.{Name, Header, header_in, header, slot_name, name_at, name, context_name, Context, with_name, context_read, name_read, Inside}
use Rattle.parent.specs.Chain.{chain_step}

-- ---- the name

module _ (image segments : List ℕ) (a : ℕ) where
  module _ (flags : ℕ) (r : Bool) (e : r ≡ has_name (context_kind flags)) where
    pub unnamed : r ≡ false → None ≡ context_name image segments a flags
    unfolding context_name name run
    unnamed t = rw (← e, t)

    pub is_named : r ≡ true → (n : Option Name) → n ≡ run image segments (name_at a) → n ≡ context_name image segments a flags
    unfolding context_name name
    is_named t n f = f ∙ rw (← e, t)

  pub name_wraps : 2 ^ 64 ≤ a + 8 → None ≡ run image segments (name_at a)
  unfolding name_at run
  name_wraps w = simp (le-leb (2 ^ 64) (a + 8) w)

  module _ (h : List ℕ) (eh : h ≡ bytes_read image segments (a + 8) 4) where
    pub no_slot : length h < 4 → a + 8 < 2 ^ 64 → None ≡ run image segments (name_at a)
    unfolding name_at
    no_slot l w = simp (lt-leb (2 ^ 64) (a + 8) w) (sym (run_no_bytes image segments (a + 8) 4 (slot_name (a + 8)) h eh l))

    slot : 4 ≤ length h → a + 8 < 2 ^ 64 → run image segments (name_at a) ≡ run image segments (slot_name (a + 8) h)
    unfolding name_at
    slot l w = simp (lt-leb (2 ^ 64) (a + 8) w) (run_bytes image segments (a + 8) 4 (slot_name (a + 8)) h eh (omega arith) l)

    pub no_offset : unsigned_in 4 h 0 ≡ 0 → 4 ≤ length h → a + 8 < 2 ^ 64 → None ≡ run image segments (name_at a)
    unfolding slot_name run
    no_offset z l w = rw (slot l w) (simp z)

    pub name_at_lem : (v : ℕ) (r : Option Place) → (unsigned_in 4 h 0 ≡ 0 → ⊥) → v ≡ relative_pointer (a + 8) (signed_in 4 h 0) → r ≡ text_place image segments v
        → 4 ≤ length h → a + 8 < 2 ^ 64 → name_read image r ≡ run image segments (name_at a)
    unfolding slot_name run
    name_at_lem v (Some p) z ev er l w = rw (slot l w) (simp (ne_eqb (unsigned_in 4 h 0) 0 z) (rw (← ev) (sym (run_text image segments v (λ p t. done (record { place = p; bytes = t })) p er))))
    name_at_lem v None z ev er l w = rw (slot l w) (simp (ne_eqb (unsigned_in 4 h 0) 0 z) (rw (← ev) (sym (run_no_text image segments v (λ p t. done (record { place = p; bytes = t })) er))))

-- a text that was read
pub inside : (image segments : List ℕ) (v : ℕ) (r : Option Place) → r ≡ text_place image segments v → Inside image r
inside image segments v (Some p) e = text_within image segments v p e
inside image segments v None e = tt

-- ---- the context

module _ (image segments : List ℕ) (a : ℕ) where
  pub zero_header : a ≡ 0 → None ≡ run image segments (header a)
  unfolding header run
  zero_header z = simp (eq-eqb a 0 z)

  module _ (z : a ≡ 0 → ⊥) (h : List ℕ) (e : h ≡ bytes_read image segments a 8) where
    pub no_header : length h < 8 → None ≡ run image segments (header a)
    unfolding header
    no_header l = simp (ne_eqb a 0 z) (sym (run_no_bytes image segments a 8 (header_in a) h e l))

    read_header_lem : 8 ≤ length h → run image segments (header a) ≡ run image segments (header_in a h)
    unfolding header
    read_header_lem l = simp (ne_eqb a 0 z) (run_bytes image segments a 8 (header_in a) h e (omega arith) l)

    pub parent_wraps : 8 ≤ length h → 2 ^ 64 ≤ a + 4 → None ≡ run image segments (header a)
    unfolding header_in run
    parent_wraps l w = rw (read_header_lem l) (simp (le-leb (2 ^ 64) (a + 4) w))

    pub header_at : (f q : ℕ) → f ≡ unsigned_in 4 h 0 → q ≡ relative_address (a + 4) (signed_in 4 h 4) → 8 ≤ length h → a + 4 < 2 ^ 64
        → Some (record { address = a; flags = f; parent = q }) ≡ run image segments (header a)
    unfolding header_in run
    header_at f q ef eq l w = rw (read_header_lem l, ef, eq) (simp (lt-leb (2 ^ 64) (a + 4) w))

  pub no_context : None ≡ run image segments (header a) → None ≡ context_read image segments a
  unfolding context_read
  no_context e = rw (← e)

  pub context_at_lem : (h : Header) (n : Option Name) → Some h ≡ run image segments (header a) → n ≡ context_name image segments h.address h.flags
      → Some (record { header = h; name = n }) ≡ context_read image segments a
  unfolding context_read with_name
  context_at_lem h n e en = rw (← e, en)

  -- a true mapping changes no context
  module _ (m : Mapping) (w : TrueMapping segments m) where
    named_mapped : (h : Option Header) → option_map (with_name image (with_mapping m segments)) h ≡ option_map (with_name image segments) h
    unfolding with_name context_name
    named_mapped None = refl
    named_mapped (Some h) = rw (run_mapped image segments m w (name h.address h.flags))

    pub context_mapped : context_read image (with_mapping m segments) a ≡ context_read image segments a
    unfolding context_read
    context_mapped = rw (run_mapped image segments m w (header a)) (named_mapped (run image segments (header a)))

  -- ---- the chain
  module _ (given : ℕ) where
    pub chain_full : 256 ≤ given → None ≡ chain_step image segments a given
    unfolding chain_step
    chain_full h = simp (le-leb 256 given h)

    pub chain_ends : None ≡ context_read image segments a → given < 256 → None ≡ chain_step image segments a given
    unfolding chain_step
    chain_ends e h = simp (lt-leb 256 given h) (rw (← e))

    pub chain_goes_on : (c : Context) → Some c ≡ context_read image segments a → given < 256
        → Some (record { context = c; next = c.header.parent; given = given + 1 }) ≡ chain_step image segments a given
    unfolding chain_step
    chain_goes_on c e h = simp (lt-leb 256 given h) (rw (← e))
