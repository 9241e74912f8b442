-- The paths of contexts (8 bytes of each context up to it: docs/SPECIFICATION.md, "Items, paths and the cut") and of their names, as equations.
use Prim.Native.Nat.{ℕ, zero, suc, ◌+◌, ◌^◌, ◌≤◌}
use native.Mathlib.Omega.{arith}
use Rattle.std.proofs.Math.Path.{◌≡◌, refl, sym, ap}
use Rattle.std.proofs.Common.{◌∙◌}
use mathlib.Core.List.{List, [], ◌∷◌, ◌++◌, append-nil}
use Rattle.std.specs.Prelude.{Bool, cond, drop, leb, eqb, Option, Some, None}
use Rattle.std.proofs.Math.Bool.{true, false}
use Rattle.std.proofs.Math.ListN.{length, take}
use Rattle.segment.specs.Segments.{segments_of, file_offset}
use Rattle.util.specs.LittleEndian.{unsigned_in, signed_in}
use Rattle.util.specs.Pointer.{relative_pointer, relative_address}
use Rattle.util.specs.declared.cstr.Place.{Place}
use Rattle.runtime.specs.Reads.{Reads, done, nothing, bytes, text, run, Range, bytes_range, with_nul, path}
use Rattle.runtime.proofs.ReadsLaws.{path_bind}
use Rattle.runtime.proofs.PathLaws.{path_bytes, bytes_read_lem, text_read, path_found}
use Rattle.context.specs.Context.{context_kind, has_name}
use Rattle.parent.specs.Context.{Name, Header, header_in, header, slot_name, name_at, name, Context, with_name, context_read}
use Rattle.parent.specs.Chain.{header_at, chain}
use Rattle.parent.proofs.ChainLaws.{chain_by, next_by}

-- a program after a test answers only if the test passes
module _ (image segments : List ℕ) {A : Type 0} (x : A) (p : Reads A) where
  unless : (b : Bool) → run image segments (cond b nothing p) ≡ Some x → cond b nothing p ≡ p
  unfolding run
  unless false e = refl
  unless true e = let z : ◌≡◌ {A = ℕ} 0 1 = cc in absurd (omega arith)

  where_so : (b : Bool) → run image segments (cond b p nothing) ≡ Some x → cond b p nothing ≡ p
  unfolding run
  where_so true e = refl
  where_so false e = let z : ◌≡◌ {A = ℕ} 0 1 = cc in absurd (omega arith)

same_offset : (x : Option ℕ) (o p : ℕ) → x ≡ Some o → x ≡ Some p → o ≡ p
same_offset x o p e f = cc

place_is : (p : Place) (t : List ℕ) (n : Name) → Some (record { place = p; bytes = t }) ≡ Some n → p ≡ n.place
place_is p t n e = cc

-- ---- the header

-- where a header that can be read was read
record HeaderFound (image segments : List ℕ) (a : ℕ) (h : Header) : Type 0 where
  offset : ℕ
  at : file_offset (segments_of segments) a ≡ Some offset
  address : h.address ≡ a
  reads : path image segments (header a) ≡ bytes_range offset 8 ∷ []

module _ (image segments : List ℕ) (a : ℕ) where
  header_found : (h : Header) → run image segments (header a) ≡ Some h → HeaderFound image segments a h
  unfolding header header_in run path
  header_found h e =
      let p : header a ≡ bytes a 8 (header_in a) = unless image segments h (bytes a 8 (header_in a)) (eqb a 0) e in
      let w = bytes_read_lem image segments a h 8 (header_in a) (ap (run image segments) (sym p) ∙ e) in
      let bs : List ℕ = take 8 (drop w.offset image) in
      let told : Header = record { address = a; flags = unsigned_in 4 bs 0; parent = relative_address (a + 4) (signed_in 4 bs 4) } in
      let q : header_in a bs ≡ done told = unless image segments h (done told) (leb (2 ^ 64) (a + 4)) w.goes in
      let f : Some told ≡ Some h = ap (run image segments) (sym q) ∙ w.goes in
      record {
        offset = w.offset;
        at = w.at;
        address = cc;
        reads =
            ap (path image segments) p
            ∙ path_bytes image segments a 8 (header_in a) w.offset w.at w.inside
            ∙ ap (λ (r : Reads Header). bytes_range w.offset 8 ∷ path image segments r) q;
      }

  -- the header that is read at an address has that address
  pub header_address : (h : Header) → run image segments (header a) ≡ Some h → h.address ≡ a
  header_address h e = (header_found h e).address

  -- 8 bytes
  pub header_path : (o : ℕ) (h : Header) → run image segments (header a) ≡ Some h → file_offset (segments_of segments) a ≡ Some o
      → path image segments (header a) ≡ bytes_range o 8 ∷ []
  header_path o h e at =
      let w = header_found h e in
      w.reads ∙ ap (λ (p : ℕ). bytes_range p 8 ∷ []) (same_offset _ _ _ w.at at)

  -- ---- the name

  slot_path : (v : ℕ) (bs : List ℕ) (n : Name) → run image segments (slot_name v bs) ≡ Some n → path image segments (slot_name v bs) ≡ with_nul image n.place ∷ []
  unfolding slot_name run path
  slot_path v bs n e =
      let k : Place → List ℕ → Reads Name = λ p t. done (record { place = p; bytes = t }) in
      let q : slot_name v bs ≡ text (relative_pointer v (signed_in 4 bs 0)) k = unless image segments n (text (relative_pointer v (signed_in 4 bs 0)) k) (eqb (unsigned_in 4 bs 0) 0) e in
      let w = text_read image segments (relative_pointer v (signed_in 4 bs 0)) n k (ap (run image segments) (sym q) ∙ e) in
      ap (path image segments) q
      ∙ path_found image segments (relative_pointer v (signed_in 4 bs 0)) n k w
      ∙ ap (λ (p : Place). with_nul image p ∷ []) (place_is _ _ n w.goes)

  -- 4 bytes at the address + 8, and the name with its NUL
  pub name_path : (o : ℕ) (n : Name) → run image segments (name_at a) ≡ Some n → file_offset (segments_of segments) (a + 8) ≡ Some o
      → path image segments (name_at a) ≡ bytes_range o 4 ∷ (with_nul image n.place ∷ [])
  unfolding name_at
  name_path o n e at =
      let p : name_at a ≡ bytes (a + 8) 4 (slot_name (a + 8)) = unless image segments n (bytes (a + 8) 4 (slot_name (a + 8))) (leb (2 ^ 64) (a + 8)) e in
      let w = bytes_read_lem image segments (a + 8) n 4 (slot_name (a + 8)) (ap (run image segments) (sym p) ∙ e) in
      ap (path image segments) p
      ∙ path_bytes image segments (a + 8) 4 (slot_name (a + 8)) w.offset w.at w.inside
      ∙ ap (λ (l : List Range). bytes_range w.offset 4 ∷ l) (slot_path (a + 8) _ n w.goes)
      ∙ ap (λ (u : ℕ). bytes_range u 4 ∷ (with_nul image n.place ∷ [])) (same_offset _ _ _ w.at at)

  -- the same for a context with its flags
  pub context_name_path : (flags o : ℕ) (n : Name) → run image segments (name a flags) ≡ Some n → file_offset (segments_of segments) (a + 8) ≡ Some o
      → path image segments (name a flags) ≡ bytes_range o 4 ∷ (with_nul image n.place ∷ [])
  unfolding name
  context_name_path flags o n e at =
      let p : name a flags ≡ name_at a = where_so image segments n (name_at a) (has_name (context_kind flags)) e in
      ap (path image segments) p ∙ name_path o n (ap (run image segments) (sym p) ∙ e) at

-- ---- the chain

-- the 8 bytes at a file offset
abbrev pub context_range : Option ℕ → List Range
context_range None = []
context_range (Some o) = record { from = o; to = o + 8; is_text = false } ∷ []

-- the 8 bytes of each context
abbrev pub context_ranges : List ℕ → List Context → List Range
context_ranges segments [] = []
context_ranges segments (c ∷ cs) = context_range (file_offset (segments_of segments) c.header.address) ++ context_ranges segments cs

module _ (image segments : List ℕ) where
  header_range_lem : (a : ℕ) (h : Header) → run image segments (header a) ≡ Some h
      → path image segments (header a) ≡ context_range (file_offset (segments_of segments) h.address)
  header_range_lem a h e =
      let w = header_found image segments a h e in
      w.reads ∙ ap context_range (sym w.at ∙ ap (file_offset (segments_of segments)) (sym w.address))

  -- the first context's, and then those of the chain from its parent on
  chain_ranges : (n a : ℕ) (h : Header) → run image segments (header a) ≡ Some h
      → context_ranges segments (chain image segments (suc n) a) ≡ path image segments (header a) ++ context_ranges segments (chain image segments n h.parent)
  unfolding with_name
  chain_ranges n a h e = rw (chain_by image segments n a (Some h) e, header_range_lem a h e)

  -- context `k`: the 8 bytes of each context of the chain up to it
  pub context_path : (k a : ℕ) (h : Header) → run image segments (header_at k a) ≡ Some h
      → path image segments (header_at k a) ≡ context_ranges segments (chain image segments (suc k) a)
  unfolding header_at chain
  context_path zero a h e = sym (chain_ranges 0 a h e ∙ append-nil _)
  context_path (suc k) a h e = go (run image segments (header a)) refl (λ b. context_path k b h)
    where
      go : (x : Option Header) → run image segments (header a) ≡ x
          → ((b : ℕ) → run image segments (header_at k b) ≡ Some h → path image segments (header_at k b) ≡ context_ranges segments (chain image segments (suc k) b))
          → path image segments (header_at (suc k) a) ≡ context_ranges segments (chain image segments (suc (suc k)) a)
      go None f ih =
          let g : None ≡ Some h = sym (next_by image segments k a None f) ∙ e in
          let z : ◌≡◌ {A = ℕ} 0 1 = cc in
          absurd (omega arith)
      go (Some t) f ih =
          path_bind image segments (λ t. header_at k t.parent) (header a)
          ∙ rw f (ap (λ (l : List Range). path image segments (header a) ++ l) (ih t.parent (sym (next_by image segments k a (Some t) f) ∙ e)))
          ∙ sym (chain_ranges (suc k) a t f)

  -- no more contexts than requested
  pub chain_length : (n a : ℕ) → length (chain image segments n a) ≤ n
  unfolding chain
  chain_length zero a = omega arith
  chain_length (suc n) a = go (context_read image segments a) refl (λ b. chain_length n b)
    where
      go : (x : Option Context) → context_read image segments a ≡ x → ((b : ℕ) → length (chain image segments n b) ≤ n) → length (chain image segments (suc n) a) ≤ suc n
      go None e ih = rw (chain, e) (omega arith)
      go (Some c) e ih = rw (chain, e) (omega (arith, ih c.header.parent))
