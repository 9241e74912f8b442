-- What the tests on a body say about its program.
use Rattle.std.specs.Prelude.{ℕ, ◌+◌, ◌/◌, ◌%◌, ◌^◌, ◌≤◌, ◌<◌, ◌≡◌, ◌⊎◌, List, [], Bool, true, false, length, Option, Some, None}
use Rattle.std.proofs.Math.Decide.{dec_lt}
use Rattle.std.proofs.Common.{arith, ◌∙◌, inl, inr, le-leb}
use Rattle.std.proofs.Math.Path.{refl, sym, ap}
use Rattle.std.proofs.lemmas.Bool.{lt-leb}
use Rattle.util.specs.LittleEndian.{unsigned_in, signed_in}
use Rattle.util.specs.Pointer.{relative_address}
use Rattle.util.specs.declared.cstr.Place.{Place}
use Rattle.runtime.specs.Reads.{Reads, done, nothing, run}
use Rattle.runtime.specs.Bytes.{bytes_read}
use Rattle.runtime.proofs.CallsLaws.{run_bytes, run_no_bytes}
use Rattle.context.specs.Context.{context_kind, kind_specific_flags}
use Rattle.context.specs.TypeContext.{class_has_resilient_superclass}
use Rattle.context.specs.declared.descriptor.ContextDescriptorKind.{ContextDescriptorKind}
use Rattle.type_body.specs.Body.{Sizes, fixed, resilient, Body, of_class, of_struct, of_enum, sizes_at, class_body, struct_body, enum_body, body_bytes, body_part, body_of_kind, body, body_of, superclass_name}
use Rattle.type_body.specs.declared.body.StructBody.{StructBody}
use Rattle.type_body.specs.declared.body.EnumBody.{EnumBody}
use Rattle.type_body.specs.declared.body.TypeBody.{TypeBody}

-- ---- the numbers in the bytes

module _ (h : List ℕ) where
  module _ (r : Bool) (v : ℕ) where
    pub resilient_at : (b e : ℕ) → r ≡ true → b ≡ relative_address v (signed_in 4 h 4) → e ≡ unsigned_in 4 h 8 → resilient b e ≡ sizes_at r v h
    resilient_at b e t eb ee = rw (t, eb, ee)

    pub fixed_at : (n p : ℕ) → r ≡ false → n ≡ unsigned_in 4 h 4 → p ≡ unsigned_in 4 h 8 → fixed n p ≡ sizes_at r v h
    fixed_at n p t en ep = rw (t, en, ep)

  pub class_at : (a flags w : ℕ) (r : Bool) (s : ℕ) (z : Sizes) (m f v : ℕ) → w ≡ kind_specific_flags flags → r ≡ class_has_resilient_superclass w
      → s ≡ relative_address (a + 20) (signed_in 4 h 0) → z ≡ sizes_at r (a + 24) h → m ≡ unsigned_in 4 h 12 → f ≡ unsigned_in 4 h 16 → v ≡ unsigned_in 4 h 20
      → of_class s z m f v ≡ class_body a flags h
  unfolding class_body
  class_at a flags w r s z m f v ew er es ez em ef ev = rw (ez, er, ew, es, em, ef, ev)

  pub struct_at : (f v : ℕ) → f ≡ unsigned_in 4 h 0 → v ≡ unsigned_in 4 h 4 → of_struct f v ≡ struct_body h
  unfolding struct_body
  struct_at f v ef ev = rw (ef, ev)

  pub enum_at : (q p w e : ℕ) → q ≡ unsigned_in 4 h 0 → p ≡ q % 2 ^ 24 → w ≡ q / 2 ^ 24 → e ≡ unsigned_in 4 h 4 → of_enum p w e ≡ enum_body h
  unfolding enum_body
  enum_at q p w e eq ep ew ee = rw (ep, ew, eq, ee)

-- ---- the bytes

module _ (image segments : List ℕ) (a n : ℕ) where
  pub part_wraps : 2 ^ 64 ≤ a + 20 + n → [] ≡ body_part image segments a n
  unfolding body_part
  part_wraps w = simp (le-leb (2 ^ 64) (a + 20 + n) w)

  pub part_below : a + 20 + n < 2 ^ 64 → bytes_read image segments (a + 20) n ≡ body_part image segments a n
  unfolding body_part
  part_below w = simp (lt-leb (2 ^ 64) (a + 20 + n) w)

  module _ (h : List ℕ) (e : h ≡ body_part image segments a n) where
    pub ends_below : 0 < n → n ≤ length h → a + 20 + n < 2 ^ 64
    ends_below z l =
        elim (dec_lt (a + 20 + n) (2 ^ 64)) [
          | yes w ↦ w
          | no w ↦ absurd (omega (arith, ap length (e ∙ sym (part_wraps (omega arith)))))
        ]

    module _ (k : List ℕ → Body) (z : 0 < n) where
      pub no_body : length h < n → None ≡ run image segments (body_bytes a n k)
      unfolding body_bytes run
      no_body l =
          elim (dec_lt (a + 20 + n) (2 ^ 64)) [
            | yes w ↦ simp (lt-leb (2 ^ 64) (a + 20 + n) w) (sym (run_no_bytes image segments (a + 20) n (λ h. done (k h)) h (e ∙ sym (part_below w)) l))
            | no w ↦ simp (le-leb (2 ^ 64) (a + 20 + n) (omega arith))
          ]

      pub body_at : (b : Body) → b ≡ k h → n ≤ length h → Some b ≡ run image segments (body_bytes a n k)
      unfolding body_bytes run
      body_at b eb l =
          let w = ends_below z l in
          simp (lt-leb (2 ^ 64) (a + 20 + n) w) (ap Some eb ∙ sym (run_bytes image segments (a + 20) n (λ h. done (k h)) h (e ∙ sym (part_below w)) z l))

-- a body depends on the kind in the flags
module _ (image segments : List ℕ) (a flags : ℕ) (r k : ContextDescriptorKind) (e : r ≡ context_kind flags) (t : r ≡ k) where
  pub body_kind : (x : Option Body) → x ≡ run image segments (body_of_kind k a flags) → x ≡ run image segments (body a flags)
  unfolding body
  body_kind x f = f ∙ ap (λ (j : ContextDescriptorKind). run image segments (body_of_kind j a flags)) (sym t ∙ e)

  pub bodiless_kind : body_of_kind k a flags ≡ nothing → None ≡ run image segments (body a flags)
  unfolding run
  bodiless_kind n = body_kind None (sym (ap (λ (p : Reads Body). run image segments p) n))

-- the kinds without a body
abbrev pub Bodiless : ContextDescriptorKind → Type 0
Bodiless r =
    (r ≡ ContextDescriptorKind.Module)
    ⊎ ((r ≡ ContextDescriptorKind.Extension)
    ⊎ ((r ≡ ContextDescriptorKind.Anonymous)
    ⊎ ((r ≡ ContextDescriptorKind.Protocol) ⊎ ((r ≡ ContextDescriptorKind.OpaqueType) ⊎ ((n : ℕ) × (r ≡ ContextDescriptorKind.Other n))))))

pub bodiless : (image segments : List ℕ) (a flags : ℕ) (r : ContextDescriptorKind) → r ≡ context_kind flags → Bodiless r → None ≡ run image segments (body a flags)
bodiless image segments a flags r e (inl t) = bodiless_kind image segments a flags r _ e t refl
bodiless image segments a flags r e (inr (inl t)) = bodiless_kind image segments a flags r _ e t refl
bodiless image segments a flags r e (inr (inr (inl t))) = bodiless_kind image segments a flags r _ e t refl
bodiless image segments a flags r e (inr (inr (inr (inl t)))) = bodiless_kind image segments a flags r _ e t refl
bodiless image segments a flags r e (inr (inr (inr (inr (inl t))))) = bodiless_kind image segments a flags r _ e t refl
bodiless image segments a flags r e (inr (inr (inr (inr (inr t))))) = bodiless_kind image segments a flags r _ e t.1 refl

-- ---- the superclass's name

pub superclass_of : (image segments : List ℕ) (b k : Option TypeBody) (x : Option Place) → b ≡ k → x ≡ superclass_name image segments (body_of k)
    → x ≡ superclass_name image segments (body_of b)
superclass_of image segments b k x t e = e ∙ ap (λ (c : Option TypeBody). superclass_name image segments (body_of c)) (sym t)

pub no_superclass_of : (image segments : List ℕ) (b : Option TypeBody) (k : TypeBody) → b ≡ Some k → ((s : StructBody) × (k ≡ TypeBody.Struct s)) ⊎ ((e : EnumBody) × (k ≡ TypeBody.Enum e))
    → None ≡ superclass_name image segments (body_of b)
no_superclass_of image segments b k t (inl e) = superclass_of image segments b _ None (t ∙ ap Some e.1) refl
no_superclass_of image segments b k t (inr e) = superclass_of image segments b _ None (t ∙ ap Some e.1) refl
