-- A layout's places lie within the bytes, and the bytes there are the records' bodies. Assumes nothing.
use Prim.Native.Nat.{ℕ, ◌+◌, ◌-◌, ◌%◌, ◌≤◌}
use native.Mathlib.Omega.{arith}
use Rattle.std.specs.Prelude.{◌≡◌, Bool, cond, eqb}
use Rattle.std.proofs.Math.Path.{refl, ap}
use Rattle.std.proofs.Common.{◌∙◌, subst, take_at, drop-drop}
use mathlib.Core.List.{List, [], ◌∷◌, ◌++◌}
use Rattle.std.proofs.Math.Bool.{true, false, and-eq-true_iff}
use Rattle.std.proofs.Math.ListN.{length, take, drop, length-drop}
use Rattle.std.proofs.Math.Seq.{drop_at, take-add, take-take, length-take-le}
use Rattle.std.proofs.Math.Dec.{leb}
use borrow.Author.Tests.{le-leb, leb-true, eqb-true}
use Rattle.refusal.specs.Refusal.{answered}
use Rattle.util.specs.LittleEndian.{little_endian}
use Rattle.util.specs.CstrLaws.{part_in}
use Rattle.bundle.specs.Bundle.{Record, bundle_bytes, body_fits, body_place, section_in}
use Rattle.bundle.specs.Open.{size_at, kind_at, is_at, taken_at, bundle_most, open_bundle, Within}
use Rattle.bundle.proofs.OpenLaws.{take_none, take_some, taken_within, opens}
use Rattle.bundle.proofs.BundleLaws.{from_body, from_next, read_within, taken_layout, opened_short, opened_image, opened_all}
use Rattle.bundle_parts.specs.Parts.{bytes_of}
use Rattle.util.specs.declared.cstr.Place.{Place}
use Rattle.bundle.specs.declared.open.Layout.{Layout}

-- the body of a kind, empty if it is missing
unfoldable pub record_body_of : ℕ → List Record → List ℕ
record_body_of kind [] = []
record_body_of kind (r ∷ rs) = cond (eqb r.kind kind) r.body (record_body_of kind rs)

pub place_bytes : (s : List ℕ) (kind at : ℕ) (rs : List Record) → drop at s ≡ bundle_bytes rs → bytes_of s (body_place kind at rs) ≡ record_body_of kind rs
unfolding body_place record_body_of bundle_bytes
place_bytes s kind at [] e = part_in s 0 0 (omega arith)
place_bytes s kind at (r ∷ rs) e = go (place_bytes s kind (at + 6 + length r.body) rs (from_next s at r (bundle_bytes rs) e)) (eqb r.kind kind) refl
  where
    go : bytes_of s (body_place kind (at + 6 + length r.body) rs) ≡ record_body_of kind rs → (b : Bool) → eqb r.kind kind ≡ b → bytes_of s (body_place kind at (r ∷ rs)) ≡ record_body_of kind (r ∷ rs)
    go below true t =
        rw t
        (part_in s (at + 6) (length r.body) (read_within s at r (bundle_bytes rs) e)
        ∙ ap (take (length r.body)) (from_body s at r (bundle_bytes rs) e)
        ∙ take_at r.body (bundle_bytes rs) _ refl)
    go below false t = rw t below

-- a section's address and bytes are those of its led body
module _ (s : List ℕ) (p : Place) where
  pub section_within : Within s p → Within s (section_in s p).part
  unfolding section_in
  section_within h = go (leb 8 p.size) refl
    where
      go : (b : Bool) → leb 8 p.size ≡ b → Within s (section_in s p).part
      go true t = rw t (omega (arith, leb-true 8 p.size t))
      go false t = rw t (omega arith)

  module _ (h : Within s p) (led : 8 ≤ p.size) where
    pub section_address : (section_in s p).address ≡ little_endian (take 8 (bytes_of s p))
    unfolding section_in
    section_address = rw (le-leb 8 p.size led, part_in s p.start p.size h, take-take 8 p.size (drop p.start s) led)

    pub section_bytes : bytes_of s (section_in s p).part ≡ drop 8 (bytes_of s p)
    unfolding section_in
    section_bytes =
        let all : List ℕ = drop p.start s in
        let size : p.size ≡ 8 + (p.size - 8) = omega arith in
        let eight : length (take 8 all) ≡ 8 = length-take-le 8 all (simp length-drop (omega arith)) in
        let split : take p.size all ≡ take 8 all ++ take (p.size - 8) (drop 8 all) = ap (λ (k : ℕ). take k all) size ∙ take-add 8 (p.size - 8) all in
        rw (le-leb 8 p.size led, part_in s (p.start + 8) (p.size - 8) (omega arith), part_in s p.start p.size h, split, drop_at (take 8 all) (take (p.size - 8) (drop 8 all)) 8 eight, drop-drop)

-- what was taken for the segments is whole segments
taken_whole : (s : List ℕ) (at : ℕ) → (taken_at 2 s at).part.size % 32 ≡ 0
unfolding is_at body_fits
taken_whole s at = go (is_at 2 s at) refl
  where
    go : (b : Bool) → is_at 2 s at ≡ b → (taken_at 2 s at).part.size % 32 ≡ 0
    go true is =
        let both = (and-eq-true_iff (leb (at + 6 + size_at s at) (length s)) _).0 is in
        let fit = (and-eq-true_iff (eqb (kind_at s at) 2) _).0 both.1 in
        rw (← take_some 2 s at is) (eqb-true _ _ fit.1)
    go false is = rw (← take_none 2 s at is)

-- the places of an opened bundle
pub record Fit (s : List ℕ) (l : Layout) : Type 0 where
  pub image : Within s l.image
  pub segments : Within s l.segments
  pub types : Within s l.types.part
  pub fields : Within s l.fields.part
  pub strings : Within s l.strings.part
  pub whole : l.segments.size % 32 ≡ 0
  pub short : length s ≤ bundle_most

pub opened_fit : (s : List ℕ) (l : Layout) → open_bundle s ≡ answered l → Fit s l
opened_fit s l e =
    let short : length s ≤ bundle_most = opened_short s l e in
    let found : answered (taken_layout s) ≡ answered l = opens s refl refl refl refl refl refl refl refl (opened_image s l e) (opened_all s l e) short ∙ e in
    let same : taken_layout s ≡ l = cc in
    subst (Fit s) same
    (record {
      image = taken_within 1 s _ refl;
      segments = taken_within 2 s _ refl;
      types = section_within s _ (taken_within 3 s _ refl);
      fields = section_within s _ (taken_within 4 s _ refl);
      strings = section_within s _ (taken_within 5 s _ refl);
      whole = taken_whole s _;
      short = short;
    })
