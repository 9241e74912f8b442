-- What the tests of the code, one after the other, say about the definitions of `Open`. Assumes nothing.
use Rattle.std.specs.Prelude.{ℕ, zero, suc, ◌+◌, ◌-◌, ◌%◌, ◌≤◌, ◌<◌, ◌≡◌, refl, List, Bool, true, false, ◌||◌, cond, length, leb, ltb, eqb, Option, Some, None, IsSome}
use Rattle.std.specs.Bool.{then_some}
use Rattle.std.proofs.Common.{arith, ◌∙◌}
use Rattle.std.proofs.Math.Path.{sym, ap}
use Rattle.std.proofs.Math.Bool.{and-false, and-eq-true_iff}
use borrow.Author.Tests.{le-leb, lt-leb, lt-ltb, le-ltb, eq-eqb, ne_eqb, leb-true}
use Rattle.refusal.specs.Refusal.{answered, refused}
use Rattle.util.specs.Cstr.{place}
use Rattle.util.specs.declared.cstr.Place.{Place}
use Rattle.util.specs.LittleEndian.{little_at}
use Rattle.util.proofs.LittleEndianLaws.{little_value, little_within, little_beyond}
use Rattle.bundle.specs.Bundle.{body_fits, section_in}
use Rattle.bundle.specs.Open.{size_at, kind_at, is_at, body_at, taken_at, answer, bundle_most, open_bundle, Within}
use Rattle.bundle.specs.declared.open.Section.{Section}
use Rattle.bundle.specs.declared.open.Taken.{Taken}

-- how long the body of a kind may be: the three cases
module _ (kind n : ℕ) where
  pub fits_segments : kind ≡ 2 → eqb (n % 32) 0 ≡ body_fits kind n
  unfolding body_fits
  fits_segments h = simp (eq-eqb kind 2 h)

  module _ (other : kind ≡ 2 → ⊥) where
    pub fits_image : kind < 3 → true ≡ body_fits kind n
    unfolding body_fits
    fits_image h = simp (ne_eqb kind 2 other, lt-ltb kind 3 h)

    pub fits_led : 3 ≤ kind → leb 8 n ≡ body_fits kind n
    unfolding body_fits
    fits_led h = simp (ne_eqb kind 2 other, le-ltb kind 3 h)

abbrev pub untaken : ℕ → Taken
untaken at = record { part = place 0 0; next = at }

abbrev pub taken_of : ℕ → ℕ → Taken
taken_of at n = record { part = place (at + 6) n; next = at + 6 + n }

module _ (kind : ℕ) (s : List ℕ) (at : ℕ) where
  pub take_none : is_at kind s at ≡ false → untaken at ≡ taken_at kind s at
  unfolding taken_at
  take_none h = rw h

  pub take_some : is_at kind s at ≡ true → taken_of at (size_at s at) ≡ taken_at kind s at
  unfolding taken_at
  take_some h = rw h

  pub take_past : length s < at + 6 → untaken at ≡ taken_at kind s at
  unfolding is_at
  take_past h = take_none (rw (lt-leb (at + 6 + size_at s at) (length s) (omega arith)))

  -- the same by the body alone
  body_none : is_at kind s at ≡ false → None ≡ body_at kind s at
  unfolding body_at
  body_none h = rw h

  pub body_past : length s < at + 6 → None ≡ body_at kind s at
  unfolding is_at
  body_past h = body_none (rw (lt-leb (at + 6 + size_at s at) (length s) (omega arith)))

  -- the header's two numbers as they were read
  module _ (n k : ℕ) (size : Some n ≡ little_at 4 s at) (found : Some k ≡ little_at 2 s (at + 4)) where
    size_is : n ≡ size_at s at
    size_is = little_value 4 s at n size

    kind_is : k ≡ kind_at s at
    kind_is = little_value 2 s (at + 4) k found

    whole : at + 6 ≤ length s
    whole = omega (arith, little_within 2 s (at + 4) k found)

    pub body_cut : length s - (at + 6) < n → None ≡ body_at kind s at
    unfolding is_at
    body_cut h = body_none (rw (lt-leb (at + 6 + size_at s at) (length s) (omega (arith, size_is, whole))))

    pub body_other : (k ≡ kind → ⊥) → None ≡ body_at kind s at
    unfolding is_at
    body_other h = body_none (rw (ne_eqb (kind_at s at) kind (λ e. h (kind_is ∙ e)), and-false))

    pub body_there : (b : Bool) → b ≡ body_fits kind n → k ≡ kind → n ≤ length s - (at + 6) → then_some b (place (at + 6) n) ≡ body_at kind s at
    unfolding is_at body_at
    body_there b f e h = rw (← size_is, ← kind_is, le-leb (at + 6 + n) (length s) (omega (arith, whole)), eq-eqb k kind e, ← f) (go b)
      where
        go : (b : Bool) → then_some b (place (at + 6) n) ≡ cond b (Some (place (at + 6) n)) None
        go true = refl
        go false = refl

    -- and what is taken by them
    pub take_cut : length s - (at + 6) < n → untaken at ≡ taken_at kind s at
    unfolding is_at
    take_cut h = take_none (rw (lt-leb (at + 6 + size_at s at) (length s) (omega (arith, size_is, whole))))

    pub take_other : (k ≡ kind → ⊥) → untaken at ≡ taken_at kind s at
    unfolding is_at
    take_other h = take_none (rw (ne_eqb (kind_at s at) kind (λ e. h (kind_is ∙ e)), and-false))

    pub take_unfit : body_fits kind n ≡ false → untaken at ≡ taken_at kind s at
    unfolding is_at
    take_unfit h = take_none (rw (← size_is, h, and-false, and-false))

    pub take_there : body_fits kind n ≡ true → k ≡ kind → n ≤ length s - (at + 6) → taken_of at n ≡ taken_at kind s at
    unfolding is_at
    take_there b e h =
        ap (taken_of at) size_is
        ∙ take_some (rw (← size_is, ← kind_is, le-leb (at + 6 + n) (length s) (omega (arith, whole)), eq-eqb k kind e, b))

  -- a record's body and the next record's place, by that body
  pub taken_there : (p : Place) → Some p ≡ body_at kind s at → record { part = p; next = p.start + p.size } ≡ taken_at kind s at
  unfolding body_at
  taken_there p e = go (is_at kind s at) refl e
    where
      go : (b : Bool) → is_at kind s at ≡ b → Some p ≡ cond b (Some (place (at + 6) (size_at s at))) None → record { part = p; next = p.start + p.size } ≡ taken_at kind s at
      go true w e = let is : p ≡ place (at + 6) (size_at s at) = cc in rw is (take_some w)
      go false w e = let z : ◌≡◌ {A = ℕ} 0 1 = cc in absurd (omega arith)

  pub taken_nothing : None ≡ body_at kind s at → untaken at ≡ taken_at kind s at
  unfolding body_at
  taken_nothing e = go (is_at kind s at) refl e
    where
      go : (b : Bool) → is_at kind s at ≡ b → None ≡ cond b (Some (place (at + 6) (size_at s at))) None → untaken at ≡ taken_at kind s at
      go true w e = let z : ◌≡◌ {A = ℕ} 0 1 = cc in absurd (omega arith)
      go false w e = take_none w

-- what is taken lies within the bytes
pub taken_within : (kind : ℕ) (s : List ℕ) (at : ℕ) {r : Taken} → r ≡ taken_at kind s at → Within s r.part
unfolding is_at
taken_within kind s at e = go (is_at kind s at) refl e
  where
    go : {r : Taken} (t : Bool) → is_at kind s at ≡ t → r ≡ taken_at kind s at → Within s r.part
    go true w e =
        let whole = (and-eq-true_iff (leb (at + 6 + size_at s at) (length s)) _).0 w in
        rw (e ∙ sym (take_some kind s at w)) (leb-true _ _ whole.0)
    go false w e = rw (e ∙ sym (take_none kind s at w)) (omega arith)

module _ (s : List ℕ) (p : Place) where
  pub section_there : (a : ℕ) → Some a ≡ little_at 8 s p.start → 8 ≤ p.size → record { address = a; part = place (p.start + 8) (p.size - 8) } ≡ section_in s p
  unfolding section_in
  section_there a e h = rw (le-leb 8 p.size h, little_value 8 s p.start a e)

  pub section_read : {r : Option ℕ} → r ≡ little_at 8 s p.start → p.start + 8 ≤ length s → IsSome r
  section_read {r} e h = go r e
    where
      go : (r : Option ℕ) → r ≡ little_at 8 s p.start → IsSome r
      go (Some n) e = refl
      go None e = absurd (omega (arith, little_beyond 8 s p.start e))

  pub section_missing : p.size < 8 → record { address = 0; part = place 0 0 } ≡ section_in s p
  unfolding section_in
  section_missing h = rw (lt-leb 8 p.size h)

pub too_long : (s : List ℕ) → bundle_most < length s → refused 5 ≡ open_bundle s
unfolding open_bundle
too_long s h = rw (lt-ltb bundle_most (length s) h)

-- an image that starts at `n`, or no byte at all
image_or_none : (n m : ℕ) → (n ≡ 0 → m ≡ 0) → (ltb 0 n || eqb m 0) ≡ true
image_or_none zero m h = eq-eqb m 0 (h refl)
image_or_none (suc n) m h = rw (lt-ltb 0 (suc n) (omega arith))

-- what was taken for the five kinds, one after the other
module _ (s : List ℕ) {i g t f n : Taken} (ei : i ≡ taken_at 1 s 0) (eg : g ≡ taken_at 2 s i.next) (et : t ≡ taken_at 3 s g.next) (ef : f ≡ taken_at 4 s t.next) (en : n ≡ taken_at 5 s f.next) where
  answer_is : length s ≤ bundle_most → answer s i g t f n ≡ open_bundle s
  unfolding open_bundle
  answer_is h = rw (le-ltb bundle_most (length s) h, en, ef, et, eg, ei)

  pub no_image : i.part.start ≡ 0 → 0 < length s → length s ≤ bundle_most → refused 2 ≡ open_bundle s
  unfolding answer
  no_image e bytes h = sym (rw (e, ne_eqb (length s) 0 (λ q. omega arith))) ∙ answer_is h

  pub left_over : n.next < length s → length s ≤ bundle_most → refused 2 ≡ open_bundle s
  unfolding answer
  left_over l h = sym (rw (lt-leb (length s) n.next l, and-false)) ∙ answer_is h

  pub opens : {a b c : Section} → a ≡ section_in s t.part → b ≡ section_in s f.part → c ≡ section_in s n.part → (i.part.start ≡ 0 → length s ≡ 0) → length s ≤ n.next → length s ≤ bundle_most → answered (record { image = i.part; segments = g.part; types = a; fields = b; strings = c }) ≡ open_bundle s
  unfolding answer
  opens ea eb ec there all h =
      rw (ea, eb, ec) (sym (rw (image_or_none i.part.start (length s) there, le-leb (length s) n.next all)) ∙ answer_is h)
