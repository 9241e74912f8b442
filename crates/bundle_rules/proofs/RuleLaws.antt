-- What the tests of the code, one after the other, say about the definitions of `Rule`; and that no rule is reported exactly if
-- `openBundle` does not refuse with 2. Assumes nothing.
use Prim.Native.Nat.{ℕ, zero, suc, ◌+◌, ◌-◌, ◌≤◌, ◌<◌}
use Rattle.std.proofs.Math.Decide.{dec_le}
use Rattle.std.proofs.Common.{arith, sym, ◌∙◌, subst}
use Rattle.std.specs.Prelude.{◌≡◌, List, [], ◌∷◌, Bool, true, false, cond, ◌&&◌, ◌||◌, leb, ltb, Option, Some, None, Result, Ok, Err}
use Rattle.std.proofs.Math.Path.{refl, ap}
use Rattle.std.proofs.Math.Bool.{or-true, or_comm, and-false, and-eq-true_iff, and_comm}
use Rattle.std.proofs.Math.ListN.{length}
use Rattle.std.proofs.Math.Dec.{eqb}
use borrow.Author.Tests.{le-leb, lt-leb, lt-ltb, le-ltb, eq-eqb, ne_eqb, leb-true, ltb-true, eqb-true}
use Rattle.refusal.specs.Refusal.{Guarded, answered, refused}
use Rattle.util.specs.LittleEndian.{little_at, little_endian}
use Rattle.util.proofs.LittleEndianLaws.{little_value, little_within}
use Rattle.bundle.specs.Bundle.{body_fits}
use Rattle.bundle.specs.Open.{size_at, kind_at, is_at, taken_at, image, segments, types, fields, strings, answer, bundle_most, open_bundle}
use Rattle.bundle.proofs.OpenLaws.{take_some, take_none, too_long}
use Rattle.bundle.proofs.BundleLaws.{taken_layout}
use Rattle.bundle_rules.specs.Rule.{keeps, breaks, broken, body_rule, check_kind, check_at, turn, at_end, walk, broken_rule}
use Rattle.bundle.specs.declared.open.Layout.{Layout}
use Rattle.bundle.specs.declared.open.Taken.{Taken}
use Rattle.bundle_rules.specs.declared.rules.Rule.{Rule}
use Rattle.bundle_rules.specs.declared.rules.Broken.{Broken}
use Rattle.bundle_rules.specs.declared.rules.Kept.{Kept}

-- ---- a record

module _ (last k n next : ℕ) where
  pub kind_low : k < 1 → breaks Rule.KindRange ≡ check_kind last k n next
  unfolding check_kind
  kind_low h = rw (lt-leb 1 k h)

  pub kind_high : 5 < k → breaks Rule.KindRange ≡ check_kind last k n next
  unfolding check_kind
  kind_high h = rw (lt-leb k 5 h, and-false)

  module _ (low : 1 ≤ k) (high : k ≤ 5) where
    pub kind_not_above : k ≤ last → breaks Rule.KindOrder ≡ check_kind last k n next
    unfolding check_kind
    kind_not_above h = rw (le-leb 1 k low, le-leb k 5 high, le-ltb last k h)

    module _ (above : last < k) where
      pub kind_kept : body_fits k n ≡ true → keeps k next ≡ check_kind last k n next
      unfolding check_kind
      kind_kept h = rw (le-leb 1 k low, le-leb k 5 high, lt-ltb last k above, h)

      pub kind_unfit : body_fits k n ≡ false → breaks (body_rule k) ≡ check_kind last k n next
      unfolding check_kind
      kind_unfit h = rw (le-leb 1 k low, le-leb k 5 high, lt-ltb last k above, h)

      pub kind_segments : k ≡ 2 → body_fits k n ≡ false → breaks Rule.SegmentBody ≡ check_kind last k n next
      kind_segments e h = rw (eq-eqb k 2 e) at (kind_unfit h)

      pub kind_led : (k ≡ 2 → ⊥) → body_fits k n ≡ false → breaks Rule.LedBody ≡ check_kind last k n next
      kind_led e h = rw (ne_eqb k 2 e) at (kind_unfit h)

module _ (s : List ℕ) (last at : ℕ) where
  pub check_short : length s < at + 6 + size_at s at → breaks Rule.CutShort ≡ check_at s last at
  unfolding check_at
  check_short h = rw (lt-leb (at + 6 + size_at s at) (length s) h)

  pub check_whole : at + 6 + size_at s at ≤ length s → check_kind last (kind_at s at) (size_at s at) (at + 6 + size_at s at) ≡ check_at s last at
  unfolding check_at
  check_whole h = rw (le-leb (at + 6 + size_at s at) (length s) h)

  pub check_past : length s < at + 6 → breaks Rule.CutShort ≡ check_at s last at
  check_past h = check_short (omega arith)

  -- the header's two numbers as they were read
  module _ (n k : ℕ) (size : Some n ≡ little_at 4 s at) (found : Some k ≡ little_at 2 s (at + 4)) where
    size_is : n ≡ size_at s at
    size_is = little_value 4 s at n size

    whole : at + 6 ≤ length s
    whole = omega (arith, little_within 2 s (at + 4) k found)

    pub check_cut : length s - (at + 6) < n → breaks Rule.CutShort ≡ check_at s last at
    check_cut h = check_short (omega (arith, size_is, whole))

    pub check_kind_lem : {r : Result Kept Rule} → r ≡ check_kind last k n (at + 6 + n) → n ≤ length s - (at + 6) → r ≡ check_at s last at
    check_kind_lem e h =
        e
        ∙ (λ i. check_kind last (little_value 2 s (at + 4) k found i) (size_is i) (at + 6 + size_is i))
        ∙ check_whole (omega (arith, size_is, whole))

-- what a record says that obeys the rules
pub record Obeyed (s : List ℕ) (last at k n : ℕ) : Type 0 where
  pub above : last < k
  pub high : k ≤ 5
  pub next : at + 6 ≤ n

-- each test either goes on or breaks a rule
on : (b : Bool) (x : Result Kept Rule) (r : Rule) (k n : ℕ) → keeps k n ≡ cond b x (breaks r) → (b ≡ true) × (keeps k n ≡ x)
on true x r k n e = (refl, e)
on false x r k n e = let z : ◌≡◌ {A = ℕ} 0 1 = cc in absurd (omega arith)

abbrev kind_of : Result Kept Rule → ℕ
kind_of (Ok w) = w.kind
kind_of (Err r) = 0

abbrev next_of : Result Kept Rule → ℕ
next_of (Ok w) = w.next
next_of (Err r) = 0

pub kept_by_check : (s : List ℕ) (last at k n : ℕ) → keeps k n ≡ check_at s last at → Obeyed s last at k n
unfolding check_at check_kind
kept_by_check s last at k n e =
    let whole = on (leb (at + 6 + size_at s at) (length s)) _ _ k n e in
    let range = on (leb 1 (kind_at s at) && leb (kind_at s at) 5) _ _ k n whole.1 in
    let above = on (ltb last (kind_at s at)) _ _ k n range.1 in
    let fits = on (body_fits (kind_at s at) (size_at s at)) _ _ k n above.1 in
    let is : keeps k n ≡ keeps (kind_at s at) (at + 6 + size_at s at) = fits.1 in
    let next : n ≡ at + 6 + size_at s at = ap (λ (r : Result Kept Rule). next_of r) is in
    let kind : k ≡ kind_at s at = ap (λ (r : Result Kept Rule). kind_of r) is in
    let high = ((and-eq-true_iff (leb 1 (kind_at s at)) _).0 range.0).1 in
    record { above = omega (arith, ltb-true last (kind_at s at) above.0); high = omega (arith, leb-true (kind_at s at) 5 high); next = omega arith }

-- ---- the walk

pub too_long_whole : (s : List ℕ) → bundle_most < length s → None ≡ broken_rule s
unfolding broken_rule
too_long_whole s h = rw (lt-ltb bundle_most (length s) h)

-- where the walk stands, with enough turns for the kinds that are left
pub record RulesWalked (s : List ℕ) (image : Bool) (last at : ℕ) : Type 0 where
  pub turns : ℕ
  pub enough : 6 ≤ turns + last
  pub low : last ≤ 5
  pub same : walk turns s image last at ≡ broken_rule s

pub walked_none : (s : List ℕ) → length s ≤ bundle_most → RulesWalked s false 0 0
unfolding broken_rule
walked_none s h = record { turns = 6; enough = omega arith; low = omega arith; same = sym (rw (le-ltb bundle_most (length s) h)) }

module _ (s : List ℕ) (image : Bool) (last at : ℕ) where
  -- a turn, if one is left
  turned : (n : ℕ) → at < length s → walk (suc n) s image last at ≡ turn at (check_at s last at) (λ kind next. walk n s (eqb kind 1 || image) kind next)
  unfolding walk
  turned n h = rw (walk, lt-leb (length s) at h)

  turned_end : (n : ℕ) → length s ≤ at → walk (suc n) s image last at ≡ at_end s image
  unfolding walk
  turned_end n h = rw (walk, le-leb (length s) at h)

  pub walked_breaks : (r : Rule) → RulesWalked s image last at → at < length s → breaks r ≡ check_at s last at → broken r at ≡ broken_rule s
  walked_breaks r w h e = go w.turns w.enough w.same
    where
      go : (n : ℕ) → 6 ≤ n + last → walk n s image last at ≡ broken_rule s → broken r at ≡ broken_rule s
      go zero m f = absurd (omega (arith, w.low))
      go (suc n) m f = ap (λ (c : Result Kept Rule). turn at c (λ kind next. walk n s (eqb kind 1 || image) kind next)) e ∙ sym (turned n h) ∙ f

  pub walked_keeps : (k n : ℕ) → RulesWalked s image last at → at < length s → keeps k n ≡ check_at s last at → RulesWalked s (eqb k 1 || image) k n
  walked_keeps k n w h e = go w.turns w.enough w.same
    where
      go : (m : ℕ) → 6 ≤ m + last → walk m s image last at ≡ broken_rule s → RulesWalked s (eqb k 1 || image) k n
      go zero m f = absurd (omega (arith, w.low))
      go (suc m) l f =
          record {
            turns = m;
            enough = omega (arith, (kept_by_check s last at k n e).above);
            low = (kept_by_check s last at k n e).high;
            same = ap (λ (c : Result Kept Rule). turn at c (λ kind next. walk m s (eqb kind 1 || image) kind next)) e ∙ sym (turned m h) ∙ f;
          }

  -- whether there was an image, as the code has it after a record that obeyed the rules
  pub walked_seen : (k n : ℕ) → RulesWalked s image last at → at < length s → keeps k n ≡ check_at s last at → RulesWalked s (image || eqb k 1) k n
  walked_seen k n w h e = subst (λ (b : Bool). RulesWalked s b k n) (or_comm (eqb k 1) image) (walked_keeps k n w h e)

  walked_ended : RulesWalked s image last at → length s ≤ at → at_end s image ≡ broken_rule s
  walked_ended w h = go w.turns w.enough w.same
    where
      go : (n : ℕ) → 6 ≤ n + last → walk n s image last at ≡ broken_rule s → at_end s image ≡ broken_rule s
      go zero m f = absurd (omega (arith, w.low))
      go (suc n) m f = sym (turned_end n h) ∙ f

  pub walked_whole : RulesWalked s image last at → length s ≤ at → image ≡ true → None ≡ broken_rule s
  walked_whole w h e = sym (ap (at_end s) e) ∙ walked_ended w h

  pub walked_empty : RulesWalked s image last at → length s ≡ 0 → None ≡ broken_rule s
  walked_empty w e = sym (rw (eq-eqb (length s) 0 e, or-true)) ∙ walked_ended w (omega arith)

  pub walked_missing : RulesWalked s image last at → length s ≤ at → image ≡ false → (length s ≡ 0 → ⊥) → broken Rule.NoImage (length s) ≡ broken_rule s
  walked_missing w h e bytes = sym (rw (e, ne_eqb (length s) 0 bytes)) ∙ walked_ended w h

-- the same in its two cases: the record is an image, and is none
module _ (s : List ℕ) (image : Bool) (k n : ℕ) where
  pub seen_image : k ≡ 1 → RulesWalked s (eqb k 1 || image) k n → RulesWalked s (eqb k 1) k n
  seen_image e w = subst (λ (b : Bool). RulesWalked s b k n) (rw (eq-eqb k 1 e)) w

  pub seen_other : (k ≡ 1 → ⊥) → RulesWalked s (eqb k 1 || image) k n → RulesWalked s image k n
  seen_other e w = subst (λ (b : Bool). RulesWalked s b k n) (rw (ne_eqb k 1 e)) w

-- ---- whole exactly if it is not refused for a rule

abbrev is_whole : Option Broken → Bool
is_whole (Some b) = false
is_whole None = true

above_same : (a b k n next : ℕ) → ltb a k ≡ ltb b k → check_kind a k n next ≡ check_kind b k n next
unfolding check_kind
above_same a b k n next e = rw e

-- a kind that is missing may be passed over: a record of another kind breaks the same rule, or obeys the rules, and a record of this kind
-- that does not fit breaks a rule either way
module _ (last at : ℕ) (most : suc last ≤ 5) (more : ℕ → ℕ → Option Broken) where
  abbrev whole_after : Result Kept Rule → Bool
  whole_after c = is_whole (turn at c more)

  passed_kind : (k n next : ℕ) → (eqb k (suc last) && body_fits (suc last) n) ≡ false → whole_after (check_kind last k n next) ≡ whole_after (check_kind (suc last) k n next)
  passed_kind k n next unfit =
      elim (dec_le k last) [
        | yes h ↦ ap whole_after (above_same last (suc last) k n next (le-ltb last k h ∙ sym (le-ltb (suc last) k (omega arith))))
        | no h ↦
            elim (dec_le k (suc last)) [
              | yes g ↦
                  let is : k ≡ suc last = omega arith in
                  let not : body_fits k n ≡ false = rw is (rw (eq-eqb k (suc last) is) at unfit) in
                  ap whole_after (sym (kind_unfit last k n next (omega arith) (omega arith) (omega arith) not)) ∙ ap whole_after (kind_not_above (suc last) k n next (omega arith) (omega arith) g)
              | no g ↦ ap whole_after (above_same last (suc last) k n next (lt-ltb last k (omega arith) ∙ sym (lt-ltb (suc last) k (omega arith))))
            ]
      ]

  passed : (s : List ℕ) → is_at (suc last) s at ≡ false → whole_after (check_at s last at) ≡ whole_after (check_at s (suc last) at)
  unfolding is_at
  passed s is =
      elim (dec_le (at + 6 + size_at s at) (length s)) [
        | yes h ↦
            ap whole_after (sym (check_whole s last at h))
            ∙ passed_kind (kind_at s at) (size_at s at) (at + 6 + size_at s at) (rw (le-leb (at + 6 + size_at s at) (length s) h) at is)
            ∙ ap whole_after (check_whole s (suc last) at h)
        | no h ↦ ap whole_after (sym (check_short s last at (omega arith)) ∙ check_short s (suc last) at (omega arith))
      ]

module _ (s : List ℕ) (image : Bool) (last at : ℕ) (most : suc last ≤ 5) where
  walk_passed : (n : ℕ) → is_at (suc last) s at ≡ false → is_whole (walk n s image last at) ≡ is_whole (walk n s image (suc last) at)
  unfolding walk
  walk_passed zero is = refl
  walk_passed (suc n) is = go (leb (length s) at)
    where
      more : ℕ → ℕ → Option Broken
      more kind next = walk n s (eqb kind 1 || image) kind next

      go : (b : Bool) → is_whole (cond b (at_end s image) (turn at (check_at s last at) more)) ≡ is_whole (cond b (at_end s image) (turn at (check_at s (suc last) at) more))
      go true = refl
      go false = passed last at most more s is

  walk_taken : (n : ℕ) → is_at (suc last) s at ≡ true → walk (suc n) s image last at ≡ walk n s (eqb (suc last) 1 || image) (suc last) (at + 6 + size_at s at)
  unfolding is_at
  walk_taken n is =
      let both = (and-eq-true_iff (leb (at + 6 + size_at s at) (length s)) _).0 is in
      let fit = (and-eq-true_iff (eqb (kind_at s at) (suc last)) _).0 both.1 in
      let within : at + 6 + size_at s at ≤ length s = leb-true _ _ both.0 in
      let kind : kind_at s at ≡ suc last = eqb-true _ _ fit.0 in
      let kept : keeps (suc last) (at + 6 + size_at s at) ≡ check_at s last at =
      kind_kept last (suc last) (size_at s at) (at + 6 + size_at s at) (omega arith) most (omega arith) fit.1
      ∙ ap (λ (k : ℕ). check_kind last k (size_at s at) (at + 6 + size_at s at)) (sym kind)
      ∙ check_whole s last at within in
      turned s image last at n (omega arith) ∙ ap (λ (c : Result Kept Rule). turn at c (λ kind next. walk n s (eqb kind 1 || image) kind next)) (sym kept)

-- past the last kind, nothing may be left
walk_end_lem : (n : ℕ) (s : List ℕ) (image : Bool) (at : ℕ) → is_whole (walk (suc n) s image 5 at) ≡ (leb (length s) at && (image || eqb (length s) 0))
walk_end_lem n s image at =
    elim (dec_le (length s) at) [
      | yes h ↦ ap is_whole (turned_end s image 5 at n h) ∙ rw (le-leb (length s) at h) (seen (image || eqb (length s) 0))
      | no h ↦ ap is_whole (turned s image 5 at n (omega arith)) ∙ never (check_at s 5 at) refl ∙ rw (lt-leb (length s) at (omega arith))
    ]
  where
    seen : (b : Bool) → is_whole (cond b None (broken Rule.NoImage (length s))) ≡ b
    seen true = refl
    seen false = refl

    never : (c : Result Kept Rule) → c ≡ check_at s 5 at → is_whole (turn at c (λ kind next. walk n s (eqb kind 1 || image) kind next)) ≡ false
    never (Err r) e = refl
    never (Ok w) e = absurd (omega (arith, (kept_by_check s 5 at w.kind w.next e).above, (kept_by_check s 5 at w.kind w.next e).high))

-- the kinds up to `last` are taken, as `openBundle` takes them, with enough turns for the others
record Stage (s : List ℕ) (image : Bool) (last at : ℕ) : Type 0 where
  turns : ℕ
  enough : 6 ≤ turns + last
  same : is_whole (walk 6 s false 0 0) ≡ is_whole (walk turns s image last at)

stage : (s : List ℕ) (image : Bool) (last at : ℕ) → suc last ≤ 5 → Stage s image last at → Stage s (cond (is_at (suc last) s at) (eqb (suc last) 1 || image) image) (suc last) (taken_at (suc last) s at).next
stage s image last at most st = go (is_at (suc last) s at) refl st.turns st.enough st.same
  where
    go : (b : Bool) → is_at (suc last) s at ≡ b → (n : ℕ) → 6 ≤ n + last → is_whole (walk 6 s false 0 0) ≡ is_whole (walk n s image last at)
        → Stage s (cond b (eqb (suc last) 1 || image) image) (suc last) (taken_at (suc last) s at).next
    go b is zero m f = absurd (omega arith)
    go true is (suc n) m f =
        subst (λ (t : Taken). Stage s (eqb (suc last) 1 || image) (suc last) t.next) (take_some (suc last) s at is)
        (record { turns = n; enough = omega arith; same = f ∙ ap is_whole (walk_taken s image last at most n is) })
    go false is (suc n) m f =
        subst (λ (t : Taken). Stage s image (suc last) t.next) (take_none (suc last) s at is)
        (record { turns = suc n; enough = omega arith; same = f ∙ walk_passed s image last at most (suc n) is })

-- after the image, it stays settled whether there was one
stage_later : (s : List ℕ) (image : Bool) (last at : ℕ) → suc last ≤ 5 → 1 ≤ last → Stage s image last at → Stage s image (suc last) (taken_at (suc last) s at).next
stage_later s image last at most past st =
    subst (λ (b : Bool). Stage s b (suc last) (taken_at (suc last) s at).next) (rw (ne_eqb (suc last) 1 (λ q. omega arith)) (either (is_at (suc last) s at))) (stage s image last at most st)
  where
    either : (b : Bool) → cond b image image ≡ image
    either true = refl
    either false = refl

module _ (s : List ℕ) where
  abbrev there : Bool
  there = ltb 0 (image s).part.start

  stage_image : Stage s there 1 (image s).next
  stage_image = subst (λ (b : Bool). Stage s b 1 (image s).next) (either (is_at 1 s 0) refl) (stage s false 0 0 (omega arith) (record { turns = 6; enough = omega arith; same = refl }))
    where
      either : (b : Bool) → is_at 1 s 0 ≡ b → cond b true false ≡ there
      either true is = rw (← take_some 1 s 0 is)
      either false is = rw (← take_none 1 s 0 is)

  walk_whole : is_whole (walk 6 s false 0 0) ≡ (leb (length s) (strings s).next && (there || eqb (length s) 0))
  walk_whole =
      let two = stage_later s there 1 (image s).next (omega arith) (omega arith) stage_image in
      let three = stage_later s there 2 (segments s).next (omega arith) (omega arith) two in
      let four = stage_later s there 3 (types s).next (omega arith) (omega arith) three in
      let five = stage_later s there 4 (fields s).next (omega arith) (omega arith) four in
      five.same ∙ go five.turns five.enough
    where
      go : (n : ℕ) → 6 ≤ n + 5 → is_whole (walk n s there 5 (strings s).next) ≡ (leb (length s) (strings s).next && (there || eqb (length s) 0))
      go zero m = absurd (omega arith)
      go (suc n) m = walk_end_lem n s there (strings s).next

  -- what `openBundle` makes of the same test
  abbrev refusal : Bool → Guarded Layout
  refusal b = cond b (answered (taken_layout s)) (refused 2)

  opened_whole : length s ≤ bundle_most → open_bundle s ≡ refusal (is_whole (broken_rule s))
  unfolding open_bundle answer broken_rule
  opened_whole h = rw (le-ltb bundle_most (length s) h, walk_whole, and_comm (leb (length s) (strings s).next) (there || eqb (length s) 0))

  pub told_refused : (r : Rule) (at : ℕ) → broken_rule s ≡ broken r at → open_bundle s ≡ refused 2
  told_refused r at e =
      elim (dec_le (length s) bundle_most) [
        | yes h ↦ opened_whole h ∙ ap (λ (b : Option Broken). refusal (is_whole b)) e
        | no h ↦ let f = too_long_whole s (omega arith) in let z : ◌≡◌ {A = ℕ} 0 1 = cc in absurd (omega arith)
      ]

  pub whole_not_refused : broken_rule s ≡ None → open_bundle s ≡ refused 2 → ⊥
  whole_not_refused e f =
      elim (dec_le (length s) bundle_most) [
        | yes h ↦
            let g : open_bundle s ≡ answered (taken_layout s) = opened_whole h ∙ ap (λ (b : Option Broken). refusal (is_whole b)) e in
            let z : ◌≡◌ {A = ℕ} 0 1 = cc in
            omega arith
        | no h ↦ let g = too_long s (omega arith) in let z : ◌≡◌ {A = ℕ} 5 2 = cc in omega arith
      ]

  pub not_refused_whole : (open_bundle s ≡ refused 2 → ⊥) → broken_rule s ≡ None
  not_refused_whole f = go (broken_rule s) refl
    where
      go : (b : Option Broken) → broken_rule s ≡ b → b ≡ None
      go (Some b) e = absurd (f (told_refused b.rule b.at e))
      go None e = refl

-- each rule, broken by a bundle of a few bytes; the empty bundle breaks none
pub record Examples : Type 0 where
  pub empty : broken_rule [] ≡ None
  pub one_byte : broken_rule (0 ∷ []) ≡ broken Rule.CutShort 0
  pub image : broken_rule (0 ∷ 0 ∷ 0 ∷ 0 ∷ 1 ∷ 0 ∷ []) ≡ None
  pub header_cut : broken_rule (0 ∷ 0 ∷ 0 ∷ 0 ∷ 1 ∷ []) ≡ broken Rule.CutShort 0
  pub body_cut : broken_rule (0 ∷ 0 ∷ 0 ∷ 0 ∷ 1 ∷ 0 ∷ 9 ∷ 0 ∷ 0 ∷ 0 ∷ 3 ∷ 0 ∷ 7 ∷ []) ≡ broken Rule.CutShort 6
  pub kind_none : broken_rule (0 ∷ 0 ∷ 0 ∷ 0 ∷ 0 ∷ 0 ∷ []) ≡ broken Rule.KindRange 0
  pub kind_six : broken_rule (0 ∷ 0 ∷ 0 ∷ 0 ∷ 1 ∷ 0 ∷ 0 ∷ 0 ∷ 0 ∷ 0 ∷ 6 ∷ 0 ∷ []) ≡ broken Rule.KindRange 6
  pub twice : broken_rule (1 ∷ 0 ∷ 0 ∷ 0 ∷ 1 ∷ 0 ∷ 7 ∷ 0 ∷ 0 ∷ 0 ∷ 0 ∷ 1 ∷ 0 ∷ []) ≡ broken Rule.KindOrder 7
  pub ragged : broken_rule (0 ∷ 0 ∷ 0 ∷ 0 ∷ 1 ∷ 0 ∷ 1 ∷ 0 ∷ 0 ∷ 0 ∷ 2 ∷ 0 ∷ 7 ∷ []) ≡ broken Rule.SegmentBody 6
  pub not_led : broken_rule (0 ∷ 0 ∷ 0 ∷ 0 ∷ 1 ∷ 0 ∷ 1 ∷ 0 ∷ 0 ∷ 0 ∷ 5 ∷ 0 ∷ 7 ∷ []) ≡ broken Rule.LedBody 6
  pub no_image : broken_rule (0 ∷ 0 ∷ 0 ∷ 0 ∷ 2 ∷ 0 ∷ []) ≡ broken Rule.NoImage 6

pub examples : Examples
unfolding broken_rule walk check_at check_kind body_fits little_endian
examples = record { empty = refl; one_byte = refl; image = refl; header_cut = refl; body_cut = refl; kind_none = refl; kind_six = refl; twice = refl; ragged = refl; not_led = refl; no_image = refl }
