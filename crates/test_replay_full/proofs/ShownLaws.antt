-- What a step says about how much is shown.
use Prim.Native.Nat.{ℕ, suc, ◌+◌, ◌-◌, ◌≤◌, ◌<◌}
use native.Mathlib.Omega.{arith}
use Rattle.std.proofs.Math.Path.{◌≡◌, refl, sym}
use Rattle.std.proofs.Common.{ap, ◌∙◌}
use Rattle.std.specs.Prelude.{List, length, Option, Some, None}
use Rattle.refusal.specs.Refusal.{Guarded, answered, refused}
use Rattle.refusal.specs.Guarded.{fault, guarded}
use Rattle.refusal.proofs.GuardedLaws.{answered_is, never_refused, refused_list}
use Rattle.typedescriptor.specs.Slots.{Found, next_row}
use Rattle.typedescriptor.specs.Steps.{stepped_rows}
use Rattle.field.specs.Fields.{Step, field_step}
use Rattle.field.specs.declared.iter.FieldDescriptor.{FieldDescriptor}
use Rattle.test_replay_full.specs.Shown.{rows_shown, walk_end}

module _ (image segments types : List ℕ) (start : ℕ) where
  abbrev left : ℕ → ℕ → ℕ
  left n i = length (stepped_rows image segments types start n i)

  -- `n` rows are shown, and the walk stands at slot `i`
  abbrev pub Showing : ℕ → ℕ → Type 0
  Showing n i = left 4096 0 ≡ n + left (4096 - n) i

  pub start_showing : (i : ℕ) → i ≡ 0 → Showing 0 i
  start_showing i e = ap (left 4096) (sym e) ∙ omega arith

  pub none_shown : (k : ℕ) (x : Option Found) → refused k ≡ guarded segments (answered x) → 0 ≡ rows_shown image segments types start
  unfolding rows_shown
  none_shown k x e = go (fault segments) refl
    where
      go : (f : Option ℕ) → f ≡ fault segments → 0 ≡ rows_shown image segments types start
      go None h = absurd (never_refused segments x k e h)
      go (Some n) h = rw (rows_shown, ← h)

  -- a step that does not refuse
  abbrev pub Whole : Type 0
  Whole = rows_shown image segments types start ≡ left 4096 0

  pub shown_whole : (x y : Option Found) → answered y ≡ guarded segments (answered x) → Whole
  unfolding rows_shown
  shown_whole x y e = go (fault segments) refl
    where
      go : (f : Option ℕ) → f ≡ fault segments → rows_shown image segments types start ≡ left 4096 0
      go None h = rw (rows_shown, ← h)
      go (Some n) h =
          let f : ◌≡◌ {A = Guarded (Option Found)} (answered y) (refused n) = e ∙ sym (refused_list segments (answered x) h) in
          let z : ◌≡◌ {A = ℕ} 0 1 = cc in
          absurd (omega arith)

  module _ (n i : ℕ) (g : Showing n i) (h : n < 4096) where
    one_left : 4096 - n ≡ suc (4096 - (n + 1))
    one_left = omega arith

    pub row_shown : (f : Found) → answered (Some f) ≡ guarded segments (answered (next_row image segments types start i)) → Showing (n + 1) f.next
    unfolding stepped_rows
    row_shown f e =
        let q : Some f ≡ next_row image segments types start i = answered_is segments (next_row image segments types start i) (Some f) e in
        let more : left (4096 - n) i ≡ suc (left (4096 - (n + 1)) f.next) = rw (one_left, stepped_rows, ← q) in
        omega arith

    pub rows_ended : answered None ≡ guarded segments (answered (next_row image segments types start i)) → n ≡ rows_shown image segments types start
    unfolding stepped_rows
    rows_ended e =
        let q : None ≡ next_row image segments types start i = answered_is segments (next_row image segments types start i) None e in
        let over : left (4096 - n) i ≡ 0 = rw (one_left, stepped_rows, ← q) in
        omega (arith, shown_whole (next_row image segments types start i) None e)

  -- as many as may be
  pub rows_all : (n i : ℕ) → Showing n i → n ≡ 4096 → Whole → n ≡ rows_shown image segments types start
  unfolding stepped_rows
  rows_all n i g h w =
      let out : 4096 - n ≡ 0 = omega arith in
      let none_left : left (4096 - n) i ≡ 0 = rw out in
      omega (arith, w)

-- `k` steps of a walk over fields are made, and it stands at `at`
module _ (fields : List ℕ) (start k at : ℕ) (s : Step) (e : s ≡ field_step fields start at) (h : k < 4096) where
  step_left : 4096 - k ≡ suc (4096 - (k + 1))
  step_left = omega arith

  pub end_here : s.found ≡ None → walk_end fields start (4096 - k) at ≡ s.next
  unfolding walk_end
  end_here f =
      let g : (field_step fields start at).found ≡ None = sym (ap (λ (x : Step). x.found) e) ∙ f in
      rw (step_left, walk_end, g) (ap (λ (x : Step). x.next) (sym e))

  pub end_further : (d : FieldDescriptor) → s.found ≡ Some d → walk_end fields start (4096 - k) at ≡ walk_end fields start (4096 - (k + 1)) s.next
  unfolding walk_end
  end_further d f =
      let g : (field_step fields start at).found ≡ Some d = sym (ap (λ (x : Step). x.found) e) ∙ f in
      rw (step_left, walk_end, g) (ap (λ (x : Step). walk_end fields start (4096 - (k + 1)) x.next) (sym e))

pub end_over : (fields : List ℕ) (start k at : ℕ) → 4096 ≤ k → at ≡ walk_end fields start (4096 - k) at
unfolding walk_end
end_over fields start k at h = let out : 4096 - k ≡ 0 = omega arith in rw out
