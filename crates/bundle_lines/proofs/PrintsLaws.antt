-- Stepping to the end gives the lines of the definition, and then nothing is left: for every bundle, and for every number of steps from
-- 16,385 on.
use Prim.Native.Nat.{ℕ, zero, suc, ◌+◌, ◌-◌, ◌%◌, ◌^◌, ◌≤◌, ◌<◌}
use Rattle.std.proofs.Common.{add-zero, zero-add, mod-eq_of_lt, arith, sym, ◌∙◌, length-drop, length-take-le}
use Rattle.std.specs.Prelude.{◌≡◌, List, [], ◌∷◌, ◌++◌, map, true, false, length, drop, Option, Some, None}
use Rattle.std.proofs.Math.Path.{refl, ap}
use Rattle.refusal.specs.Refusal.{Guarded, answered, refused}
use Rattle.refusal.specs.Guarded.{any_wrapping, fault}
use Rattle.segment.specs.Segments.{segments_of}
use Rattle.util.specs.Cstr.{place, part_of}
use Rattle.util.specs.CstrLaws.{part_in}
use Rattle.bundle_parts.specs.Parts.{bytes_of, segment_numbers}
use Rattle.bundle_parts.proofs.PartsLaws.{numbers_all}
use Rattle.bundle_parts.specs.Accepted.{accept_bundle}
use Rattle.bundle_parts.proofs.AcceptedLaws.{accepted_is}
use Rattle.bundle_parts.proofs.LayoutLaws.{Fit, opened_fit}
use Rattle.bundle.specs.declared.open.Layout.{Layout}
use Rattle.typedescriptor.specs.Slots.{slots, Found, next_row, rows_from}
use Rattle.typedescriptor.proofs.SlotsLaws.{row_left, none_left, rows_start}
use Rattle.typedescriptor.specs.Slots as Slots
use Rattle.type_lines.specs.Lines.{refused_line, row_line, end_line, lines, Line, line_at, line_step}
use Rattle.bundle_lines.specs.Printed.{printed, lines_most, Pending, rows, refusal, finished, start_of, with_layout, print_step, numbers_for, Taken, taken}

-- ---- one step, and those after it

module _ (s segments : List ℕ) where
  pub taken_none : (n : ℕ) (p : Pending) → print_step s segments p ≡ None → taken n s segments p ≡ record { lines = []; left = p }
  unfolding taken
  taken_none zero p e = refl
  taken_none (suc n) p e = rw (taken, e)

  pub taken_some : (n : ℕ) (p : Pending) (t : Line Pending) → print_step s segments p ≡ Some t
      → taken (suc n) s segments p ≡ record { lines = t.text ∷ (taken n s segments t.next).lines; left = (taken n s segments t.next).left }
  unfolding taken
  taken_some n p t e = rw (taken, e)

  -- a walk that has given some lines has the others left
  pub record Going (first : Pending) (lines : ℕ) (now : Pending) : Type 0 where
    pub few : lines ≤ lines_most
    pub rest : lines + length (taken (lines_most - lines) s segments now).lines ≡ length (taken lines_most s segments first).lines

  pub going_start : (p : Pending) → Going p 0 p
  going_start p = record { few = omega arith; rest = omega arith }

  pub lines_going_on : (p q : Pending) (n : ℕ) (t : Line Pending) → Going p n q → print_step s segments q ≡ Some t → n < lines_most → Going p (n + 1) t.next
  lines_going_on p q n t g e h =
      let more : lines_most - n ≡ suc (lines_most - (n + 1)) = omega arith in
      let one : length (taken (lines_most - n) s segments q).lines ≡ suc (length (taken (lines_most - (n + 1)) s segments t.next).lines) =
      ap (λ (k : ℕ). length (taken k s segments q).lines) more ∙ ap (λ (u : Taken). length u.lines) (taken_some (lines_most - (n + 1)) q t e) in
      record { few = omega arith; rest = omega (arith, g.rest, one) }

  pub going_end : (p q : Pending) (n : ℕ) → Going p n q → print_step s segments q ≡ None → n ≡ length (taken lines_most s segments p).lines
  going_end p q n g e = omega (arith, g.rest, ap (λ (u : Taken). length u.lines) (taken_none (lines_most - n) q e))

  no_lines : (k : ℕ) (p : Pending) → k ≡ 0 → length (taken k s segments p).lines ≡ 0
  unfolding taken
  no_lines k p e = rw e

  pub going_full : (p q : Pending) (n : ℕ) → Going p n q → lines_most ≤ n → n ≡ length (taken lines_most s segments p).lines
  going_full p q n g h =
      let none_more : lines_most - n ≡ 0 = omega arith in
      omega (arith, g.rest, no_lines (lines_most - n) q none_more)

-- ---- the rows

module _ (s segments : List ℕ) (l : Layout) where
  abbrev image : List ℕ
  image = bytes_of s l.image

  abbrev types : List ℕ
  types = bytes_of s l.types.part

  abbrev start : ℕ
  start = l.types.address

  abbrev at : ℕ → ℕ → Pending
  at i g = rows l (record { slot = i; given = g; ended = false })

  abbrev over : ℕ → Pending
  over g = rows l (record { slot = 0; given = g; ended = true })

  over_none : (g : ℕ) → print_step s segments (over g) ≡ None
  unfolding print_step line_step
  over_none g = refl

  step_is : (i g : ℕ) (x : Option Found) → next_row image segments types start i ≡ x → print_step s segments (at i g) ≡ Some (with_layout l (line_at image segments g x))
  unfolding print_step line_step
  step_is i g x e = rw e

  -- the lines of some rows, if `g` rows came before, and then nothing
  abbrev spelled : ℕ → List Found → Taken
  spelled g fs = record { lines = map (λ (f : Found). row_line image segments f.row) fs ++ (end_line (g + length fs) ∷ []); left = over (g + length fs) }

  -- those from slot `i` on
  abbrev below : ℕ → List Found
  below i = rows_from image segments types start (slots types - i) i

  rows_taken : (m n i g : ℕ) → slots types - i ≤ m → m < n → g + m < 2 ^ 64 → taken n s segments (at i g) ≡ spelled g (below i)
  rows_taken m zero i g e h b = absurd (omega arith)
  rows_taken m (suc n) i g e h b = by (next_row image segments types start i) refl (λ k j f a. rows_taken k n j (suc g) f a)
    where
      by : (x : Option Found) → next_row image segments types start i ≡ x
          → ((k j : ℕ) → slots types - j ≤ k → k < n → suc g + k < 2 ^ 64 → taken n s segments (at j (suc g)) ≡ spelled (suc g) (below j))
          → taken (suc n) s segments (at i g) ≡ spelled g (below i)
      by None f ih =
          taken_some s segments n (at i g) _ (step_is i g None f)
          ∙ ap (λ (t : Taken). record { lines = end_line g ∷ t.lines; left = t.left }) (taken_none s segments n (over g) (over_none g))
          ∙ rw (none_left image segments types start i (sym f), add-zero)
      by (Some f) q ih =
          let w = row_left image segments types start i f (sym q) in
          let fs : List Found = below f.next in
          let count : (g + 1) % 2 ^ 64 ≡ suc g = mod-eq_of_lt (omega (arith, w.1, w.2)) ∙ omega arith in
          let more : suc g + length fs ≡ g + suc (length fs) = omega arith in
          taken_some s segments n (at i g) _ (step_is i g (Some f) q)
          ∙ ap (λ (k : ℕ). record { lines = row_line image segments f.row ∷ (taken n s segments (at f.next k)).lines; left = (taken n s segments (at f.next k)).left }) count
          ∙ ap (λ (t : Taken). record { lines = row_line image segments f.row ∷ t.lines; left = t.left }) (ih (slots types - f.next) f.next (omega arith) (omega (arith, w.1, w.2)) (omega (arith, w.1, w.2)))
          ∙ ap (λ (k : ℕ). record { lines = row_line image segments f.row ∷ (map (λ (x : Found). row_line image segments x.row) fs ++ (end_line k ∷ [])); left = over k }) more
          ∙ ap (spelled g) (sym w.0)

-- ---- the whole bundle

part_length : (s : List ℕ) (o n : ℕ) → o + n ≤ length s → length (part_of s (place o n)) ≡ n
part_length s o n h = ap length (part_in s o n h) ∙ length-take-le n (drop o s) (simp length-drop (omega arith))

-- the lines are those of the definition, and the next step gives none
abbrev Prints : List ℕ → ℕ → Pending → List (List ℕ) → Type 0
Prints s n p ls = ((taken n s (numbers_for s p) p).lines ≡ ls) × (print_step s (numbers_for s p) (taken n s (numbers_for s p) p).left ≡ None)

refused_prints : (s : List ℕ) (r n : ℕ) → 0 < n → Prints s n (refusal r) (refused_line r ∷ [])
unfolding print_step
refused_prints s r zero h = absurd (omega arith)
refused_prints s r (suc n) h =
    let t = taken_some s [] n (refusal r) _ refl ∙ ap (λ (u : Taken). record { lines = refused_line r ∷ u.lines; left = u.left }) (taken_none s [] n finished refl) in
    (ap (λ (u : Taken). u.lines) t, ap (λ (u : Taken). print_step s [] u.left) t)

bundle_prints : (s : List ℕ) (l : Layout) (n : ℕ) → Fit s l → lines_most ≤ n
    → Prints s n (at s [] l 0 0) (lines (bytes_of s l.image) (segment_numbers s l) (bytes_of s l.types.part) l.types.address)
unfolding lines
bundle_prints s l n f h =
    let few : slots (bytes_of s l.types.part) ≤ 16384 =
    omega (arith, part_length s l.types.part.start l.types.part.size f.types, f.types, f.short) in
    let ns : List ℕ = segment_numbers s l in
    let all : Slots.rows (bytes_of s l.image) ns (bytes_of s l.types.part) l.types.address ≡ below s ns l 0 = rows_start (bytes_of s l.image) ns (bytes_of s l.types.part) l.types.address in
    let t : taken n s ns (at s ns l 0 0) ≡ spelled s ns l 0 (below s ns l 0) = rows_taken s ns l 16384 n 0 0 (omega arith) (omega arith) (omega arith) in
    let u : taken n s ns (at s ns l 0 0) ≡ spelled s ns l 0 (Slots.rows (bytes_of s l.image) ns (bytes_of s l.types.part) l.types.address) = t ∙ ap (spelled s ns l 0) (sym all) in
    rw (numbers_all s l f) (ap (λ (u : Taken). u.lines) u ∙ rw zero-add, ap (λ (u : Taken). print_step s ns u.left) u ∙ over_none s ns l _)

-- for every bundle, the steps give what is printed, and then nothing is left
pub prints : (s : List ℕ) (n : ℕ) → lines_most ≤ n → Prints s n (start_of (accept_bundle s)) (printed s)
unfolding printed
prints s n h = go (accept_bundle s) refl
  where
    go : (a : Guarded Layout) → accept_bundle s ≡ a
        → Prints s n (start_of a)
        (elim a as (λ _. List (List ℕ)) [
          | answered l ↦ lines (bytes_of s l.image) (segment_numbers s l) (bytes_of s l.types.part) l.types.address
          | refused r ↦ refused_line r ∷ []
        ])
    go (refused r) e = refused_prints s r n (omega arith)
    go (answered l) e = bundle_prints s l n (opened_fit s l (accepted_is s l e).opens) h

-- ---- the program's call of the steps

module _ (s : List ℕ) (p : Pending) where
  -- the segments' numbers are accepted
  pub numbers_accepted : p ≡ start_of (accept_bundle s) → None ≡ fault (numbers_for s p)
  unfolding fault any_wrapping segments_of
  numbers_accepted e = rw e (go (accept_bundle s) refl)
    where
      go : (a : Guarded Layout) → accept_bundle s ≡ a → None ≡ fault (numbers_for s (start_of a))
      go (answered l) e = let a = accepted_is s l e in a.accepted ∙ ap fault (sym (numbers_all s l (opened_fit s l a.opens)))
      go (refused n) e = refl

  -- as many lines as the bundle has
  pub all_lines : (segments : List ℕ) (n : ℕ) → p ≡ start_of (accept_bundle s) → segments ≡ numbers_for s p → n ≡ length (taken lines_most s segments p).lines → n ≡ length (printed s)
  all_lines segments n e es en =
      en
      ∙ ap (λ (l : List ℕ). length (taken lines_most s l p).lines) es
      ∙ ap (λ (q : Pending). length (taken lines_most s (numbers_for s q) q).lines) e
      ∙ ap length (prints s lines_most (omega arith)).0
