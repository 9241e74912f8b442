-- A step of the printer, for each case of what is left to print.
use Rattle.std.specs.Prelude.{ℕ, ◌≡◌, refl, List, Bool, true, false, cond, length, take, Option, Some, None, option_map}
use Rattle.std.proofs.Math.Nat.{zero-add}
use Rattle.std.proofs.Common.{arith, sym, ◌∙◌, length-take}
use Rattle.std.proofs.Math.Path.{ap}
use Rattle.refusal.specs.Refusal.{Guarded, answered, refused, mapped}
use Rattle.util.specs.Buffer.{Put, at_start, overwritten}
use Rattle.util.specs.Cstr.{place, part_of}
use Rattle.util.specs.CstrLaws.{part_in}
use Rattle.typedescriptor.specs.Slots.{Found, next_row}
use Rattle.bundle_parts.specs.Parts.{bytes_of, listed_numbers}
use Rattle.bundle.specs.declared.open.Layout.{Layout}
use Rattle.refusal.specs.Guarded.{guarded}
use Rattle.refusal.proofs.GuardedLaws.{mapped_guarded}
use Rattle.type_lines.specs.Lines.{refused_line, Line, line, line_text, line_at, line_step}
use Rattle.type_lines.proofs.LinesLaws.{Given, line_put}
use Rattle.bundle_lines.specs.Printed.{Pending, rows, refusal, finished, with_layout, print_step, numbers_for}
use Rattle.type_lines.specs.declared.lines.LineIter.{LineIter}

-- the numbers for the rows are those of the bundle's segments
pub numbers_as : (s : List ℕ) (l : Layout) (c : LineIter) (p : Pending) (r : ℕ) (list list' : List ℕ) → rows l c ≡ p → r ≡ length (listed_numbers s l) → list' ≡ at_start (listed_numbers s l) list
    → (r ≡ length (numbers_for s p)) × (list' ≡ at_start (numbers_for s p) list)
numbers_as s l c p r list list' e er el = (er ∙ ap (λ (q : Pending). length (numbers_for s q)) e, el ∙ ap (λ (q : Pending). at_start (numbers_for s q) list) e)

-- a line of the rows is one of the printer
module _ (s segments : List ℕ) (l : Layout) (c : LineIter) (b : List ℕ) where
  -- with the same text
  text_kept : (g : Guarded (Option (Line LineIter))) → line_text g ≡ line_text (mapped (option_map (with_layout l)) g)
  text_kept (answered None) = refl
  text_kept (answered (Some x)) = refl
  text_kept (refused n) = refl

  module _ (image types : List ℕ) (ei : image ≡ bytes_of s l.image) (et : types ≡ bytes_of s l.types.part) where
    pub rows_print : (b' : List ℕ) (x : Guarded (Option (Line LineIter))) → Given (guarded segments (answered (line_step image segments types l.types.address c))) b b' x
        → Given (guarded segments (answered (print_step s segments (rows l c)))) b b' (mapped (option_map (with_layout l)) x)
    unfolding print_step
    rows_print b' x e =
        let g : Guarded (Option (Line LineIter)) = guarded segments (answered (line_step image segments types l.types.address c)) in
        let same : mapped (option_map (with_layout l)) g ≡ guarded segments (answered (print_step s segments (rows l c))) = rw (ei, et) (mapped_guarded segments _ (option_map (with_layout l))) in
        (ap (mapped (option_map (with_layout l))) e.0 ∙ same, e.1 ∙ ap (overwritten b) (text_kept g ∙ ap line_text same))

-- a step that needs no row
module _ (s segments : List ℕ) (p : Pending) (b : List ℕ) where
  pub print_done : finished ≡ p → Given (answered (print_step s segments p)) b b (answered None)
  unfolding print_step
  print_done e = rw (← e) (refl, refl)

  pub print_refusal : (n r : ℕ) (b' : List ℕ) → refusal n ≡ p → Put b 0 (refused_line n) r b'
      → Given (answered (print_step s segments p)) b b' (answered (Some (record { text = take r b'; size = r; next = finished })))
  unfolding print_step
  print_refusal n r b' e u =
      let q = line_put b (refused_line n) b' r u in
      let long = u.ends ∙ zero-add _ in
      rw (← e) (λ i. answered (Some (record { text = q.0 i; size = long i; next = finished })), q.1)

pub print_as : (s segments : List ℕ) (p q : Pending) (x : Guarded (Option (Line Pending))) (b b' : List ℕ) → q ≡ p
    → Given (guarded segments (answered (print_step s segments q))) b b' x → Given (guarded segments (answered (print_step s segments p))) b b' x
print_as s segments p q x b b' e f = rw e at f

-- a line's length is its text's
pub step_size : (s segments : List ℕ) (p : Pending) (t : Line Pending) → print_step s segments p ≡ Some t → t.size ≡ length t.text
unfolding print_step line_step
step_size s segments (rows l c) t e = go c.ended (next_row (bytes_of s l.image) segments (bytes_of s l.types.part) l.types.address c.slot) e
  where
    go : (b : Bool) (x : Option Found) → option_map (with_layout l) (cond b None (Some (line_at (bytes_of s l.image) segments c.given x))) ≡ Some t → t.size ≡ length t.text
    go true x f = let z : ◌≡◌ {A = ℕ} 0 1 = cc in absurd (omega arith)
    go false None f = let q : with_layout l (line_at (bytes_of s l.image) segments c.given None) ≡ t = cc in rw (← q)
    go false (Some r) f = let q : with_layout l (line_at (bytes_of s l.image) segments c.given (Some r)) ≡ t = cc in rw (← q)
step_size s segments (refusal n) t e = let q : line (refused_line n) finished ≡ t = cc in rw (← q)
step_size s segments finished t e = let z : ◌≡◌ {A = ℕ} 0 1 = cc in absurd (omega arith)

-- so the part of the buffer that an answer is about is the text
pub step_part : (s segments : List ℕ) (p q : Pending) (b text : List ℕ) (n : ℕ) → Some (record { text = take n b; size = n; next = q }) ≡ print_step s segments p → text ≡ part_of b (place 0 n)
    → line_text (answered (print_step s segments p)) ≡ Some text
step_part s segments p q b text n e et =
    let long : n ≡ length (take n b) = step_size s segments p _ (sym e) in
    ap (λ (x : Option (Line Pending)). line_text (answered x)) (sym e) ∙ ap Some (sym (et ∙ part_in b 0 n (omega (arith, length-take n b))))
