-- What the code finds of a table is `tableFrom`: where an entry lies (`no_place`, `a-place`), its numbers in the list (`set-put`,
-- `set_more`), the entries of a run (`Ran`), and run after run (`Going`, for any numbers of an entry: `tableBy`). The table is the entries
-- that stepping gives, as numbers (`table-listed`); its counts do not depend on those numbers (`same-counts`).
use Rattle.std.specs.Prelude.{◌≡◌, ℕ, zero, suc, ◌+◌, ◌-◌, ◌*◌, ◌/◌, ◌%◌, ◌^◌, ◌<◌, ◌≤◌, min, List, [], ◌∷◌, ◌++◌, length, replicate, take, drop, ◌≢◌, slice_set, Option, Some, None, Result, Ok, Err, ⊤}
use Rattle.std.proofs.Common.{mul-le-mul_left, mul-zero, mul-suc, mul-add, mod-eq_of_lt, le_antisymm, le_trans, div-le_self, zero-add, add-one, subst, ◌∙◌, append_assoc, append-nil, length-append, take-append-drop, take_at, drop_at, drop-drop, length-take-le, le-leb, lt-ltb, le-ltb}
use Rattle.std.proofs.Math.Nat.{mul-div-le, div-eq_of_lt, div-eq-sub-div}
use Rattle.std.proofs.Math.Decide.{dec_le, dec_lt}
use native.Mathlib.Omega.{arith}
use Rattle.std.proofs.Math.Path.{refl, sym, ap}
use Rattle.std.proofs.lemmas.List.{set_split, length-replicate}
use Rattle.std.proofs.lemmas.Bool.{lt-leb}
use Rattle.util.specs.LittleEndian.{signed_in}
use Rattle.util.specs.Pointer.{relative_address}
use Rattle.util.specs.Buffer.{pasted, at_start, overwritten, Put}
use Rattle.util.proofs.BufferLaws.{put_none, put_then, put_length}
use Rattle.segment.specs.Segments.{segments_of, file_offset}
use Rattle.segment.specs.Mapping.{Located, Has}
use Rattle.segment.specs.declared.segment.Mapping.{Mapping}
use Rattle.refusal.specs.Refusal.{Guarded, answered, refused, mapped, answer_of}
use Rattle.refusal.specs.declared.Refusal.{Refusal}
use Rattle.refusal.specs.Guarded.{fault, fault_of, guarded}
use Rattle.refusal.proofs.GuardedLaws.{refused_list, accepted_list}
use Rattle.runtime.specs.Reads.{bytes_place, run}
use Rattle.runtime.proofs.CallsLaws.{bytes_at_lem, bytes_past, bytes_nowhere, bytes_within}
use Rattle.vtable.specs.Entries.{Layout, Entry, entry_size, entry_of, entry_address, entry_at, Step, entry_step, word_at, words_from}
use Rattle.vtable.proofs.EntriesLaws.{step_end, step_gives}
use Rattle.vtable.specs.Listed.{listed_entries}
use Rattle.vtable.proofs.ListLaws.{iter_at}
use Rattle.vtable.specs.declared.iter.EntryIter.{EntryIter}
use Rattle.vtable.specs.declared.entry.TableEntry.{TableEntry}
use Rattle.vtable.specs.declared.shape.Shape.{Shape}
use Rattle.vtable.specs.declared.shape.Word.{Word}
use Rattle.vtable.specs.declared.shape.Word.TheVariants.{Number as number, Pointer as pointer}
use Rattle.entry_tables.specs.declared.list.Listed.{Listed}
use Rattle.entry_tables.specs.declared.list.Stop.{Stop}
use Rattle.entry_tables.specs.declared.window.Window.{Window}
use Rattle.entry_tables.specs.Tables.{entry_numbers, WholeTable, Counts, empty_table, stop_number, stop_at, entry_then, table_by, table_from, table_in, width, counts, table_numbers, table_answer, buffer_with, GivesTable, shape_layout, entry_place, Opens, words_in, run_numbers, PutRun, Lists}

-- ---- where an entry lies

module _ (image segments : List ℕ) (size a : ℕ) where
  pub place_wraps : 2 ^ 64 ≤ a + (size - 4) → None ≡ entry_place image segments size a
  unfolding entry_place
  place_wraps w = simp (le-leb (2 ^ 64) (a + (size - 4)) w)

  pub place_as : (x : Option ℕ) → a + (size - 4) < 2 ^ 64 → x ≡ bytes_place image segments a size → x ≡ entry_place image segments size a
  unfolding entry_place
  place_as x w e = simp (lt-leb (2 ^ 64) (a + (size - 4)) w) e

  pub place_in : (o : ℕ) → Some o ≡ entry_place image segments size a → (a + (size - 4) < 2 ^ 64) × (o + size ≤ length image)
  unfolding entry_place
  place_in o e = go (dec_le (2 ^ 64) (a + (size - 4)))
    where
      go : Dec (2 ^ 64 ≤ a + (size - 4)) → (a + (size - 4) < 2 ^ 64) × (o + size ≤ length image)
      go (yes w) =
          let f : ◌≡◌ {A = Option ℕ} (Some o) None = simp (le-leb (2 ^ 64) (a + (size - 4)) w) at e in
          let z : ◌≡◌ {A = ℕ} 0 1 = cc in
          absurd (omega arith)
      go (no w) = (omega arith, bytes_within image segments a size o (simp (lt-leb (2 ^ 64) (a + (size - 4)) (omega arith)) at e))

-- how far entries reach: in a mapping, in the image, below 2^64
lesser : (x a b : ℕ) → x ≡ min a b → (x ≤ a) × (x ≤ b)
lesser x a b e = (omega arith, omega arith)

on_mapping : (n entry_then last : ℕ) → entry_then < n → last ≤ n - entry_then - 1 → last < n - entry_then
on_mapping n entry_then last h l = omega arith

on_image : (n from entry_then size last : ℕ) → from ≤ n → entry_then ≤ n - from → size ≤ n - (from + entry_then) → last ≤ n - (from + entry_then) - size → from + entry_then + last + size ≤ n
on_image n from entry_then size last f b s l = omega arith

on_words : (a size last : ℕ) → a + (size - 4) < 2 ^ 64 → last ≤ 18446744073709551615 - (size - 4) - a → a + last + (size - 4) < 2 ^ 64
on_words a size last w l = omega arith

module _ (image segments : List ℕ) (size a : ℕ) (w : a + (size - 4) < 2 ^ 64) where
  pub opens_one : (o : ℕ) → Some o ≡ bytes_place image segments a size → Opens image segments size a (Some (record { place = o; last = 0 }))
  opens_one o e i h =
      let eo : o + i ≡ o = omega arith in
      let ea : a + i ≡ a = omega arith in
      rw (eo, ea) (place_as image segments size a (Some o) w e)

  pub opens_none : None ≡ bytes_place image segments a size → Opens image segments size a None
  opens_none e = place_as image segments size a None w e

  pub opens_nowhere : Located segments a None → Opens image segments size a None
  opens_nowhere f = opens_none (bytes_nowhere image segments a size f)

  module _ (m : Mapping) (f : Located segments a (Some m)) where
    pub opens_past : length image < m.fileoff + (a - m.vmaddr) + size → Opens image segments size a None
    opens_past h = opens_none (bytes_past image segments a size _ (sym (f.2.offset a f.1)) h)

    abbrev past : ℕ
    past = a - m.vmaddr

    opens_all : (u last : ℕ) → m.fileoff ≤ length image → past ≤ length image - m.fileoff → size ≤ length image - (m.fileoff + past)
        → (u ≤ length image - (m.fileoff + past) - size) × (u ≤ 18446744073709551615 - (size - 4) - a) → (last ≤ m.size - past - 1) × (last ≤ u)
        → Opens image segments size a (Some (record { place = m.fileoff + past; last = last }))
    opens_all u last hf hp hs hu hl i h =
        let reach : last < m.size - past = on_mapping m.size past last (omega (arith, f.1.from, f.1.to)) hl.0 in
        let inside = on_image (length image) m.fileoff past size last hf hp hs (le_trans hl.1 hu.0) in
        let below = on_words a size last w (le_trans hl.1 hu.1) in
        let has : Has m (a + i) = record { from = omega (arith, f.1.from); to = omega (arith, f.1.from, f.1.to) } in
        let far : m.fileoff + (a + i - m.vmaddr) ≡ m.fileoff + past + i = omega (arith, f.1.from) in
        let e : file_offset (segments_of segments) (a + i) ≡ Some (m.fileoff + past + i) = f.2.offset (a + i) has ∙ ap Some far in
        place_as image segments size (a + i) (Some (m.fileoff + past + i)) (omega (arith, below)) (bytes_at_lem image segments (a + i) size (m.fileoff + past + i) (sym e) (omega (arith, inside)))

    pub opens_least : (u last : ℕ) → m.fileoff ≤ length image → past ≤ length image - m.fileoff → size ≤ length image - (m.fileoff + past)
        → u ≡ min (length image - (m.fileoff + past) - size) (18446744073709551615 - (size - 4) - a) → last ≡ min (m.size - past - 1) u
        → Opens image segments size a (Some (record { place = m.fileoff + past; last = last }))
    opens_least u last hf hp hs eu el = opens_all u last hf hp hs (lesser u _ _ eu) (lesser last _ _ el)

-- the same answer by another name, and at an address by another name
pub opens_same : (image segments : List ℕ) (size a : ℕ) (x y : Option Window) → x ≡ y → Opens image segments size a y → Opens image segments size a x
opens_same image segments size a x y e h = subst (Opens image segments size a) (sym e) h

pub opens_as : (image segments : List ℕ) {size n a b : ℕ} → size ≡ n → a ≡ b → (x : Option Window) → Opens image segments size a x → Opens image segments n b x
opens_as image segments {size} {n} {a} {b} es e x h = subst (λ (s : ℕ). Opens image segments s b x) es (subst (λ (k : ℕ). Opens image segments size k x) e h)

module _ (image segments : List ℕ) (size a o last : ℕ) (w : Opens image segments size a (Some (record { place = o; last = last }))) where
  pub opens_here : Some o ≡ entry_place image segments size a
  opens_here =
      let eo : o + 0 ≡ o = omega arith in
      let ea : a + 0 ≡ a = omega arith in
      rw (eo, ea) at (w 0 (omega arith))

  pub opens_last : (a + last + (size - 4) < 2 ^ 64) × (o + last + size ≤ length image)
  opens_last = place_in image segments size (a + last) (o + last) (w last (omega arith))

module _ (image segments : List ℕ) (l : Layout) (base k : ℕ) where
  pub no_place : None ≡ entry_place image segments (entry_size l) (entry_address l base k) → None ≡ run image segments (entry_at l base k)
  unfolding entry_place entry_at run
  no_place e = go (dec_le (2 ^ 64) (entry_address l base k + (entry_size l - 4)))
    where
      go : Dec (2 ^ 64 ≤ entry_address l base k + (entry_size l - 4)) → None ≡ run image segments (entry_at l base k)
      go (yes w) = simp (le-leb (2 ^ 64) (entry_address l base k + (entry_size l - 4)) w)
      go (no w) =
          let f = simp (lt-leb (2 ^ 64) (entry_address l base k + (entry_size l - 4)) (omega arith)) at e in
          simp (lt-leb (2 ^ 64) (entry_address l base k + (entry_size l - 4)) (omega arith)) (rw (← f))

  pub a_place : (o : ℕ) → Some o ≡ entry_place image segments (entry_size l) (entry_address l base k)
      → Some (entry_of l (entry_address l base k) (take (entry_size l) (drop o image))) ≡ run image segments (entry_at l base k)
  unfolding entry_place entry_at run
  a_place o e =
      let w = (place_in image segments (entry_size l) (entry_address l base k) o e).0 in
      let f = simp (lt-leb (2 ^ 64) (entry_address l base k + (entry_size l - 4)) w) at e in
      simp (lt-leb (2 ^ 64) (entry_address l base k + (entry_size l - 4)) w) (rw (← f))

-- ---- its shape

module _ (s : Shape) (stride : ℕ) where
  shape_size : entry_size (shape_layout s stride) ≡ 4 + 4 * s.more
  shape_size = omega (arith, length-replicate s.more pointer)

  shape_width : width (shape_layout s stride) ≡ 2 + s.more
  shape_width = omega (arith, length-replicate s.more pointer)

-- a shape by its first word and a number: one word, and up to two pointers more
abbrev pub shape : Word → ℕ → ℕ → Layout
shape f zero stride = record { words = f ∷ []; stride = stride }
shape f (suc zero) stride = record { words = f ∷ pointer ∷ []; stride = stride }
shape f (suc (suc n)) stride = record { words = f ∷ pointer ∷ pointer ∷ []; stride = stride }

shape_by : (f : Word) (more stride : ℕ) → more ≤ 2 → shape f more stride ≡ record { words = f ∷ replicate more pointer; stride = stride }
shape_by f zero stride h = refl
shape_by f (suc zero) stride h = refl
shape_by f (suc (suc zero)) stride h = refl
shape_by f (suc (suc (suc n))) stride h = absurd (omega arith)

-- so is each `Shape`, which has two at most
pub shape_is : (s : Shape) (stride : ℕ) → s.more ≤ 2 → shape s.first s.more stride ≡ shape_layout s stride
shape_is s stride h = shape_by s.first s.more stride h

-- more than two pointers count as two
shape_least : (f : Word) (more stride : ℕ) → shape f (min more 2) stride ≡ shape f more stride
shape_least f zero stride = refl
shape_least f (suc zero) stride = refl
shape_least f (suc (suc n)) stride = let two : min (suc (suc n)) 2 ≡ 2 = omega arith in ap (λ (j : ℕ). shape f j stride) two

words_long : (ws : List Word) (a o : ℕ) (h : List ℕ) → length (words_from ws a o h) ≡ length ws
words_long [] a o h = refl
words_long (w ∷ ws) a o h = ap suc (words_long ws a (o + 4) h)

-- the last word of an entry lies below 2^64, and so does that of an entry further on
pub below_word : (a x more last : ℕ) → a ≡ x % 2 ^ 64 → x + last + (4 + 4 * more - 4) < 2 ^ 64 → a + last + 4 * more < 2 ^ 64
below_word a x more last e h =
    let f : a ≡ x = e ∙ mod-eq_of_lt (omega arith) in
    omega arith

-- what an entry's words say
pub numbered_word : (f : Word) (a x : ℕ) (h : List ℕ) → f ≡ number → x ≡ word_at number a 0 h → x ≡ word_at f a 0 h
numbered_word f a x h t e = rw t e

pub pointer_word : (f : Word) (a x : ℕ) (h : List ℕ) → f ≡ pointer → x ≡ relative_address a (signed_in 4 h 0) → x ≡ word_at f a 0 h
pointer_word f a x h t e = rw t (e ∙ ap (λ (n : ℕ). relative_address n (signed_in 4 h 0)) (omega arith))

-- a pointer's own address, which lies below 2^64
later_word : (a o s x : ℕ) (h : List ℕ) → a + o < 2 ^ 64 → s ≡ (a + o) % 2 ^ 64 → x ≡ relative_address s (signed_in 4 h o) → x ≡ relative_address (a + o) (signed_in 4 h o)
later_word a o s x h l es e = e ∙ ap (λ (n : ℕ). relative_address n (signed_in 4 h o)) (es ∙ mod-eq_of_lt l)

pub words_are : (f : Word) (more a s t : ℕ) (h : List ℕ) (w : TableEntry) → more ≤ 2 → a + 4 * more < 2 ^ 64 → s ≡ (a + 4) % 2 ^ 64 → t ≡ (a + 8) % 2 ^ 64
    → w.first ≡ word_at f a 0 h → w.second ≡ relative_address s (signed_in 4 h 4) → w.third ≡ relative_address t (signed_in 4 h 8)
    → words_in more w ≡ words_from (shape f more 0).words a 0 h
words_are f zero a s t h w m l es et e1 e2 e3 = ap (λ (x : ℕ). x ∷ []) e1
words_are f (suc zero) a s t h w m l es et e1 e2 e3 = cc (e1, later_word a 4 s _ h (omega arith) es e2)
words_are f (suc (suc n)) a s t h w m l es et e1 e2 e3 = cc (e1, later_word a 4 s _ h (omega arith) es e2, later_word a 8 t _ h (omega arith) et e3)

-- ---- its numbers in the list

pub set_put : (b : List ℕ) (at x : ℕ) → at < length b → Put b at (x ∷ []) (at + 1) (slice_set b at x)
set_put b at x h = record { ends = refl; holds = set_split b at x h ∙ ap (λ (n : ℕ). take at b ++ (x ∷ drop n b)) (sym (add-one at)) }

pub set_more : (b p b' : List ℕ) (at n x : ℕ) → Put b at p (at + n) b' → length p ≡ n → at + n < length b → Put b at (p ++ (x ∷ [])) (at + (n + 1)) (slice_set b' (at + n) x)
set_more b p b' at n x u e h =
    let same : length b' ≡ length b = put_length b p b' at (at + n) u (omega arith) in
    let next : at + (n + 1) ≡ at + n + 1 = omega arith in
    rw next (put_then b p (x ∷ []) b' _ at (at + n) (at + n + 1) u (set_put b' (at + n) x (omega arith)) (omega arith))

module _ (b : List ℕ) (at : ℕ) (w : TableEntry) where
  one : at + 2 ≤ length b → Put b at (w.address ∷ (w.first ∷ [])) (at + 2) (slice_set (slice_set b at w.address) (at + 1) w.first)
  one h = set_more b (w.address ∷ []) _ at 1 w.first (set_put b at w.address (omega arith)) refl (omega arith)

  two : at + 3 ≤ length b → Put b at (w.address ∷ (w.first ∷ (w.second ∷ []))) (at + 3) (slice_set (slice_set (slice_set b at w.address) (at + 1) w.first) (at + 2) w.second)
  two h = set_more b (w.address ∷ (w.first ∷ [])) _ at 2 w.second (one (omega arith)) refl (omega arith)

  three : at + 4 ≤ length b
      → Put b at (w.address ∷ (w.first ∷ (w.second ∷ (w.third ∷ [])))) (at + 4) (slice_set (slice_set (slice_set (slice_set b at w.address) (at + 1) w.first) (at + 2) w.second) (at + 3) w.third)
  three h = set_more b (w.address ∷ (w.first ∷ (w.second ∷ []))) _ at 3 w.third (two (omega arith)) refl (omega arith)

  module _ (more : ℕ) (h : at + (2 + more) ≤ length b) where
    pub put_one : more ≡ 0 → slice_set (slice_set b at w.address) (at + 1) w.first ≡ pasted b at (w.address ∷ words_in more w)
    put_one e = rw e (one (omega arith)).holds

    pub put_two : more ≡ 1 → slice_set (slice_set (slice_set b at w.address) (at + 1) w.first) (at + 2) w.second ≡ pasted b at (w.address ∷ words_in more w)
    put_two e = rw e (two (omega arith)).holds

    pub put_three : more ≡ 2 → slice_set (slice_set (slice_set (slice_set b at w.address) (at + 1) w.first) (at + 2) w.second) (at + 3) w.third ≡ pasted b at (w.address ∷ words_in more w)
    put_three e = rw e (three (omega arith)).holds

-- an entry's numbers are those of its words
pub put_words : (b b' bytes s : List ℕ) (at a more n o : ℕ) (f : Word) (w : TableEntry) → b' ≡ pasted b at (a ∷ words_in more w)
    → words_in more w ≡ words_from (shape f more 0).words a 0 bytes → bytes ≡ take (o + n - o) (drop o s)
    → b' ≡ pasted b at (entry_numbers (entry_of (shape f more 0) a (take n (drop o s))))
put_words b b' bytes s at a more n o f w eb ew ep =
    let len : o + n - o ≡ n = omega arith in
    eb ∙ ap (λ (x : List ℕ). pasted b at (a ∷ x)) (ew ∙ ap (words_from (shape f more 0).words a 0) (ep ∙ ap (λ (j : ℕ). take j (drop o s)) len))

-- ---- the entries of a run

run_length : (image : List ℕ) (l : Layout) (o a n : ℕ) → length (run_numbers image l o a n) ≡ width l * n
run_length image l o a zero = sym (mul-zero (width l))
run_length image l o a (suc n) =
    length-append (run_numbers image l o a n) _ ∙ omega (arith, run_length image l o a n, mul-suc (width l) n, words_long l.words (a + l.stride * n) 0 (take (entry_size l) (drop (o + l.stride * n) image)))

module _ (image : List ℕ) (s : Shape) (stride o last a most : ℕ) (b₀ : List ℕ) (at : ℕ) where
  abbrev run_shape : Layout
  run_shape = shape_layout s stride

  -- `n` entries are put
  pub record Ran (n : ℕ) (b : List ℕ) : Type 0 where
    pub few : n ≤ most
    pub within : (i : ℕ) → i < n → stride * i ≤ last
    pub long : length b ≡ length b₀
    pub put : Put b₀ at (run_numbers image run_shape o a n) (at + (2 + s.more) * n) b

  pub ran_none : Ran 0 b₀
  ran_none =
      let z : at + (2 + s.more) * 0 ≡ at = omega (arith, mul-zero (2 + s.more)) in
      record { few = omega arith; within = λ i h. absurd (omega arith); long = refl; put = rw z (put_none b₀ at) }

  module _ (room : at + (2 + s.more) * most ≤ length b₀) (n : ℕ) (b : List ℕ) (g : Ran n b) where
    so_long : length (run_numbers image run_shape o a n) ≡ (2 + s.more) * n
    so_long = omega (arith, g.put.ends)

    inside : at + length (run_numbers image run_shape o a n) ≤ length b₀
    inside = omega (arith, so_long, mul-le-mul_left (2 + s.more) g.few)

    -- one more fits
    pub run_fits : n < most → at + (2 + s.more) * n + (2 + s.more) ≤ length b
    run_fits h =
        let next : (2 + s.more) * suc n ≤ (2 + s.more) * most = mul-le-mul_left (2 + s.more) h in
        omega (arith, next, mul-suc (2 + s.more) n, g.long)

    pub ran_on : (past : ℕ) (b' : List ℕ) → n < most → past ≡ stride * n → past ≤ last
        → b' ≡ pasted b (at + (2 + s.more) * n) (entry_numbers (entry_of (shape_layout s 0) (a + past) (take (4 + 4 * s.more) (drop (o + past) image)))) → Ran (n + 1) b'
    ran_on past b' h e near eb =
        let x : List ℕ = entry_numbers (entry_of run_shape (a + run_shape.stride * n) (take (entry_size run_shape) (drop (o + run_shape.stride * n) image))) in
        let far : run_shape.stride * n ≡ past = sym e in
        let same : b' ≡ pasted b (at + (2 + s.more) * n) x = eb ∙ rw (far, shape_size s stride) in
        let wide : length x ≡ 2 + s.more = ap suc (words_long run_shape.words _ 0 _) ∙ shape_width s stride in
        let next : at + (2 + s.more) * suc n ≡ at + (2 + s.more) * n + length x = omega (arith, wide, mul-suc (2 + s.more) n) in
        let put : Put b₀ at (run_numbers image run_shape o a n ++ x) (at + (2 + s.more) * suc n) b' =
        put_then b₀ (run_numbers image run_shape o a n) x b b' at (at + (2 + s.more) * n) _ g.put (record { ends = next; holds = same }) inside in
        record {
          few = omega arith;
          within = λ i l. elim (dec_lt i n) [ yes k ↦ g.within i k | no k ↦ let same-i : i ≡ n = omega arith in omega (arith, ap (λ (j : ℕ). stride * j) same-i) ];
          long = put_length b x b' (at + (2 + s.more) * n) _ (record { ends = next; holds = same }) (omega (arith, wide, run_fits h)) ∙ g.long;
          put = rw (add-one n) put;
        }

    pub far_on : (past : ℕ) → past ≡ stride * n → past + stride ≡ stride * (n + 1)
    far_on past e = omega (arith, e, ap (λ (j : ℕ). stride * j) (add-one n), mul-suc stride n)

    pub ran_puts : (0 < most → 0 < n) → PutRun image run_shape o last a most b₀ at n b
    ran_puts any = record { few = g.few; any = any; within = g.within; holds = g.put.holds }

    -- as many as there may be
    pub ran_all : most ≤ n → PutRun image run_shape o last a most b₀ at most b
    ran_all l =
        let e : n ≡ most = omega (arith, g.few) in
        subst (λ (k : ℕ). PutRun image run_shape o last a most b₀ at k b) e (ran_puts (λ h. omega arith))

-- ---- run after run

-- why a list without room for an entry ends
pub stop_full : (k count : ℕ) → k < count → 1 ≡ stop_at k count
stop_full k count h = simp (lt-ltb k count h)

pub stop_ended : (k count : ℕ) → count ≤ k → 0 ≡ stop_at k count
stop_ended k count h = simp (le-ltb k count h)

-- for any numbers of an entry
module _ (say : Entry → List ℕ) (image segments : List ℕ) (l : Layout) (base count : ℕ) where
  abbrev left : ℕ → ℕ → WholeTable
  left n k = table_by say image segments l n (iter_at base count k)

  from_end : (n k : ℕ) → count ≤ k → left n k ≡ empty_table 0
  unfolding table_by
  from_end zero k h = ap empty_table (sym (stop_ended k count h))
  from_end (suc n) k h = rw (table_by, sym (step_end image segments l (iter_at base count k) h))

  from_full : (k : ℕ) → k < count → left 0 k ≡ empty_table 1
  unfolding table_by
  from_full k h = ap empty_table (sym (stop_full k count h))

  from_none : (n k : ℕ) → k < count → None ≡ run image segments (entry_at l base k) → left (suc n) k ≡ empty_table 2
  unfolding table_by
  from_none n k h e = rw (table_by, sym (step_gives image segments l (iter_at base count k) None e h))

  from_some : (n k : ℕ) (x : Entry) → k < count → Some x ≡ run image segments (entry_at l base k) → left (suc n) k ≡ entry_then say x (left n (k + 1))
  unfolding table_by
  from_some n k x h e = rw (table_by, sym (step_gives image segments l (iter_at base count k) (Some x) e h))

  -- some entries are listed, and a walk stands at the next one
  abbrev after : List ℕ → ℕ → WholeTable → WholeTable
  after t n r = record { numbers = t ++ r.numbers; entries = n + r.entries; stop = r.stop }

  after_none : (r : WholeTable) → r ≡ after [] 0 r
  after_none r = ap (λ (n : ℕ). record { numbers = r.numbers; entries = n; stop = r.stop }) (omega arith)

  after_before : (t : List ℕ) (n : ℕ) (x : Entry) (r : WholeTable) → after t n (entry_then say x r) ≡ after (t ++ say x) (n + 1) r
  after_before t n x r =
      let e : n + suc r.entries ≡ n + 1 + r.entries = omega arith in
      let f : t ++ (say x ++ r.numbers) ≡ (t ++ say x) ++ r.numbers = sym (append_assoc t (say x) r.numbers) in
      cc

  before_after : (x : Entry) (t : List ℕ) (n : ℕ) (r : WholeTable) → entry_then say x (after t n r) ≡ after (say x ++ t) (suc n) r
  before_after x t n r =
      let e : suc (n + r.entries) ≡ suc n + r.entries = omega arith in
      let f : say x ++ (t ++ r.numbers) ≡ (say x ++ t) ++ r.numbers = sym (append_assoc (say x) t r.numbers) in
      cc

  none_listed : (k : ℕ) → (left 0 k).numbers ≡ []
  unfolding table_by
  none_listed k = refl

  -- if the list was full, the table from the entry after its last gives the others
  pub table_going_on : (n m k : ℕ) → (left n k).stop ≡ 1 → left (n + m) k ≡ after (left n k).numbers n (left m (n + k))
  table_going_on zero m k e =
      let no-numbers = none_listed k in
      rw (no-numbers, zero-add m, zero-add k) (after_none (left m k))
  table_going_on (suc n) m k e = go (table_going_on n m (k + 1)) (dec_lt k count)
    where
      never : (s : ℕ) → left (suc n) k ≡ empty_table s → (s ≢ 1) → left (suc n + m) k ≡ after (left (suc n) k).numbers (suc n) (left m (suc n + k))
      never s f z = absurd (z (sym (ap (λ (r : WholeTable). r.stop) f) ∙ e))

      given : ((left n (k + 1)).stop ≡ 1 → left (n + m) (k + 1) ≡ after (left n (k + 1)).numbers n (left m (n + (k + 1)))) → k < count
          → (y : Option Entry) → y ≡ run image segments (entry_at l base k) → left (suc n + m) k ≡ after (left (suc n) k).numbers (suc n) (left m (suc n + k))
      given ih h None f = never 2 (from_none n k h f) (λ z. omega arith)
      given ih h (Some x) f =
          let first : left (suc n) k ≡ entry_then say x (left n (k + 1)) = from_some n k x h f in
          let rest = ih (sym (ap (λ (r : WholeTable). r.stop) first) ∙ e) in
          let next : n + (k + 1) ≡ suc n + k = omega arith in
          let sum : suc n + m ≡ suc (n + m) = omega arith in
          ap (λ (j : ℕ). left j k) sum ∙ from_some (n + m) k x h f ∙ ap (entry_then say x) rest ∙ before_after x (left n (k + 1)).numbers n _
          ∙ rw (ap (λ (r : WholeTable). r.numbers) first, next)

      go : ((left n (k + 1)).stop ≡ 1 → left (n + m) (k + 1) ≡ after (left n (k + 1)).numbers n (left m (n + (k + 1)))) → Dec (k < count)
          → left (suc n + m) k ≡ after (left (suc n) k).numbers (suc n) (left m (suc n + k))
      go ih (yes h) = given ih h (run image segments (entry_at l base k)) refl
      go ih (no h) = never 0 (from_end (suc n) k (omega arith)) (λ z. omega arith)

  abbrev stop_of : WholeTable → ℕ
  stop_of r = r.stop

  -- a full list has as many entries as it has room for, and there are more
  pub full_all : (n k : ℕ) → (left n k).stop ≡ 1 → ((left n k).entries ≡ n) × (k + n < count)
  full_all zero k e = go (dec_lt k count)
    where
      go : Dec (k < count) → ((left 0 k).entries ≡ 0) × (k + 0 < count)
      go (yes h) = (ap (λ (r : WholeTable). r.entries) (from_full k h), omega arith)
      go (no h) = absurd (omega (arith, ap stop_of (from_end 0 k (omega arith))))
  full_all (suc n) k e = go (full_all n (k + 1)) (dec_lt k count)
    where
      found : ((left n (k + 1)).stop ≡ 1 → ((left n (k + 1)).entries ≡ n) × (k + 1 + n < count)) → k < count → (y : Option Entry)
          → y ≡ run image segments (entry_at l base k) → ((left (suc n) k).entries ≡ suc n) × (k + suc n < count)
      found ih h None f = absurd (omega (arith, ap stop_of (from_none n k h f)))
      found ih h (Some x) f =
          let first = from_some n k x h f in
          let rest = ih (sym (ap stop_of first) ∙ e) in
          (ap (λ (r : WholeTable). r.entries) first ∙ ap suc rest.0, omega (arith, rest.1))

      go : ((left n (k + 1)).stop ≡ 1 → ((left n (k + 1)).entries ≡ n) × (k + 1 + n < count)) → Dec (k < count) → ((left (suc n) k).entries ≡ suc n) × (k + suc n < count)
      go ih (yes h) = found ih h (run image segments (entry_at l base k)) refl
      go ih (no h) = absurd (omega (arith, ap stop_of (from_end (suc n) k (omega arith))))

  -- a list that is not full has all entries: more room changes nothing
  enough : (n m k : ℕ) → ((left n k).stop ≢ 1) → n ≤ m → left n k ≡ left m k
  enough zero m k f h = go (dec_lt k count)
    where
      go : Dec (k < count) → left 0 k ≡ left m k
      go (yes l) = absurd (f (ap stop_of (from_full k l)))
      go (no l) = from_end 0 k (omega arith) ∙ sym (from_end m k (omega arith))
  enough (suc n) zero k f h = absurd (omega arith)
  enough (suc n) (suc m) k f h = go (λ g. enough n m (k + 1) g (omega arith)) (dec_lt k count)
    where
      found : (((left n (k + 1)).stop ≢ 1) → left n (k + 1) ≡ left m (k + 1)) → k < count → (y : Option Entry) → y ≡ run image segments (entry_at l base k)
          → left (suc n) k ≡ left (suc m) k
      found ih h None e = from_none n k h e ∙ sym (from_none m k h e)
      found ih h (Some x) e =
          let first = from_some n k x h e in
          first ∙ ap (entry_then say x) (ih (λ z. f (ap stop_of first ∙ z))) ∙ sym (from_some m k x h e)

      go : (((left n (k + 1)).stop ≢ 1) → left n (k + 1) ≡ left m (k + 1)) → Dec (k < count) → left (suc n) k ≡ left (suc m) k
      go ih (yes h) = found ih h (run image segments (entry_at l base k)) refl
      go ih (no h) = from_end (suc n) k (omega arith) ∙ sym (from_end (suc m) k (omega arith))

  pub all_there : (n k : ℕ) → ((left n k).stop ≢ 1) → left n k ≡ left count k
  all_there n k f = go (dec_le n count)
    where
      go : Dec (n ≤ count) → left n k ≡ left count k
      go (yes h) = enough n count k f h
      go (no h) = sym (enough count n k (λ z. omega (arith, (full_all count k z).1)) (omega arith))

  -- how many numbers each entry has
  module _ (each : ℕ) (b₀ : List ℕ) (k₀ : ℕ) where
    abbrev most : ℕ
    most = length b₀ / each

    pub record Going (k n : ℕ) (b : List ℕ) : Type 0 where
      pub few : n ≤ most
      pub long : length b ≡ length b₀
      pub rest : drop (each * n) b ≡ drop (each * n) b₀
      pub goes : left most k₀ ≡ after (take (each * n) b) n (left (most - n) k)

    pub start_going : Going k₀ 0 b₀
    start_going =
        let z : each * 0 ≡ 0 = mul-zero each in
        let m : most - 0 ≡ most = omega arith in
        record { few = omega arith; long = refl; rest = refl; goes = rw (z, m) (after_none (left most k₀)) }

    -- one more fits
    pub fits : (n : ℕ) → n < most → each * n + each ≤ length b₀
    fits n h =
        let more : each * suc n ≤ each * most = mul-le-mul_left each h in
        omega (arith, more, mul-suc each n, mul-div-le (length b₀) each)

    fits_in_lem : (n : ℕ) → n ≤ most → each * n ≤ length b₀
    fits_in_lem n h = omega (arith, mul-le-mul_left each h, mul-div-le (length b₀) each)

    module _ (k n : ℕ) (b : List ℕ) (g : Going k n b) where
      -- no more: what the call returns, and what the list holds
      stops : (s : ℕ) → left (most - n) k ≡ empty_table s
          → (record { entries = n; stop = s } ≡ counts (left most k₀)) × (b ≡ at_start (table_numbers (left most k₀)) b₀)
      stops s e =
          let len : length (take (each * n) b) ≡ each * n = length-take-le (each * n) b (omega (arith, fits_in_lem n g.few, g.long)) in
          let all : left most k₀ ≡ after (take (each * n) b) n (empty_table s) = g.goes ∙ ap (after (take (each * n) b) n) e in
          rw (all, append-nil, len) (ap (λ (j : ℕ). record { entries = j; stop = s }) (omega arith), sym (take-append-drop (each * n) b) ∙ ap (λ (x : List ℕ). take (each * n) b ++ x) g.rest)

      pub stops_end : count ≤ k → (record { entries = n; stop = 0 } ≡ counts (left most k₀)) × (b ≡ at_start (table_numbers (left most k₀)) b₀)
      stops_end h = stops 0 (from_end (most - n) k h)

      pub stops_full : n ≡ most → (s : ℕ) → s ≡ stop_at k count
          → (record { entries = n; stop = s } ≡ counts (left most k₀)) × (b ≡ at_start (table_numbers (left most k₀)) b₀)
      unfolding table_by
      stops_full e s f =
          let none_left : most - n ≡ 0 = omega arith in
          stops s (ap (λ (j : ℕ). left j k) none_left ∙ ap empty_table (sym f))

      module _ (h : k < count) (m : n < most) where
        one_left : most - n ≡ suc (most - (n + 1))
        one_left = omega arith

        pub stops_none : None ≡ run image segments (entry_at l base k)
            → (record { entries = n; stop = 2 } ≡ counts (left most k₀)) × (b ≡ at_start (table_numbers (left most k₀)) b₀)
        stops_none e = stops 2 (ap (λ (j : ℕ). left j k) one_left ∙ from_none (most - (n + 1)) k h e)

        pub goes_on_lem : (x : Entry) (b' : List ℕ) → Some x ≡ run image segments (entry_at l base k) → length (say x) ≡ each
            → b' ≡ pasted b (each * n) (say x) → Going (k + 1) (n + 1) b'
        goes_on_lem x b' e w eb =
            let t : List ℕ = say x in
            let at : ℕ = each * n in
            let next : each * (n + 1) ≡ at + each = ap (λ (j : ℕ). each * j) (add-one n) ∙ mul-suc each n in
            let inside : at + length t ≤ length b = omega (arith, fits n m, g.long) in
            let len : length (take at b) ≡ at = length-take-le at b (omega arith) in
            let both : length (take at b ++ t) ≡ each * (n + 1) = length-append (take at b) t ∙ omega (arith, len, next, w) in
            let split : b' ≡ (take at b ++ t) ++ drop (at + length t) b = eb ∙ sym (append_assoc (take at b) t _) in
            let front : take (each * (n + 1)) b' ≡ take at b ++ t = ap (take (each * (n + 1))) split ∙ take_at (take at b ++ t) _ _ both in
            let back : drop (each * (n + 1)) b' ≡ drop (at + length t) b = ap (drop (each * (n + 1))) split ∙ drop_at (take at b ++ t) _ _ both in
            let last : at + length t ≡ each * (n + 1) = omega (arith, next, w) in
            let step : left (most - n) k ≡ entry_then say x (left (most - (n + 1)) (k + 1)) = ap (λ (j : ℕ). left j k) one_left ∙ from_some (most - (n + 1)) k x h e in
            record {
              few = omega arith;
              long = put_length b t b' at (at + length t) (record { ends = refl; holds = eb }) inside ∙ g.long;
              rest = back ∙ sym (drop-drop (length t) at b) ∙ ap (drop (length t)) g.rest ∙ drop-drop (length t) at b₀ ∙ ap (λ (j : ℕ). drop j b₀) last;
              goes = g.goes ∙ ap (after (take at b) n) step ∙ after_before (take at b) n x _ ∙ ap (λ (s : List ℕ). after s (n + 1) (left (most - (n + 1)) (k + 1))) (sym front);
            }

-- the entries by their own numbers
module _ (image segments : List ℕ) (l : Layout) (base count : ℕ) (b₀ : List ℕ) (k₀ : ℕ) where
  abbrev pub Listing : ℕ → ℕ → List ℕ → Type 0
  Listing = Going entry_numbers image segments l base count (width l) b₀ k₀

  -- a run of entries
  module _ (k n : ℕ) (b : List ℕ) (g : Listing k n b) (o : ℕ) where
    abbrev with_run : ℕ → List ℕ
    with_run r = pasted b (width l * n) (run_numbers image l o (entry_address l base k) r)

    pub goes_along : (r : ℕ) → n + r ≤ length b₀ / width l → k + r ≤ count
        → ((i : ℕ) → i < r → Some (o + l.stride * i) ≡ entry_place image segments (entry_size l) (entry_address l base k + l.stride * i)) → Listing (k + r) (n + r) (with_run r)
    goes_along zero m h f =
        let ek : k + 0 ≡ k = omega arith in
        let en : n + 0 ≡ n = omega arith in
        rw (ek, en, ← (put_none b (width l * n)).holds) g
    goes_along (suc r) m h f =
        let x : Entry = entry_of l (entry_address l base k + l.stride * r) (take (entry_size l) (drop (o + l.stride * r) image)) in
        let there : entry_address l base k + l.stride * r ≡ entry_address l base (k + r) = omega (arith, mul-add l.stride k r) in
        let is : Some x ≡ run image segments (entry_at l base (k + r)) =
        ap (λ (z : ℕ). Some (entry_of l z (take (entry_size l) (drop (o + l.stride * r) image)))) there
        ∙ a_place image segments l base (k + r) (o + l.stride * r) (f r (omega arith) ∙ ap (entry_place image segments (entry_size l)) there) in
        let so_far : length (run_numbers image l o (entry_address l base k) r) ≡ width l * r = run_length image l o (entry_address l base k) r in
        let at : width l * (n + r) ≡ width l * n + length (run_numbers image l o (entry_address l base k) r) = omega (arith, mul-add (width l) n r, so_far) in
        let inside : width l * n + length (run_numbers image l o (entry_address l base k) r) ≤ length b = omega (arith, at, g.long, fits_in_lem entry_numbers image segments l base count (width l) b₀ k₀ (n + r) (omega arith)) in
        let put : with_run (suc r) ≡ pasted (with_run r) (width l * (n + r)) (entry_numbers x) =
        sym (put_then b (run_numbers image l o (entry_address l base k) r) (entry_numbers x) (with_run r) _ (width l * n) (width l * (n + r)) _ (record { ends = at; holds = refl }) (record { ends = refl; holds = refl }) inside).holds in
        let ek : k + suc r ≡ k + r + 1 = omega arith in
        let en : n + suc r ≡ n + r + 1 = omega arith in
        rw (ek, en)
        (goes_on_lem entry_numbers image segments l base count (width l) b₀ k₀ (k + r) (n + r) (with_run r) (goes_along r (omega arith) (omega arith) (λ i j. f i (omega arith))) (omega arith) (omega arith) x (with_run (suc r)) is (ap suc (words_long l.words _ 0 _)) put)

-- more entries fit
pub room_for : (b : List ℕ) (w n r : ℕ) → n + r ≤ length b / w → w * n + w * r ≤ length b
room_for b w n r h = omega (arith, mul-add w n r, mul-le-mul_left w h, mul-div-le (length b) w)

pub room_few : (b : List ℕ) (w n : ℕ) → n ≤ length b / w → n ≤ length b
room_few b w n h = omega (arith, h, div-le_self (length b) w)

-- ---- the same in terms of the shape's numbers, as the code has them

module _ (image segments : List ℕ) (s : Shape) (stride base count : ℕ) (b₀ : List ℕ) (k₀ : ℕ) where
  abbrev l : Layout
  l = shape_layout s stride

  abbrev at : ℕ → ℕ
  at k = base + stride * k

  wide : width l ≡ 2 + s.more
  wide = shape_width s stride

  below : (n : ℕ) → n < length b₀ / (2 + s.more) → n < length b₀ / width l
  below n h = rw wide h

  by_size : (k : ℕ) (x : Option ℕ) → x ≡ entry_place image segments (4 + 4 * s.more) (at k) → x ≡ entry_place image segments (entry_size l) (entry_address l base k)
  by_size k x e = rw (shape_size s stride) e

  module _ (k n : ℕ) (b : List ℕ) (g : Listing image segments l base count b₀ k₀ k n b) where
    abbrev Done : Stop → Type 0
    Done s = Lists (table_from image segments l (length b₀ / width l) (iter_at base count k₀)) b₀ (record { entries = n; stop = s }) b

    pub table_full : (x : Stop) → length b₀ / (2 + s.more) ≤ n → stop_number x ≡ stop_at k count → Done x
    table_full x h f = stops_full entry_numbers image segments l base count (width l) b₀ k₀ k n b g (le_antisymm g.few (rw wide h)) (stop_number x) f

    module _ (h : k < count) (m : n < length b₀ / (2 + s.more)) where
      pub table_none : None ≡ entry_place image segments (4 + 4 * s.more) (at k) → Done Stop.Unreadable
      table_none e = stops_none entry_numbers image segments l base count (width l) b₀ k₀ k n b g h (below n m) (no_place image segments l base k (by_size k None e))

      pub table_some : (o a : ℕ) (b' : List ℕ) → Some o ≡ entry_place image segments (4 + 4 * s.more) (at k) → a ≡ at k % 2 ^ 64
          → b' ≡ pasted b ((2 + s.more) * n) (entry_numbers (entry_of (shape_layout s 0) a (take (4 + 4 * s.more) (drop o image))))
          → Listing image segments l base count b₀ k₀ (k + 1) (n + 1) b'
      table_some o a b' e ea eb =
          let w = (place_in image segments (4 + 4 * s.more) (at k) o e).0 in
          let same : a ≡ at k = ea ∙ mod-eq_of_lt (omega arith) in
          let is : Some (entry_of l (entry_address l base k) (take (entry_size l) (drop o image))) ≡ run image segments (entry_at l base k) = a_place image segments l base k o (by_size k (Some o) e) in
          let x : Entry = entry_of l (entry_address l base k) (take (entry_size l) (drop o image)) in
          let put : b' ≡ pasted b (width l * n) (entry_numbers x) =
          eb ∙ rw (wide, shape_size s stride, same) in
          goes_on_lem entry_numbers image segments l base count (width l) b₀ k₀ k n b g h (below n m) x b' is (ap suc (words_long l.words (entry_address l base k) 0 _)) put

    pub table_run : (o last a most r : ℕ) (b' : List ℕ) → Opens image segments (4 + 4 * s.more) (at k) (Some (record { place = o; last = last })) → a ≡ at k % 2 ^ 64 → most ≤ count - k
        → most ≤ length b₀ / (2 + s.more) - n → k < count → PutRun image l o last a most b ((2 + s.more) * n) r b' → Listing image segments l base count b₀ k₀ (k + r) (n + r) b'
    table_run o last a most r b' w ea mc mr h p =
        let here = (place_in image segments (4 + 4 * s.more) (at k) o (opens_here image segments (4 + 4 * s.more) (at k) o last w)).0 in
        let same : a ≡ entry_address l base k = ea ∙ mod-eq_of_lt (omega arith) in
        let put : b' ≡ pasted b (width l * n) (run_numbers image l o (entry_address l base k) r) = p.holds ∙ rw (wide, same) in
        let far : (i : ℕ) → i < r → Some (o + l.stride * i) ≡ entry_place image segments (entry_size l) (entry_address l base k + l.stride * i) =
        λ i j. rw (shape_size s stride) (w (stride * i) (p.within i j)) in
        let few : length b₀ / (2 + s.more) ≡ length b₀ / width l = rw wide in
        rw put (goes_along image segments l base count b₀ k₀ k n b g o r (omega (arith, p.few, g.few, few)) (omega (arith, p.few)) far)

  -- a single entry
  abbrev only : WholeTable
  only = table_from image segments l (length b₀ / width l) (iter_at base count k₀)

  module _ (h : k₀ + 1 ≡ count) where
    pub one_full : length b₀ < 2 + s.more → Lists only b₀ (record { entries = 0; stop = Stop.Full }) b₀
    one_full m =
        table_full k₀ 0 b₀ (start_going entry_numbers image segments l base count (width l) b₀ k₀) Stop.Full (omega (arith, div-eq_of_lt m)) (stop_full k₀ count (omega arith))

    module _ (m : 2 + s.more ≤ length b₀) where
      one_fits : 0 < length b₀ / (2 + s.more)
      one_fits = omega (arith, div-eq-sub-div {m = 2 + s.more} {n = length b₀} (omega arith) m)

      pub one_none : None ≡ entry_place image segments (4 + 4 * s.more) (at k₀) → Lists only b₀ (record { entries = 0; stop = Stop.Unreadable }) b₀
      one_none e = table_none k₀ 0 b₀ (start_going entry_numbers image segments l base count (width l) b₀ k₀) (omega arith) one_fits e

      pub one_some : (o last a : ℕ) (b' : List ℕ) → Opens image segments (4 + 4 * s.more) (at k₀) (Some (record { place = o; last = last })) → a ≡ at k₀ % 2 ^ 64
          → b' ≡ pasted b₀ 0 (entry_numbers (entry_of (shape_layout s 0) a (take (4 + 4 * s.more) (drop o image)))) → Lists only b₀ (record { entries = 1; stop = Stop.Ended }) b'
      one_some o last a b' w ea eb =
          stops_end entry_numbers image segments l base count (width l) b₀ k₀ (k₀ + 1) 1 b'
          (table_some k₀ 0 b₀ (start_going entry_numbers image segments l base count (width l) b₀ k₀) (omega arith) one_fits o a b' (opens_here image segments (4 + 4 * s.more) (at k₀) o last w) ea (rw (mul-zero (2 + s.more)) eb))
          (omega arith)

-- a shape with more pointers than two is that with two
pub lists_least : (image segments : List ℕ) (f : Word) (more r stride : ℕ) (c : EntryIter) (b b' : List ℕ) (x : Listed) → r ≡ min more 2
    → Lists (table_in image segments (shape f r stride) c (length b)) b x b' → Lists (table_in image segments (shape f more stride) c (length b)) b x b'
lists_least image segments f more r stride c b b' x e h =
    subst (λ (l : Layout). Lists (table_in image segments l c (length b)) b x b') (ap (λ (n : ℕ). shape f n stride) e ∙ shape_least f more stride) h

-- ---- the calls

-- a call that lists into a buffer: its answer, and the numbers at the buffer's start
module _ {A B : Type 0} (tell : A → B) (say : A → List ℕ) (segments : List ℕ) (r : A) (b : List ℕ) where
  pub listed_refused : {n : ℕ} → Some n ≡ fault segments
      → (refused n ≡ mapped tell (guarded segments (answered r))) × (b ≡ overwritten b (answer_of (mapped say (guarded segments (answered r)))))
  listed_refused h = rw (sym (refused_list segments (answered r) h)) (refl, refl)

  pub listed_accepted : (x : B) (b' : List ℕ) → (x ≡ tell r) × (b' ≡ at_start (say r) b) → None ≡ fault segments
      → (answered x ≡ mapped tell (guarded segments (answered r))) × (b' ≡ overwritten b (answer_of (mapped say (guarded segments (answered r)))))
  listed_accepted x b' e h = rw (sym (accepted_list segments (answered r) h)) (ap answered e.0, e.1)

module _ (segments : List ℕ) (t₀ : WholeTable) (b : List ℕ) where
  abbrev G : Guarded WholeTable
  G = guarded segments (answered t₀)

  pub table_refused : (x : Result Listed Refusal) {n : ℕ} → refused n ≡ table_answer x → Some n ≡ fault segments → GivesTable G b x b
  table_refused x e h = record { answers = sym e ∙ ap (mapped counts) (refused_list segments (answered t₀) h); holds = ap (λ (g : Guarded WholeTable). buffer_with g b) (refused_list segments (answered t₀) h) }

  pub table_accepted : (x : Listed) (b' : List ℕ) → Lists t₀ b x b' → None ≡ fault segments → GivesTable G b (Ok x) b'
  table_accepted x b' e h =
      record { answers = ap answered e.0 ∙ ap (mapped counts) (accepted_list segments (answered t₀) h); holds = e.1 ∙ ap (λ (g : Guarded WholeTable). buffer_with g b) (accepted_list segments (answered t₀) h) }

  -- from what the test of the segments returned, at its `?`
  pub fault_refused : {r : Result ⊤ Refusal} {e : Refusal} → fault_of r ≡ fault segments → r ≡ Err e → GivesTable G b (Err e) b
  fault_refused f t =
      let h = refused_list segments (answered t₀) (sym (ap fault_of t) ∙ f) in
      record { answers = ap (mapped counts) h; holds = ap (λ (g : Guarded WholeTable). buffer_with g b) h }

  pub fault_accepted : {r : Result ⊤ Refusal} {u : ⊤} (x : Listed) (b' : List ℕ) → Lists t₀ b x b' → fault_of r ≡ fault segments → r ≡ Ok u → GivesTable G b (Ok x) b'
  fault_accepted x b' e f t =
      let h = accepted_list segments (answered t₀) (sym (ap fault_of t) ∙ f) in
      record { answers = ap answered e.0 ∙ ap (mapped counts) h; holds = e.1 ∙ ap (λ (g : Guarded WholeTable). buffer_with g b) h }

-- ---- what a table says

-- the numbers of these entries
abbrev pub numbers_of_all : (Entry → List ℕ) → List Entry → List ℕ
numbers_of_all say [] = []
numbers_of_all say (e ∷ es) = say e ++ numbers_of_all say es

module _ (say : Entry → List ℕ) (image segments : List ℕ) (l : Layout) where
  abbrev table : ℕ → EntryIter → WholeTable
  table = table_by say image segments l

  abbrev steps : ℕ → EntryIter → List Entry
  steps = listed_entries image segments l

  -- a table of at most `n` entries is what `n` steps list, entry by entry
  abbrev Told : ℕ → EntryIter → Type 0
  Told n c = ((table n c).numbers ≡ numbers_of_all say (steps n c)) × ((table n c).entries ≡ length (steps n c))

  pub table_listed : (n : ℕ) (c : EntryIter) → Told n c
  unfolding table_by listed_entries
  table_listed zero c = (refl, refl)
  table_listed (suc n) c = go (table_listed n) (entry_step image segments l c) refl
    where
      found : ((c : EntryIter) → Told n c) → (s : Step) → entry_step image segments l c ≡ Some s → (y : Option Entry) → s.found ≡ y → Told (suc n) c
      found ih s t None e = rw (table_by, listed_entries, t, e) (refl, refl)
      found ih s t (Some x) e = rw (table_by, listed_entries, t, e) (ap (λ (m : List ℕ). say x ++ m) (ih s.next).0, ap suc (ih s.next).1)

      go : ((c : EntryIter) → Told n c) → (x : Option Step) → entry_step image segments l c ≡ x → Told (suc n) c
      go ih None t = rw (table_by, listed_entries, t) (refl, refl)
      go ih (Some s) t = found ih s t s.found refl

  -- how many entries there are, and why no more, does not depend on the numbers of an entry
  abbrev Same : (Entry → List ℕ) → ℕ → EntryIter → Type 0
  Same other n c = counts (table n c) ≡ counts (table_by other image segments l n c)

  pub same_counts : (other : Entry → List ℕ) (n : ℕ) (c : EntryIter) → Same other n c
  unfolding table_by
  same_counts other zero c = refl
  same_counts other (suc n) c = go (same_counts other n) (entry_step image segments l c) refl
    where
      found : ((c : EntryIter) → Same other n c) → (s : Step) → entry_step image segments l c ≡ Some s → (y : Option Entry) → s.found ≡ y → Same other (suc n) c
      found ih s t None e = rw (table_by, t, e)
      found ih s t (Some x) e = rw (table_by, t, e) (ap (λ (k : Counts). record { entries = suc k.entries; stop = k.stop }) (ih s.next))

      go : ((c : EntryIter) → Same other n c) → (x : Option Step) → entry_step image segments l c ≡ x → Same other (suc n) c
      go ih None t = rw (table_by, t)
      go ih (Some s) t = found ih s t s.found refl

-- each entry has the words of its layout
module _ (image segments : List ℕ) (l : Layout) where
  entry_words : (base k : ℕ) (e : Entry) → run image segments (entry_at l base k) ≡ Some e → length e.words ≡ length l.words
  entry_words base k e t = go (entry_place image segments (entry_size l) (entry_address l base k)) refl
    where
      go : (x : Option ℕ) → entry_place image segments (entry_size l) (entry_address l base k) ≡ x → length e.words ≡ length l.words
      go None p =
          let f : ◌≡◌ {A = Option Entry} None (Some e) = no_place image segments l base k (sym p) ∙ t in
          let z : ◌≡◌ {A = ℕ} 0 1 = cc in
          absurd (omega arith)
      go (Some o) p =
          let h : List ℕ = take (entry_size l) (drop o image) in
          let f : Some (entry_of l (entry_address l base k) h) ≡ Some e = a_place image segments l base k o (sym p) ∙ t in
          let q : e ≡ entry_of l (entry_address l base k) h = cc in
          ap (λ (x : Entry). length x.words) q ∙ words_long l.words (entry_address l base k) 0 h

  abbrev pub Whole : List Entry → Type 0
  Whole [] = Unit {0}
  Whole (e ∷ es) = (length e.words ≡ length l.words) × Whole es

  pub listed_words : (n : ℕ) (c : EntryIter) → Whole (listed_entries image segments l n c)
  unfolding listed_entries
  listed_words zero c = tt
  listed_words (suc n) c = go (listed_words n) (dec_lt c.next c.count)
    where
      given : ((c : EntryIter) → Whole (listed_entries image segments l n c)) → c.next < c.count → (y : Option Entry) → run image segments (entry_at l c.base_va c.next) ≡ y
          → Whole (listed_entries image segments l (suc n) c)
      given ih h None t = rw (listed_entries, sym (step_gives image segments l c None (sym t) h)) tt
      given ih h (Some e) t = rw (listed_entries, sym (step_gives image segments l c (Some e) (sym t) h)) (entry_words c.base_va c.next e t, ih _)

      go : ((c : EntryIter) → Whole (listed_entries image segments l n c)) → Dec (c.next < c.count) → Whole (listed_entries image segments l (suc n) c)
      go ih (yes h) = given ih h (run image segments (entry_at l c.base_va c.next)) refl
      go ih (no h) = rw (listed_entries, sym (step_end image segments l c (omega arith))) tt
