-- The printed listing of a cut image. Its lines are, in order, those of the whole image's rows whose paths lie before the cut, and their
-- number (`cut-lines`, `cut-printed`), with the same address, kind and own name (`row-line`, `name-column`); what is left of the names
-- before the row's own (`cut_line`, `kept-lines`); and when a line is the same (`same_line`).
use Prim.Native.Nat.{ℕ, zero, suc, ◌<◌}
use Rattle.std.proofs.Common.{arith, ◌∙◌, ⊎_elim, lt-ltb}
use Rattle.std.specs.Prelude.{◌≡◌, ◌⊎◌, Bool, cond, ◌&&◌, length, take, ltb, Option, Some, None}
use Rattle.std.proofs.Math.Path.{refl, sym, ap}
use Rattle.std.proofs.Math.Logic.{inl, inr}
use mathlib.Core.List.Memᴰ
use mathlib.Core.List.{List, [], ◌∷◌, ◌++◌, map, Memᴰ}
use Rattle.std.proofs.Math.Bool.{true, false, and-eq-true_iff}
use Rattle.refusal.specs.Refusal.{answered, refused}
use Rattle.runtime.specs.Reads.{run, Range, bytes_range, also, path, every, Clear, ends_by}
use Rattle.runtime.proofs.ReadsLaws.{run_bind, path_bind, cut}
use Rattle.runtime.proofs.PathLaws.{bytes_clear}
use Rattle.typedescriptor.specs.Row.{TypeRow}
use Rattle.typedescriptor.specs.Slots.{Found, rows}
use Rattle.typedescriptor.proofs.SlotsLaws.{in_rows}
use Rattle.parent.specs.Context.{Header, header, name, Context, with_name, context_name}
use Rattle.parent.specs.Chain.{contexts_most, header_at, chain}
use Rattle.parent.proofs.ChainLaws.{chain_by, next_by}
use Rattle.parent.proofs.PathLaws.{header_address}
use Rattle.qualified_name.specs.Name.{hops, qualified_name, is_there, too_deep, name_answer}
use Rattle.items.specs.Keys.{Sections}
use Rattle.items.specs.Items.{row_of_slot, context_of_slot}
use Rattle.items.specs.Texts.{NameKey, context_name_at, ClearOf}
use Rattle.items.proofs.ProgramLaws.{every_append, on_context}
use Rattle.items.proofs.PremiseLaws.{ClearBy}
use Rattle.items.proofs.TextsLaws.{cut_context, context_clear}
use Rattle.items.proofs.CutLaws.{kept_run, keep, row_ends_by, kept_rows, cut_rows}
use Rattle.type_lines.specs.Lines.{name_bytes, newline, refused_text, text_or, name_text, row_line, end_line, lines}
use Rattle.bundle_lines.specs.Printed.{printed}
use Rattle.bundle_parts.specs.Parts.{bytes_of, segment_numbers}
use Rattle.bundle.specs.declared.open.Layout.{Layout}
use Rattle.cut_lines.specs.CutLines.{line_head, kept_contexts, kept_too_deep, kept_name, kept_answer, kept_line, names_path, joined_path, sections_of, CutBundle}

-- ---- a line of any image

module _ (image segments : List ℕ) (row : TypeRow) where
  -- address and kind are the row's, whatever the image
  pub row_line_lem : row_line image segments row ≡ line_head row ++ name_text image segments row ++ newline
  unfolding row_line line_head
  row_line_lem = refl

  -- the name ends with the row's own, or it is refused
  pub name_column : (name_text image segments row ≡ hops (chain image segments contexts_most row.parent) ++ row.name_bytes)
      ⊎ ((name_text image segments row ≡ refused_text 3) ⊎ (name_text image segments row ≡ refused_text 4))
  unfolding name_text name_answer qualified_name
  name_column = go (too_deep image segments row.parent) (ltb name_bytes (length (hops (chain image segments contexts_most row.parent) ++ row.name_bytes))) _
    where
      go : (d t : Bool) (x : List ℕ)
          → (text_or (cond d (refused 4) (cond t (refused 3) (answered x))) ≡ x)
          ⊎ ((text_or (cond d (refused 4) (cond t (refused 3) (answered x))) ≡ refused_text 3) ⊎ (text_or (cond d (refused 4) (cond t (refused 3) (answered x))) ≡ refused_text 4))
      go true t x = inr (inr refl)
      go false true x = inr (inl refl)
      go false false x = inl refl

-- ---- the contexts around a row

module _ (image segments : List ℕ) (c : ℕ) where
  -- the cut does not fall into a name of the first `n` contexts from an address on
  abbrev pub ClearChain : ℕ → ℕ → Type 0
  ClearChain n a = (k : ℕ) (h : Header) → k < n → run image segments (header_at k a) ≡ Some h → ClearBy image segments c (context_name_at h)

  -- a context's header, which has no text
  pub cut_header_at : (k a : ℕ)
      → run (take c image) segments (header_at k a) ≡ cond (every (ends_by c) (path image segments (header_at k a))) (run image segments (header_at k a)) None
  cut_header_at k a = cut image segments c (header_at k a) (on_context image segments (Clear c) (λ o n. bytes_clear c (bytes_range o n) refl) k a).all

  cut_header : (a : ℕ) → run (take c image) segments (header a) ≡ cond (every (ends_by c) (path image segments (header a))) (run image segments (header a)) None
  unfolding header_at
  cut_header a = cut_header_at 0 a

  module _ (h : Header) (xs : List Context) where
    abbrev header_kept : Bool
    header_kept = every (ends_by c) (path image segments (header h.address))

    kept_on : header_kept ≡ true
        → record {
          header = h;
          name = cond (every (ends_by c) (path image segments (name h.address h.flags))) (context_name image segments h.address h.flags) None;
        } ∷ kept_contexts image segments c xs
        ≡ kept_contexts image segments c (with_name image segments h ∷ xs)
    unfolding with_name
    kept_on e = rw e

    kept_off : header_kept ≡ false → [] ≡ kept_contexts image segments c (with_name image segments h ∷ xs)
    unfolding with_name
    kept_off e = rw e

  -- the cut image's contexts are those of the whole one up to the first whose 8 bytes do not lie before the cut, each with its name or without
  pub cut_chain : (n a : ℕ) → ClearChain n a → chain (take c image) segments n a ≡ kept_contexts image segments c (chain image segments n a)
  unfolding chain header_at
  cut_chain zero a clear = refl
  cut_chain (suc n) a clear = go (λ b. cut_chain n b) (run image segments (header a)) refl (every (ends_by c) (path image segments (header a))) refl
    where
      further : (h : Header) → run image segments (header a) ≡ Some h → ClearChain n h.parent
      further h e k g l t = clear (suc k) g (omega arith) (next_by image segments k a (Some h) e ∙ t)

      own : (h : Header) → run image segments (header a) ≡ Some h
          → every (ends_by c) (path image segments (header h.address)) ≡ every (ends_by c) (path image segments (header a))
      own h e = ap (λ (b : ℕ). every (ends_by c) (path image segments (header b))) (header_address image segments a h e)

      go : ((b : ℕ) → ClearChain n b → chain (take c image) segments n b ≡ kept_contexts image segments c (chain image segments n b))
          → (x : Option Header) → run image segments (header a) ≡ x
          → (b : Bool) → every (ends_by c) (path image segments (header a)) ≡ b
          → chain (take c image) segments (suc n) a ≡ kept_contexts image segments c (chain image segments (suc n) a)
      go ih None e true t =
          let f : run (take c image) segments (header a) ≡ None = cut_header a ∙ rw (t, e) in
          rw (chain_by (take c image) segments n a None f, chain_by image segments n a None e)
      go ih None e false t =
          let f : run (take c image) segments (header a) ≡ None = cut_header a ∙ rw t in
          rw (chain_by (take c image) segments n a None f, chain_by image segments n a None e)
      go ih (Some h) e true t =
          let f : run (take c image) segments (header a) ≡ Some h = cut_header a ∙ rw (t, e) in
          chain_by (take c image) segments n a (Some h) f
          ∙ rw (cut_context image segments c h (clear 0 h (omega arith) e), ih h.parent (further h e)) (kept_on h (chain image segments n h.parent) (own h e ∙ t))
          ∙ ap (kept_contexts image segments c) (sym (chain_by image segments n a (Some h) e))
      go ih (Some h) e false t =
          let f : run (take c image) segments (header a) ≡ None = cut_header a ∙ rw t in
          chain_by (take c image) segments n a None f
          ∙ kept_off h (chain image segments n h.parent) (own h e ∙ t)
          ∙ ap (kept_contexts image segments c) (sym (chain_by image segments n a (Some h) e))

  -- whether a 257th context can be read
  cut_too_deep : (a : ℕ) → too_deep (take c image) segments a ≡ kept_too_deep image segments c a
  unfolding too_deep
  cut_too_deep a = rw (cut_header_at contexts_most a) (go (every (ends_by c) (path image segments (header_at contexts_most a))))
    where
      go : (b : Bool) → is_there (cond b (run image segments (header_at contexts_most a)) None) ≡ b && is_there (run image segments (header_at contexts_most a))
      go true = refl
      go false = refl

  module _ (row : TypeRow) (clear : ClearChain contexts_most row.parent) where
    cut_name_answer : (size : ℕ) → name_answer (take c image) segments row size ≡ kept_answer image segments c row size
    unfolding name_answer qualified_name kept_answer kept_name
    cut_name_answer size = rw (cut_too_deep row.parent, cut_chain contexts_most row.parent clear)

    -- the line of a row in the cut image: the joined name of the contexts that are kept
    pub cut_line : row_line (take c image) segments row ≡ kept_line image segments c row
    unfolding row_line kept_line name_text line_head
    cut_line = rw (cut_name_answer name_bytes)

-- ---- lines that are the same

both_end : (t : Range → Bool) (l m : List Range) → every t (l ++ m) ≡ true → (every t l ≡ true) × (every t m ≡ true)
both_end t l m e = (and-eq-true_iff (every t l) (every t m)).0 (sym (every_append t l m) ∙ e)

module _ (image segments : List ℕ) (c : ℕ) where
  same_name : (h : Header) → every (ends_by c) (path image segments (name h.address h.flags)) ≡ true → with_name (take c image) segments h ≡ with_name image segments h
  unfolding with_name context_name
  same_name h e = rw (kept_run image segments c (name h.address h.flags) e)

  names_end : (h : Header) (xs : List Context) → every (ends_by c) (names_path image segments (with_name image segments h ∷ xs)) ≡ true
      → (every (ends_by c) (path image segments (name h.address h.flags)) ≡ true) × (every (ends_by c) (names_path image segments xs) ≡ true)
  unfolding with_name
  names_end h xs e = both_end (ends_by c) (path image segments (name h.address h.flags)) (names_path image segments xs) e

  same_chain : (n a : ℕ) → every (ends_by c) (path image segments (header_at n a)) ≡ true → every (ends_by c) (names_path image segments (chain image segments n a)) ≡ true
      → chain (take c image) segments n a ≡ chain image segments n a
  unfolding chain header_at
  same_chain zero a e f = refl
  same_chain (suc n) a e f =
      go (run image segments (header a)) refl (both_end (ends_by c) (path image segments (header a)) _ (sym (ap (every (ends_by c)) (path_bind image segments (λ h. header_at n h.parent) (header a))) ∙ e))
      (λ b. same_chain n b)
    where
      go : (x : Option Header) → run image segments (header a) ≡ x
          → (every (ends_by c) (path image segments (header a)) ≡ true) × (every (ends_by c) (also (run image segments (header a)) (λ h. path image segments (header_at n h.parent))) ≡ true)
          → ((b : ℕ) → every (ends_by c) (path image segments (header_at n b)) ≡ true → every (ends_by c) (names_path image segments (chain image segments n b)) ≡ true
          → chain (take c image) segments n b ≡ chain image segments n b)
          → chain (take c image) segments (suc n) a ≡ chain image segments (suc n) a
      go None t w ih = chain_by (take c image) segments n a None (kept_run image segments c (header a) w.0 ∙ t) ∙ sym (chain_by image segments n a None t)
      go (Some h) t w ih =
          let v = names_end h (chain image segments n h.parent) (sym (ap (λ (l : List Context). every (ends_by c) (names_path image segments l)) (chain_by image segments n a (Some h) t)) ∙ f) in
          chain_by (take c image) segments n a (Some h) (kept_run image segments c (header a) w.0 ∙ t)
          ∙ rw (same_name h v.0, ih h.parent (rw t at w.1) v.1) (sym (chain_by image segments n a (Some h) t))

  -- a line whose joined name reads nothing after the cut is the whole image's: no premise is needed
  pub same_line : (row : TypeRow) → every (ends_by c) (joined_path image segments row.parent) ≡ true → row_line (take c image) segments row ≡ row_line image segments row
  unfolding row_line name_text name_answer qualified_name too_deep joined_path
  same_line row e =
      let w = both_end (ends_by c) (path image segments (header_at contexts_most row.parent)) _ e in
      rw (kept_run image segments c (header_at contexts_most row.parent) w.0, same_chain contexts_most row.parent w.0 w.1)

-- the listing's premise has the names of a row's contexts
pub chain_clear : (image segments : List ℕ) (s : Sections) (c i : ℕ) (r : TypeRow) → run image segments (row_of_slot s i) ≡ Some r
    → ((k : ℕ) → ClearOf image segments s c (NameKey.context i k)) → ClearChain image segments c contexts_most r.parent
unfolding context_of_slot
chain_clear image segments s c i r e clear k h l t = context_clear image segments c s i k h there (clear k)
  where
    there : run image segments (context_of_slot s i k) ≡ Some h
    there = simp (lt-ltb k contexts_most l) (run_bind image segments (λ r. header_at k r.parent) (row_of_slot s i) ∙ rw e t)

-- ---- the lines

-- a test keeps no more than there is
kept_in : {A : Type 0} (t : A → Bool) (x : A) (l : List A) → Memᴰ x (keep t l) → Memᴰ x l
kept_in t x [] m = m
kept_in {A} t x (y ∷ l) m = go (t y) m (λ n. kept_in t x l n)
  where
    go : (b : Bool) → Memᴰ x (cond b (y ∷ keep t l) (keep t l)) → (Memᴰ x (keep t l) → Memᴰ x l) → Memᴰ x (y ∷ l)
    go true n ih = ⊎_elim (λ (e : x ≡ y). Memᴰ.head e) (λ n. Memᴰ.tail (ih n)) (Memᴰ.cases_cons n)
    go false n ih = Memᴰ.tail (ih n)

map_same : {A B : Type 0} (f g : A → B) (l : List A) → ((x : A) → Memᴰ x l → f x ≡ g x) → map f l ≡ map g l
map_same f g [] e = refl
map_same f g (x ∷ l) e = rw (e x (Memᴰ.head refl), map_same f g l (λ y m. e y (Memᴰ.tail m)))

module _ (image segments : List ℕ) (s : Sections) (c : ℕ) (clear : (i : ℕ) → ClearOf image segments s c (NameKey.descriptor i)) where
  -- those of the rows whose paths lie before the cut, in order, and their number
  pub cut_lines : lines (take c image) segments s.types s.types_start
      ≡ map (λ (f : Found). row_line (take c image) segments f.row) (kept_rows image segments s c) ++ (end_line (length (kept_rows image segments s c)) ∷ [])
  unfolding lines
  cut_lines = rw (cut_rows image segments s c clear)

  -- and if the cut does not fall into a context's name either, what each line says in terms of the whole image
  pub kept_lines : ((i k : ℕ) → ClearOf image segments s c (NameKey.context i k))
      → lines (take c image) segments s.types s.types_start
      ≡ map (λ (f : Found). kept_line image segments c f.row) (kept_rows image segments s c) ++ (end_line (length (kept_rows image segments s c)) ∷ [])
  unfolding kept_rows
  kept_lines contexts =
      cut_lines
      ∙ ap (λ (l : List (List ℕ)). l ++ (end_line (length (kept_rows image segments s c)) ∷ []))
      (map_same (λ (f : Found). row_line (take c image) segments f.row) (λ (f : Found). kept_line image segments c f.row) (kept_rows image segments s c)
      (λ f m. of_row_lem f (kept_in (row_ends_by image segments s c) f _ m)))
    where
      of_row_lem : (f : Found) → Memᴰ f (rows image segments s.types s.types_start) → row_line (take c image) segments f.row ≡ kept_line image segments c f.row
      of_row_lem f m =
          cut_line image segments c f.row
          (chain_clear image segments s c f.slot f.row (in_rows image segments s.types s.types_start f m).1 (contexts f.slot))

-- ---- the lines of a bundle

module _ (b b' : List ℕ) (l l' : Layout) (c : ℕ) (part : CutBundle b b' l l' c) where
  abbrev its_image : List ℕ
  its_image = bytes_of b l.image

  -- what the program prints for the cut image's bundle
  pub cut_printed : ((i : ℕ) → ClearOf its_image (segment_numbers b l) (sections_of b l) c (NameKey.descriptor i))
      → printed b'
      ≡ map (λ (f : Found). row_line (take c its_image) (segment_numbers b l) f.row) (kept_rows its_image (segment_numbers b l) (sections_of b l) c)
      ++ (end_line (length (kept_rows its_image (segment_numbers b l) (sections_of b l) c)) ∷ [])
  unfolding printed
  cut_printed clear =
      rw (printed, part.opened, part.image, part.segments, part.types, part.types_start) (cut_lines its_image (segment_numbers b l) (sections_of b l) c clear)
