-- A joined name that is certain for the bytes that arrived is that of every image that starts with them, including refusals 3 and 4, for
-- every length of the buffer (`name-kept`, `name-first`), and so is the row's line in the printed listing (`line_first`).
use Prim.Native.Nat.{ℕ, zero, suc, ◌+◌, ◌^◌}
use Rattle.std.specs.Prelude.{◌≡◌, Bool, cond, ◌&&◌, ◌||◌, length, take, eqb, Option, Some, None, option_map}
use Rattle.std.proofs.Math.Path.{refl, sym, ap}
use Rattle.std.proofs.Common.{◌∙◌}
use mathlib.Core.List.{List, ◌++◌}
use Rattle.std.proofs.Math.Bool.{true, false, and-eq-true_iff}
use Rattle.std.proofs.Math.ListN.{drop, take-append-drop}
use Rattle.std.proofs.Math.Dec.{leb}
use Rattle.runtime.specs.Reads.{nothing, bytes, and_then, bytes_place, run}
use Rattle.typedescriptor.specs.Row.{TypeRow}
use Rattle.typedescriptor.specs.Slots.{slot_row}
use Rattle.parent.specs.Context.{Header, header_in, header, name, context_name, with_name}
use Rattle.parent.specs.Chain.{contexts_most, header_at, chain}
use Rattle.parent.proofs.ChainLaws.{chained, chain_by, next_by}
use Rattle.qualified_name.specs.Name.{qualified_name, too_deep, name_answer}
use Rattle.type_lines.specs.Lines.{name_bytes, name_text, row_line}
use Rattle.certainty.specs.Certain.{if_there, certain}
use Rattle.certainty.proofs.CertainLaws.{certain_run, certain_first}
use Rattle.certainty.specs.JoinedName.{header_certain, chain_certain, name_certain, joined_name}

-- at or above 2^64 - 4 there is no header
wrapped : (image segments : List ℕ) (a : ℕ) → leb (2 ^ 64) (a + 4) ≡ true → run image segments (header a) ≡ None
unfolding header header_in run
wrapped image segments a e = go (eqb a 0)
  where
    read : (x : Option ℕ) → and_then x (λ o. run image segments (header_in a (take 8 (drop o image)))) ≡ None
    read None = refl
    read (Some o) = rw e

    go : (b : Bool) → run image segments (cond b nothing (bytes a 8 (header_in a))) ≡ None
    go true = refl
    go false = read (bytes_place image segments a 8)

module _ (arrived segments rest : List ℕ) where
  header_kept_lem : (a : ℕ) → header_certain arrived segments a ≡ true → run (arrived ++ rest) segments (header a) ≡ run arrived segments (header a)
  unfolding header_certain
  header_kept_lem a e = go (leb (2 ^ 64) (a + 4)) refl e
    where
      go : (b : Bool) → leb (2 ^ 64) (a + 4) ≡ b → (b || certain arrived segments (header a)) ≡ true → run (arrived ++ rest) segments (header a) ≡ run arrived segments (header a)
      go true w f = wrapped (arrived ++ rest) segments a w ∙ sym (wrapped arrived segments a w)
      go false w f = certain_run segments (header a) arrived f rest

  context_kept : (h : Header) → certain arrived segments (name h.address h.flags) ≡ true → with_name (arrived ++ rest) segments h ≡ with_name arrived segments h
  unfolding with_name context_name
  context_kept h e = ap (λ n. record { header = h; name = n }) (certain_run segments (name h.address h.flags) arrived e rest)

  -- the contexts, and whether there is one more
  chain_kept : (n a : ℕ) → chain_certain arrived segments n a ≡ true
      → (chain (arrived ++ rest) segments n a ≡ chain arrived segments n a) × (run (arrived ++ rest) segments (header_at n a) ≡ run arrived segments (header_at n a))
  unfolding chain_certain chain header_at
  chain_kept zero a e = (refl, header_kept_lem a e)
  chain_kept (suc n) a e = go (run arrived segments (header a)) refl w.1 (λ b. chain_kept n b)
    where
      w : (header_certain arrived segments a ≡ true)
          × (if_there (run arrived segments (header a)) (λ h. certain arrived segments (name h.address h.flags) && chain_certain arrived segments n h.parent) ≡ true)
      w = (and-eq-true_iff (header_certain arrived segments a) _).0 e

      go : (x : Option Header) → run arrived segments (header a) ≡ x
          → if_there x (λ h. certain arrived segments (name h.address h.flags) && chain_certain arrived segments n h.parent) ≡ true
          → ((b : ℕ) → chain_certain arrived segments n b ≡ true
          → (chain (arrived ++ rest) segments n b ≡ chain arrived segments n b) × (run (arrived ++ rest) segments (header_at n b) ≡ run arrived segments (header_at n b)))
          → (chain (arrived ++ rest) segments (suc n) a ≡ chain arrived segments (suc n) a)
          × (run (arrived ++ rest) segments (header_at (suc n) a) ≡ run arrived segments (header_at (suc n) a))
      go None g f further =
          let g' : run (arrived ++ rest) segments (header a) ≡ None = header_kept_lem a w.0 ∙ g in (
            chain_by (arrived ++ rest) segments n a None g' ∙ sym (chain_by arrived segments n a None g),
            next_by (arrived ++ rest) segments n a None g' ∙ sym (next_by arrived segments n a None g),
          )
      go (Some h) g f further =
          let g' : run (arrived ++ rest) segments (header a) ≡ Some h = header_kept_lem a w.0 ∙ g in
          let v = (and-eq-true_iff (certain arrived segments (name h.address h.flags)) (chain_certain arrived segments n h.parent)).0 f in
          let u = further h.parent v.1 in
          let c : with_name (arrived ++ rest) segments h ≡ with_name arrived segments h = context_kept h v.0 in
          let d : chained (arrived ++ rest) segments n (Some h) ≡ chained arrived segments n (Some h) = rw (c, u.0) in (
            chain_by (arrived ++ rest) segments n a (Some h) g' ∙ d ∙ sym (chain_by arrived segments n a (Some h) g),
            next_by (arrived ++ rest) segments n a (Some h) g' ∙ u.1 ∙ sym (next_by arrived segments n a (Some h) g),
          )

  answer_kept : (r : TypeRow) (size : ℕ) → chain_certain arrived segments contexts_most r.parent ≡ true → name_answer (arrived ++ rest) segments r size ≡ name_answer arrived segments r size
  unfolding name_answer too_deep qualified_name
  answer_kept r size e = let u = chain_kept contexts_most r.parent e in rw (u.0, u.1)

module _ (segments types : List ℕ) (start i : ℕ) (arrived : List ℕ) (e : name_certain arrived segments types start i ≡ true) where
  -- whatever follows, the slot has the same joined name, or none
  pub name_kept : (rest : List ℕ) (size : ℕ) → joined_name (arrived ++ rest) segments types start i size ≡ joined_name arrived segments types start i size
  unfolding name_certain joined_name
  name_kept rest size = rw (certain_run segments (slot_row types start i) arrived w.0 rest) (go (run arrived segments (slot_row types start i)) w.1)
    where
      w : (certain arrived segments (slot_row types start i) ≡ true)
          × (if_there (run arrived segments (slot_row types start i)) (λ r. chain_certain arrived segments contexts_most r.parent) ≡ true)
      w = (and-eq-true_iff (certain arrived segments (slot_row types start i)) _).0 e

      go : (x : Option TypeRow) → if_there x (λ r. chain_certain arrived segments contexts_most r.parent) ≡ true
          → option_map (λ r. name_answer (arrived ++ rest) segments r size) x ≡ option_map (λ r. name_answer arrived segments r size) x
      go None f = refl
      go (Some r) f = ap Some (answer_kept arrived segments rest r size f)

  -- for every image that starts with these bytes
  pub name_first : (image : List ℕ) → take (length arrived) image ≡ arrived → (size : ℕ) → joined_name image segments types start i size ≡ joined_name arrived segments types start i size
  name_first image f size =
      let g : image ≡ arrived ++ drop (length arrived) image = sym (take-append-drop (length arrived) image) ∙ ap (λ (s : List ℕ). s ++ drop (length arrived) image) f in
      ap (λ (s : List ℕ). joined_name s segments types start i size) g ∙ name_kept (drop (length arrived) image) size

  -- and the row's line in the printed listing
  pub line_first : (r : TypeRow) → run arrived segments (slot_row types start i) ≡ Some r → (image : List ℕ) → take (length arrived) image ≡ arrived
      → (run image segments (slot_row types start i) ≡ Some r) × (row_line image segments r ≡ row_line arrived segments r)
  unfolding name_certain row_line name_text
  line_first r t image f =
      let w = (and-eq-true_iff (certain arrived segments (slot_row types start i)) (if_there (run arrived segments (slot_row types start i)) (λ r. chain_certain arrived segments contexts_most r.parent))).0 e in
      let c : chain_certain arrived segments contexts_most r.parent ≡ true = (rw t at w.1) in
      let g : arrived ++ drop (length arrived) image ≡ image = ap (λ (s : List ℕ). s ++ drop (length arrived) image) (sym f) ∙ take-append-drop (length arrived) image in
      let n : name_answer image segments r name_bytes ≡ name_answer arrived segments r name_bytes =
      ap (λ (s : List ℕ). name_answer s segments r name_bytes) (sym g) ∙ answer_kept arrived segments (drop (length arrived) image) r name_bytes c in
      (certain_first segments (slot_row types start i) arrived w.0 image f ∙ t, rw n)
