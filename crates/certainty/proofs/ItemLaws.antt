-- What is certain of a listing. For a row one comparison decides: its name ends before the last byte that arrived (`row-certain`). The same
-- holds for a text beside an item (`text-certain`, `context-name-certain`), which is then that of every image that starts with these bytes
-- (`text-first`, `context-name-first`, `field-name-first`). Every item of a certain row that is in the listing of what arrived is an item
-- of every such image, word for word (`item-kept`, and `item-first` in plain numbers). Items of the fields section need no row.
use Prim.Native.Nat.{ℕ, ◌+◌, ◌^◌, ◌≤◌, ◌<◌}
use Rattle.std.proofs.Math.Decide.{dec_le, dec_lt}
use Rattle.std.proofs.Common.{arith, ◌∙◌, length-drop, le-leb, lt-ltb, le-ltb, ne_eqb}
use Rattle.std.proofs.Math.Path.{◌≡◌, refl, sym, ap}
use mathlib.Core.List.{List, ◌∷◌, ◌++◌}
use Rattle.std.specs.Prelude.{Bool, cond, ◌&&◌, take, drop, eqb, Option, Some, None, option_map}
use Rattle.std.proofs.Math.Bool.{true, false, and-eq-true_iff, and-true}
use Rattle.std.proofs.lemmas.Bool.{false≢true, lt-leb}
use Rattle.std.proofs.Math.ListN.{length}
use Rattle.std.proofs.Math.Dec.{leb, ltb}
use Rattle.utf8.specs.Text.{until_nul}
use Rattle.segment.specs.Segments.{segments_of, file_offset}
use Rattle.util.specs.LittleEndian.{unsigned_in, signed_in}
use Rattle.util.specs.Pointer.{relative_pointer}
use Rattle.util.specs.declared.cstr.Place.{Place}
use Rattle.util.specs.Cstr.{text_at}
use Rattle.runtime.specs.Reads.{Reads, done, nothing, bytes, text, and_then, within, bytes_place, text_offset, text_place, run, Range, bytes_range, text_range, also, path, All}
use Rattle.runtime.proofs.PathLaws.{BytesRead, TextRead, bytes_read_lem, text_read, text_at_is}
use Rattle.runtime.specs.FieldName.{field_name}
use Rattle.typedescriptor.specs.Row.{TypeRow, type_row, name_address, row_name, descriptor}
use Rattle.typedescriptor.specs.Slots.{slot_address, slot_row}
use Rattle.typedescriptor.proofs.PathLaws.{slot_program}
use Rattle.context.specs.Context.{context_kind, has_name}
use Rattle.parent.specs.Context.{Name, slot_name, name_at, name}
use Rattle.items.specs.Keys.{Sections, Key, Answer, slot_of}
use Rattle.items.specs.Items.{item, row_of_slot}
use Rattle.items.specs.Texts.{lookup}
use Rattle.items.proofs.ProgramLaws.{on_item, map_none}
use Rattle.items.proofs.ListedLaws.{no_row}
use Rattle.certainty.specs.Certain.{has_nul, if_there, certain}
use Rattle.certainty.proofs.CertainLaws.{nul_is, certain_run, certain_first}

-- ---- a text

-- the NUL of a text at an offset arrived if the text ends before the last byte
pub nul_before : (arrived : List ℕ) (o : ℕ) → o ≤ length arrived → has_nul (drop o arrived) ≡ ltb (o + length (until_nul (drop o arrived))) (length arrived)
nul_before arrived o h = nul_is (drop o arrived) ∙ go (dec_lt (length (until_nul (drop o arrived))) (length (drop o arrived)))
  where
    go : Dec (length (until_nul (drop o arrived)) < length (drop o arrived))
        → ltb (length (until_nul (drop o arrived))) (length (drop o arrived)) ≡ ltb (o + length (until_nul (drop o arrived))) (length arrived)
    go (yes l) = simp (lt-ltb _ _ l, lt-ltb (o + length (until_nul (drop o arrived))) (length arrived) (omega (arith, length-drop o arrived)))
    go (no l) =
        simp (
          le-ltb (length (until_nul (drop o arrived))) (length (drop o arrived)) (omega arith),
          le-ltb (o + length (until_nul (drop o arrived))) (length arrived) (omega (arith, length-drop o arrived)),
        )

-- the place of the text at an address
place_looked : (image segments : List ℕ) (a : ℕ) → option_map (λ n. n.place) (run image segments (lookup a)) ≡ text_place image segments a
unfolding lookup run text_place
place_looked image segments a = go (text_offset segments a)
  where
    at : (o : ℕ) (y : Option Place) → option_map (λ (n : Name). n.place) (and_then y (λ p. Some (record { place = p; bytes = until_nul (drop o image) }))) ≡ y
    at o None = refl
    at o (Some p) = refl

    go : (x : Option ℕ) → option_map (λ (n : Name). n.place) (and_then x (λ o. and_then (text_at image o) (λ p. Some (record { place = p; bytes = until_nul (drop o image) })))) ≡ and_then x (text_at image)
    go None = refl
    go (Some o) = at o (text_at image o)

module _ (arrived segments : List ℕ) where
  -- there is no text at an offset past the end
  pub found_inside : (o : ℕ) (p : Place) → text_at arrived o ≡ Some p → o ≤ length arrived
  unfolding text_at
  found_inside o p e = go (dec_le o (length arrived))
    where
      go : Dec (o ≤ length arrived) → o ≤ length arrived
      go (yes h) = h
      go (no h) =
          let f : ◌≡◌ {A = Option Place} None (Some p) = simp (lt-leb o (length arrived) (omega arith)) at e in
          let z : ◌≡◌ {A = ℕ} 0 1 = cc in
          absurd (omega arith)

  module _ {A : Type 0} (a : ℕ) where
    -- bytes that can be read: what is read after them decides
    bytes_there : (n : ℕ) (k : List ℕ → Reads A) (x : A) (w : BytesRead arrived segments a n k x)
        → certain arrived segments (bytes a n k) ≡ certain arrived segments (k (take n (drop w.offset arrived)))
    unfolding certain
    bytes_there n k x w = rw (certain, w.at) (simp (le-leb (w.offset + n) (length arrived) w.inside))

    -- a text that is found, and nothing read after it
    text_there : (f : Place → List ℕ → A) (x : A) (w : TextRead arrived segments a (λ p t. done (f p t)) x)
        → certain arrived segments (text a (λ p t. done (f p t))) ≡ ltb (w.place.start + w.place.size) (length arrived)
    unfolding certain text_offset
    text_there f x w =
        let o : ℕ = w.place.start in
        let size : w.place.size ≡ length (until_nul (drop o arrived)) = ap (λ (p : Place). p.size) (text_at_is arrived _ _ w.found) in
        simp (ne_eqb a 0 w.address)
        (rw (w.at, w.found, size) (and-true (has_nul (drop o arrived)) ∙ nul_before arrived o (found_inside o _ w.found)))

  -- a text that was found is certain if it ends before the last byte that arrived
  pub text_certain : (a : ℕ) (n : Name) → run arrived segments (lookup a) ≡ Some n
      → certain arrived segments (lookup a) ≡ ltb (n.place.start + n.place.size) (length arrived)
  unfolding lookup run
  text_certain a n e =
      let w : TextRead arrived segments a (λ p t. done (record { place = p; bytes = t })) n = text_read arrived segments a n _ e in
      let q : record { place = w.place; bytes = until_nul (drop w.place.start arrived) } ≡ n = (let g = w.goes in cc) in
      text_there a (λ p t. record { place = p; bytes = t }) n w ∙ ap (λ (m : Name). ltb (m.place.start + m.place.size) (length arrived)) q

  slot_name_certain : (v : ℕ) (h : List ℕ) (n : Name) → run arrived segments (slot_name v h) ≡ Some n
      → certain arrived segments (slot_name v h) ≡ ltb (n.place.start + n.place.size) (length arrived)
  unfolding slot_name lookup run certain
  slot_name_certain v h n e = go (eqb (unsigned_in 4 h 0) 0) e
    where
      go : (b : Bool) → run arrived segments (cond b nothing (lookup (relative_pointer v (signed_in 4 h 0)))) ≡ Some n
          → certain arrived segments (cond b nothing (lookup (relative_pointer v (signed_in 4 h 0)))) ≡ ltb (n.place.start + n.place.size) (length arrived)
      go true f = let z : ◌≡◌ {A = ℕ} 0 1 = cc in absurd (omega arith)
      go false f = text_certain (relative_pointer v (signed_in 4 h 0)) n f

  -- a context's name, whose offset is a separate read
  pub context_name_certain : (a flags : ℕ) (n : Name) → run arrived segments (name a flags) ≡ Some n
      → certain arrived segments (name a flags) ≡ ltb (n.place.start + n.place.size) (length arrived)
  unfolding name name_at run certain
  context_name_certain a flags n e = go (has_name (context_kind flags)) (leb (2 ^ 64) (a + 8)) e
    where
      go : (b d : Bool) → run arrived segments (cond b (cond d nothing (bytes (a + 8) 4 (slot_name (a + 8)))) nothing) ≡ Some n
          → certain arrived segments (cond b (cond d nothing (bytes (a + 8) 4 (slot_name (a + 8)))) nothing) ≡ ltb (n.place.start + n.place.size) (length arrived)
      go true false f =
          let w : BytesRead arrived segments (a + 8) 4 (slot_name (a + 8)) n = bytes_read_lem arrived segments (a + 8) n 4 (slot_name (a + 8)) f in
          bytes_there (a + 8) 4 (slot_name (a + 8)) n w ∙ slot_name_certain (a + 8) (take 4 (drop w.offset arrived)) n w.goes
      go true true f = let z : ◌≡◌ {A = ℕ} 0 1 = cc in absurd (omega arith)
      go false d f = let z : ◌≡◌ {A = ℕ} 0 1 = cc in absurd (omega arith)

  -- ---- a row

  descriptor_certain : (a : ℕ) (r : TypeRow) → run arrived segments (descriptor a) ≡ Some r
      → certain arrived segments (descriptor a) ≡ ltb (r.name.start + r.name.size) (length arrived)
  unfolding descriptor row_name run certain
  descriptor_certain a r e =
      let w : BytesRead arrived segments a 20 (row_name a) r = bytes_read_lem arrived segments a r 20 (row_name a) e in
      bytes_there a 20 (row_name a) r w ∙ go (take 20 (drop w.offset arrived)) (leb (2 ^ 64) (a + 8)) w.goes
    where
      go : (h : List ℕ) (b : Bool) → run arrived segments (cond b nothing (text (name_address a h) (λ p t. done (type_row a h p t)))) ≡ Some r
          → certain arrived segments (cond b nothing (text (name_address a h) (λ p t. done (type_row a h p t)))) ≡ ltb (r.name.start + r.name.size) (length arrived)
      go h true f = let z : ◌≡◌ {A = ℕ} 0 1 = cc in absurd (omega arith)
      go h false f =
          let v : TextRead arrived segments (name_address a h) (λ p t. done (type_row a h p t)) r = text_read arrived segments (name_address a h) r _ f in
          let q : type_row a h v.place (until_nul (drop v.place.start arrived)) ≡ r = (let g = v.goes in cc) in
          text_there (name_address a h) (type_row a h) r v ∙ ap (λ (m : TypeRow). ltb (m.name.start + m.name.size) (length arrived)) q

  -- a row that is in the listing of what arrived is certain if its name ends before the last byte
  pub row_certain : (types : List ℕ) (start i : ℕ) (r : TypeRow) → run arrived segments (slot_row types start i) ≡ Some r
      → certain arrived segments (slot_row types start i) ≡ ltb (r.name.start + r.name.size) (length arrived)
  row_certain types start i r e =
      let p : slot_row types start i ≡ descriptor (slot_address types start i) = slot_program arrived segments types start i r e in
      ap (certain arrived segments) p ∙ descriptor_certain (slot_address types start i) r (rw p at e)

  -- ---- what one comparison says: the answer is that of every image that starts with these bytes

  pub text_first : (a : ℕ) (n : Name) → run arrived segments (lookup a) ≡ Some n → n.place.start + n.place.size < length arrived
      → (image : List ℕ) → take (length arrived) image ≡ arrived → run image segments (lookup a) ≡ Some n
  text_first a n e h image f = certain_first segments (lookup a) arrived (text_certain a n e ∙ lt-ltb _ _ h) image f ∙ e

  pub context_name_first : (a flags : ℕ) (n : Name) → run arrived segments (name a flags) ≡ Some n → n.place.start + n.place.size < length arrived
      → (image : List ℕ) → take (length arrived) image ≡ arrived → run image segments (name a flags) ≡ Some n
  context_name_first a flags n e h image f = certain_first segments (name a flags) arrived (context_name_certain a flags n e ∙ lt-ltb _ _ h) image f ∙ e

  -- a field's name, in the image or, if it is certain that the image has none, in the string section
  pub field_name_first : (a : ℕ) → certain arrived segments (lookup a) ≡ true → (image : List ℕ) → take (length arrived) image ≡ arrived
      → (strings : List ℕ) (start : ℕ) → field_name image segments strings start a ≡ field_name arrived segments strings start a
  unfolding field_name
  field_name_first a e image f strings start =
      let same : text_place image segments a ≡ text_place arrived segments a =
      sym (place_looked image segments a) ∙ ap (option_map (λ n. n.place)) (certain_first segments (lookup a) arrived e image f) ∙ place_looked arrived segments a in
      rw same

  -- ---- an item

  -- a range of a path that is not a text, or whose NUL arrived
  abbrev pub Ended : Range → Type 0
  Ended r = r.is_text ≡ true → has_nul (drop r.from arrived) ≡ true

  module _ {A : Type 0} where
    -- each text of a certain program has its NUL
    certain_ends : (p : Reads A) → certain arrived segments p ≡ true → All Ended (path arrived segments p)
    unfolding certain path bytes_place within
    certain_ends (done a) e = tt
    certain_ends nothing e = tt
    certain_ends (bytes address n k) e = go (file_offset (segments_of segments) address) (λ h. certain_ends (k h)) e
      where
        go : (x : Option ℕ) → ((h : List ℕ) → certain arrived segments (k h) ≡ true → All Ended (path arrived segments (k h)))
            → if_there x (λ o. leb (o + n) (length arrived) && certain arrived segments (k (take n (drop o arrived)))) ≡ true
            → All Ended (also (and_then x (within (length arrived) n)) (λ o. bytes_range o n ∷ path arrived segments (k (take n (drop o arrived)))))
        go None ends f = tt
        go (Some o) ends f =
            let w = (and-eq-true_iff (leb (o + n) (length arrived)) (certain arrived segments (k (take n (drop o arrived))))).0 f in
            simp w.0 ((λ t. absurd (false≢true t)), ends (take n (drop o arrived)) w.1)
    certain_ends (text address k) e = go (text_offset segments address) (λ p t. certain_ends (k p t)) e
      where
        found : (o : ℕ) (y : Option Place) → ((p : Place) (t : List ℕ) → certain arrived segments (k p t) ≡ true → All Ended (path arrived segments (k p t)))
            → if_there y (λ p. certain arrived segments (k p (until_nul (drop o arrived)))) ≡ true
            → All Ended (also y (λ p. path arrived segments (k p (until_nul (drop o arrived)))))
        found o None ends f = tt
        found o (Some p) ends f = ends p (until_nul (drop o arrived)) f

        go : (x : Option ℕ) → ((p : Place) (t : List ℕ) → certain arrived segments (k p t) ≡ true → All Ended (path arrived segments (k p t)))
            → if_there x (λ o. has_nul (drop o arrived) && if_there (text_at arrived o) (λ p. certain arrived segments (k p (until_nul (drop o arrived))))) ≡ true
            → All Ended (also x (λ o. text_range arrived o ∷ also (text_at arrived o) (λ p. path arrived segments (k p (until_nul (drop o arrived))))))
        go None ends f = tt
        go (Some o) ends f =
            let w = (and-eq-true_iff (has_nul (drop o arrived)) (if_there (text_at arrived o) (λ p. certain arrived segments (k p (until_nul (drop o arrived)))))).0 f in
            ((λ t. w.0), found o (text_at arrived o) ends w.1)

    -- and a program that answers, and whose texts have their NUL, is certain
    pub answers_certain : (p : Reads A) (x : A) → run arrived segments p ≡ Some x → All Ended (path arrived segments p) → certain arrived segments p ≡ true
    unfolding certain run path bytes_place within
    answers_certain (done a) x e = λ _. refl
    answers_certain nothing x e = λ _. refl
    answers_certain (bytes address n k) x e = go (file_offset (segments_of segments) address) (λ h. answers_certain (k h) x) e
      where
        go : (y : Option ℕ) → ((h : List ℕ) → run arrived segments (k h) ≡ Some x → All Ended (path arrived segments (k h)) → certain arrived segments (k h) ≡ true)
            → and_then (and_then y (within (length arrived) n)) (λ o. run arrived segments (k (take n (drop o arrived)))) ≡ Some x
            → All Ended (also (and_then y (within (length arrived) n)) (λ o. bytes_range o n ∷ path arrived segments (k (take n (drop o arrived)))))
            → if_there y (λ o. leb (o + n) (length arrived) && certain arrived segments (k (take n (drop o arrived)))) ≡ true
        go None sure f = λ _. refl
        go (Some o) sure f = at (dec_le (o + n) (length arrived)) f
          where
            at : Dec (o + n ≤ length arrived) → and_then (within (length arrived) n o) (λ q. run arrived segments (k (take n (drop q arrived)))) ≡ Some x
                → All Ended (also (within (length arrived) n o) (λ q. bytes_range q n ∷ path arrived segments (k (take n (drop q arrived)))))
                → (leb (o + n) (length arrived) && certain arrived segments (k (take n (drop o arrived)))) ≡ true
            at (yes h) g =
                let f : run arrived segments (k (take n (drop o arrived))) ≡ Some x = simp (le-leb (o + n) (length arrived) h) at g in
                simp (le-leb (o + n) (length arrived) h) (λ w. sure (take n (drop o arrived)) f w.1)
            at (no h) g =
                let f : ◌≡◌ {A = Option A} None (Some x) = simp (lt-leb (o + n) (length arrived) (omega arith)) at g in
                let z : ◌≡◌ {A = ℕ} 0 1 = cc in
                absurd (omega arith)
    answers_certain (text address k) x e = go (text_offset segments address) (λ p t. answers_certain (k p t) x) e
      where
        found : (o : ℕ) (y : Option Place) → ((p : Place) (t : List ℕ) → run arrived segments (k p t) ≡ Some x → All Ended (path arrived segments (k p t)) → certain arrived segments (k p t) ≡ true)
            → and_then y (λ p. run arrived segments (k p (until_nul (drop o arrived)))) ≡ Some x
            → All Ended (also y (λ p. path arrived segments (k p (until_nul (drop o arrived)))))
            → if_there y (λ p. certain arrived segments (k p (until_nul (drop o arrived)))) ≡ true
        found o None sure f w = refl
        found o (Some p) sure f w = sure p (until_nul (drop o arrived)) f w

        go : (y : Option ℕ) → ((p : Place) (t : List ℕ) → run arrived segments (k p t) ≡ Some x → All Ended (path arrived segments (k p t)) → certain arrived segments (k p t) ≡ true)
            → and_then y (λ o. and_then (text_at arrived o) (λ p. run arrived segments (k p (until_nul (drop o arrived))))) ≡ Some x
            → All Ended (also y (λ o. text_range arrived o ∷ also (text_at arrived o) (λ p. path arrived segments (k p (until_nul (drop o arrived))))))
            → if_there y (λ o. has_nul (drop o arrived) && if_there (text_at arrived o) (λ p. certain arrived segments (k p (until_nul (drop o arrived))))) ≡ true
        go None sure f w = refl
        go (Some o) sure f w = rw (w.0 refl) (found o (text_at arrived o) sure f w.1)

  row_gone : (s : Sections) (i : ℕ) → run arrived segments (row_of_slot s i) ≡ None → run arrived segments (item s (Key.row i)) ≡ None
  unfolding item
  row_gone s i e = map_none arrived segments (row_of_slot s i) e Answer.row

  module _ (s : Sections) (k : Key) (x : Answer) (e : run arrived segments (item s k) ≡ Some x) where
    -- an item that is in the listing of what arrived is certain if its row is
    pub item_certain : ((i : ℕ) → slot_of k ≡ Some i → certain arrived segments (row_of_slot s i) ≡ true) → certain arrived segments (item s k) ≡ true
    item_certain row =
        answers_certain (item s k) x e
        (on_item arrived segments Ended (λ o n t. absurd (false≢true t)) s k (λ i q. record { all = certain_ends (row_of_slot s i) (row i q) }))

    -- then it is an item of every image that starts with these bytes, word for word
    pub item_kept : ((i : ℕ) → slot_of k ≡ Some i → certain arrived segments (row_of_slot s i) ≡ true) → (rest : List ℕ) → run (arrived ++ rest) segments (item s k) ≡ Some x
    item_kept row rest = certain_run segments (item s k) arrived (item_certain row) rest ∙ e

    -- the same in plain numbers: the name of its row ends before the last byte that arrived
    pub item_first : ((i : ℕ) (r : TypeRow) → slot_of k ≡ Some i → run arrived segments (row_of_slot s i) ≡ Some r → r.name.start + r.name.size < length arrived)
        → (image : List ℕ) → take (length arrived) image ≡ arrived → run image segments (item s k) ≡ Some x
    item_first before image f = certain_first segments (item s k) arrived (item_certain row) image f ∙ e
      where
        row : (i : ℕ) → slot_of k ≡ Some i → certain arrived segments (row_of_slot s i) ≡ true
        row i q = go (run arrived segments (row_of_slot s i)) refl
          where
            go : (y : Option TypeRow) → run arrived segments (row_of_slot s i) ≡ y → certain arrived segments (row_of_slot s i) ≡ true
            go None g =
                let n : run arrived segments (item s k) ≡ None = no_row arrived segments s k i q (row_gone s i g) in
                let z : ◌≡◌ {A = ℕ} 0 1 = cc in
                absurd (omega arith)
            go (Some r) g = row_certain s.types s.types_start i r g ∙ lt-ltb _ _ (before i r q g)
