-- The premise on texts in terms of addresses and of paths. If the cut does not fall into the text of a name, it does not fall into a text
-- on the path that reads the name (`name-clear`), and conversely (`clear-name`): the premise asks for no more. A row's name is read by the
-- row (`row-text`), a context's by the program of the crate `parent` (`context-text`), so the premise for them is that of the calls
-- (`row-clear` and `clear-row`, `clear-context`, `clear-field`).
use Prim.Native.Nat.{ℕ, ◌+◌, ◌^◌, ◌≤◌}
use Rattle.std.proofs.Common.{arith, sym, ap, ◌∙◌, le-ltb}
use Rattle.std.proofs.Math.Path.{◌≡◌, refl, fun_ext}
use mathlib.Core.List.{List, [], ◌∷◌, ◌++◌}
use Rattle.std.specs.Prelude.{Bool, true, false, cond, drop, leb, eqb, Option, Some, None, option_map}
use Rattle.utf8.specs.Text.{until_nul}
use Rattle.util.specs.LittleEndian.{unsigned_in, signed_in}
use Rattle.util.specs.Pointer.{relative_pointer}
use Rattle.util.specs.Cstr.{text_at}
use Rattle.util.specs.declared.cstr.Place.{Place}
use Rattle.runtime.specs.Reads.{Reads, done, nothing, bytes, text, text_offset, run, Range, bytes_range, text_range, also, path, bind, All, Clear}
use Rattle.runtime.proofs.ReadsLaws.{path_bind}
use Rattle.runtime.proofs.PathLaws.{bytes_clear}
use Rattle.context.specs.Context.{context_kind, has_name}
use Rattle.typedescriptor.specs.Row.{TypeRow, name_address, type_row, row_name, descriptor}
use Rattle.typedescriptor.specs.Slots.{slots, slot_descriptor, read_at, slot_row}
use Rattle.vtable.specs.Entries.{Entry}
use Rattle.field.specs.Records.{descriptor_record}
use Rattle.parent.specs.Context.{Name, Header, slot_name, name_at, name}
use Rattle.items.specs.Keys.{Sections}
use Rattle.items.specs.Items.{map_reads, row_of_slot, context_of_slot}
use Rattle.items.specs.Texts.{NameKey, descriptor_name, slot_name_address, context_name_at, record_name, name_of, lookup, read_name, ClearAt, ClearOf}
use Rattle.items.proofs.ClearLaws.{nowhere}
use Rattle.items.proofs.ProgramLaws.{run_map, path_map, all_append, beside_row, on_slot_name, on_name}

-- ---- the programs that read a name are the calls'

bind_bind : {A B C : Type 0} (f : A → Reads B) (g : B → Reads C) (p : Reads A) → bind (bind p f) g ≡ bind p (λ a. bind (f a) g)
unfolding bind
bind_bind f g (done a) = refl
bind_bind f g nothing = refl
bind_bind f g (bytes a n k) = ap (bytes a n) (fun_ext (λ h. bind_bind f g (k h)))
bind_bind f g (text a k) = ap (text a) (fun_ext (λ p. fun_ext (λ t. bind_bind f g (k p t))))

-- a row's name
abbrev pub row_named : TypeRow → Name
row_named r = record { place = r.name; bytes = r.name_bytes }

descriptor_text : (a : ℕ) → bind (descriptor_name a) lookup ≡ bind (descriptor a) (λ r. done (row_named r))
unfolding descriptor_name descriptor row_name lookup bind
descriptor_text a = ap (bytes a 20) (fun_ext (λ h. named h (leb (2 ^ 64) (a + 8))))
  where
    named : (h : List ℕ) (b : Bool)
        → bind (cond b nothing (done (name_address a h))) lookup ≡ bind (cond b nothing (text (name_address a h) (λ p t. done (type_row a h p t)))) (λ r. done (row_named r))
    named h true = refl
    named h false = refl

pub row_text : (s : Sections) (i : ℕ) → read_name s (NameKey.descriptor i) ≡ map_reads row_named (row_of_slot s i)
unfolding read_name name_of slot_name_address slot_row map_reads bind
row_text s i = go (slot_descriptor s.types s.types_start i)
  where
    go : (t : Option ℕ) → bind (read_at t descriptor_name) lookup ≡ bind (read_at t descriptor) (λ r. done (row_named r))
    go None = refl
    go (Some a) = descriptor_text a

-- a context's
pub header_text : (h : Header) → bind (context_name_at h) lookup ≡ name h.address h.flags
unfolding context_name_at name name_at slot_name lookup bind
header_text h = go (has_name (context_kind h.flags)) (leb (2 ^ 64) (h.address + 8))
  where
    named : (b : List ℕ) (t : Bool) → bind (cond t nothing (done (relative_pointer (h.address + 8) (signed_in 4 b 0)))) lookup
        ≡ cond t nothing (text (relative_pointer (h.address + 8) (signed_in 4 b 0)) (λ p t. done (record { place = p; bytes = t })))
    named b true = refl
    named b false = refl

    go : (b d : Bool)
        → bind (cond b (cond d nothing (bytes (h.address + 8) 4 (λ b. cond (eqb (unsigned_in 4 b 0) 0) nothing (done (relative_pointer (h.address + 8) (signed_in 4 b 0)))))) nothing) lookup
        ≡ cond b (cond d nothing (bytes (h.address + 8) 4 (slot_name (h.address + 8)))) nothing
    go true false = ap (bytes (h.address + 8) 4) (fun_ext (λ b. named b (eqb (unsigned_in 4 b 0) 0)))
    go true true = refl
    go false d = refl

pub context_text : (s : Sections) (i k : ℕ) → read_name s (NameKey.context i k) ≡ bind (context_of_slot s i k) (λ h. name h.address h.flags)
unfolding read_name name_of
context_text s i k = bind_bind context_name_at lookup (context_of_slot s i k) ∙ ap (bind (context_of_slot s i k)) (fun_ext header_text)

module _ (image segments : List ℕ) (c : ℕ) where
  -- ---- a text at an address

  pub lookup_clear : (a : ℕ) → ClearAt image segments c a → All (Clear c) (path image segments (lookup a))
  unfolding path lookup
  lookup_clear a h = go (text_offset segments a) refl
    where
      named : Place → List ℕ → Name
      named p t = record { place = p; bytes = t }

      after : (o : ℕ) (y : Option Place) → All (Clear c) (also y (λ p. path image segments (done (named p (until_nul (drop o image))))))
      after o None = tt
      after o (Some p) = tt

      go : (x : Option ℕ) → text_offset segments a ≡ x
          → All (Clear c) (also x (λ o. text_range image o ∷ also (text_at image o) (λ p. path image segments (done (named p (until_nul (drop o image)))))))
      go None e = tt
      go (Some o) e = (h o e, after o (text_at image o))

  pub clear_lookup : (a : ℕ) → All (Clear c) (path image segments (lookup a)) → ClearAt image segments c a
  unfolding path lookup
  clear_lookup a h o e = (rw e at h).0

  -- ---- at the address that a program gives

  abbrev pub ClearBy : Reads ℕ → Type 0
  ClearBy p = (v : ℕ) → run image segments p ≡ Some v → ClearAt image segments c v

  pub text_clear : (p : Reads ℕ) → All (Clear c) (path image segments p) → ClearBy p → All (Clear c) (path image segments (bind p lookup))
  text_clear p h f = rw (path_bind image segments lookup p) (all_append (Clear c) (path image segments p) _ h (go (run image segments p) refl))
    where
      go : (x : Option ℕ) → run image segments p ≡ x → All (Clear c) (also x (λ a. path image segments (lookup a)))
      go None e = tt
      go (Some a) e = lookup_clear a (f a e)

  all_second : (l m : List Range) → All (Clear c) (l ++ m) → All (Clear c) m
  all_second [] m h = h
  all_second (r ∷ l) m h = all_second l m h.1

  pub clear_text : (p : Reads ℕ) → All (Clear c) (path image segments (bind p lookup)) → ClearBy p
  clear_text p h v e = clear_lookup v (all_second (path image segments p) _ (rw (path_bind image segments lookup p, e) at h))

  -- ---- of a key

  module _ (s : Sections) where
    -- a row's path is clear if the name of its slot's descriptor is
    pub row_clear : (i : ℕ) → ClearOf image segments s c (NameKey.descriptor i) → All (Clear c) (path image segments (row_of_slot s i))
    unfolding read_name name_of
    row_clear i h =
        let w : All (Clear c) (path image segments (read_name s (NameKey.descriptor i)))
        = text_clear (slot_name_address s i) (on_slot_name image segments (Clear c) (λ o n. bytes_clear c (bytes_range o n) refl) s i).all h in
        rw (row_text s i, path_map image segments row_named (row_of_slot s i)) at w

    -- the path of a name is clear if the name is, and the name of the row that it belongs to
    pub name_clear : (n : NameKey) → ((i : ℕ) → beside_row n ≡ Some i → ClearOf image segments s c (NameKey.descriptor i)) → ClearOf image segments s c n
        → All (Clear c) (path image segments (read_name s n))
    unfolding read_name
    name_clear n rows h =
        text_clear (name_of s n)
        (on_name image segments (Clear c) (λ o n. bytes_clear c (bytes_range o n) refl) s n (λ i e. record { all = row_clear i (rows i e) })).all h

    -- and if the path is clear, the name is: the premise asks for no more
    pub clear_name : (n : NameKey) → All (Clear c) (path image segments (read_name s n)) → ClearOf image segments s c n
    unfolding read_name
    clear_name n h = clear_text (name_of s n) h

    -- a slot past the last has no name
    pub no_slot_name : (i : ℕ) → slots s.types ≤ i → ClearOf image segments s c (NameKey.descriptor i)
    unfolding name_of slot_name_address run
    no_slot_name i h = nowhere image segments s c (NameKey.descriptor i) (simp (le-ltb i (slots s.types) h))

    -- in terms of what the calls read: a row; a context and its name; a field record and the text at its third word
    pub clear_row : (i : ℕ) → All (Clear c) (path image segments (row_of_slot s i)) → ClearOf image segments s c (NameKey.descriptor i)
    clear_row i h = clear_name (NameKey.descriptor i) (rw (row_text s i, path_map image segments row_named (row_of_slot s i)) h)

    pub clear_context : (i k : ℕ) → All (Clear c) (path image segments (bind (context_of_slot s i k) (λ h. name h.address h.flags)))
        → ClearOf image segments s c (NameKey.context i k)
    clear_context i k h = clear_name (NameKey.context i k) (rw (context_text s i k) h)

    pub clear_field : (j k : ℕ)
        → ((e : Entry) → run image segments (descriptor_record s.fields s.fields_start j k) ≡ Some e → All (Clear c) (path image segments (lookup (record_name e))))
        → ClearOf image segments s c (NameKey.field j k)
    unfolding name_of
    clear_field j k h a e = go (run image segments (descriptor_record s.fields s.fields_start j k)) refl (sym (run_map image segments record_name (descriptor_record s.fields s.fields_start j k)) ∙ e)
      where
        go : (x : Option Entry) → run image segments (descriptor_record s.fields s.fields_start j k) ≡ x
            → option_map record_name x ≡ Some a → ClearAt image segments c a
        go None t f = let z : ◌≡◌ {A = ℕ} 0 1 = cc in absurd (omega arith)
        go (Some y) t f = let q : record_name y ≡ a = cc in rw q at (clear_lookup (record_name y) (h y t))
