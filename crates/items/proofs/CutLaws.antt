-- The cut theorem over all items, and what follows from it. docs/CUT.md explains it.
use Prim.Native.Nat.{ℕ, zero, suc, ◌≤◌, min}
use Rattle.std.proofs.Math.Decide.{dec_le}
use Rattle.std.proofs.Common.{arith, sym, ap, ◌∙◌, inr, length-take, take_all, take-take}
use Rattle.std.specs.Prelude.{◌≡◌, List, [], ◌∷◌, true, false, length, take, Option, Some, None}
use Rattle.std.proofs.Math.Path.{refl}
use Rattle.std.proofs.Math.Bool.{Bool, cond, and-eq-true_iff}
use Rattle.runtime.specs.Reads.{Reads, and_then, run, Range, bytes_range, path, All, every, Clear, ends_by}
use Rattle.runtime.proofs.ReadsLaws.{cut, local, range_bytes}
use Rattle.runtime.proofs.PathLaws.{bytes_clear, by_ends}
use Rattle.typedescriptor.specs.Row.{TypeRow}
use Rattle.typedescriptor.specs.Slots.{slots, Found, found, rows_from, rows}
use Rattle.items.specs.Keys.{Sections, Key, Answer, slot_of}
use Rattle.items.specs.Items.{item, row_of_slot}
use Rattle.items.specs.Texts.{NameKey, name_of, read_name, ClearOf}
use Rattle.items.specs.Beside.{Beside, beside_of, is_field, section_beside, section_of}
use Rattle.items.proofs.ProgramLaws.{on_item}
use Rattle.items.proofs.PremiseLaws.{row_clear}
use Rattle.items.proofs.TextsLaws.{TextClaim, cut_beside}
use Rattle.items.proofs.OffsetsLaws.{offsets_told, cut_offsets}
use Rattle.items.specs.Claim.{Claim}

-- ---- the theorem

-- a text before the cut is clear of it
ends_clear : (c : ℕ) (l : List Range) → every (ends_by c) l ≡ true → All (Clear c) l
ends_clear c [] e = tt
ends_clear c (r ∷ l) e =
    let w = (and-eq-true_iff (ends_by c r) (every (ends_by c) l)).0 e in
    ((λ t. inr (by_ends c r w.0)), ends_clear c l w.1)

-- so a program that reads nothing after the cut gives the whole image's answer: no premise is needed
pub kept_run : {A : Type 0} (image segments : List ℕ) (c : ℕ) (p : Reads A) → every (ends_by c) (path image segments p) ≡ true
    → run (take c image) segments p ≡ run image segments p
kept_run image segments c p t = cut image segments c p (ends_clear c (path image segments p) t) ∙ rw t

module _ (image segments : List ℕ) (s : Sections) (c : ℕ) where
  -- for every item, under the premise for the texts on its own path
  pub cut_item : (k : Key) → All (Clear c) (path image segments (item s k)) → Claim image segments s c k
  cut_item k clear = cut image segments c (item s k) clear

  -- the only one of which is its row's name: the premise for that text alone
  abbrev pub OwnClear : Key → Type 0
  OwnClear k = (i : ℕ) → slot_of k ≡ Some i → ClearOf image segments s c (NameKey.descriptor i)

  pub own_clear : (k : Key) → OwnClear k → All (Clear c) (path image segments (item s k))
  own_clear k clear =
      on_item image segments (Clear c) (λ o n. bytes_clear c (bytes_range o n) refl) s k (λ i e. record { all = row_clear image segments c s i (clear i e) })

  pub cut_named : (k : Key) → OwnClear k → Claim image segments s c k
  cut_named k clear = cut_item k (own_clear k clear)

  -- ---- what follows

  -- what the cut image still gives, the whole image gives, word for word, from bytes before the cut
  pub survives : (k : Key) (x : Answer) → All (Clear c) (path image segments (item s k)) → run (take c image) segments (item s k) ≡ Some x
      → (run image segments (item s k) ≡ Some x) × (every (ends_by c) (path image segments (item s k)) ≡ true)
  survives k x clear e = go (every (ends_by c) (path image segments (item s k))) refl (sym (cut_item k clear) ∙ e)
    where
      go : (b : Bool) → every (ends_by c) (path image segments (item s k)) ≡ b → cond b (run image segments (item s k)) None ≡ Some x
          → (run image segments (item s k) ≡ Some x) × (every (ends_by c) (path image segments (item s k)) ≡ true)
      go true t f = (f, t)
      go false t f = let z : ◌≡◌ {A = ℕ} 0 1 = cc in absurd (omega arith)

  -- and what the whole image gives from bytes before the cut is not lost: no premise is needed
  pub kept : (k : Key) → every (ends_by c) (path image segments (item s k)) ≡ true → run (take c image) segments (item s k) ≡ run image segments (item s k)
  kept k t = kept_run image segments c (item s k) t

  -- a cut at the image's end, or past it, changes nothing: no premise is needed
  pub cut_whole : (k : Key) → length image ≤ c → run (take c image) segments (item s k) ≡ run image segments (item s k)
  cut_whole k h = rw (take_all c image h)

  -- cutting twice is cutting once, at the smaller length
  pub cut_twice : (k : Key) (d : ℕ) → run (take d (take c image)) segments (item s k) ≡ run (take (min d c) image) segments (item s k)
  cut_twice k d = ap (λ (l : List ℕ). run l segments (item s k)) (take_twice d c image)
    where
      take_twice : (d c : ℕ) (l : List ℕ) → take d (take c l) ≡ take (min d c) l
      take_twice d c l =
          elim (dec_le d c) [
            | yes h ↦ let e : min d c ≡ d = omega arith in rw e (take-take d c l h)
            | no h ↦
                let e : min d c ≡ c = omega arith in
                rw e (take_all d (take c l) (simp length-take (omega arith)))
          ]

-- ---- everything in a listing

-- what the cut image gives: all numbers of every item; the place and count of an offset list; and the place and the bytes of every text
-- that the cut does not fall into
pub record Cut (image segments strings : List ℕ) (start : ℕ) (s : Sections) (c : ℕ) : Type 0 where
  pub items : (k : Key) → Claim image segments s c k
  pub places : (i m : ℕ)
      → offsets_told (take c image) segments s i m ≡ cond (every (ends_by c) (path image segments (item s (Key.offsets i m)))) (offsets_told image segments s i m) None
  pub texts : (n : NameKey) → ClearOf image segments s c n → TextClaim image segments strings start s c n

module _ (image segments strings : List ℕ) (start : ℕ) (s : Sections) (c : ℕ) where
  -- the theorem: the cut does not fall into the name of a slot's descriptor
  pub the_cut : ((i : ℕ) → ClearOf image segments s c (NameKey.descriptor i)) → Cut image segments strings start s c
  the_cut clear =
      record {
        items = λ k. cut_named image segments s c k (λ i e. clear i);
        places = λ i m. cut_offsets image segments s c i m (own_clear image segments s c (Key.offsets i m) (λ j e. clear j));
        texts = λ n own. cut_beside image segments c strings start s n (λ i e. clear i) own;
      }

  -- nor into the name of a context or of a field record
  pub cut_listing : ((i : ℕ) → ClearOf image segments s c (NameKey.descriptor i))
      → ((i k : ℕ) → ClearOf image segments s c (NameKey.context i k))
      → ((j k : ℕ) → ClearOf image segments s c (NameKey.field j k))
      → ((k : Key) → Claim image segments s c k)
      × ((i k : ℕ) → TextClaim image segments strings start s c (NameKey.context i k))
      × ((j k : ℕ) → TextClaim image segments strings start s c (NameKey.field j k))
  cut_listing rows contexts fields =
      let w = the_cut rows in
      (w.items, (λ i k. w.texts (NameKey.context i k) (contexts i k)), (λ j k. w.texts (NameKey.field j k) (fields j k)))

  -- nor into any text that the listing of the whole image looks up
  pub cut_all : ((n : NameKey) → ClearOf image segments s c n)
      → ((k : Key) → Claim image segments s c k) × ((n : NameKey) → TextClaim image segments strings start s c n)
  cut_all clear =
      let w = the_cut (λ i. clear (NameKey.descriptor i)) in
      (w.items, (λ n. w.texts n (clear n)))

  -- what may become of a text: it is the whole image's, or it is missing, or, for a field's name, it is what the string section has at its
  -- address
  pub data Became (n : NameKey) : Type 0 where
    same : beside_of (take c image) segments strings start s n ≡ beside_of image segments strings start s n → Became n
    missing : beside_of (take c image) segments strings start s n ≡ None → Became n
    section : is_field n ≡ true → beside_of (take c image) segments strings start s n ≡ section_of image segments strings start s n → Became n

  pub becomes : (n : NameKey) → TextClaim image segments strings start s c n → Became n
  unfolding section_of
  becomes n e = go (every (ends_by c) (path image segments (read_name s n))) (every (ends_by c) (path image segments (name_of s n))) e
    where
      at : Bool → Option Beside
      at b = and_then (run image segments (name_of s n)) (λ a. cond b (section_beside strings start a) None)

      none_of : (x : Option ℕ) → and_then {B = Beside} x (λ _. None) ≡ None
      none_of None = refl
      none_of (Some a) = refl

      of_section : (b : Bool) → is_field n ≡ b → beside_of (take c image) segments strings start s n ≡ at b → Became n
      of_section true t f = section t (f ∙ ap at (sym t))
      of_section false t f = missing (f ∙ none_of (run image segments (name_of s n)))

      go : (a b : Bool)
          → beside_of (take c image) segments strings start s n
          ≡ cond a (beside_of image segments strings start s n) (cond b (section_of image segments strings start s n) None) → Became n
      go true b f = same f
      go false true f = of_section (is_field n) refl f
      go false false f = missing f

-- two images of one length that agree on the bytes of an item's path give the same item
pub local_item : (image image' segments : List ℕ) (s : Sections) (k : Key) → length image' ≡ length image
    → All (λ r. range_bytes image' r ≡ range_bytes image r) (path image segments (item s k)) → run image' segments (item s k) ≡ run image segments (item s k)
local_item image image' segments s k e h = local image image' segments (item s k) e h

-- ---- the rows in their order

-- those that pass a test
abbrev pub keep : {A : Type 0} → (A → Bool) → List A → List A
keep t [] = []
keep t (a ∷ l) = cond (t a) (a ∷ keep t l) (keep t l)

-- a row whose path lies before the cut
abbrev pub row_ends_by : List ℕ → List ℕ → Sections → ℕ → Found → Bool
row_ends_by image segments s c f = every (ends_by c) (path image segments (row_of_slot s f.slot))

-- the rows of the whole image whose paths lie before the cut
unfoldable pub kept_rows : List ℕ → List ℕ → Sections → ℕ → List Found
kept_rows image segments s c = keep (row_ends_by image segments s c) (rows image segments s.types s.types_start)

module _ (image segments : List ℕ) (s : Sections) (c : ℕ) (clear : (i : ℕ) → ClearOf image segments s c (NameKey.descriptor i)) where
  rows_from_lem : (n i : ℕ)
      → rows_from (take c image) segments s.types s.types_start n i ≡ keep (row_ends_by image segments s c) (rows_from image segments s.types s.types_start n i)
  unfolding rows_from
  rows_from_lem zero i = refl
  rows_from_lem (suc n) i = go (rows_from_lem n (suc i)) (run image segments (row_of_slot s i)) refl (every (ends_by c) (path image segments (row_of_slot s i))) refl
    where
      in_cut : run (take c image) segments (row_of_slot s i)
          ≡ cond (every (ends_by c) (path image segments (row_of_slot s i))) (run image segments (row_of_slot s i)) None
      in_cut = cut image segments c (row_of_slot s i) (row_clear image segments c s i (clear i))

      go : rows_from (take c image) segments s.types s.types_start n (suc i) ≡ keep (row_ends_by image segments s c) (rows_from image segments s.types s.types_start n (suc i))
          → (x : Option TypeRow) → run image segments (row_of_slot s i) ≡ x
          → (b : Bool) → every (ends_by c) (path image segments (row_of_slot s i)) ≡ b
          → rows_from (take c image) segments s.types s.types_start (suc n) i ≡ keep (row_ends_by image segments s c) (rows_from image segments s.types s.types_start (suc n) i)
      go further None e true t = let f : run (take c image) segments (row_of_slot s i) ≡ None = in_cut ∙ rw (t, e) in rw (rows_from, f, e) further
      go further None e false t = let f : run (take c image) segments (row_of_slot s i) ≡ None = in_cut ∙ rw t in rw (rows_from, f, e) further
      go further (Some r) e true t =
          let f : run (take c image) segments (row_of_slot s i) ≡ Some r = in_cut ∙ rw (t, e) in
          rw (rows_from, f, e, t) (ap (λ (l : List Found). found i r ∷ l) further)
      go further (Some r) e false t = let f : run (take c image) segments (row_of_slot s i) ≡ None = in_cut ∙ rw t in rw (rows_from, f, e, t) further

  -- the cut image's rows are, in order, those of the whole one whose paths lie before the cut: the same slots, addresses, flags and names
  pub cut_rows : rows (take c image) segments s.types s.types_start ≡ kept_rows image segments s c
  unfolding rows kept_rows
  cut_rows = rows_from_lem (slots s.types) 0
