-- The laws of the language of reads, each by one induction over the program: composition (`run_bind`, `path-bind`), locality (`local`) and
-- the cut (`cut`).
use Rattle.std.specs.Prelude.{ℕ, zero, suc, ◌+◌, ◌-◌, ◌≤◌, ◌<◌, min, ◌≡◌, ◌⊎◌, Bool, true, false, ◌&&◌, drop, Option, Some, None, option_map}
use Rattle.std.proofs.Math.Nat.{add-sub_cancel_left}
use Rattle.std.proofs.Math.Decide.{dec_le}
use Rattle.std.proofs.Common.{arith, ◌∙◌, inl, inr, ⊎_elim, length-take, length-drop, take-take}
use Rattle.std.proofs.Math.Path.{refl, ap}
use mathlib.Core.List.{List, [], ◌∷◌, ◌++◌}
use Rattle.std.proofs.Math.Bool.{cond}
use Rattle.std.proofs.Math.ListN.{length, take}
use borrow.Author.Tests.{le-leb, lt-leb}
use Rattle.utf8.specs.Text.{until_nul, well_formed, text_length}
use Rattle.segment.specs.Segments.{segments_of, file_offset}
use Rattle.util.specs.declared.cstr.Place.{Place}
use Rattle.util.specs.Cstr.{place, text_at}
use Rattle.runtime.specs.Reads.{Reads, done, nothing, bytes, text, and_then, within, bytes_place, text_offset, run, Range, extent, bytes_range, text_range, also, path, bind, All, every, Clear, ends_by}

-- ---- composition

then_then : {A B C : Type 0} (x : Option A) (g : A → Option B) (h : A → Option C) (f : B → Option C)
    → ((a : A) → h a ≡ and_then (g a) f) → and_then x h ≡ and_then (and_then x g) f
then_then None g h f e = refl
then_then (Some a) g h f e = e a

also_then : {A B : Type 0} (x : Option A) (g : A → Option B) (h j : A → List Range) (f : B → List Range)
    → ((a : A) → h a ≡ j a ++ also (g a) f) → also x h ≡ also x j ++ also (and_then x g) f
also_then None g h j f e = refl
also_then (Some a) g h j f e = e a

module _ (image segments : List ℕ) {A B : Type 0} (f : A → Reads B) where
  -- reading one thing and then another answers what the second answers after the first
  pub run_bind : (p : Reads A) → run image segments (bind p f) ≡ and_then (run image segments p) (λ a. run image segments (f a))
  unfolding run bind
  run_bind (done a) = refl
  run_bind nothing = refl
  run_bind (bytes address n k) =
      then_then (bytes_place image segments address n) _ _ _ (λ o. run_bind (k (take n (drop o image))))
  run_bind (text address k) =
      then_then (text_offset segments address) _ _ _
      (λ o. then_then (text_at image o) _ _ _ (λ p. run_bind (k p (until_nul (drop o image)))))

  -- and reads the bytes of the first, then those of the second
  pub path_bind : (p : Reads A) → path image segments (bind p f) ≡ path image segments p ++ also (run image segments p) (λ a. path image segments (f a))
  unfolding run path bind
  path_bind (done a) = refl
  path_bind nothing = refl
  path_bind (bytes address n k) =
      also_then (bytes_place image segments address n) _ _ _ _
      (λ o. ap (λ (l : List Range). bytes_range o n ∷ l) (path_bind (k (take n (drop o image)))))
  path_bind (text address k) =
      also_then (text_offset segments address) _ _ _ _
      (λ o. ap (λ (l : List Range). text_range image o ∷ l)
      (also_then (text_at image o) _ _ _ _ (λ p. path_bind (k p (until_nul (drop o image))))))

-- ---- two images

-- the bytes of a range
abbrev pub range_bytes : List ℕ → Range → List ℕ
range_bytes s r = take (r.to - r.from) (drop r.from s)

-- the second image has the range's bytes as the first has them
pub record Agrees (image image' : List ℕ) (r : Range) : Type 0 where
  pub same : range_bytes image' r ≡ range_bytes image r
  pub held : min r.to (length image) ≤ length image'

-- it is too short for them: for bytes before their end, for a text before its start
pub record Missing (image' : List ℕ) (r : Range) : Type 0 where
  pub short : length image' < cond r.is_text r.from r.to

never : {x : ℕ} {s : List ℕ} → [] ≡ x ∷ s → ⊥
never e = let z : ◌≡◌ {A = ℕ} 0 1 = cc in omega arith

head_is : {x y : ℕ} {s t : List ℕ} → x ∷ s ≡ y ∷ t → x ≡ y
head_is e = cc

tail_is : {x y : ℕ} {s t : List ℕ} → x ∷ s ≡ y ∷ t → s ≡ t
tail_is e = cc

-- a list that is not longer and agrees over the extent has the same text
until_same : (s s' : List ℕ) → length s' ≤ length s → take (extent s) s' ≡ take (extent s) s → until_nul s' ≡ until_nul s
unfolding extent until_nul
until_same [] [] h e = refl
until_same [] (x ∷ s') h e = absurd (omega arith)
until_same (zero ∷ s) [] h e = absurd (never e)
until_same (zero ∷ s) (y ∷ s') h e = ap (λ (z : ℕ). until_nul (z ∷ s')) (head_is e)
until_same (suc b ∷ []) [] h e = absurd (never e)
until_same (suc b ∷ []) (y ∷ []) h e = ap (λ (z : ℕ). until_nul (z ∷ [])) (head_is e)
until_same (suc b ∷ []) (y ∷ (z ∷ s')) h e = absurd (omega arith)
until_same (suc b ∷ (x ∷ s)) [] h e = absurd (never e)
until_same (suc b ∷ (x ∷ s)) (y ∷ s') h e =
    ap (λ (z : ℕ). until_nul (z ∷ s')) (head_is e) ∙ ap (λ (t : List ℕ). suc b ∷ t) (until_same (x ∷ s) s' (omega arith) (tail_is e))

text_same : (s s' : List ℕ) (o : ℕ) → until_nul (drop o s') ≡ until_nul (drop o s) → o ≤ length s → o ≤ length s' → text_at s' o ≡ text_at s o
unfolding text_at text_length
text_same s s' o e h h' =
    simp (le-leb o (length s) h, le-leb o (length s') h')
    (ap (λ (u : List ℕ). option_map (place o) (elim (well_formed u) as (λ _. Option ℕ) [ true ↦ Some (length u) | false ↦ None ])) e)

text_missing : (s : List ℕ) (o : ℕ) → length s < o → text_at s o ≡ None
unfolding text_at
text_missing s o h = simp (lt-leb o (length s) h)

-- what is asked of each range: if it is good, the images agree; otherwise the second one is too short
abbrev Judged : List ℕ → List ℕ → (Range → Bool) → Range → Type 0
Judged image image' good r = ((good r ≡ true) × Agrees image image' r) ⊎ ((good r ≡ false) × Missing image' r)

module _ (image image' segments : List ℕ) (shorter : length image' ≤ length image) (good : Range → Bool) where
  -- the second image gives the first one's answer if each range of the path is good, else none
  abbrev Holds : {A : Type 0} → Reads A → Type 0
  Holds p = All (Judged image image' good) (path image segments p) → run image' segments p ≡ cond (every good (path image segments p)) (run image segments p) None

  text_agrees : (o : ℕ) → Agrees image image' (text_range image o) → o ≤ length image
      → (until_nul (drop o image') ≡ until_nul (drop o image)) × (text_at image' o ≡ text_at image o)
  text_agrees o a h =
      let same : take (extent (drop o image)) (drop o image') ≡ take (extent (drop o image)) (drop o image) = rw add-sub_cancel_left at a.same in
      let fewer : length (drop o image') ≤ length (drop o image) = simp length-drop (omega arith) in
      let u : until_nul (drop o image') ≡ until_nul (drop o image) = until_same _ _ fewer same in
      (u, text_same image image' o u h (omega (arith, a.held)))

  module _ {A : Type 0} where
    -- bytes that the first image has
    bytes_here : (o n : ℕ) (k : List ℕ → Reads A) → o + n ≤ length image → Holds (k (take n (drop o image)))
        → Judged image image' good (bytes_range o n) × All (Judged image image' good) (path image segments (k (take n (drop o image))))
        → and_then (within (length image') n o) (λ q. run image' segments (k (take n (drop q image'))))
        ≡ cond (good (bytes_range o n) && every good (path image segments (k (take n (drop o image))))) (run image segments (k (take n (drop o image)))) None
    unfolding within
    bytes_here o n k h ih j = go j.0
      where
        go : Judged image image' good (bytes_range o n)
            → and_then (within (length image') n o) (λ q. run image' segments (k (take n (drop q image'))))
            ≡ cond (good (bytes_range o n) && every good (path image segments (k (take n (drop o image))))) (run image segments (k (take n (drop o image)))) None
        go (inl w) =
            let fits : o + n ≤ length image' = omega (arith, w.1.held) in
            let e : take n (drop o image') ≡ take n (drop o image) = rw add-sub_cancel_left at w.1.same in
            simp (le-leb (o + n) (length image') fits, w.0) (rw e (ih j.1))
        go (inr w) = simp (lt-leb (o + n) (length image') w.1.short, w.0)

    bytes_step : (n : ℕ) (k : List ℕ → Reads A) (x : Option ℕ) → ((bs : List ℕ) → Holds (k bs))
        → All (Judged image image' good) (also (and_then x (within (length image) n)) (λ o. bytes_range o n ∷ path image segments (k (take n (drop o image)))))
        → and_then (and_then x (within (length image') n)) (λ o. run image' segments (k (take n (drop o image'))))
        ≡ cond (every good (also (and_then x (within (length image) n)) (λ o. bytes_range o n ∷ path image segments (k (take n (drop o image))))))
        (and_then (and_then x (within (length image) n)) (λ o. run image segments (k (take n (drop o image))))) None
    unfolding within
    bytes_step n k None ih = λ j. refl
    bytes_step n k (Some o) ih = go (dec_le (o + n) (length image))
      where
        go : Dec (o + n ≤ length image)
            → All (Judged image image' good) (also (within (length image) n o) (λ o. bytes_range o n ∷ path image segments (k (take n (drop o image)))))
            → and_then (within (length image') n o) (λ o. run image' segments (k (take n (drop o image'))))
            ≡ cond (every good (also (within (length image) n o) (λ o. bytes_range o n ∷ path image segments (k (take n (drop o image))))))
            (and_then (within (length image) n o) (λ o. run image segments (k (take n (drop o image))))) None
        go (yes h) = simp (le-leb (o + n) (length image) h) (bytes_here o n k h (ih _))
        go (no h) = simp (lt-leb (o + n) (length image) (omega arith), lt-leb (o + n) (length image') (omega arith)) (λ j. refl)

    text_found : (k : Place → Reads A) (y : Option Place) → ((p : Place) → Holds (k p))
        → All (Judged image image' good) (also y (λ p. path image segments (k p)))
        → and_then y (λ p. run image' segments (k p)) ≡ cond (every good (also y (λ p. path image segments (k p)))) (and_then y (λ p. run image segments (k p))) None
    text_found k None ih j = refl
    text_found k (Some p) ih j = ih p j

    text_step : (k : Place → List ℕ → Reads A) (x : Option ℕ) → ((p : Place) (bs : List ℕ) → Holds (k p bs))
        → All (Judged image image' good) (also x (λ o. text_range image o ∷ also (text_at image o) (λ p. path image segments (k p (until_nul (drop o image))))))
        → and_then x (λ o. and_then (text_at image' o) (λ p. run image' segments (k p (until_nul (drop o image')))))
        ≡ cond (every good (also x (λ o. text_range image o ∷ also (text_at image o) (λ p. path image segments (k p (until_nul (drop o image)))))))
        (and_then x (λ o. and_then (text_at image o) (λ p. run image segments (k p (until_nul (drop o image)))))) None
    text_step k None ih j = refl
    text_step k (Some o) ih j = go j.0 (dec_le o (length image))
      where
        go : Judged image image' good (text_range image o) → Dec (o ≤ length image)
            → and_then (text_at image' o) (λ p. run image' segments (k p (until_nul (drop o image'))))
            ≡ cond (good (text_range image o) && every good (also (text_at image o) (λ p. path image segments (k p (until_nul (drop o image))))))
            (and_then (text_at image o) (λ p. run image segments (k p (until_nul (drop o image))))) None
        go (inl w) (yes h) =
            let a = text_agrees o w.1 h in
            rw (a.0, a.1, w.0) (text_found (λ p. k p (until_nul (drop o image))) (text_at image o) (λ p. ih p _) j.1)
        go (inl w) (no h) = simp (text_missing image o (omega arith), text_missing image' o (omega arith), w.0)
        go (inr w) d = simp (text_missing image' o w.1.short, w.0)

    pub judged : (p : Reads A) → Holds p
    unfolding run path bytes_place
    judged (done a) = λ j. refl
    judged nothing = λ j. refl
    judged (bytes address n k) = bytes_step n k (file_offset (segments_of segments) address) (λ bs. judged (k bs))
    judged (text address k) = text_step k (text_offset segments address) (λ p bs. judged (k p bs))

map_all : {P Q : Range → Type 0} → ((r : Range) → P r → Q r) → (l : List Range) → All P l → All Q l
map_all f [] h = tt
map_all f (r ∷ rs) h = (f r h.0, map_all f rs h.1)

-- ---- locality

every_true : (l : List Range) → every (λ _. true) l ≡ true
every_true [] = refl
every_true (r ∷ rs) = every_true rs

-- two images of one length that agree on every byte of the path give the same answer
pub local : (image image' segments : List ℕ) {A : Type 0} (p : Reads A) → length image' ≡ length image
    → All (λ r. range_bytes image' r ≡ range_bytes image r) (path image segments p) → run image' segments p ≡ run image segments p
local image image' segments p e h =
    judged image image' segments (omega arith) (λ _. true) p
    (map_all (λ r s. inl (refl, record { same = s; held = omega arith })) (path image segments p) h)
    ∙ rw every_true

-- ---- the cut

take_cut : (m f c : ℕ) (s : List ℕ) → (0 < m → f + m ≤ c) → take m (drop f (take c s)) ≡ take m (drop f s)
take_cut zero f c s h = refl
take_cut (suc m) f c s h = go f c s (h (omega arith))
  where
    go : (f c : ℕ) (s : List ℕ) → f + suc m ≤ c → take (suc m) (drop f (take c s)) ≡ take (suc m) (drop f s)
    go zero c s h = take-take (suc m) c s (omega arith)
    go (suc f) zero s h = absurd (omega arith)
    go (suc f) (suc c) [] h = refl
    go (suc f) (suc c) (x ∷ s) h = go f c s (omega arith)

cut_judged : (image : List ℕ) (c : ℕ) (r : Range) → Clear c r → Judged image (take c image) (ends_by c) r
cut_judged image c r clear = go (dec_le r.to c)
  where
    short : (t : Bool) → (t ≡ true → (c < r.from) ⊎ (r.to ≤ c)) → c < r.to → length (take c image) < cond t r.from r.to
    short false h l = simp length-take (omega arith)
    short true h l = simp length-take (⊎_elim (λ w. omega arith) (λ w. absurd (omega arith)) (h refl))

    go : Dec (r.to ≤ c) → Judged image (take c image) (ends_by c) r
    go (yes h) =
        inl (le-leb r.to c h, record { same = take_cut (r.to - r.from) r.from c image (λ z. omega arith); held = simp length-take (omega arith) })
    go (no h) = inr (lt-leb r.to c (omega arith), record { short = short r.is_text clear (omega arith) })

-- the image cut to its first `c` bytes gives the whole image's answer if every range of the path ends at or before the cut, else none
pub cut : (image segments : List ℕ) (c : ℕ) {A : Type 0} (p : Reads A) → All (Clear c) (path image segments p)
    → run (take c image) segments p ≡ cond (every (ends_by c) (path image segments p)) (run image segments p) None
cut image segments c p clear =
    judged image (take c image) segments (simp length-take (omega arith)) (ends_by c) p
    (map_all (cut_judged image c) (path image segments p) clear)
