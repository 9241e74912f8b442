-- The place of an offset list in the image is a number that the calls return and not a number of the item, which depends on no image. It
-- goes with the item: the cut image gives the whole image's place and count if the item's path ends at or before the cut, and nothing
-- otherwise (`cut-offsets`).
use Rattle.std.specs.Prelude.{ℕ, ◌+◌, ◌*◌, ◌≡◌, Bool, cond, length, take, leb, Option, Some, None, option_map}
use Rattle.std.proofs.Math.Path.{refl, sym, ap}
use Rattle.std.proofs.Common.{◌∙◌}
use mathlib.Core.List.{List, ◌++◌}
use Rattle.std.proofs.Math.Bool.{true, false}
use Rattle.segment.specs.Segments.{segments_of, file_offset}
use Rattle.runtime.specs.Reads.{Reads, done, bytes, and_then, within, bytes_place, run, Range, also, path, bind, All, every, Clear, ends_by}
use Rattle.runtime.proofs.ReadsLaws.{run_bind, path_bind, cut}
use Rattle.type_body.specs.Body.{Body}
use Rattle.type_body.specs.Singleton.{needing}
use Rattle.field_offsets.specs.Offsets.{Vector, vector, u32s, field_offsets, slot_offsets, offsets, offsets_place}
use Rattle.field_offsets.specs.declared.offsets.FieldOffsets.{FieldOffsets}
use Rattle.items.specs.Keys.{Sections, Key, Answer}
use Rattle.items.specs.Items.{item, body_of_slot, offsets_of_slot}
use Rattle.items.proofs.ProgramLaws.{path_map}

-- what `field_offsets` returns for a slot's body and a metadata address: the place and the count of its offset list
unfoldable pub offsets_told : List ℕ → List ℕ → Sections → ℕ → ℕ → Option FieldOffsets
offsets_told image segments s i m = and_then (run image segments (body_of_slot s i)) (λ b. offsets_place image segments (Some b) m)

-- the reads of the item, with the vector as the answer
vector_read : Body → ℕ → Reads Vector
vector_read b m = needing (vector b m) (λ v. bytes v.address (4 * v.count) (λ h. done v))

-- the vector's place is that of its address, whatever the image
placed : List ℕ → Vector → Option FieldOffsets
placed segments v = option_map (λ o. offsets o v.count) (file_offset (segments_of segments) v.address)

module _ (image segments : List ℕ) (s : Sections) (i m : ℕ) where
  told_placed : offsets_told image segments s i m ≡ and_then (run image segments (bind (body_of_slot s i) (λ b. vector_read b m))) (placed segments)
  unfolding offsets_told offsets_place run bytes_place within vector_read placed
  told_placed = rw (run_bind image segments (λ b. vector_read b m) (body_of_slot s i)) (body (run image segments (body_of_slot s i)))
    where
      at : (v : Vector) (x : Option ℕ) → file_offset (segments_of segments) v.address ≡ x
          → option_map (λ p. offsets p v.count) (and_then x (within (length image) (4 * v.count)))
          ≡ and_then (and_then (and_then x (within (length image) (4 * v.count))) (λ _. Some v)) (placed segments)
      at v None e = refl
      at v (Some o) e = inside (leb (o + 4 * v.count) (length image))
        where
          inside : (b : Bool)
              → option_map (λ p. offsets p v.count) (cond b (Some o) None) ≡ and_then (and_then (cond b (Some o) None) (λ _. Some v)) (placed segments)
          inside true = sym (ap (option_map (λ p. offsets p v.count)) e)
          inside false = refl

      its : (x : Option Vector)
          → and_then x (λ v. option_map (λ p. offsets p v.count) (and_then (file_offset (segments_of segments) v.address) (within (length image) (4 * v.count))))
          ≡ and_then (run image segments (needing x (λ v. bytes v.address (4 * v.count) (λ h. done v)))) (placed segments)
      its None = refl
      its (Some v) = at v (file_offset (segments_of segments) v.address) refl

      body : (x : Option Body) → and_then x (λ b. offsets_place image segments (Some b) m) ≡ and_then (and_then x (λ b. run image segments (vector_read b m))) (placed segments)
      body None = refl
      body (Some b) = its (vector b m)

  its_path : path image segments (bind (body_of_slot s i) (λ b. vector_read b m)) ≡ path image segments (item s (Key.offsets i m))
  unfolding path item slot_offsets field_offsets vector_read
  its_path =
      path_bind image segments (λ b. vector_read b m) (body_of_slot s i)
      ∙ ap (λ (l : List Range). path image segments (body_of_slot s i) ++ l) (body (run image segments (body_of_slot s i)))
      ∙ sym (path_map image segments Answer.offsets (offsets_of_slot s i m) ∙ path_bind image segments (λ b. field_offsets b m) (body_of_slot s i))
    where
      its : (x : Option Vector) → path image segments (needing x (λ v. bytes v.address (4 * v.count) (λ h. done v)))
          ≡ path image segments (needing x (λ v. bytes v.address (4 * v.count) (λ h. done (u32s v.count h))))
      its None = refl
      its (Some v) = refl

      body : (x : Option Body) → also x (λ b. path image segments (vector_read b m)) ≡ also x (λ b. path image segments (field_offsets b m))
      body None = refl
      body (Some b) = its (vector b m)

pub cut_offsets : (image segments : List ℕ) (s : Sections) (c i m : ℕ) → All (Clear c) (path image segments (item s (Key.offsets i m)))
    → offsets_told (take c image) segments s i m ≡ cond (every (ends_by c) (path image segments (item s (Key.offsets i m)))) (offsets_told image segments s i m) None
cut_offsets image segments s c i m clear =
    told_placed (take c image) segments s i m
    ∙ rw (cut image segments c (bind (body_of_slot s i) (λ b. vector_read b m)) (rw (its_path image segments s i m) clear), its_path image segments s i m)
    (go (every (ends_by c) (path image segments (item s (Key.offsets i m)))))
    ∙ ap (λ (x : Option FieldOffsets). cond (every (ends_by c) (path image segments (item s (Key.offsets i m)))) x None) (sym (told_placed image segments s i m))
  where
    go : (b : Bool)
        → and_then (cond b (run image segments (bind (body_of_slot s i) (λ b. vector_read b m))) None) (placed segments)
        ≡ cond b (and_then (run image segments (bind (body_of_slot s i) (λ b. vector_read b m))) (placed segments)) None
    go true = refl
    go false = refl
