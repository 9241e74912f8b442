-- A turn of the walk over the segments, and for which segments an offset leads back to the address that it came from.
use Rattle.std.specs.Prelude.{ℕ, ◌+◌, ◌-◌, ◌^◌, ◌≤◌, ◌<◌, min, ◌≡◌, refl, List, [], ◌∷◌, length, drop, Option, Some, None, unwrap_or}
use Rattle.std.proofs.Math.Decide.{dec_lt}
use Rattle.std.proofs.Common.{arith, ◌∙◌, ap}
use Rattle.std.proofs.Math.ListN.{length-drop}
use Rattle.segment.specs.Segments.{Segment, segments_of, file_offset, decides, in_file}
use Rattle.segment.proofs.SegmentsLaws.{wraps, below, above, no_bytes, held, past_file, offset_wraps, in_file_lem, segment_at, segments_step, segments_end}
use Rattle.segment.specs.VmAddress.{turned, vm_address}

-- what a segment that is turned round by hand says, with its `m` bytes in both
pub by_hand : (s : Segment) (o m : ℕ) (y : Option (Option ℕ)) → m ≡ min s.vmsize s.filesize
    → y ≡ decides (record { vmaddr = s.fileoff; vmsize = m; fileoff = s.vmaddr; filesize = m }) o → y ≡ decides (turned s) o
by_hand s o m y e d = rw e at d

-- `x`, what the numbers from `i` on say, is what the segment there says, or what those after it say
module _ (l : List ℕ) (i o : ℕ) (x : Option ℕ) (inv : x ≡ vm_address (segments_of (drop i l)) o) where
  pub turn_answer : (r : Option (Option ℕ)) (a y : Option ℕ) → r ≡ decides (turned (segment_at l i)) o → r ≡ Some a → y ≡ a → i + 4 ≤ length l → y ≡ x
  unfolding vm_address file_offset
  turn_answer r a y e t v h = v ∙ rw (inv, segments_step l i o h, ← e, t)

  pub turn_next : (r : Option (Option ℕ)) → r ≡ decides (turned (segment_at l i)) o → r ≡ None → i + 4 ≤ length l → x ≡ vm_address (segments_of (drop (i + 4) l)) o
  unfolding vm_address file_offset
  turn_next r e t h = inv ∙ rw (segments_step l i o h, ← e, t)

  pub turn_end : length l < i + 4 → None ≡ x
  unfolding vm_address file_offset
  turn_end h =
      let short : length (drop i l) < 4 = simp length-drop (omega arith) in
      rw (inv, segments_end (drop i l) short)

-- the offsets of a segment's file bytes that have an address
pub record Holds (s : Segment) (o : ℕ) : Type 0 where
  pub from : s.fileoff ≤ o
  pub to : o < s.fileoff + min s.vmsize s.filesize

-- no segment of the list has the offset, and none has file bytes past the last offset
pub data Free (o : ℕ) : List Segment → Type 0 where
  end : Free o []
  free : {s : Segment} {ss : List Segment} → s.fileoff + min s.vmsize s.filesize < 2 ^ 64 → (Holds s o → ⊥) → Free o ss → Free o (s ∷ ss)

-- at most one has it
pub data Once (o : ℕ) : List Segment → Type 0 where
  end : Once o []
  once : {s : Segment} {ss : List Segment} → s.fileoff + min s.vmsize s.filesize < 2 ^ 64 → (Holds s o → Free o ss) → Once o ss → Once o (s ∷ ss)

-- the cases of what a segment says of an address
data Says (s : Segment) (v : ℕ) : Option (Option ℕ) → Type 0 where
  next : Says s v None
  nowhere : Says s v (Some None)
  at : (o : ℕ) → o ≡ s.fileoff + (v - s.vmaddr) → s.vmaddr ≤ v → v < s.vmaddr + min s.vmsize s.filesize → v < 2 ^ 64 → Says s v (Some (Some o))

says : (s : Segment) (v : ℕ) → Says s v (decides s v)
says s v =
    elim (dec_lt (s.vmaddr + s.vmsize) (2 ^ 64)) [
      | no w ↦ rw (← wraps s v (omega arith)) nowhere
      | yes w ↦
          elim (dec_lt v s.vmaddr) [
            | yes b ↦ rw (← below s v w b) next
            | no b ↦
                elim (dec_lt v (s.vmaddr + s.vmsize)) [
                  | no t ↦ rw (← above s v w (omega arith) (omega arith)) next
                  | yes t ↦ covered w (omega arith) t
                ]
          ]
    ]
  where
    covered : s.vmaddr + s.vmsize < 2 ^ 64 → s.vmaddr ≤ v → v < s.vmaddr + s.vmsize → Says s v (decides s v)
    covered w f t =
        elim (dec_lt 0 s.filesize) [
          | no z ↦ rw (← no_bytes s v w f t (omega arith)) next
          | yes z ↦
              elim (dec_lt (v - s.vmaddr) s.filesize) [
                | no p ↦ rw (← held s v w f t _ z (past_file s (v - s.vmaddr) (omega arith))) nowhere
                | yes p ↦
                    elim (dec_lt (s.fileoff + (v - s.vmaddr)) (2 ^ 64)) [
                      | no q ↦ rw (← held s v w f t _ z (offset_wraps s (v - s.vmaddr) p (omega arith))) nowhere
                      | yes q ↦ rw (← held s v w f t _ z (in_file_lem s (v - s.vmaddr) p q)) (at _ refl f (omega arith) (omega arith))
                    ]
              ]
        ]

-- an offset that an address has is one of some segment
module _ (s : Segment) (ss : List Segment) (v o : ℕ) where
  held_by : (x : Option (Option ℕ)) → Says s v x → unwrap_or x (file_offset ss v) ≡ Some o → (Holds s o → ⊥) → (file_offset ss v ≡ Some o → ⊥) → ⊥
  held_by _ next e h rest = rest e
  held_by _ nowhere e h rest = let z : ◌≡◌ {A = ℕ} 0 1 = cc in absurd (omega arith)
  held_by _ (at p eo f t b) e h rest = let g : p ≡ o = cc in h (record { from = omega arith; to = omega arith })

not_free : (ss : List Segment) (v o : ℕ) → file_offset ss v ≡ Some o → Free o ss → ⊥
unfolding file_offset
not_free [] v o e end = let z : ◌≡◌ {A = ℕ} 0 1 = cc in absurd (omega arith)
not_free (s ∷ ss) v o e (free w h rest) = held_by s ss v o (decides s v) (says s v) e h (λ f. not_free ss v o f rest)

-- if at most one segment has the offset, it leads back to the address
module _ (s : Segment) (ss : List Segment) (v o : ℕ) (w : s.fileoff + min s.vmsize s.filesize < 2 ^ 64) where
  leads_back : (x : Option (Option ℕ)) → Says s v x → unwrap_or x (file_offset ss v) ≡ Some o → (Holds s o → Free o ss) → (y : Option ℕ) → (file_offset ss v ≡ Some o → y ≡ Some v)
      → unwrap_or (decides (turned s) o) y ≡ Some v
  leads_back _ next e h y rest =
      elim (dec_lt o s.fileoff) [
        | yes b ↦ rw (← below (turned s) o w b) (rest e)
        | no b ↦
            elim (dec_lt o (s.fileoff + min s.vmsize s.filesize)) [
              | no t ↦ rw (← above (turned s) o w (omega arith) (omega arith)) (rest e)
              | yes t ↦ absurd (not_free ss v o e (h (record { from = omega arith; to = t })))
            ]
      ]
  leads_back _ nowhere e h y rest = let z : ◌≡◌ {A = ℕ} 0 1 = cc in absurd (omega arith)
  leads_back _ (at p eo f t b) e h y rest =
      let g : p ≡ o = cc in
      let d : Some (Some (s.vmaddr + (o - s.fileoff))) ≡ decides (turned s) o =
      held (turned s) o w (omega arith) (omega arith) _ (omega arith) (in_file_lem (turned s) (o - s.fileoff) (omega arith) (omega arith)) in
      rw (← d) (ap Some (omega arith))

pub vm_again : (ss : List Segment) (v o : ℕ) → file_offset ss v ≡ Some o → Once o ss → vm_address ss o ≡ Some v
unfolding file_offset vm_address
vm_again [] v o e end = let z : ◌≡◌ {A = ℕ} 0 1 = cc in absurd (omega arith)
vm_again (s ∷ ss) v o e (once w h rest) = leads_back s ss v o w (decides s v) (says s v) e h _ (λ f. vm_again ss v o f rest)

-- so it does for every address of segments whose file bytes follow one another, from an offset on
pub data InOrder : ℕ → List Segment → Type 0 where
  end : {from : ℕ} → InOrder from []
  then : {from : ℕ} {s : Segment} {ss : List Segment} → from ≤ s.fileoff → s.fileoff + min s.vmsize s.filesize < 2 ^ 64
      → InOrder (s.fileoff + min s.vmsize s.filesize) ss → InOrder from (s ∷ ss)

free_before : (ss : List Segment) (from o : ℕ) → InOrder from ss → o < from → Free o ss
free_before [] from o end h = end
free_before (s ∷ ss) from o (then f w rest) h = free w (λ (g : Holds s o). absurd (omega (arith, g.from))) (free_before ss _ o rest (omega arith))

once_in_order : (ss : List Segment) (from o : ℕ) → InOrder from ss → Once o ss
once_in_order [] from o end = end
once_in_order (s ∷ ss) from o (then f w rest) = once w (λ g. free_before ss _ o rest g.to) (once_in_order ss _ o rest)

pub vm_again_in_order : (ss : List Segment) (v o : ℕ) → InOrder 0 ss → file_offset ss v ≡ Some o → vm_address ss o ≡ Some v
vm_again_in_order ss v o h e = vm_again ss v o e (once_in_order ss 0 o h)

-- the smallest inputs that do not lead back (docs/DIFFERENCES.md): a file byte at the last offset, and two segments with the same file byte
abbrev last_byte : List Segment
last_byte = segments_of (0 ∷ (1 ∷ (0xffffffffffffffff ∷ (1 ∷ []))))

last_offset : (file_offset last_byte 0 ≡ Some 0xffffffffffffffff) × (vm_address last_byte 0xffffffffffffffff ≡ None)
unfolding segments_of file_offset vm_address decides in_file
last_offset = (refl, refl)

abbrev same_byte : List Segment
same_byte = segments_of (0 ∷ (1 ∷ (0 ∷ (1 ∷ (1 ∷ (1 ∷ (0 ∷ (1 ∷ []))))))))

same_offset : (file_offset same_byte 1 ≡ Some 0) × (vm_address same_byte 0 ≡ Some 0)
unfolding segments_of file_offset vm_address decides in_file
same_offset = (refl, refl)
