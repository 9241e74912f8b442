-- What pieces put one after the other say about the lines.
use Rattle.std.specs.Prelude.{◌≡◌, ℕ, ◌+◌, ◌-◌, ◌/◌, ◌%◌, ◌^◌, ◌<◌, ◌≤◌, Bool, true, false, cond, List, [], ◌∷◌, ◌++◌, length, take, drop, ◌==◌, ◌≢◌, refl, Option, Some, None}
use Rattle.std.proofs.Common.{mod-eq_of_lt, arith, sym, ◌∙◌, subst, append_assoc, length-append, length-drop, take-append-drop, take_at, length-take-le, drop-drop}
use Rattle.std.proofs.Math.Nat.{zero-add}
use Rattle.std.proofs.Math.Path.{ap}
use Rattle.std.proofs.lemmas.List.{drop-append-le}
use borrow.Author.Tests.{eq-eqb, ne_eqb}
use borrow.Rule.Slice.PartMut.{put_mid, put_same}
use Rattle.util.specs.Buffer.{put_end, put_into, Put, overwritten}
use Rattle.util.proofs.BufferLaws.{put_fits, put_none, put_length, put_then, put_more}
use Rattle.type_lines.specs.Digits.{digit, hex, decimal}
use Rattle.typedescriptor.specs.Row.{TypeRow}
use Rattle.typedescriptor.specs.Slots.{Found, next_row}
use Rattle.refusal.specs.Refusal.{Guarded, answered, refused, mapped, answer_of}
use Rattle.refusal.specs.Guarded.{fault, guarded}
use Rattle.refusal.proofs.GuardedLaws.{refused_list, accepted_list}
use Rattle.qualified_name.specs.Name.{name_answer, qualified_name}
use Rattle.qualified_name.proofs.NameLaws.{name_length}
use Rattle.type_lines.proofs.DigitsLaws.{decimal_none, decimal_one, decimal_more, decimal_length}
use Rattle.type_lines.specs.Lines.{name_bytes, line_bytes, space, newline, kind_word, refused_text, refused_line, text_or, name_text, row_line, end_line, Line, line_text, line_step}
use Rattle.type_lines.specs.declared.lines.LineIter.{LineIter}

pub put_one : (b b' : List ℕ) (at r d n : ℕ) → r ≡ put_end b at (d ∷ []) → b' ≡ put_into b at (d ∷ []) → d ≡ digit (n % 16) → n < 10 → at < length b → Put b at (digit n ∷ []) r b'
put_one b b' at r d n er eb ed hn h =
    let same : n % 16 ≡ n = mod-eq_of_lt (omega arith) in
    subst (λ (x : ℕ). Put b at (x ∷ []) r b') (ed ∙ ap digit same) (put_fits b (d ∷ []) b' at r er eb (omega arith))

-- ---- the kind

module _ (flags : ℕ) where
  pub kind_class : flags % 32 ≡ 16 → kind_word flags ≡ 99 ∷ 108 ∷ 97 ∷ 115 ∷ 115 ∷ []
  unfolding kind_word
  kind_class e = simp (eq-eqb (flags % 32) 16 e)

  module _ (not-class : flags % 32 ≡ 16 → ⊥) where
    pub kind_struct : flags % 32 ≡ 17 → kind_word flags ≡ 115 ∷ 116 ∷ 114 ∷ 117 ∷ 99 ∷ 116 ∷ []
    unfolding kind_word
    kind_struct e = simp (ne_eqb (flags % 32) 16 not-class, eq-eqb (flags % 32) 17 e)

    module _ (not_struct : flags % 32 ≡ 17 → ⊥) where
      pub kind_enum : flags % 32 ≡ 18 → kind_word flags ≡ 101 ∷ 110 ∷ 117 ∷ 109 ∷ []
      unfolding kind_word
      kind_enum e = simp (ne_eqb (flags % 32) 16 not-class, ne_eqb (flags % 32) 17 not_struct, eq-eqb (flags % 32) 18 e)

      pub kind_other : (flags % 32 ≢ 18) → kind_word flags ≡ 111 ∷ 116 ∷ 104 ∷ 101 ∷ 114 ∷ []
      unfolding kind_word
      kind_other not-enum = simp (ne_eqb (flags % 32) 16 not-class, ne_eqb (flags % 32) 17 not_struct, ne_eqb (flags % 32) 18 not-enum)

-- a text that is put, under another name
pub put_as : (b p q b' : List ℕ) (at r : ℕ) → q ≡ p → r ≡ put_end b at p → b' ≡ put_into b at p → at + length p ≤ length b → Put b at q r b'
put_as b p q b' at r e er eb h = rw e (put_fits b p b' at r er eb h)

-- ---- the name, in a part of the line

module _ (b : List ℕ) (at k : ℕ) (fits : at + k ≤ length b) where
  -- a text written at the part's start
  window_filled : (t w : List ℕ) → w ≡ t ++ drop (length t) (take k (drop at b)) → length t ≤ k → Put b at t (at + length t) (put_mid at k b w)
  window_filled t w e h =
      let long : length (take k (drop at b)) ≡ k = length-take-le k (drop at b) (simp length-drop (omega arith)) in
      let back : drop (length t) (take k (drop at b)) ++ drop k (drop at b) ≡ drop (at + length t) b =
      sym (drop-append-le (length t) (take k (drop at b)) (drop k (drop at b)) (omega arith)) ∙ ap (drop (length t)) (take-append-drop k (drop at b)) ∙ drop-drop (length t) at b in
      record { ends = refl; holds = ap (λ (l : List ℕ). take at b ++ l) (rw (e, append_assoc, back)) }

  -- a part that is unchanged
  window_kept : (w : List ℕ) → w ≡ take k (drop at b) → put_mid at k b w ≡ b
  window_kept w e = rw e (put_same at k b)

  window_length : length (take k (drop at b)) ≡ k
  window_length = length-take-le k (drop at b) (simp length-drop (omega arith))

-- a refused answer is not a length
refused_is : (x : ℕ) (g : Guarded (List ℕ)) → refused x ≡ mapped length g → g ≡ refused x
refused_is x (answered t) e = let z : ◌≡◌ {A = ℕ} 0 1 = cc in absurd (omega arith)
refused_is x (refused n) e = let f : x ≡ n = cc in ap refused (sym f)

module _ (image segments : List ℕ) (row : TypeRow) (b w : List ℕ) (at k : ℕ) (ek : k ≡ name_bytes) (h : at + name_bytes ≤ length b) where
  abbrev answer : Guarded (List ℕ)
  answer = name_answer image segments row (length (take k (drop at b)))

  fits : at + k ≤ length b
  fits = omega arith

  text_is : name_text image segments row ≡ text_or answer
  unfolding name_text
  text_is = ap (λ (n : ℕ). text_or (name_answer image segments row n)) (sym (window_length b at k fits ∙ ek))

  pub name_room : (n : ℕ) → answered n ≡ mapped length answer → n ≤ name_bytes
  name_room n e = omega (arith, (name_length image segments row (length (take k (drop at b))) n e).1.1, window_length b at k fits)

  module _ (ew : w ≡ overwritten (take k (drop at b)) (answer_of answer)) where
    pub name_put : (n : ℕ) → answered n ≡ mapped length answer → Put b at (name_text image segments row) (at + n) (put_mid at k b w)
    name_put n e =
        let l = name_length image segments row (length (take k (drop at b))) n e in
        let q : w ≡ overwritten (take k (drop at b)) (Some (qualified_name image segments row)) = ew ∙ ap (λ (g : Guarded (List ℕ)). overwritten (take k (drop at b)) (answer_of g)) l.0 in
        rw (text_is, l.0, l.1.0) (window_filled b at k fits (qualified_name image segments row) w q (omega (arith, l.1.0, l.1.1, window_length b at k fits)))

    window_same : (x : ℕ) → refused x ≡ mapped length answer → put_mid at k b w ≡ b
    window_same x e = window_kept b at k fits w (ew ∙ ap (λ (g : Guarded (List ℕ)). overwritten (take k (drop at b)) (answer_of g)) (refused_is x answer e))

    pub refusal_put : (x r : ℕ) (b' : List ℕ) → refused x ≡ mapped length answer → Put (put_mid at k b w) at (refused_text x) r b' → Put b at (name_text image segments row) r b'
    refusal_put x r b' e u = rw (text_is, refused_is x answer e) (subst (λ (l : List ℕ). Put l at (refused_text x) r b') (window_same x e) u)

    pub window_long : (x : ℕ) → refused x ≡ mapped length answer → length (put_mid at k b w) ≡ length b
    window_long x e = ap length (window_same x e)

-- ---- the count

module _ (left n : ℕ) where
  pub one_digit : n < 10 → 0 < left → length (decimal left n) ≡ 1
  one_digit h l = ap length (decimal_one left n h l)

  pub more_digits : 10 ≤ n → 0 < left → length (decimal left n) ≡ length (decimal (left - 1) (n / 10)) + 1
  more_digits h l = ap length (decimal_more left n h l) ∙ length-append (decimal (left - 1) (n / 10)) (digit (n % 10) ∷ [])

  module _ (b : List ℕ) (at : ℕ) where
    pub count_none : left ≡ 0 → Put b at (decimal left n) at b
    count_none e = rw (decimal_none left n e) (put_none b at)

    pub count_one : (r : ℕ) (b' : List ℕ) → Put b at (digit n ∷ []) r b' → n < 10 → 0 < left → Put b at (decimal left n) r b'
    count_one r b' u h l = rw (decimal_one left n h l) u

    pub count_more : (m r : ℕ) (b' b'' : List ℕ) → Put b at (decimal (left - 1) (n / 10)) m b' → Put b' m (digit (n % 10) ∷ []) r b''
        → 10 ≤ n → 0 < left → at + length (decimal left n) ≤ length b → Put b at (decimal left n) r b''
    count_more m r b' b'' u w h l f =
        rw (decimal_more left n h l) (put_then b _ _ b' b'' at m r u w (omega (arith, more_digits h l)))

-- ---- whole lines

pub hex_length : (n : ℕ) → length (hex 16 n) ≡ 16
unfolding hex
hex_length n = refl

pub kind_length : (flags : ℕ) → length (kind_word flags) ≤ 6
unfolding kind_word
kind_length flags = go (flags % 32 == 16) (flags % 32 == 17) (flags % 32 == 18)
  where
    go : (a b c : Bool)
        → length {A = ℕ} (cond a (99 ∷ 108 ∷ 97 ∷ 115 ∷ 115 ∷ []) (cond b (115 ∷ 116 ∷ 114 ∷ 117 ∷ 99 ∷ 116 ∷ []) (cond c (101 ∷ 110 ∷ 117 ∷ 109 ∷ []) (111 ∷ 116 ∷ 104 ∷ 101 ∷ 114 ∷ []))))
        ≤ 6
    go true b c = omega arith
    go false true c = omega arith
    go false false true = omega arith
    go false false false = omega arith

-- the address and a space
module _ (l l₁ l₂ ds : List ℕ) (a r₁ r₂ : ℕ) (ed : ds ≡ hex 16 a) (e₁ : r₁ ≡ put_end l 0 ds) (m₁ : l₁ ≡ put_into l 0 ds)
    (e₂ : r₂ ≡ put_end l₁ r₁ (32 ∷ [])) (m₂ : l₂ ≡ put_into l₁ r₁ (32 ∷ [])) (long : 24 ≤ length l) where
  head_address : Put l 0 (hex 16 a ++ space) r₂ l₂
  head_address =
      let sixteen : length ds ≡ 16 = ap length ed ∙ hex_length a in
      subst (λ (h : List ℕ). Put l 0 (h ++ space) r₂ l₂) ed
      (put_more l ds space l₁ l₂ 0 r₁ r₂ (put_fits l ds l₁ 0 r₁ e₁ m₁ (omega arith)) e₂ m₂ (omega arith))

  pub head_room : r₂ + 6 ≤ length l₂
  head_room =
      let u = head_address in
      let size : length (hex 16 a ++ space) ≡ 17 = length-append (hex 16 a) space ∙ omega (arith, hex_length a) in
      omega (arith, u.ends, put_length l _ l₂ 0 r₂ u (omega arith))

  -- and the kind, with a space
  pub head_put : (l₃ l₄ : List ℕ) (f r₃ r₄ : ℕ) → Put l₂ r₂ (kind_word f) r₃ l₃ → r₄ ≡ put_end l₃ r₃ (32 ∷ []) → l₄ ≡ put_into l₃ r₃ (32 ∷ [])
      → Put l 0 (hex 16 a ++ space ++ kind_word f ++ space) r₄ l₄
  head_put l₃ l₄ f r₃ r₄ u₃ e₄ m₄ =
      let size : length (hex 16 a ++ space) ≡ 17 = length-append (hex 16 a) space ∙ omega (arith, hex_length a) in
      let u : Put l 0 (hex 16 a ++ space ++ kind_word f) r₃ l₃ = put_then l (hex 16 a ++ space) (kind_word f) l₂ l₃ 0 r₂ r₃ head_address u₃ (omega arith) in
      put_more l (hex 16 a ++ space ++ kind_word f) space l₃ l₄ 0 r₃ r₄ u e₄ m₄ (omega (arith, kind_length f, length-append (hex 16 a ++ space) (kind_word f)))

  -- the same by the equations of a piece
  pub head_word_put : (l₃ l₄ word : List ℕ) (f r₃ r₄ : ℕ) → word ≡ kind_word f → r₃ ≡ put_end l₂ r₂ word → l₃ ≡ put_into l₂ r₂ word → r₄ ≡ put_end l₃ r₃ (32 ∷ []) → l₄ ≡ put_into l₃ r₃ (32 ∷ [])
      → Put l 0 (hex 16 a ++ space ++ kind_word f ++ space) r₄ l₄
  head_word_put l₃ l₄ word f r₃ r₄ ew e₃ m₃ e₄ m₄ =
      let u₃ : Put l₂ r₂ (kind_word f) r₃ l₃ = put_as l₂ word (kind_word f) l₃ r₂ r₃ (sym ew) e₃ m₃ (omega (arith, head_room, kind_length f, ap length ew)) in
      let size : length (hex 16 a ++ space) ≡ 17 = length-append (hex 16 a) space ∙ omega (arith, hex_length a) in
      let u : Put l 0 (hex 16 a ++ space ++ kind_word f) r₃ l₃ = put_then l (hex 16 a ++ space) (kind_word f) l₂ l₃ 0 r₂ r₃ head_address u₃ (omega arith) in
      put_more l (hex 16 a ++ space ++ kind_word f) space l₃ l₄ 0 r₃ r₄ u e₄ m₄ (omega (arith, kind_length f, length-append (hex 16 a ++ space) (kind_word f)))

pub head_length : (a f : ℕ) → length (hex 16 a ++ space ++ kind_word f ++ space) ≤ 24
head_length a f = simp length-append (omega (arith, hex_length a, kind_length f))

-- a whole row
pub row_put : (image segments : List ℕ) (row : TypeRow) (l l₁ l₂ l₃ : List ℕ) (r₁ r₂ r₃ : ℕ)
    → Put l 0 (hex 16 row.address ++ space ++ kind_word row.flags ++ space) r₁ l₁ → Put l₁ r₁ (name_text image segments row) r₂ l₂
    → r₃ ≡ put_end l₂ r₂ (10 ∷ []) → l₃ ≡ put_into l₂ r₂ (10 ∷ []) → length (name_text image segments row) ≤ name_bytes → line_bytes ≤ length l
    → Put l 0 (row_line image segments row) r₃ l₃
unfolding row_line
row_put image segments row l l₁ l₂ l₃ r₁ r₂ r₃ u₁ u₂ e₃ m₃ h long =
    let head : List ℕ = hex 16 row.address ++ space ++ kind_word row.flags ++ space in
    let size : length head ≤ 24 = head_length row.address row.flags in
    let u : Put l 0 (head ++ name_text image segments row) r₂ l₂ = put_then l head (name_text image segments row) l₁ l₂ 0 r₁ r₂ u₁ u₂ (omega arith) in
    put_more l (head ++ name_text image segments row) newline l₂ l₃ 0 r₂ r₃ u e₃ m₃ (omega (arith, length-append head (name_text image segments row)))

pub end_put : (n r₁ r₂ r₃ : ℕ) (l l₁ l₂ l₃ : List ℕ) → r₁ ≡ put_end l 0 (101 ∷ 110 ∷ 100 ∷ 32 ∷ []) → l₁ ≡ put_into l 0 (101 ∷ 110 ∷ 100 ∷ 32 ∷ [])
    → Put l₁ r₁ (decimal 20 n) r₂ l₂ → r₃ ≡ put_end l₂ r₂ (10 ∷ []) → l₃ ≡ put_into l₂ r₂ (10 ∷ []) → line_bytes ≤ length l → Put l 0 (end_line n) r₃ l₃
unfolding end_line
end_put n r₁ r₂ r₃ l l₁ l₂ l₃ e₁ m₁ u₂ e₃ m₃ long =
    let word : List ℕ = 101 ∷ 110 ∷ 100 ∷ 32 ∷ [] in
    let u₁ : Put l 0 word r₁ l₁ = put_fits l word l₁ 0 r₁ e₁ m₁ (omega arith) in
    let u : Put l 0 (word ++ decimal 20 n) r₂ l₂ = put_then l word (decimal 20 n) l₁ l₂ 0 r₁ r₂ u₁ u₂ (omega arith) in
    put_more l (word ++ decimal 20 n) newline l₂ l₃ 0 r₂ r₃ u e₃ m₃ (omega (arith, length-append word (decimal 20 n), decimal_length 20 n))

-- ---- the refusal

pub refused_length : (n : ℕ) → length (refused_text n) ≤ 28
unfolding refused_text
refused_length n = simp length-append (omega (arith, decimal_length 20 n))

pub refused_put : (n m at r₁ r₂ : ℕ) (l l₁ l₂ : List ℕ) → r₁ ≡ put_end l at (114 ∷ 101 ∷ 102 ∷ 117 ∷ 115 ∷ 101 ∷ 100 ∷ 32 ∷ []) → l₁ ≡ put_into l at (114 ∷ 101 ∷ 102 ∷ 117 ∷ 115 ∷ 101 ∷ 100 ∷ 32 ∷ [])
    → m ≡ n → Put l₁ r₁ (decimal 20 m) r₂ l₂ → at + 28 ≤ length l → Put l at (refused_text n) r₂ l₂
unfolding refused_text
refused_put n m at r₁ r₂ l l₁ l₂ e₁ m₁ en u₂ h =
    let word : List ℕ = 114 ∷ 101 ∷ 102 ∷ 117 ∷ 115 ∷ 101 ∷ 100 ∷ 32 ∷ [] in
    rw (← en) (put_then l word (decimal 20 m) l₁ l₂ at r₁ r₂ (put_fits l word l₁ at r₁ e₁ m₁ (omega arith)) u₂ (omega arith))

pub refused_room : (m at r₁ : ℕ) (l l₁ : List ℕ) → r₁ ≡ put_end l at (114 ∷ 101 ∷ 102 ∷ 117 ∷ 115 ∷ 101 ∷ 100 ∷ 32 ∷ []) → l₁ ≡ put_into l at (114 ∷ 101 ∷ 102 ∷ 117 ∷ 115 ∷ 101 ∷ 100 ∷ 32 ∷ [])
    → at + 28 ≤ length l → r₁ + length (decimal 20 m) ≤ length l₁
refused_room m at r₁ l l₁ e₁ m₁ h =
    let word : List ℕ = 114 ∷ 101 ∷ 102 ∷ 117 ∷ 115 ∷ 101 ∷ 100 ∷ 32 ∷ [] in
    let u = put_fits l word l₁ at r₁ e₁ m₁ (omega arith) in
    omega (arith, u.ends, put_length l word l₁ at r₁ u (omega arith), decimal_length 20 m)

pub refused_line_put : (n r₁ r₂ : ℕ) (l l₁ l₂ : List ℕ) → Put l 0 (refused_text n) r₁ l₁ → r₂ ≡ put_end l₁ r₁ (10 ∷ []) → l₂ ≡ put_into l₁ r₁ (10 ∷ []) → line_bytes ≤ length l
    → Put l 0 (refused_line n) r₂ l₂
refused_line_put n r₁ r₂ l l₁ l₂ u e m h = put_more l (refused_text n) newline l₁ l₂ 0 r₁ r₂ u e m (omega (arith, refused_length n))

-- a name's text is at most as long as its buffer
pub name_text_length : (image segments : List ℕ) (row : TypeRow) → length (name_text image segments row) ≤ name_bytes
unfolding name_text
name_text_length image segments row = go (name_answer image segments row name_bytes) refl
  where
    go : (x : Guarded (List ℕ)) → name_answer image segments row name_bytes ≡ x → length (text_or x) ≤ name_bytes
    go (answered t) e = omega (arith, (name_length image segments row name_bytes (length t) (ap (mapped length) (sym e))).1.1)
    go (refused n) e = omega (arith, refused_length n)

pub row_length : (image segments : List ℕ) (row : TypeRow) → length (row_line image segments row) ≤ line_bytes
unfolding row_line
row_length image segments row =
    let head : List ℕ = hex 16 row.address ++ space ++ kind_word row.flags ++ space in
    omega (
      arith,
      length-append (head ++ name_text image segments row) newline,
      length-append head (name_text image segments row),
      head_length row.address row.flags,
      name_text_length image segments row,
    )

pub end_length : (n : ℕ) → length (end_line n) ≤ line_bytes
unfolding end_line
end_length n =
    let word : List ℕ = 101 ∷ 110 ∷ 100 ∷ 32 ∷ [] in
    omega (arith, length-append (word ++ decimal 20 n) newline, length-append word (decimal 20 n), decimal_length 20 n)

-- ---- the walk over the lines

-- a line that was put at the buffer's start
pub line_put : (b t b' : List ℕ) (n : ℕ) → Put b 0 t n b' → (take n b' ≡ t) × (b' ≡ t ++ drop (length t) b)
line_put b t b' n u =
    let whole : b' ≡ t ++ drop (length t) b = u.holds ∙ ap (λ (k : ℕ). t ++ drop k b) (zero-add (length t)) in
    (rw whole (take_at t (drop (length t) b) n (sym (u.ends ∙ zero-add (length t)))), whole)

-- a step, and the buffer after it
abbrev pub Given : {W : Type 0} → Guarded (Option (Line W)) → List ℕ → List ℕ → Guarded (Option (Line W)) → Type 0
Given g b b' x = (x ≡ g) × (b' ≡ overwritten b (line_text g))

module _ (image segments types : List ℕ) (start : ℕ) (c : LineIter) where
  abbrev next : Guarded (Option (Line LineIter))
  next = answered (line_step image segments types start c)

  pub step_done : (b : List ℕ) → c.ended ≡ true → Given next b b (answered None)
  unfolding line_step
  step_done b e = rw e (refl, refl)

  module _ (b b' : List ℕ) (n : ℕ) (e : c.ended ≡ false) where
    pub step_row : (f : Found) (g : ℕ) → Some f ≡ next_row image segments types start c.slot → Put b 0 (row_line image segments f.row) n b' → g ≡ (c.given + 1) % 2 ^ 64
        → Given next b b' (answered (Some (record { text = take n b'; size = n; next = record { slot = f.next; given = g; ended = false } })))
    unfolding line_step
    step_row f g s u eg =
        let p = line_put b _ b' n u in
        let long = u.ends ∙ zero-add _ in
        rw (e, ← s) (λ i. answered (Some (record { text = p.0 i; size = long i; next = record { slot = f.next; given = eg i; ended = false } })), p.1)

    pub step_end : None ≡ next_row image segments types start c.slot → Put b 0 (end_line c.given) n b'
        → Given next b b' (answered (Some (record { text = take n b'; size = n; next = record { slot = 0; given = c.given; ended = true } })))
    unfolding line_step
    step_end s u =
        let p = line_put b _ b' n u in
        let long = u.ends ∙ zero-add _ in
        rw (e, ← s) (λ i. answered (Some (record { text = p.0 i; size = long i; next = record { slot = 0; given = c.given; ended = true } })), p.1)

-- the test of the segments before a step
module _ (segments : List ℕ) {W : Type 0} (g : Guarded (Option (Line W))) (b : List ℕ) where
  pub line_refused : {n : ℕ} → Some n ≡ fault segments → Given (guarded segments g) b b (refused n)
  line_refused h = (refused_list segments g h, ap (λ (x : Guarded (Option (Line W))). overwritten b (line_text x)) (refused_list segments g h))

  pub line_accepted : (b' : List ℕ) (x : Guarded (Option (Line W))) → Given g b b' x → None ≡ fault segments → Given (guarded segments g) b b' x
  line_accepted b' x e h = (e.0 ∙ accepted_list segments g h, e.1 ∙ ap (λ (x : Guarded (Option (Line W))). overwritten b (line_text x)) (accepted_list segments g h))
