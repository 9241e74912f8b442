-- What an answer says about its status and its numbers.
use Rattle.std.specs.Prelude.{ℕ, ◌≡◌, refl, List, [], ◌∷◌, get_or, Option, Some, None}
use Rattle.std.proofs.Common.{◌∙◌, ap}
use Rattle.refusal.specs.Refusal.{Guarded, answered, refused, mapped, answer_of}
use Rattle.util.specs.Buffer.{at_start, overwritten}
use Rattle.util.specs.declared.cstr.Place.{Place}
use Rattle.runtime.specs.PlaceNumbers.{text_numbers}
use Rattle.parent.specs.Context.{name_read}
use Rattle.refusal.specs.Guarded.{fault, guarded}
use Rattle.refusal.proofs.GuardedLaws.{refused_list, accepted_list}
use Rattle.c_rows.specs.Numbers.{Tells, context_numbers}

module _ {A : Type 0} (numbers : A → List ℕ) (g : Guarded A) (out : List ℕ) where
  pub tells_as : (a : A) (l : List ℕ) → answered a ≡ g → l ≡ numbers a → Tells (mapped numbers g) out 0 l
  tells_as a l e el = rw (el, ← e) (record { gives = refl; writes = refl })

  pub tells : (a : A) → answered a ≡ g → Tells (mapped numbers g) out 0 (numbers a)
  tells a e = tells_as a (numbers a) e refl

  pub refuses : (r n : ℕ) → refused n ≡ g → r ≡ n → Tells (mapped numbers g) out r out
  refuses r n e er = rw (← e) (record { gives = er; writes = refl })

-- a call that tests the segments itself, and such a call that writes a text into a buffer
module _ {A : Type 0} (segments : List ℕ) (a : A) where
  module _ (numbers : A → List ℕ) (out : List ℕ) where
    pub tells_accepted : (l : List ℕ) → l ≡ numbers a → None ≡ fault segments → Tells (mapped numbers (guarded segments (answered a))) out 0 l
    tells_accepted l el h = tells_as numbers _ out a l (accepted_list segments (answered a) h) el

    pub tells_refused : (r : ℕ) {n : ℕ} → Some n ≡ fault segments → r ≡ n → Tells (mapped numbers (guarded segments (answered a))) out r out
    tells_refused r h er = refuses numbers _ out r _ (refused_list segments (answered a) h) er

  module _ (text : A → List ℕ) (b : List ℕ) where
    pub writes_accepted : (b' : List ℕ) → b' ≡ at_start (text a) b → None ≡ fault segments → b' ≡ overwritten b (answer_of (mapped text (guarded segments (answered a))))
    writes_accepted b' e h = e ∙ ap (λ (x : Guarded A). overwritten b (answer_of (mapped text x))) (accepted_list segments (answered a) h)

    pub keeps_refused : {n : ℕ} → Some n ≡ fault segments → b ≡ overwritten b (answer_of (mapped text (guarded segments (answered a))))
    keeps_refused h = ap (λ (x : Guarded A). overwritten b (answer_of (mapped text x))) (refused_list segments (answered a) h)

-- a context's numbers, the last three of which are its name's
pub name_told : (image : List ℕ) (a w n g : ℕ) (t : Option Place) (l : List ℕ) → l ≡ text_numbers t
    → 1 ∷ (a ∷ (w ∷ (n ∷ (g ∷ (get_or l 0 0 ∷ (get_or l 1 0 ∷ (get_or l 2 0 ∷ []))))))) ≡ 1 ∷ (a ∷ (w ∷ (n ∷ (g ∷ context_numbers (name_read image t)))))
name_told image a w n g (Some p) l e = rw e
name_told image a w n g None l e = rw e
