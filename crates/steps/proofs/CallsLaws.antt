-- The test of the segments, for a call that writes a text at a buffer's start.
use Rattle.std.specs.Prelude.{ℕ, ◌≡◌, List, length, Some, None}
use Rattle.std.proofs.Common.{ap, ◌∙◌}
use Rattle.refusal.specs.Refusal.{Guarded, refused, mapped, answer_of}
use Rattle.refusal.specs.Guarded.{fault, guarded}
use Rattle.refusal.proofs.GuardedLaws.{refused_list, accepted_list}
use Rattle.util.specs.Buffer.{overwritten}

module _ (segments : List ℕ) (g : Guarded (List ℕ)) (b : List ℕ) where
  pub text_refused : {n : ℕ} → Some n ≡ fault segments → (refused n ≡ mapped length (guarded segments g)) × (b ≡ overwritten b (answer_of (guarded segments g)))
  text_refused h = (ap (mapped length) (refused_list segments g h), ap (λ (x : Guarded (List ℕ)). overwritten b (answer_of x)) (refused_list segments g h))

  pub text_accepted : (x : Guarded ℕ) (b' : List ℕ) → x ≡ mapped length g → b' ≡ overwritten b (answer_of g) → None ≡ fault segments
      → (x ≡ mapped length (guarded segments g)) × (b' ≡ overwritten b (answer_of (guarded segments g)))
  text_accepted x b' e eb h = (e ∙ ap (mapped length) (accepted_list segments g h), eb ∙ ap (λ (x : Guarded (List ℕ)). overwritten b (answer_of x)) (accepted_list segments g h))
