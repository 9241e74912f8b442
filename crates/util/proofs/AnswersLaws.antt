-- What the case of an answer says, if the answer's meaning `f` is known.
use Rattle.std.specs.Prelude.{◌≡◌}
use Rattle.std.proofs.Common.{sym, ◌∙◌, ap, subst}

pub told {ℓ κ} : {A : Type ℓ} {B : Type κ} (f : A → B) {r k : A} {x : B} → f r ≡ x → r ≡ k → f k ≡ x
told f e t = sym (ap f t) ∙ e

-- what it says, if the answer's promise `P` is not an equation
pub case {ℓ κ} : {A : Type ℓ} (P : A → Type κ) {r k : A} → P r → r ≡ k → P k
case P h t = subst P t h

-- the same where the answer is itself what the contract speaks of
pub known {ℓ} : {A : Type ℓ} {r k x : A} → r ≡ x → r ≡ k → k ≡ x
known e t = sym t ∙ e
