-- An accepted bundle obeys the rules of its format, and its segments are accepted; 9 is for bundles that obey them.
use Rattle.std.specs.Prelude.{ℕ, List, Option, Some, None}
use Rattle.std.proofs.Common.{arith, sym, ◌∙◌}
use Rattle.std.proofs.Math.Path.{◌≡◌, refl, ap}
use Rattle.refusal.specs.Refusal.{Guarded, answered, refused}
use Rattle.refusal.specs.Guarded.{fault, refused_by, guarded}
use Rattle.refusal.proofs.GuardedLaws.{whole_nine, refused_list, accepted_list}
use Rattle.bundle.specs.Open.{open_bundle}
use Rattle.bundle.specs.declared.open.Layout.{Layout}
use Rattle.bundle_parts.specs.Parts.{segment_numbers, listed_numbers}
use Rattle.bundle_parts.proofs.PartsLaws.{never_ragged, numbers_all}
use Rattle.bundle_parts.proofs.LayoutLaws.{opened_fit}
use Rattle.bundle_parts.specs.Accepted.{with_segments, accept_bundle}

module _ (s : List ℕ) where
  pub accept_broken : (n : ℕ) → refused n ≡ open_bundle s → refused n ≡ accept_bundle s
  unfolding accept_bundle
  accept_broken n e = ap (with_segments s) e

  module _ (l : Layout) (o : answered l ≡ open_bundle s) where
    opened : guarded (segment_numbers s l) (answered l) ≡ accept_bundle s
    unfolding accept_bundle
    opened = ap (with_segments s) o

    -- the list has all numbers
    all : fault (listed_numbers s l) ≡ fault (segment_numbers s l)
    all = ap fault (numbers_all s l (opened_fit s l (sym o)))

    pub accept_opened : None ≡ fault (listed_numbers s l) → answered l ≡ accept_bundle s
    accept_opened e = accepted_list _ (answered l) (e ∙ all) ∙ opened

    pub accept_refused : (n : ℕ) → Some n ≡ fault (listed_numbers s l) → refused n ≡ accept_bundle s
    accept_refused n e = refused_list _ (answered l) (e ∙ all) ∙ opened

    -- and with nothing else than 9
    pub only_nine : (n : ℕ) → accept_bundle s ≡ refused n → n ≡ 9
    only_nine n e = go (fault (listed_numbers s l)) refl
      where
        go : (f : Option ℕ) → f ≡ fault (listed_numbers s l) → n ≡ 9
        go None t =
            let f : answered l ≡ refused n = accept_opened t ∙ e in
            let z : ◌≡◌ {A = ℕ} 0 1 = cc in
            absurd (omega arith)
        go (Some k) t =
            let same : k ≡ n = let f : refused k ≡ refused n = accept_refused k t ∙ e in cc in
            sym same ∙ whole_nine (listed_numbers s l) (never_ragged s l) k t

  -- and back
  pub record Accepts (l : Layout) : Type 0 where
    pub opens : open_bundle s ≡ answered l
    pub accepted : None ≡ fault (segment_numbers s l)

  pub accepted_is : (l : Layout) → accept_bundle s ≡ answered l → Accepts l
  unfolding accept_bundle guarded
  accepted_is l e = go (open_bundle s) refl e
    where
      by : (k : Layout) (f : Option ℕ) → f ≡ fault (segment_numbers s k) → open_bundle s ≡ answered k → refused_by f (answered k) ≡ answered l → Accepts l
      by k None ef o e = let same : k ≡ l = cc in record { opens = o ∙ ap answered same; accepted = ef ∙ ap (λ (k : Layout). fault (segment_numbers s k)) same }
      by k (Some n) ef o e = let z : ◌≡◌ {A = ℕ} 0 1 = cc in absurd (omega arith)

      go : (a : Guarded Layout) → open_bundle s ≡ a → with_segments s a ≡ answered l → Accepts l
      go (answered k) o e = by k (fault (segment_numbers s k)) refl o e
      go (refused n) o e = let z : ◌≡◌ {A = ℕ} 0 1 = cc in absurd (omega arith)
