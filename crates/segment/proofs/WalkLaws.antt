-- What a search over the segments finds: the answer of the first that gives one.
use Rattle.std.specs.Prelude.{ℕ, zero, suc, ◌+◌, ◌<◌, ◌≤◌, ◌≡◌, List, [], ◌∷◌, map, length, get_or, Option, Some, None, IfSome, IsSomeAnd, MatchOption, IsTrue}
use Rattle.std.specs.Option.{option_map, option_flatten}
use Rattle.std.specs.Iterator.Runs.{Run, ItemsMapTo, AllItemsGive, IsFirstToGive, CallKeepsClosure}
use Rattle.std.specs.Fn.{Called}
use Rattle.std.proofs.Common.{arith, refl, ap, ◌∙◌, subst}
use denote.Param.Members.{Mut}
use Rattle.segment.specs.Segments.{Segment, file_offset, decides}

-- the first answer of `h` over a list, if one of its items has one
abbrev pub FirstAnswer : {B C : Type 0} → (B → Option C) → List B → B → Option C → Type 0
FirstAnswer h xs d None = (k : ℕ) → k < length xs → None ≡ h (get_or xs k d)
FirstAnswer h xs d (Some y) = (i : ℕ) × (i < length xs) × (Some y ≡ h (get_or xs i d)) × ((k : ℕ) → k < i → None ≡ h (get_or xs k d))

-- it is what `find_map` finds
module _ {S A B C F : Type 0} {steps : S → Option A → S → Type 0} (v : A → B) (h : B → Option C) (xs : List B) (d : B) (g : Mut F (A × Unit {0}) (Option C)) (f : F)
    (says : (x : A) (r : Option C) (q : F) → Called g f (x, tt) r q → (q ≡ f) × (r ≡ h (v x)))
    (p : Run steps) (maps : ItemsMapTo p v xs) where
  keeps : CallKeepsClosure g f
  keeps a r q c = (says a.0 r q c).0

  at : (k : ℕ) → k < p.len → (x : A) × (p.at k ≡ Some x) × (v x ≡ get_or xs k d)
  at k l = go (p.at k) refl (maps.2 k d l)
    where
      go : (o : Option A) → p.at k ≡ o → option_map v o ≡ Some (get_or xs k d) → (x : A) × (p.at k ≡ Some x) × (v x ≡ get_or xs k d)
      go (Some x) e m = let is : v x ≡ get_or xs k d = cc in (x, e, is)
      go None e m = let z : ◌≡◌ {A = ℕ} 0 1 = cc in absurd (omega arith)

  -- what the closure answered at a place
  given : (k : ℕ) (r : Option C) → k < p.len → ((x : A) → p.at k ≡ Some x → Called g f (x, tt) r f) → r ≡ h (get_or xs k d)
  given k r l c =
      let a = at k l in
      (says a.0 r f (c a.0 a.1)).1 ∙ ap h a.2

  pub first_answer : (r : Option C) → MatchOption r (IsTrue p.whole × AllItemsGive p g f None) (λ y. (i : ℕ) × (i < p.len) × (p.len ≡ i + 1) × IsFirstToGive p g f (Some y) None i) → FirstAnswer h xs d r
  first_answer None w =
      λ k l.
      let n : p.len ≡ length xs = maps.1 w.0 in
      given k None (omega arith) (λ x e. subst (λ o. IfSome o (λ x. Called g f (x, tt) None f)) e (w.1 keeps k))
  first_answer (Some y) w =
      let some = w.3 keeps in
      let n : p.len ≤ length xs = maps.0 in
      (w.0, omega (arith, w.1), given w.0 (Some y) w.1 (λ x e. subst (λ o. IsSomeAnd o (λ x. Called g f (x, tt) (Some y) f)) e some.0), λ k l. given k None (omega (arith, w.1)) (λ x e. subst (λ o. IsSomeAnd o (λ x. Called g f (x, tt) None f)) e (some.1 k l)))

-- and what the segments say
pub first_offset : {C : Type 0} (seg : C → Segment) (d : C) (v : ℕ) (cs : List C) (r : Option (Option ℕ)) → FirstAnswer (λ c. decides (seg c) v) cs d r → option_flatten r ≡ file_offset (map seg cs) v
unfolding file_offset
first_offset seg d v [] None w = refl
first_offset seg d v [] (Some y) w = absurd (omega (arith, w.1))
first_offset seg d v (c ∷ cs) None w = rw (← w 0 (omega arith)) (first_offset seg d v cs None (λ k l. w (suc k) (omega arith)))
first_offset seg d v (c ∷ cs) (Some y) (zero, l, e, below) = rw (← e) refl
first_offset seg d v (c ∷ cs) (Some y) (suc i, l, e, below) = rw (← below 0 (omega arith)) (first_offset seg d v cs (Some y) (i, omega arith, e, λ k m. below (suc k) (omega arith)))
