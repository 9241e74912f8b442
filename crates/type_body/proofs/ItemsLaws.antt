-- Where the blocks of a body start.
use Rattle.std.specs.Prelude.{ℕ, ◌+◌, ◌^◌, ◌≤◌, ◌<◌, ◌≡◌, ◌⊎◌, Bool, false, Option, Some, None}
use Rattle.std.proofs.Common.{sym, ◌∙◌, ap, inl, inr, le-leb}
use Rattle.std.proofs.lemmas.Bool.{lt-leb}
use Rattle.classtrailers.specs.declared.trailing.Trailing.{Trailing}
use Rattle.type_body.specs.Body.{body_of}
use Rattle.type_body.specs.Items.{Start, start_below, trailers}
use Rattle.type_body.specs.declared.body.StructBody.{StructBody}
use Rattle.type_body.specs.declared.body.EnumBody.{EnumBody}
use Rattle.type_body.specs.declared.body.TypeBody.{TypeBody}

module _ (s : Start) where
  pub start_wraps : 2 ^ 64 ≤ s.start → None ≡ start_below s
  unfolding start_below
  start_wraps w = simp (le-leb (2 ^ 64) s.start w)

  pub start_below_lem : s.start < 2 ^ 64 → Some s ≡ start_below s
  unfolding start_below
  start_below_lem w = simp (lt-leb (2 ^ 64) s.start w)

-- the same with another name for the address
pub start_is : (t : Trailing) (x a : ℕ) → x ≡ a → a < 2 ^ 64 → Some (record { trailing = t; start = x }) ≡ start_below (record { trailing = t; start = a })
start_is t x a e w = rw e (start_below_lem (record { trailing = t; start = a }) w)

-- the same with another name for the extra flags
pub extra_is : (flags x y a : ℕ) (b : Bool) (r : Option Start) → x ≡ y → r ≡ start_below (record { trailing = record { flags = flags; is_class = b; extra = x }; start = a })
    → r ≡ start_below (record { trailing = record { flags = flags; is_class = b; extra = y }; start = a })
extra_is flags x y a b r t e = e ∙ ap (λ (z : ℕ). start_below (record { trailing = record { flags = flags; is_class = b; extra = z }; start = a })) t

pub trailers_of_lem : (a flags : ℕ) (b k : Option TypeBody) (x : Option Start) → b ≡ k → x ≡ trailers a flags (body_of k) → x ≡ trailers a flags (body_of b)
trailers_of_lem a flags b k x t e = e ∙ ap (λ (c : Option TypeBody). trailers a flags (body_of c)) (sym t)

-- the same after a struct and an enum
pub trailers_beside : (a flags : ℕ) (b : Option TypeBody) (k : TypeBody) (x : Option Start) → b ≡ Some k → ((s : StructBody) × (k ≡ TypeBody.Struct s)) ⊎ ((e : EnumBody) × (k ≡ TypeBody.Enum e))
    → x ≡ start_below (record { trailing = record { flags = flags; is_class = false; extra = 0 }; start = a + 28 }) → x ≡ trailers a flags (body_of b)
trailers_beside a flags b k x t (inl e) f = trailers_of_lem a flags b _ x (t ∙ ap Some e.1) f
trailers_beside a flags b k x t (inr e) f = trailers_of_lem a flags b _ x (t ∙ ap Some e.1) f
