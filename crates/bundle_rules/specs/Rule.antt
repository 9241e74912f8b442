-- Which rule of docs/SPECIFICATION.md, "Bundles", a bundle breaks first, and where: the records in the order of the file, each against the rules in one order.
use Rattle.std.specs.Prelude.{ℕ, zero, suc, ◌+◌, List, Bool, false, cond, ◌&&◌, ◌||◌, length, leb, ltb, eqb, Option, Some, None, Result, Ok, Err}
use Rattle.util.specs.Letters.{letters}
use Rattle.bundle.specs.Bundle.{body_fits}
use Rattle.bundle.specs.Open.{size_at, kind_at, bundle_most}
use Rattle.bundle_rules.specs.declared.rules.Rule.{Rule}
use Rattle.bundle_rules.specs.declared.rules.Broken.{Broken}
use Rattle.bundle_rules.specs.declared.rules.Kept.{Kept}

-- a record that obeys the rules, and one that breaks one
abbrev pub keeps : ℕ → ℕ → Result Kept Rule
keeps kind next = Ok (record { kind = kind; next = next })

abbrev pub breaks : Rule → Result Kept Rule
breaks r = Err r

-- what is reported
abbrev pub broken : Rule → ℕ → Option Broken
broken r at = Some (record { rule = r; at = at })

-- the rule on bodies of a kind
abbrev pub body_rule : ℕ → Rule
body_rule kind = cond (eqb kind 2) Rule.SegmentBody Rule.LedBody

-- a whole record, after one of the kind `last`: its kind is 1 to 5 and above that, and its body is as long as it may be
unfoldable pub check_kind : ℕ → ℕ → ℕ → ℕ → Result Kept Rule
check_kind last kind size next =
    cond (leb 1 kind && leb kind 5)
    (cond (ltb last kind)
    (cond (body_fits kind size) (keeps kind next) (breaks (body_rule kind)))
    (breaks Rule.KindOrder))
    (breaks Rule.KindRange)

-- the record at an offset: the first rule is that it is not cut short
unfoldable pub check_at : List ℕ → ℕ → ℕ → Result Kept Rule
check_at s last at =
    cond (leb (at + 6 + size_at s at) (length s))
    (check_kind last (kind_at s at) (size_at s at) (at + 6 + size_at s at))
    (breaks Rule.CutShort)

-- the walk stops where a record breaks a rule
abbrev pub turn : ℕ → Result Kept Rule → (ℕ → ℕ → Option Broken) → Option Broken
turn at (Err r) more = broken r at
turn at (Ok kept) more = more kept.kind kept.next

-- at the end, one of the records must have been an image, if there were any
abbrev pub at_end : List ℕ → Bool → Option Broken
at_end s image = cond (image || eqb (length s) 0) None (broken Rule.NoImage (length s))

-- from an offset on, in a bounded number of turns; whether there was an image, and the last kind
unfoldable pub walk : ℕ → List ℕ → Bool → ℕ → ℕ → Option Broken
walk zero s image last at = None
walk (suc n) s image last at =
    cond (leb (length s) at) (at_end s image)
    (turn at (check_at s last at) (λ kind next. walk n s (eqb kind 1 || image) kind next))

-- at most five records can obey the rules, so the sixth turn ends; a bundle that is too long is not refused for a rule
unfoldable pub broken_rule : List ℕ → Option Broken
broken_rule s = cond (ltb bundle_most (length s)) None (walk 6 s false 0 0)

-- a rule in words, as the listing program says it
abbrev pub rule_text : Rule → List ℕ
rule_text Rule.CutShort = letters "a record is cut short"
rule_text Rule.KindRange = letters "a kind is not 1 to 5"
rule_text Rule.KindOrder = letters "a kind does not rise"
rule_text Rule.SegmentBody = letters "a segment body is not of whole segments of 32 bytes"
rule_text Rule.LedBody = letters "a section body has no room for its address of 8 bytes"
rule_text Rule.NoImage = letters "there is no image"
