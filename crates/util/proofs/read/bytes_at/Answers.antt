-- `util::read::bytes_at` meets its contract: the rest from the offset on, and its first bytes.
use Rattle.std.specs.Prelude.{◌≡◌, ◌≢◌, ℕ, List, length, Some, Result, Ok, Err, IsOk, MatchResult}
use Rattle.std.specs.Array.{IsWholeChunk}
use Rattle.std.specs.Result.{result_ok}
use Rattle.std.proofs.Common.{ap, ◌∙◌, arith}
use Rattle.util.proofs.LittleEndianLaws.{none_past, none_short, array_found}
use Rattle.util.proofs.read.bytes_at.Goals as goal

chunk_ok : {E : Type 0} (x : List ℕ) (n : ℕ) (r : Result (List ℕ) E) → length x ≡ n → (length x ≡ n → IsOk r) × MatchResult r (λ y. IsWholeChunk x y n) (λ e. length x ≢ n) → result_ok r ≡ Some x
chunk_ok x n (Ok y) l p = ap Some p.1.same
chunk_ok x n (Err e) l p = absurd (p.1 l)

pub returns-in_err-get : goal.returns-in_err-get
returns-in_err-get g c = c.from_residual.ensures ∙ none_past _ _ _ (omega (arith, c.in_err-get.ensures.lookup))

pub returns-in_err-get-2 : goal.returns-in_err-get-2
returns-in_err-get-2 g c =
    c.from_residual-in_err-get-2.ensures ∙ none_short _ _ _ c.in_ok-get.field-0.now (omega (arith, c.in_ok-get.ensures.lookup)) (omega (arith, c.in_err-get-2.ensures.lookup))

pub returns : goal.returns
returns g c =
    let rest = c.in_ok-get.ensures.lookup in
    let part = c.in_ok-get-2.ensures.lookup in
    c.ok.ensures.value
    ∙ chunk_ok c.in_ok-get-2.field-0.now g.row.N c.try_into.result (omega (arith, part)) c.try_into.ensures
    ∙ array_found _ _ _ c.in_ok-get.field-0.now _ rest.0.2 part.0.2 (omega (arith, rest)) (omega (arith, part))
