-- `bundle::open::open_bundle` meets its contract: the five kinds in turn.
use Prim.Native.Nat.{ℕ}
use native.Mathlib.Omega.{arith}
use mathlib.Core.List.{List}
use Rattle.bundle.proofs.OpenLaws.{too_long, taken_within, no_image, left_over, opens}
use borrow.Author.Tests.{ltb-true}
use Rattle.bundle.proofs.open.open_bundle.Goals as goal
use Rattle.bundle.proofs.open.open_bundle.Goals.{else-image-eq0-via-then-image-eq0+else-bytes-gt0, else-image-eq0-via-else-image-eq0}

pub returns-then-bytes-gt-BUNDLE_BYTES : goal.returns-then-bytes-gt-BUNDLE_BYTES
returns-then-bytes-gt-BUNDLE_BYTES c = too_long _ (omega arith)

pub returns-then-bytes-gt0 : goal.returns-then-bytes-gt0
returns-then-bytes-gt0 c =
    no_image _ c.take_record-image.ensures c.take_record-segments.ensures c.take_record-types.ensures c.take_record-fields.ensures c.take_record-strings.ensures c.if-image-eq0.true (ltb-true _ _ c.if-bytes-gt0.true-raw) (omega arith)

pub returns-then-strings-bytes : goal.returns-then-strings-bytes
returns-then-strings-bytes c =
    left_over _ c.take_record-image.ensures c.take_record-segments.ensures c.take_record-types.ensures c.take_record-fields.ensures c.take_record-strings.ensures (omega arith) (omega arith)

pub section_of-requires : goal.section_of-requires
section_of-requires c = taken_within 3 _ _ c.take_record-types.ensures

pub section_of-requires-2 : goal.section_of-requires-2
section_of-requires-2 c = taken_within 4 _ _ c.take_record-fields.ensures

pub section_of-requires-3 : goal.section_of-requires-3
section_of-requires-3 c = taken_within 5 _ _ c.take_record-strings.ensures

pub returns : goal.returns
returns c =
    let s : List ℕ = c.args.bytes.now in
    opens s c.take_record-image.ensures c.take_record-segments.ensures c.take_record-types.ensures c.take_record-fields.ensures c.take_record-strings.ensures
    c.section_of.ensures c.section_of-2.ensures c.section_of-3.ensures
    (λ q. elim c.else-image-eq0.branch [
      | else-image-eq0-via-then-image-eq0+else-bytes-gt0 w ↦ omega arith
      | else-image-eq0-via-else-image-eq0 w ↦ absurd (w.if-image-eq0.false q)
    ]) c.if-strings-bytes.false c.if-bytes-gt-BUNDLE_BYTES.false
