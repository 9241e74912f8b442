-- What the code writes of a row is the definition's record (`parts-put`), with any true mapping (`row-mapped`). The rows given are those
-- that stepping gives (`listed-stepped`). What the loop over the rows needs, and that a call goes on where another stopped, is in
-- `GivenLaws` of `typedescriptor`.
use Prim.Native.Nat.{ℕ, suc, ◌+◌, ◌-◌, ◌*◌, ◌/◌, ◌≤◌, max}
use Rattle.std.proofs.Math.Decide.{dec_lt}
use native.Mathlib.Omega.{arith}
use Rattle.std.proofs.Common.{mul-suc, sym, ◌∙◌}
use Rattle.std.specs.Prelude.{◌≡◌, Bool, take, drop, Option, Some, None}
use Rattle.std.proofs.Math.Path.{refl, ap}
use mathlib.Core.List.{List, [], ◌∷◌, ◌++◌, map, append_assoc, append-nil}
use Rattle.std.proofs.Math.ListN.{length, length-append}
use Rattle.std.proofs.Math.Seq.{take-nil, drop-length}
use Rattle.util.specs.Buffer.{pasted, at_start}
use Rattle.steps.specs.Blocks.{kind_from}
use Rattle.segment.specs.Mapping.{with_mapping, TrueMapping}
use Rattle.segment.specs.declared.segment.Mapping.{Mapping}
use Rattle.runtime.specs.Reads.{run}
use Rattle.runtime.proofs.CallsLaws.{run_mapped}
use Rattle.classtrailers.specs.Blocks as blocks
use Rattle.classtrailers.specs.declared.block.BlockKind.{BlockKind}
use Rattle.typedescriptor.specs.Row.{TypeRow}
use Rattle.typedescriptor.specs.Slots.{slots, Found}
use Rattle.typedescriptor.specs.Steps.{stepped_rows}
use Rattle.typedescriptor.proofs.SlotsLaws.{stepped_rows_take}
use Rattle.typedescriptor.specs.Given.{given_in}
use Rattle.typedescriptor.proofs.GivenLaws.{row_fits, row_full, Done, records_of}
use Rattle.type_body.specs.Body.{Body, of_class, of_struct, of_enum, fixed, resilient, body, body_of, class_of, sizes_of}
use Rattle.type_body.specs.declared.body.ClassBody.{ClassBody}
use Rattle.type_body.specs.declared.body.ClassSizes.{ClassSizes}
use Rattle.type_body.specs.declared.body.TypeBody.{TypeBody}
use Rattle.type_body.specs.Items.{trailers}
use Rattle.type_body.specs.declared.trailers.Start.{Start}
use Rattle.full_rows.specs.FullRows.{record_row, body_numbers, block_four, kind_fours, block_fours, body_and_blocks, full_row, full_rows_in, given_of, numbers_of}
use Rattle.entry_tables.proofs.PastedLaws.{pasted_then}
use Rattle.full_rows.proofs.BlocksLaws.{block_long}

-- ---- a record

pub body_long : (b : Option Body) → length (body_numbers b) ≡ 8
body_long None = refl
body_long (Some (of_class s (fixed n p) m f v)) = refl
body_long (Some (of_class s (resilient b e) m f v)) = refl
body_long (Some (of_struct f v)) = refl
body_long (Some (of_enum p w e)) = refl

-- a body's numbers in an array of their own
pub body_alone : (b b' : List ℕ) (x : Option Body) → length b ≡ 8 → b' ≡ pasted b 0 (body_numbers x) → b' ≡ body_numbers x
body_alone b b' x h e =
    let all : 0 + length (body_numbers x) ≡ length b = omega (arith, body_long x, h) in
    e ∙ ap (λ (n : ℕ). body_numbers x ++ drop n b) all ∙ ap (λ (q : List ℕ). body_numbers x ++ q) (drop-length b) ∙ append-nil (body_numbers x)

module _ (image segments : List ℕ) where
  kinds_long : (s : Option Start) (ks : List BlockKind) → length (kind_fours image segments s ks) ≡ 4 * length ks
  kinds_long s [] = refl
  kinds_long s (k ∷ ks) =
      length-append (block_four (kind_from image segments k s)) (kind_fours image segments s ks)
      ∙ omega (arith, block_long (kind_from image segments k s), kinds_long s ks, mul-suc 4 (length ks))

  pub blocks_long : (s : Option Start) → length (block_fours image segments s) ≡ 44
  unfolding block_fours
  blocks_long s = kinds_long s (map (λ (r : blocks.BlockRow). r.kind) blocks.block_table)

  pub full_row_long : (slot : ℕ) (r : TypeRow) → length (full_row image segments slot r) ≡ 58
  unfolding full_row
  full_row_long slot r =
      let b : Option Body = run image segments (body r.address r.flags) in
      length-append (record_row slot r) (body_and_blocks image segments r.address r.flags b)
      ∙ omega (arith, length-append (body_numbers b) (block_fours image segments (trailers r.address r.flags b)), body_long b, blocks_long (trailers r.address r.flags b))

  -- the three parts, one after the other
  pub parts_put : (slot : ℕ) (r : TypeRow) (y : Option Body) (b b' b'' b''' p : List ℕ) (at : ℕ) → at + 58 ≤ length b → b' ≡ pasted b at (record_row slot r)
      → y ≡ run image segments (body r.address r.flags) → b'' ≡ pasted b' (at + 6) (body_numbers y)
      → p ≡ block_fours image segments (trailers r.address r.flags y) → b''' ≡ pasted b'' (at + 14) p → b''' ≡ pasted b at (full_row image segments slot r)
  unfolding full_row
  parts_put slot r y b b' b'' b''' p at h e ey e' ep e'' =
      let head : b'' ≡ pasted b at (record_row slot r ++ body_numbers y) = pasted_then b (record_row slot r) (body_numbers y) b' b'' at 6 e refl e' (omega arith) in
      pasted_then b (record_row slot r ++ body_numbers y) p b'' b''' at 14 head (length-append (record_row slot r) (body_numbers y) ∙ ap (λ (k : ℕ). 6 + k) (body_long y)) e'' (omega arith)
      ∙ ap (pasted b at)
      (append_assoc (record_row slot r) (body_numbers y) p ∙ ap (λ (q : List ℕ). record_row slot r ++ (body_numbers y ++ q)) ep
      ∙ ap (λ (x : Option Body). record_row slot r ++ body_and_blocks image segments r.address r.flags x) ey)

-- the case of a body, and of a class's two words
pub body_known : (x y : Option TypeBody) → x ≡ y → body_numbers (body_of y) ≡ body_numbers (body_of x)
body_known x y e = ap (λ (b : Option TypeBody). body_numbers (body_of b)) (sym e)

pub class_known : (class : ClassBody) (s : ClassSizes) → class.sizes ≡ s
    → body_numbers (Some (of_class class.superclass_va (sizes_of s) class.num_immediate_members class.num_fields class.field_offset_vector_offset))
    ≡ body_numbers (Some (class_of class))
class_known class s e = rw e

-- a true mapping changes no record
module _ (image segments : List ℕ) (m : Mapping) (w : TrueMapping segments m) where
  kinds_mapped : (s : Option Start) (ks : List BlockKind) → kind_fours image (with_mapping m segments) s ks ≡ kind_fours image segments s ks
  kinds_mapped s [] = refl
  kinds_mapped None (k ∷ ks) = ap (λ (l : List ℕ). block_four None ++ l) (kinds_mapped None ks)
  kinds_mapped (Some s) (k ∷ ks) = rw (run_mapped image segments m w (blocks.block s.trailing s.start k), kinds_mapped (Some s) ks)

  pub row_mapped : (slot : ℕ) (r : TypeRow) → full_row image (with_mapping m segments) slot r ≡ full_row image segments slot r
  unfolding full_row block_fours
  row_mapped slot r =
      rw (
        run_mapped image segments m w (body r.address r.flags),
        kinds_mapped (trailers r.address r.flags (run image segments (body r.address r.flags))) (map (λ (r : blocks.BlockRow). r.kind) blocks.block_table),
      )

-- ---- row after row

module _ (image segments types : List ℕ) (start : ℕ) where
  -- what the end of the loop says: `n` records are written
  pub records_told : (i₀ i n : ℕ) (e : Bool) (b₀ b : List ℕ) → Done (full_row image segments) image segments types start i₀ b₀ (58 * n) i e b
      → (record { records = n; next = i; all = e } ≡ given_of (full_rows_in image segments types start i₀ (length b₀)))
      × (b ≡ at_start (numbers_of (full_rows_in image segments types start i₀ (length b₀))) b₀)
  records_told i₀ i n e b₀ b d =
      let count : n ≡ length (full_rows_in image segments types start i₀ (length b₀)).written / 58 = omega (arith, d.wrote) in
      (cc (count, d.next, d.whole), d.holds)

  -- the same with another name for the slot to go on from
  pub records_ended : (i₀ i j n : ℕ) (e : Bool) (b₀ b : List ℕ) → Done (full_row image segments) image segments types start i₀ b₀ (58 * n) i e b → j ≡ i
      → (record { records = n; next = j; all = e } ≡ given_of (full_rows_in image segments types start i₀ (length b₀)))
      × (b ≡ at_start (numbers_of (full_rows_in image segments types start i₀ (length b₀))) b₀)
  records_ended i₀ i j n e b₀ b d q = rw q (records_told i₀ i n e b₀ b d)

  -- ---- what the records say

  -- the records of these rows, of 58 numbers each
  abbrev pub full_rows : List Found → List ℕ
  full_rows = records_of (full_row image segments)

  rows_long : (fs : List Found) → length (full_rows fs) ≡ 58 * length fs
  rows_long [] = refl
  rows_long (f ∷ fs) =
      length-append (full_row image segments f.slot f.row) (full_rows fs)
      ∙ omega (arith, full_row_long image segments f.slot f.row, rows_long fs, mul-suc 58 (length fs))

  rows_fit : (past : ℕ) (fs : List Found) (n : ℕ) → (given_in (full_row image segments) past fs n).written ≡ full_rows (take (n / 58) fs)
  unfolding given_in
  rows_fit past [] n = ap full_rows (sym (take-nil (n / 58)))
  rows_fit past (f ∷ fs) n =
      let long : length (full_row image segments f.slot f.row) ≡ 58 = full_row_long image segments f.slot f.row in
      elim (dec_lt n 58) [
        | yes h ↦
            let none_fits : n / 58 ≡ 0 = omega arith in
            rw (row_full (full_row image segments) past f fs n (omega arith), none_fits)
        | no h ↦
            let one_more : n / 58 ≡ suc ((n - 58) / 58) = omega arith in
            rw (row_fits (full_row image segments) past f fs n (omega arith), one_more, long) (ap (λ (l : List ℕ). full_row image segments f.slot f.row ++ l) (rows_fit past fs (n - 58)))
      ]

  -- the rows given are those that stepping gives, in as many steps as there is room for
  pub listed_stepped : (i n : ℕ)
      → ((full_rows_in image segments types start i n).written ≡ full_rows (stepped_rows image segments types start (n / 58) i))
      × ((given_of (full_rows_in image segments types start i n)).records ≡ length (stepped_rows image segments types start (n / 58) i))
  listed_stepped i n =
      let rows : List Found = stepped_rows image segments types start (n / 58) i in
      let given : (full_rows_in image segments types start i n).written ≡ full_rows rows =
      rows_fit (max (slots types) i) _ n ∙ ap full_rows (sym (stepped_rows_take image segments types start (n / 58) i)) in
      (given, omega (arith, ap length given, rows_long rows))
