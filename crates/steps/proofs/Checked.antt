-- docs/SPECIFICATION.md, "Checked lines": the worked examples that are proved, as one table under one theorem.
use Rattle.std.specs.Prelude.{ℕ, suc, ◌-◌, ◌%◌, ◌^◌, ◌≡◌, refl, List, [], ◌∷◌, true, false, pos, negsuc, length, Some, None}
use Rattle.std.proofs.Common.{arith, sym, le-leb}
use Rattle.std.proofs.Math.Seq.{drop-length}
use Rattle.std.proofs.lemmas.Bool.{lt-leb}
use Rattle.utf8.specs.Table.{table}
use Rattle.utf8.specs.Text.{following, goes_on, well_formed, until_nul, text_length}
use Rattle.util.specs.Pointer.{relative_pointer}
use Rattle.segment.specs.Segments.{segments_of, file_offset, decides, in_file}
use Rattle.refusal.specs.Guarded.{fault}
use Rattle.refusal.proofs.GuardedLaws.{wrapped_at}
use Rattle.util.specs.Cstr.{place, text_at}
use Rattle.classtrailers.proofs.Checked as Blocks
use Rattle.type_body.proofs.Checked as Bodies

abbrev partly : List ℕ
partly = 0x1000 ∷ 64 ∷ 0 ∷ 32 ∷ []

pub record Checked : Type 0 where
  pub forward : relative_pointer 0x1008 (pos 20) ≡ 0x101c
  pub around : relative_pointer 0 (negsuc 0) ≡ 2 ^ 64 - 1
  pub last_byte_lem : file_offset (segments_of partly) 0x101f ≡ Some 31
  pub no_byte : file_offset (segments_of partly) 0x1020 ≡ None
  -- `wrapped-at` says it of a segment at any place
  pub wrapping : (rest : List ℕ) → length rest % 4 ≡ 0 → fault ((2 ^ 64 - 16) ∷ (16 ∷ (0 ∷ (16 ∷ rest)))) ≡ Some 9
  pub euro : well_formed (0xe2 ∷ 0x82 ∷ 0xac ∷ []) ≡ true
  pub overlong : well_formed (0xc0 ∷ 0x80 ∷ []) ≡ false
  pub surrogate : well_formed (0xed ∷ 0xa0 ∷ 0x80 ∷ []) ≡ false
  pub too_high : well_formed (0xf4 ∷ 0x90 ∷ 0x80 ∷ 0x80 ∷ []) ≡ false
  pub at_end_lem : (s : List ℕ) → text_at s (length s) ≡ Some (place (length s) 0)
  pub past_end : (s : List ℕ) → text_at s (suc (length s)) ≡ None
  -- generic sizes, and where the tables of a class lie
  pub blocks : Blocks.CheckedBlocks
  -- the class at an address, from its body on
  pub class : Bodies.CheckedClass

pub checked : Checked
unfolding relative_pointer segments_of file_offset decides in_file table following goes_on text_at text_length until_nul
checked =
    record {
      forward = refl;
      around = refl;
      last_byte_lem = refl;
      no_byte = refl;
      wrapping = λ rest h. sym (wrapped_at _ (omega arith) 0 refl (omega arith) (omega arith));
      euro = refl;
      overlong = refl;
      surrogate = refl;
      too_high = refl;
      at_end_lem = λ s. simp (le-leb (length s) (length s) (omega arith)) (rw drop-length);
      past_end = λ s. simp (lt-leb (suc (length s)) (length s) (omega arith));
      blocks = Blocks.checked_blocks;
      class = Bodies.checked_class;
    }
