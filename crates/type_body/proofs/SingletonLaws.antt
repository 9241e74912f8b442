-- What the tests on singleton records say about their programs.
use Rattle.std.specs.Prelude.{ℕ, ◌+◌, ◌^◌, ◌≤◌, ◌<◌, ◌≡◌, List, length, Some, None}
use Rattle.std.proofs.Common.{arith, ◌∙◌}
use Rattle.std.proofs.Math.Path.{sym, ap}
use borrow.Author.Tests.{le-leb, lt-leb, ne_eqb}
use Rattle.util.specs.LittleEndian.{unsigned_in, signed_in}
use Rattle.util.specs.Pointer.{relative_pointer, relative_address}
use Rattle.runtime.specs.Reads.{done, run}
use Rattle.runtime.specs.Bytes.{bytes_read}
use Rattle.runtime.proofs.CallsLaws.{run_bytes, run_no_bytes}
use Rattle.type_body.specs.Singleton.{initialization, slot_target, targets, singleton_init, singleton_pointer}

-- ---- an offset

module _ (a : ℕ) (h : List ℕ) (o u : ℕ) (e : u ≡ unsigned_in 4 h o) where
  pub zero_target : u ≡ 0 → Some 0 ≡ slot_target a h o
  unfolding slot_target
  zero_target z = rw (← e) (simp z)

  module _ (z : u ≡ 0 → ⊥) where
    pub target_wraps : 2 ^ 64 ≤ a + o → None ≡ slot_target a h o
    unfolding slot_target
    target_wraps w = rw (← e) (simp (ne_eqb u 0 z, le-leb (2 ^ 64) (a + o) w))

    pub target_at : (v : ℕ) → v ≡ relative_pointer (a + o) (signed_in 4 h o) → a + o < 2 ^ 64 → Some v ≡ slot_target a h o
    unfolding slot_target
    target_at v ev w = rw (← e) (simp (ne_eqb u 0 z, lt-leb (2 ^ 64) (a + o) w) (ap Some ev))

    -- the same with another name for the slot's address
    pub target_slot : (v w : ℕ) → w ≡ a + o → v ≡ relative_pointer w (signed_in 4 h o) → a + o < 2 ^ 64 → Some v ≡ slot_target a h o
    target_slot v w q ev l = target_at v (rw q at ev) l

-- ---- the records

module _ (image segments : List ℕ) (a : ℕ) (h : List ℕ) where
  module _ (e : h ≡ bytes_read image segments a 12) where
    pub no_init : length h < 12 → None ≡ run image segments (singleton_init a)
    unfolding singleton_init
    no_init l = sym (run_no_bytes image segments a 12 (targets a) h e l)

    module _ (l : 12 ≤ length h) where
      init : run image segments (singleton_init a) ≡ run image segments (targets a h)
      unfolding singleton_init
      init = run_bytes image segments a 12 (targets a) h e (omega arith) l

      pub no_cache : None ≡ slot_target a h 0 → None ≡ run image segments (singleton_init a)
      unfolding targets run
      no_cache t = rw (init, ← t)

      module _ (c : ℕ) (ec : Some c ≡ slot_target a h 0) where
        pub no_incomplete : None ≡ slot_target a h 4 → None ≡ run image segments (singleton_init a)
        unfolding targets run
        no_incomplete t = rw (init, ← ec, ← t)

        module _ (i : ℕ) (ei : Some i ≡ slot_target a h 4) where
          pub no_completion : None ≡ slot_target a h 8 → None ≡ run image segments (singleton_init a)
          unfolding targets run
          no_completion t = rw (init, ← ec, ← ei, ← t)

          pub init_at : (f : ℕ) → Some f ≡ slot_target a h 8
              → Some (initialization c i f) ≡ run image segments (singleton_init a)
          unfolding targets run
          init_at f ef = rw (init, ← ec, ← ei, ← ef)

  module _ (e : h ≡ bytes_read image segments a 4) where
    pub no_pointer : length h < 4 → None ≡ run image segments (singleton_pointer a)
    unfolding singleton_pointer
    no_pointer l = sym (run_no_bytes image segments a 4 (λ h. done (relative_address a (signed_in 4 h 0))) h e l)

    pub pointer_at_lem : (v : ℕ) → v ≡ relative_address a (signed_in 4 h 0) → 4 ≤ length h → Some v ≡ run image segments (singleton_pointer a)
    unfolding singleton_pointer run
    pointer_at_lem v ev l = ap Some ev ∙ sym (run_bytes image segments a 4 (λ h. done (relative_address a (signed_in 4 h 0))) h e (omega arith) l)
