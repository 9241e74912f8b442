-- Singleton records: docs/SPECIFICATION.md, "Singleton records"; Metadata.h, `TargetSingletonMetadataInitialization` (the
-- initialization cache, the incomplete metadata, the completion function) and `TargetSingletonMetadataPointer`: relative pointers.
use Rattle.std.specs.Prelude.{ℕ, ◌+◌, ◌^◌, List, cond, leb, eqb, Option, Some, None, option_map}
use Rattle.util.specs.LittleEndian.{unsigned_in, signed_in}
use Rattle.util.specs.Pointer.{relative_pointer, relative_address}
use Rattle.runtime.specs.Reads.{Reads, done, nothing, bytes}
use Rattle.type_body.specs.declared.singleton.SingletonMetadataInit.{SingletonMetadataInit}

pub record Initialization : Type 0 where
  pub cache : ℕ
  pub incomplete : ℕ
  pub completion : ℕ

abbrev pub initialization : ℕ → ℕ → ℕ → Initialization
initialization c i f = record { cache = c; incomplete = i; completion = f }

-- what the offset at `o` of a record at `a` refers to: offset 0 to address 0, wherever its slot lies; the slot of any other offset must lie
-- below 2^64
unfoldable pub slot_target : ℕ → List ℕ → ℕ → Option ℕ
slot_target a h o =
    cond (eqb (unsigned_in 4 h o) 0) (Some 0) (cond (leb (2 ^ 64) (a + o)) None (Some (relative_pointer (a + o) (signed_in 4 h o))))

-- what must exist before a program goes on
abbrev pub needing : {A B : Type 0} → Option A → (A → Reads B) → Reads B
needing None f = nothing
needing (Some x) f = f x

-- offsets at 0, 4 and 8
unfoldable pub targets : ℕ → List ℕ → Reads Initialization
targets a h =
    needing (slot_target a h 0)
    (λ c. needing (slot_target a h 4) (λ i. needing (slot_target a h 8) (λ f. done (initialization c i f))))

unfoldable pub singleton_init : ℕ → Reads Initialization
singleton_init a = bytes a 12 (targets a)

-- one offset
unfoldable pub singleton_pointer : ℕ → Reads ℕ
singleton_pointer a = bytes a 4 (λ h. done (relative_address a (signed_in 4 h 0)))

-- ---- what a call's answer says

abbrev pub init_of : Option SingletonMetadataInit → Option Initialization
init_of o = option_map (λ s. initialization s.initialization_cache_va s.incomplete_metadata_va s.completion_function_va) o
