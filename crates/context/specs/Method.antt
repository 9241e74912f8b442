-- Method descriptors (docs/SPECIFICATION.md, "Kinds and flags"): MetadataValues.h, `MethodDescriptorFlags`.
use Rattle.std.specs.Prelude.{ℕ, List, [], ◌∷◌}
use Rattle.context.specs.Enumeration.{numbered, value_of}
use Rattle.context.specs.declared.method.SwiftMethodKind.{SwiftMethodKind}
use Rattle.context.specs.declared.method.SwiftMethodKind.TheVariants.{Method, Init, Getter, Setter, ModifyCoroutine, ReadCoroutine, Other}

-- `MethodDescriptorFlags::Kind`
abbrev pub method_kinds : List (ℕ × SwiftMethodKind)
method_kinds = numbered 0 (Method ∷ Init ∷ Getter ∷ Setter ∷ ModifyCoroutine ∷ ReadCoroutine ∷ [])

unfoldable pub method_of : ℕ → SwiftMethodKind
method_of n = value_of method_kinds (Other n) n
