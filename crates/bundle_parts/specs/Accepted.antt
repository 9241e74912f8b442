-- What a bundle is refused for (docs/SPECIFICATION.md, "Refusals"): by the rules of its format, and then for its segments, as a call is.
use Rattle.std.specs.Prelude.{ℕ, List}
use Rattle.refusal.specs.Refusal.{Guarded, answered, refused}
use Rattle.refusal.specs.Guarded.{guarded}
use Rattle.bundle.specs.Open.{open_bundle}
use Rattle.bundle.specs.declared.open.Layout.{Layout}
use Rattle.bundle_parts.specs.Parts.{segment_numbers}

abbrev pub with_segments : List ℕ → Guarded Layout → Guarded Layout
with_segments s (answered l) = guarded (segment_numbers s l) (answered l)
with_segments s (refused n) = refused n

unfoldable pub accept_bundle : List ℕ → Guarded Layout
accept_bundle s = with_segments s (open_bundle s)
