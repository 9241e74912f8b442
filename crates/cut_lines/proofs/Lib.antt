pub mod CutBundles
pub mod CutLinesLaws
pub mod OakLines
