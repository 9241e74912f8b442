pub mod DigitsLaws
pub mod LinesLaws
