pub mod AcceptedLaws
pub mod LayoutLaws
pub mod PartsLaws
