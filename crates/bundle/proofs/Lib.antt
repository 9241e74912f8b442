pub mod BundleLaws
pub mod OpenLaws
