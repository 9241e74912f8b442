pub mod ReadersLaws
