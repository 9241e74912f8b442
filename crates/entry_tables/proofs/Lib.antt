pub mod PastedLaws
pub mod TablesLaws
