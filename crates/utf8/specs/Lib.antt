pub mod LeadBytes
pub mod Plain
pub mod ScanAt
pub mod Table
pub mod Text
pub mod Utf8Laws
