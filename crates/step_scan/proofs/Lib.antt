pub mod RowLaws
pub mod ScanLaws
