pub mod Cells
pub mod Lists
pub mod Runs
pub mod Totals
pub mod Windows
pub mod Turns
pub mod Rows
pub mod Defaults
