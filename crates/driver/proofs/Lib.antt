pub mod Tabling
pub mod Widths
pub mod Holdings
pub mod Settling
pub mod Asking
pub mod Telling
pub mod Working
pub mod Sheets
