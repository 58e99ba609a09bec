pub mod Ledger
pub mod Lines
pub mod Shown
pub mod Table
