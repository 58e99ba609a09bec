pub mod Calls
pub mod Free
pub mod Places
pub mod Runs
pub mod Stores
pub mod Updates
