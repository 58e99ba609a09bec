pub mod Laws
pub mod Map
pub mod Number
pub mod Refusals
pub mod Runs
pub mod Store
