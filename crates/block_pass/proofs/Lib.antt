pub mod Logs
pub mod Chains
pub mod Places
pub mod Passing
