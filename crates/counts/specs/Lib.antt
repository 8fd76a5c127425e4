pub mod Noted
pub mod Chains
