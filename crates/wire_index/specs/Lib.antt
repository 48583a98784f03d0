pub mod Chains
pub mod Linking
