pub mod Chains
pub mod Ports
pub mod Conditions
pub mod Locations
