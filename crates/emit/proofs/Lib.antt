pub mod Stacks
pub mod Fanning
pub mod Nets
pub mod SharedChains
pub mod Writing
pub mod Copying
