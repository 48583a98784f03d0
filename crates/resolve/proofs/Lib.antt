pub mod GateValues
pub mod Trials
