pub mod Numbers
pub mod Wires
pub mod Values
pub mod Words
