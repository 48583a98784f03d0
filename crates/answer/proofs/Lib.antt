pub mod Fill
pub mod NodeSizes
