pub mod Queues
pub mod Rising
pub mod Joining
pub mod Turning
pub mod Running
