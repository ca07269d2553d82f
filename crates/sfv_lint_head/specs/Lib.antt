pub mod Shown
pub mod Heads
pub mod Lines
pub mod Paint
pub mod Excerpts
