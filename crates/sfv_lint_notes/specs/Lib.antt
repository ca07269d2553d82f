pub mod Rules
pub mod Notes
