pub mod Feeds
pub mod Ascii
pub mod Rules
pub mod Joined
pub mod FieldValues
pub mod Dispatch
pub mod OneOutcome
pub mod Named
pub mod Lined
pub mod Unambiguous
mod Examples
