pub mod Answers
pub mod Runs
pub use Rattle.sfv_http_fields.specs.Priority
