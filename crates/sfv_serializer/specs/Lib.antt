pub mod Texts
pub mod Serializers
pub mod Scripts
pub mod ScriptSteps
