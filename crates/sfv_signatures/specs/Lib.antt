pub mod SignatureBase
pub mod Components
pub mod HttpMessages
pub mod ParseFaults
pub mod SignatureFields
pub mod Parts
pub mod TwoBases
