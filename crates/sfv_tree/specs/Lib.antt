pub mod Trees
pub mod HashSeeds
pub mod Seeds
pub mod Events
pub mod ItemFaults
pub mod Builders
pub mod ProvidedVisitors
