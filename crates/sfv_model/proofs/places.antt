-- Where in a field bare items and keys are read.
pub mod Calls
pub mod FaultsOfCalls
pub mod CallsOfReaders
pub mod CalledIsWanted
pub mod WantedIsCalled
pub mod OneWanted
