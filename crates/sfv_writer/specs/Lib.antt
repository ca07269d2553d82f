pub mod Written
pub mod Versions
pub mod SingleMembers
pub mod Pairs
pub mod Quoted
pub mod Base64
