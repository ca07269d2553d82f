pub mod Digests
pub mod Needs
mod PriorityTexts
mod PriorityExamples
mod LastProxies
mod ReadBack
mod Joined
mod Heads
mod Faults
mod Rows
mod BrandLists
