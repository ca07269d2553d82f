-- What the builders hold after all events of a tree.
pub mod Seeded
pub mod Items
pub mod Members
pub mod Lists
pub mod Dictionaries
