pub mod CheckedTexts
pub mod KeyText
pub mod TokenText
pub mod StringText
pub mod InvalidTexts
pub mod Hashes
pub mod BareItems
pub mod Kinds
