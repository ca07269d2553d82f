mod Encoded
mod Symbols
mod Groups
mod Accepted
mod Contents
