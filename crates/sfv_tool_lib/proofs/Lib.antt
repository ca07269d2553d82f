pub mod Lines
mod Requests
