pub mod Format
pub mod Encode
pub mod Words
