pub mod Pages
pub mod Memory
