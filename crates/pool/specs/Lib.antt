pub mod Pool
pub mod Test
