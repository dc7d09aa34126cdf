pub mod Chains
pub mod Subfunctions
pub mod Rows
pub mod Diagrams
