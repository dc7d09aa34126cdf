pub mod Faults
pub mod Functions
pub mod Meaning
pub mod Laws
pub mod Calls
pub mod Majority
pub mod Words
pub mod WordStore
