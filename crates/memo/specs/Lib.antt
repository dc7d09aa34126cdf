pub mod Calls
pub mod Memos
pub mod Props
