mod Adding
mod Agreeing
mod Binding
mod Faults
pub mod Fronts
mod Naming
mod Numbering
mod Ones
mod Pushes
mod Putting
mod Recursions
mod Repairing
mod Rules
mod Starts
mod Working
