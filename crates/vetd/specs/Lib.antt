pub mod Deadline
pub mod FileDatabases
