pub mod DoneTurns
pub mod HangingUp
pub mod MemoryNetwork
pub mod Program
pub mod ServeRun
pub mod Serving
