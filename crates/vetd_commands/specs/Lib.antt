pub mod Applying
pub mod Making
pub mod Opening
pub mod Viewing
