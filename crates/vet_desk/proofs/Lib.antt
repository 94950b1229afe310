pub mod Demanded
pub mod DeskLaws
pub mod Prepared
pub mod Restored
pub mod Reviews
pub mod Soundness
pub mod Told
