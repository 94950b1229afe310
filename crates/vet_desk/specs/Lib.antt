pub mod Desk
pub mod DeskLaws
pub mod DeskVerdict
pub mod DeskView
pub mod Encodings
pub mod Review
pub mod SoundDesk
