pub mod Each
pub mod Built
pub mod SoundTables
