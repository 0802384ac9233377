pub mod Items
pub mod Rules
pub mod Once
