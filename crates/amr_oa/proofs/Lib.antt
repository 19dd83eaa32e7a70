pub mod Accepting
pub mod Canonical
pub mod Pieces
pub mod Returning
pub mod Rules
