pub mod Undamaged
