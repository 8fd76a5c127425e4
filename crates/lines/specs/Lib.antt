pub mod Left
pub mod Lines
pub mod Printed
