-- What the check program prints, and what is shown of it.
pub mod Said
pub mod Shown
