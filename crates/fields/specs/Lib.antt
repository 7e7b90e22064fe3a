-- Fields, headers and endings of a file.
pub mod Fields
pub mod Header
pub mod Places
pub mod Ending
