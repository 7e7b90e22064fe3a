-- Laws of fields, headers and endings.
pub mod Notes
pub mod Contents
pub mod Framing
pub mod WholeFiles
pub mod HeaderLaid
pub mod Moved
pub mod Places
pub mod Stores
pub mod Headers
pub mod Endings
