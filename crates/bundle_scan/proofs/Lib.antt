-- What going over a bundle tells of the definition, of one bundle and of two.
pub mod Bodies
pub mod BothBundles
pub mod Contents
pub mod Scanning
pub mod SecondPass
