-- What the guard program prints, and three runs of it on the formula of stage 1.
pub mod Said
pub mod Shown
