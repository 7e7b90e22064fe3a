-- Numbers with their sign.
pub mod Signs
