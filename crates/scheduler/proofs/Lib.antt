-- Laws of the scheduler, and that it is fair.
pub mod Looking
pub mod Changing
pub mod Fair
pub mod Table
