-- Laws of what a turn finds.
pub mod SeatFound
