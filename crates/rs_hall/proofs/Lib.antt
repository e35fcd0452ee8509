mod AbreastLemmas
pub mod Cited
mod ClosingLemmas
mod EntranceLemmas
mod RoomLemmas
mod SeatLemmas
mod SplitLemmas
