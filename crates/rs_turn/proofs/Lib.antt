pub mod Cited
mod Tallies
mod Histories
mod Parts
mod Turning
mod Seating
mod Opening
mod Telling
