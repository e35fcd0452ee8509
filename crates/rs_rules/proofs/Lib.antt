pub mod Cited
mod FindLemmas
mod Replay
mod DocLemmas
mod StepLaws
mod VersionLaws
mod PointLaws
mod LawfulLaws
mod SettleLaws
mod GrowthLaws
mod TakenLaws
mod SoundLaws
mod ListingLaws
mod RoomLaws
mod ItemLaws
mod LiveLaws
mod ReadingLemmas
