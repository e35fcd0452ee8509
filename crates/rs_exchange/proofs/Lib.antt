mod AskedLemmas
mod FieldLemmas
mod GrantLemmas
mod PartLemmas
mod ReadBackLemmas
mod RoomLemmas
