mod AddingLemmas
mod ConnectingLemmas
mod PuttingLemmas
mod ReadingLemmas
mod TextLemmas
