mod RootLemmas
mod ReadBackLemmas
mod AskLemmas
mod PlaceLemmas
mod AnswerLemmas
