mod UserLemmas
mod AccountLemmas
mod JrdLemmas
mod QueryLemmas
mod AnswerLemmas
