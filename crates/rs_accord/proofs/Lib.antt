mod AnsweredLemmas
mod AskedLemmas
