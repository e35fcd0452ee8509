mod RowLemmas
mod CanonLemmas
