pub mod Cited
mod DecideLemmas
mod DueLemmas
mod GrantingLemmas
mod InputLemmas
mod OutputLemmas
mod SendLemmas
mod ServeLemmas
mod SettleLemmas
