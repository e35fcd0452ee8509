mod AskLemmas
mod RedirectLemmas
mod AskBack
mod AddressBack
mod EscapeLemmas
mod PageLemmas
mod PasswordLemmas
