mod MatchLemmas
mod ServeLemmas
mod ValueLemmas
mod SettingLemmas
mod LawLemmas
