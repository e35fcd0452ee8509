mod FormLemmas
mod CommandLemmas
mod NumberLemmas
mod GrantLemmas
mod PipeLemmas
mod CompletenessLemmas
mod PrintLemmas
