mod ListLemmas
mod DocumentLemmas
mod FrontLemmas
mod CountLemmas
mod ChildLemmas
mod FirstLemmas
mod ItemLemmas
mod WriteLemmas
