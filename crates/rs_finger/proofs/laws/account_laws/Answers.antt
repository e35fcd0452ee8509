use Rattle.rs_finger.proofs.AccountLemmas.{host_named-uri, uri_of-host_named}
use Rattle.rs_finger.proofs.laws.account_laws.Goals as goal

pub returns : goal.returns
returns c = record { named = host_named-uri; only = uri_of-host_named }
