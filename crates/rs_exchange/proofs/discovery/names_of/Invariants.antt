use Rattle.std.proofs.Common.{◌≡◌, take}
use Rattle.rs_exchange.specs.Accounts.{names_of}
use Rattle.rs_exchange.proofs.discovery.names_of.Given as goal

abbrev pub invariant-loop-account : goal.invariant-loop-account
invariant-loop-account l = l.names ≡ names_of (take l.account-index l.accounts)
