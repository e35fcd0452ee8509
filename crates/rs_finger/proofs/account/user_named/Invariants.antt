use Rattle.std.proofs.Common.{◌≡◌, drop}
use Rattle.rs_finger.specs.Accounts.{user_named}
use Rattle.rs_finger.proofs.account.user_named.Given as goal

abbrev pub invariant-loop-user : goal.invariant-loop-user
invariant-loop-user l = user_named l.host l.resource (drop l.user-index l.users) ≡ user_named l.host l.resource l.users
