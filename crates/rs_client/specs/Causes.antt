-- What is told of each cause: one step from a cause to the answer of a command.
use Rattle.rs_row.specs.declared.open_fault.OpenFault.{OpenFault}
use Rattle.rs_row.specs.declared.open_fault.OpenFault.TheVariants as opening
use Rattle.rs_cache.specs.declared.cache_fault.CacheFault.{CacheFault}
use Rattle.rs_cache.specs.declared.cache_fault.CacheFault.TheVariants as cache
use Rattle.rs_client.specs.declared.client_fault.ClientFault.{ClientFault}
use Rattle.rs_client.specs.declared.client_fault.ClientFault.TheVariants as client

-- rows that are not opened
abbrev pub opening_fault : OpenFault → ClientFault
opening_fault (opening.BadRow index place) = client.BadRow index place
opening_fault (opening.Unlawful index) = client.Unlawful index
opening_fault opening.KeeperFailed = client.KeeperFailed
opening_fault opening.NoMemory = client.NoMemory

-- a call on the client that isn't done
abbrev pub client_fault : CacheFault → ClientFault
client_fault cache.Connected = client.Connected
client_fault (cache.Clash path) = client.Clash path
client_fault (cache.NotThere path) = client.NotThere
client_fault (cache.OutOfScope path) = client.OutOfScope
client_fault (cache.NoConflict n) = client.NoConflict n
client_fault cache.JournalFull = client.JournalFull
client_fault cache.KeeperFailed = client.KeeperFailed
client_fault cache.NoMemory = client.NoMemory
