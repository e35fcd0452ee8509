-- What a call on a client is refused for: the first cause that applies, in this order.
use Rattle.std.specs.Prelude.{ℕ, Bool, not, ◌==◌, nat_le, Option, Some, None, option_map, if◌then◌else◌}
use Rattle.std.specs.Option.{option_or}
use Rattle.rs_path.specs.Paths.{Path}
use Rattle.rs_talk.specs.Changes.{is_removal}
use Rattle.rs_cache.specs.declared.cache_fault.CacheFault.{CacheFault}
use Rattle.rs_cache.specs.declared.cache_fault.CacheFault.TheVariants.{Connected, Clash, NotThere, OutOfScope, NoConflict, JournalFull}
use Rattle.rs_cache.specs.declared.conflict.Conflict.{Conflict}
use Rattle.rs_cache.specs.declared.resolve.Resolve.{Resolve}
use Rattle.rs_cache.specs.declared.resolve.Resolve.TheVariants.{Keep, Drop}
use Rattle.rs_cache.specs.Limits.{max_journal}
use Rattle.rs_cache.specs.States.{State, record_in, in_scope}
use Rattle.rs_cache.specs.Views.{is_viewed, clash_of}

-- a cause, where the test holds
abbrev pub refused_if : Bool → CacheFault → Option CacheFault
refused_if test fault = if test then Some fault else None

-- there is no room for one more row
abbrev pub full_refusal : State → Option CacheFault
full_refusal s = refused_if (nat_le max_journal s.rows) JournalFull

-- the client is connected already: its journal isn't empty
abbrev pub connect_refusal : State → Option CacheFault
connect_refusal s = option_or (refused_if (not (s.rows == 0)) Connected) (full_refusal s)

abbrev pub scope_refusal : State → Path → Option CacheFault
scope_refusal s path = refused_if (not (in_scope s path)) (OutOfScope path)

abbrev pub clash_refusal : State → Path → Option CacheFault
clash_refusal s path = option_map (λ other. Clash other) (clash_of s path)

abbrev pub edit_refusal : State → Path → Option CacheFault
edit_refusal s path = option_or (scope_refusal s path) (option_or (clash_refusal s path) (full_refusal s))

abbrev pub remove_refusal : State → Path → Option CacheFault
remove_refusal s path = option_or (scope_refusal s path)
    (option_or (refused_if (not (is_viewed s path)) (NotThere path)) (full_refusal s))

-- what stands against keeping a conflict's change: a Put needs a place
abbrev pub keep_refusal : State → Resolve → Conflict → Option CacheFault
keep_refusal s Drop conflict = None
keep_refusal s Keep conflict = if is_removal conflict.local then None else clash_refusal s conflict.path

abbrev pub conflict_refusal : State → ℕ → Resolve → Option Conflict → Option CacheFault
conflict_refusal s n how None = Some (NoConflict n)
conflict_refusal s n how (Some conflict) = option_or (keep_refusal s how conflict) (full_refusal s)

abbrev pub resolve_refusal : State → ℕ → Resolve → Option CacheFault
resolve_refusal s n how = conflict_refusal s n how (record_in n s.records)
