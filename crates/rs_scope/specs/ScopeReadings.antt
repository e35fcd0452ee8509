-- How a text is read as scopes: the scopes, or where it is at fault.
use Rattle.std.specs.Prelude.{◌≡◌, ℕ, ◌+◌, ◌-◌, Bool, true, false, Vec, ◌==◌, nat_lt, List, [], ◌∷◌, ◌++◌, length, take, drop, Option, Some, None, option_map, Result, Ok, Err, if◌then◌else◌}
use Rattle.std.specs.List.{slice_split}
use Rattle.std.specs.Str.{bytes_eq}
use Rattle.rs_path.specs.Paths.{is_nil}
use Rattle.rs_scope.specs.declared.scope.Reach.{Reach}
use Rattle.rs_scope.specs.declared.scope.Reach.TheVariants.{Module, Star}
use Rattle.rs_scope.specs.declared.scope.Scope.{Scope}
use Rattle.rs_scope.specs.declared.scope_fault.ScopeFault.{ScopeFault}
use Rattle.rs_scope.specs.declared.scope_fault.ScopeFault.TheVariants.{Bad, NoMemory}
use Rattle.rs_scope.specs.Modules.{is_module}
use Rattle.rs_scope.specs.Scopes.{access_text}
use Rattle.rs_scope.specs.Limits.{max_scopes}

-- what this text names: all for a star, else a module
abbrev pub reach_reading : List ℕ → Option Reach
reach_reading text = if bytes_eq text (42 ∷ []) then Some Star else if is_module text then Some (Module text) else None

-- a scope of what the text names
abbrev pub scope_over : List ℕ → Bool → Option Scope
scope_over text write = option_map (λ reach. record { reach = reach; write = write }) (reach_reading text)

-- the text ends with these bytes
abbrev pub has_end : List ℕ → List ℕ → Bool
has_end text end = bytes_eq (drop (length text - length end) text) end

-- what stands before so many last bytes
abbrev pub without_end : List ℕ → List ℕ → List ℕ
without_end text end = take (length text - length end) text

-- the scope with this text: `MODULE:r`, `MODULE:rw`, `*:r` or `*:rw`
abbrev pub scope_reading : List ℕ → Option Scope
scope_reading word = if has_end word (access_text true) then scope_over (without_end word (access_text true)) true
    else if has_end word (access_text false) then scope_over (without_end word (access_text false)) false
    else None

-- the scopes and the one that the word spells; an empty word, beside a space, spells none
abbrev pub scopes_with : List Scope → List ℕ → Option (List Scope)
scopes_with scopes word = if is_nil word then Some scopes
    else option_map (λ scope. scopes ++ scope ∷ []) (scope_reading word)

-- what follows a word, or the fault of the word at its place
abbrev pub after_word : Option (List Scope) → ℕ → (List Scope → Result (List Scope) ScopeFault) → Result (List Scope) ScopeFault
after_word None place reading = Err (Bad place)
after_word (Some scopes) place reading = reading scopes

-- at least one scope, else the fault is at the text's first byte
abbrev pub some_scopes : List Scope → Result (List Scope) ScopeFault
some_scopes scopes = if is_nil scopes then Err (Bad 0) else Ok scopes

-- these scopes and those of the words, of which the first begins at the place
abbrev pub words_reading : ℕ → List Scope → List (List ℕ) → Result (List Scope) ScopeFault
words_reading place scopes [] = some_scopes scopes
words_reading place scopes (word ∷ words) = after_word (scopes_with scopes word) place
    (λ more. words_reading (place + length word + 1) more words)

abbrev pub is_space : ℕ → Bool
is_space byte = byte == 32

-- the scopes of a text: items parted by spaces. A text of more than 1,024 bytes is at fault there; otherwise
-- the first item that is none is at fault at its first byte
abbrev pub scopes_reading : List ℕ → Result (List Scope) ScopeFault
scopes_reading text = if nat_lt max_scopes (length text) then Err (Bad max_scopes)
    else words_reading 0 [] (slice_split is_space text)

-- the call read this, or memory ran out
abbrev pub ReadsAsScopes : Result (List Scope) ScopeFault → Result (List Scope) ScopeFault → Type 0
ReadsAsScopes (Ok scopes) wanted = wanted ≡ Ok scopes
ReadsAsScopes (Err (Bad place)) wanted = wanted ≡ Err (Bad place)
ReadsAsScopes (Err NoMemory) wanted = Unit {0}

-- the same of one word at the place
abbrev pub ReadsScope : Result Scope ScopeFault → ℕ → Option Scope → Type 0
ReadsScope (Ok scope) place wanted = wanted ≡ Some scope
ReadsScope (Err (Bad at)) place wanted = (wanted ≡ None) × (at ≡ place)
ReadsScope (Err NoMemory) place wanted = Unit {0}

-- the same of a word at the place that makes scopes of earlier ones
abbrev pub ReadsWord : Result (Unit {0}) ScopeFault → ℕ → List Scope → Option (List Scope) → Type 0
ReadsWord (Ok done) place scopes wanted = wanted ≡ Some scopes
ReadsWord (Err (Bad at)) place scopes wanted = (wanted ≡ None) × (at ≡ place)
ReadsWord (Err NoMemory) place scopes wanted = Unit {0}

-- the words of what follows a space, if one does
abbrev pub rest_words : Option (List ℕ) → List (List ℕ)
rest_words None = []
rest_words (Some rest) = slice_split is_space rest

-- the scopes in a list that a call made
abbrev pub scopes_made : {Z : Type 0} → Result (Vec Scope Z) ScopeFault → Result (List Scope) ScopeFault
scopes_made (Ok scopes) = Ok scopes.items
scopes_made (Err fault) = Err fault
