-- The address of an account's root: what `url` reads it as, and why it is refused.
use Rattle.std.specs.Prelude.{◌≡◌, ℕ, Bool, true, ◌&&◌, ◌==◌, nat_le, List, [], ◌∷◌, ◌++◌, length, codes, bytes_eq, None, is_none, Result, Ok, Err, if◌then◌else◌}
use Rattle.std.specs.Str.{is_utf8}
use Rattle.std.specs.Ordering.{on, eq_of_both}
use Rattle.std.specs.Cmp.{IsEquivalence}
use Rattle.std.proofs.lemmas.Cmp.{nat_list_eq_equiv, on_equiv, and_equiv}
use Rattle.url.specs.Input.{is_empty}
use Rattle.url.specs.Parts.{Parts, has_authority, serialize, text_between, IsValid}
use Rattle.url.specs.Parser.{Parsed, parse_url}
use Rattle.url.specs.declared.error.ParseError.{ParseError}
use Rattle.url.specs.declared.error.ParseError.TheVariants.{Overflow, OutOfMemory}
use Rattle.url.specs.declared.slicing.Position.TheVariants.{BeforeUsername, AfterPort}
use Rattle.rs_path.specs.Paths.{is_nil}
use Rattle.rs_talk.specs.declared.root_fault.RootFault.{RootFault}
use Rattle.rs_talk.specs.declared.root_fault.RootFault.TheVariants.{Https, BadUrl, NoMemory}
use Rattle.rs_talk.specs.Limits.{max_root}

-- the authority of an `http` address, and its path without the slashes at its end
pub record Root : Type 0 where
  pub authority : List ℕ
  pub path : List ℕ

-- the address, without a slash at its end
abbrev pub root_text : Root → List ℕ
root_text root = codes "http://" ++ (root.authority ++ root.path)

-- the same authority and the same path
abbrev pub same_root : Root → Root → Bool
same_root = eq_of_both (on (λ (root : Root). root.authority) bytes_eq) (on (λ (root : Root). root.path) bytes_eq)

pub same_root_equiv : IsEquivalence same_root
same_root_equiv = and_equiv (on_equiv (λ (r : Root). r.authority) nat_list_eq_equiv) (on_equiv (λ (r : Root). r.path) nat_list_eq_equiv)

-- a byte before a text that has no slashes at its end any more
abbrev pub bared : ℕ → List ℕ → List ℕ
bared byte rest = if is_nil rest && byte == 47 then [] else byte ∷ rest

-- the text without the slashes at its end
abbrev pub without_slashes : List ℕ → List ℕ
without_slashes [] = []
without_slashes (byte ∷ bytes) = bared byte (without_slashes bytes)

-- an `http` address with neither user name, password, query nor fragment, that isn't too long as it is printed
abbrev pub is_root_address : Parts → Bool
is_root_address url = bytes_eq url.scheme (codes "http") && (has_authority url && (is_empty url.username && (is_empty url.password
    && (is_none url.query && (is_none url.fragment && nat_le (length (serialize url)) max_root)))))

-- the root at this address
abbrev pub root_in : Parts → Root
root_in url = record { authority = text_between url BeforeUsername AfterPort; path = without_slashes url.path }

-- the root at what `url` read, or why there is none
abbrev pub root_at : Parts → Result Root RootFault
root_at url = if bytes_eq url.scheme (codes "https") then Err Https
    else if is_root_address url then Ok (root_in url)
    else Err BadUrl

abbrev pub root_of : Parsed Parts → Result Root RootFault
root_of (Ok url) = root_at url
root_of (Err fault) = Err BadUrl

-- what is told where `url` refuses a text, or wants memory
abbrev pub fault_of_url : ParseError → RootFault
fault_of_url OutOfMemory = NoMemory
fault_of_url Overflow = NoMemory
fault_of_url fault = BadUrl

-- the root that a text names
abbrev pub root_reading : List ℕ → Result Root RootFault
root_reading text = if is_utf8 text then root_of (parse_url None text) else Err BadUrl

-- the root is that of some address
pub record IsRoot (root : Root) : Type 0 where
  pub url : Parts
  pub valid : IsValid url
  pub address : is_root_address url ≡ true
  pub same : root ≡ root_in url

-- the call read this, or memory ran out
abbrev pub ReadsAsRoot : Result Root RootFault → Result Root RootFault → Type 0
ReadsAsRoot (Ok root) wanted = wanted ≡ Ok root
ReadsAsRoot (Err Https) wanted = wanted ≡ Err Https
ReadsAsRoot (Err BadUrl) wanted = wanted ≡ Err BadUrl
ReadsAsRoot (Err NoMemory) wanted = Unit {0}
