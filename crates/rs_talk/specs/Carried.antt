-- The requests that a link carries, and its counts.
use Rattle.std.specs.Prelude.{◌≡◌, ◌⊎◌, ℕ, Bool, true, false, List, [], ◌∷◌, codes, Result, Ok, Err, if◌then◌else◌}
use Rattle.rs_face.specs.Causes.{one_more}
use Rattle.rs_request.specs.declared.message.RequestMessage.{RequestMessage}
use Rattle.rs_request.specs.Writing.{request_text, IsWritable}
use Rattle.rs_talk.specs.declared.ask.Ask.{Ask}
use Rattle.rs_talk.specs.declared.link_fault.LinkFault.{LinkFault}
use Rattle.rs_talk.specs.declared.link_fault.LinkFault.TheVariants.{Lost, TooLong, NoMemory}
use Rattle.rs_talk.specs.AskRequests.{IsAsking}
use Rattle.rs_talk.specs.Asks.{ask_text, close_sent}
use Rattle.rs_talk.specs.Roots.{Root}

-- the bytes are an ask's request
pub record IsAsked (bytes : List ℕ) : Type 0 where
  pub root : Root
  pub token : List ℕ
  pub ask : Ask
  pub asking : IsAsking root token ask
  pub text : bytes ≡ ask_text root token ask

-- a GET of this target at this host, without a token, that asks to close
abbrev pub look_up : List ℕ → List ℕ → RequestMessage
look_up host target = record {
  method = codes "GET";
  target = target;
  minor = 1;
  fields = record { name = codes "Host"; value = host } ∷ close_sent ∷ [];
  body = [];
  close = true;
  place = 0;
}

-- the bytes are such a GET
pub record IsLookUp (bytes : List ℕ) : Type 0 where
  pub host : List ℕ
  pub target : List ℕ
  pub writable : IsWritable (look_up host target)
  pub text : bytes ≡ request_text (look_up host target)

-- what a link carries: one request, which asks to close
abbrev pub IsCarried : List ℕ → Type 0
IsCarried bytes = IsAsked bytes ⊎ IsLookUp bytes

-- the reply was longer than a link takes
abbrev pub is_too_long : Result Unit LinkFault → Bool
is_too_long (Ok done) = false
is_too_long (Err Lost) = false
is_too_long (Err TooLong) = true
is_too_long (Err NoMemory) = false

-- the count of long replies after the call
abbrev pub long_count : Result Unit LinkFault → ℕ → ℕ
long_count result count = if is_too_long result then one_more count else count
