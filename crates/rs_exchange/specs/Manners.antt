-- How the reply to a message is written.
use Rattle.std.specs.Prelude.{ℕ, ◌+◌, Bool, true, false, ◌||◌, ◌==◌}
use Rattle.rs_scope.specs.declared.method.Method.{Method}
use Rattle.rs_scope.specs.declared.method.Method.TheVariants.{Get, Head, Put, Delete}
use Rattle.rs_request.specs.declared.message.RequestMessage.{RequestMessage}
use Rattle.rs_exchange.specs.declared.manner.Manner.{Manner}
use Rattle.rs_exchange.specs.declared.verb.Verb.{Verb}
use Rattle.rs_exchange.specs.declared.verb.Verb.TheVariants.{Data, Options, Post, Other}
use Rattle.rs_exchange.specs.Targets.{is_shared, path_part, verb_of}

abbrev pub is_head_method : Method → Bool
is_head_method Get = false
is_head_method Head = true
is_head_method Put = false
is_head_method Delete = false

-- the method is HEAD
abbrev pub is_head : Verb → Bool
is_head (Data method) = is_head_method method
is_head Options = false
is_head Post = false
is_head Other = false

-- the most replies on one connection to messages that were read
abbrev pub max_replies : ℕ
max_replies = 1000

-- the reply that comes after so many is the last
abbrev pub is_last : ℕ → Bool
is_last count = count + 1 == max_replies

-- how the reply to the message is written, after so many others: it closes where the message asks for that, or where it is the
-- last that is written
abbrev pub manner_of : ℕ → RequestMessage → Manner
manner_of count m = record {
  shared = is_shared (path_part m.target);
  bodiless = is_head (verb_of m.method);
  closing = m.close || is_last count;
}
