-- The command `serve` has a text for each of its options.
use Rattle.std.proofs.Common.{◌++◌, ◌&&◌, ◌≡◌, ◌⊎◌, ◌∙◌, ◌<◌, ◌≤◌, ap, ℕ, Bool, true, false, not, List, [], ◌∷◌, zero, suc, length, map, is_some, Option, Some, None, codes, pos, ◌+◌, refl, Err, sym, subst, inl, inr, arith}
use Rattle.std.specs.List.{All, slice_index_or, slice_index}
use Rattle.std.specs.Str.{bytes_eq}
use Rattle.std.proofs.lemmas.List.{length-map}
use Rattle.std.proofs.lemmas.Slice.Eq.{bytes_eq-Decides}
use Rattle.clap.specs.Facts.{args_of, groups_of, WantsDefault, least_values, unwrap_or_range}
use Rattle.clap.specs.Built.{IsPlain, IsPlainArg, IsParsedFrom, IsAuto}
use Rattle.clap.specs.Walk.{Rule, rule_of, is_simple_arg, is_free_arg}
use Rattle.clap.specs.Simple.{App, app_of, shape_of, is_simple}
use Rattle.clap.specs.Words.{is_simple_and_free}
use Rattle.clap.specs.Matches.{matched_of, found_of, first_value, one_text}
use Rattle.clap.specs.Values.{read_as, reading_of}
use Rattle.clap.specs.Texts.{items_of}
use Rattle.clap.specs.declared.builder.range.ValueRange.{ValueRange}
use Rattle.clap.specs.declared.builder.action.ArgAction.TheVariants.{Set}
use Rattle.clap.specs.declared.builder.arg.Arg.{Arg}
use Rattle.clap.specs.declared.builder.command.Command.{Command}
use Rattle.clap.specs.declared.builder.command.Command.TheViews.{out-Command}
use Rattle.clap.specs.declared.builder.value_parser.ValueParser.TheVariants as parser
use Rattle.clap.specs.declared.parser.matches.ArgMatches.{ArgMatches}
use Rattle.clap.proofs.WalkLemmas.{both}
use Rattle.clap.proofs.SimpleLemmas.{is_nil, is_false, plain_fields}
use Rattle.clap.proofs.CallerLemmas.{default_present, required_present, present_has_entry}
use Rattle.clap.proofs.OnLiterals.{clap_on_literals}
use Rattle.clap.specs.Words.{Text, takes, fault_of, IsAmong}
use Rattle.clap.specs.declared.error.kind.ErrorKind.{ErrorKind}
use Rattle.clap.specs.declared.error.kind.ErrorKind.TheVariants as kind
use Rattle.rs_config.specs.declared.words.ServeFault.{ServeFault}
use Rattle.rs_config.specs.declared.words.ServeFault.TheVariants as fault
use Rattle.rs_config.specs.ServeWordings.{serve_app, config_rule, workers_rule, HasServeTexts, serve_fault, RefusesWords, ReadsServe}
use Rattle.rs_config.proofs.MatchLemmas.{id_matched, TakesOwnValue, matched_has_value, matched_reads}

pub serve_is_simple : is_simple serve_app ≡ true
unfolding clap_on_literals
serve_is_simple = refl

pub serve_is_free : is_simple_and_free serve_app ≡ true
unfolding clap_on_literals
serve_is_free = refl

-- ---- what an argument's rule says of it

none_of : {X : Type 0} (o : Option X) → not (is_some o) ≡ true → o ≡ None
none_of None e = refl
none_of (Some x) e = cc

-- an argument that is simple and has no rule on another
record FreeFacts (a : Arg) : Type 0 where
  plain : IsPlainArg a
  ifs : a.default_vals_ifs.items ≡ []
  delimiter : a.val_delim ≡ None

free_facts : (a : Arg) → is_simple_arg a ≡ true → is_free_arg a ≡ true → FreeFacts a
free_facts a simple free =
    let s = both _ _ simple in
    let t = both _ _ s.1 in
    let u = both _ _ t.1 in
    let v = both _ _ u.1 in
    let f = both _ _ free in
    let g = both _ _ f.1 in
    record {
      plain = (is_false _ f.0, is_nil _ g.0, is_nil _ s.0, is_nil _ u.0);
      ifs = is_nil _ t.0;
      delimiter = none_of _ v.0;
    }

len : {X : Type 0} (xs ys : List X) → xs ≡ ys → length xs ≡ length ys
len xs ys e = ap length e

first_byte : (xs ys : List ℕ) → xs ≡ ys → slice_index_or xs 0 0 ≡ slice_index_or ys 0 0
first_byte xs ys e = ap (λ (t : List ℕ). slice_index_or t 0 0) e

some_defaults : {X Y : Type 0} (f : X → Y) (xs : List X) (y : Y) → map f xs ≡ y ∷ [] → 0 < length xs
some_defaults f [] y e =
    absurd (omega (arith, len (map f []) (y ∷ []) e))
some_defaults f (x ∷ xs) y e = omega arith

one_value : (range : Option ValueRange) → range ≡ None → 1 ≤ (unwrap_or_range range).start_inclusive
one_value range none = subst (λ (r : Option ValueRange). 1 ≤ (unwrap_or_range r).start_inclusive) (sym none) (omega arith)

-- ---- the two arguments

two_rules : (xs : List Arg) (r s : Rule) → map rule_of xs ≡ r ∷ s ∷ [] → (a : Arg) × (b : Arg) × (xs ≡ a ∷ b ∷ []) × (rule_of a ≡ r) × (rule_of b ≡ s)
two_rules [] r s e =
    absurd (omega (arith, len (map rule_of []) (r ∷ s ∷ []) e))
two_rules (a ∷ []) r s e =
    absurd (omega (arith, len (map rule_of (a ∷ [])) (r ∷ s ∷ []) e))
two_rules (a ∷ b ∷ []) r s e = (a, b, refl, ap (λ l. slice_index_or l 0 r) e, ap (λ l. slice_index_or l 1 r) e)
two_rules (a ∷ b ∷ c ∷ xs) r s e =
    let bad : length (map rule_of (a ∷ b ∷ c ∷ xs)) ≡ 2 = len (map rule_of (a ∷ b ∷ c ∷ xs)) (r ∷ s ∷ []) e in
    let long : length (map rule_of (a ∷ b ∷ c ∷ xs)) ≡ length (a ∷ b ∷ c ∷ xs) = length-map (a ∷ b ∷ c ∷ xs) rule_of in
    absurd (omega (arith, bad, long))

first_id : (a b e : Arg) → a.id.now ≡ codes "config" → b.id.now ≡ codes "workers" → (j : ℕ) → j < 2
    → bytes_eq (slice_index_or (a ∷ b ∷ []) j e).id.now a.id.now ≡ true → j ≡ 0
first_id a b e named-a named-b zero low same = refl
first_id a b e named-a named-b (suc zero) low same =
    let bad : codes "workers" ≡ codes "config" = sym named-b ∙ ((bytes_eq-Decides _ _).0 same ∙ named-a) in
    absurd (omega (arith, first_byte (codes "workers") (codes "config") bad))
first_id a b e named-a named-b (suc (suc j)) low same = absurd (omega arith)

second_id : (a b e : Arg) → a.id.now ≡ codes "config" → b.id.now ≡ codes "workers" → (j : ℕ) → j < 2
    → bytes_eq (slice_index_or (a ∷ b ∷ []) j e).id.now b.id.now ≡ true → j ≡ 1
second_id a b e named-a named-b zero low same =
    let bad : codes "config" ≡ codes "workers" = sym named-a ∙ ((bytes_eq-Decides _ _).0 same ∙ named-b) in
    absurd (omega (arith, first_byte (codes "config") (codes "workers") bad))
second_id a b e named-a named-b (suc zero) low same = refl
second_id a b e named-a named-b (suc (suc j)) low same = absurd (omega arith)

-- an argument whose name begins with another byte than those that `clap` adds
own_value : (c : Command) (k : ℕ) (d a : Arg) (n : ℕ) → k < length (args_of c) → slice_index_or (args_of c) k d ≡ a → a.action ≡ Some Set
    → a.val_delim ≡ None → a.num_vals ≡ None → slice_index_or a.id.now 0 0 ≡ n → (n ≡ 0 → ⊥) → (n ≡ 104 → ⊥) → (n ≡ 118 → ⊥)
    → ((j : ℕ) (e : Arg) → j < length (args_of c) → bytes_eq (slice_index_or (args_of c) j e).id.now (slice_index_or (args_of c) k d).id.now ≡ true → j ≡ k)
    → TakesOwnValue c k d
own_value c k d a n lt at set delimiter range byte some help version unique =
    let first : (t : List ℕ) → (slice_index_or (args_of c) k d).id.now ≡ t → slice_index_or t 0 0 ≡ n =
    λ t e. ap (λ (u : List ℕ). slice_index_or u 0 0) (sym e ∙ ap (λ (x : Arg). x.id.now) at) ∙ byte in
    record {
      within = lt;
      set = ap (λ (x : Arg). x.action) at ∙ set;
      delimiter = ap (λ (x : Arg). x.val_delim) at ∙ delimiter;
      least = one_value _ (ap (λ (x : Arg). x.num_vals) at ∙ range);
      unique = unique;
      named = λ e. some (sym (first [] e));
      own = λ auto. elim auto [ inl h ↦ help (sym (first (codes "help") h)) | inr h ↦ version (sym (first (codes "version") h)) ];
    }

-- ---- the command

all_two : (P : Arg → Type 0) (a b : Arg) → P a → P b → All P (a ∷ b ∷ [])
all_two P a b pa pb zero d lt = pa
all_two P a b pa pb (suc zero) d lt = pb
all_two P a b pa pb (suc (suc k)) d lt = absurd (omega arith)

pub serve_texts : (c : Command) (m : ArgMatches) → app_of c ≡ serve_app → IsParsedFrom c m → HasServeTexts (found_of m)
serve_texts c m same p =
    let fields = plain_fields c (ap (λ (x : App). x.top.is_plain) same) in
    let negates : (out-Command c).subcommand_negates_reqs ≡ false = ap (λ (x : App). x.top.subcommand_negates_reqs) same in
    let two = two_rules (args_of c) config_rule workers_rule (ap (λ (x : App). x.top.rules) same) in
    let a = two.0 in
    let b = two.1 in
    let list : args_of c ≡ a ∷ b ∷ [] = two.2 in
    let a-is : rule_of a ≡ config_rule = two.3 in
    let b-is : rule_of b ≡ workers_rule = two.4 in
    let a-free = free_facts a (ap (λ (r : Rule). r.is_simple) a-is) (ap (λ (r : Rule). r.is_free) a-is) in
    let b-free = free_facts b (ap (λ (r : Rule). r.is_simple) b-is) (ap (λ (r : Rule). r.is_free) b-is) in
    let plain : IsPlain c = (subst (All IsPlainArg) (sym list) (all_two IsPlainArg a b a-free.plain b-free.plain), fields.groups) in
    let a-named : a.id.now ≡ codes "config" = ap (λ (r : Rule). r.id) a-is in
    let b-named : b.id.now ≡ codes "workers" = ap (λ (r : Rule). r.id) b-is in
    let a-at : slice_index_or (args_of c) 0 a ≡ a = ap (λ l. slice_index_or l 0 a) list in
    let b-at : slice_index_or (args_of c) 1 b ≡ b = ap (λ l. slice_index_or l 1 b) list in
    let a-in : 0 < length (args_of c) = subst (λ l. 0 < length l) (sym list) (omega arith) in
    let b-in : 1 < length (args_of c) = subst (λ l. 1 < length l) (sym list) (omega arith) in
    let a-own = own_value c 0 a a 99 a-in a-at (ap (λ (r : Rule). r.action) a-is) a-free.delimiter (ap (λ (r : Rule). r.range) a-is)
    (ap (λ (t : List ℕ). slice_index_or t 0 0) a-named) (λ e. absurd (omega arith)) (λ e. absurd (omega arith)) (λ e. absurd (omega arith))
    (λ j e low eq. first_id a b e a-named b-named j (subst (λ l. j < length l) list low)
    (subst (λ l. bytes_eq (slice_index_or l j e).id.now (slice_index_or l 0 a).id.now ≡ true) list eq)) in
    let b-own = own_value c 1 b b 119 b-in b-at (ap (λ (r : Rule). r.action) b-is) b-free.delimiter (ap (λ (r : Rule). r.range) b-is)
    (ap (λ (t : List ℕ). slice_index_or t 0 0) b-named) (λ e. absurd (omega arith)) (λ e. absurd (omega arith)) (λ e. absurd (omega arith))
    (λ j e low eq. second_id a b e a-named b-named j (subst (λ l. j < length l) list low)
    (subst (λ l. bytes_eq (slice_index_or l j e).id.now (slice_index_or l 1 b).id.now ≡ true) list eq)) in
    let required : (slice_index_or (args_of c) 0 a).required ≡ true = ap (λ (x : Arg). x.required) a-at ∙ ap (λ (r : Rule). r.required) a-is in
    let wants : WantsDefault (slice_index_or (args_of c) 1 b) =
    subst WantsDefault (sym b-at) (b-free.ifs, some_defaults (λ s. s.now) (items_of b.default_vals) (codes "8") (ap (λ (r : Rule). r.defaults) b-is)) in
    let a-entry = present_has_entry (found_of m) _ (required_present c m p plain fields.globals negates 0 a a-in required) in
    let b-entry = id_matched (found_of m) _ (default_present c m p fields.globals 1 b b-in wants) in
    let by : (slice_index_or (args_of c) 1 b).value_parser ≡ Some (parser.Signed (pos 1) (pos 64)) =
    ap (λ (x : Arg). x.value_parser) b-at ∙ ap (λ (r : Rule). r.parser) b-is in
    let read = matched_reads c m p plain fields.globals 1 b b-own (parser.Signed (pos 1) (pos 64)) by b-entry in
    record {
      config = subst (λ t. is_some (first_value (found_of m) t) ≡ true) (ap (λ (x : Arg). x.id.now) a-at ∙ a-named)
          (matched_has_value c m p plain fields.globals 0 a a-own a-entry);
      text = read.0;
      workers = subst (λ t. one_text (found_of m) t ≡ Some (read_as (reading_of (parser.Signed (pos 1) (pos 64))) read.0)) (ap (λ (x : Arg). x.id.now) b-at ∙ b-named) read.1;
      number = read.2;
    }

-- ---- refused words

not_true : (b : Bool) → (b ≡ true → ⊥) → b ≡ false
not_true true h = absurd (h refl)
not_true false h = refl

pub words_refused : (words : List Text) (k : ErrorKind) → (takes serve_app words ≡ true → k ≡ kind.OutOfMemory)
    → (k ≡ kind.OutOfMemory) ⊎ IsAmong k (fault_of serve_app words) → ReadsServe words (Err (serve_fault k))
words_refused words k passes kinds = go (serve_fault k) refl
  where
    refuses : (f : ServeFault) → serve_fault k ≡ f → (f ≡ fault.NoMemory → ⊥) → RefusesWords words f
    refuses f is other =
        let ample : k ≡ kind.OutOfMemory → ⊥ = λ memory. other (sym is ∙ ap serve_fault memory) in (
          not_true (takes serve_app words) (λ taken. ample (passes taken)),
          (k, elim kinds [ inl memory ↦ absurd (ample memory) | inr among ↦ among ], is),
        )

    go : (f : ServeFault) → serve_fault k ≡ f → ReadsServe words (Err f)
    go fault.NoMemory is = tt
    go fault.Words is = refuses fault.Words is (λ e. cc)
    go fault.Help is = refuses fault.Help is (λ e. cc)
