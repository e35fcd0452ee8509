-- The keys of each object that was read ascend.
use Rattle.std.proofs.Common.{◌≡◌, ℕ, true, List, Option, Some, None, option_map, option_and_then, codes, refl, ap, ◌∙◌, subst}
use Rattle.std.specs.declared.cmp.Ordering.{Ordering}
use Rattle.std.specs.declared.cmp.Ordering.TheVariants.{Less, Equal, Greater}
use Rattle.std.specs.Ordering.{nat_cmp, is_lt, match_ordering, ordering_reverse}
use Rattle.std.specs.Cmp.Lexicographic.{slice_cmp}
use Rattle.std.proofs.lemmas.Bool.{and_parts, and_from}
use Rattle.std.proofs.lemmas.Cmp.{nat_list_cmp_total}
use Rattle.json.specs.Json as json
use Rattle.json.specs.Lex.{tokens}
use Rattle.serde_json.specs.Data.{Data, null, boolean, number, string, array, object, Items, no_items, item, Members, no_members, member, put}
use Rattle.serde_json.specs.Read.{read, number_of, of_json, of_items, of_members, max_depth}
use Rattle.serde_json.specs.Find.{get, get_member, as_object}
use Rattle.rs_folder.specs.Keys.{is_before, keys_ascend}
use Rattle.rs_folder.proofs.DataLemmas.{is_less}

-- ---- a member more

before_all : (key other : List ℕ) (ms : Members) → slice_cmp nat_cmp key other ≡ Less → is_before other ms ≡ true → is_before key ms ≡ true
before_all key other no_members less h = refl
before_all key other (member k d ms) less h =
    let parts = and_parts (is_lt (slice_cmp nat_cmp other k)) (is_before other ms) h in
    let first = nat_list_cmp_total.trans key other k less (is_less (slice_cmp nat_cmp other k) parts.0) in
    and_from _ _ (ap is_lt first) (before_all key other ms less parts.1)

before_match : (o : Ordering) (key : List ℕ) (a b c : Members) → is_before key a ≡ true → is_before key b ≡ true → is_before key c ≡ true
    → is_before key (match_ordering o a b c) ≡ true
before_match Less key a b c p q r = p
before_match Equal key a b c p q r = q
before_match Greater key a b c p q r = r

before_put : (key k : List ℕ) (d : Data) (ms : Members) → slice_cmp nat_cmp key k ≡ Less → is_before key ms ≡ true → is_before key (put k d ms) ≡ true
before_put key k d no_members less h = and_from _ _ (ap is_lt less) refl
before_put key k d (member l e ms) less h =
    let parts = and_parts (is_lt (slice_cmp nat_cmp key l)) (is_before key ms) h in
    before_match (slice_cmp nat_cmp k l) key (member k d (member l e ms)) (member l d ms) (member l e (put k d ms)) (and_from _ _ (ap is_lt less) h) h
    (and_from _ _ parts.0 (before_put key k d ms less parts.1))

ascend_at : (o : Ordering) (k l : List ℕ) (d e : Data) (ms : Members) → slice_cmp nat_cmp k l ≡ o → keys_ascend (member l e ms) ≡ true → keys_ascend (put k d ms) ≡ true
    → keys_ascend (match_ordering o (member k d (member l e ms)) (member l d ms) (member l e (put k d ms))) ≡ true
ascend_at Less k l d e ms is h later =
    let parts = and_parts (is_before l ms) (keys_ascend ms) h in
    and_from (is_before k (member l e ms)) (keys_ascend (member l e ms)) (and_from _ _ (ap is_lt is) (before_all k l ms is parts.0)) h
ascend_at Equal k l d e ms is h later = h
ascend_at Greater k l d e ms is h later =
    let parts = and_parts (is_before l ms) (keys_ascend ms) h in
    let less : slice_cmp nat_cmp l k ≡ Less = nat_list_cmp_total.antisymm l k ∙ ap ordering_reverse is in
    and_from (is_before l (put k d ms)) (keys_ascend (put k d ms)) (before_put l k d ms less parts.0) later

ascend_put : (k : List ℕ) (d : Data) (ms : Members) → keys_ascend ms ≡ true → keys_ascend (put k d ms) ≡ true
ascend_put k d no_members h = refl
ascend_put k d (member l e ms) h =
    ascend_at (slice_cmp nat_cmp k l) k l d e ms refl h (ascend_put k d ms (and_parts (is_before l ms) (keys_ascend ms) h).1)

-- ---- a whole value

abbrev mutual
  Ordered : Data → Type 0
  Ordered null = Unit {0}
  Ordered (boolean b) = Unit {0}
  Ordered (number n) = Unit {0}
  Ordered (string s) = Unit {0}
  Ordered (array ds) = AreOrdered ds
  Ordered (object ms) = (keys_ascend ms ≡ true) × HaveOrdered ms

  AreOrdered : Items → Type 0
  AreOrdered no_items = Unit {0}
  AreOrdered (item d ds) = Ordered d × AreOrdered ds

  HaveOrdered : Members → Type 0
  HaveOrdered no_members = Unit {0}
  HaveOrdered (member k d ms) = Ordered d × HaveOrdered ms

abbrev InOrder : Members → Type 0
InOrder ms = (keys_ascend ms ≡ true) × HaveOrdered ms

have_match : (o : Ordering) (a b c : Members) → HaveOrdered a → HaveOrdered b → HaveOrdered c → HaveOrdered (match_ordering o a b c)
have_match Less a b c p q r = p
have_match Equal a b c p q r = q
have_match Greater a b c p q r = r

have_put : (k : List ℕ) (d : Data) (ms : Members) → Ordered d → HaveOrdered ms → HaveOrdered (put k d ms)
have_put k d no_members own h = (own, tt)
have_put k d (member l e ms) own h =
    have_match (slice_cmp nat_cmp k l) (member k d (member l e ms)) (member l d ms) (member l e (put k d ms)) (own, h) (own, h.1) (h.0, have_put k d ms own h.1)

abbrev Where : {A : Type 0} → (A → Type 0) → Option A → Type 0
Where P None = Unit {0}
Where P (Some a) = P a

any : {A : Type 0} (o : Option A) → Where (λ _. Unit {0}) o
any None = tt
any (Some a) = tt

where_map : {A B : Type 0} (P : A → Type 0) (Q : B → Type 0) (f : A → B) → ((a : A) → P a → Q (f a)) → (o : Option A) → Where P o → Where Q (option_map f o)
where_map P Q f k None h = tt
where_map P Q f k (Some a) h = k a h

where_then : {A B : Type 0} (P : A → Type 0) (Q : B → Type 0) (f : A → Option B) → ((a : A) → P a → Where Q (f a)) → (o : Option A) → Where P o → Where Q (option_and_then f o)
where_then P Q f k None h = tt
where_then P Q f k (Some a) h = k a h

mutual
  ordered_json : (j : json.Json) → Where Ordered (of_json j)
  ordered_json json.null = tt
  ordered_json (json.boolean b) = tt
  ordered_json (json.number s) = where_map (λ _. Unit {0}) Ordered number (λ n h. tt) (number_of s) (any (number_of s))
  ordered_json (json.string s) = tt
  ordered_json (json.array js) = where_map AreOrdered Ordered array (λ ds h. h) (of_items js) (ordered_items js)
  ordered_json (json.object ms) = where_map InOrder Ordered object (λ ms h. h) (of_members ms no_members) (ordered_members ms no_members (refl, tt))

  ordered_items : (js : json.Items) → Where AreOrdered (of_items js)
  ordered_items json.no_items = tt
  ordered_items (json.item j js) =
      where_then Ordered AreOrdered (λ d. option_map (item d) (of_items js)) (λ d h. where_map AreOrdered AreOrdered (item d) (λ ds k. (h, k)) (of_items js) (ordered_items js)) (of_json j) (ordered_json j)

  ordered_members : (ms : json.Members) (found : Members) → InOrder found → Where InOrder (of_members ms found)
  ordered_members json.no_members found h = h
  ordered_members (json.member k j ms) found h =
      where_then Ordered InOrder (λ d. of_members ms (put k d found))
      (λ d own. ordered_members ms (put k d found) (ascend_put k d found h.0, have_put k d found own h.1)) (of_json j) (ordered_json j)

ordered_read : (bytes : List ℕ) → Where Ordered (read bytes)
ordered_read bytes =
    let parsed = option_and_then (λ p. json.if_last p.0 p.1) (json.value max_depth (tokens bytes)) in
    where_then (λ _. Unit {0}) Ordered of_json (λ j h. ordered_json j) parsed (any parsed)

-- ---- what is found in it

where_match : (o : Ordering) (a b c : Option Data) → Where Ordered a → Where Ordered b → Where Ordered c → Where Ordered (match_ordering o a b c)
where_match Less a b c p q r = p
where_match Equal a b c p q r = q
where_match Greater a b c p q r = r

ordered_member : (k : List ℕ) (ms : Members) → HaveOrdered ms → Where Ordered (get_member k ms)
ordered_member k no_members h = tt
ordered_member k (member l e ms) h =
    let later = ordered_member k ms h.1 in
    where_match (slice_cmp nat_cmp k l) (get_member k ms) (Some e) (get_member k ms) later h.0 later

ordered_get : (k : List ℕ) (d : Data) → Ordered d → Where Ordered (get k d)
ordered_get k null h = tt
ordered_get k (boolean b) h = tt
ordered_get k (number n) h = tt
ordered_get k (string s) h = tt
ordered_get k (array ds) h = tt
ordered_get k (object ms) h = ordered_member k ms h.1

ordered_object : (d : Data) → Ordered d → Where InOrder (as_object d)
ordered_object null h = tt
ordered_object (boolean b) h = tt
ordered_object (number n) h = tt
ordered_object (string s) h = tt
ordered_object (array ds) h = tt
ordered_object (object ms) h = h

pub items_ascend : (bytes : List ℕ) (value : Data) (ms : Members) → read bytes ≡ Some value → option_and_then as_object (get (codes "items") value) ≡ Some ms
    → keys_ascend ms ≡ true
items_ascend bytes value ms is found =
    let whole = subst (Where Ordered) is (ordered_read bytes) in
    let inner = where_then Ordered InOrder as_object ordered_object (get (codes "items") value) (ordered_get (codes "items") value whole) in
    (subst (Where InOrder) found inner).0
