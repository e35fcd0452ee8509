-- What one write does to documents, last writes and what they show.
use Rattle.std.proofs.Common.{◌≡◌, ℕ, ◌+◌, ◌^◌, ◌<◌, ◌≤◌, Bool, true, false, not, ◌||◌, cond, List, [], ◌∷◌, ◌++◌, length, Option, arith, refl, sym, ap, ◌∙◌, subst, ⊎_elim, fold, find, Some}
use Rattle.std.specs.Option.{is_some, option_map}
use Rattle.std.proofs.Math.Path.{fun_ext}
use Rattle.std.proofs.lemmas.Bool.{cases_Bool, cond_both, cond-true, cond-false, and_parts, and_from, true≢false}
use Rattle.std.proofs.lemmas.List.Folds.{list_any-append, list_all-append}
use Rattle.std.proofs.lemmas.List.Sums.{sum_by-cons, sum_by_push}
use Rattle.rs_path.specs.Paths.{Path, same_path}
use Rattle.rs_path.specs.Below.{is_below}
use Rattle.rs_record.specs.declared.records.Record.{Record}
use Rattle.rs_record.specs.declared.records.Record.TheVariants.{Put, Remove}
use Rattle.rs_rules.specs.declared.placed.Placed.{Placed}
use Rattle.rs_rules.specs.Documents.{others, placed_document, docs_after, doc_in, live_in}
use Rattle.rs_rules.specs.Versions.{writes_below, is_there}
use Rattle.rs_rules.specs.Contents.{Contents, contents_after, version_after}
use Rattle.rs_rules.proofs.Cited.{same_itself, same_from, not_same, is_there-quiet, any-filter_other, all-filter, distinct-after}
use Rattle.rs_plain.specs.declared.write.Write.{Write}
use Rattle.rs_plain.specs.PlainTrees.{last_write, version_in, contents_in, other_writes, is_written, are_written, ListsStandFor}

-- ---- the last write below a folder

abbrev last_from : Path → ℕ → List Write → ℕ
last_from f a ws = fold (λ last (write : Write). cond (is_below f write.path) write.number last) a ws

last_push : (f : Path) (a : ℕ) (ws : List Write) (x : Write) → last_from f a (ws ++ x ∷ []) ≡ cond (is_below f x.path) x.number (last_from f a ws)
last_push f a [] x = refl
last_push f a (w ∷ ws) x = last_push f (cond (is_below f w.path) w.number a) ws x

-- the write of a path that isn't below doesn't count
last_others : (f p : Path) (a : ℕ) (ws : List Write) → is_below f p ≡ false → last_from f a (other_writes p ws) ≡ last_from f a ws
last_others f p a [] clear = refl
last_others f p a (w ∷ ws) clear =
    ⊎_elim
    (λ same.
    let away : is_below f w.path ≡ false = ap (is_below f) (sym (same_from p w.path same)) ∙ clear in
    ap (last_from f a) (cond-false (not (same_path p w.path)) (w ∷ other_writes p ws) (other_writes p ws) (ap not same))
    ∙ last_others f p a ws clear
    ∙ sym (ap (λ n. last_from f n ws) (cond-false (is_below f w.path) w.number a away)))
    (λ other.
    ap (last_from f a) (cond-true (not (same_path p w.path)) (w ∷ other_writes p ws) (other_writes p ws) (ap not other))
    ∙ last_others f p (cond (is_below f w.path) w.number a) ws clear)
    (cases_Bool (same_path p w.path))

abbrev pub written : Path → ℕ → List Write → List Write
written p n ws = other_writes p ws ++ record { path = p; number = n } ∷ []

last_here : (f p : Path) (n : ℕ) (ws : List Write) → is_below f p ≡ true → last_write f (written p n ws) ≡ n
last_here f p n ws below =
    last_push f 0 (other_writes p ws) (record { path = p; number = n }) ∙ cond-true (is_below f p) n _ below

last_elsewhere : (f p : Path) (n : ℕ) (ws : List Write) → is_below f p ≡ false → last_write f (written p n ws) ≡ last_write f ws
last_elsewhere f p n ws clear =
    last_push f 0 (other_writes p ws) (record { path = p; number = n }) ∙ cond-false (is_below f p) n _ clear ∙ last_others f p 0 ws clear

-- ---- what the lists show after a write of p

module _ (n : ℕ) (r : Record) (p : Path) (docs : List Placed) (ws : List Write) (below : (q : Path) → writes_below q r ≡ is_below q p) where
  folder_after : (q : Path) → q.folder ≡ true
      → version_after n r (docs_after n r docs) q (version_in docs ws q) ≡ version_in (docs_after n r docs) (written p n ws) q
  folder_after q folder =
      cond-true q.folder _ _ folder
      ∙ ⊎_elim
      (λ hit.
      cond-true (writes_below q r) _ _ (below q ∙ hit)
      ∙ ap (λ v. cond (is_there q (docs_after n r docs)) v 0) (sym (last_here q p n ws hit)))
      (λ clear.
      cond-false (writes_below q r) _ _ (below q ∙ clear)
      ∙ cond-true q.folder _ _ folder
      ∙ ap (λ b. cond b (last_write q ws) 0) (sym (is_there-quiet q n r docs (below q ∙ clear)))
      ∙ ap (λ v. cond (is_there q (docs_after n r docs)) v 0) (sym (last_elsewhere q p n ws clear)))
      (cases_Bool (is_below q p))
      ∙ sym (cond-true q.folder _ _ folder)

  document_after : (q : Path) → q.folder ≡ false
      → version_after n r (docs_after n r docs) q (version_in docs ws q) ≡ version_in (docs_after n r docs) (written p n ws) q
  document_after q document = cond-false q.folder _ _ document ∙ sym (cond-false q.folder _ _ document)

  shown_after : contents_after n r (contents_in docs ws) ≡ contents_in (docs_after n r docs) (written p n ws)
  shown_after =
      let make : (Path → ℕ) → Contents = λ v. record { docs = docs_after n r docs; version = v } in
      ap make (fun_ext (λ q. ⊎_elim (folder_after q) (document_after q) (cases_Bool q.folder)))

-- ---- the paths of documents are written

written_itself : (p : Path) (n : ℕ) (ws : List Write) → is_written (written p n ws) p ≡ true
written_itself p n ws =
    list_any-append (λ (w : Write). same_path p w.path) (other_writes p ws) (record { path = p; number = n } ∷ [])
    ∙ ap (λ b. is_written (other_writes p ws) p || (b || false)) (same_itself p) ∙ or_true (is_written (other_writes p ws) p)
  where
    or_true : (b : Bool) → (b || (true || false)) ≡ true
    or_true true = refl
    or_true false = refl

or_more : (a b : Bool) → a ≡ true → (a || b) ≡ true
or_more true b is = refl
or_more false b is = absurd (true≢false (sym is))

written_more : (p q : Path) (n : ℕ) (ws : List Write) → is_written ws q ≡ true → is_written (written p n ws) q ≡ true
written_more p q n ws was =
    ⊎_elim
    (λ same. ap (is_written (written p n ws)) (sym (same_from p q same)) ∙ written_itself p n ws)
    (λ other.
    list_any-append (λ (w : Write). same_path q w.path) (other_writes p ws) (record { path = p; number = n } ∷ [])
    ∙ or_more (is_written (other_writes p ws) q) (same_path q p || false)
    (any-filter_other (λ (w : Write). same_path p w.path) (λ (w : Write). same_path q w.path) ws (λ w here. apart p q w other here) ∙ was))
    (cases_Bool (same_path p q))
  where
    differ : (p q : Path) → same_path p q ≡ false → p ≡ q → true ≡ false
    differ p q other same = sym (same_itself p) ∙ ap (same_path p) same ∙ other

    apart : (p q : Path) (w : Write) → same_path p q ≡ false → same_path p w.path ≡ true → same_path q w.path ≡ false
    apart p q w other here =
        not_same q w.path (λ same. true≢false (differ p q other (same_from p w.path here ∙ sym same)))

all_written : (p : Path) (n : ℕ) (ds : List Placed) (ws : List Write) → are_written ds ws ≡ true → are_written ds (written p n ws) ≡ true
all_written p n [] ws all = refl
all_written p n (d ∷ ds) ws all =
    let parts = and_parts (is_written ws d.path) (are_written ds ws) all in
    and_from _ _ (written_more p d.path n ws parts.0) (all_written p n ds ws parts.1)

others_written : (p : Path) (n : ℕ) (ds : List Placed) (ws : List Write) → are_written ds ws ≡ true → are_written (others p ds) (written p n ws) ≡ true
others_written p n ds ws all =
    all-filter (λ (d : Placed). not (same_path p d.path)) (λ (d : Placed). is_written (written p n ws) d.path) ds (all_written p n ds ws all)

put_written : (p : Path) (n : ℕ) (k b : List ℕ) (ds : List Placed) (ws : List Write) → are_written ds ws ≡ true
    → are_written (others p ds ++ placed_document n p k b ∷ []) (written p n ws) ≡ true
put_written p n k b ds ws all =
    list_all-append (λ (d : Placed). is_written (written p n ws) d.path) (others p ds) (placed_document n p k b ∷ [])
    ∙ and_from _ _ (others_written p n ds ws all) (and_from _ _ (written_itself p n ws) refl)

-- ---- a path that was never written

neither : (a b : Bool) → (a || b) ≡ false → (a ≡ false) × (b ≡ false)
neither true b is = absurd (true≢false is)
neither false b is = (refl, is)

pub unwritten_writes : (p : Path) (ws : List Write) → is_written ws p ≡ false → other_writes p ws ≡ ws
unwritten_writes p [] never = refl
unwritten_writes p (w ∷ ws) never =
    let parts = neither (same_path p w.path) (is_written ws p) never in
    cond-true (not (same_path p w.path)) (w ∷ other_writes p ws) (other_writes p ws) (ap not parts.0)
    ∙ ap (λ rest. w ∷ rest) (unwritten_writes p ws parts.1)

pub unwritten_docs : (p : Path) (ds : List Placed) (ws : List Write) → are_written ds ws ≡ true → is_written ws p ≡ false → others p ds ≡ ds
unwritten_docs p [] ws all never = refl
unwritten_docs p (d ∷ ds) ws all never =
    let parts = and_parts (is_written ws d.path) (are_written ds ws) all in
    ⊎_elim
    (λ same. absurd (true≢false (sym parts.0 ∙ sym (ap (is_written ws) (same_from p d.path same)) ∙ never)))
    (λ other.
    cond-true (not (same_path p d.path)) (d ∷ others p ds) (others p ds) (ap not other)
    ∙ ap (λ rest. d ∷ rest) (unwritten_docs p ds ws parts.1 never))
    (cases_Bool (same_path p d.path))

-- ---- the sum of the lengths of the bodies

pub live-others : (p : Path) (ds : List Placed) → live_in (others p ds) ≤ live_in ds
live-others p [] = omega arith
live-others p (d ∷ ds) =
    let rest : live_in (others p ds) ≤ live_in ds = live-others p ds in
    let all = sum_by-cons (λ (e : Placed). length e.doc.body) d ds in
    let kept = sum_by-cons (λ (e : Placed). length e.doc.body) d (others p ds) in
    cond_both (not (same_path p d.path)) (d ∷ others p ds) (others p ds) (λ l. live_in l ≤ live_in (d ∷ ds))
    (λ other. omega (arith, rest, all, kept)) (λ same. omega (arith, rest, all))

-- ---- what the lists stand for after a write

pub put_stands : (docs : List Placed) (ws : List Write) (w : Contents) (n : ℕ) (p : Path) (k b : List ℕ) (by : Option (List ℕ)) → ListsStandFor docs ws w
    → live_in docs + length b < 2 ^ 64 → ListsStandFor (others p docs ++ placed_document n p k b ∷ []) (written p n ws) (contents_after n (Put p k b by) w)
put_stands docs ws w n p k b by s room =
    let kept = live-others p docs in
    let all = sum_by_push (λ (e : Placed). length e.doc.body) (others p docs) (placed_document n p k b) in
    record {
      same = ap (contents_after n (Put p k b by)) s.same ∙ shown_after n (Put p k b by) p docs ws (λ q. refl);
      distinct = distinct-after n (Put p k b by) docs s.distinct;
      written = put_written p n k b docs ws s.written;
      live = omega (arith, kept, all, room);
    }

pub remove_stands : (docs : List Placed) (ws : List Write) (w : Contents) (n : ℕ) (p : Path) (by : Option (List ℕ)) → ListsStandFor docs ws w
    → ListsStandFor (others p docs) (written p n ws) (contents_after n (Remove p by) w)
remove_stands docs ws w n p by s =
    let kept = live-others p docs in
    let room = s.live in
    record {
      same = ap (contents_after n (Remove p by)) s.same ∙ shown_after n (Remove p by) p docs ws (λ q. refl);
      distinct = distinct-after n (Remove p by) docs s.distinct;
      written = others_written p n docs ws s.written;
      live = omega (arith, kept, room);
    }

-- where a Put has room in some contents that the lists stand for, it has room in the lists
pub put_room : (docs : List Placed) (ws : List Write) (w : Contents) (b : List ℕ) → ListsStandFor docs ws w → live_in w.docs + length b < 2 ^ 64
    → live_in docs + length b < 2 ^ 64
put_room docs ws w b s room = subst (λ (v : Contents). live_in v.docs + length b < 2 ^ 64) s.same room

-- the path of a document was written
pub found_written : (p : Path) (docs : List Placed) (ws : List Write) → is_some (doc_in p docs) ≡ true → are_written docs ws ≡ true
    → is_written ws p ≡ true
found_written p [] ws there all = absurd (cc)
found_written p (d ∷ ds) ws there all =
    let parts = and_parts (is_written ws d.path) (are_written ds ws) all in
    ⊎_elim
    (λ same. ap (is_written ws) (same_from p d.path same) ∙ parts.0)
    (λ other.
    let rest : is_some (doc_in p ds) ≡ true =
    sym (ap (λ o. is_some (option_map (λ (e : Placed). e.doc) o)) (cond-false (same_path p d.path) (Some d) (find (λ (e : Placed). same_path p e.path) ds) other)) ∙ there in
    found_written p ds ws rest parts.1)
    (cases_Bool (same_path p d.path))

pub remove_written : (p : Path) (docs : List Placed) (ws : List Write) (w : Contents) → ListsStandFor docs ws w
    → is_some (doc_in p w.docs) ≡ true → is_written ws p ≡ true
remove_written p docs ws w s there =
    found_written p docs ws (subst (λ (v : Contents). is_some (doc_in p v.docs) ≡ true) s.same there) s.written
