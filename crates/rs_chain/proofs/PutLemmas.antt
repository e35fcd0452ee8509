-- What nodes show after a Put.
use Rattle.std.proofs.Common.{◌≡◌, ◌⊎◌, ℕ, Bool, true, false, not, ◌||◌, cond, List, [], ◌∷◌, ◌++◌, Option, Some, None, is_some, refl, sym, ap, ◌∙◌, subst, inl, inr, ⊎_elim}
use Rattle.std.specs.List.{list_any}
use Rattle.std.specs.Option.{option_map, option_map_or}
use Rattle.std.proofs.lemmas.Bool.{cases_Bool, cond-true, cond-false, true≢false, and_parts, or_right}
use Rattle.slab.specs.Slab.{Slab}
use Rattle.rs_path.specs.Paths.{Path, same_path, is_nil, is_root}
use Rattle.rs_path.specs.Below.{is_below, is_inside}
use Rattle.rs_record.specs.declared.records.Record.TheVariants.{Put}
use Rattle.rs_rules.specs.declared.doc.Doc.{Doc}
use Rattle.rs_rules.specs.declared.placed.Placed.{Placed}
use Rattle.rs_rules.specs.Documents.{docs_after, doc_in, has_below}
use Rattle.rs_rules.specs.Versions.{is_there, doc_version}
use Rattle.rs_rules.specs.Contents.{Contents, contents_after}
use Rattle.rs_rules.proofs.Cited.{same_itself, same_from, is_there-quiet}
use Rattle.rs_chain.specs.declared.node.Node.{Node}
use Rattle.rs_chain.specs.Nodes.{node_doc, node_number, undated, SameButNumbers}
use Rattle.rs_chain.specs.Rings.{is_in}
use Rattle.rs_chain.specs.Walks.{onwards, key_at, AreListed}
use Rattle.rs_chain.specs.Shown.{NodesShow, is_placed}
use Rattle.rs_chain.specs.Writes.{IsPlaced}
use Rattle.rs_chain.proofs.ContentLemmas.{put_found, put_other}
use Rattle.rs_chain.proofs.BelowLemmas.{below_from}
use Rattle.rs_chain.proofs.KeepLemmas.{docs_undated, doc_told}
use Rattle.rs_chain.proofs.FlagLemmas.{number_shown, bare_root, key_flag}
use Rattle.rs_chain.proofs.UpLemmas.{up_from}
use Rattle.rs_chain.proofs.NumberLemmas.{numbered_listed, numbered_key, numbered_here, numbered_above, numbered_other, numbered_doc}

module _ (s t u : Slab Node) (root n : ℕ) (p : Path) (key : ℕ) (kind body : List ℕ) (by : Option (List ℕ)) (w : Contents)
    (document : p.folder ≡ false) (placed : is_placed p ≡ true) (old : AreListed s root) (was : NodesShow s root w)
    (put : IsPlaced s t root p key (record { version = 0; kind = kind; body = body }))
    (numbers : (k : ℕ) → node_number u k ≡ cond (is_in k (key ∷ (up_from t root p key put.listed placed put.reached).up)) n (node_number t k)) (same : SameButNumbers t u) where
  doc : Doc
  doc = record { version = n; kind = kind; body = body }

  key_now : (q : Path) → key_at u root q ≡ key_at t root q
  key_now q = numbered_key t u root n p key put.listed placed put.reached numbers same q

  now : AreListed u root
  now = numbered_listed t u root n p key put.listed placed put.reached numbers same

  -- the path shows the document, under the number
  has_doc : node_doc u key ≡ Some (record { version = n; kind = kind; body = body })
  has_doc =
      let fresh : Doc = record { version = 0; kind = kind; body = body } in
      let Make : ℕ → Doc = λ v. record { version = v; kind = kind; body = body } in
      doc_told u key fresh (docs_undated t u same key ∙ ap (option_map undated) put.has)
      ∙ ap (λ v. Some (Make v)) (numbered_here t u root n p key put.listed placed put.reached numbers same)

  -- a path that isn't the document's nor above it leads where it led
  key_before : (q : Path) → (q ≡ p → ⊥) → is_below q p ≡ false → key_at t root q ≡ key_at s root q
  key_before q other clear = by_key (key_at s root q) (key_at t root q) refl refl
    where
      by_key : (a b : Option ℕ) → key_at s root q ≡ a → key_at t root q ≡ b → b ≡ a
      by_key (Some k) b one two = sym two ∙ put.kept q k one
      by_key None None one two = refl
      by_key None (Some k) one two =
          ⊎_elim
          (λ before. let clash : None ≡ Some k = sym one ∙ before in absurd (cc))
          (λ rest. ⊎_elim (λ it. absurd (other it)) (λ below. absurd (true≢false (sym below.0 ∙ clear))) rest)
          (put.back q k two)

  -- the document at another path
  doc_before : (q : Path) → (q ≡ p → ⊥) → onwards (key_at u root q) (node_doc u) ≡ onwards (key_at s root q) (node_doc s)
  doc_before q other =
      ⊎_elim
      (λ is. ap (λ o. onwards o (node_doc u)) (key_now q) ∙ by_key is (key_at s root q) (key_at t root q) refl refl)
      (λ away. bare_root u root now q away ∙ sym (bare_root s root old q away))
      (cases_Bool (is_placed q))
    where
      by_key : is_placed q ≡ true → (a b : Option ℕ) → key_at s root q ≡ a → key_at t root q ≡ b → onwards b (node_doc u) ≡ onwards a (node_doc s)
      by_key is (Some k) b one two =
          let there : key_at t root q ≡ Some k = put.kept q k one in
          ap (λ o. onwards o (node_doc u)) (sym two ∙ there)
          ∙ numbered_doc t u root n p key put.listed placed put.reached numbers same q k is other there ∙ (put.same q k is other one).0
      by_key is None None one two = refl
      by_key is None (Some k) one two =
          ⊎_elim
          (λ before. let clash : None ≡ Some k = sym one ∙ before in absurd (cc))
          (λ rest.
          ⊎_elim
          (λ it. absurd (other it))
          (λ below. numbered_doc t u root n p key put.listed placed put.reached numbers same q k is other two ∙ below.1)
          rest)
          (put.back q k two)

  number_before : (q : Path) → is_placed q ≡ true → (q ≡ p → ⊥) → is_below q p ≡ false
      → option_map_or (node_number u) (key_at u root q) 0 ≡ option_map_or (node_number s) (key_at s root q) 0
  number_before q is other clear =
      ap (λ o. option_map_or (node_number u) o 0) (key_now q ∙ key_before q other clear) ∙ by_key (key_at s root q) refl
    where
      by_key : (a : Option ℕ) → key_at s root q ≡ a → option_map_or (node_number u) a 0 ≡ option_map_or (node_number s) a 0
      by_key None one = refl
      by_key (Some k) one =
          numbered_other t u root n p key put.listed placed put.reached numbers same q k is other clear (put.kept q k one) ∙ (put.same q k is other one).1

  -- ---- what is shown

  put_documents : (q : Path) → doc_in q (docs_after n (Put p kind body by) w.docs) ≡ onwards (key_at u root q) (node_doc u)
  put_documents q =
      ⊎_elim
      (λ same.
      subst (λ r. doc_in r (docs_after n (Put p kind body by) w.docs) ≡ onwards (key_at u root r) (node_doc u)) (same_from p q same)
      (put_found n p kind body w.docs ∙ sym (ap (λ o. onwards o (node_doc u)) (key_now p ∙ put.reached) ∙ has_doc)))
      (λ apart.
      let other : (p ≡ q → ⊥) = λ same. true≢false (sym (same_itself p) ∙ ap (same_path p) same ∙ apart) in
      put_other n p q kind body w.docs other ∙ was.documents q ∙ sym (doc_before q (λ same. other (sym same))))
      (cases_Bool (same_path p q))

  not_folder : (q : Path) → q.folder ≡ true → q ≡ p → ⊥
  not_folder q folder same = true≢false (sym folder ∙ ap (λ (r : Path). r.folder) same ∙ document)

  put_folders : (q : Path) → q.folder ≡ true → is_there q (docs_after n (Put p kind body by) w.docs) ≡ is_some (key_at u root q)
  put_folders q folder =
      ⊎_elim
      (λ below.
      or_right (is_root q) (has_below q (docs_after n (Put p kind body by) w.docs))
      (below_from q p (docs_after n (Put p kind body by) w.docs) below (ap is_some (put_found n p kind body w.docs)))
      ∙ sym (ap is_some (key_now q ∙ (numbered_above t u root n p key put.listed placed put.reached numbers same q below).1)))
      (λ clear.
      is_there-quiet q n (Put p kind body by) w.docs clear ∙ was.folders q folder
      ∙ sym (ap is_some (key_now q ∙ key_before q (not_folder q folder) clear)))
      (cases_Bool (is_below q p))

  put_versions : (q : Path) → is_placed q ≡ true → (contents_after n (Put p kind body by) w).version q ≡ option_map_or (node_number u) (key_at u root q) 0
  put_versions q is =
      ⊎_elim
      (λ folder.
      cond-true q.folder _ _ folder
      ∙ ⊎_elim
      (λ below.
      let up = numbered_above t u root n p key put.listed placed put.reached numbers same q below in
      cond-true (is_below q p) _ _ below
      ∙ cond-true (is_there q (docs_after n (Put p kind body by) w.docs)) n 0 (put_folders q folder ∙ ap is_some (key_now q ∙ up.1))
      ∙ sym (ap (λ o. option_map_or (node_number u) o 0) (key_now q ∙ up.1) ∙ up.2))
      (λ clear.
      cond-false (is_below q p) _ _ clear ∙ was.versions q is ∙ sym (number_before q is (not_folder q folder) clear))
      (cases_Bool (is_below q p)))
      (λ document.
      cond-false q.folder _ _ document ∙ ap doc_version (put_documents q) ∙ sym (number_shown u root now q document is))
      (cases_Bool q.folder)

  pub put_shows : NodesShow u root (contents_after n (Put p kind body by) w)
  put_shows = record { documents = put_documents; folders = put_folders; versions = put_versions }
