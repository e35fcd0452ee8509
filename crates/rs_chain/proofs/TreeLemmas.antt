-- The tree after a Put and after a Remove.
use Rattle.std.proofs.Common.{◌≡◌, ◌⊎◌, ◌<◌, ◌≤◌, ℕ, ◌+◌, ◌-◌, Bool, true, false, not, ◌||◌, ◌&&◌, cond, List, [], ◌∷◌, ◌++◌, length, Option, Some, None, is_some, nat_le, arith, refl, sym, ap, ◌∙◌, subst, ⊎_elim, length-append}
use Rattle.std.specs.List.{list_all}
use Rattle.std.proofs.lemmas.Bool.{and_parts, cond-false, true≢false}
use Rattle.std.proofs.lemmas.Bool.Decides.{nat_tests}
use Rattle.std.proofs.lemmas.List.Sums.{sum_by_push}
use Rattle.slab.specs.Slab.{Slab}
use Rattle.rs_path.specs.declared.child.Child.{Child}
use Rattle.rs_path.specs.Limits.{max_names}
use Rattle.rs_path.specs.Names.{is_name}
use Rattle.rs_path.specs.Paths.{Path, is_nil, is_path, same_path}
use Rattle.rs_path.specs.Below.{is_below, is_inside}
use Rattle.rs_path.specs.Children.{child_at}
use Rattle.rs_record.specs.declared.records.Record.{Record}
use Rattle.rs_record.specs.declared.records.Record.TheVariants.{Put, Remove}
use Rattle.rs_rules.specs.declared.doc.Doc.{Doc}
use Rattle.rs_rules.specs.declared.placed.Placed.{Placed}
use Rattle.rs_rules.specs.Documents.{others, placed_document, docs_after, doc_in, live_in}
use Rattle.rs_rules.specs.Versions.{writes_below, is_there, doc_version}
use Rattle.rs_rules.specs.Contents.{Contents, contents_after}
use Rattle.rs_rules.specs.Sound.{AreDistinct}
use Rattle.rs_rules.proofs.Cited.{distinct-after}
use Rattle.rs_chain.specs.declared.node.Node.{Node}
use Rattle.rs_chain.specs.Nodes.{node_child, node_doc, node_parent, body_length}
use Rattle.rs_chain.specs.Climbs.{AreLinked, Climbs, Climbed, lifted}
use Rattle.rs_chain.specs.Walks.{onwards, key_at, AreListed}
use Rattle.rs_chain.specs.Shown.{is_placed, NodesShow, NodesStandFor}
use Rattle.rs_chain.specs.Rooms.{undated_doc}
use Rattle.rs_chain.specs.Writes.{IsPlaced, IsPruned}
use Rattle.rs_chain.proofs.ContentLemmas.{others_plain, put_plain}
use Rattle.rs_chain.proofs.TowardsLemmas.{inside_split, inside_join}
use Rattle.rs_chain.proofs.ShownLemmas.{path_placed}
use Rattle.rs_chain.proofs.FlagLemmas.{key_flag}
use Rattle.rs_chain.proofs.UpLemmas.{up_from}
use Rattle.rs_chain.proofs.NumberLemmas.{numbered_listed}
use Rattle.rs_chain.proofs.PutLemmas.{put_shows}
use Rattle.rs_chain.proofs.RemoveLemmas.{remove_shows}

pub placed_of : (p : Path) → is_nil p.names ≡ false → is_placed p ≡ true
placed_of p named = ap (λ b. p.folder || not b) named ∙ or_all p.folder
  where
    or_all : (b : Bool) → (b || true) ≡ true
    or_all true = refl
    or_all false = refl

-- a folder above a path has fewer names
pub fewer_above : (f p : Path) → is_below f p ≡ true → length f.names < length p.names
fewer_above f p below =
    let split = inside_split f.names p.names (and_parts f.folder (is_inside f.names p.names) below).1 in
    let long : length p.names ≡ length (f.names ++ split.0 ∷ split.1) = ap length split.2 in
    let joined = length-append f.names (split.0 ∷ split.1) in
    omega (arith, long, joined)

pub path_few : (p : Path) → is_path p ≡ true → length p.names ≤ 32
path_few p is =
    let one = and_parts (list_all is_name p.names && nat_le (length p.names) max_names) (p.folder || not (is_nil p.names)) is in
    let few = (and_parts (list_all is_name p.names) (nat_le (length p.names) max_names) one.0).1 in
    grind (arith, nat_tests, few)

pub folder_placed : (f p : Path) → is_below f p ≡ true → is_placed f ≡ true
folder_placed f p below = ap (λ b. b || not (is_nil f.names)) (and_parts f.folder (is_inside f.names p.names) below).0

child_below : (f : Path) (c : Child) → is_below f (child_at f c) ≡ f.folder
child_below f c = ap (λ b. f.folder && b) (inside_join f.names c.name []) ∙ and_true f.folder
  where
    and_true : (b : Bool) → (b && true) ≡ b
    and_true true = refl
    and_true false = refl

-- ---- the sum of the lengths of the bodies

abbrev pub AbsentLaw : Type 0
AbsentLaw = (path : Path) (documents : List Placed) → doc_in path documents ≡ None → live_in (others path documents) ≡ live_in documents

abbrev pub PresentLaw : Type 0
PresentLaw = (path : Path) (documents : List Placed) (doc : Doc) → AreDistinct documents → doc_in path documents ≡ Some doc → live_in (others path documents) + length doc.body ≡ live_in documents

-- without the document at a path
pub live_without : AbsentLaw → PresentLaw → (p : Path) (ds : List Placed) → AreDistinct ds → live_in (others p ds) + body_length (doc_in p ds) ≡ live_in ds
live_without absent present p ds distinct = by (doc_in p ds) refl
  where
    by : (o : Option Doc) → doc_in p ds ≡ o → live_in (others p ds) + body_length o ≡ live_in ds
    by None is = let none = absent p ds is in omega (arith, none)
    by (Some d) is = present p ds d distinct is

live_put : (live now before left all size : ℕ) → now ≡ live - before + size → left + before ≡ live → all ≡ left + size → now ≡ all
live_put live now before left all size sum rest whole = omega (arith, sum, rest, whole)

live_removed : (live now before left : ℕ) → now ≡ live - before → left + before ≡ live → now ≡ left
live_removed live now before left less rest = omega (arith, less, rest)

-- ---- the version of a document's path

dated_after : (n : ℕ) (what : Record) (w : Contents) (q : Path) → q.folder ≡ false
    → (contents_after n what w).version q ≡ doc_version (doc_in q (contents_after n what w).docs)
dated_after n what w q document =
    let now = docs_after n what w.docs in
    cond-false q.folder (cond (writes_below q what) (cond (is_there q now) n 0) (w.version q)) (doc_version (doc_in q now)) document

-- ---- Put

module _ (s t u : Slab Node) (root n after : ℕ) (p : Path) (key : ℕ) (kind body : List ℕ) (w : Contents) (document : p.folder ≡ false) (named : is_nil p.names ≡ false)
    (listed : AreListed s root) (put : IsPlaced s t root p key (undated_doc kind body)) (order : ℕ → List ℕ)
    (climbed : Climbed t u order key (up_from t root p key put.listed (placed_of p named) put.reached).up n 0 after) where
  pub put_listed : AreListed u root
  put_listed = numbered_listed t u root n p key put.listed (placed_of p named) put.reached climbed.numbers climbed.same

  pub put_stands : (by : Option (List ℕ)) (live now before : ℕ) → NodesStandFor s root live w → AbsentLaw → PresentLaw
      → before ≡ body_length (onwards (key_at s root p) (node_doc s)) → now ≡ live - before + length body
      → NodesStandFor u root now (contents_after n (Put p kind body by) w)
  put_stands by live now before stands absent present was sum =
      let whole : live_in (others p w.docs ++ placed_document n p kind body ∷ []) ≡ live_in (others p w.docs) + length body =
      sum_by_push (λ (e : Placed). length e.doc.body) (others p w.docs) (placed_document n p kind body) in
      let before_is : body_length (doc_in p w.docs) ≡ before = ap body_length (stands.shows.documents p) ∙ sym was in
      let rest : live_in (others p w.docs) + before ≡ live =
      ap (λ b. live_in (others p w.docs) + b) (sym before_is) ∙ live_without absent present p w.docs stands.distinct ∙ sym stands.live_is in
      record {
        order = lifted key (up_from t root p key put.listed (placed_of p named) put.reached).up order;
        linked = climbed.linked;
        shows = put_shows s t u root n p key kind body by w document (placed_of p named) listed stands.shows put climbed.numbers climbed.same;
        distinct = distinct-after n (Put p kind body by) w.docs stands.distinct;
        plain = put_plain n p kind body w.docs document stands.plain;
        dated = dated_after n (Put p kind body by) w;
        live_is = live_put live now before (live_in (others p w.docs)) _ (length body) sum rest whole;
      }

-- ---- Remove

module _ (s t u : Slab Node) (root n after : ℕ) (p front : Path) (key : ℕ) (w : Contents) (document : p.folder ≡ false)
    (listed : AreListed s root) (cut : IsPruned s t root p front key) (order : ℕ → List ℕ)
    (climbed : Climbed t u order key (up_from t root front key cut.listed (folder_placed front p cut.below) cut.reached).up n 0 after) where
  pub removed_listed : AreListed u root
  removed_listed = numbered_listed t u root n front key cut.listed (folder_placed front p cut.below) cut.reached climbed.numbers climbed.same

  pub removed_stands : (by : Option (List ℕ)) (live now before : ℕ) → NodesStandFor s root live w → AbsentLaw → PresentLaw
      → ((f g : Path) → is_below f p ≡ true → is_below g p ≡ true → (same_path f g || is_below f g || is_below g f) ≡ true)
      → before ≡ body_length (onwards (key_at s root p) (node_doc s)) → now ≡ live - before
      → NodesStandFor u root now (contents_after n (Remove p by) w)
  removed_stands by live now before stands absent present one_above was less =
      let before_is : body_length (doc_in p w.docs) ≡ before = ap body_length (stands.shows.documents p) ∙ sym was in
      let rest : live_in (others p w.docs) + before ≡ live =
      ap (λ b. live_in (others p w.docs) + b) (sym before_is) ∙ live_without absent present p w.docs stands.distinct ∙ sym stands.live_is in
      record {
        order = lifted key (up_from t root front key cut.listed (folder_placed front p cut.below) cut.reached).up order;
        linked = climbed.linked;
        shows = remove_shows s t u root n p front key by w document listed stands.shows cut one_above (child_below front) (folder_placed front p cut.below) climbed.numbers climbed.same;
        distinct = distinct-after n (Remove p by) w.docs stands.distinct;
        plain = others_plain p w.docs stands.plain;
        dated = dated_after n (Remove p by) w;
        live_is = live_removed live now before (live_in (others p w.docs)) less rest;
      }

-- a path with a document is one of a document
pub document_path : (s : Slab Node) (root key live : ℕ) (p : Path) (w : Contents) → AreListed s root → NodesStandFor s root live w → is_path p ≡ true → key_at s root p ≡ Some key → is_some (doc_in p w.docs) ≡ true → p.folder ≡ false
document_path s root key live p w listed stands is there some =
    let flag = key_flag s root listed p key (path_placed p is) there in
    let has : is_some (node_doc s key) ≡ true = sym (ap is_some (stands.shows.documents p ∙ ap (λ o. onwards o (node_doc s)) there)) ∙ some in
    by p.folder (sym flag.1) (sym (listed.contents key flag.0) ∙ has)
  where
    by : (b : Bool) → b ≡ (node_child s key).folder → not (node_child s key).folder ≡ true → b ≡ false
    by true folder flat = absurd (true≢false (sym flat ∙ ap not (sym folder)))
    by false folder flat = refl
