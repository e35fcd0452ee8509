-- What a write of one node does to each thing that nodes have.
use Rattle.std.proofs.Common.{◌≡◌, ◌+◌, ℕ, cond, List, [], Option, Some, None, is_some, vec_capacity, arith, refl, sym, ap, ◌∙◌, ⊎_elim}
use Rattle.std.proofs.lemmas.List.Sums.{sum_by-set}
use Rattle.std.specs.Option.{option_map, option_map_or}
use Rattle.std.proofs.lemmas.Bool.{cases_eq}
use Rattle.slab.specs.Slab.{Slab, get, ContainsKey, Updates, with_value, slab_len}
use Rattle.slab.proofs.SlabLemmas.{Updates-with_value, ContainsKey-within}
use Rattle.rs_path.specs.declared.child.Child.{Child}
use Rattle.rs_rules.specs.declared.doc.Doc.{Doc}
use Rattle.rs_chain.specs.declared.node.Node.{Node}
use Rattle.rs_chain.specs.Nodes.{field, node_room, ChangesAt, Stays, SameButLinks, SameButNumbers, ChangesKids, unlinked, undated, unnumbered, but_kids}

module _ (s : Slab Node) (key : ℕ) (old new : Node) (was : get s key ≡ Some old) where
  updates : Updates s (with_value s key new) key (Some new)
  updates = Updates-with_value s key new (ap is_some was)

  -- what any function of the node at each key becomes
  seen : {X : Type 0} (of : Option Node → X) → of (Some old) ≡ of (Some new) → (j : ℕ) → of (get (with_value s key new) j) ≡ of (get s j)
  seen of same j =
      ⊎_elim
      (λ here.
      ap (λ h. of (get (with_value s key new) h)) here ∙ ap of updates.changed ∙ sym same ∙ sym (ap of was) ∙ sym (ap (λ h. of (get s h)) here))
      (λ other. ap of (updates.others j other))
      (cases_eq j key)

  pub field_moves : {X : Type 0} (of : Node → X) (none : X) → ChangesAt (field of none s) (field of none (with_value s key new)) key (of new)
  field_moves of none = record {
    here = ap (λ o. option_map_or of o none) updates.changed;
    others = λ j other. ap (λ o. option_map_or of o none) (updates.others j other);
  }

  pub field_keeps : {X : Type 0} (of : Node → X) (none : X) → of old ≡ of new → Stays (field of none s) (field of none (with_value s key new))
  field_keeps of none same = seen (λ o. option_map_or of o none) same

  pub view_keeps : {Y : Type 0} (of : Node → Y) → of old ≡ of new → (j : ℕ) → option_map of (get (with_value s key new) j) ≡ option_map of (get s j)
  view_keeps of same = seen (option_map of) (ap (λ y. Some y) same)

  -- as many nodes are there
  pub len_keeps : slab_len (with_value s key new) ≡ slab_len s
  len_keeps =
      let set = sum_by-set (λ (o : Option Node). cond (is_some o) 1 0) s.slots key (Some new) None (ContainsKey-within s key (ap is_some was)) in
      let one : ◌≡◌ {A = ℕ} (cond (is_some (get s key)) 1 0) 1 = ap (λ (o : Option Node). cond (is_some o) 1 0) was in
      omega (arith, set, one)

  pub links_keep : unlinked old ≡ unlinked new → SameButLinks s (with_value s key new)
  links_keep same = record { nodes = view_keeps unlinked same; len = len_keeps; capacity = refl }

  pub kids_change : but_kids old ≡ but_kids new → ChangesKids s (with_value s key new) key new.kids.items
  kids_change same = record {
    kids = field_moves (λ (x : Node). x.kids.items) [];
    nodes = view_keeps but_kids same;
    rooms = λ j other. (field_moves (λ (x : Node). vec_capacity x.kids) 0).others j other;
    len = len_keeps;
    capacity = refl;
  }

-- ---- what stays where only places, or places and versions, may change

pub view_live : {Y : Type 0} (of : Node → Y) (o : Option Node) → is_some (option_map of o) ≡ is_some o
view_live of None = refl
view_live of (Some x) = refl

pub view_field : {X Y : Type 0} (view : Node → Y) (of : Node → X) (back : Y → X) (none : X) → ((x : Node) → back (view x) ≡ of x) → (o : Option Node)
    → option_map_or back (option_map view o) none ≡ option_map_or of o none
view_field view of back none same None = refl
view_field view of back none same (Some x) = same x

pub links_live : (s t : Slab Node) → SameButLinks s t → (j : ℕ) → is_some (get t j) ≡ is_some (get s j)
links_live s t same j = sym (view_live unlinked (get t j)) ∙ ap is_some (same.nodes j) ∙ view_live unlinked (get s j)

pub links_field : {X : Type 0} (s t : Slab Node) → SameButLinks s t → (of : Node → X) (none : X) → ((x : Node) → of (unlinked x) ≡ of x) → Stays (field of none s) (field of none t)
links_field s t same of none kept j =
    sym (view_field unlinked of of none kept (get t j)) ∙ ap (λ o. option_map_or of o none) (same.nodes j) ∙ view_field unlinked of of none kept (get s j)

pub links_same : (s t u : Slab Node) → SameButLinks s t → SameButLinks t u → SameButLinks s u
links_same s t u one two = record {
  nodes = λ j. two.nodes j ∙ one.nodes j;
  len = two.len ∙ one.len;
  capacity = two.capacity ∙ one.capacity;
}

pub numbers_live : (s t : Slab Node) → SameButNumbers s t → (j : ℕ) → is_some (get t j) ≡ is_some (get s j)
numbers_live s t same j = sym (view_live unnumbered (get t j)) ∙ ap is_some (same j) ∙ view_live unnumbered (get s j)

pub numbers_field : {X : Type 0} (s t : Slab Node) → SameButNumbers s t → (of : Node → X) (none : X) → ((x : Node) → of (unnumbered x) ≡ of x) → Stays (field of none s) (field of none t)
numbers_field s t same of none kept j =
    sym (view_field unnumbered of of none kept (get t j)) ∙ ap (λ o. option_map_or of o none) (same j) ∙ view_field unnumbered of of none kept (get s j)

pub numbers_same : (s t u : Slab Node) → SameButNumbers s t → SameButNumbers t u → SameButNumbers s u
numbers_same s t u one two j = two j ∙ one j

unversioned : Node → Node
unversioned x = record x { doc = option_map undated x.doc; version = 0 }

twice : (o : Option Node) → option_map unnumbered o ≡ option_map unversioned (option_map unlinked o)
unfolding unversioned
twice None = refl
twice (Some x) = refl

-- who changes places alone changes no more than places and versions
pub links_numbers : (s t : Slab Node) → SameButLinks s t → SameButNumbers s t
links_numbers s t same j =
    twice (get t j) ∙ ap (option_map unversioned) (same.nodes j) ∙ sym (twice (get s j))

-- ---- what stays where only a folder's children change

pub kids_live : (s t : Slab Node) (f : ℕ) (ks : List ℕ) → ChangesKids s t f ks → (j : ℕ) → is_some (get t j) ≡ is_some (get s j)
kids_live s t f ks c j = sym (view_live but_kids (get t j)) ∙ ap is_some (c.nodes j) ∙ view_live but_kids (get s j)

abbrev pub Others : Type 0
Others = Child × Option Doc × ℕ × Option ℕ × Option ℕ × ℕ × ℕ

pub kids_field : {X : Type 0} (s t : Slab Node) (f : ℕ) (ks : List ℕ) → ChangesKids s t f ks → (of : Node → X) (back : Others → X) (none : X) → ((x : Node) → back (but_kids x) ≡ of x)
    → Stays (field of none s) (field of none t)
kids_field s t f ks c of back none same j =
    sym (view_field but_kids of back none same (get t j)) ∙ ap (λ o. option_map_or back o none) (c.nodes j) ∙ view_field but_kids of back none same (get s j)
