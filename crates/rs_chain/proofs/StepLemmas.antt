-- The way to a child goes by its folder.
use Rattle.std.proofs.Common.{◌≡◌, ◌<◌, ℕ, ◌+◌, Bool, true, false, not, ◌||◌, List, [], ◌∷◌, ◌++◌, length, get_or, take, drop, nat_lt, Option, Some, None, refl, sym, ap, ◌∙◌, ⊎_elim, lt-ltb, le-ltb}
use Rattle.std.proofs.lemmas.Bool.{cases_lt}
use Rattle.std.proofs.lemmas.List.{at_drop_more, at_drop_all, take_more}
use Rattle.slab.specs.Slab.{Slab}
use Rattle.rs_path.specs.declared.child.Child.{Child}
use Rattle.rs_path.specs.Paths.{Path, is_nil}
use Rattle.rs_path.specs.Children.{child_at}
use Rattle.rs_chain.specs.declared.node.Node.{Node}
use Rattle.rs_chain.specs.Walks.{onwards, child_in, way, steps_of, key_at, step_at, front_at}

or_none : (b : Bool) → (b || false) ≡ b
or_none true = refl
or_none false = refl

or_all : (b : Bool) → (b || true) ≡ true
or_all true = refl
or_all false = refl

pub not_nil : {X : Type 0} (xs : List X) (x : X) → is_nil (xs ++ x ∷ []) ≡ false
not_nil [] x = refl
not_nil (y ∷ ys) x = refl

abbrev step : List ℕ → Bool → Child
step name folder = record { name = name; folder = folder }

pub steps_push : (names : List (List ℕ)) (name : List ℕ) (folder : Bool) → steps_of (names ++ name ∷ []) folder ≡ steps_of names true ++ record { name = name; folder = folder } ∷ []
steps_push [] name folder = ap (λ b. step name b ∷ []) (or_none folder)
steps_push (n ∷ ns) name folder =
    ap (λ b. step n b ∷ steps_of (ns ++ name ∷ []) folder) (ap (λ b. folder || not b) (not_nil ns name) ∙ or_all folder)
    ∙ ap (λ rest. step n true ∷ rest) (steps_push ns name folder)

onwards_some : (o : Option ℕ) → onwards o (λ k. Some k) ≡ o
onwards_some None = refl
onwards_some (Some k) = refl

onwards_twice : (o : Option ℕ) (go to : ℕ → Option ℕ) → onwards o (λ k. onwards (go k) to) ≡ onwards (onwards o go) to
onwards_twice None go to = refl
onwards_twice (Some k) go to = refl

onwards_each : (o : Option ℕ) (go to : ℕ → Option ℕ) → ((k : ℕ) → go k ≡ to k) → onwards o go ≡ onwards o to
onwards_each None go to same = refl
onwards_each (Some k) go to same = same k

pub way_push : (go : ℕ → Child → Option ℕ) (f : ℕ) (cs : List Child) (c : Child) → way go f (cs ++ c ∷ []) ≡ onwards (way go f cs) (λ k. go k c)
way_push go f [] c = onwards_some (go f c)
way_push go f (d ∷ ds) c =
    onwards_each (go f d) (λ k. way go k (ds ++ c ∷ [])) (λ k. onwards (way go k ds) (λ j. go j c)) (λ k. way_push go k ds c)
    ∙ onwards_twice (go f d) (λ k. way go k ds) (λ j. go j c)

pub key_child : (s : Slab Node) (root : ℕ) (p : Path) (c : Child) → p.folder ≡ true → key_at s root (child_at p c) ≡ onwards (key_at s root p) (λ f. child_in s f c)
key_child s root p c folder =
    ap (way (child_in s) root) (steps_push p.names c.name c.folder)
    ∙ way_push (child_in s) root (steps_of p.names true) c
    ∙ sym (ap (λ b. onwards (way (child_in s) root (steps_of p.names b)) (λ f. child_in s f c)) folder)

-- ---- the fronts of a path

pub way_next : (s : Slab Node) (at : ℕ) (p : Path) (depth : ℕ) → depth < length p.names
    → way (child_in s) at (steps_of (drop depth p.names) p.folder) ≡ onwards (child_in s at (step_at p depth)) (λ k. way (child_in s) k (steps_of (drop (depth + 1) p.names) p.folder))
way_next s at p depth within = at_drop_more (λ ns. way (child_in s) at (steps_of ns p.folder)) p.names depth [] within

pub front_next : (p : Path) (depth : ℕ) → depth < length p.names → front_at p (depth + 1) ≡ child_at (front_at p depth) (step_at p depth)
front_next p depth within =
    let Record : List (List ℕ) → Path = λ ns. record { names = ns; folder = p.folder || not (is_nil (drop (depth + 1) p.names)) } in
    ap Record (take_more p.names depth [] within)

pub front_folder : (p : Path) (depth : ℕ) → depth < length p.names → (front_at p depth).folder ≡ true
front_folder p depth within = at_drop_more (λ ns. p.folder || not (is_nil ns)) p.names depth [] within ∙ or_all p.folder

pub key_front : (s : Slab Node) (root : ℕ) (p : Path) (depth : ℕ) → depth < length p.names
    → key_at s root (front_at p (depth + 1)) ≡ onwards (key_at s root (front_at p depth)) (λ f. child_in s f (step_at p depth))
key_front s root p depth within =
    ap (key_at s root) (front_next p depth within) ∙ key_child s root (front_at p depth) (step_at p depth) (front_folder p depth within)

-- names are left
pub more_left : (ns : List (List ℕ)) (depth : ℕ) → nat_lt depth (length ns) ≡ not (is_nil (drop depth ns))
more_left ns depth =
    ⊎_elim
    (λ below. lt-ltb depth (length ns) below ∙ sym (at_drop_more (λ l. not (is_nil l)) ns depth [] below))
    (λ past. le-ltb depth (length ns) past ∙ sym (at_drop_all (λ l. not (is_nil l)) ns depth past))
    (cases_lt depth (length ns))
